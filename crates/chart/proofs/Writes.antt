-- What put file leaves of a buffer that has room for the file: put_fits. Assumes nothing.
use Prim.Native.Nat.{ℕ, ◌≤◌}
use mathlib.Core.Path.{◌≡◌}
use mathlib.Core.List.{List}
use mathlib.Core.Bool.{true}
use lib.ListN.{length}
use borrow.Author.Tests.{le-leb}
use Rattle.format.specs.File.{in_range}
use Rattle.format.specs.declared.Header.{Header}
use Rattle.chart.specs.WriteBack.{file_length, with_file, takes_file, put_file}

takes_file_lem : (h : Header) (room : ℕ) → in_range h ≡ true → file_length h ≤ room → takes_file h room ≡ true
takes_file_lem h room e l = rw (e, le-leb (file_length h) room l)

pub put_fits : (h : Header) (table buffer : List ℕ) → in_range h ≡ true → file_length h ≤ length buffer → put_file h table buffer ≡ with_file h table buffer
unfolding put_file
put_fits h table buffer e l = rw (takes_file_lem h (length buffer) e l)
