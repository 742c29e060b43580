-- A box that show a box returns: it stands within the file, and which part it is. shown_within,
-- shows_box. Assumes nothing.
use Rattle.std.specs.Prelude.{Ok}
use Prim.Native.Nat.{ℕ, ◌+◌, ◌≤◌, ◌<◌}
use mathlib.Core.Path.{◌≡◌}
use mathlib.Core.List.{List}
use native.Mathlib.Omega.{arith}
use lib.ListN.{length}
use borrow.Author.Tests.{lt-ltb}
use Rattle.format.specs.File.{place_start, check_file}
use Rattle.format.specs.declared.Header.{Header}
use Rattle.format.proofs.Passes.{passes}
use Rattle.chart.specs.ShowBox.{shown_by, show_box}

module _ (f : List ℕ) (p : ℕ) (h : Header) (e : check_file f ≡ Ok h) where
  pub shown_within : p < h.boxes → place_start p + 10 ≤ length f
  shown_within l = let a = passes f h e in omega (arith, a.long, a.fits)

  pub shows_box : p < h.boxes → show_box f p ≡ record { start = place_start p; size = 10 }
  unfolding shown_by
  shows_box l = rw (e, lt-ltb p h.boxes l)
