-- Laws of part and box_of: byte k of a part that starts at byte i is byte i + k of the whole, so
-- byte i of box p is byte 10 * p + i of the table, and past the table there is no box. part_byte;
-- box_byte, box_kind; no_box. Assumes nothing.
use Prim.Native.Nat.{ℕ, ◌+◌, ◌*◌, ◌≤◌, ◌<◌}
use mathlib.Core.Path.{◌≡◌, ap, ◌∙◌}
use mathlib.Core.List.{List, []}
use native.Mathlib.Nat.{add-zero}
use native.Mathlib.Omega.{arith}
use lib.ListN.{length, take, drop, drop_of_length-le}
use lib.Seq.{get_or-take, get_or-drop}
use Rattle.boxes.specs.Bytes.{at, part, box_of}

pub part_byte : (bytes : List ℕ) (i size k : ℕ) → k < size → at (part bytes i size) k ≡ at bytes (i + k)
part_byte bytes i size k l = get_or-take size (drop i bytes) k 0 l ∙ get_or-drop i bytes k 0

pub box_byte : (t : List ℕ) (p i : ℕ) → i < 10 → at (box_of t p) i ≡ at t (10 * p + i)
box_byte t p i l = part_byte t (10 * p) 10 i l

pub box_kind : (t : List ℕ) (p : ℕ) → at (box_of t p) 0 ≡ at t (10 * p)
box_kind t p = box_byte t p 0 (omega arith) ∙ ap (at t) (add-zero (10 * p))

pub no_box : (t : List ℕ) (p : ℕ) → length t ≤ 10 * p → box_of t p ≡ []
no_box t p h = ap (take 10) (drop_of_length-le t h)
