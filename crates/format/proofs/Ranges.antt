-- The numbers of a header that is in range. Assumes nothing.
use Prim.Native.Nat.{◌≤◌, ◌<◌}
use mathlib.Core.Path.{◌≡◌}
use mathlib.Core.List.{[], ◌∷◌}
use mathlib.Core.Bool.{true}
use lib.Dec.{ltb, leb}
use borrow.Author.Tests.{ltb-true, leb-true}
use Rattle.boxes.proofs.Bools.{every}
use Rattle.format.specs.File.{in_range}
use Rattle.format.specs.declared.Header.{Header}

pub record InRange (h : Header) : Type 0 where
  pub few : h.inputs ≤ 16
  pub some : 1 ≤ h.boxes
  pub fits : h.boxes ≤ 204
  pub start : h.first < h.boxes

pub in_range_lem : (h : Header) → in_range h ≡ true → InRange h
in_range_lem h e =
    let r = every (leb h.inputs 16) (leb 1 h.boxes ∷ leb h.boxes 204 ∷ ltb h.first h.boxes ∷ []) e in
    record {
      few = leb-true h.inputs 16 r.0;
      some = leb-true 1 h.boxes r.1.0;
      fits = leb-true h.boxes 204 r.1.1.0;
      start = ltb-true h.first h.boxes r.1.1.1.0;
    }
