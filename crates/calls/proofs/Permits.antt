-- What an accepted begin, advance, write back and rewriting say of their arguments: each of their
-- rules has been kept. Assumes nothing.
use Prim.Native.Nat.{ℕ, ◌/◌, ◌^◌, ◌≤◌}
use mathlib.Core.Path.{◌≡◌, refl}
use mathlib.Core.List.{List}
use mathlib.Core.Bool.{Bool, true, false, not}
use native.Mathlib.Omega.{arith}
use lib.Dec.{eqb, ltb}
use lib.ListN.{length}
use borrow.Author.Tests.{leb-true, ltb-false, eqb-true, not-false}
use Rattle.block.specs.declared.Refusal.{Refusal}
use Rattle.format.specs.File.{in_range}
use Rattle.format.specs.declared.Header.{Header}
use Rattle.chart.specs.WriteBack.{file_length, has_room}
use Rattle.calls.specs.Calls.{begin, advance, write_back, rewrite, refuse_if, check}
use Rattle.calls.specs.declared.Standing.{Standing}
use Rattle.std.specs.Prelude.{Ok, Err, Result, ⊤}

pub not_done {ℓ} : {A : Type ℓ} {x : Refusal} → ◌≡◌ {A = Result ⊤ Refusal} (Err x) (Ok tt) → A
not_done e = let z : ◌≡◌ {A = ℕ} 0 1 = cc in absurd (omega arith)

-- A rule on the way to an accepted call.
pub passed : (broken : Bool) {otherwise : Result ⊤ Refusal} (number : ℕ) → refuse_if broken number otherwise ≡ Ok tt → (broken ≡ false) × (otherwise ≡ Ok tt)
passed true number e = not_done e
passed false number e = (refl, e)

-- A begin that keeps every rule.
pub record Permitted (h : Header) (mode : ℕ) (inputs : List ℕ) (allowed limit : ℕ) : Type 0 where
  pub held : in_range h ≡ true
  pub known : mode ≤ 2
  pub lent : length inputs ≡ h.inputs
  pub below : allowed / 2 ^ h.inputs ≡ 0
  pub fits : limit ≤ 65535

module _ (mode : ℕ) (inputs : List ℕ) (allowed limit : ℕ) (s : Standing) (e : check (begin mode inputs allowed limit) s ≡ Ok tt) where
  pub permitted : Permitted s.header mode inputs allowed limit
  unfolding check
  permitted =
      let one = passed (not (in_range s.header)) 21 e in
      let two = passed s.running 22 one.1 in
      let three = passed (ltb 2 mode) 7 two.1 in
      let four = passed (not (eqb (length inputs) s.header.inputs)) 9 three.1 in
      let five = passed (not (eqb (allowed / 2 ^ s.header.inputs) 0)) 8 four.1 in
      let six = passed (ltb 65535 limit) 10 five.1 in
      record {
        held = not-false _ one.0;
        known = ltb-false 2 mode three.0;
        lent = eqb-true _ _ (not-false _ four.0);
        below = eqb-true _ _ (not-false _ five.0);
        fits = ltb-false 65535 limit six.0;
      }

-- An accepted advance is of a run under way, by the least amount or more.
pub advance_enough : (m : ℕ) (s : Standing) → check (advance m) s ≡ Ok tt → (s.running ≡ true) × (s.least ≤ m)
unfolding check
advance_enough m s e =
    let one = passed (not s.running) 23 e in
    let two = passed (ltb m s.least) 13 one.1 in
    (not-false _ one.0, ltb-false m s.least two.0)

-- An accepted write back has a chart and room for its file.
pub write_back_fits : (buffer : List ℕ) (s : Standing) → check (write_back buffer) s ≡ Ok tt
    → (in_range s.header ≡ true) × (file_length s.header ≤ length buffer)
unfolding check
write_back_fits buffer s e =
    let one = passed (not (in_range s.header)) 21 e in
    let two = passed (not (has_room s.header (length buffer))) 12 one.1 in
    (not-false _ one.0, leb-true _ _ (not-false _ two.0))

-- An accepted rewriting is of a chart of edition 2, and of no run under way.
pub rewrites_second : (s : Standing) → check rewrite s ≡ Ok tt → (in_range s.header ≡ true) × (s.running ≡ false) × (s.header.edition ≡ 2)
unfolding check
rewrites_second s e =
    let one = passed (not (in_range s.header)) 21 e in
    let two = passed s.running 22 one.1 in
    let three = passed (not (eqb s.header.edition 2)) 15 two.1 in
    (not-false _ one.0, two.0, eqb-true _ _ (not-false _ three.0))
