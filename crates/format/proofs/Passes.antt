-- What it says of a file that its checks pass: one record of facts, which load, show a box, the
-- round trip and the converter cite. And that no refusal has a number above 6. Assumes nothing.
use Rattle.std.specs.Prelude.{Ok, Err, Result}
use Prim.Native.Nat.{ℕ, ◌*◌, ◌-◌, ◌≤◌, ◌<◌}
use mathlib.Core.Path.{◌≡◌, refl, ap}
use mathlib.Core.List.{List, [], ◌∷◌}
use mathlib.Core.Bool.{Bool, true, false, not}
use native.Mathlib.Omega.{arith}
use lib.Dec.{eqb, ltb}
use lib.ListN.{length}
use borrow.Author.Tests.{eqb-true, not-false}
use Rattle.boxes.specs.Bytes.{at, part, all_zero}
use Rattle.block.specs.Refusing.{refusal}
use Rattle.block.specs.declared.Refusal.{Refusal}
use Rattle.format.specs.Search.{first_failing}
use Rattle.format.specs.File.{blocks_of, blocks_for, header_of, is_edition, in_range, length_rule, check_rule, letters_rule, header_rule, place_rule, refuse_if, check_file}
use Rattle.format.specs.declared.Header.{Header}
use Rattle.boxes.proofs.Bools.{and_left, and_right, every}
use Rattle.format.proofs.Search.{all_hold}
use Rattle.format.proofs.Places.{blocks_of_lem}
use Rattle.format.proofs.Ranges.{in_range_lem}

-- What check 3 says of the letters.
pub record Letters (f : List ℕ) : Type 0 where
  pub f0 : at f 0 ≡ 70
  pub f1 : at f 1 ≡ 76
  pub f2 : at f 2 ≡ 79
  pub f3 : at f 3 ≡ 87

pub record Passes (f : List ℕ) (h : Header) : Type 0 where
  pub header : h ≡ header_of f
  pub sized : length_rule (length f) ≡ true
  pub long : length f ≡ 512 * blocks_for h.boxes
  pub some : 1 ≤ h.boxes
  pub fits : h.boxes ≤ 204
  pub few : h.inputs ≤ 16
  pub start : h.first < h.boxes
  pub ranged : in_range h ≡ true
  pub rest : all_zero (part f 8 502) ≡ true
  pub letters : Letters f
  pub edition : is_edition h.edition ≡ true
  pub checks : (j : ℕ) → j < blocks_for h.boxes → check_rule f h j ≡ true
  pub places : (p : ℕ) → p < 51 * (blocks_for h.boxes - 1) → place_rule f h p ≡ true

-- A check that a file passed did not refuse it.
pub passed : (broken : Bool) {otherwise : Result Header Refusal} (number detail : ℕ) {h : Header} → refuse_if broken number detail otherwise ≡ Ok h
    → (broken ≡ false) × (otherwise ≡ Ok h)
passed true number detail e = let z : ◌≡◌ {A = ℕ} 0 1 = cc in absurd (omega arith)
passed false number detail e = (refl, e)

-- No refusal has a number above 6.
six_at_most : (broken : Bool) {otherwise : Result Header Refusal} (number detail : ℕ) (r : Refusal) → number ≤ 6 → refuse_if broken number detail otherwise ≡ Err r
    → (otherwise ≡ Err r → r.number ≤ 6) → r.number ≤ 6
six_at_most true number detail r l e rest =
    let same : refusal number detail ≡ r = cc in
    let is = ap (λ (z : Refusal). z.number) same in
    omega arith
six_at_most false number detail r l e rest = rest e

accepts_none : {h : Header} {r : Refusal} → Ok h ≡ Err r → r.number ≤ 6
accepts_none e = let z : ◌≡◌ {A = ℕ} 0 1 = cc in absurd (omega arith)

pub refused_at_most_six : (f : List ℕ) (r : Refusal) → check_file f ≡ Err r → r.number ≤ 6
unfolding check_file
refused_at_most_six f r e =
    let blocks = blocks_of f in
    let places = 51 * (blocks - 1) in
    let wrong = first_failing (check_rule f (header_of f)) blocks in
    let broken = first_failing (place_rule f (header_of f)) places in
    six_at_most (not (length_rule (length f))) 1 0 r (omega arith) e
    (λ e. six_at_most (ltb wrong blocks) 2 wrong r (omega arith) e
    (λ e. six_at_most (not (letters_rule f)) 3 0 r (omega arith) e
    (λ e. six_at_most (not (header_rule f)) 4 0 r (omega arith) e
    (λ e. six_at_most (not (eqb blocks (blocks_for (header_of f).boxes))) 5 0 r (omega arith) e
    (λ e. six_at_most (ltb broken places) 6 broken r (omega arith) e (λ e. accepts_none e))))))

letters_of : (f : List ℕ) → letters_rule f ≡ true → Letters f × (is_edition (header_of f).edition ≡ true)
letters_of f e =
    let r = every (eqb (at f 0) 70) (eqb (at f 1) 76 ∷ eqb (at f 2) 79 ∷ eqb (at f 3) 87 ∷ is_edition (header_of f).edition ∷ []) e in (
      record {
        f0 = eqb-true (at f 0) 70 r.0;
        f1 = eqb-true (at f 1) 76 r.1.0;
        f2 = eqb-true (at f 2) 79 r.1.1.0;
        f3 = eqb-true (at f 3) 87 r.1.1.1.0;
      },
      r.1.1.1.1.0,
    )

pub passes : (f : List ℕ) (h : Header) → check_file f ≡ Ok h → Passes f h
unfolding check_file header_rule
passes f h e =
    let blocks = blocks_of f in
    let places = 51 * (blocks - 1) in
    let wrong = first_failing (check_rule f (header_of f)) blocks in
    let broken = first_failing (place_rule f (header_of f)) places in
    let one = passed (not (length_rule (length f))) 1 0 e in
    let two = passed (ltb wrong blocks) 2 wrong one.1 in
    let three = passed (not (letters_rule f)) 3 0 two.1 in
    let four = passed (not (header_rule f)) 4 0 three.1 in
    let five = passed (not (eqb blocks (blocks_for (header_of f).boxes))) 5 0 four.1 in
    let six = passed (ltb broken places) 6 broken five.1 in
    let same : h ≡ header_of f = cc six.1 in
    let b = blocks_of_lem (length f) (not-false _ one.0) in
    let rule = not-false (header_rule f) four.0 in
    let ranged = and_left (in_range (header_of f)) (all_zero (part f 8 502)) rule in
    let s = in_range_lem (header_of f) ranged in
    let first = letters_of f (not-false _ three.0) in
    let size : blocks ≡ blocks_for (header_of f).boxes = eqb-true _ _ (not-false _ five.0) in
    rw same
    (record {
      header = refl;
      sized = not-false _ one.0;
      long = omega (arith, b.whole, size);
      some = s.some;
      fits = s.fits;
      few = s.few;
      start = s.start;
      ranged = ranged;
      rest = and_right (in_range (header_of f)) (all_zero (part f 8 502)) rule;
      letters = first.0;
      edition = first.1;
      checks = λ j l. all_hold (check_rule f (header_of f)) blocks two.0 j (omega arith);
      places = λ p l. all_hold (place_rule f (header_of f)) places six.0 p (omega arith);
    })
