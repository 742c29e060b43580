-- Blocks of an accepted file of edition 2 that are out of order. The blocks below b and byte 4 of
-- block 0 stay, so the checks below b hold; the block in the place of b, sealed for its own place,
-- isn't sealed for this one. Assumes nothing.
use Rattle.std.specs.Prelude.{Ok, Err}
use Prim.Native.Nat.{ℕ, ◌*◌, ◌/◌, ◌≤◌, ◌<◌}
use mathlib.Core.Path.{◌≡◌, refl, ap, sym, ◌∙◌}
use mathlib.Core.List.{List, [], append-nil}
use mathlib.Core.Logic.{◌≢◌}
use mathlib.Core.Bool.{Bool, true, false, cond}
use native.Mathlib.Omega.{arith}
use lib.Dec.{eqb}
use lib.ListN.{length}
use lib.Seq.{get_or-take}
use borrow.Author.Tests.{eq-eqb, ne_eqb}
use Rattle.boxes.specs.Bytes.{at}
use Rattle.boxes.proofs.Bools.{never_true}
use Rattle.block.specs.Block.{is_sealed}
use Rattle.block.specs.Refusing.{refusal}
use Rattle.format.specs.File.{addend, blocks_of, block_of, header_of, length_rule, check_rule, check_file}
use Rattle.format.specs.declared.Header.{Header}
use Rattle.format.proofs.Search.{first_is}
use Rattle.format.proofs.Seals.{sealed_once}
use Rattle.format.proofs.Checks.{tells_check}
use Rattle.format.proofs.Passes as checked
use Rattle.chart.proofs.Lists.{length_part}
use Rattle.chart.proofs.Joined.{Sized, joined_length, joined_piece}
use Rattle.chart_claims.specs.Exchanged.{rearranged, in_place_of, ExchangeRefused, OutOfOrderRefused, OthersAddNothing}

module _ (f : List ℕ) (h : Header) (e : check_file f ≡ Ok h) (two : h.edition ≡ 2) where
  facts : checked.Passes f h
  facts = checked.passes f h e

  few : blocks_of f ≤ 5
  few = let a = facts in omega (arith, a.long, a.fits)

  -- A block of the file is sealed for its own place.
  sealed : (p : ℕ) → p < blocks_of f → is_sealed (addend 2 p) (block_of f p) ≡ true
  unfolding check_rule
  sealed p l = let a = facts in rw two at (a.checks p (omega (arith, a.long)))

  differ : (i j : ℕ) → i < j → j < blocks_of f → block_of f i ≢ block_of f j
  differ i j below last same =
      let first = rw same at (sealed i (omega arith)) in
      let one = sealed_once i j (block_of f j) (omega (arith, few)) (omega (arith, few)) first (sealed j last) in
      omega arith

  module _ (from : ℕ → ℕ) (within : (p : ℕ) → p < blocks_of f → from p < blocks_of f) where
    sized : Sized (λ p. block_of f (from p)) 512 (blocks_of f)
    sized p l = let a = facts in length_part f (512 * from p) 512 (omega (arith, a.long, within p l))

    long : length (rearranged from f) ≡ length f
    unfolding rearranged
    long = let a = facts in joined_length _ 512 (blocks_of f) sized ∙ omega (arith, a.long)

    block_is : (p : ℕ) → p < blocks_of f → block_of (rearranged from f) p ≡ block_of f (from p)
    unfolding rearranged
    block_is p l =
        ap (λ (g : List ℕ). block_of g p) (sym (append-nil _)) ∙ joined_piece (λ q. block_of f (from q)) 512 (blocks_of f) [] p sized l

    module _ (b : ℕ) (first : 1 ≤ b) (last : b < blocks_of f) (same : (p : ℕ) → p < b → from p ≡ p) (moved : from b ≢ b) where
      edition : (header_of (rearranged from f)).edition ≡ 2
      edition =
          let zero : block_of (rearranged from f) 0 ≡ block_of f 0 = block_is 0 (omega arith) ∙ ap (block_of f) (same 0 first) in
          sym (get_or-take 512 (rearranged from f) 4 0 (omega arith))
          ∙ ap (λ (g : List ℕ). at g 4) zero
          ∙ get_or-take 512 f 4 0 (omega arith)
          ∙ ap (λ (k : Header). k.edition) (sym facts.header)
          ∙ two

      -- What check 2 asks of block p.
      asked : (p : ℕ) → p < blocks_of f → check_rule (rearranged from f) (header_of (rearranged from f)) p ≡ is_sealed (addend 2 p) (block_of f (from p))
      unfolding check_rule
      asked p l = rw (edition, block_is p l)

      holds_below : (p : ℕ) → p < b → check_rule (rearranged from f) (header_of (rearranged from f)) p ≡ true
      holds_below p l =
          asked p (omega arith) ∙ ap (λ (q : ℕ). is_sealed (addend 2 p) (block_of f q)) (same p l) ∙ sealed p (omega arith)

      fails_there : check_rule (rearranged from f) (header_of (rearranged from f)) b ≡ false
      fails_there =
          let l = within b last in
          asked b last
          ∙ never_true _ (λ s. moved (sealed_once (from b) b (block_of f (from b)) (omega (arith, few)) (omega (arith, few)) (sealed (from b) l) s))

      refused : check_file (rearranged from f) ≡ Err (refusal 2 b)
      refused =
          let g = rearranged from f in
          let one : length_rule (length g) ≡ true = ap length_rule long ∙ facts.sized in
          let all : blocks_of g ≡ blocks_of f = ap (λ (n : ℕ). n / 512) long in
          let detail = first_is (check_rule g (header_of g)) (blocks_of g) b (omega (arith, all)) holds_below fails_there in
          sym (tells_check g one (omega (arith, detail, all))) ∙ ap (λ (n : ℕ). Err (refusal 2 n)) detail

pub out_of_order_refused : OutOfOrderRefused
out_of_order_refused f h from b e two within first last same moved = refused f h e two from within b first last same moved

module _ (i j : ℕ) where
  place_of_i : in_place_of i j i ≡ j
  unfolding in_place_of
  place_of_i = rw (eq-eqb i i refl)

  place_below : i < j → (p : ℕ) → p < i → in_place_of i j p ≡ p
  unfolding in_place_of
  place_below l p m = rw (ne_eqb p i (omega arith), ne_eqb p j (omega arith))

  place_within : (count p : ℕ) → i < count → j < count → p < count → in_place_of i j p < count
  unfolding in_place_of
  place_within count p l m n = on (eqb p i) (eqb p j)
    where
      on : (x y : Bool) → cond x j (cond y i p) < count
      on true y = m
      on false true = l
      on false false = n

pub exchange_refused : ExchangeRefused
exchange_refused f h i j e two first below last =
    let within : (p : ℕ) → p < blocks_of f → in_place_of i j p < blocks_of f = λ p l. place_within i j (blocks_of f) p (omega arith) last l in
    let moved : in_place_of i j i ≢ i = λ d. let is = place_of_i i j in omega arith in
    (differ f h e two i j below last, out_of_order_refused f h (in_place_of i j) i e two within first (omega arith) (place_below i j below) moved)

pub others_add_nothing : OthersAddNothing
unfolding addend
others_add_nothing edition b other = rw (ne_eqb edition 2 other)
