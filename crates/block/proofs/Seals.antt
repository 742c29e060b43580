-- Laws of sealed blocks: what the two bytes of the check are, that a body and its check are sealed,
-- and that a block of 512 bytes with its check put in is its bytes 0 to 509 and their check.
-- sealed_bytes; seal_seals; with_seal_block. Assumes nothing.
use Rattle.std.proofs.Common.{◌≡◌, ℕ, ◌+◌, ◌/◌, ◌%◌, true, eqb, List, [], ◌∷◌, ◌++◌, length, take, set, sym, refl, ap, ◌∙◌, ap₂, arith, length-set, drop_of_length-le, take-suc-set, take_at, get_or-append-add, drop-set-lt, eq-eqb, eqb-true}
use lib.Seq.{get_or_at, set_split, append_snoc}
use Rattle.boxes.specs.Bytes.{at}
use Rattle.boxes.proofs.Bools.{and_left, and_right}
use Rattle.block.specs.Block.{checksum, is_sealed, with_seal, seal}
use Rattle.block.proofs.Sums.{check_front}

pub sealed_bytes : (added : ℕ) (block : List ℕ) → is_sealed added block ≡ true → (checksum added block % 256 ≡ at block 510) × (checksum added block / 256 ≡ at block 511)
unfolding is_sealed
sealed_bytes added block e =
    let low = eqb (at block 510) (checksum added block % 256) in
    let high = eqb (at block 511) (checksum added block / 256) in
    (sym (eqb-true (at block 510) _ (and_left low high e)), sym (eqb-true (at block 511) _ (and_right low high e)))

pub seal_seals : (added : ℕ) (body : List ℕ) → length body ≡ 510 → is_sealed added (seal added body) ≡ true
unfolding is_sealed seal
seal_seals added body long =
    let low = checksum added body % 256 in
    let high = checksum added body / 256 in
    let block = body ++ (low ∷ high ∷ []) in
    let same : checksum added block ≡ checksum added body = sym (check_front added block) ∙ ap (checksum added) (take_at body (low ∷ high ∷ []) 510 long) in
    let first : at block 510 ≡ low = get_or_at body low (high ∷ []) 0 510 long in
    let next : length body + 1 ≡ 511 = omega arith in
    let second : at block 511 ≡ high = ap (at block) (sym next) ∙ get_or-append-add body (low ∷ high ∷ []) 1 0 in
    rw (same, first, second, eq-eqb low low refl) (eq-eqb high high refl)

pub with_seal_block : (added : ℕ) (block : List ℕ) → length block ≡ 512 → with_seal added block ≡ seal added (take 510 block)
unfolding with_seal seal
with_seal_block added block long =
    let low = checksum added block % 256 in
    let high = checksum added block / 256 in
    let body : List ℕ = take 510 block in
    set_split (set block 510 low) 511 high (omega (arith, length-set block 510 low))
    ∙ ap₂ (λ (p : List ℕ) (q : List ℕ). p ++ high ∷ q) (take-suc-set block 510 low (omega arith))
    (drop-set-lt 512 block 510 low (omega arith) ∙ drop_of_length-le block {i = 512} (omega arith))
    ∙ append_snoc body low (high ∷ [])
    ∙ ap (λ (c : ℕ). body ++ (c % 256 ∷ c / 256 ∷ [])) (sym (check_front added block))
