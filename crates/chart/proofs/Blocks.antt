-- Laws of the blocks of a chart's file: their lengths, what the block writer leaves, and block 0
-- among them. length_header, length_body, blocks_sized; sealed_body; body_first, body_later.
-- Assumes nothing.
use Prim.Native.Nat.{ℕ, zero, suc, ◌*◌, ◌-◌, ◌≤◌}
use mathlib.Core.Path.{◌≡◌, refl, ap, sym, ◌∙◌}
use mathlib.Core.List.{List, ◌++◌}
use native.Mathlib.Omega.{arith}
use lib.ListN.{length, take, drop, length-append}
use lib.Seq.{take_at}
use Rattle.boxes.specs.Bytes.{part}
use Rattle.block.specs.Block.{with_seal, seal}
use Rattle.block.proofs.Seals.{with_seal_block}
use Rattle.format.specs.File.{addend}
use Rattle.format.specs.declared.Header.{Header}
use Rattle.chart.specs.Chart.{header_body, body_of, sealed_block}
use Rattle.chart.proofs.Lists.{length_part}
use Rattle.chart.proofs.Joined.{Sized}

length_seal : (added : ℕ) (body : List ℕ) → length body ≡ 510 → length (seal added body) ≡ 512
unfolding seal
length_seal added body h = length-append body _ ∙ omega arith

pub length_header : (h : Header) → length (header_body h) ≡ 510
unfolding header_body
length_header h = refl

pub length_body : (h : Header) (table : List ℕ) (j : ℕ) → length table ≡ 2040 → j ≤ 4 → length (body_of h table j) ≡ 510
unfolding body_of
length_body h table zero l q = length_header h
length_body h table (suc j) l q = length_part table (510 * j) 510 (omega arith)

-- The first five blocks are 512 bytes each.
pub blocks_sized : (h : Header) (table : List ℕ) (count : ℕ) → length table ≡ 2040 → count ≤ 5 → Sized (sealed_block h table) 512 count
blocks_sized h table count l q i p = length_seal (addend h.edition i) _ (length_body h table i l (omega arith))

-- A block in which a body stands at the front, and is sealed.
pub sealed_body : (added : ℕ) (body d e : List ℕ) → length e ≡ 512 → length body ≡ 510 → e ≡ body ++ drop 510 d → with_seal added e ≡ seal added body
sealed_body added body d e le lb is =
    with_seal_block added e le ∙ ap (λ (l : List ℕ). seal added (take 510 l)) is ∙ ap (seal added) (take_at body (drop 510 d) 510 lb)

module _ (h : Header) (table : List ℕ) (j : ℕ) where
  pub body_first : j ≡ 0 → header_body h ≡ body_of h table j
  unfolding body_of
  body_first e = ap (body_of h table) (sym e)

  pub body_later : (j ≡ 0 → ⊥) → part table (510 * (j - 1)) 510 ≡ body_of h table j
  unfolding body_of
  body_later ne =
      let e : j ≡ suc (j - 1) = omega arith in
      ap (body_of h table) (sym e)
