-- What is claimed of a rewritten table (02, g).
use Rattle.std.specs.Prelude.{ℕ, ◌<◌, ◌≡◌, List, [], ◌∷◌, ◌≢◌, length}
use Rattle.boxes.specs.Bytes.{at, box_of}
use Rattle.format.specs.declared.Header.{Header}
use Rattle.rewrite.specs.Rewrite.{rewritten_box, rewritten}
use Rattle.chart_claims.specs.Claims.{Ruled}

-- A chart of edition 2 that obeys the rules still obeys them when it is rewritten; so its file
-- loads to it (`RuledIsLoaded`).
abbrev pub RewrittenIsRuled : Type 0
RewrittenIsRuled = (h : Header) (table : List ℕ) → Ruled h table → h.edition ≡ 2 → Ruled h (rewritten table)

-- Each place has the box that it gets by itself, judged on the old table.
abbrev pub RewrittenByPlaces : Type 0
RewrittenByPlaces = (table : List ℕ) → length table ≡ 2040 → (p : ℕ) → p < 204 → box_of (rewritten table) p ≡ rewritten_box table p

-- An assignment of operation 1 with a target and a next box, and the variable that it copies.
pub record Copying (b : List ℕ) (target next source : ℕ) : Type 0 where
  pub kind : at b 0 ≡ 1
  pub operation : at b 2 ≡ 1
  pub stores : at b 1 ≡ target
  pub goes : at b 5 ≡ next
  pub reads : at b 3 ≡ source

-- A "decision whose two different next boxes are assignments of operation 1 with the same target
-- and the same next".
pub record BetweenCopies (table b : List ℕ) (target next one other : ℕ) : Type 0 where
  pub decision : at b 0 ≡ 2
  pub different : at b 5 ≢ at b 6
  pub if_true : Copying (box_of table (at b 5)) target next one
  pub if_false : Copying (box_of table (at b 6)) target next other

-- "The kind 4 box put there has the decision's comparison, that target and next, and the two
-- variables copied." It is put there exactly where there is such a decision, "and other boxes
-- stay"; so a chart without one is rewritten to itself.
pub record RewrittenAt (table : List ℕ) (p : ℕ) : Type 0 where
  pub replaced :
      (target next one other : ℕ)
      → BetweenCopies table (box_of table p) target next one other
      → box_of (rewritten table) p
      ≡ 4 ∷ target ∷ at (box_of table p) 2 ∷ at (box_of table p) 3 ∷ at (box_of table p) 4 ∷ next ∷ one ∷ other ∷ 0 ∷ 0 ∷ []
  pub others : ((target next one other : ℕ) → BetweenCopies table (box_of table p) target next one other → ⊥) → box_of (rewritten table) p ≡ box_of table p

abbrev pub RewrittenExactly : Type 0
RewrittenExactly = (table : List ℕ) → length table ≡ 2040 → (p : ℕ) → p < 204 → RewrittenAt table p

-- Rewriting twice is rewriting once: what is put in is no assignment of operation 1, and the copies
-- stay.
abbrev pub RewrittenOnce : Type 0
RewrittenOnce = (table : List ℕ) → length table ≡ 2040 → rewritten (rewritten table) ≡ rewritten table
