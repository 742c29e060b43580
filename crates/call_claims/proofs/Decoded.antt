-- The box at a place whose ten bytes are in range goes on to a box of the chart, and one that obeys
-- the rules reads what the rules allow. Assumes nothing.
use Prim.Native.Nat.{ℕ, ◌<◌}
use mathlib.Core.List.{List, [], ◌∷◌}
use mathlib.Core.Path.{◌≡◌}
use mathlib.Core.Bool.{Bool, true, false, cond}
use borrow.Author.Tests.{eqb-true}
use Rattle.boxes.specs.Bytes.{at, box_of}
use Rattle.boxes.specs.Box.{reads_left, reads_right, operand_rule, well_formed}
use Rattle.chart_claims.specs.Claims.{BoxInRange, assignment, decision, halt, choice}
use Rattle.chart_claims.proofs.Rules.{assignment_says, decision_says, halt_says, choice_says, by_kind}
use Rattle.operations.specs.Operation.{read_by}
use Rattle.decode.specs.Decode.{decode, Box, assigns, decides, halts, meaning, flow}
use Rattle.decode.proofs.Decoded.{box_here}
use Rattle.call_claims.specs.Charts.{AllReadable, ReadsOnly}

-- A box whose next boxes are below n.
pub data GoesBelow (n : ℕ) : Box → Type 0 where
  assign_below : {target : ℕ} {reads : List ℕ} {gives : List ℕ → ℕ} {next : ℕ} → next < n → GoesBelow n (assigns target reads gives next)
  decide_below : {reads : List ℕ} {holds : List ℕ → Bool} {next other : ℕ} → next < n → other < n → GoesBelow n (decides reads holds next other)
  halt_below : GoesBelow n halts

pub goes_below : (n edition : ℕ) (table : List ℕ) (p : ℕ) → p < 204 → BoxInRange edition n (box_of table p) → GoesBelow n (flow edition table p)
unfolding decode meaning
goes_below n edition table p l (assignment e a b c d f g) = rw (box_here table p l, e) (assign_below g)
goes_below n edition table p l (decision e a b c f g) = rw (box_here table p l, e) (decide_below f g)
goes_below n edition table p l (halt e) = rw (box_here table p l, e) halt_below
goes_below n edition table p l (choice s e a b c d f g i j) = rw (box_here table p l, e) (assign_below g)

-- The operands that an operation reads are held to the rule of a read operand.
operands_readable : (k : ℕ) (l r : Bool) (left right : ℕ) → operand_rule k l left ≡ true → operand_rule k r right ≡ true
    → AllReadable k (cond l (left ∷ cond r (right ∷ []) []) [])
unfolding operand_rule
operands_readable k true true left right e d = (e, (d, tt))
operands_readable k true false left right e d = (e, tt)
operands_readable k false r left right e d = tt

pub reads_only : (edition k n : ℕ) (table : List ℕ) (p : ℕ) → p < 204 → well_formed edition k n (box_of table p) ≡ true → ReadsOnly k (flow edition table p)
unfolding decode meaning read_by
reads_only edition k n table p l e =
    let b = box_of table p in
    by_kind edition k n b (ReadsOnly k (flow edition table p))
    (λ a.
    let r = assignment_says edition k n b a in
    rw (box_here table p l, r.0)
    (operands_readable k (reads_left (at b 2)) (reads_right edition (at b 2)) (at b 3) (at b 4) r.1.1.1.1.0 r.1.1.1.1.1.0))
    (λ d.
    let r = decision_says k n b d in
    rw (box_here table p l, eqb-true (at b 0) 2 r.0) (r.1.1.1.0, (r.1.1.1.1.0, tt)))
    (λ h. rw (box_here table p l, halt_says b h) tt)
    (λ c.
    let r = choice_says k n b c in
    let read = r.1.1.1.1 in
    rw (box_here table p l, eqb-true (at b 0) 4 r.0) (read.0, (read.1.0, (read.1.1.1.0, (read.1.1.1.1.0, tt)))))
    e
