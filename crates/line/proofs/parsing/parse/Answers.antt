-- At each turn the part is the next of the line's parts, and at the end there are no more: `all` is
-- what the iterator gives, `t` where this turn stands in it.
use Rattle.std.proofs.Common.{ℕ, ◌≤◌, ◌<◌, eqb, arith, rules, tests}
use Rattle.std.proofs.lemmas.List.{length_push}
use Rattle.std.proofs.lemmas.Iterator.Splits.{YieldsList-from_slice_split}
use Rattle.std.proofs.lemmas.Iterator.Consumers.{YieldsList-turn, YieldsList-end}
use Rattle.line.proofs.Parsed.{no_part, no_place, reads_next, no_three, reads_all}
use Rattle.line.proofs.parsing.parse.Goals as goal

pub returns-in_err-numbers-clause-value : goal.returns-in_err-numbers-clause-value
returns-in_err-numbers-clause-value c =
    let all = YieldsList-from_slice_split _ (λ (b : ℕ). eqb b 32) c.args.line.now (search rules) (search rules) (search rules) (λ x b q k. search (rules, tests)) in
    let t = YieldsList-turn all c.loop-part.yielded _ c.loop-part.yielded_by _ _ c.in-Some.part c.in-Some.is c.next.ensures.steps in
    rw c.from_residual.ensures (no_part c.loop-part.invariant _ t c.in_err-numbers.ensures)

pub returns-then-count-eq19-clause-value : goal.returns-then-count-eq19-clause-value
returns-then-count-eq19-clause-value c =
    let full : 19 ≤ c.loop-part.count = omega (arith, c.if-count-eq19.true) in
    let all = YieldsList-from_slice_split _ (λ (b : ℕ). eqb b 32) c.args.line.now (search rules) (search rules) (search rules) (λ x b q k. search (rules, tests)) in
    let t = YieldsList-turn all c.loop-part.yielded _ c.loop-part.yielded_by _ _ c.in-Some.part c.in-Some.is c.next.ensures.steps in
    no_place c.loop-part.invariant _ t full

pub loop-part-preserved : goal.loop-part-preserved
loop-part-preserved c =
    let room : c.loop-part.count < 19 = omega (arith, c.if-count-eq19.false) in
    let all = YieldsList-from_slice_split _ (λ (b : ℕ). eqb b 32) c.args.line.now (search rules) (search rules) (search rules) (λ x b q k. search (rules, tests)) in
    let t = YieldsList-turn all c.loop-part.yielded _ c.loop-part.yielded_by _ _ c.in-Some.part c.in-Some.is c.next.ensures.steps in
    rw length_push (reads_next c.loop-part.invariant _ t _ c.in_ok-numbers.ensures room)

pub returns-then-count-lt3-clause-value : goal.returns-then-count-lt3-clause-value
returns-then-count-lt3-clause-value c =
    let few : c.loop-part.count < 3 = omega (arith, c.if-count-lt3.true) in
    let all = YieldsList-from_slice_split _ (λ (b : ℕ). eqb b 32) c.args.line.now (search rules) (search rules) (search rules) (λ x b q k. search (rules, tests)) in
    let t = YieldsList-end all c.loop-part.yielded _ c.loop-part.yielded_by _ _ c.in-None.is c.next.ensures.steps in
    no_three c.loop-part.invariant t.1 few

pub returns-clause-value : goal.returns-clause-value
returns-clause-value c =
    let enough : 3 ≤ c.loop-part.count = omega (arith, c.if-count-lt3.false) in
    let all = YieldsList-from_slice_split _ (λ (b : ℕ). eqb b 32) c.args.line.now (search rules) (search rules) (search rules) (λ x b q k. search (rules, tests)) in
    let t = YieldsList-end all c.loop-part.yielded _ c.loop-part.yielded_by _ _ c.in-None.is c.next.ensures.steps in
    reads_all c.loop-part.invariant t.1 enough
