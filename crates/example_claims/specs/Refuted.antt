-- What does not hold: claims with one of the things that they ask for exchanged. A run of one of
-- the charts refutes each.
use Rattle.std.specs.Prelude.{ℕ, ◌+◌, ◌≡◌, List, true, false, eqb}
use Rattle.boxes.specs.Bytes.{at, box_of}
use Rattle.rewrite.specs.Rewrite.{replaced_at}
use Rattle.marks.specs.Marks.{bare, surveillance, high_water}
use Rattle.begin.specs.Begin.{effective}
use Rattle.calls.specs.Calls.{load, rewrite}
use Rattle.runner.specs.State.{is_running, mode_number}
use Rattle.runner.specs.Outcomes.{call}
use Rattle.rewrite_claims.specs.Rewriting.{FewerStepsBy}
use Rattle.convert_claims.specs.Conversions.{OtherEdition, EndsAlikeWhere, TellsAlikeWhere}
use Rattle.call_claims.specs.Lists.{Accepted, Along}
use Rattle.call_claims.specs.Parameters.{SameLimit, Secrecy, AnswersAs}
use Rattle.call_claims.specs.Runs.{AdvancesJoinWhere, NotEndedAfter, NotHighWater, CountsBoxesWhere, LimitEndsWhere}
use Rattle.call_claims.specs.Charts.{AllKeepChart, WrittenLoadsWhere}
use Rattle.call_claims.specs.OneFile.{OneFileWhere}
use Rattle.call_claims.specs.Sets.{NoticesName, NamesNoneWhere}
use Rattle.call_claims.specs.HighWater.{CountsValuesOnlyIn}

-- Bare guards nothing: in chart B, 3 steps for input 0 and 4 for input 4.
abbrev pub BareIsNotSecret : Type 0
BareIsNotSecret = Secrecy 0 0 SameLimit → ⊥

-- "both begins being of one mode": chart E with limit 2 tells "ended" with 2 steps under
-- surveillance and with 0 under high-water.
abbrev pub AnotherModeIsTold : Type 0
AnotherModeIsTold = Secrecy 1 2 SameLimit → ⊥

-- A second limit of one more, and of one less.
abbrev pub OneMore : ℕ → ℕ → Type 0
OneMore limit limit' = effective limit' ≡ effective limit + 1

abbrev pub OneLess : ℕ → ℕ → Type 0
OneLess limit limit' = effective limit ≡ effective limit' + 1

-- Chart C with limits 1 and 2: after one box the one run has ended. In high-water mode the other is
-- not advanced by one box.
abbrev pub AnotherLimitIsTold : Type 0
AnotherLimitIsTold = (Secrecy 1 1 OneMore → ⊥) × (Secrecy 2 2 OneMore → ⊥)

-- Chart D, "31 is variable 0 minus variable 0": bare tells value 0, surveillance a notice.
abbrev pub BareAnswersMore : Type 0
BareAnswersMore = AnswersAs 0 SameLimit → ⊥

-- Chart E with limit 2 under high-water, which tells value 5, and 1 under surveillance, which is
-- spent.
abbrev pub SmallerLimitAnswersLess : Type 0
SmallerLimitAnswersLess = AnswersAs 2 OneLess → ⊥

-- "23: no run is under way (advance, abandon)": a second advance past the end is refused, where the
-- one advance tells "ended".
abbrev pub AdvancesPartAtTheEnd : Type 0
AdvancesPartAtTheEnd = AdvancesJoinWhere (λ r m. NotHighWater (mode_number r.mode) × (is_running r ≡ true)) → ⊥

-- 02, b, exempts high-water from three laws: joining advances, advances that add up to the limit,
-- and the count that an advance tells. Chart E with limit 2 in this mode: two advances by 1 are
-- refused, and one by 2 tells "ended" with 0 steps.
abbrev pub HighWaterAdvancesPart : Type 0
HighWaterAdvancesPart = AdvancesJoinWhere NotEndedAfter → ⊥

abbrev pub HighWaterSumEndsNothing : Type 0
HighWaterSumEndsNothing = LimitEndsWhere (λ mode. mode ≡ 2) → ⊥

abbrev pub HighWaterCountsNoBoxes : Type 0
HighWaterCountsNoBoxes = CountsBoxesWhere (λ mode. mode ≡ 2) → ⊥

-- And chart E under surveillance tells 2 steps with "ended".
abbrev pub SurveillanceTellsCounts : Type 0
SurveillanceTellsCounts = CountsValuesOnlyIn 1 → ⊥

-- "22: a run is under way (load, begin)": that the runner which wrote rests is not enough.
abbrev pub NoLoadDuringARun : Type 0
NoLoadDuringARun = WrittenLoadsWhere (λ r r'. is_running r ≡ false) → ⊥

-- Another load between: that the runner which has yet to load the file would refuse it is not
-- enough.
abbrev pub AnotherLoadIsTold : Type 0
AnotherLoadIsTold = OneFileWhere (λ file past r. AllKeepChart past r) → ⊥

-- Write back tells the edition: of chart A and its converted one, in byte 4.
abbrev pub WrittenBackIsTold : Type 0
WrittenBackIsTold = TellsAlikeWhere (λ c r. Unit {0}) → ⊥

-- That two files are of the two editions, with the same boxes, is not enough: a sum wraps in the
-- one and not in the other, and such a chart is refused by 14.
abbrev pub EditionsEndApart : Type 0
EditionsEndApart = EndsAlikeWhere OtherEdition → ⊥

-- A rewriting tells the edition though it is refused: 15 of chart A, and done of its converted one.
abbrev pub RewritingIsTold : Type 0
RewritingIsTold = TellsAlikeWhere (λ c r. (c ≡ rewrite) × (Accepted c r → ⊥)) → ⊥

-- A rewriting between: that no other load is accepted is not enough. A chart of B's shape with
-- copies ends in 4 steps, and rewritten in 3.
abbrev pub RewritingBetweenIsTold : Type 0
RewritingBetweenIsTold =
    OneFileWhere (λ file past r. Along (λ c x. (other : List ℕ) → c ≡ load other → Accepted c x → ⊥) past (call (load file) r).next) → ⊥

-- 02, g, speaks of "the bare old chart": in the other modes a copy that is not made is read by the
-- box put in, so that a value becomes a notice.
abbrev pub GuardedMayLose : Type 0
GuardedMayLose = (FewerStepsBy surveillance (λ old new. replaced_at old) → ⊥) × (FewerStepsBy high_water (λ old new. replaced_at old) → ⊥)

-- "kind 4 boxes put in by the rewriter": one that was drawn is run as often on the old chart.
abbrev pub DrawnDoNotCount : Type 0
DrawnDoNotCount = FewerStepsBy bare (λ old new p. eqb (at (box_of new p) 0) 4) → ⊥

-- "high-water notices, carry 0": chart D's names no input, and under surveillance it names one.
abbrev pub HighWaterNamesNone : Type 0
HighWaterNamesNone = NoticesName 2 → ⊥

abbrev pub SurveillanceNamesSome : Type 0
SurveillanceNamesSome = NamesNoneWhere (λ mode. mode ≡ 1) → ⊥
