-- Instances of demand 3 that meet all that it supposes, and what they are told: what it supposes
-- can be met, and it speaks of something. What advances of a high-water run are told. And instances
-- of what a chart and its converted one tell, and of a chart and its rewritten one.
use Rattle.std.specs.Prelude.{ℕ, ◌-◌, ◌≡◌, List, [], ◌∷◌, false}
use Rattle.chart.specs.Chart.{table_of}
use Rattle.rewrite.specs.Rewrite.{replaced_at}
use Rattle.decode.specs.Decode.{flow}
use Rattle.marks.specs.Marks.{bare}
use Rattle.machine.specs.Run.{valued, notice, going, over, run}
use Rattle.begin.specs.Begin.{limit_for_none, effective}
use Rattle.calls.specs.Calls.{Call, load, begin, advance, answer, abandon, write_back, rewrite}
use Rattle.runner.specs.declared.Runner.{Runner}
use Rattle.runner.specs.State.{is_running, new_runner, run_in, flowchart_in, flow_in}
use Rattle.runs.specs.Whole.{start_of, whole}
use Rattle.runner.specs.Outcomes.{Reply, done, chart, running, ended, ending, refused, call}
use Rattle.call_claims.specs.Lists.{Reached, Accepted, begun, tells, Along, AllContinue}
use Rattle.run_claims.specs.Secrecy.{AllowedAlike}
use Rattle.call_claims.specs.Demand3.{SomeAnswer}
use Rattle.call_claims.specs.Parameters.{Begins, SameLimit}
use Rattle.call_claims.specs.OneFile.{after_load}
use Rattle.example_charts.specs.Charts.{chart_a, chart_b, chart_e, zeros_two, chart_a_two, chart_choice, chart_fork, chart_turns}
use Rattle.convert_claims.specs.Conversions.{ConvertsTo, TellsNoEdition}
use Rattle.rewrite_claims.specs.Rewriting.{boxes_run}
use Rattle.example_charts.specs.Cases.{replied}

-- "their pasts may differ": a runner that has only loaded a file, and one that has run it bare
-- since, to the ending.
abbrev pub just_loaded : List ℕ → Runner
just_loaded file = after_load file [] new_runner

abbrev pub run_bare : List ℕ → List Call
run_bare inputs = begin 0 inputs 0 0 ∷ advance 9 ∷ []

abbrev pub loaded_and_run : List ℕ → List ℕ → Runner
loaded_and_run file inputs = after_load file (run_bare inputs) new_runner

-- The replies of a list of calls; no byte is lent to be written.
abbrev pub Replies : List Call → Runner → List Reply → Type 0
Replies cs r rs = tells cs r ≡ replied rs

-- What the first half supposes: two begins of one mode, alike but for withheld inputs, on a runner
-- that has only loaded a file and on one that has run it bare since, the first with limit 0 and the
-- second with the number that it means.
abbrev pub BegunAlike : (mode : ℕ) (file past inputs inputs' : List ℕ) (allowed : ℕ) → Type 0
BegunAlike mode file past inputs inputs' allowed =
    Begins mode mode SameLimit (just_loaded file) (loaded_and_run file past)
    inputs inputs' allowed 0 limit_for_none
    × AllowedAlike allowed inputs inputs'

-- One advance by that number, and the answer.
abbrev pub to_the_end : List Call
to_the_end = advance limit_for_none ∷ answer ∷ []

-- The first half: chart A with input 0 withheld, 7 on the one side and 8 on the other.
abbrev pub SecrecyIsMet : Type 0
SecrecyIsMet =
    BegunAlike 1 chart_a (1 ∷ 2 ∷ []) (7 ∷ 9 ∷ []) (8 ∷ 9 ∷ []) 2
    × Replies to_the_end (begun 1 (7 ∷ 9 ∷ []) 2 0 (just_loaded chart_a))
    (ended 3 ∷ ending (valued 9) 3 ∷ [])

-- And with inputs 0 and 1 withheld, so that a notice is told: chart A names input 1, which 31
-- copies last, and not the other.
abbrev pub NoticeIsTold : Type 0
NoticeIsTold =
    BegunAlike 1 chart_a (1 ∷ 2 ∷ []) (7 ∷ 9 ∷ []) (8 ∷ 3 ∷ []) 0
    × Replies to_the_end (begun 1 (7 ∷ 9 ∷ []) 0 0 (just_loaded chart_a))
    (ended 3 ∷ ending (notice 2) 3 ∷ [])

-- And on a chart of edition 2: operation 11 of an allowed input and of a withheld one, 2 on the one
-- side and 5 on the other, of which a bare run would give 2 and 3. The notice names input 1.
abbrev pub SecondEditionIsMet : Type 0
SecondEditionIsMet =
    BegunAlike 1 zeros_two (1 ∷ 2 ∷ []) (8 ∷ 2 ∷ []) (8 ∷ 5 ∷ []) 1
    × Replies to_the_end (begun 1 (8 ∷ 2 ∷ []) 1 0 (just_loaded zeros_two))
    (ended 2 ∷ ending (notice 2) 2 ∷ [])
    × Replies to_the_end (begun 0 (8 ∷ 2 ∷ []) 1 0 (just_loaded zeros_two))
    (ended 2 ∷ ending (valued 2) 2 ∷ [])
    × Replies to_the_end (begun 0 (8 ∷ 5 ∷ []) 1 0 (just_loaded zeros_two))
    (ended 2 ∷ ending (valued 3) 2 ∷ [])

-- And on a chart with a box of kind 4, among calls of the rewriter: input 0 is withheld, 5 on the
-- one side and 6 on the other, by which a bare run would copy 7 or 9. The notice names input 0.
abbrev pub ChoiceIsMet : Type 0
ChoiceIsMet =
    BegunAlike 1 chart_choice (1 ∷ 2 ∷ 3 ∷ 4 ∷ []) (5 ∷ 5 ∷ 7 ∷ 9 ∷ []) (6 ∷ 5 ∷ 7 ∷ 9 ∷ []) 14
    × Replies (rewrite ∷ advance limit_for_none ∷ answer ∷ rewrite ∷ answer ∷ [])
    (begun 1 (5 ∷ 5 ∷ 7 ∷ 9 ∷ []) 14 0 (just_loaded chart_choice))
    (refused 22 0 ∷ ended 2 ∷ ending (notice 1) 2 ∷ done ∷ refused 24 0 ∷ [])
    × Replies to_the_end (begun 0 (5 ∷ 5 ∷ 7 ∷ 9 ∷ []) 14 0 (just_loaded chart_choice))
    (ended 2 ∷ ending (valued 7) 2 ∷ [])
    × Replies to_the_end (begun 0 (6 ∷ 5 ∷ 7 ∷ 9 ∷ []) 14 0 (just_loaded chart_choice))
    (ended 2 ∷ ending (valued 9) 2 ∷ [])

-- And in high-water mode: chart B with its input withheld, 0 on the one side and 4 on the other.
-- Inside, the runs come to their notices in 3 boxes and in 4; what is told is the same on both
-- sides, a refused advance included, and has no count.
abbrev pub CountsAreHidden : Type 0
CountsAreHidden =
    let start = begun 2 (0 ∷ []) 0 0 (just_loaded chart_b) in
    let start' = begun 2 (4 ∷ []) 0 limit_for_none (loaded_and_run chart_b (1 ∷ [])) in
    BegunAlike 2 chart_b (1 ∷ []) (0 ∷ []) (4 ∷ []) 0
    × (run (flow 1 (table_of chart_b)) 9 (going (run_in start)) ≡ over (notice 0) 3)
    × (run (flow 1 (table_of chart_b)) 9 (going (run_in start')) ≡ over (notice 0) 4)
    × Replies (advance (limit_for_none - 1) ∷ to_the_end) start
    (refused 13 0 ∷ ended 0 ∷ ending (notice 0) 0 ∷ [])
    × Replies (advance (limit_for_none - 1) ∷ to_the_end) start'
    (refused 13 0 ∷ ended 0 ∷ ending (notice 0) 0 ∷ [])

-- An advance in high-water mode: chart E with limit 2 and with limit 0. One by less than what the
-- limit means is refused, one by as much ends the run, and after the end each is refused by 23.
abbrev pub advances_about : (limit : ℕ) → List Call
advances_about limit = advance 0 ∷ advance (limit - 1) ∷ answer ∷ advance limit ∷ advance (limit - 1) ∷ advance limit ∷ answer ∷ []

abbrev pub EndsInOneAdvance : (limit : ℕ) → Type 0
EndsInOneAdvance limit =
    Replies (advances_about (effective limit)) (begun 2 (7 ∷ []) 0 limit (just_loaded chart_e))
    (refused 13 0 ∷ refused 13 0 ∷ refused 24 0 ∷ ended 0 ∷ refused 23 0 ∷ refused 23 0 ∷ ending (valued 5) 2 ∷ [])

-- And one that was refused may be abandoned.
abbrev pub AdvancesAreWhole : Type 0
AdvancesAreWhole =
    EndsInOneAdvance 2
    × EndsInOneAdvance 0
    × Replies (advance 1 ∷ abandon ∷ advance 2 ∷ []) (begun 2 (7 ∷ []) 0 2 (just_loaded chart_e)) (refused 13 0 ∷ done ∷ refused 23 0 ∷ [])

-- The second half: chart E with its input withheld and limit 2. High-water tells value 5 in 2
-- steps, where an advance by less was refused; under surveillance two advances add up to the limit,
-- in a list of calls of every kind, "advance, answer, write back and refused calls".
abbrev pub refused_first : List Call
refused_first = advance 1 ∷ advance 2 ∷ answer ∷ []

abbrev pub every_kind : List Call
every_kind = advance 1 ∷ load chart_a ∷ begin 1 [] 0 0 ∷ rewrite ∷ write_back [] ∷ answer ∷ advance 1 ∷ abandon ∷ answer ∷ []

abbrev pub AnsweringIsMet : Type 0
AnsweringIsMet =
    Begins 2 1 SameLimit (just_loaded chart_e) (loaded_and_run chart_e (3 ∷ [])) (7 ∷ []) (7 ∷ []) 0 2 2
    × AllContinue refused_first (begun 2 (7 ∷ []) 0 2 (just_loaded chart_e))
    × Replies refused_first (begun 2 (7 ∷ []) 0 2 (just_loaded chart_e)) (refused 13 0 ∷ ended 0 ∷ ending (valued 5) 2 ∷ [])
    × SomeAnswer (begun 2 (7 ∷ []) 0 2 (just_loaded chart_e)) 5 2
    × AllContinue every_kind (begun 1 (7 ∷ []) 0 2 (loaded_and_run chart_e (3 ∷ [])))
    × Replies every_kind (begun 1 (7 ∷ []) 0 2 (loaded_and_run chart_e (3 ∷ [])))
    (running 1 ∷ refused 22 0 ∷ refused 22 0 ∷ refused 22 0 ∷ refused 12 0 ∷ refused 24 0 ∷ ended 2 ∷ refused 23 0 ∷ ending (valued 5) 2 ∷ [])

-- 02, f: "the converted chart must end as the original does". Chart A and its converted one, loaded
-- into a new runner and into one whose run of another chart has ended, and then calls of every
-- kind: a rewriting and a write back that are refused, two advances, and a load of chart E, which
-- both hold afterwards.
abbrev pub calls_of_both : List Call
calls_of_both =
    begin 1 (7 ∷ 9 ∷ []) 2 0 ∷ rewrite ∷ write_back [] ∷ advance 1 ∷ advance (limit_for_none - 1)
    ∷ answer ∷ load chart_e ∷ begin 2 (7 ∷ []) 0 0 ∷ abandon ∷ []

abbrev pub replies_of_both : List Reply
replies_of_both = done ∷ refused 22 0 ∷ refused 12 0 ∷ running 1 ∷ ended 3 ∷ ending (valued 9) 3 ∷ chart 1 2 ∷ done ∷ done ∷ []

abbrev pub ConversionIsMet : Type 0
ConversionIsMet =
    ConvertsTo chart_a chart_a_two
    × Along TellsNoEdition calls_of_both (call (load chart_a) new_runner).next
    × (is_running new_runner ≡ false)
    × (is_running (loaded_and_run chart_b (4 ∷ [])) ≡ false)
    × Replies (load chart_a ∷ calls_of_both) new_runner (chart 2 3 ∷ replies_of_both)
    × Replies (load chart_a_two ∷ calls_of_both) (loaded_and_run chart_b (4 ∷ [])) (chart 2 3 ∷ replies_of_both)

-- 02, g: two charts that are rewritten, and a bare run of each, in which a box put in is run once,
-- and twice. The limit of the first is the steps that its old chart takes.
abbrev pub Saves : (file inputs : List ℕ) (limit v steps saved : ℕ) → Type 0
Saves file inputs limit v steps saved =
    let old = just_loaded file in
    let new = (call rewrite old).next in
    Reached old
    × Accepted rewrite old
    × (whole (flowchart_in old) bare inputs 0 limit ≡ record { ending = valued v; steps = steps })
    × (boxes_run (flow_in new) (replaced_at old.table) limit (going (start_of (flowchart_in new) bare inputs 0 limit)) ≡ saved)
    × (whole (flowchart_in new) bare inputs 0 limit ≡ record { ending = valued v; steps = steps - saved })

abbrev pub RewritingIsMet : Type 0
RewritingIsMet = Saves chart_fork (7 ∷ []) 4 1 4 1 × Saves chart_turns (1 ∷ []) limit_for_none 1 10 2

-- And the calls: no chart, a run under way, edition 1; done, and the ending is forgotten; a
-- rewriting that is refused keeps it.
abbrev pub RewritingInOrder : Type 0
RewritingInOrder =
    Replies
    (rewrite ∷ load chart_a ∷ rewrite ∷ begin 0 (7 ∷ 9 ∷ []) 0 0 ∷ rewrite ∷ advance limit_for_none
    ∷ rewrite ∷ answer ∷ [])
    new_runner
    (refused 21 0 ∷ chart 2 3 ∷ refused 15 0 ∷ done ∷ refused 22 0 ∷ ended 3 ∷ refused 15 0 ∷ ending (valued 9) 3 ∷ [])
    × Replies
    (begin 0 (7 ∷ []) 0 0 ∷ rewrite ∷ advance limit_for_none ∷ answer ∷ rewrite ∷ answer
    ∷ rewrite ∷ [])
    (just_loaded chart_fork)
    (done ∷ refused 22 0 ∷ ended 4 ∷ ending (valued 1) 4 ∷ done ∷ refused 24 0 ∷ done ∷ [])
