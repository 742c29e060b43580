-- The definitions that a load, a conversion, a run and a rewriting go through, by groups: a proof
-- that opens the name of a group opens all that it names.
use lib.Count.{count_trailing_zeros}
use Rattle.boxes.specs.Bytes.{all_zero}
use Rattle.boxes.specs.Box.{operand_rule, assignment_rule, decision_rule, halt_rule, choice_rule, well_formed}
use Rattle.format.specs.Search.{first_from}
use Rattle.block.specs.Block.{weighted, checksum, is_sealed, seal}
use Rattle.format.specs.File.{addend, check_rule, header_rule, place_rule, check_file}
use Rattle.chart.specs.Chart.{joined, table_of, header_body, body_of, file_of}
use Rattle.chart.specs.WriteBack.{with_file}
use Rattle.convert.specs.Convert.{takes, check_chart, check_after, conversion_by, convert}
use Rattle.rewrite.specs.Rewrite.{copy_alike, is_replaced, choice_of, rewritten_box, rewritten}
use Rattle.operations.specs.Operation.{read_by, value_of_left, sum, difference, quotient, remainder, value_of_both, value_of, compares, chosen}
use Rattle.marks.specs.Marks.{mode_of, union}
use Rattle.decode.specs.Decode.{decode, box_from, meaning}
use Rattle.machine.specs.Act.{act_by}
use Rattle.machine.specs.Run.{goes_on, settle, onward, run}
use Rattle.runs.specs.Whole.{disclosed, finish, whole}
use Rattle.begin.specs.Begin.{effective, first_vars, withheld_mark, withheld_marks, first_marks}
use Rattle.calls.specs.Calls.{file_verdict, check}
use Rattle.runner.specs.State.{new_runner, ended_with, dropped, resumed}
use Rattle.runner.specs.Outcomes.{after, progress_reply, says, outcome_by, call}
use Rattle.call_claims.specs.Lists.{tells, final}
use Rattle.rewrite_claims.specs.Rewriting.{boxes_run}
use Rattle.example_charts.specs.Charts.{chart_a, chart_b, chart_c, chart_d, head_e, boxes_e, chart_e, boxes_e_two, chart_pair, chart_chain, chart_twice, chart_sum, sum_one, sum_two, difference_one, difference_two, zeros_one, zeros_two, five_blocks, chart_a_two, three_one, three_two, chart_choice, chart_fork, chart_fork_new, chart_turns, chart_never}

unfoldable pub rules_open : Unit {0}
unfolding all_zero first_from weighted addend checksum is_sealed check_rule operand_rule assignment_rule decision_rule halt_rule choice_rule well_formed header_rule place_rule check_file
rules_open = tt

unfoldable pub files_open : Unit {0}
unfolding rules_open chart_a chart_b chart_c chart_d head_e boxes_e chart_e boxes_e_two chart_pair chart_chain chart_twice chart_sum sum_one sum_two difference_one difference_two zeros_one zeros_two five_blocks chart_a_two three_one three_two
files_open = tt

unfoldable pub tables_open : Unit {0}
unfolding joined table_of header_body body_of seal file_of with_file
tables_open = tt

unfoldable pub conversions_open : Unit {0}
unfolding files_open tables_open takes check_chart check_after conversion_by convert
conversions_open = tt

unfoldable pub values_open : Unit {0}
unfolding decode box_from meaning read_by value_of_left count_trailing_zeros sum difference quotient remainder value_of_both value_of compares chosen
values_open = tt

unfoldable pub marks_open : Unit {0}
unfolding union
marks_open = tt

unfoldable pub boxes_open : Unit {0}
unfolding values_open marks_open act_by goes_on settle onward run disclosed
boxes_open = tt

unfoldable pub begins_open : Unit {0}
unfolding effective first_vars withheld_mark withheld_marks first_marks
begins_open = tt

unfoldable pub runs_open : Unit {0}
unfolding files_open tables_open boxes_open begins_open new_runner ended_with dropped resumed file_verdict check after progress_reply says outcome_by call tells final
runs_open = tt

unfoldable pub rewritings_open : Unit {0}
unfolding runs_open chart_choice chart_fork chart_fork_new chart_turns chart_never copy_alike is_replaced choice_of rewritten_box rewritten boxes_run finish whole
rewritings_open = tt
