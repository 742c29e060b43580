-- `promised` holds the claims of this crate: each by its theorem.
use Rattle.call_claims.proofs.Demand3.{demand3, halves_by_parameters}
use Rattle.call_claims.proofs.OneFile.{one_file}
use Rattle.call_claims.proofs.RunLaws.{refusal_changes_nothing, advances_join, counts_boxes, limit_ends, one_advance_ends, tells_whole_run, within_limit, cleared}
use Rattle.call_claims.proofs.ChartLaws.{held_obeys, runs_in_range, begins_in_mode, ends_in_range, loaded_is_written, written_is_loaded}
use Rattle.call_claims.proofs.Naming.{marks_withheld, names_withheld, surveillance_names, others_name_none}
use Rattle.call_claims.proofs.HighWater.{high_water_tells, high_water_answers, high_water_ends}
use Rattle.call_claims.proofs.Replies.{replies_distinct}
use Rattle.call_claims.proofs.Bounds.{answers_at_the_limit, runs_within_bounds, written_into_exact_room, held_within_bounds, states_within_bounds, names_within_bounds}
use Rattle.call_claims.proofs.promised.Goals as goal

pub returns : goal.returns
returns c = (
  demand3,
  halves_by_parameters,
  one_file,
  refusal_changes_nothing,
  advances_join,
  counts_boxes,
  limit_ends,
  one_advance_ends,
  tells_whole_run,
  within_limit,
  cleared,
  held_obeys,
  runs_in_range,
  begins_in_mode,
  ends_in_range,
  loaded_is_written,
  written_is_loaded,
  replies_distinct,
  marks_withheld,
  names_withheld,
  surveillance_names,
  others_name_none,
  high_water_tells,
  high_water_answers,
  high_water_ends,
  answers_at_the_limit,
  runs_within_bounds,
  written_into_exact_room,
  held_within_bounds,
  states_within_bounds,
  names_within_bounds,
)
