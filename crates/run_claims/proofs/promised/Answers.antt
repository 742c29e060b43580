-- `promised` holds the claims of this crate: each by its theorem.
use Rattle.run_claims.proofs.Low.{runs_are_secret}
use Rattle.run_claims.proofs.Pace.{runs_keep_pace}
use Rattle.run_claims.proofs.Marking.{empty_where_unmarked, sets_are_unions, union_and_kept, keeps_one_input, one_arithmetic, set_as_ruled, sets_only_name}
use Rattle.run_claims.proofs.Stops.{no_operation_stops}
use Rattle.run_claims.proofs.Editions.{others_alike, boxes_alike, second_saturates}
use Rattle.run_claims.proofs.promised.Goals as goal

pub returns : goal.returns
returns c = (
  runs_are_secret,
  runs_keep_pace,
  empty_where_unmarked,
  sets_are_unions,
  union_and_kept,
  keeps_one_input,
  one_arithmetic,
  set_as_ruled,
  sets_only_name,
  no_operation_stops,
  others_alike,
  boxes_alike,
  second_saturates,
)
