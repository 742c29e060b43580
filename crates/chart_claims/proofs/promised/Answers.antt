-- `promised` holds the claims of this crate: each by its theorem.
use Rattle.chart_claims.proofs.RoundTrip.{file_has_length, reproduces_file, reproduces_chart}
use Rattle.chart_claims.proofs.Exchanged.{exchange_refused, out_of_order_refused, others_add_nothing}
use Rattle.chart_claims.proofs.Rules.{obeys_rules, shows_the_box, stays_in_range}
use Rattle.chart_claims.proofs.Ruled.{ruled_is_loaded}
use Rattle.chart_claims.proofs.Rewritten.{rewritten_is_ruled, rewritten_by_places, rewritten_exactly, rewritten_once}
use Rattle.chart_claims.proofs.Bounds.{exact_room, last_box_shown, ends_exchanged, loads_within_bounds}
use Rattle.chart_claims.proofs.promised.Goals as goal

pub returns : goal.returns
returns c = (
  file_has_length,
  reproduces_file,
  reproduces_chart,
  obeys_rules,
  ruled_is_loaded,
  shows_the_box,
  stays_in_range,
  exchange_refused,
  out_of_order_refused,
  others_add_nothing,
  rewritten_is_ruled,
  rewritten_by_places,
  rewritten_exactly,
  rewritten_once,
  exact_room,
  last_box_shown,
  ends_exchanged,
  loads_within_bounds,
)
