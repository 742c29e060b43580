-- `promised` holds the claims of this crate: each by its theorem.
use Rattle.example_claims.proofs.Refuted.{bare_is_not_secret, another_mode_is_told, another_limit_is_told, bare_answers_more, smaller_limit_answers_less, advances_part_at_the_end, no_load_during_a_run, another_load_is_told, high_water_names_none, surveillance_names_some, high_water_advances_part, high_water_sum_ends_nothing, high_water_counts_no_boxes, surveillance_tells_counts, written_back_is_told, editions_end_apart, rewriting_is_told, rewriting_between_is_told, guarded_may_lose, drawn_do_not_count}
use Rattle.example_claims.proofs.Witnesses.{secrecy_is_met, notice_is_told, second_edition_is_met, choice_is_met, counts_are_hidden, advances_are_whole, answering_is_met, conversion_is_met, rewriting_is_met, rewriting_in_order}
use Rattle.example_claims.proofs.promised.Goals as goal

pub returns : goal.returns
returns c = (
  bare_is_not_secret,
  another_mode_is_told,
  another_limit_is_told,
  bare_answers_more,
  smaller_limit_answers_less,
  advances_part_at_the_end,
  no_load_during_a_run,
  another_load_is_told,
  high_water_names_none,
  surveillance_names_some,
  high_water_advances_part,
  high_water_sum_ends_nothing,
  high_water_counts_no_boxes,
  surveillance_tells_counts,
  written_back_is_told,
  editions_end_apart,
  rewriting_is_told,
  rewriting_between_is_told,
  guarded_may_lose,
  drawn_do_not_count,
  secrecy_is_met,
  notice_is_told,
  second_edition_is_met,
  choice_is_met,
  counts_are_hidden,
  advances_are_whole,
  answering_is_met,
  conversion_is_met,
  rewriting_is_met,
  rewriting_in_order,
)
