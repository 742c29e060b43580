-- The claims about lines: an accepted one prints an ending, by `one_advance_ends`; and a begin
-- starts one run on any runner that holds the chart. Assumes nothing.
use Rattle.std.specs.Prelude.{ℕ, List, drop, Option, Some, None, Ok, Err, Result, ⊤}
use Rattle.block.specs.declared.Refusal.{Refusal}
use mathlib.Core.Path.{◌≡◌, refl, ap, ◌∙◌}
use mathlib.Core.Bool.{false}
use Rattle.boxes.specs.Bytes.{at}
use Rattle.chart.specs.Chart.{Chart}
use Rattle.begin.proofs.Begins.{effective_fits}
use Rattle.calls.specs.Calls.{answer, check}
use Rattle.line.specs.Parsing.{parse}
use Rattle.runner.specs.declared.Runner.{Runner}
use Rattle.runner.specs.State.{chart_in, is_running, standing_of}
use Rattle.runner.specs.Outcomes.{after, says, outcome_by, call}
use Rattle.call_claims.specs.Lists.{final}
use Rattle.call_claims.proofs.RunLaws.{one_advance_ends}
use Rattle.call_claims.proofs.Secrecy.{begin_permits, starts_same}
use Rattle.reply.specs.Reply.{reply_text, is_accepted, begin_of, run_out, run_reply, answered, responded, respond}
use Rattle.program_claims.specs.LineClaims.{LinesEnd, LinesApart}

pub lines_end : LinesEnd
unfolding final
lines_end r ns a =
    one_advance_ends r _ _ _ _ a 65535 (effective_fits (at ns 2) (begin_permits _ (drop 3 ns) _ _ r a).fits)

module _ (r r' : Runner) (same : chart_in r ≡ chart_in r') (o : is_running r ≡ false) (o' : is_running r' ≡ false) where
  checks_same : (ns : List ℕ) → check (begin_of ns) (standing_of r) ≡ check (begin_of ns) (standing_of r')
  unfolding check
  checks_same ns = let h : r.header ≡ r'.header = ap (λ (c : Chart). c.header) same in rw (h, o, o') refl

  answers_same : (v : Result ⊤ Refusal) (ns : List ℕ) → answered (outcome_by v (begin_of ns) r) ≡ answered (outcome_by v (begin_of ns) r')
  unfolding outcome_by run_reply after says is_accepted
  answers_same (Ok _) ns =
      ap (λ (y : Runner). reply_text (call answer (run_out y)).told.reply)
      (starts_same (at ns 0) (drop 3 ns) (at ns 1) _ _ same refl)
  answers_same (Err x) ns = refl

pub lines_apart : LinesApart
unfolding respond call responded
lines_apart r r' same o o' number line = by (parse line)
  where
    by : (read : Option (List ℕ)) → responded r number read ≡ responded r' number read
    by None = refl
    by (Some ns) =
        ap (λ (v : Result ⊤ Refusal). answered (outcome_by v (begin_of ns) r)) (checks_same r r' same o o' ns)
        ∙ answers_same r r' same o o' (check (begin_of ns) (standing_of r')) ns
