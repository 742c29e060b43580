-- Demand 3, first half: two begins in one mode that guards, on one chart with the same allowed
-- inputs, hand back low-equal runners, and low-equal runners tell the same. Assumes nothing.
use Prim.Native.Nat.{ℕ}
use mathlib.Core.Path.{◌≡◌, refl, ap, sym, ◌∙◌}
use mathlib.Core.List.{List}
use Rattle.format.proofs.Ranges.{in_range_lem}
use Rattle.chart.specs.Chart.{Chart}
use Rattle.marks.specs.Marks.{Mode, mode_of}
use Rattle.begin.specs.Begin.{effective, first_vars}
use Rattle.begin.proofs.Begins.{effective_positive}
use Rattle.runs.specs.Whole.{start_of}
use Rattle.run_claims.specs.Secrecy.{Guarded, AllowedAlike, Fits}
use Rattle.run_claims.proofs.Low.{Watched, start_agrees, guarded_watches}
use Rattle.calls.specs.Calls.{begin}
use Rattle.calls.proofs.Permits.{Permitted, permitted}
use Rattle.runner.specs.declared.Runner.{Runner}
use Rattle.runner.specs.State.{chart_in, flowchart_of, standing_of, under_way}
use Rattle.runner.specs.Outcomes.{Outcome, after, outcome_by, call}
use Rattle.call_claims.specs.Lists.{Accepted, tells}
use Rattle.call_claims.specs.Demand3.{Noninterference}
use Rattle.call_claims.specs.Parameters.{SameLimit, Secrecy}
use Rattle.call_claims.proofs.Accepting.{call_done}
use Rattle.call_claims.proofs.OneChart.{one_chart}
use Rattle.call_claims.proofs.Unwinding.{LowEqual, apart, tells_low}

-- An accepted begin.
pub begin_permits : (mode : ℕ) (inputs : List ℕ) (allowed limit : ℕ) (r : Runner)
    → Accepted (begin mode inputs allowed limit) r
    → Permitted r.header mode inputs allowed limit
begin_permits mode inputs allowed limit r e = permitted mode inputs allowed limit (standing_of r) e

-- A run at its start on a chart.
abbrev pub started : (mode : ℕ) (inputs : List ℕ) (allowed limit : ℕ) → Chart → Runner
started mode inputs allowed limit c = under_way c mode (start_of (flowchart_of c) (mode_of mode) inputs allowed limit)

pub begin_starts : (mode : ℕ) (inputs : List ℕ) (allowed limit : ℕ) (r : Runner)
    → Accepted (begin mode inputs allowed limit) r
    → (call (begin mode inputs allowed limit) r).next ≡ started mode inputs allowed (effective limit) (chart_in r)
unfolding outcome_by after
begin_starts mode inputs allowed limit r e = ap (λ (o : Outcome). o.next) (call_done (begin mode inputs allowed limit) r e)

-- The same start on one chart.
pub starts_same : (mode : ℕ) (inputs : List ℕ) (allowed l l' : ℕ) {c c' : Chart} → c ≡ c' → l ≡ l'
    → started mode inputs allowed l c ≡ started mode inputs allowed l' c'
starts_same mode inputs allowed l l' {c} {c'} s e = ap (λ (n : ℕ). started mode inputs allowed n c) e ∙ ap (started mode inputs allowed l') s

-- A mode that guards, as the start of a run has it.
module _ (mode : ℕ) {m : Mode} (guards : Watched m (mode_of mode) 0) where
  start_low : (c : Chart) (inputs inputs' : List ℕ) (allowed limit : ℕ) → Fits (flowchart_of c) inputs → Fits (flowchart_of c) inputs'
      → AllowedAlike allowed inputs inputs'
      → LowEqual (started mode inputs allowed (effective limit) c) (started mode inputs' allowed (effective limit) c)
  start_low c inputs inputs' allowed limit fits fits' alike =
      apart (first_vars inputs') refl guards (λ h. effective_positive limit) (start_agrees (flowchart_of c) inputs inputs' allowed fits fits' alike)

  secret : Secrecy mode mode SameLimit
  secret r r' inputs inputs' allowed limit limit' b f cs =
      let p = begin_permits mode inputs allowed limit r b.accepted in
      let p' = begin_permits mode inputs' allowed limit' r' b.accepted' in
      let c = one_chart r r' b.made b.made' p.held p'.held b.one_chart in
      let k : r.header.inputs ≡ r'.header.inputs = ap (λ (x : Chart). x.header.inputs) c in
      let few = (in_range_lem r.header p.held).few in
      ap (tells cs) (begin_starts mode inputs allowed limit r b.accepted)
      ∙ tells_low cs (start_low (chart_in r) inputs inputs' allowed limit (few, p.lent) (few, p'.lent ∙ sym k) f)
      ∙ ap (tells cs) (starts_same mode inputs' allowed (effective limit) (effective limit') c b.limits)
      ∙ sym (ap (tells cs) (begin_starts mode inputs' allowed limit' r' b.accepted'))

pub guarded_secret : (mode : ℕ) → Guarded (mode_of mode) → Secrecy mode mode SameLimit
guarded_secret mode guards = secret mode (guarded_watches guards).1

pub noninterference : Noninterference
noninterference r r' made made' one mode guards inputs inputs' allowed limit limit' a a' limits alike =
    guarded_secret mode guards r r' inputs inputs' allowed limit limit'
    (record { made = made; made' = made'; one_chart = one; limits = limits; accepted = a; accepted' = a' }) alike
