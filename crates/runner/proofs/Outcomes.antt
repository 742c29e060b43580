-- The outcome of each call, case by case, over plain variables: what the proof of a method cites
-- where it returns. Assumes nothing.
use Rattle.std.specs.Prelude.{true, false, Result, Ok, Err, ⊤}
use Prim.Native.Nat.{ℕ}
use mathlib.Core.Path.{◌≡◌, refl, ap, sym, ◌∙◌}
use mathlib.Core.List.{List, []}
use Rattle.block.specs.Refusing.{refusal}
use Rattle.format.specs.File.{check_file}
use Rattle.format.specs.declared.Header.{Header}
use Rattle.block.specs.declared.Refusal.{Refusal}
use Rattle.format.proofs.Passes.{passes}
use Rattle.chart.specs.Chart.{table_of}
use Rattle.chart.specs.WriteBack.{file_length, put_file}
use Rattle.chart.proofs.Writes.{put_fits}
use Rattle.rewrite.specs.Rewrite.{rewritten}
use Rattle.marks.specs.Marks.{code_of, mode_of}
use Rattle.marks.specs.declared.Mode as code
use Rattle.machine.specs.Run.{Progress}
use Rattle.begin.specs.Begin.{effective, first_vars, first_marks}
use Rattle.calls.specs.Calls.{Call, refuse, file_verdict, check}
use Rattle.calls.specs.Calls as calls
use Rattle.calls.proofs.Permits.{write_back_fits}
use Rattle.runner.specs.declared.Runner.{Runner}
use Rattle.runner.specs.declared.Advanced.{Advanced}
use Rattle.runner.specs.declared.Answered.{Answered}
use Rattle.runner.specs.declared.State.{State}
use Rattle.runner.specs.declared.State.TheVariants.{NoRun, Running, Ended}
use Rattle.runner.specs.State.{chart_in, is_ended_in, is_running, is_ended, standing_of, mode_held, runner_of, idle, dropped, ran, resumed}
use Rattle.runner.specs.Outcomes.{outcome, after, progress_reply, says, outcome_by, call}
use Rattle.runner.specs.Outcomes as outcomes
use Rattle.runner.specs.Replies.{load_reply, verdict_reply, advance_reply, answer_reply, written_reply}

by_verdict_lem : (c : Call) (r : Runner) (v : Result ⊤ Refusal) → check c (standing_of r) ≡ v → outcome_by v c r ≡ call c r
unfolding call
by_verdict_lem c r v e = sym (ap (λ (x : Result ⊤ Refusal). outcome_by x c r) e)

-- A state that is not that of an ended run.
pub not_ended : (s : State) → ((a : Answered) → s ≡ Ended a → ⊥) → is_ended_in s ≡ false
not_ended NoRun never = refl
not_ended Running never = refl
not_ended (Ended a) never = absurd (never a refl)

-- Load.
module _ (file : List ℕ) (r : Runner) where
  pub load_busy : (x : Refusal) → x ≡ refusal 22 0 → is_running r ≡ true → outcome (load_reply (Err x)) [] r ≡ call (calls.load file) r
  unfolding check load_reply outcome_by
  load_busy x d e = ap (λ (y : Refusal). outcome (outcomes.turned_away y) [] r) d ∙ by_verdict_lem (calls.load file) r (refuse 22) (rw e)

  pub load_accepts : (h : Header) (table : List ℕ) (next : Runner) → is_running r ≡ false → check_file file ≡ Ok h → table ≡ table_of file
      → next ≡ idle (record { header = h; table = table })
      → outcome (load_reply (Ok (record { inputs = h.inputs; boxes = h.boxes }))) [] next ≡ call (calls.load file) r
  unfolding check file_verdict load_reply outcome_by says after
  load_accepts h table next n e t d =
      ap (outcome (outcomes.chart h.inputs h.boxes) []) (d ∙ ap (λ (x : List ℕ). idle (record { header = h; table = x })) t)
      ∙ ap (λ (x : Header). outcome (outcomes.chart x.inputs x.boxes) [] (idle (record { header = x; table = table_of file }))) (passes file h e).header
      ∙ by_verdict_lem (calls.load file) r (Ok tt) (rw (n, e))

  pub load_refuses : (x : Refusal) → is_running r ≡ false → check_file file ≡ Err x → outcome (load_reply (Err x)) [] r ≡ call (calls.load file) r
  unfolding check file_verdict load_reply outcome_by
  load_refuses x n e = by_verdict_lem (calls.load file) r (Err x) (rw (n, e))

-- Begin.
module _ (mode : ℕ) (inputs : List ℕ) (allowed limit : ℕ) (r : Runner) where
  -- A run at its start, with these variables, marks, limit and mode.
  abbrev started_with : (vars marks : List ℕ) → ℕ → code.Mode → Runner
  started_with vars marks l m =
      runner_of (chart_in r) m (record { vars = vars; marks = marks; counter = 0; mode = mode_of mode; at = r.header.first; limit = l; steps = 0 }) Running

  pub begin_accepts : (vars marks : List ℕ) (l : ℕ) (m : code.Mode) → Ok tt ≡ check (calls.begin mode inputs allowed limit) (standing_of r)
      → vars ≡ first_vars inputs → marks ≡ first_marks allowed r.header.inputs → l ≡ effective limit → m ≡ code_of mode
      → outcome (verdict_reply (Ok tt)) [] (started_with vars marks l m) ≡ call (calls.begin mode inputs allowed limit) r
  unfolding verdict_reply outcome_by says after
  begin_accepts vars marks l m e ev em el ek =
      ap (λ (x : List ℕ). outcome outcomes.done [] (started_with x marks l m)) ev
      ∙ ap (λ (x : List ℕ). outcome outcomes.done [] (started_with (first_vars inputs) x l m)) em
      ∙ ap (λ (x : ℕ). outcome outcomes.done [] (started_with (first_vars inputs) (first_marks allowed r.header.inputs) x m)) el
      ∙ ap (λ (x : code.Mode). outcome outcomes.done [] (started_with (first_vars inputs) (first_marks allowed r.header.inputs) (effective limit) x)) ek
      ∙ by_verdict_lem (calls.begin mode inputs allowed limit) r (Ok tt) (sym e)

  pub begin_refuses : (v : Result ⊤ Refusal) (x : Refusal) → v ≡ check (calls.begin mode inputs allowed limit) (standing_of r) → v ≡ Err x
      → outcome (verdict_reply v) [] r ≡ call (calls.begin mode inputs allowed limit) r
  unfolding verdict_reply outcome_by
  begin_refuses v x e d =
      ap (λ (y : Result ⊤ Refusal). outcome (verdict_reply y) [] r) d ∙ by_verdict_lem (calls.begin mode inputs allowed limit) r (Err x) (sym e ∙ d)

-- Advance: a run that has come to something, and one that is refused.
module _ (m : ℕ) (r next : Runner) (told : Result Advanced Refusal) where
  pub advance_runs : (p : Progress) → check (calls.advance m) (standing_of r) ≡ Ok tt → ran m r ≡ p → advance_reply told ≡ progress_reply (mode_held r) p
      → next ≡ resumed p r
      → outcome (advance_reply told) [] next ≡ call (calls.advance m) r
  unfolding outcome_by says after
  advance_runs p v e t d =
      ap (λ (x : outcomes.Reply). outcome x [] next) t
      ∙ ap (outcome (progress_reply (mode_held r) p) []) d
      ∙ ap (λ (x : Progress). outcome (progress_reply (mode_held r) x) [] (resumed x r)) (sym e)
      ∙ by_verdict_lem (calls.advance m) r (Ok tt) v

  pub advance_refuses : (x : Refusal) → check (calls.advance m) (standing_of r) ≡ Err x → advance_reply told ≡ outcomes.turned_away x → next ≡ r
      → outcome (advance_reply told) [] next ≡ call (calls.advance m) r
  unfolding outcome_by
  advance_refuses x v t d =
      ap (λ (y : outcomes.Reply). outcome y [] next) t
      ∙ ap (outcome (outcomes.turned_away x) []) d
      ∙ by_verdict_lem (calls.advance m) r (Err x) v

-- Abandon, answer, write back and the rewriter.
module _ (r : Runner) where
  pub abandon_refuses : (v : Result ⊤ Refusal) → is_running r ≡ false → v ≡ refuse 23 → outcome (verdict_reply v) [] r ≡ call calls.abandon r
  unfolding check verdict_reply outcome_by
  abandon_refuses v n e = ap (λ (x : Result ⊤ Refusal). outcome (verdict_reply x) [] r) e ∙ by_verdict_lem calls.abandon r (refuse 23) (rw n)

  pub abandon_drops : (q : Runner) → is_running r ≡ true → q ≡ dropped r → outcome (verdict_reply (Ok tt)) [] q ≡ call calls.abandon r
  unfolding check verdict_reply outcome_by says after
  abandon_drops q e d = ap (outcome outcomes.done []) d ∙ by_verdict_lem calls.abandon r (Ok tt) (rw e)

  pub answer_refuses : (x : Refusal) → x ≡ refusal 24 0 → is_ended r ≡ false → outcome (answer_reply (Err x)) [] r ≡ call calls.answer r
  unfolding check answer_reply outcome_by
  answer_refuses x d l = ap (λ (y : Refusal). outcome (outcomes.turned_away y) [] r) d ∙ by_verdict_lem calls.answer r (refuse 24) (rw l)

  pub answer_tells : (a : Answered) → r.state ≡ Ended a → outcome (answer_reply (Ok a)) [] r ≡ call calls.answer r
  unfolding check answer_reply outcome_by says after
  answer_tells a e = sym (rw e) ∙ by_verdict_lem calls.answer r (Ok tt) (rw e)

  -- What stands in the buffer after the file was put there, and the length told.
  pub write_back_accepts : (n : ℕ) (buffer end : List ℕ) → Ok tt ≡ check (calls.write_back buffer) (standing_of r) → n ≡ file_length r.header
      → end ≡ put_file r.header r.table buffer
      → outcome (written_reply (Ok n)) end r ≡ call (calls.write_back buffer) r
  unfolding written_reply outcome_by says after
  write_back_accepts n buffer end v e d =
      let fits = write_back_fits buffer (standing_of r) (sym v) in
      ap (λ (k : ℕ). outcome (outcomes.wrote k) end r) e
      ∙ ap (λ (b : List ℕ). outcome (outcomes.wrote (file_length r.header)) b r) (d ∙ put_fits r.header r.table buffer fits.0 fits.1)
      ∙ by_verdict_lem (calls.write_back buffer) r (Ok tt) (sym v)

  pub write_back_refuses : (v : Result ⊤ Refusal) (x : Refusal) (buffer : List ℕ) → v ≡ check (calls.write_back buffer) (standing_of r) → v ≡ Err x
      → outcome (written_reply (Err x)) buffer r ≡ call (calls.write_back buffer) r
  unfolding written_reply outcome_by
  write_back_refuses v x buffer e d = by_verdict_lem (calls.write_back buffer) r (Err x) (sym e ∙ d)

  pub rewrite_accepts : (table : List ℕ) (next : Runner) → Ok tt ≡ check calls.rewrite (standing_of r) → table ≡ rewritten r.table
      → next ≡ idle (record { header = r.header; table = table })
      → outcome (verdict_reply (Ok tt)) [] next ≡ call calls.rewrite r
  unfolding verdict_reply outcome_by says after
  rewrite_accepts table next v t d =
      ap (outcome outcomes.done []) (d ∙ ap (λ (x : List ℕ). idle (record { header = r.header; table = x })) t) ∙ by_verdict_lem calls.rewrite r (Ok tt) (sym v)

  pub rewrite_refuses : (v : Result ⊤ Refusal) (x : Refusal) → v ≡ check calls.rewrite (standing_of r) → v ≡ Err x
      → outcome (verdict_reply v) [] r ≡ call calls.rewrite r
  unfolding verdict_reply outcome_by
  rewrite_refuses v x e d =
      ap (λ (y : Result ⊤ Refusal). outcome (verdict_reply y) [] r) d ∙ by_verdict_lem calls.rewrite r (Err x) (sym e ∙ d)
