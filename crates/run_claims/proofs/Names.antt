-- How an ending names, by the mode: under surveillance a notice names the marks for which the box
-- ends the run, and in no other mode is anything named. Assumes nothing.
use Prim.Native.Nat.{ℕ}
use mathlib.Core.Path.{◌≡◌, refl, ap, ◌∙◌, subst}
use mathlib.Core.Bool.{true, cond, false≢true}
use Rattle.decode.specs.Decode.{Box, assigns, decides, halts}
use Rattle.marks.specs.Marks.{Mode, bare, surveillance, high_water, marked, union, decision_notice, counter_mark, halt_notice, named_by, hides}
use Rattle.machine.specs.Act.{entry, entries, act_by, act}
use Rattle.machine.specs.Run.{Run, Ending, valued, notice, spent, named_in, Progress, going, over, settle, step, run}
use Rattle.machine.specs.declared.Act.TheVariants.{Go, Value}
use Rattle.machine.proofs.Runs.{run_keeps, goes_by, notice_by}
use Rattle.runs.specs.Whole.{disclosed}
use Rattle.runs.proofs.Disclosed.{disclosed_by}
use Rattle.run_claims.proofs.Branches.{clash}

-- How an ending names by the mode.
pub record NamesBy (mode : Mode) (e : Ending) : Type 0 where
  pub some : mode ≡ surveillance → (named : ℕ) → e ≡ notice named → marked named ≡ true
  pub none : (mode ≡ surveillance → ⊥) → named_in e ≡ 0

spent_names : (mode : Mode) → NamesBy mode spent
spent_names mode = record { some = λ o named e. clash cc; none = λ o. refl }

value_names : (mode : Mode) (v : ℕ) → NamesBy mode (valued v)
value_names mode v = record { some = λ o named e. clash cc; none = λ o. refl }

notice_names : (mode : Mode) (set : ℕ) → marked set ≡ true → NamesBy mode (notice (named_by mode set))
notice_names bare set e = record { some = λ o named q. clash cc; none = λ o. refl }
notice_names surveillance set e = record { some = λ o named q. ap marked (same named q) ∙ e; none = λ o. absurd (o refl) }
  where
    same : (named : ℕ) → notice set ≡ notice named → named ≡ set
    same named q = cc
notice_names high_water set e = record { some = λ o named q. clash cc; none = λ o. refl }

-- A run of that mode, or an ending that names so.
abbrev pub Names : Mode → Progress → Type 0
Names mode (going q) = q.mode ≡ mode
Names mode (over e steps) = NamesBy mode e

settle_names : (q : Run) (b : Box) → Names q.mode (settle (act q.mode b q.vars q.marks q.counter) q)
unfolding settle act_by
settle_names q (assigns t reads gives next) = goes_by (Names q.mode) _ (spent_names q.mode) (λ l. refl)
settle_names q (decides reads holds next other) =
    let m = q.mode in
    let read = union (entries q.marks reads) in
    notice_by (Names q.mode) m (decision_notice m read) (Go (cond (holds (entries q.vars reads)) next other) (counter_mark m q.counter read)) q
    (notice_names q.mode (decision_notice m read))
    (λ e. goes_by (Names q.mode) _ (spent_names q.mode) (λ l. refl))
settle_names q halts =
    let m = q.mode in
    let marks = halt_notice m q.counter (entry q.marks 31) in
    notice_by (Names q.mode) m marks (Value (entry q.vars 31)) q (notice_names q.mode marks) (λ e. value_names q.mode (entry q.vars 31))

run_names : (flow : ℕ → Box) (mode : Mode) (m : ℕ) (q : Run) → q.mode ≡ mode → Names mode (run flow m (going q))
run_names flow mode m q e =
    run_keeps flow (Names mode)
    (λ x h. subst (λ (k : Mode). Names k (step flow x)) h (settle_names x (flow x.at))) m (going q) e

-- Where counts are hidden a notice names nothing, and that is not under surveillance.
hidden_names : (mode : Mode) → hides mode ≡ true → NamesBy mode (notice 0)
hidden_names mode h = record { some = λ o named e. absurd (false≢true (rw o at h)); none = λ o. refl }

pub disclosed_names : (flow : ℕ → Box) (n : ℕ) (q : Run) → Names q.mode (disclosed q.mode (run flow n (going q)))
disclosed_names flow n q =
    disclosed_by (Names q.mode) q.mode (run flow n (going q)) (run_names flow q.mode n q refl) (hidden_names q.mode)
