-- What an accepted call does, which one runs boxes and what it tells, and that a run under way is
-- not answered. Assumes nothing.
use Rattle.std.specs.Prelude.{Ok, Result, ⊤}
use Rattle.block.specs.declared.Refusal.{Refusal}
use Prim.Native.Nat.{ℕ}
use mathlib.Core.Path.{◌≡◌, ap, subst}
use mathlib.Core.Bool.{cond}
use Rattle.marks.specs.Marks.{Mode, hides}
use Rattle.machine.specs.Run.{Progress, going, over}
use Rattle.calls.specs.Calls.{Call, load, begin, advance, answer, abandon, write_back, rewrite, check}
use Rattle.calls.proofs.Permits.{not_done}
use Rattle.runner.specs.declared.State.TheVariants.{Running}
use Rattle.runner.specs.declared.Runner.{Runner}
use Rattle.runner.specs.Outcomes.{Reply, running, ended, runs, effect, progress_reply, outcome_by, call}
use Rattle.call_claims.specs.Lists.{Accepted}
use Rattle.run_claims.proofs.Branches.{clash}

pub call_done : (c : Call) (r : Runner) → Accepted c r → call c r ≡ outcome_by (Ok tt) c r
unfolding call
call_done c r e = ap (λ (v : Result ⊤ Refusal). outcome_by v c r) e

pub no_answer : (r : Runner) → r.state ≡ Running → Accepted answer r → ⊥
unfolding check
no_answer r h e = not_done (rw h at e)

-- The call that runs boxes.
pub runs_only : (c : Call) (m : ℕ) → effect c ≡ runs m → c ≡ advance m
runs_only (load f) m e = clash cc
runs_only (begin k i a l) m e = clash cc
runs_only (advance n) m e = ap advance (amount e)
  where
    amount : runs n ≡ runs m → n ≡ m
    amount q = cc
runs_only answer m e = clash cc
runs_only abandon m e = clash cc
runs_only (write_back b) m e = clash cc
runs_only rewrite m e = clash cc

pub runs_accepted : (c : Call) (m : ℕ) (r : Runner) → effect c ≡ runs m → Accepted c r → Accepted (advance m) r
runs_accepted c m r e a = subst (λ (x : Call). Accepted x r) (runs_only c m e) a

-- It tells "running" or "ended".
pub progress_by : (Good : Reply → Type 0) → ((steps : ℕ) → Good (running steps)) → ((steps : ℕ) → Good (ended steps)) → (m : Mode) (p : Progress)
    → Good (progress_reply m p)
unfolding progress_reply
progress_by Good on off m (going q) = on q.steps
progress_by Good on off m (over e steps) = off (cond (hides m) 0 steps)
