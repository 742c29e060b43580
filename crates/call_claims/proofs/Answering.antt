-- Which call tells an ending: an answer, of a run that is over with it. Assumes nothing.
use Prim.Native.Nat.{ℕ}
use mathlib.Core.Path.{◌≡◌, ◌∙◌}
use mathlib.Core.List.{List, Memᴰ}
use Rattle.machine.specs.Run.{Ending, over}
use Rattle.calls.specs.Calls.{Call}
use Rattle.runner.specs.declared.State.TheVariants.{Running}
use Rattle.runner.specs.declared.Runner.{Runner}
use Rattle.runner.specs.State.{ran}
use Rattle.runner.specs.Outcomes.{Reply, ending, Told}
use Rattle.call_claims.specs.Lists.{tells, AllContinue}
use Rattle.run_claims.proofs.Branches.{clash}
use Rattle.call_claims.proofs.Accepting.{progress_by}
use Rattle.call_claims.proofs.Continuing.{Replied, did, holds, came, ended_so, put, turned, replied_from}

module _ (r : Runner) (on : r.state ≡ Running) (e : Ending) (steps : ℕ) where
  ending_once : {k k' : Ending} {n n' : ℕ} → ending k n ≡ ending k' n' → over k n ≡ over k' n'
  ending_once h = cc

  over_with : {x : Reply} → Replied r on x → x ≡ ending e steps → (boxes : ℕ) × (ran boxes r ≡ over e steps)
  over_with did h = clash cc
  over_with holds h = clash cc
  over_with (came n l) h = absurd (progress_by (λ x. x ≡ ending e steps → ⊥) (λ s z. clash cc) (λ s z. clash cc) _ (ran n r) h)
  over_with (ended_so n d) h = (n, d ∙ ending_once h)
  over_with put h = clash cc
  over_with turned h = clash cc

  -- A list that tells an ending: after so many boxes the run is over with it.
  pub list_tells : {start : Runner} → start ≡ r → (cs : List Call) → AllContinue cs start → (t : Told) → Memᴰ t (tells cs start) → t.reply ≡ ending e steps
      → (boxes : ℕ) × (ran boxes r ≡ over e steps)
  list_tells begins cs q t m h = over_with (replied_from r on begins cs q t m) h
