-- Lists of calls: "each call getting the runner that the last one handed back".
use Rattle.std.specs.Prelude.{Ok, ℕ, ◌+◌, ◌≡◌}
use mathlib.Core.List.{List, [], ◌∷◌, Memᴰ}
use Rattle.calls.specs.Calls.{Call, begin, answer, check}
use Rattle.runner.specs.declared.Runner.{Runner}
use Rattle.runner.specs.State.{standing_of, new_runner}
use Rattle.runner.specs.Outcomes.{Reply, Told, Effect, runs, keeps, begins, drops, replaces, effect, call}

-- "Callers get a runner only as a new one or from a call".
pub data Reached : Runner → Type 0 where
  fresh : Reached new_runner
  then : {r : Runner} → Reached r → (c : Call) → Reached (call c r).next

-- "Accepted means not refused."
abbrev pub Accepted : Call → Runner → Type 0
Accepted c r = check c (standing_of r) ≡ Ok tt

-- The runner that a begin hands back.
abbrev pub begun : (mode : ℕ) (inputs : List ℕ) (allowed limit : ℕ) → Runner → Runner
begun mode inputs allowed limit r = (call (begin mode inputs allowed limit) r).next

-- What a list of calls tells, call by call, and the runner that it ends in.
unfoldable pub tells : List Call → Runner → List Told
tells [] r = []
tells (c ∷ cs) r = (call c r).told ∷ tells cs (call c r).next

unfoldable pub final : List Call → Runner → Runner
final [] r = r
final (c ∷ cs) r = final cs (call c r).next

-- What holds of every call of a list, at the runner that it gets.
abbrev pub Along : (Call → Runner → Type 0) → List Call → Runner → Type 0
Along P [] r = Unit {0}
Along P (c ∷ cs) r = P c r × Along P cs (call c r).next

-- What is asked of a call so that it does no more to a run than run its boxes: nothing where it
-- runs boxes or keeps all as it is, and else something.
abbrev pub OnlyRuns : Effect → Type 0 → Type 0
OnlyRuns (runs m) Else = Unit {0}
OnlyRuns keeps Else = Unit {0}
OnlyRuns (begins mode start) Else = Else
OnlyRuns drops Else = Else
OnlyRuns (replaces by) Else = Else

-- "the lists hold only advance, answer, write back and refused calls": advance runs boxes, answer
-- and write back keep all, and another call is refused.
abbrev pub Continues : Call → Runner → Type 0
Continues c r = OnlyRuns (effect c) (Accepted c r → ⊥)

abbrev pub AllContinue : List Call → Runner → Type 0
AllContinue cs r = Along Continues cs r

-- What holds of every run as calls continue it: of the runner that an accepted begin got, of what
-- the begin was given, and of a list of such calls after it.
abbrev pub Continued : ((r : Runner) (mode : ℕ) (inputs : List ℕ) (allowed limit : ℕ) → List Call → Type 0) → Type 0
Continued P =
    (r : Runner) (mode : ℕ) (inputs : List ℕ) (allowed limit : ℕ)
    → Accepted (begin mode inputs allowed limit) r
    → (cs : List Call)
    → AllContinue cs (begun mode inputs allowed limit r)
    → P r mode inputs allowed limit cs

-- What holds of every reply after an accepted begin, while calls only continue its run: by the
-- runner that the begin got, its mode, its allowed set and its limit.
abbrev pub AllTold : ((r : Runner) (mode allowed limit : ℕ) → Reply → Type 0) → Type 0
AllTold P =
    Continued
    (λ r mode inputs allowed limit cs. (t : Told)
    → Memᴰ t (tells cs (begun mode inputs allowed limit r))
    → P r mode allowed limit t.reply)

-- The boxes that a call asks for, and a list of them: "the true sum of the amounts asked".
abbrev pub amount_of : Effect → ℕ
amount_of (runs m) = m
amount_of keeps = 0
amount_of (begins mode start) = 0
amount_of drops = 0
amount_of (replaces by) = 0

unfoldable pub asked : List Call → ℕ
asked [] = 0
asked (c ∷ cs) = amount_of (effect c) + asked cs

-- A list ends the run: after it there is an ended run to answer.
abbrev pub Ends : List Call → Runner → Type 0
Ends cs r = Accepted answer (final cs r)
