-- The claims about high-water runs: what is disclosed of an ending counts a value alone; and an
-- accepted advance asks for the limit or more, and as many boxes end the run. Assumes nothing.
use Prim.Native.Nat.{ℕ, ◌+◌}
use mathlib.Core.Path.{◌≡◌, refl, ap, sym, ◌∙◌, subst}
use mathlib.Core.List.{List, []}
use mathlib.Core.Bool.{true}
use native.Mathlib.Omega.{arith}
use Rattle.marks.specs.Marks.{Mode, high_water, mode_of, hides}
use Rattle.machine.specs.Run.{valued, notice, spent, Progress, going, over, run}
use Rattle.runs.specs.Whole.{Flowchart, start_of, disclosed, finish, whole}
use Rattle.begin.specs.Begin.{effective}
use Rattle.begin.proofs.Begins.{effective_positive}
use Rattle.calls.specs.Calls.{begin}
use Rattle.runner.specs.declared.Runner.{Runner}
use Rattle.runner.specs.State.{flowchart_in, is_running, least_in, run_in, flow_in, ran, resumed}
use Rattle.runner.specs.Outcomes.{Reply, ended, ending, Told, Outcome, progress_reply}
use Rattle.call_claims.specs.Lists.{Accepted, final}
use Rattle.call_claims.specs.HighWater.{CountsValuesOnly, HighWaterTells, answer_to, HighWaterAnswers, EndsAtOnce, HighWaterEnds}
use Rattle.run_claims.proofs.Branches.{clash}
use Rattle.run_claims.proofs.Counting.{Over, run_ends}
use Rattle.call_claims.proofs.Continuing.{advance_does, advance_accepts, advance_less, advance_asked, Replied, did, holds, came, ended_so, put, turned, final_from, replied_from}
use Rattle.call_claims.proofs.RunLaws.{start, begun_is, reaches, over_ends, tells_whole_run}

high_mode : (mode : ℕ) → mode ≡ 2 → mode_of mode ≡ high_water
high_mode mode e = rw e

high_hides : (mode : ℕ) → mode ≡ 2 → hides (mode_of mode) ≡ true
high_hides mode e = rw (high_mode mode e)

-- What is disclosed where counts are hidden.
abbrev Hidden : Progress → Type 0
Hidden (going q) = Unit {0}
Hidden (over e steps) = CountsValuesOnly (ending e steps)

disclosed_hidden : (m : Mode) → hides m ≡ true → (p : Progress) → Hidden (disclosed m p)
unfolding disclosed
disclosed_hidden m h (going q) = tt
disclosed_hidden m h (over (valued v) steps) = tt
disclosed_hidden m h (over (notice named) steps) = rw h (refl, refl)
disclosed_hidden m h (over spent steps) = rw h (refl, refl)

-- What advance tells of a run that is over there.
over_told : (m : Mode) → hides m ≡ true → (p : Progress) → Over p → progress_reply m p ≡ ended 0
unfolding progress_reply
over_told m h p o = rw (o.is, h) refl

pub high_water_tells : HighWaterTells
high_water_tells r mode inputs allowed limit a cs q t m two = by (replied_from s refl (begun_is r mode inputs allowed limit a) cs q t m)
  where
    s : Runner
    s = start r mode inputs allowed limit a

    hidden : hides (mode_of mode) ≡ true
    hidden = high_hides mode two

    by : {x : Reply} → Replied s refl x → CountsValuesOnly x
    by did = tt
    by holds = tt
    by (came n l) =
        subst CountsValuesOnly (sym (over_told (mode_of mode) hidden (ran n s) (reaches r mode inputs allowed limit a n (rw hidden at l)))) refl
    by (ended_so n d) = subst Hidden d (disclosed_hidden (mode_of mode) hidden (run (flow_in r) n (going (run_in s))))
    by put = tt
    by turned = tt

-- What an answer tells of a run that is over.
finish_hidden : (m : Mode) → hides m ≡ true → (p : Progress) → Over p → ending (finish (disclosed m p)).ending (finish (disclosed m p)).steps ≡ answer_to p
unfolding disclosed finish
finish_hidden m h (going q) o = let e = o.is in clash cc
finish_hidden m h (over (valued v) steps) o = refl
finish_hidden m h (over (notice named) steps) o = rw h refl
finish_hidden m h (over spent steps) o = rw h refl

-- What is told of a whole run.
abbrev whole_told : Flowchart → Mode → (inputs : List ℕ) (allowed limit : ℕ) → Told
whole_told c m inputs allowed limit = let all = whole c m inputs allowed limit in record { reply = ending all.ending all.steps; buffer = [] }

pub high_water_answers : HighWaterAnswers
unfolding whole
high_water_answers r mode inputs allowed limit a cs q two ends =
    let l = effective limit in
    let first = start_of (flowchart_in r) high_water inputs allowed l in
    let o = run_ends (flow_in r) l first (effective_positive limit) (omega arith) in
    tells_whole_run r mode inputs allowed limit a cs q ends
    ∙ ap (λ (k : Mode). whole_told (flowchart_in r) k inputs allowed l) (high_mode mode two)
    ∙ ap (λ (x : Reply). record { reply = x; buffer = [] }) (finish_hidden high_water refl (run (flow_in r) l (going first)) o)

-- A run of this mode, after so many boxes.
module _ (r : Runner) (mode : ℕ) (inputs : List ℕ) (allowed limit : ℕ) (a : Accepted (begin mode inputs allowed limit) r) (two : mode ≡ 2) (n m : ℕ) where
  abbrev first : Runner
  first = start r mode inputs allowed limit a

  least : least_in first ≡ effective limit
  least = rw (high_hides mode two)

  ends_at_once : is_running (resumed (ran n first) first) ≡ true → EndsAtOnce (effective limit) (resumed (ran n first) first) m
  unfolding final
  ends_at_once on =
      let is = least in
      record {
        less = λ l. advance_less first refl m n on (omega arith);
        enough = λ l. advance_accepts first refl m n on (omega arith);
        ends =
            λ c.
            let does = advance_does first refl m n c in
            let asked = advance_asked first refl m n c in
            let o = reaches r mode inputs allowed limit a (n + m) (omega arith) in (
              ap (λ (x : Outcome). x.told) does ∙ ap (λ (x : Reply). record { reply = x; buffer = [] }) (over_told (mode_of mode) (high_hides mode two) (ran (n + m) first) o),
              over_ends first refl (ran (n + m) first) (ap (λ (x : Outcome). x.next) does) o,
            );
      }

pub high_water_ends : HighWaterEnds
high_water_ends r mode inputs allowed limit a cs q two on m =
    let last = final_from (start r mode inputs allowed limit a) refl (begun_is r mode inputs allowed limit a) cs q in
    subst (λ (x : Runner). EndsAtOnce (effective limit) x m) (sym last.is)
    (ends_at_once r mode inputs allowed limit a two last.boxes m (subst (λ (x : Runner). is_running x ≡ true) last.is on))
