-- The sets that are told. What a list tells with an ending is what its run is over with, so what a
-- run carries holds of the set that is named: it is of withheld inputs; and it is named by the
-- mode. Assumes nothing.
use Prim.Native.Nat.{ℕ}
use mathlib.Core.Path.{◌≡◌, refl, ap, sym, subst}
use mathlib.Core.List.{List, Memᴰ}
use Rattle.marks.specs.Marks.{mode_of}
use Rattle.marks.proofs.MarkLaws.{mode_one}
use Rattle.machine.specs.Run.{Ending, notice, named_in, Progress, going, over}
use Rattle.begin.specs.Begin.{effective}
use Rattle.begin.proofs.Begins.{zeros_at}
use Rattle.run_claims.specs.Sets.{AllSets, WithheldOnly}
use Rattle.run_claims.proofs.Carried.{Carries}
use Rattle.run_claims.proofs.Withheld.{none_withheld, run_withheld}
use Rattle.run_claims.proofs.Names.{NamesBy, Names, disclosed_names}
use Rattle.calls.specs.Calls.{Call, begin}
use Rattle.runner.specs.declared.Runner.{Runner}
use Rattle.runner.specs.State.{chart_in, flowchart_in, run_in, ended_with, flow_in, ran, resumed}
use Rattle.runner.specs.Outcomes.{Reply, done, chart, running, ended, ending, wrote, refused, Told}
use Rattle.call_claims.specs.Lists.{Accepted, begun, tells, AllContinue}
use Rattle.call_claims.specs.Sets.{MarksWithheld, named_told, NamesWithheld, SurveillanceNames, OthersNameNone}
use Rattle.call_claims.proofs.Continuing.{final_from}
use Rattle.call_claims.proofs.Answering.{list_tells}
use Rattle.call_claims.proofs.Secrecy.{begin_starts, started}

-- What the runner that has come to something carries.
resumed_carries : (P : ℕ → Type 0) → P 0 → (p : Progress) (r : Runner) → Carries P p → AllSets P (run_in (resumed p r))
unfolding resumed ended_with
resumed_carries P none (going q) r h = record { marks = h.marks; counter = h.counter }
resumed_carries P none (over e steps) r h = record { marks = λ v. subst P (sym (zeros_at 32 v)) none; counter = none }

-- A property of the set told, which no set has to have, and the set of an ending has.
told_named : (P : ℕ → Type 0) → P 0 → (x : Reply) → ((e : Ending) (steps : ℕ) → x ≡ ending e steps → P (named_in e)) → P (named_told x)
told_named P none done f = none
told_named P none (chart inputs boxes) f = none
told_named P none (running steps) f = none
told_named P none (ended steps) f = none
told_named P none (ending e steps) f = f e steps refl
told_named P none (wrote bytes) f = none
told_named P none (refused number detail) f = none

-- From an accepted begin on, while calls continue the run.
module _ (r : Runner) (mode : ℕ) (inputs : List ℕ) (allowed limit : ℕ) (a : Accepted (begin mode inputs allowed limit) r) (cs : List Call)
    (q : AllContinue cs (begun mode inputs allowed limit r)) where
  abbrev start : Runner
  start = started mode inputs allowed (effective limit) (chart_in r)

  begins : begun mode inputs allowed limit r ≡ start
  begins = begin_starts mode inputs allowed limit r a

  -- What a call tells with an ending, the run is over with.
  told_over : (t : Told) → Memᴰ t (tells cs (begun mode inputs allowed limit r)) → (e : Ending) (steps : ℕ) → t.reply ≡ ending e steps
      → (boxes : ℕ) × (ran boxes start ≡ over e steps)
  told_over t m e steps h = list_tells start refl e steps begins cs q t m h

  told_names : (t : Told) → Memᴰ t (tells cs (begun mode inputs allowed limit r)) → (e : Ending) (steps : ℕ) → t.reply ≡ ending e steps → NamesBy (mode_of mode) e
  told_names t m e steps h =
      let o = told_over t m e steps h in
      subst (Names (mode_of mode)) o.1 (disclosed_names (flow_in r) o.0 (run_in start))

pub marks_withheld : MarksWithheld
marks_withheld r mode inputs allowed limit a cs q =
    let s = start r mode inputs allowed limit a cs q in
    let P = WithheldOnly allowed r.header.inputs in
    let last = final_from s refl (begins r mode inputs allowed limit a cs q) cs q in
    subst (λ (x : Runner). AllSets P (run_in x)) (sym last.is)
    (resumed_carries P (none_withheld allowed r.header.inputs) (ran last.boxes s) s
    (run_withheld (flowchart_in r) (mode_of mode) inputs allowed (effective limit) last.boxes))

pub names_withheld : NamesWithheld
names_withheld r mode inputs allowed limit a cs q t m =
    let P = WithheldOnly allowed r.header.inputs in
    told_named P (none_withheld allowed r.header.inputs) t.reply
    (λ e steps h.
    let o = told_over r mode inputs allowed limit a cs q t m e steps h in
    subst (Carries P) o.1 (run_withheld (flowchart_in r) (mode_of mode) inputs allowed (effective limit) o.0))

pub surveillance_names : SurveillanceNames
surveillance_names r mode inputs allowed limit a cs q t m one named steps h =
    (told_names r mode inputs allowed limit a cs q t m (notice named) steps h).some (ap mode_of one) named refl

pub others_name_none : OthersNameNone
others_name_none r mode inputs allowed limit a cs q t m other =
    told_named (λ set. set ≡ 0) refl t.reply (λ e steps h. (told_names r mode inputs allowed limit a cs q t m e steps h).none (λ e. other (mode_one mode e)))
