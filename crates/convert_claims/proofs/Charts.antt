-- What is told of a chart and of its converted one. Their flows are one, since a box that is taken
-- does the same in both editions and a place past the last is a halt in both; so two runners that
-- differ in the edition alone tell the same at every call but a write back and a rewriting, and
-- differ in it alone afterwards, or in nothing after a load. Assumes nothing.
use Rattle.std.specs.Prelude.{Ok, Err, Result, ⊤}
use Prim.Native.Nat.{ℕ, ◌*◌, ◌<◌}
use mathlib.Core.Path.{◌≡◌, refl, ap, ap₂, subst, sym, ◌∙◌, fun_ext}
use mathlib.Core.List.{List, [], ◌∷◌}
use mathlib.Core.Bool.{Bool, true, false, false≢true}
use native.Mathlib.Decide.{dec_lt}
use native.Mathlib.Omega.{arith}
use lib.Dec.{leb}
use lib.ListN.{replicate}
use borrow.Author.Tests.{leb-true, leb-false}
use Rattle.boxes.specs.Bytes.{box_of}
use Rattle.boxes.proofs.Zeros.{zeros_are}
use Rattle.format.specs.File.{header_of, check_file}
use Rattle.format.specs.declared.Header.{Header}
use Rattle.block.specs.declared.Refusal.{Refusal}
use Rattle.format.proofs.Passes.{passes}
use Rattle.chart.specs.Chart.{table_of, Chart, chart_of}
use Rattle.chart.proofs.Lists.{length_part}
use Rattle.chart_claims.proofs.Rules.{obeys_rules}
use Rattle.convert.specs.Convert.{other_than, in_other}
use Rattle.decode.specs.Decode.{Box, decode, meaning, flow}
use Rattle.decode.proofs.Decoded.{box_here, box_past}
use Rattle.marks.specs.Marks.{mode_of}
use Rattle.machine.specs.Run.{Progress, going, over, run}
use Rattle.runs.specs.Whole.{disclosed, whole}
use Rattle.calls.specs.Calls.{Call, load, begin, advance, answer, abandon, write_back, rewrite, check}
use Rattle.calls.proofs.Permits.{rewrites_second}
use Rattle.runner.specs.declared.Runner.{Runner}
use Rattle.runner.specs.State.{flowchart_of, run_in, standing_of, runner_of, idle, ended_with, dropped, flow_in, ran, resumed, mode_held}
use Rattle.runner.specs.Outcomes.{chart, Told, Outcome, says, after, outcome_by, call}
use Rattle.call_claims.specs.Lists.{tells, Along}
use Rattle.call_claims.proofs.ChartLaws.{load_does, loads_file}
use Rattle.convert_claims.specs.Conversions.{TellsNoEdition, EndsAlike, TellsAlike}
use Rattle.convert_claims.proofs.Boxes.{other_is, meant_alike}
use Rattle.convert_claims.proofs.Files.{AllTaken, made, made_header, made_table, made_accepted}

-- A place past the last box holds no box, and is a halt in any edition.
past_halts : (edition other : ℕ) (b : List ℕ) → b ≡ replicate 10 0 → meaning other (decode b) ≡ meaning edition (decode b)
unfolding decode meaning
past_halts edition other b e = rw e refl

-- The flows of the two charts are one.
module _ (f : List ℕ) (h : Header) (e : check_file f ≡ Ok h) (all : AllTaken h (table_of f)) where
  does_alike : (p : ℕ) → p < 204 → meaning (other_than h.edition) (decode (box_of (table_of f) p)) ≡ meaning h.edition (decode (box_of (table_of f) p))
  does_alike p l = on (dec_lt p h.boxes)
    where
      on : Dec (p < h.boxes) → meaning (other_than h.edition) (decode (box_of (table_of f) p)) ≡ meaning h.edition (decode (box_of (table_of f) p))
      on (yes below) = meant_alike _ (box_of (table_of f) p) (all p below) (other_is h.edition (passes f h e).edition)
      on (no past) =
          let o = obeys_rules f h e in
          past_halts h.edition (other_than h.edition) (box_of (table_of f) p)
          (zeros_are (box_of (table_of f) p) (o.zero p (omega arith)) ∙ ap (λ (n : ℕ). replicate n 0) (length_part (table_of f) (10 * p) 10 (omega (arith, o.long))))

  one_flow : flow (other_than h.edition) (table_of f) ≡ flow h.edition (table_of f)
  unfolding meaning
  one_flow = fun_ext (λ p. on p (leb 204 p) refl)
    where
      on : (p : ℕ) (b : Bool) → leb 204 p ≡ b → flow (other_than h.edition) (table_of f) p ≡ flow h.edition (table_of f) p
      on p true q = rw (box_past (table_of f) p (leb-true 204 p q)) refl
      on p false q = rw (box_here (table_of f) p (leb-false 204 p q)) (does_alike p (leb-false 204 p q))

pub ends_alike : EndsAlike
ends_alike f g c mode inputs allowed limit =
    let m = made f g c in
    let h = header_of f in
    ap (λ (k : Header). whole (flowchart_of (record { header = k; table = table_of g })) mode inputs allowed limit) (made_header f g m)
    ∙ ap (λ (t : List ℕ). whole (flowchart_of (record { header = in_other h; table = t })) mode inputs allowed limit) (made_table f g m)
    ∙ ap (λ (fl : ℕ → Box). whole (record { flow = fl; inputs = h.inputs; first = h.first }) mode inputs allowed limit) (one_flow f h m.checks m.all)

-- The runner with its chart said to be of another edition.
abbrev recast : ℕ → Runner → Runner
recast edition r =
    runner_of
    (record { header = record { edition = edition; inputs = r.header.inputs; boxes = r.header.boxes; first = r.header.first }; table = r.table })
    r.mode (run_in r) r.state

-- Two runners that differ in nothing, or in the edition alone where that changes nothing of what
-- the boxes do.
data SameButEdition : Runner → Runner → Type 0 where
  one : {r : Runner} → SameButEdition r r
  two : {r : Runner} (edition : ℕ) → flow edition r.table ≡ flow_in r → SameButEdition r (recast edition r)

-- The refusals do not look at the edition, but for 15, which comes after 22.
check_alike : (c : Call) (edition : ℕ) (r : Runner) → TellsNoEdition c r → check c (standing_of (recast edition r)) ≡ check c (standing_of r)
unfolding check
check_alike (load file) edition r hides = refl
check_alike (begin mode inputs allowed limit) edition r hides = refl
check_alike (advance m) edition r hides = refl
check_alike answer edition r hides = refl
check_alike abandon edition r hides = refl
check_alike (write_back buffer) edition r hides = refl
check_alike rewrite edition r hides = rw hides refl

-- What a run comes to is the same.
module _ (edition : ℕ) (r : Runner) (same : flow edition r.table ≡ flow_in r) where
  ran_alike : (m : ℕ) → ran m (recast edition r) ≡ ran m r
  ran_alike m = ap (λ (fl : ℕ → Box). disclosed (mode_held r) (run fl m (going (run_in r)))) same

  resumed_same : (p : Progress) → SameButEdition (resumed p r) (resumed p (recast edition r))
  unfolding resumed ended_with
  resumed_same (going q) = two edition same
  resumed_same (over x steps) = two edition same

  -- What both tell at an accepted call, and that they stay so.
  abbrev Alike : Result ⊤ Refusal → Call → Type 0
  Alike v c = ((outcome_by v c (recast edition r)).told ≡ (outcome_by v c r).told) × SameButEdition (outcome_by v c r).next (outcome_by v c (recast edition r)).next

  advance_alike : (m : ℕ) → Alike (Ok tt) (advance m)
  unfolding outcome_by says after
  advance_alike m =
      (rw (ran_alike m) refl, rw (ran_alike m) (resumed_same (ran m r)))

  done_alike : (c : Call) → check c (standing_of r) ≡ Ok tt → TellsNoEdition c r → Alike (Ok tt) c
  unfolding outcome_by says after dropped
  done_alike (load file) a hides = (refl, one)
  done_alike (begin mode inputs allowed limit) a hides = (refl, two edition same)
  done_alike (advance m) a hides = advance_alike m
  done_alike answer a hides = (refl, two edition same)
  done_alike abandon a hides = (refl, two edition same)
  done_alike (write_back buffer) a hides = absurd (hides a)
  done_alike rewrite a hides = absurd (false≢true (sym (rewrites_second (standing_of r) a).1 ∙ hides))

  refused_alike : (x : Refusal) (c : Call) → Alike (Err x) c
  unfolding outcome_by
  refused_alike x c = (refl, two edition same)

  call_alike : (c : Call) → TellsNoEdition c r → ((call c (recast edition r)).told ≡ (call c r).told) × SameButEdition (call c r).next (call c (recast edition r)).next
  unfolding call
  call_alike c hides = rw (check_alike c edition r hides) (on (check c (standing_of r)) refl)
    where
      on : (v : Result ⊤ Refusal) → check c (standing_of r) ≡ v → Alike v c
      on (Ok _) a = done_alike c a hides
      on (Err x) a = refused_alike x c

tells_same : (cs : List Call) {r r' : Runner} → SameButEdition r r' → Along TellsNoEdition cs r → tells cs r' ≡ tells cs r
unfolding tells
tells_same [] t hides = refl
tells_same (c ∷ cs) one hides = refl
tells_same (c ∷ cs) (two {r} edition same) hides =
    let a = call_alike edition r same c hides.0 in
    ap₂ (λ (t : Told) (ts : List Told). t ∷ ts) a.0 (tells_same cs a.1 hides.1)

-- What load tells, and the runner after it, by the chart of the file.
abbrev loads : Chart → Outcome
loads c = record { told = record { reply = chart c.header.inputs c.header.boxes; buffer = [] }; next = idle c }

pub tells_alike : TellsAlike
unfolding tells
tells_alike f g c r r' rests rests' cs hides =
    let m = made f g c in
    let h = header_of f in
    let other : Chart = record { header = in_other h; table = table_of f } in
    let is : chart_of g ≡ other = (let header = made_header f g m in let table = made_table f g m in cc) in
    let first : call (load f) r ≡ loads (chart_of f) = load_does f r (loads_file r f m.checks rests) in
    let second : call (load g) r' ≡ loads other = load_does g r' (loads_file r' g (made_accepted f g m) rests') ∙ ap loads is in
    let same : SameButEdition (idle (chart_of f)) (idle other) = two (other_than h.edition) (one_flow f h m.checks m.all) in
    ap (λ (o : Outcome). o.told ∷ tells cs o.next) second
    ∙ ap (λ (ts : List Told). (loads (chart_of f)).told ∷ ts) (tells_same cs same (subst (λ (o : Outcome). Along TellsNoEdition cs o.next) first hides))
    ∙ sym (ap (λ (o : Outcome). o.told ∷ tells cs o.next) first)
