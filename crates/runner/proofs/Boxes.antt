-- The loop of advance: what the box at hand does, by the act that the code computed of it, how the
-- run ends or goes on after it, and what advance leaves and tells where the loop is left. Assumes
-- nothing.
use Rattle.std.specs.Prelude.{Option, None, Some, Result, Ok, Err, ⊤}
use Prim.Native.Nat.{ℕ, zero, suc, ◌+◌, ◌-◌, ◌*◌, ◌%◌, ◌^◌, ◌<◌, ◌≤◌}
use mathlib.Core.Path.{◌≡◌, refl, ap, sym, ◌∙◌, subst}
use mathlib.Core.Logic.{◌⊎◌, inl, inr, ⊎_elim}
use mathlib.Core.List.{List, [], ◌∷◌}
use mathlib.Core.Bool.{Bool, true, false, cond}
use native.Mathlib.Omega.{arith}
use lib.Dec.{ltb}
use lib.ListN.{set}
use borrow.Author.Tests.{ltb-true, ltb-false}
use mir.Val.{Val}
use denote.Laws.{Is}
use denote.Shadow.{shadow}
use denote.Array.{each}
use denote.Builtin.{u16}
use denote.Struct.Declared.{row}
use denote.Struct.Laws.{val}
use Rattle.decode.specs.Decode.{box_from, box_at, Box, meaning}
use Rattle.decode.proofs.Decoded.{Finds}
use Rattle.decode.specs.declared.FlowBox.{FlowBox}
use Rattle.block.specs.declared.Refusal.{Refusal}
use Rattle.marks.specs.Marks.{Mode, bare, surveillance, high_water, masks_of, set_by, hides}
use Rattle.marks.specs.declared.Masks.{Masks}
use Rattle.marks.specs.declared.Mode.TheVariants.{Bare}
use Rattle.machine.specs.Act.{act_by, act}
use Rattle.machine.specs.Run.{Run, Ending, Progress, going, over, moved, goes_on, settle, step, run}
use Rattle.runs.specs.Whole.{disclosed}
use Rattle.runs.proofs.Disclosed.{disclosed_by}
use Rattle.machine.specs.declared.Act.{Act}
use Rattle.machine.specs.declared.Act.TheVariants.{Store}
use Rattle.machine.proofs.Acts.{SixteenInputs, sixteen_set, act_by_masks, StoresSixteen, stores_sixteen}
use Rattle.machine.proofs.Runs.{over_still, run_one, run_none, goes_spent, goes_further}
use Rattle.calls.specs.Calls.{by_verdict, check}
use Rattle.calls.specs.Calls as calls
use Rattle.runner.specs.declared.Runner.{Runner}
use Rattle.runner.specs.declared.Advanced.{Advanced}
use Rattle.runner.specs.declared.Portion.{Portion}
use Rattle.runner.specs.declared.Ending as coded
use Rattle.runner.specs.declared.Ending.TheVariants.{Value, Notice, Spent}
use Rattle.runner.specs.declared.Answered.{Answered}
use Rattle.runner.specs.declared.State.TheVariants.{Ended}
use Rattle.runner.specs.State.{chart_in, standing_of, mode_held, ending_of, kept, runner_of, run_in, with_run, no_run, ended_with, flow_in, resumed}
use Rattle.runner.specs.Outcomes.{outcome, progress_reply, call}
use Rattle.runner.specs.Outcomes as outcomes
use Rattle.runner.specs.Replies.{told_of, advance_reply}
use Rattle.runner.specs.contracts.Runner.{the_type}
use Rattle.runner.proofs.Runner.TheLaws.{the_laws}
use Rattle.runner.proofs.Outcomes.{advance_runs, advance_refuses}

-- The run in a runner, at another box after other steps, as the loop keeps them.
abbrev pub seen : Runner → (at steps : ℕ) → Run
seen s at steps =
    record { vars = s.vars; marks = s.marks; counter = s.counter; mode = mode_held s; at = at; limit = s.limit; steps = steps }

-- A runner with what a box stores.
abbrev pub placed : Runner → (vars marks : List ℕ) → (counter : ℕ) → Runner
placed r vars marks counter =
    with_run (record { vars = vars; marks = marks; counter = counter; mode = mode_held r; at = r.at; limit = r.limit; steps = r.steps }) r

-- A runner that differs from another in what boxes store alone.
abbrev pub Stored : Runner → Runner → Type 0
Stored r s = s ≡ placed r s.vars s.marks s.counter

pub stored_more : (r s q : Runner) (vars marks : List ℕ) (counter : ℕ) → Stored r s → q ≡ placed s vars marks counter → Stored r q
stored_more r s q vars marks counter h e =
    subst (Stored r) (sym (e ∙ ap (λ (x : Runner). placed x vars marks counter) h)) refl

-- The box at hand of a runner s that has come from r, by the half of its number, and the act that
-- the code computed of it by the masks of the mode.
pub acts : (s r : Runner) (edition : ℕ) (mode : Mode) (masks : Masks) (at half steps : ℕ) (b : FlowBox) (a : Act) → Stored r s → SixteenInputs s.marks
    → edition ≡ r.header.edition → mode ≡ mode_held r → masks ≡ masks_of mode → Finds half at
    → b ≡ box_from s.table (2 * half) → a ≡ act_by (set_by masks) mode (meaning edition b) s.vars s.marks s.counter
    → (x : Act) → a ≡ x → step (flow_in r) (seen s at steps) ≡ settle x (seen s at steps)
acts s r edition mode masks at half steps b a h small ee em en found from by x d =
    let q = seen s at steps in
    let eb = from ∙ found s.table in
    let ea =
    by
    ∙ ap (λ (n : Masks). act_by (set_by n) mode (meaning edition b) s.vars s.marks s.counter) en
    ∙ act_by_masks mode s.marks small (meaning edition b) s.vars s.counter in
    ap (λ (y : Runner). settle (act (mode_held s) (meaning r.header.edition (box_at y.table at)) q.vars q.marks q.counter) q) (sym h)
    ∙ ap (λ (y : Runner). settle (act (mode_held y) (meaning r.header.edition (box_at s.table at)) q.vars q.marks q.counter) q) h
    ∙ ap (λ (k : Mode). settle (act k (meaning r.header.edition (box_at s.table at)) q.vars q.marks q.counter) q) (sym em)
    ∙ ap (λ (n : ℕ). settle (act mode (meaning n (box_at s.table at)) q.vars q.marks q.counter) q) (sym ee)
    ∙ ap (λ (y : FlowBox). settle (act mode (meaning edition y) q.vars q.marks q.counter) q) (sym eb)
    ∙ ap (λ (y : Act). settle y q) (sym ea ∙ d)

-- What a box stores leaves every mark of 16 inputs.
pub stays_sixteen : (s : Runner) (mode : Mode) (masks : Masks) (b : Box) (a : Act) → SixteenInputs s.marks → masks ≡ masks_of mode
    → a ≡ act_by (set_by masks) mode b s.vars s.marks s.counter
    → (t v m next : ℕ) → a ≡ Store t v m next → SixteenInputs (set s.marks (t % 32) m)
stays_sixteen s mode masks b a small en ea t v m next d =
    sixteen_set s.marks (t % 32) m small
    (subst StoresSixteen
    (ap (λ (n : Masks). act_by (set_by n) mode b s.vars s.marks s.counter) (sym en) ∙ sym ea ∙ d)
    (stores_sixteen mode b s.vars s.marks s.counter))

-- What the type of a runner says of its limit, its steps and its marks: what owning the runner
-- tells has a part for each field, and of an array a part for each element.
each_sixteen : (xs : List ℕ) (us : List Val) → shadow (each u16.Denot u16.own_val xs us) → SixteenInputs xs
each_sixteen [] us p v = omega arith
each_sixteen (x ∷ xs) [] p v = absurd p
each_sixteen (x ∷ xs) (u ∷ us) p zero = p.0.1
each_sixteen (x ∷ xs) (u ∷ us) p (suc v) = each_sixteen xs us p.1 v

module _ (r : Runner) (p : Is (row the_type) r (val the_type the_laws r ∷ [])) where
  pub limit_fits : r.limit < 2 ^ 16
  limit_fits = p.1.1.1.1.1.1.1.0.1

  pub steps_fit : r.steps < 2 ^ 16
  steps_fit = p.1.1.1.1.1.1.1.1.0.1

  pub marks_sixteen : SixteenInputs r.marks
  marks_sixteen = each_sixteen r.marks _ p.1.1.1.1.1.1.1.1.1.1.1.0.1.1

-- A box that does not end the run has left s, and goes to a box.
pub left : (flow : ℕ → Box) (r s : Runner) (from steps : ℕ) (vars marks : List ℕ) (counter to at : ℕ) → s ≡ placed r vars marks counter → at ≡ to
    → step flow (seen r from steps) ≡ goes_on (moved (seen r from steps) vars marks counter to)
    → step flow (seen r from steps) ≡ goes_on (seen s at (steps + 1))
left flow r s from steps vars marks counter to at e d g =
    g ∙ ap (λ (n : ℕ). goes_on (seen (placed r vars marks counter) n (steps + 1))) (sym d) ∙ ap (λ (x : Runner). goes_on (seen x at (steps + 1))) (sym e)

-- What m boxes of a run come to: it goes on in the runner s at a box after so many steps, or it is
-- over.
abbrev pub CameTo : (flow : ℕ → Box) (m : ℕ) (q : Run) (s : Runner) (at : ℕ) (end : Option coded.Ending) (steps : ℕ) → Type 0
CameTo flow m q s at end steps =
    ((end ≡ None) × (steps < 2 ^ 16) × (run flow m (going q) ≡ going (seen s at steps)))
    ⊎ ((e : coded.Ending) × (end ≡ Some e) × (run flow m (going q) ≡ over (ending_of e) steps))

pub came_as : (flow : ℕ → Box) (m : ℕ) (q : Run) (s : Runner) (at : ℕ) {end end' : Option coded.Ending} {steps steps' : ℕ}
    → end' ≡ end → steps' ≡ steps
    → CameTo flow m q s at end steps
    → CameTo flow m q s at end' steps'
came_as flow m q s at ee es h = rw (ee, es) h

-- What an advance is allotted of the boxes asked for: below the limit up to its last box, and then
-- all of them, below it still, or as many as reach it.
abbrev pub Allotted : (asked limit before boxes : ℕ) (end : Option coded.Ending) → Type 0
Allotted asked limit before boxes end =
    ((k : ℕ) → 0 < k → k < boxes → before + k < limit)
    × (((boxes ≡ asked) × (end ≡ None) × (0 < boxes → before + boxes < limit))
    ⊎ ((boxes ≤ asked) × (0 < boxes) × (end ≡ Some Spent) × (limit ≤ before + boxes)))

module _ (asked limit before : ℕ) where
  -- The boxes left to the limit, by whether there are any.
  abbrev left_by : Bool → ℕ
  left_by b = cond b (limit - before) 1

  left_to : (b : Bool) → ltb before limit ≡ b
      → (0 < left_by b) × (limit ≤ before + left_by b) × ((k : ℕ) → 0 < k → k < left_by b → before + k < limit)
  left_to true e = let l = ltb-true before limit e in (omega arith, omega arith, λ k pos below. omega arith)
  left_to false e = let l = ltb-false before limit e in (omega arith, omega arith, λ k pos below. absurd (omega arith))

  abbrev portion_by : Bool → (left : ℕ) → Portion
  portion_by b left = cond b (record { boxes = asked; end = None }) (record { boxes = left; end = Some Spent })

  portion_by_lem : (left : ℕ) → (0 < left) × (limit ≤ before + left) × ((k : ℕ) → 0 < k → k < left → before + k < limit)
      → (b : Bool) → ltb asked left ≡ b
      → Allotted asked limit before (portion_by b left).boxes (portion_by b left).end
  portion_by_lem left h true e =
      let l = ltb-true asked left e in
      (λ k pos below. h.2 k pos (omega arith), inl (refl, refl, λ pos. h.2 asked pos l))
  portion_by_lem left h false e = (h.2, inr (ltb-false asked left e, h.0, refl, h.1))

  pub allotted : (p : Portion) → p ≡ (let left = cond (ltb before limit) (limit - before) 1 in portion_by (ltb asked left) left)
      → Allotted asked limit before p.boxes p.end
  allotted p e =
      subst (λ (x : Portion). Allotted asked limit before x.boxes x.end) (sym e)
      (portion_by_lem (left_by (ltb before limit)) (left_to (ltb before limit) refl) (ltb asked (left_by (ltb before limit))) refl)

-- Where boxes are left of those allotted, boxes are to go of those asked for.
pub to_go : (asked limit before boxes : ℕ) (end : Option coded.Ending) (n left : ℕ) → Allotted asked limit before boxes end → n + boxes ≡ asked + left → 0 < left → 0 < n
to_go asked limit before boxes end n left h e pos = ⊎_elim (λ w. omega (arith, w.0)) (λ w. omega (arith, w.0)) h.1

-- A run from `first` of which n of the boxes asked for are to go, and `left` of those allotted:
-- where none is left, it has come to what all of them come to.
abbrev pub Reached : (flow : ℕ → Box) (asked : ℕ) (first : Run) (s : Runner) (at : ℕ) (end : Option coded.Ending) (left n steps : ℕ) → Type 0
Reached flow asked first s at end left n steps =
    (0 < left → run flow asked (going first) ≡ run flow n (going (seen s at steps))) × (left ≤ 0 → CameTo flow asked first s at end steps)

pub reached_first : (flow : ℕ → Box) (asked limit : ℕ) (r : Runner) (boxes : ℕ) (end : Option coded.Ending) → Allotted asked limit r.steps boxes end → r.steps < 2 ^ 16
    → Reached flow asked (run_in r) r r.at end boxes asked r.steps
reached_first flow asked limit r boxes end h fits = (
  λ pos. refl,
  λ none. ⊎_elim (λ w. inl (w.1, fits, run_none flow asked (going (run_in r)) (omega (arith, w.0)))) (λ w. absurd (omega (arith, w.1))) h.1,
)

-- A run of the boxes asked for that has come to q with n to go: its end, and what is reached after
-- a box that does not end it.
module _ (flow : ℕ → Box) (asked n : ℕ) (first q : Run) (t : run flow asked (going first) ≡ run flow n (going q)) (h : 0 < n) where
  turned : (p : Progress) → step flow q ≡ p → run flow asked (going first) ≡ run flow (n - 1) p
  turned p d = t ∙ run_one flow n q h ∙ ap (run flow (n - 1)) d

  pub came_over : (e : coded.Ending) (s : Runner) (at : ℕ) (end : Option coded.Ending) (steps : ℕ) → step flow q ≡ over (ending_of e) (q.steps + 1) → end ≡ Some e
      → steps ≡ q.steps + 1
      → CameTo flow asked first s at end steps
  came_over e s at end steps d ee es = inr (e, ee, turned _ d ∙ over_still flow (n - 1) (ending_of e) (q.steps + 1) ∙ ap (over (ending_of e)) (sym es))

  pub reached_next : (limit before boxes : ℕ) (end : Option coded.Ending) (left : ℕ) (s : Runner) (at : ℕ) → Allotted asked limit before boxes end → limit < 2 ^ 16 → s.limit ≡ limit
      → 0 < left
      → left ≤ boxes
      → q.steps + left ≡ before + boxes
      → n + boxes ≡ asked + left
      → step flow q ≡ goes_on (seen s at (q.steps + 1))
      → Reached flow asked first s at end (left - 1) (n - 1) (q.steps + 1)
  reached_next limit before boxes end left s at allot fits el pos most es en d = (further, last)
    where
      next : Run
      next = seen s at (q.steps + 1)

      goes : q.steps + 1 < limit → run flow asked (going first) ≡ run flow (n - 1) (going next)
      goes l = turned _ (d ∙ goes_further next (omega (arith, el)))

      further : 0 < left - 1 → run flow asked (going first) ≡ run flow (n - 1) (going next)
      further more =
          ⊎_elim
          (λ w. let l = w.2 (omega (arith, w.0)) in goes (omega (arith, w.0)))
          (λ w. let l = allot.0 (boxes - (left - 1)) (omega arith) (omega arith) in goes (omega arith))
          allot.1

      last : left - 1 ≤ 0 → CameTo flow asked first s at end (q.steps + 1)
      last none =
          ⊎_elim
          (λ w.
          let l = w.2 (omega (arith, w.0)) in
          inl (w.1, omega (arith, w.0), goes (omega (arith, w.0)) ∙ run_none flow (n - 1) (going next) (omega (arith, w.0))))
          (λ w. came_over Spent s at end (q.steps + 1) (d ∙ goes_spent next (omega (arith, el, w.3))) w.2 refl)
          allot.1

going_once : {q q' : Run} → going q ≡ going q' → q ≡ q'
going_once e = cc

-- The runner that advance hands back: at a box of the run, or with what is disclosed of the ending.
abbrev pub stands_at : Runner → (at steps : ℕ) → Runner
stands_at s at steps = with_run (seen s at steps) s

stands : (r s next : Runner) (at steps : ℕ) → Stored r s → next ≡ stands_at s at steps → next ≡ resumed (going (seen s at steps)) r
unfolding resumed
stands r s next at steps h e = e ∙ ap (with_run (seen s at steps)) h

-- A runner with what is answered of its run in the place of its state.
abbrev pub with_answer : Answered → Runner → Runner
with_answer a r = runner_of (chart_in r) r.mode (run_in r) (Ended a)

pub none_or_some {ℓ} : {A : Type ℓ} {e : coded.Ending} → ◌≡◌ {A = Option coded.Ending} None (Some e) → A
none_or_some e = let z : ◌≡◌ {A = ℕ} 0 1 = cc in absurd (omega arith)

pub some_once : {e e' : coded.Ending} → ◌≡◌ {A = Option coded.Ending} (Some e) (Some e') → e ≡ e'
some_once e = cc

abbrev pub ends_with : Runner → Answered → Runner
ends_with r a = runner_of (chart_in r) Bare no_run (Ended a)

disclosed_runner : (m : Mode) (e : coded.Ending) (steps : ℕ) (r : Runner)
    → ends_with r (kept (hides m) e steps) ≡ resumed (disclosed m (over (ending_of e) steps)) r
unfolding disclosed resumed ended_with
disclosed_runner m (Value v) steps r = refl
disclosed_runner bare (Notice named) steps r = refl
disclosed_runner surveillance (Notice named) steps r = refl
disclosed_runner high_water (Notice named) steps r = refl
disclosed_runner bare Spent steps r = refl
disclosed_runner surveillance Spent steps r = refl
disclosed_runner high_water Spent steps r = refl

-- What it tells of an ending is what it tells of what is disclosed.
disclosed_reply : (m : Mode) (e : Ending) (steps : ℕ) → outcomes.ended (cond (hides m) 0 steps) ≡ progress_reply m (disclosed m (over e steps))
unfolding progress_reply
disclosed_reply m e steps =
    disclosed_by (λ (x : Progress). outcomes.ended (cond (hides m) 0 steps) ≡ progress_reply m x) m (over e steps) refl (λ h. rw h)

-- What advance leaves and tells where its boxes have come to s.
module _ (m todo : ℕ) (r s next : Runner) (at : ℕ) (end : Option coded.Ending) (steps : ℕ) (told : Result Advanced Refusal) (h : Stored r s)
    (came : CameTo (flow_in r) todo (run_in r) s at end steps)
    (stays : end ≡ None → next ≡ stands_at s at steps) (hidden : Bool) (hides-as : hidden ≡ hides (mode_held r))
    (ends : (e : coded.Ending) → end ≡ Some e → next ≡ ends_with s (kept hidden e steps)) where
  came_running : check (calls.advance m) (standing_of r) ≡ Ok tt → todo ≡ m
      → advance_reply told ≡ told_of end hidden steps
      → outcome (advance_reply told) [] next ≡ call (calls.advance m) r
  unfolding progress_reply disclosed
  came_running on all t =
      let mode = mode_held r in
      let boxes : run (flow_in r) m (going (run_in r)) ≡ run (flow_in r) todo (going (run_in r)) = rw all in
      ⊎_elim
      (λ w. advance_runs m r next told (going (seen s at steps)) on (ap (disclosed mode) (boxes ∙ w.2)) (t ∙ rw w.0) (stands r s next at steps h (stays w.0)))
      (λ w.
      let e = w.0 in
      advance_runs m r next told (disclosed mode (over (ending_of e) steps)) on (ap (disclosed mode) (boxes ∙ w.2)) (t ∙ rw (w.1, hides-as) (disclosed_reply mode (ending_of e) steps))
      (ends e w.1
      ∙ rw hides-as
      (ap (λ (x : Runner). ends_with x (kept (hides mode) e steps)) h ∙ disclosed_runner mode e steps r)))
      came

  came_resting : (x : Refusal) → check (calls.advance m) (standing_of r) ≡ Err x → todo ≡ 0 → advance_reply told ≡ outcomes.turned_away x
      → outcome (advance_reply told) [] next ≡ call (calls.advance m) r
  unfolding run resumed
  came_resting x off none t =
      let boxes : going (run_in r) ≡ run (flow_in r) todo (going (run_in r)) = rw none in
      ⊎_elim
      (λ w.
      let same : seen s at steps ≡ run_in r = going_once (sym (boxes ∙ w.2)) in
      advance_refuses m r next told x off t (stands r s next at steps h (stays w.0) ∙ ap (λ (q : Run). with_run q r) same))
      (λ w.
      let e : going (run_in r) ≡ over (ending_of w.0) steps = boxes ∙ w.2 in
      let z : ◌≡◌ {A = ℕ} 0 1 = cc in
      absurd (omega arith))
      came

  pub advance_came : (verdict : Result ⊤ Refusal) → verdict ≡ check (calls.advance m) (standing_of r)
      → todo ≡ by_verdict verdict m (λ x. 0)
      → advance_reply told ≡ by_verdict verdict (told_of end hidden steps) outcomes.turned_away
      → outcome (advance_reply told) [] next ≡ call (calls.advance m) r
  advance_came (Ok _) e boxes t = came_running (sym e) boxes t
  advance_came (Err x) e none t = came_resting x (sym e) none t
