-- Each refutation is a run of a chart: what the claim would say of it is that two replies, endings
-- or buffers are the same, and they compute to different ones. Assumes nothing.
use Prim.Native.Nat.{ℕ}
use mathlib.Core.Path.{◌≡◌, refl, ap}
use mathlib.Core.List.Memᴰ
use mathlib.Core.List.{List, [], ◌∷◌, ◌++◌}
use mathlib.Core.Logic.{inl}
use mathlib.Core.Bool.{false≢true}
use native.Mathlib.Omega.{arith}
use lib.ListN.{replicate}
use Rattle.boxes.specs.Bytes.{at}
use Rattle.block.specs.Refusing.{refusal}
use Rattle.machine.specs.Run.{Ending, valued, notice, spent}
use Rattle.begin.specs.Begin.{limit_for_none}
use Rattle.calls.specs.Calls.{load, begin, advance, answer, write_back, rewrite}
use Rattle.calls.proofs.Permits.{not_done}
use Rattle.runner.specs.declared.Runner.{Runner}
use Rattle.runner.specs.State.{new_runner}
use Rattle.runs.specs.Whole.{Finish, finish}
use Rattle.marks.specs.Marks.{bare}
use Rattle.runs.specs.Whole as runs
use Rattle.runner.specs.Outcomes.{done, chart, running, ended, ending, refused, Reply, Told, Outcome}
use Rattle.call_claims.specs.Lists.{fresh, then, begun, asked}
use Rattle.call_claims.specs.Parameters.{SameLimit}
use Rattle.run_claims.proofs.Branches.{clash}
use Rattle.convert_claims.specs.Conversions.{OtherEdition}
use Rattle.example_charts.specs.Charts.{block, front, halt, chart_a, chart_b, chart_c, chart_d, chart_e, sum_one, sum_two, chart_a_two, chart_choice, chart_fork, chart_never}
use Rattle.example_claims.specs.Refuted.{BareIsNotSecret, AnotherModeIsTold, AnotherLimitIsTold, BareAnswersMore, SmallerLimitAnswersLess, OneMore, OneLess, AdvancesPartAtTheEnd, NoLoadDuringARun, AnotherLoadIsTold, HighWaterNamesNone, SurveillanceNamesSome, HighWaterAdvancesPart, HighWaterSumEndsNothing, HighWaterCountsNoBoxes, SurveillanceTellsCounts, WrittenBackIsTold, EditionsEndApart, RewritingIsTold, RewritingBetweenIsTold, GuardedMayLose, DrawnDoNotCount}
use Rattle.example_claims.specs.Witnesses.{just_loaded}
use Rattle.example_charts.proofs.Open.{conversions_open, runs_open, rewritings_open}
use Rattle.example_claims.proofs.Witnesses.{on_one_file, one_withheld, answered, conversion_is_met}

-- The first reply of a list.
first : List Told → Reply
first [] = refused 0 0
first (t ∷ ts) = t.reply

different_counts : ended 3 ≡ ended 4 → ⊥
different_counts e = let z : ◌≡◌ {A = ℕ} 3 4 = cc in omega arith

pub bare_is_not_secret : BareIsNotSecret
unfolding runs_open first
bare_is_not_secret claim =
    let r = just_loaded chart_b in
    let told = claim r r (0 ∷ []) (4 ∷ []) 0 0 0 (on_one_file chart_b [] [] 0 0 SameLimit (0 ∷ []) (4 ∷ []) 0 0 0 refl tt tt refl refl refl) in
    different_counts (ap first (told (one_withheld 0 [] refl 0 4 []) (advance limit_for_none ∷ [])))

pub another_mode_is_told : AnotherModeIsTold
unfolding runs_open first
another_mode_is_told claim =
    let r = just_loaded chart_e in
    let told = claim r r (7 ∷ []) (7 ∷ []) 0 2 2 (on_one_file chart_e [] [] 1 2 SameLimit (7 ∷ []) (7 ∷ []) 0 2 2 refl tt tt refl refl refl) in
    let e : ended 2 ≡ ended 0 = ap first (told (λ j e. refl) (advance 2 ∷ [])) in
    let z : ◌≡◌ {A = ℕ} 2 0 = cc in
    omega arith

pub another_limit_is_told : AnotherLimitIsTold
unfolding runs_open first
another_limit_is_told =
    let r = just_loaded chart_c in (
      (λ claim.
          let told = claim r r [] [] 0 1 2 (on_one_file chart_c [] [] 1 1 OneMore [] [] 0 1 2 refl tt tt refl refl refl) in
          let e : ended 1 ≡ running 1 = ap first (told (λ j e. refl) (advance 1 ∷ [])) in
          clash cc),
      (λ claim.
          let told = claim r r [] [] 0 1 2 (on_one_file chart_c [] [] 2 2 OneMore [] [] 0 1 2 refl tt tt refl refl refl) in
          let e : ended 0 ≡ refused 13 0 = ap first (told (λ j e. refl) (advance 1 ∷ [])) in
          clash cc),
    )

pub bare_answers_more : BareAnswersMore
unfolding runs_open
bare_answers_more claim =
    let r = just_loaded chart_d in
    let told = claim r r (7 ∷ []) 0 0 0 (on_one_file chart_d [] [] 0 1 SameLimit (7 ∷ []) (7 ∷ []) 0 0 0 refl tt tt refl refl refl) 0 2 in
    let both = told (answered (begun 0 (7 ∷ []) 0 0 r) 0 2 refl) (advance 2 ∷ []) (tt, tt) in
    let e : ending (notice 1) 2 ≡ ending (valued 0) 2 = ap (λ (t : Told). t.reply) (both.1 refl) in
    clash cc

pub smaller_limit_answers_less : SmallerLimitAnswersLess
unfolding runs_open
smaller_limit_answers_less claim =
    let r = just_loaded chart_e in
    let told = claim r r (7 ∷ []) 0 2 1 (on_one_file chart_e [] [] 2 1 OneLess (7 ∷ []) (7 ∷ []) 0 2 1 refl tt tt refl refl refl) 5 2 in
    let both = told (answered (begun 2 (7 ∷ []) 0 2 r) 5 2 refl) (advance 1 ∷ []) (tt, tt) in
    let e : ending spent 1 ≡ ending (valued 5) 2 = ap (λ (t : Told). t.reply) (both.1 refl) in
    clash cc

-- Chart C with limit 1, under way.
underway : Runner
underway = begun 0 [] 0 1 (just_loaded chart_c)

pub advances_part_at_the_end : AdvancesPartAtTheEnd
unfolding runs_open underway
advances_part_at_the_end claim =
    let e : refused 23 0 ≡ ended 1 = ap (λ (o : Outcome). o.told.reply) (claim underway 1 1 ((λ e. clash cc), refl)) in
    clash cc

-- Chart E with limit 2 under high-water.
whole : Runner
whole = begun 2 (7 ∷ []) 0 2 (just_loaded chart_e)

pub high_water_advances_part : HighWaterAdvancesPart
unfolding runs_open whole
high_water_advances_part claim =
    let e : refused 13 0 ≡ ended 0 = ap (λ (o : Outcome). o.told.reply) (claim whole 1 1 refl) in
    clash cc

pub high_water_sum_ends_nothing : HighWaterSumEndsNothing
unfolding runs_open asked
high_water_sum_ends_nothing claim =
    not_done {x = refusal 24 0} (claim (just_loaded chart_e) 2 (7 ∷ []) 0 2 refl (advance 1 ∷ advance 1 ∷ []) (tt, (tt, tt)) refl (omega arith))

pub high_water_counts_no_boxes : HighWaterCountsNoBoxes
unfolding runs_open
high_water_counts_no_boxes claim =
    let some = ((claim (just_loaded chart_e) 2 (7 ∷ []) 0 2 refl refl 2 0).1 refl).0 in
    absurd (omega arith)

pub surveillance_tells_counts : SurveillanceTellsCounts
unfolding runs_open
surveillance_tells_counts claim =
    let t : Told = record { reply = ended 2; buffer = [] } in
    let none = claim (just_loaded chart_e) 1 (7 ∷ []) 0 0 refl (advance 2 ∷ []) (tt, tt) t (Memᴰ.head refl) refl in
    absurd (omega arith)

pub no_load_during_a_run : NoLoadDuringARun
unfolding runs_open underway
no_load_during_a_run claim =
    let outcome = claim (just_loaded chart_c) underway (replicate 1024 0) 1024 (then fresh (load chart_c)) refl refl in
    let e : refused 22 0 ≡ chart 0 1 = ap (λ (o : Outcome). o.told.reply) outcome in
    clash cc

-- A chart of one box, a halt.
halting : List ℕ
halting = block (front 1 0 1 0) 51 3 ++ block halt 3 0

-- Chart C is loaded over chart E. Before it, a begin with one input is accepted and so a load
-- refused; after it, the begin is refused and the load of the chart that halts is not.
pub another_load_is_told : AnotherLoadIsTold
unfolding runs_open first halting
another_load_is_told claim =
    let past = begin 1 (7 ∷ []) 0 0 ∷ load halting ∷ [] in
    let begins = claim new_runner (just_loaded chart_e) chart_c [] past fresh (then fresh (load chart_e)) refl refl tt (tt, (not_done, tt)) 1 (inl refl) in
    let e : running 1 ≡ ended 1 = ap first (begins [] [] 0 (λ j e. refl) refl refl (advance 1 ∷ [])) in
    clash cc

pub high_water_names_none : HighWaterNamesNone
unfolding runs_open
high_water_names_none claim =
    let t : Told = record { reply = ending (notice 0) 0; buffer = [] } in
    let e = claim (just_loaded chart_d) 2 (7 ∷ []) 0 2 refl (advance 2 ∷ answer ∷ []) (tt, (tt, tt)) t (Memᴰ.tail (Memᴰ.head refl)) refl 0 0 refl in
    false≢true e

pub surveillance_names_some : SurveillanceNamesSome
unfolding runs_open
surveillance_names_some claim =
    let t : Told = record { reply = ending (notice 1) 2; buffer = [] } in
    let e = claim (just_loaded chart_d) 1 (7 ∷ []) 0 0 refl (advance 2 ∷ answer ∷ []) (tt, (tt, tt)) t (Memᴰ.tail (Memᴰ.head refl)) refl in
    absurd (omega arith)

-- Byte 4 of the buffer after the second call of a list.
edition_told : List Told → ℕ
edition_told [] = 0
edition_told (t ∷ []) = 0
edition_told (t ∷ u ∷ ts) = at u.buffer 4

pub written_back_is_told : WrittenBackIsTold
unfolding runs_open conversions_open chart_a_two edition_told
written_back_is_told claim =
    let lists = claim chart_a chart_a_two conversion_is_met.0 new_runner new_runner refl refl (write_back (replicate 1024 0) ∷ []) (tt, tt) in
    let e : ◌≡◌ {A = ℕ} 2 1 = ap edition_told lists in
    omega arith

-- The reply of the second call of a list.
second : List Told → Reply
second [] = refused 0 0
second (t ∷ []) = refused 0 0
second (t ∷ u ∷ ts) = u.reply

pub rewriting_is_told : RewritingIsTold
unfolding rewritings_open conversions_open chart_a_two second
rewriting_is_told claim =
    let lists = claim chart_a chart_a_two conversion_is_met.0 new_runner new_runner refl refl (rewrite ∷ []) ((refl, not_done), tt) in
    let e : done ≡ refused 15 0 = ap second lists in
    clash cc

no_load : (other : List ℕ) → rewrite ≡ load other → ⊥
no_load other e = clash cc

pub rewriting_between_is_told : RewritingBetweenIsTold
unfolding rewritings_open first
rewriting_between_is_told claim =
    let told = claim new_runner new_runner chart_fork (rewrite ∷ []) [] fresh fresh refl refl ((λ other e a. no_load other e), tt) tt 1 (inl refl) in
    different_counts (ap first (told (7 ∷ []) (7 ∷ []) 1 (λ j e. refl) refl refl (advance limit_for_none ∷ [])))

pub guarded_may_lose : GuardedMayLose
unfolding rewritings_open
guarded_may_lose = (
  (λ claim.
      let loses = claim (just_loaded chart_never) (then fresh (load chart_never)) refl (7 ∷ []) 0 3 0 3 refl in
      let e : notice 1 ≡ valued 0 = ap (λ (x : Finish). x.ending) loses.1 in
      clash cc),
  (λ claim.
      let loses = claim (just_loaded chart_never) (then fresh (load chart_never)) refl (7 ∷ []) 0 3 0 3 refl in
      let e : notice 0 ≡ valued 0 = ap (λ (x : Finish). x.ending) loses.1 in
      clash cc),
)

pub drawn_do_not_count : DrawnDoNotCount
unfolding rewritings_open
drawn_do_not_count claim =
    let fewer = claim (just_loaded chart_choice) (then fresh (load chart_choice)) refl (5 ∷ 5 ∷ 7 ∷ 9 ∷ []) 0 2 7 2 refl in
    let e : ◌≡◌ {A = ℕ} 2 1 = ap (λ (x : Finish). x.steps) fewer.1 in
    omega arith

-- The value of an ending.
value_of_ending : Ending → ℕ
value_of_ending (valued v) = v
value_of_ending (notice named) = 0
value_of_ending spent = 0

pub editions_end_apart : EditionsEndApart
unfolding runs_open finish runs.whole value_of_ending
editions_end_apart claim =
    let related : OtherEdition sum_one sum_two =
    record { accepted = refl; accepted' = refl; editions = inl (refl, refl); inputs = refl; boxes = refl; first = refl; table = refl } in
    let e : ◌≡◌ {A = ℕ} 4294967295 0 = ap (λ (x : Finish). value_of_ending x.ending) (claim sum_one sum_two related bare (4294967295 ∷ 1 ∷ []) 0 2) in
    omega arith
