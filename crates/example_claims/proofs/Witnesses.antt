-- The instances of demand 3: both runners have loaded one file, so they hold one chart; the rest is
-- computation, as are the instances of a conversion and of rewritings. Assumes nothing.
use Prim.Native.Nat.{ℕ, zero, suc}
use mathlib.Core.Path.{◌≡◌, refl, ap, sym, ◌∙◌}
use mathlib.Core.List.Memᴰ
use mathlib.Core.List.{List, [], ◌∷◌, ◌++◌}
use mathlib.Core.Bool.{false, false≢true}
use lib.ListN.{length, get_or, replicate}
use Rattle.begin.specs.Begin.{limit_for_none, effective, allows}
use Rattle.calls.specs.Calls.{Call, load, begin, advance, answer}
use Rattle.calls.proofs.Permits.{not_done}
use Rattle.runner.specs.declared.Runner.{Runner}
use Rattle.runner.specs.State.{new_runner}
use Rattle.runner.specs.Outcomes.{call}
use Rattle.call_claims.specs.Lists.{fresh, then, Accepted, begun, tells}
use Rattle.run_claims.specs.Secrecy.{AllowedAlike}
use Rattle.call_claims.specs.Demand3.{tells_value, SomeAnswer}
use Rattle.call_claims.specs.Parameters.{Begins, SameLimit}
use Rattle.call_claims.specs.OneFile.{after_load, NoOtherChart}
use Rattle.call_claims.proofs.OneFile.{reached_final, one_file_held}
use Rattle.run_claims.proofs.Inputs.{none_has}
use Rattle.example_charts.specs.Charts.{chart_a, chart_b, chart_e, zeros_two, chart_a_two, chart_choice, chart_fork, chart_turns}
use Rattle.example_claims.specs.Witnesses.{just_loaded, run_bare, loaded_and_run, BegunAlike, SecrecyIsMet, NoticeIsTold, SecondEditionIsMet, ChoiceIsMet, CountsAreHidden, AdvancesAreWhole, AnsweringIsMet, ConversionIsMet, RewritingIsMet, RewritingInOrder}
use Rattle.example_charts.proofs.Open.{conversions_open, runs_open, rewritings_open}

-- Two begins on runners that have loaded one file.
pub on_one_file : (file : List ℕ) (past past' : List Call) (mode mode' : ℕ) (Limits : ℕ → ℕ → Type 0) (inputs inputs' : List ℕ) (allowed limit limit' : ℕ)
    → Accepted (load file) new_runner
    → NoOtherChart file past new_runner
    → NoOtherChart file past' new_runner
    → Limits limit limit'
    → Accepted (begin mode inputs allowed limit) (after_load file past new_runner)
    → Accepted (begin mode' inputs' allowed limit') (after_load file past' new_runner)
    → Begins mode mode' Limits (after_load file past new_runner) (after_load file past' new_runner) inputs inputs' allowed limit limit'
on_one_file file past past' mode mode' Limits inputs inputs' allowed limit limit' loads n n' l a a' =
    record {
      made = reached_final past (then fresh (load file));
      made' = reached_final past' (then fresh (load file));
      one_chart = one_file_held new_runner new_runner file past past' loads loads n n';
      limits = l;
      accepted = a;
      accepted' = a';
    }

-- Two begins of one mode, the first with limit 0 and the second with the number that it means.
begun_alike : (mode : ℕ) (file past inputs inputs' : List ℕ) (allowed : ℕ)
    → Accepted (load file) new_runner
    → NoOtherChart file (run_bare past) new_runner
    → Accepted (begin mode inputs allowed 0) (just_loaded file)
    → Accepted (begin mode inputs' allowed limit_for_none) (loaded_and_run file past)
    → AllowedAlike allowed inputs inputs'
    → BegunAlike mode file past inputs inputs' allowed
unfolding effective
begun_alike mode file past inputs inputs' allowed loads n a a' alike = (
  on_one_file file [] (run_bare past) mode mode SameLimit inputs inputs' allowed 0 limit_for_none
      loads tt n refl a a',
  alike,
)

-- Nothing is asked of an input that is withheld.
elsewhere : (before : List ℕ) (a b : ℕ) (rest : List ℕ) (j : ℕ) → (j ≡ length before → ⊥) → get_or (before ++ (a ∷ rest)) j 0 ≡ get_or (before ++ (b ∷ rest)) j 0
elsewhere [] a b rest zero n = absurd (n refl)
elsewhere [] a b rest (suc j) n = refl
elsewhere (x ∷ before) a b rest zero n = refl
elsewhere (x ∷ before) a b rest (suc j) n = elsewhere before a b rest j (λ e. n (ap suc e))

pub one_withheld : (allowed : ℕ) (before : List ℕ) → allows allowed (length before) ≡ false → (a b : ℕ) (rest : List ℕ)
    → AllowedAlike allowed (before ++ (a ∷ rest)) (before ++ (b ∷ rest))
one_withheld allowed before w a b rest j e =
    elsewhere before a b rest j (λ q. false≢true (sym w ∙ ap (allows allowed) (sym q) ∙ e))

-- An answer after an advance by 2 that tells a value.
pub answered : (start : Runner) (v steps : ℕ) → tells_value v steps ≡ (call answer (call (advance 2) start).next).told → SomeAnswer start v steps
unfolding tells
answered start v steps e = (advance 2 ∷ answer ∷ [], (tt, (tt, tt)), Memᴰ.tail (Memᴰ.head e))

pub secrecy_is_met : SecrecyIsMet
unfolding runs_open
secrecy_is_met = (
  begun_alike 1 chart_a (1 ∷ 2 ∷ []) (7 ∷ 9 ∷ []) (8 ∷ 9 ∷ []) 2
      refl (tt, (tt, tt)) refl refl (one_withheld 2 [] refl 7 8 (9 ∷ [])),
  refl,
)

-- Nothing is asked of inputs that are all withheld.
none_allowed : (inputs inputs' : List ℕ) → AllowedAlike 0 inputs inputs'
none_allowed inputs inputs' j e = absurd (false≢true (sym (none_has j) ∙ e))

pub notice_is_told : NoticeIsTold
unfolding runs_open
notice_is_told = (
  begun_alike 1 chart_a (1 ∷ 2 ∷ []) (7 ∷ 9 ∷ []) (8 ∷ 3 ∷ []) 0
      refl (tt, (tt, tt)) refl refl (none_allowed (7 ∷ 9 ∷ []) (8 ∷ 3 ∷ [])),
  refl,
)

pub second_edition_is_met : SecondEditionIsMet
unfolding runs_open
second_edition_is_met = (
  begun_alike 1 zeros_two (1 ∷ 2 ∷ []) (8 ∷ 2 ∷ []) (8 ∷ 5 ∷ []) 1
      refl (tt, (tt, tt)) refl refl (one_withheld 1 (8 ∷ []) refl 2 5 []),
  refl,
  refl,
  refl,
)

pub choice_is_met : ChoiceIsMet
unfolding rewritings_open
choice_is_met = (
  begun_alike 1 chart_choice (1 ∷ 2 ∷ 3 ∷ 4 ∷ []) (5 ∷ 5 ∷ 7 ∷ 9 ∷ []) (6 ∷ 5 ∷ 7 ∷ 9 ∷ []) 14
      refl (tt, (tt, tt)) refl refl (one_withheld 14 [] refl 5 6 (5 ∷ 7 ∷ 9 ∷ [])),
  refl,
  refl,
  refl,
)

pub counts_are_hidden : CountsAreHidden
unfolding runs_open
counts_are_hidden = (
  begun_alike 2 chart_b (1 ∷ []) (0 ∷ []) (4 ∷ []) 0
      refl (tt, (tt, tt)) refl refl (none_allowed (0 ∷ []) (4 ∷ [])),
  refl,
  refl,
  refl,
  refl,
)

pub advances_are_whole : AdvancesAreWhole
unfolding runs_open
advances_are_whole = (refl, refl, refl)

pub answering_is_met : AnsweringIsMet
unfolding runs_open
answering_is_met = (
  on_one_file chart_e [] (run_bare (3 ∷ [])) 2 1 SameLimit (7 ∷ []) (7 ∷ []) 0 2 2 refl tt (tt, (tt, tt)) refl refl refl,
  (tt, (tt, (tt, tt))),
  refl,
  answered (begun 2 (7 ∷ []) 0 2 (just_loaded chart_e)) 5 2 refl,
  (tt, (not_done, (not_done, (not_done, (tt, (tt, (tt, (not_done, (tt, tt))))))))),
  refl,
)

pub conversion_is_met : ConversionIsMet
unfolding runs_open conversions_open chart_a_two
conversion_is_met = (
  record { buffer = replicate 1024 0; told = refl; front = refl },
  (tt, (refl, (not_done, (tt, (tt, (tt, (tt, (tt, (tt, tt))))))))),
  refl,
  refl,
  refl,
  refl,
)

pub rewriting_is_met : RewritingIsMet
unfolding rewritings_open
rewriting_is_met = (
  (then fresh (load chart_fork), refl, refl, refl, refl),
  (then fresh (load chart_turns), refl, refl, refl, refl),
)

pub rewriting_in_order : RewritingInOrder
unfolding rewritings_open
rewriting_in_order = (refl, refl)
