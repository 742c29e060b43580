-- What the calls' promises say of what is printed: whether load's chart was taken, and the reply of
-- a begin and a run to its end. Assumes nothing.
use Rattle.std.proofs.Common.{◌≡◌, ℕ, ◌-◌, List, [], Result, Ok, Err, is_ok, length, take, drop, refl, ap, sym, ◌∙◌, arith, take_all, length-drop}
use Rattle.std.specs.Prelude.{⊤}
use Rattle.block.specs.declared.Refusal.{Refusal}
use Rattle.boxes.specs.Bytes.{at}
use Rattle.calls.specs.Calls.{begin, advance, answer}
use Rattle.texts.specs.Printing.{printed, printed_length}
use Rattle.texts.proofs.Fronts.{printed_counts}
use Rattle.io.specs.Counts.{IsPrefixLen}
use Rattle.runner.specs.Outcomes.{Outcome, outcome, call}
use Rattle.runner.specs.Replies.{load_reply, verdict_reply, advance_reply, answer_reply}
use Rattle.runner.specs.declared.Runner.{Runner}
use Rattle.runner.specs.declared.Loaded.{Loaded}
use Rattle.runner.specs.declared.Advanced.{Advanced}
use Rattle.runner.specs.declared.Answered.{Answered}
use Rattle.runner.specs.declared.Ending.{Ending}
use Rattle.runner.specs.declared.Ending.TheVariants.{Value, Notice, Spent}
use Rattle.runner.specs.State.{ending_of}
use Rattle.texts.specs.Texts.{text_of, of_loaded, of_ending, of_answered}
use Rattle.reply.specs.Reply.{ending_text, reply_text, is_accepted, begin_of, run_reply}

pub accepts : (told : Result Loaded Refusal) → is_ok told ≡ is_accepted (load_reply told)
unfolding load_reply is_accepted
accepts (Ok c) = refl
accepts (Err x) = refl

-- The texts of what is told are those of the replies.
pub says_loaded : (told : Result Loaded Refusal) → text_of (of_loaded told) ≡ reply_text (load_reply told)
unfolding load_reply reply_text
says_loaded (Ok c) = refl
says_loaded (Err x) = refl

pub says_answered : (told : Result Answered Refusal) → text_of (of_answered told) ≡ reply_text (answer_reply told)
unfolding answer_reply reply_text ending_text
says_answered (Ok a) = by a.ending
  where
    by : (e : Ending) → text_of (of_ending e a.steps) ≡ ending_text (ending_of e) a.steps
    by (Value value) = refl
    by (Notice named) = refl
    by Spent = refl
says_answered (Err x) = refl

pub counts : (text out after : List ℕ) (r : ℕ) → length after ≡ length out → r ≡ printed_length text (length out) → after ≡ printed text out → IsPrefixLen r after
counts text out after r l e f = rw (e, f) (printed_counts text out (ap length (sym f) ∙ l))

-- The begin of the numbers in a slice, whose rest are the inputs.
begins : (s : List ℕ) (r : Runner) → call (begin (at s 0) (take (length s - 3) (drop 3 s)) (at s 1) (at s 2)) r ≡ call (begin_of s) r
begins s r = rw (take_all (length s - 3) (drop 3 s) (omega (arith, length-drop 3 s))) refl

module _ (s : List ℕ) (r next : Runner) (told : Result ⊤ Refusal) (e : outcome (verdict_reply told) [] next ≡ call (begin (at s 0) (take (length s - 3) (drop 3 s)) (at s 1) (at s 2)) r) where
  begun : outcome (verdict_reply told) [] next ≡ call (begin_of s) r
  begun = e ∙ begins s r

  pub refuses : (x : Refusal) → told ≡ Err x → answer_reply (Err x) ≡ run_reply (call (begin_of s) r)
  unfolding run_reply is_accepted verdict_reply answer_reply
  refuses x q = rw (← begun, q) refl

  pub runs : (u : ⊤) → told ≡ Ok u → (t : Result Advanced Refusal) (last : Runner) → outcome (advance_reply t) [] last ≡ call (advance 65535) next
      → (a : Result Answered Refusal) → outcome (answer_reply a) [] last ≡ call answer last → answer_reply a ≡ run_reply (call (begin_of s) r)
  unfolding run_reply is_accepted verdict_reply
  runs u q t last f a g =
      rw (← begun, q)
      (ap (λ (o : Outcome). o.told.reply) g ∙ ap (λ (o : Outcome). (call answer o.next).told.reply) f)
