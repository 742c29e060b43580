-- No two answers of one type tell the same: constructors are distinct and injective. Assumes
-- nothing.
use Rattle.std.specs.Prelude.{Ok, Err}
use Prim.Native.Nat.{ℕ}
use mathlib.Core.Path.{◌≡◌, refl, ap, sym, ◌∙◌}
use Rattle.block.specs.Refusing.{refusal}
use Rattle.block.specs.declared.Refusal.{Refusal}
use Rattle.runner.specs.declared.Loaded.{Loaded}
use Rattle.runner.specs.declared.Advanced.TheVariants.{Running, Ended}
use Rattle.runner.specs.declared.Ending.{Ending}
use Rattle.runner.specs.declared.Ending.TheVariants.{Value, Notice, Spent}
use Rattle.runner.specs.State.{ending_of}
use Rattle.runner.specs.Outcomes.{Reply, turned_away}
use Rattle.runner.specs.Replies.{reply_by, progress_told, ending_told, load_reply, verdict_reply, advance_reply, answer_reply, written_reply}
use Rattle.run_claims.proofs.Branches.{clash}
use Rattle.call_claims.specs.Distinct.{Injective, RepliesDistinct}

refusal_once : (x y : Refusal) → turned_away x ≡ turned_away y → x ≡ y
refusal_once x y e =
    let n : x.number ≡ y.number = cc in
    let d : x.detail ≡ y.detail = cc in
    ap (λ (k : ℕ). refusal k x.detail) n ∙ ap (refusal y.number) d

-- Answers tell apart where what they tell of a call that is done does, and tells no refusal.
told_once : {A : Type 0} (tells : A → Reply) → Injective tells → ((a : A) (x : Refusal) → tells a ≡ turned_away x → ⊥) → Injective (reply_by tells)
told_once tells once apart (Ok a) (Ok b) e = ap Ok (once a b e)
told_once tells once apart (Ok a) (Err y) e = absurd (apart a y e)
told_once tells once apart (Err x) (Ok b) e = absurd (apart b x (sym e))
told_once tells once apart (Err x) (Err y) e = ap Err (refusal_once x y e)

loaded_once : (a b : Loaded) → load_reply (Ok a) ≡ load_reply (Ok b) → a ≡ b
unfolding load_reply
loaded_once a b e =
    let i : a.inputs ≡ b.inputs = cc in
    let n : a.boxes ≡ b.boxes = cc in
    ap (λ (k : ℕ). record { inputs = k; boxes = a.boxes }) i ∙ ap (λ (k : ℕ). record { inputs = b.inputs; boxes = k }) n

load_once : Injective load_reply
unfolding load_reply
load_once = told_once _ loaded_once (λ a x e. clash cc)

verdict_once : Injective verdict_reply
unfolding verdict_reply
verdict_once = told_once _ (λ a b e. refl) (λ a x e. clash cc)

progress_once : Injective progress_told
progress_once (Running s) (Running t) e = cc
progress_once (Running s) (Ended t) e = clash cc
progress_once (Ended s) (Running t) e = clash cc
progress_once (Ended s) (Ended t) e = cc

advance_once : Injective advance_reply
unfolding advance_reply
advance_once = told_once _ progress_once (elim [ Running s ↦ λ x e. clash cc | Ended s ↦ λ x e. clash cc ])

-- The code's ending is told by the one of the rules.
coded_once : (a b : Ending) → ending_of a ≡ ending_of b → a ≡ b
coded_once (Value v) (Value w) e = cc
coded_once (Value v) (Notice m) e = clash cc
coded_once (Value v) Spent e = clash cc
coded_once (Notice n) (Value w) e = clash cc
coded_once (Notice n) (Notice m) e = cc
coded_once (Notice n) Spent e = clash cc
coded_once Spent (Value w) e = clash cc
coded_once Spent (Notice m) e = clash cc
coded_once Spent Spent e = refl

ending_once : Injective ending_told
ending_once a b e =
    let ends : ending_of a.ending ≡ ending_of b.ending = cc in
    let same = coded_once a.ending b.ending ends in
    let steps : a.steps ≡ b.steps = cc in
    ap (λ (x : Ending). record { ending = x; steps = a.steps }) same ∙ ap (λ (k : ℕ). record { ending = b.ending; steps = k }) steps

answer_once : Injective answer_reply
unfolding answer_reply
answer_once = told_once _ ending_once (λ a x e. clash cc)

written_once : Injective written_reply
unfolding written_reply
written_once = told_once _ (λ n m e. cc) (λ n x e. clash cc)

pub replies_distinct : RepliesDistinct
replies_distinct = (load_once, verdict_once, advance_once, answer_once, written_once)
