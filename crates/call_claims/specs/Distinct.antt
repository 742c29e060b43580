-- "a definition gives this paper's number and values for every case of the enum": no two answers of
-- one enum tell the same.
use Rattle.std.specs.Prelude.{◌≡◌}
use Rattle.runner.specs.Outcomes.{Reply}
use Rattle.runner.specs.Replies.{load_reply, verdict_reply, advance_reply, answer_reply, written_reply}

abbrev pub Injective : {A : Type 0} → (A → Reply) → Type 0
Injective {A} f = (a b : A) → f a ≡ f b → a ≡ b

abbrev pub RepliesDistinct : Type 0
RepliesDistinct =
    Injective load_reply × Injective verdict_reply × Injective advance_reply × Injective answer_reply × Injective written_reply
