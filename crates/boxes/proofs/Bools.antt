-- Laws of && and ||: what a conjunction or a disjunction that holds says of its parts; and what
-- never holds is false, what never fails true. Assumes nothing.
use mathlib.Core.Path.{◌≡◌, refl}
use mathlib.Core.List.{List, [], ◌∷◌}
use mathlib.Core.Bool.{Bool, true, false, ◌&&◌, ◌||◌, false≢true}
use mathlib.Core.Logic.{◌⊎◌, inl, inr}

pub and_left : (a b : Bool) → (a && b) ≡ true → a ≡ true
and_left true b e = refl
and_left false b e = e

pub and_right : (a b : Bool) → (a && b) ≡ true → b ≡ true
and_right true b e = e
and_right false b e = absurd (false≢true e)

pub or_cases : (a b : Bool) → (a || b) ≡ true → (a ≡ true) ⊎ (b ≡ true)
or_cases true b e = inl refl
or_cases false b e = inr e

pub never_true : (b : Bool) → (b ≡ true → ⊥) → b ≡ false
never_true true never = absurd (never refl)
never_true false never = refl

pub never_false : (b : Bool) → (b ≡ false → ⊥) → b ≡ true
never_false true never = refl
never_false false never = absurd (never refl)

-- a && b && c and so on, as && associates.
abbrev pub all_of : Bool → List Bool → Bool
all_of a [] = a
all_of a (b ∷ bs) = all_of (a && b) bs

abbrev pub Every : List Bool → Type 0
Every [] = Unit {0}
Every (b ∷ bs) = (b ≡ true) × Every bs

-- Each part of a long conjunction: `.0`, `.1 .0`, `.1 .1 .0` and so on.
pub every : (a : Bool) (bs : List Bool) → all_of a bs ≡ true → Every (a ∷ bs)
every a [] e = (e, tt)
every a (b ∷ bs) e =
    let r = every (a && b) bs e in
    (and_left a b r.0, (and_right a b r.0, r.1))
