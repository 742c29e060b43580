-- What an operation reads depends on the edition and its number only: of the images of two things
-- it reads the images of what it reads of the things. Assumes nothing.
use Rattle.std.proofs.Common.{◌≡◌, ℕ, Bool, true, false, cond, [], ◌∷◌, map, refl}
use Rattle.boxes.specs.Box.{reads_left, reads_right}
use Rattle.operations.specs.Operation.{read_by}

pub read_map : {A B : Type 0} (f : A → B) (edition op : ℕ) (left right : A) → map f (read_by edition op left right) ≡ read_by edition op (f left) (f right)
unfolding read_by
read_map f edition op left right = by (reads_left op) (reads_right edition op)
  where
    by : (l r : Bool) → map f (cond l (left ∷ cond r (right ∷ []) []) []) ≡ cond l (f left ∷ cond r (f right ∷ []) []) []
    by true true = refl
    by true false = refl
    by false r = refl
