-- What the code reads off a table, in one value each.
use Rattle.std.specs.Prelude.{ℕ, List, Option, None, Some, cond}
use Rattle.boxes.specs.Bytes.{at, box_of}
use Rattle.rewrite.specs.declared.CopyBox.{CopyBox}
use Rattle.rewrite.specs.Rewrite.{if_true, if_false, is_copy, is_replaced, choice_of}

-- A box, if it is a copy.
abbrev pub copy_of : List ℕ → Option CopyBox
copy_of b = cond (is_copy b) (Some (record { target = at b 1; from = at b 3; next = at b 5 })) None

-- The choice that the box at a place becomes, if it is replaced.
unfoldable pub choice_at : List ℕ → ℕ → Option (List ℕ)
choice_at t p =
    let b = box_of t p in
    cond (is_replaced t b) (Some (choice_of b (if_true t b) (if_false t b))) None
