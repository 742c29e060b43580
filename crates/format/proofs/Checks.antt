-- What check_file tells of a block whose check differs, and of a chart, from the facts that lead
-- there. tells_check; tells_chart. Assumes nothing.
use Rattle.std.specs.Prelude.{Ok, Err}
use Prim.Native.Nat.{ℕ, ◌*◌, ◌-◌, ◌≤◌, ◌<◌}
use mathlib.Core.Path.{◌≡◌}
use mathlib.Core.List.{List}
use mathlib.Core.Bool.{true}
use lib.ListN.{length}
use borrow.Author.Tests.{lt-ltb, le-ltb, eq-eqb}
use Rattle.block.specs.Refusing.{refusal}
use Rattle.format.specs.Search.{first_failing}
use Rattle.format.specs.File.{blocks_of, blocks_for, header_of, length_rule, check_rule, letters_rule, header_rule, place_rule, check_file}

-- The names of check_file's definition.
module _ (f : List ℕ) where
  abbrev pub blocks : ℕ
  blocks = blocks_of f

  abbrev pub wrong : ℕ
  wrong = first_failing (check_rule f (header_of f)) blocks

  abbrev pub places : ℕ
  places = 51 * (blocks - 1)

  abbrev pub broken : ℕ
  broken = first_failing (place_rule f (header_of f)) places

module _ (f : List ℕ) (one : length_rule (length f) ≡ true) where
  pub tells_check : wrong f < blocks f → Err (refusal 2 (wrong f)) ≡ check_file f
  unfolding check_file
  tells_check l = rw (one, lt-ltb (wrong f) (blocks f) l)

-- The file has passed checks 1 to 4.
pub record Past (f : List ℕ) : Type 0 where
  pub one : length_rule (length f) ≡ true
  pub two : blocks f ≤ wrong f
  pub three : letters_rule f ≡ true
  pub four : header_rule f ≡ true

pub tells_chart : (f : List ℕ) → Past f → blocks f ≡ blocks_for (header_of f).boxes → places f ≤ broken f → Ok (header_of f) ≡ check_file f
unfolding check_file
tells_chart f p five l =
    rw (p.one, le-ltb (wrong f) (blocks f) p.two, p.three, p.four, eq-eqb (blocks f) (blocks_for (header_of f).boxes) five, le-ltb (broken f) (places f) l)
