-- Claims about the marks as sets of withheld inputs (02, a) and about how they are set (02, e); and
-- what may hold of all the sets of a run, by which claims about calls speak of them.
use Rattle.std.specs.Prelude.{ℕ, ◌^◌, ◌≤◌, ◌<◌, ◌≡◌, List, [], ◌∷◌, map, Bool, true, false, cond, not, ◌&&◌, ◌||◌, eqb, ltb, get_or}
use Rattle.decode.specs.Decode.{Box}
use Rattle.marks.specs.Marks.{Mode, bare, surveillance, high_water, marked, union, target_mark, set_mark, masks_of, set_by, decision_notice, counter_mark, halt_notice}
use Rattle.marks.specs.declared.Masks.{Masks}
use Rattle.machine.specs.Run.{Run, Ending, valued, notice, spent, Progress, going, over, run}
use Rattle.begin.specs.Begin.{has, allows, first_marks}

-- 01's rules on marked and unmarked variables. "any variable it reads is marked":
unfoldable pub any_marked : List Bool → Bool
any_marked [] = false
any_marked (m ∷ marks) = m || any_marked marks

-- "Surveillance: an assignment marks its target if any variable it reads is marked, and otherwise
-- unmarks it." "High-water: an assignment marks its target if the target or any variable read is
-- marked." Bare has no rule, and the mark stays.
abbrev pub target_marked : Mode → (target : Bool) (read : List Bool) → Bool
target_marked bare target read = target
target_marked surveillance target read = any_marked read
target_marked high_water target read = target || any_marked read

-- Surveillance: "A decision that reads a marked variable ends with a notice". High-water "goes on".
abbrev pub decision_stops : Mode → (read : List Bool) → Bool
decision_stops bare read = false
decision_stops surveillance read = any_marked read
decision_stops high_water read = false

-- High-water: "A decision sets the counter mark if it reads a marked variable".
abbrev pub counter_marked : Mode → (counter : Bool) (read : List Bool) → Bool
counter_marked bare counter read = counter
counter_marked surveillance counter read = counter
counter_marked high_water counter read = counter || any_marked read

-- Surveillance: "Halt gives a notice if 31 is marked". High-water: "Halt gives a notice if 31 or
-- the counter is marked".
abbrev pub halt_stops : Mode → (counter output : Bool) → Bool
halt_stops bare counter output = false
halt_stops surveillance counter output = output
halt_stops high_water counter output = output || counter

-- The rules of the sets, seen through a question that is asked of each set, are 01's rules on
-- marked and unmarked.
pub record SeenAsMarks (sees : ℕ → Bool) : Type 0 where
  pub assigns : (mode : Mode) (target : ℕ) (read : List ℕ) → sees (target_mark mode target (union read)) ≡ target_marked mode (sees target) (map sees read)
  pub decides : (mode : Mode) (read : List ℕ) → sees (decision_notice mode (union read)) ≡ decision_stops mode (map sees read)
  pub counts : (mode : Mode) (counter : ℕ) (read : List ℕ) → sees (counter_mark mode counter (union read)) ≡ counter_marked mode (sees counter) (map sees read)
  pub halts : (mode : Mode) (counter output : ℕ) → sees (halt_notice mode counter output) ≡ halt_stops mode (sees counter) (sees output)

-- "empty exactly where 01 has no mark": whether a set is empty. At a begin "each withheld input is
-- marked and nothing else is".
abbrev pub EmptyWhereUnmarked : Type 0
EmptyWhereUnmarked =
    ((allowed k v : ℕ) → k ≤ 16 → marked (get_or (first_marks allowed k) v 0) ≡ (ltb v k && not (allows allowed v))) × SeenAsMarks marked

-- "the new set is the union of those sets; the counter also keeps what it had": whether input j is
-- in a set. At a begin "A withheld input begins with itself alone".
abbrev pub SetsAreUnions : Type 0
SetsAreUnions =
    (j : ℕ)
    → ((allowed k v : ℕ) → k ≤ 16 → has (get_or (first_marks allowed k) v 0) j ≡ ((ltb v k && not (allows allowed v)) && eqb v j))
    × SeenAsMarks (λ set. has set j)

-- 02, e: "for every such number, that it gives the union of the sets read and the kept part of the
-- old set, and nothing else". Bit by bit: input j is in the new set exactly if it is in a set read,
-- or in the old set and in the number; and so by any two masks, of which the other says what is
-- taken of the sets read.
abbrev pub UnionAndKept : Type 0
UnionAndKept =
    (before : ℕ) (read : List ℕ) (j : ℕ)
    → let is_read = any_marked (map (λ set. has set j) read) in
    ((keep : ℕ) → has (set_mark keep before (union read)) j ≡ (is_read || (has before j && has keep j)))
    × ((masks : Masks) → has (set_by masks before (union read)) j ≡ ((is_read && has masks.take j) || (has before j && has masks.keep j)))

-- `UnionAndKept` of a number with one bit, which keeps that input alone of the old set, and of two
-- sets read, which are there whole.
abbrev pub KeepsOneInput : Type 0
KeepsOneInput =
    (i before a b j : ℕ)
    → has (set_mark (2 ^ i) before (union (a ∷ b ∷ []))) j ≡ (any_marked (has a j ∷ has b j ∷ []) || (has before j && eqb i j))

-- "one piece of arithmetic for both modes": by 0 it is the rule of surveillance, and by 65,535, on
-- an old set of 16 inputs, that of the high-water mark.
abbrev pub OneArithmetic : Type 0
OneArithmetic =
    (before : ℕ) (read : List ℕ)
    → (set_mark 0 before (union read) ≡ target_mark surveillance before (union read))
    × (before < 2 ^ 16 → set_mark 65535 before (union read) ≡ target_mark high_water before (union read))

-- By the masks of its mode the arithmetic is the rule of every mode, bare too, on sets of 16
-- inputs.
abbrev pub SetAsRuled : Type 0
SetAsRuled =
    (mode : Mode) (before : ℕ) (read : List ℕ) → before < 2 ^ 16 → union read < 2 ^ 16 → set_by (masks_of mode) before (union read) ≡ target_mark mode before (union read)

-- A set seen as a mark, 1 or 0, and so all those of a run and of what it comes to.
abbrev pub as_mark : ℕ → ℕ
as_mark set = cond (marked set) 1 0

abbrev pub as_marks : Run → Run
as_marks q =
    record {
      vars = q.vars;
      marks = map as_mark q.marks;
      counter = as_mark q.counter;
      mode = q.mode;
      at = q.at;
      limit = q.limit;
      steps = q.steps;
    }

abbrev pub ending_as_marks : Ending → Ending
ending_as_marks (valued v) = valued v
ending_as_marks (notice named) = notice (as_mark named)
ending_as_marks spent = spent

unfoldable pub progress_as_marks : Progress → Progress
progress_as_marks (going q) = going (as_marks q)
progress_as_marks (over e steps) = over (ending_as_marks e) steps

-- So the sets name inputs and do nothing else: a run whose sets are seen as marks goes through the
-- same boxes with the same values to the same kind of ending in the same steps. By
-- `EmptyWhereUnmarked` its rules are 01's.
abbrev pub SetsOnlyName : Type 0
SetsOnlyName = (flow : ℕ → Box) (m : ℕ) (q : Run) → run flow m (going (as_marks q)) ≡ progress_as_marks (run flow m (going q))

-- What holds of all the sets of a run: of each variable's and of the counter's.
pub record AllSets (P : ℕ → Type 0) (q : Run) : Type 0 where
  pub marks : (v : ℕ) → P (get_or q.marks v 0)
  pub counter : P q.counter

-- "a set of withheld inputs": each input in it is below k and not allowed.
abbrev pub WithheldOnly : (allowed k set : ℕ) → Type 0
WithheldOnly allowed k set = (j : ℕ) → has set j ≡ true → (j < k) × (allows allowed j ≡ false)
