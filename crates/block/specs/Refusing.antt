-- A refusal, and a rule that refuses. "Each gives its number and a detail, 0 unless stated".
use Rattle.std.specs.Prelude.{ℕ, Bool, cond}
use Rattle.block.specs.declared.Reason.{Reason}
use Rattle.block.specs.declared.Reason.TheVariants.{Length, Check, Letters, Header, Blocks, Place, Mode, Allowed, Inputs, Limit, Room, Amount, Untaken, Edition, NoChart, UnderWay, NoRun, NoEnding}
use Rattle.block.specs.declared.Refusal.{Refusal}

-- A refusal by document 01's number and detail.
abbrev pub refusal : (number detail : ℕ) → Refusal
refusal number detail = record { number = number; detail = detail }

-- The number and the detail of each of the code's reasons. "1: file length isn't 1,024, 1,536,
-- 2,048 or 2,560." "2: a block's check differs. Detail: the first such block." "3: the letters or
-- the edition are wrong." "4: k, n, the first box, or bytes 8 to 509 of block 0 break a rule." "5:
-- the length doesn't fit n." "6: a box, or a place after the last box, breaks a rule. Detail: the
-- first such place." "7: mode above 2"; "8: the allowed set has a bit at k or above"; "9: the
-- inputs lent aren't k in number"; "10: limit above 65,535"; "12: the buffer for writing back is
-- shorter than the file". 02, b: "13 .. an advance by less than the run's limit in high-water
-- mode"; f: "14 and the first such box as detail"; g: "15 when the chart is edition 1". "21: no
-- chart held"; "22: a run is under way"; "23: no run is under way"; "24: no ended run".
abbrev pub refusal_for : Reason → Refusal
refusal_for Length = refusal 1 0
refusal_for (Check block) = refusal 2 block
refusal_for Letters = refusal 3 0
refusal_for Header = refusal 4 0
refusal_for Blocks = refusal 5 0
refusal_for (Place place) = refusal 6 place
refusal_for Mode = refusal 7 0
refusal_for Allowed = refusal 8 0
refusal_for Inputs = refusal 9 0
refusal_for Limit = refusal 10 0
refusal_for Room = refusal 12 0
refusal_for Amount = refusal 13 0
refusal_for (Untaken place) = refusal 14 place
refusal_for Edition = refusal 15 0
refusal_for NoChart = refusal 21 0
refusal_for UnderWay = refusal 22 0
refusal_for NoRun = refusal 23 0
refusal_for NoEnding = refusal 24 0

-- A rule in a list of checks: where it is broken the list answers a refusal, and else the rest of
-- the list answers.
abbrev pub refuse_into : {A : Type 0} → (refused : Refusal → A) → (broken : Bool) (number detail : ℕ) → A → A
refuse_into refused broken number detail otherwise = cond broken (refused (refusal number detail)) otherwise
