-- What one box does to a run.
use Rattle.std.specs.Prelude.{ℕ, ◌%◌, List, map, cond, get_or}
use Rattle.decode.specs.Decode.{Box, assigns, decides, halts}
use Rattle.marks.specs.Marks.{Mode, marked, union, target_mark, decision_notice, counter_mark, halt_notice, named_by}
use Rattle.machine.specs.declared.Act.{Act}
use Rattle.machine.specs.declared.Act.TheVariants.{Store, Go, Value, Notice}

-- A variable's value or mark, by its number: an operand of a held chart is below 32.
abbrev pub entry : List ℕ → ℕ → ℕ
entry numbers v = get_or numbers (v % 32) 0

-- The values or marks of the variables that a box reads.
abbrev pub entries : List ℕ → List ℕ → List ℕ
entries numbers reads = map (entry numbers) reads

-- A notice where there are marks for one, and else another act.
abbrev pub notice_or : Mode → (marks : ℕ) → Act → Act
notice_or mode marks other = cond (marked marks) (Notice (named_by mode marks)) other

-- The act of a box, by the mode, the variables, their marks and the counter mark, and by how an
-- assignment sets its target's mark, of the mark before and the marks read. It stores a value and a
-- mark, goes to a box with a counter mark, or ends the run.
unfoldable pub act_by : (sets : (before read : ℕ) → ℕ) → Mode → Box → (vars marks : List ℕ) → ℕ → Act
act_by sets mode (assigns target reads gives next) vars marks counter =
    Store target (gives (entries vars reads)) (sets (entry marks target) (union (entries marks reads))) next
act_by sets mode (decides reads holds next other) vars marks counter =
    let read = union (entries marks reads) in
    notice_or mode (decision_notice mode read) (Go (cond (holds (entries vars reads)) next other) (counter_mark mode counter read))
act_by sets mode halts vars marks counter = notice_or mode (halt_notice mode counter (entry marks 31)) (Value (entry vars 31))

-- The act of a box by the rules: an assignment sets its target's mark as the mode's rule has it.
abbrev pub act : Mode → Box → (vars marks : List ℕ) → ℕ → Act
act mode = act_by (target_mark mode) mode
