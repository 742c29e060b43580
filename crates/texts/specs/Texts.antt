-- The texts as the code has them: the bytes of each, and which one is made of what a call told.
use Rattle.std.specs.Prelude.{ℕ, List, Result, Ok, Err}
use Rattle.block.specs.declared.Refusal.{Refusal}
use Rattle.runner.specs.declared.Loaded.{Loaded}
use Rattle.runner.specs.declared.Answered.{Answered}
use Rattle.runner.specs.declared.Ending.{Ending}
use Rattle.runner.specs.declared.Ending.TheVariants as ending
use Rattle.texts.specs.declared.Text.{Text}
use Rattle.texts.specs.declared.Text.TheVariants.{Chart, Value, Notice, Spent, Refused}
use Rattle.texts.specs.Printing.{chart_text, value_text, notice_text, spent_text, refused_text}

-- The bytes of a text.
abbrev pub text_of : Text → List ℕ
text_of (Chart inputs boxes) = chart_text inputs boxes
text_of (Value value steps) = value_text value steps
text_of (Notice steps named) = notice_text steps named
text_of (Spent steps) = spent_text steps
text_of (Refused number detail) = refused_text number detail

-- A refusal, by its number and detail.
abbrev pub of_refusal : Refusal → Text
of_refusal x = Refused x.number x.detail

-- What load told: the chart line, or its refusal.
abbrev pub of_loaded : Result Loaded Refusal → Text
of_loaded (Ok c) = Chart c.inputs c.boxes
of_loaded (Err x) = of_refusal x

-- What answer told: an ending and its steps, or its refusal.
abbrev pub of_ending : Ending → ℕ → Text
of_ending (ending.Value value) steps = Value value steps
of_ending (ending.Notice named) steps = Notice steps named
of_ending ending.Spent steps = Spent steps

abbrev pub of_answered : Result Answered Refusal → Text
of_answered (Ok a) = of_ending a.ending a.steps
of_answered (Err x) = of_refusal x
