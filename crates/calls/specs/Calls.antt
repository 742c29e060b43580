-- The seven calls, and what refuses each of them: by one definition, with the refusals in the
-- documents' order.
use Rattle.std.specs.Prelude.{ℕ, ◌/◌, ◌^◌, List, Bool, Result, Ok, Err, ⊤, not, eqb, ltb, length}
use Rattle.format.specs.declared.Header.{Header}
use Rattle.block.specs.Refusing.{refusal, refuse_into}
use Rattle.block.specs.declared.Refusal.{Refusal}
use Rattle.format.specs.File.{in_range, check_file}
use Rattle.chart.specs.WriteBack.{has_room}
use Rattle.calls.specs.declared.Standing.{Standing}

-- "The calls are all that take the runner: load, begin, advance, answer, abandon and write back."
-- 02, g: "the rewriter joins the calls".
pub data Call : Type 0 where
  load : (file : List ℕ) → Call
  begin : (mode : ℕ) (inputs : List ℕ) (allowed limit : ℕ) → Call
  advance : (m : ℕ) → Call
  answer : Call
  abandon : Call
  write_back : (buffer : List ℕ) → Call
  rewrite : Call

-- A refusal whose detail is 0, and a rule that refuses where it is broken.
abbrev pub refuse : ℕ → Result ⊤ Refusal
refuse number = Err (refusal number 0)

abbrev pub refuse_if : (broken : Bool) (number : ℕ) → Result ⊤ Refusal → Result ⊤ Refusal
refuse_if broken number otherwise = refuse_into Err broken number 0 otherwise

-- A value by a verdict: of a call that is done, or of a refusal.
abbrev pub by_verdict : {A : Type 0} → Result ⊤ Refusal → A → (Refusal → A) → A
by_verdict (Ok _) done refused = done
by_verdict (Err x) done refused = refused x

-- What a begin and a rewriting ask first: a chart, and no run under way.
abbrev pub at_rest : Standing → Result ⊤ Refusal → Result ⊤ Refusal
at_rest s otherwise = refuse_if (not (in_range s.header)) 21 (refuse_if s.running 22 otherwise)

-- The verdict of load's input checks 1 to 6.
unfoldable pub file_verdict : Result Header Refusal → Result ⊤ Refusal
file_verdict (Ok h) = Ok tt
file_verdict (Err x) = Err x

-- "State comes before input. Load: 22, then 1 to 6 in order. Begin: 21, 22, 7, 9, 8, 10. Write
-- back: 21, 12."
-- "7: mode above 2"; "8: the allowed set has a bit at k or above"; "9: the inputs lent aren't k in
-- number"; "10: limit above 65,535"; "12: the buffer for writing back is shorter than the file".
-- "21: no chart held (begin, write back)"; "22: a run is under way (load, begin)"; "23: no run is
-- under way (advance, abandon)"; "24: no ended run (answer)". Write back is "Allowed during a run".
-- 02, b: "It refuses, with 13 and after 23, an advance by less than the run's limit in high-water
-- mode." 02, g: the rewriter "refuses, with 21, when no chart is held, with 22 during a run, and
-- only then with 15 when the chart is edition 1"; an edition that is not 2 is as 1.
unfoldable pub check : Call → Standing → Result ⊤ Refusal
check (load file) s = refuse_if s.running 22 (file_verdict (check_file file))
check (begin mode inputs allowed limit) s =
    at_rest s
    (refuse_if (ltb 2 mode) 7
    (refuse_if (not (eqb (length inputs) s.header.inputs)) 9
    (refuse_if (not (eqb (allowed / 2 ^ s.header.inputs) 0)) 8
    (refuse_if (ltb 65535 limit) 10
    (Ok tt)))))
check (advance m) s = refuse_if (not s.running) 23 (refuse_if (ltb m s.least) 13 (Ok tt))
check answer s = refuse_if (not s.ended) 24 (Ok tt)
check abandon s = refuse_if (not s.running) 23 (Ok tt)
check (write_back buffer) s = refuse_if (not (in_range s.header)) 21 (refuse_if (not (has_room s.header (length buffer))) 12 (Ok tt))
check rewrite s = at_rest s (refuse_if (not (eqb s.header.edition 2)) 15 (Ok tt))
