-- `print_sentence` leaves a shorter buffer as it was, and puts the newline after all the clauses.
use Rattle.texts.specs.Printing.{sentence}
use Rattle.texts.proofs.Fronts.{no_room, with_room, newline}
use Rattle.texts.proofs.print_sentence.Goals as goal

pub returns-then-out-lt64 : goal.returns-then-out-lt64
returns-then-out-lt64 c = let all = no_room _ c.args.out.now c.if-out-lt64.true in record { value = all.0; out_after = all.1 }

pub returns : goal.returns
unfolding sentence
returns c =
    let end = newline _ _ _ _ _ c.loop-word.invariant c.loop-word-test.false c.if-out-lt64.false in
    let all = with_room _ c.args.out.now _ _ c.if-out-lt64.false end.0 end.1 in
    record { value = all.0; out_after = all.1 }
