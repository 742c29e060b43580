-- Where the rules let it pass, the file is put into the buffer; else the buffer stays.
use mathlib.Core.Path.{refl, ap, sym, ◌∙◌}
use borrow.Author.Rules.{rules}
use Rattle.calls.specs.Calls.{check}
use Rattle.runner.proofs.Outcomes.{write_back_accepts, write_back_refuses}
use Rattle.runner.proofs.Runner.write_back.Goals as goal

pub returns-in_err-check_write_back : goal.returns-in_err-check_write_back
returns-in_err-check_write_back c =
    let refused = write_back_refuses c.args.self _ _ c.args.buf.now (sym c.in_err-check_write_back.was ∙ c.check_write_back.ensures ∙ ap (check _) c.standing.ensures) refl in
    search rules

pub returns : goal.returns
returns c =
    write_back_accepts c.args.self c.file_length.result _ _
    (sym c.in_ok-check_write_back.was ∙ c.check_write_back.ensures ∙ ap (check _) c.standing.ensures)
    c.file_length.ensures.0 c.put_file.ensures
