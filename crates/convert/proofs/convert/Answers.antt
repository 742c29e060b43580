-- `convert` puts the file where load accepts the chart, whose header is then in range.
use Rattle.std.proofs.Common.{◌≡◌, ℕ, List, Ok, length, arith, ap, ap₂, sym, ◌∙◌}
use Rattle.std.proofs.lemmas.Grind.{common_steps}
use Rattle.format.specs.File.{check_file}
use Rattle.format.proofs.Passes.{passes}
use Rattle.chart.specs.Chart.{table_of}
use Rattle.chart.specs.WriteBack.{file_length}
use Rattle.chart.proofs.Writes.{put_fits}
use Rattle.convert.specs.Convert.{convert, conversion, conversion_by, in_other, check_after, check_chart}
use Rattle.convert.proofs.convert.Goals as goal

pub first_untaken-requires : goal.first_untaken-requires
first_untaken-requires c =
    let accepted = passes c.args.file.now _ (sym c.in_ok-check_file.ensures) in
    rw c.in_other-header.ensures (omega arith)

pub returns : goal.returns
unfolding convert conversion_by check_after check_chart
returns c =
    let f = c.args.file.now in
    let b = c.args.buf.now in
    let h = c.in_ok-check_file.field-0 in
    let accepted = passes f h (sym c.in_ok-check_file.ensures) in
    let size = c.file_length-2.ensures.0 ∙ ap file_length c.in_other-header.ensures in
    let room = c.file_length.ensures.0 ∙ ap file_length c.in_other-header.ensures in
    let told : check_after (check_file f) (table_of f) (length b) ≡ Ok (in_other h) = grind (arith, common_steps) in
    let put = rw (c.in_other-header.ensures, c.table_of-table.ensures) at c.put_file.ensures in
    let fits = put_fits (in_other h) (table_of f) b accepted.ranged (omega (arith, room)) in
    rw told (ap₂ (λ (n : ℕ) (end : List ℕ). conversion (Ok n) end) size (put ∙ fits))
