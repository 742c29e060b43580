-- `show_box` takes a box that stands within the file, whose checks accept it.
use Rattle.std.proofs.Common.{arith, rules, sym}
use Rattle.chart.proofs.Shows.{shown_within}
use Rattle.chart.proofs.show_box.Goals as goal

pub slice_bounds-result-end : goal.slice_bounds-result-end
slice_bounds-result-end c =
    let a = c.args in
    let within = shown_within a.file.now a.number _ (sym c.in-Ok.ensures) (omega arith) in
    search rules
