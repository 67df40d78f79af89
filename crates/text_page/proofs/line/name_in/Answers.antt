-- `text_page::line::name_in` meets its contract: the name is laid into a buffer of its own first.
use mathlib.Core.Path.{ap}
use native.Mathlib.Omega.{arith}
use lib.ListN.{length}
use Rattle.sheet_format.specs.Read.{instr_by}
use Rattle.sheet_format.proofs.Laws.Put.{puts_taken}
use Rattle.text_listing.proofs.Laws.Line.{name_few, name_end}
use Rattle.text_page.proofs.line.name_in.Goals as goal

pub slice_bounds-name-end : goal.slice_bounds-name-end
slice_bounds-name-end c =
    omega (arith, name_end c.args.code c.put_name-size.ensures)

pub slice_bounds-put_in-end : goal.slice_bounds-put_in-end
slice_bounds-put_in-end c =
    let laid = c.put_name-size.ensures 0 0 0 in
    omega (arith, laid.behind, ap length (puts_taken (name_few (instr_by c.args.code 0 0 0)) laid))
