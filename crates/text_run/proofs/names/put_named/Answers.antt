-- `text_run::names::put_named` meets its contract.
use mathlib.Core.Path.{sym, ◌∙◌}
use native.Mathlib.Omega.{arith}
use Rattle.laws.proofs.Bools.{second_of}
use Rattle.sheet_format.proofs.Laws.Put.{puts_as}
use Rattle.text_listing.proofs.Laws.Line.{instr_few}
use Rattle.text_run.proofs.names.put_named.Goals as goal

pub returns : goal.returns
returns c =
    let few = instr_few c.args.row.code c.args.row.a c.args.row.b c.args.row.word (omega arith) (omega arith)
    (omega arith) in
    let text = second_of _ _
    (sym (c.own_name.ensures c.args.row.a c.args.row.b c.args.row.word) ∙ c.if-own_name.false) in
    (omega (arith, few, c.put_instr.ensures.behind), puts_as text c.put_instr.ensures)
