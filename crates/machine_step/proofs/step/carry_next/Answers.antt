-- `machine_step::step::carry_next` meets its contract.
use Rattle.std.proofs.Common.{drop, sym, ap, ◌∙◌}
use lib.ListN.{get_elem?}
use Rattle.sheet_format.specs.Read.{read_rows}
use Rattle.sheet_rows.proofs.Laws.Read.{row_from}
use Rattle.machine_lane.specs.Lanes.{flags}
use Rattle.machine_step.proofs.Laws.Codes.{of_row, ready_as, carried_as}
use Rattle.machine_step.proofs.Laws.Programs.{row_past, ready_at, made_carry, made_wait}
use Rattle.machine_step.proofs.step.carry_next.Goals as goal

pub returns-then-p-count : goal.returns-then-p-count
returns-then-p-count c =
    let b = drop c.args.first c.args.sheet.now in
    let prog = read_rows c.args.count b in
    let at = ap (get_elem? prog) (sym (c.wide-p.ensures ∙ c.position.ensures)) in
    made_wait c.args.machine (flags c.args.volatile.now) prog _ c.args.t
    (at ∙ row_past c.args.count b c.wide-p.result c.if-p-count.true)
    c.requires.0.lies.sized

pub carry-requires : goal.carry-requires
carry-requires c =
    let b = drop c.args.first c.args.sheet.now in
    let prog = read_rows c.args.count b in
    let at = ap (get_elem? prog) (sym (c.wide-p.ensures ∙ c.position.ensures)) in
    let here = at ∙ row_from c.args.count c.args.first c.args.sheet.now c.wide-p.result c.if-p-count.false in
    ready_as (of_row c.whole_row-row.ensures) (ready_at c.requires.0 here)

pub returns : goal.returns
returns c =
    let b = drop c.args.first c.args.sheet.now in
    let prog = read_rows c.args.count b in
    let at = ap (get_elem? prog) (sym (c.wide-p.ensures ∙ c.position.ensures)) in
    let here = at ∙ row_from c.args.count c.args.first c.args.sheet.now c.wide-p.result c.if-p-count.false in
    let f = flags c.args.volatile.now in
    made_carry c.args.machine f prog _ c.args.t here
    (carried_as c.args.machine f (of_row c.whole_row-row.ensures) c.carry.ensures)
