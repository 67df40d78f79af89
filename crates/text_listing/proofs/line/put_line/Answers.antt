-- `text_listing::line::put_line` meets its contract.
use mathlib.Core.Path.{ap, ◌∙◌}
use native.Mathlib.Omega.{arith}
use Rattle.sheet_rows.specs.declared.read.Row.{Row}
use Rattle.sheet_format.specs.Read.{instr_by}
use Rattle.text_listing.specs.Line.{line_of}
use Rattle.sheet_format.proofs.Laws.Put.{puts_as, puts_on}
use Rattle.text_listing.proofs.Laws.Line.{pair_few, instr_few, line_few, instr_same}
use Rattle.text_listing.proofs.line.put_line.Goals as goal

pub put-j-requires : goal.put-j-requires
put-j-requires c =
    omega (
      arith,
      c.requires,
      c.put_pair-i.ensures.behind,
      pair_few c.args.lane c.args.position (omega arith) (omega arith),
    )

pub put_instr-k-requires : goal.put_instr-k-requires
put_instr-k-requires c =
    omega (
      arith,
      c.requires,
      c.put-j.ensures.behind,
      c.put_pair-i.ensures.behind,
      pair_few c.args.lane c.args.position (omega arith) (omega arith),
    )

pub put-requires : goal.put-requires
put-requires c =
    omega (
      arith,
      c.requires,
      c.put_instr-k.ensures.behind,
      c.put-j.ensures.behind,
      c.put_pair-i.ensures.behind,
      pair_few c.args.lane c.args.position (omega arith) (omega arith),
      instr_few c.from.result c.from-2.result c.from-3.result c.row_at-row.result.word
          (omega arith) (omega arith) (omega arith),
    )

pub returns : goal.returns
unfolding line_of
returns c =
    let few =
    line_few c.args.lane c.args.position c.from.result c.from-2.result c.from-3.result
    c.row_at-row.result.word (omega arith) (omega arith)
    (omega arith) (omega arith) (omega arith) in
    let all =
    puts_on (puts_on c.put_pair-i.ensures (puts_on c.put-j.ensures c.put_instr-k.ensures))
    c.put.ensures in
    let read =
    instr_same c.row_at-row.result.word c.from.ensures c.from-2.ensures c.from-3.ensures
    ∙ ap (λ (y : Row). instr_by y.code y.a y.b y.word) c.row_at-row.ensures in
    (omega (arith, few, all.behind), puts_as (ap (line_of c.args.lane c.args.position) read) all)
