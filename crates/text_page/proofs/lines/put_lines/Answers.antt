-- `text_page::lines::put_lines` meets its contract. What is laid so far are the first i lines with their headings, and
-- the next record is that behind those of the operations before row i.
use Prim.Native.Nat.{◌+◌}
use mathlib.Core.Path.{refl, sym, ap, ◌∙◌}
use native.Mathlib.Omega.{arith}
use lib.ListN.{drop}
use lib.Seq.{take_all}
use Rattle.sheet_format.specs.Read.{instr_by, read_rows}
use Rattle.sheet_format.proofs.Laws.Put.{puts_none, puts_as, puts_length}
use Rattle.sheet_rows.specs.declared.read.Row.{Row}
use Rattle.text_page.specs.Lines.{instruction_line, page_lines}
use Rattle.text_page.specs.Given.{paged}
use Rattle.text_page.proofs.Laws.Columns.{instruction_length}
use Rattle.text_page.proofs.Laws.Pages.{headed_few}
use Rattle.text_page.proofs.Laws.Given.{few_given, rows_given, laid_next, record_next}
use Rattle.text_page.proofs.Laws.Ranks.{rank_none}
use Rattle.text_page.proofs.lines.put_lines.Goals as goal

pub loop-i-init : goal.loop-i-init
unfolding paged
loop-i-init c =
    let none = sym (rank_none (read_rows c.args.n (drop 16 c.args.sheet.now))) in
    (refl, omega arith, omega arith, none, λ k g. puts_none)

pub overflow_mul-i : goal.overflow_mul-i
overflow_mul-i c = omega (arith, few_given c.requires.1)

pub overflow_add-i : goal.overflow_add-i
overflow_add-i c = omega (arith, few_given c.requires.1)

pub overflow_cast-position : goal.overflow_cast-position
overflow_cast-position c =
    omega (arith, c.place_of-place.ensures.few.1, few_given c.requires.1)

pub put_row-at-requires : goal.put_row-at-requires
put_row-at-requires c =
    (omega (arith, c.loop-i.invariant.1, few_given c.requires.1), omega (arith, few_given c.requires.1))

pub overflow_add-next : goal.overflow_add-next
overflow_add-next c =
    omega (arith, c.loop-i.invariant.2, c.takes-next.ensures.0, few_given c.requires.1)

pub loop-i-preserved : goal.loop-i-preserved
loop-i-preserved c =
    let sheet = c.args.sheet.now in
    let read = ap (λ (y : Row). instr_by y.code y.a y.b y.word) c.row_at-row.ensures in
    let here = c.place_of-place.ensures.row sheet c.parts_of-parts.ensures
    (omega (arith, rows_given c.requires.1, c.loop-i-test.true)) in
    let took = c.takes-next.ensures.1 c.row_at-row.result.a c.row_at-row.result.b c.row_at-row.result.word in
    let x = instr_by c.row_at-row.result.code c.row_at-row.result.a c.row_at-row.result.b c.row_at-row.result.word in
    let line = instruction_line c.place_of-place.result.lane c.place_of-place.result.position x c.record_at.result in
    let few =
    headed_few c.loop-i.i line
    (instruction_length c.place_of-place.result.lane c.place_of-place.result.position x c.record_at.result) in (
      puts_length c.put_row-at.ensures ∙ c.loop-i.invariant.0,
      omega (arith, c.loop-i.invariant.1, c.put_row-at.ensures.behind, few),
      omega (arith, c.loop-i.invariant.2, c.takes-next.ensures.0),
      ap (λ m. c.loop-i.next + m) took
          ∙ record_next c.args.n c.loop-i.i sheet c.loop-i-test.true read c.loop-i.invariant.3,
      λ k g. laid_next g c.loop-i-test.true here read c.loop-i.invariant.3 c.record_at.ensures
          (c.loop-i.invariant.4 k g) c.put_row-at.ensures,
    )

pub returns : goal.returns
returns c = λ k g.
    let all = take_all c.loop-i.i (page_lines k) (omega (arith, g.counted, c.loop-i-test.false)) in
    puts_as (ap (paged 0) all) (c.loop-i.invariant.4 k g)
