-- `sheet_rows::put::put_counts` meets its contract.
use native.Mathlib.Omega.{arith}
use Rattle.sheet_format.proofs.Laws.Put.{puts_on}
use Rattle.sheet_rows.proofs.Laws.Put.{laid_whole, laid_short}
use Rattle.sheet_rows.proofs.put.put_counts.Goals as goal

pub returns-then-out-ge16 : goal.returns-then-out-ge16
returns-then-out-ge16 c =
    laid_whole c.if-out-ge16.true (puts_on c.put_words-next.ensures c.put_words.ensures)

pub returns-else-out-ge16 : goal.returns-else-out-ge16
returns-else-out-ge16 c = laid_short c.args.out.now 8 _ (omega (arith, c.if-out-ge16.false))
