-- `sheet_rows::put::put_first` meets its contract.
use native.Mathlib.Omega.{arith}
use Rattle.sheet_format.proofs.Laws.Put.{puts_on}
use Rattle.sheet_rows.proofs.Laws.Put.{laid_whole, laid_short}
use Rattle.sheet_rows.proofs.put.put_first.Goals as goal

pub returns-then-out-ge8 : goal.returns-then-out-ge8
returns-then-out-ge8 c =
    laid_whole c.if-out-ge8.true (puts_on c.put_four-next.ensures (rw c.from.ensures at c.put_words.ensures))

pub returns-else-out-ge8 : goal.returns-else-out-ge8
returns-else-out-ge8 c = laid_short c.args.out.now 0 _ (omega (arith, c.if-out-ge8.false))
