-- `file_chains::link::left_over` meets its contract.
use lib.Dec.{eqb}
use lib.ListN.{get_or}
use native.Mathlib.Omega.{arith}
use Rattle.std.proofs.Common.{rules}
use Rattle.std.proofs.iter.runs.Sources.{ranges}
use Rattle.file_format.proofs.Laws.Named.{found_is}
use Rattle.file_chains.proofs.Laws.Tally.{unmet}
use Rattle.file_chains.proofs.link.left_over.Goals as goal

pub returns : goal.returns
returns c =
    found_is {test = λ i. eqb (get_or c.args.place.now i 0) 0} c.args.n c.find.result
    (λ i a b. unmet c.args.place.now i (omega arith)) (search (rules, ranges))
