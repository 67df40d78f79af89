-- `file_rows::chain::write_chain` meets its contract. What is written is the rows of the records passed.
use Prim.Native.Nat.{◌+◌, ◌*◌}
use lib.ListN.{take, drop}
use Rattle.file_format.specs.Accepted.{ops_of}
use Rattle.sheet_format.specs.Put.{Puts}
use Rattle.sheet_rows.specs.Lanes.{op_rows}
use Rattle.file_rows.proofs.chain.write_chain.Given as goal

abbrev pub invariant-loop-p : goal.invariant-loop-p
invariant-loop-p l =
    Puts l.initial.out (16 + 8 * l.begin)
    (op_rows (take l.p (ops_of l.s (take l.n (drop l.begin l.order))))) l.out
    (16 + 8 * l.begin + 8 * l.p)
