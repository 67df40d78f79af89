-- `file_rows::whole::write_lanes` meets its contract. What is written is the rows of the lanes passed.
use Prim.Native.Nat.{◌+◌, ◌*◌}
use mathlib.Core.Path.{◌≡◌}
use Rattle.file_chains.specs.Ordered.{begin_of}
use Rattle.sheet_format.specs.Put.{Puts, in_turn}
use Rattle.file_rows.specs.Chains.{chain_at}
use Rattle.file_rows.proofs.whole.write_lanes.Given as goal

abbrev pub invariant-loop-end : goal.invariant-loop-end
invariant-loop-end l = (l.begin ≡ begin_of l.ends l.end-index)
    × Puts l.initial.out 16 (in_turn (chain_at l.s) l.end-index) l.out (16 + 8 * l.begin)
