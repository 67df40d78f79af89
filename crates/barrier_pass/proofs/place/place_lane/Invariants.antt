-- `barrier_pass::place::place_lane` meets its contract.
-- The loop's invariant: for the operations whose rows are given, due is what is due after the position before p,
-- brought has what jumps from below p bring to each position from p on, p begins at `at`, and the plan has the numbers
-- of the positions below p.
use Prim.Native.Nat.{ℕ, ◌*◌, ◌<◌, ◌≤◌}
use mathlib.Core.Path.{◌≡◌}
use mathlib.Core.List.{List}
use lib.ListN.{length, get_or}
use Rattle.file_format.specs.Accepted.{is_volatile}
use Rattle.file_format.specs.declared.accepted.Op.{Op}
use Rattle.sheet_rows.specs.Lanes.{Holds}
use Rattle.barrier_pass.proofs.Laws.Plan.{Placing}
use Rattle.barrier_pass.proofs.place.place_lane.Given as goal

abbrev pub invariant-loop-p : goal.invariant-loop-p
invariant-loop-p l = record {
  sized : length l.brought ≡ 65;
  early : l.at ≤ 6308000 * l.p;
  rest : (j : ℕ) → l.n < j → get_or l.plan j 0 ≡ get_or l.initial.plan j 0;
  placing : (ops : List Op) → Holds l.rows l.n ops
      → Placing (is_volatile l.mask) ops l.due l.brought l.plan l.at l.p;
}
