-- `sheet_lanes::codes::Encoder::put_barriers` meets its contract.
use Prim.Native.Nat.{ℕ, ◌*◌, ◌/◌, ◌%◌, ◌^◌}
use mathlib.Core.Path.{ap}
use mathlib.Core.Bool.{not}
use mathlib.Core.List.{◌++◌}
use lib.Dec.{eqb}
use Rattle.sheet_lanes.specs.Put.{load_rows}
use Rattle.sheet_lanes.proofs.Laws.Begins.{begins_row, begins_as}
use Rattle.sheet_lanes.proofs.Laws.Put.{stores_rows}
use Rattle.sheet_lanes.proofs.codes.Encoder.put_barriers.Goals as goal

pub returns : goal.returns
returns c =
    let code : ℕ = c.args.self.codes / 2 ^ (8 * (c.args.set / 4 % 8)) % 256 in
    begins_as
    (ap (λ z. load_rows c.args.self.level c.args.set ++ z)
    (stores_rows c.args.set c.requires.0 c.args.self.level c.args.self.codes_of))
    (begins_row c.put_loads-behind.ensures
    (not (eqb code 0)) code c.put_barrier.ensures.bytes c.put_barrier.ensures.behind)
