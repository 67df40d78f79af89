-- `sheet_lanes::codes::Encoder::put_step` meets its contract.
use Prim.Native.Nat.{◌*◌}
use native.Mathlib.Omega.{arith}
use Rattle.sheet_lanes.proofs.Laws.Begins.{begins_length, begins_last}
use Rattle.sheet_lanes.proofs.Laws.Put.{own_length, step_length}
use Rattle.sheet_lanes.proofs.codes.Encoder.put_step.Goals as goal

pub put_barriers-behind-requires : goal.put_barriers-behind-requires
put_barriers-behind-requires c =
    let size = step_length c.args.self.level c.args.plan.now c.args.rows.now c.args.p c.requires.p_in_bounds.0 in
    (c.requires.p_in_bounds.2, omega (arith, size, c.requires.p_in_bounds_2))

pub put_own-requires : goal.put_own-requires
put_own-requires c =
    let size = step_length c.args.self.level c.args.plan.now c.args.rows.now c.args.p c.requires.p_in_bounds.0 in (
      omega (
        arith,
        size,
        c.requires.p_in_bounds_2,
        c.put_barriers-behind.ensures.behind,
        begins_length c.put_barriers-behind.ensures,
      ),
      c.requires.p_in_bounds.0,
    )

pub returns : goal.returns
returns c =
    let eight = own_length c.args.self.level c.args.plan.now c.args.rows.now (8 * c.args.p) c.requires.p_in_bounds.0 in
    begins_last c.put_barriers-behind.ensures _ eight c.put_own.ensures
