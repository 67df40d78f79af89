-- `sheet_lanes::codes::Encoder::put_loads` meets its contract.
use Prim.Native.Nat.{◌+◌, ◌/◌, ◌%◌}
use mathlib.Core.Path.{sym, ap, ◌∙◌}
use mathlib.Core.Bool.{not}
use lib.Dec.{eqb}
use Rattle.sheet_format.specs.declared.Level.{Level}
use Rattle.sheet_lanes.specs.Put.{load_rows}
use Rattle.sheet_lanes.proofs.Laws.Begins.{begins_none, begins_row, begins_as}
use Rattle.sheet_lanes.proofs.Laws.Put.{loads_rows}
use Rattle.sheet_lanes.proofs.codes.Encoder.put_loads.Goals as goal

pub returns-in-Level1 : goal.returns-in-Level1
returns-in-Level1 c =
    let none = begins_none {l = c.args.out.now} {i = c.args.at} in
    let one =
    begins_row none (not (eqb (c.args.set % 4) 0))
    (11 + c.args.set % 4 / 2) c.put_barrier.ensures.bytes c.put_barrier.ensures.behind in
    begins_as (loads_rows c.args.set c.requires.0 ∙ ap (λ (m : Level). load_rows m c.args.set) (sym c.in-Level1.is)) one
