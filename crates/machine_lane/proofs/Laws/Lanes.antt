-- What a lane's type says of its arrays, the size of its pending list, and when two lanes are one.
use Prim.Native.Nat.{min}
use mathlib.Core.Path.{◌≡◌, ap, ◌∙◌}
use mathlib.Core.List.{List}
use lib.ListN.{length, length-take}
use mir.Val.{Val}
use denote.Laws.{Is}
use Rattle.machine_spec.specs.State.{Lane as TextLane}
use Rattle.machine_lane.specs.declared.lane.Lane.{Lane}
use Rattle.machine_lane.specs.Lanes.{entries_of, lane_in}
use Rattle.machine_lane.proofs.Laws.Entries.{entries_length}
use Rattle.machine_lane.specs.contracts.lane.Lane as T

pub cells_length : (l : Lane) (vs : List Val) → Is T.the_row l vs → length l.cells ≡ 64
cells_length l vs is = is.1.1.1.1.0.1.0.1

pub values_length : (l : Lane) (vs : List Val) → Is T.the_row l vs → length l.values ≡ 64
values_length l vs is = is.1.1.1.1.1.0.1.0.1

-- the arrays hold 64 entries
module _ (l : Lane) (cells : length l.cells ≡ 64) (values : length l.values ≡ 64) where
  pub room : length (entries_of l.cells l.values) ≡ 64
  room = entries_length 64 l.cells l.values cells values

  pub pending_length : length (lane_in l).pending ≡ min l.len 64
  pending_length = length-take l.len (entries_of l.cells l.values) ∙ ap (min l.len) room

-- two lanes are one where their parts are
pub lane_eq : {s t : TextLane} → s.control.pos ≡ t.control.pos → s.control.marks ≡ t.control.marks
    → s.regs ≡ t.regs → s.pending ≡ t.pending → s ≡ t
lane_eq p m q r = λ i. record { control = record { pos = p i; marks = m i }; regs = q i; pending = r i }
