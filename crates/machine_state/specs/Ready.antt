-- What a lane that is held in the borrowed array needs, so that the code can move it.
use Rattle.std.specs.Prelude.{ℕ, ◌<◌, ◌≡◌, List, length}
use Rattle.std.proofs.Math.Option.{some}
use Rattle.std.proofs.Math.ListN.{get_elem?}
use Rattle.file_format.specs.declared.accepted.Op.TheVariants.{Set, Add, Load, Store, Lock, Unlock, Skip}
use Rattle.sheet_format.specs.Layout.{Instr, op, barrier}
use Rattle.machine_spec.specs.State.{Lane}
use Rattle.machine_state.specs.States.{Blocks, Lies, lane_of}

-- what an instruction asks of its lane: an operand that has a cell, and room for the entry that it appends
abbrev pub Asks : Instr → Lane → Type 0
Asks (op (Set a n)) l = Unit {0}
Asks (op (Add a b)) l = Unit {0}
Asks (op (Load a x)) l = x < 16
Asks (op (Store a x)) l = (x < 16) × (length l.pending < 64)
Asks (op (Lock k)) l = Unit {0}
Asks (op (Unlock k)) l = (k < 4) × (length l.pending < 64)
Asks (op (Skip a t)) l = Unit {0}
Asks (barrier b) l = Unit {0}

-- lane t, one of four, can carry out the instruction; its position has a next one
pub record Ready (s : Blocks) (t : ℕ) (i : Instr) : Type 0 where
  pub lies : Lies s t
  pub position : (lane_of s t).control.pos < 65536
  pub asked : Asks i (lane_of s t)

-- a lane that stands at an instruction of its program has what this asks
pub record LaneReady (prog : List Instr) (l : Lane) : Type 0 where
  pub position : l.control.pos < 65536
  pub asked : (i : Instr) → get_elem? prog l.control.pos ≡ some i → Asks i l

-- lane t, one of four, can make any choice of its program
pub record Movable (s : Blocks) (t : ℕ) (prog : List Instr) : Type 0 where
  pub lies : Lies s t
  pub ready : LaneReady prog (lane_of s t)
