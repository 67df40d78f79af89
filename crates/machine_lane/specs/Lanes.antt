-- The lane of the machines' text that a lane of the code holds.
use Rattle.std.specs.Prelude.{ℕ, suc, ◌+◌, ◌-◌, ◌*◌, ◌^◌, ◌≡◌, Bool, false, cond, List, [], ◌∷◌, ltb, get_or, take}
use Rattle.std.specs.Prelude.{replicate, set as update}
use Rattle.std.proofs.Math.Option.{some}
use Rattle.machine_spec.specs.Entries.{Entry, write, release, append_entry}
use Rattle.machine_spec.specs.Step.{goto}
use Rattle.machine_spec.specs.State.{Lane, at_start}
use Rattle.machine_lane.specs.declared.lane.Lane.{Lane as Stored}

-- a set of locations from its flags
abbrev pub flags : List Bool → ℕ → Bool
flags fs x = get_or fs x false

-- the entry of a cell: a value for a location, or from 16 up the release of a lock
abbrev pub entry_of : ℕ → ℕ → Entry
entry_of c v = cond (ltb c 16) (write c v) (release (c - 16))

-- what reads past the end of a list
abbrev pub no_entry : Entry
no_entry = write 0 0

-- the entries of a row of cells and a row of values
unfoldable pub entries_of : List ℕ → List ℕ → List Entry
entries_of [] vs = []
entries_of (c ∷ cs) [] = []
entries_of (c ∷ cs) (v ∷ vs) = entry_of c v ∷ entries_of cs vs

-- the lane that a stored lane is
abbrev pub lane_in : Stored → Lane
lane_in l =
    record {
      control = record { pos = l.at; marks = l.low + 2 ^ 32 * l.high };
      regs = l.registers;
      pending = take l.len (entries_of l.cells l.values);
    }

abbrev pub start_lane : Lane
start_lane = record { control = at_start; regs = replicate 8 0; pending = [] }

-- the lane with another pending list, and with another value in a register
abbrev pub with_pending : Lane → List Entry → Lane
with_pending l es = record { control = l.control; regs = l.regs; pending = es }

abbrev pub with_register : Lane → ℕ → ℕ → Lane
with_register l a v = record { control = l.control; regs = update l.regs a v; pending = l.pending }

-- the lane at another position, and with other marks in its pending list
abbrev pub placed_at : Lane → ℕ → Lane
placed_at l p = record { control = goto l.control p; regs = l.regs; pending = l.pending }

abbrev pub with_marks : Lane → ℕ → Lane
with_marks l ks =
    record { control = record { pos = l.control.pos; marks = ks }; regs = l.regs; pending = l.pending }

-- r is the lane l with one entry more, the newest
pub record Appended (l : Stored) (c v : ℕ) (r : Stored) : Type 0 where
  pub lane : lane_in r ≡ with_pending (lane_in l) (append_entry (lane_in l).pending (some (entry_of c v)))
  pub len : r.len ≡ suc l.len
  pub cell : get_or r.cells l.len 0 ≡ c
  pub value : get_or r.values l.len 0 ≡ v
