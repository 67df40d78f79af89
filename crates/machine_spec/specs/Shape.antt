-- The bounds that every state of a run keeps, so that it fits a record of fixed length.
use Rattle.std.specs.Prelude.{ℕ, ◌^◌, ◌≤◌, ◌<◌, ◌≡◌, List, [], ◌∷◌, length, get_or}
use Rattle.file_format.specs.Accepted.{Program}
use Rattle.sheet_format.specs.Layout.{Instr}
use Rattle.machine_spec.specs.Entries.{Entry, write, release}
use Rattle.machine_spec.specs.State.{State, lane_at, pos_at}
use Rattle.machine_spec.specs.View.{View}

-- of ls locations and ks locks
abbrev pub EntrySmall : ℕ → ℕ → Entry → Type 0
EntrySmall ls ks (write x v) = (x < ls) × (v < 2 ^ 32)
EntrySmall ls ks (release l) = l < ks

abbrev pub AllSmall : ℕ → ℕ → List Entry → Type 0
AllSmall ls ks [] = Unit {0}
AllSmall ls ks (e ∷ es) = EntrySmall ls ks e × AllSmall ls ks es

-- eight registers in each lane, at most 64 entries pending, L memory values and K lock words; each value fits 32 bits,
-- and a lock word names a lane or none
pub record Shaped (k : Program) (v : View) : Type 0 where
  pub lanes : (length v.regs ≡ length k.lanes) × (length v.pending ≡ length k.lanes)
  pub regs_count : (t : ℕ) → t < length k.lanes → length (get_or v.regs t []) ≡ 8
  pub regs_small : (t a : ℕ) → get_or (get_or v.regs t []) a 0 < 2 ^ 32
  pub pending_few : (t : ℕ) → length (get_or v.pending t []) ≤ 64
  pub entries : (t : ℕ) → AllSmall k.locations k.locks (get_or v.pending t [])
  pub memory_count : length v.memory ≡ k.locations
  pub memory_small : (x : ℕ) → get_or v.memory x 0 < 2 ^ 32
  pub locks_count : length v.locks ≡ k.locks
  pub locks_small : (l : ℕ) → get_or v.locks l 0 ≤ length k.lanes

-- each lane stands at an instruction of its program, or at its end
abbrev pub Within : List (List Instr) → State → Type 0
Within prog s = (t : ℕ) → pos_at s t ≤ length (get_or prog t [])

-- each mark stands behind an entry that is pending
abbrev pub MarksBehind : State → Type 0
MarksBehind s = (t : ℕ) → (lane_at s t).control.marks < 2 ^ length (lane_at s t).pending

-- no mark stands anywhere
abbrev pub Unmarked : State → Type 0
Unmarked s = (t : ℕ) → (lane_at s t).control.marks ≡ 0
