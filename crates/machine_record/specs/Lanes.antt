-- A lane of the state record: 548 bytes, as docs/FORMATS.md lays them out.
use Rattle.std.specs.Prelude.{ℕ, Bool, cond, List, ◌∷◌, ◌++◌, length, get_or, replicate}
use Rattle.std.specs.Prelude.{Option as Pending, Some, None}
use Rattle.std.proofs.Math.Option.{Option, none, some}
use Rattle.std.proofs.Math.ListN.{get_elem?}
use Rattle.sheet_format.specs.Bytes.{word_bytes, quad_bytes}
use Rattle.sheet_format.specs.Put.{in_turn}
use Rattle.machine_spec.specs.Entries.{Entry, write, release}
use Rattle.machine_spec.specs.Marks.{mark_at}
use Rattle.machine_spec.specs.State.{Lane}
use Rattle.machine_lane.specs.Lanes.{entry_of}

abbrev pub flag : Bool → ℕ
flag b = cond b 1 0

-- kind (1 store, 2 release), location or lock, 1 where a mark stands directly behind it, a zero byte, value
abbrev pub entry_bytes : Bool → Entry → List ℕ
entry_bytes m (write x v) = 1 ∷ x ∷ flag m ∷ 0 ∷ quad_bytes v
entry_bytes m (release l) = 2 ∷ l ∷ flag m ∷ 0 ∷ quad_bytes 0

-- the entry of a cell and a value, where there is one
abbrev pub entry_in : Pending (ℕ × ℕ) → Option Entry
entry_in None = none
entry_in (Some e) = some (entry_of e.0 e.1)

-- a place for an entry: zero where there is none
abbrev pub place_bytes : Bool → Option Entry → List ℕ
place_bytes m none = replicate 8 0
place_bytes m (some e) = entry_bytes m e

-- n places for entries with the marks ks, oldest first; zero from the last entry on
unfoldable pub entries_bytes : ℕ → ℕ → List Entry → List ℕ
entries_bytes n ks es = in_turn (λ i. place_bytes (mark_at ks i) (get_elem? es i)) n

-- position, number of pending entries, registers, entries
unfoldable pub state_lane : Lane → List ℕ
state_lane l =
    word_bytes l.control.pos ++ word_bytes (length l.pending) ++ in_turn (λ i. quad_bytes (get_or l.regs i 0)) 8
    ++ entries_bytes 64 l.control.marks l.pending
