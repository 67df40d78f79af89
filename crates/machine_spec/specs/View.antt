-- What is compared of a run: the loaded values, and at the end whether it is finished, registers, memory, locks and
-- pending lists; not positions and counts.
use Rattle.std.specs.Prelude.{Bool, true, false, ◌&&◌, List, [], map, ℕ, zero, suc, length, get_or}
use Rattle.std.proofs.Math.Option.{Option, none, some}
use Rattle.std.proofs.Math.ListN.{get_elem?}
use Rattle.sheet_format.specs.Layout.{Instr}
use Rattle.machine_spec.specs.Entries.{Entry, is_nil}
use Rattle.machine_spec.specs.State.{State, Loaded, Outcome, ran, refused, lane_at, pos_at}

abbrev pub every : ℕ → (ℕ → Bool) → Bool
every zero f = true
every (suc n) f = every n f && f n

abbrev pub is_none : Option Instr → Bool
is_none none = true
is_none (some i) = false

-- lane t of the program stands at its end, and each lane does
abbrev pub ended_at : List (List Instr) → State → ℕ → Bool
ended_at prog s t = is_none (get_elem? (get_or prog t []) (pos_at s t))

abbrev pub ended : List (List Instr) → State → Bool
ended prog s = every (length prog) (ended_at prog s)

-- nothing is pending in any lane
abbrev pub drained : State → Bool
drained s = every (length s.lanes) (λ t. is_nil (lane_at s t).pending)

-- a run is finished when every lane stands at its end and nothing is pending
abbrev pub finished : List (List Instr) → State → Bool
finished prog s = ended prog s && drained s

pub record View : Type 0 where
  pub row : List Loaded
  pub finished : Bool
  pub regs : List (List ℕ)
  pub memory : List ℕ
  pub locks : List ℕ
  pub pending : List (List Entry)

abbrev pub view_of : List Loaded → Bool → State → View
view_of row end s =
    record {
      row = row;
      finished = end;
      regs = map (λ l. l.regs) s.lanes;
      memory = s.memory;
      locks = s.locks;
      pending = map (λ l. l.pending) s.lanes;
    }

-- what is seen of an outcome
pub data Seen : Type 0 where
  saw : View → Seen
  refusal : (lane place : ℕ) → Seen

abbrev pub observe : List (List Instr) → Outcome → Seen
observe prog (refused t p) = refusal t p
observe prog (ran r) = saw (view_of r.row (finished prog r.state) r.state)
