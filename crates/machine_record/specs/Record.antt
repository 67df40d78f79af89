-- The state record that a run leaves for C: 2,280 bytes, as docs/FORMATS.md lays them out.
use Rattle.std.specs.Prelude.{ℕ, ◌/◌, ◌^◌, Bool, List, [], ◌∷◌, ◌++◌, get_or}
use Rattle.sheet_format.specs.Bytes.{quad_bytes}
use Rattle.sheet_format.specs.Put.{in_turn}
use Rattle.machine_spec.specs.State.{State, lane_at}
use Rattle.machine_spec.specs.Run.{Answer}
use Rattle.machine_record.specs.Lanes.{flag, state_lane}

-- 64 bits
abbrev pub double : ℕ → List ℕ
double n = quad_bytes n ++ quad_bytes (n / 2 ^ 32)

-- finished, lock words, moves done and waited, memory
unfoldable pub head_bytes : Bool → ℕ → ℕ → List ℕ → List ℕ → List ℕ
head_bytes finished done waited memory locks =
    flag finished ∷ 0 ∷ 0 ∷ 0
    ∷ in_turn (λ i. get_or locks i 0 ∷ []) 4
    ++ double done ++ double waited
    ++ in_turn (λ i. quad_bytes (get_or memory i 0)) 16

-- what comes before the lanes, and the lanes; what the kernel does not have is zero
unfoldable pub record_of : Bool → ℕ → ℕ → State → List ℕ
record_of finished done waited s =
    head_bytes finished done waited s.memory s.locks ++ in_turn (λ t. state_lane (lane_at s t)) 4

-- the record of a run that is answered
abbrev pub state_bytes : Answer → List ℕ
state_bytes a = record_of a.finished a.done a.waited a.state
