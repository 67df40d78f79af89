-- The state record has 2,280 bytes, which is where a fifth lane would begin: theorem `record_length`.
use Prim.Native.Nat.{ℕ}
use native.Mathlib.Omega.{arith}
use mathlib.Core.Path.{◌≡◌, refl}
use mathlib.Core.Bool.{Bool}
use mathlib.Core.List.{List}
use lib.ListN.{length, length-append}
use Rattle.machine_spec.specs.State.{State, lane_at}
use Rattle.sheet_format.specs.Put.{in_turn}
use Rattle.sheet_format.proofs.Laws.Turn.{turn_even}
use Rattle.machine_record.specs.Places.{lane_size, lane_from}
use Rattle.machine_record.specs.Lanes.{state_lane}
use Rattle.machine_record.proofs.LaneSizes.{lane_length_lem}
use Rattle.machine_record.specs.Record.{head_bytes, record_of}

pub head_length : (f : Bool) (d w : ℕ) (memory locks : List ℕ) → length (head_bytes f d w memory locks) ≡ lane_from 0
unfolding head_bytes in_turn
head_length f d w memory locks = refl

pub record_length : (f : Bool) (d w : ℕ) (s : State) → length (record_of f d w s) ≡ lane_from 4
unfolding record_of
record_length f d w s =
    let lanes : ℕ → List ℕ = λ t. state_lane (lane_at s t) in
    omega (
      arith,
      length-append (head_bytes f d w s.memory s.locks) (in_turn lanes 4),
      head_length f d w s.memory s.locks,
      turn_even lanes lane_size 4 (λ t. lane_length_lem (lane_at s t)),
    )
