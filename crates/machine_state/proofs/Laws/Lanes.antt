-- Laws of the lanes of the state that the borrowed array holds.
use Prim.Native.Nat.{ℕ, ◌≤◌, ◌<◌}
use mathlib.Core.Path.{◌≡◌, ap, ◌∙◌}
use mathlib.Core.List.{[], map}
use native.Mathlib.Omega.{arith}
use lib.ListN.{take, length-take, get_or-eq_default}
use lib.Seq.{get_or-take}
use Rattle.laws.proofs.Lists.{map_at}
use Rattle.machine_spec.specs.State.{idle, lane_at}
use Rattle.machine_lane.specs.Lanes.{lane_in}
use Rattle.machine_state.specs.States.{Blocks, LANES, stored_in, lane_of, count_of, state_in, Sized}

-- one that is there
pub lane_there : (s : Blocks) (t : ℕ) → Sized s → t < count_of s LANES → t < 4 → lane_at (state_in s) t ≡ lane_of s t
lane_there s t z h k =
    get_or-take (count_of s LANES) (map (λ b. lane_in (stored_in b)) (take 4 s)) t idle h
    ∙ map_at (λ b. lane_in (stored_in b)) (take 4 s) t [] idle (omega (arith, length-take 4 s, z.blocks))
    ∙ ap (λ b. lane_in (stored_in b)) (get_or-take 4 s t [] (omega arith))

pub lane_in_lem : (s : Blocks) (t : ℕ) → Sized s → t < count_of s LANES → count_of s LANES ≤ 4
    → lane_at (state_in s) t ≡ lane_of s t
lane_in_lem s t z h k = lane_there s t z h (omega arith)

-- past the last one stands the idle one
pub lane_past : (s : Blocks) (t : ℕ) → count_of s LANES ≤ t → lane_at (state_in s) t ≡ idle
lane_past s t h =
    get_or-eq_default (state_in s).lanes idle
    (omega (arith, length-take (count_of s LANES) (map (λ b. lane_in (stored_in b)) (take 4 s))))
