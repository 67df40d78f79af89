-- A lane of the state record has 548 bytes.
use Prim.Native.Nat.{ℕ, ◌*◌}
use native.Mathlib.Omega.{arith}
use mathlib.Core.Path.{◌≡◌, refl}
use mathlib.Core.Bool.{Bool}
use mathlib.Core.List.{List}
use mathlib.Core.Option.{Option, none, some}
use lib.ListN.{length, get_elem?}
use Rattle.machine_spec.specs.Entries.{Entry, write, release}
use Rattle.machine_spec.specs.Marks.{mark_at}
use Rattle.machine_spec.specs.State.{Lane}
use Rattle.sheet_format.specs.Put.{in_turn}
use Rattle.sheet_format.proofs.Laws.Turn.{turn_even}
use Rattle.machine_record.specs.Places.{lane_size}
use Rattle.machine_record.specs.Lanes.{place_bytes, entries_bytes, state_lane}

pub place_length : (m : Bool) (e : Option Entry) → length (place_bytes m e) ≡ 8
place_length m none = refl
place_length m (some (write x v)) = refl
place_length m (some (release l)) = refl

entries_length : (n ks : ℕ) (es : List Entry) → length (entries_bytes n ks es) ≡ n * 8
unfolding entries_bytes
entries_length n ks es =
    turn_even (λ i. place_bytes (mark_at ks i) (get_elem? es i)) 8 n (λ i. place_length (mark_at ks i) (get_elem? es i))

pub lane_length_lem : (l : Lane) → length (state_lane l) ≡ lane_size
unfolding state_lane in_turn
lane_length_lem l = omega (arith, entries_length 64 l.control.marks l.pending)
