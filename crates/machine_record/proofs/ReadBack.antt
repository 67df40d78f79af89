-- What a state record says is what its answer has: theorem `read_back`.
use Prim.Native.Nat.{ℕ, zero, suc, ◌+◌, ◌*◌, ◌%◌, ◌^◌, ◌<◌, ◌≤◌}
use mathlib.Core.Path.{◌≡◌, refl, subst, ◌∙◌}
use mathlib.Core.Bool.{Bool, true, false}
use mathlib.Core.List.{List, [], ◌∷◌, ◌++◌}
use native.Mathlib.Nat.{add-zero, one-mul, mod-eq_of_lt}
use native.Mathlib.Omega.{arith}
use lib.Dec.{eqb}
use lib.ListN.{length, get_or, get_elem?, take, drop}
use Rattle.laws.proofs.Lists.{at_some}
use Rattle.file_format.specs.Fields.{byte}
use Rattle.sheet_format.specs.Bytes.{word_bytes, quad_bytes}
use Rattle.sheet_format.specs.Put.{in_turn}
use Rattle.machine_spec.specs.Entries.{Entry, write, release}
use Rattle.machine_spec.specs.Marks.{mark_at}
use Rattle.machine_spec.specs.Shape.{EntrySmall, AllSmall}
use Rattle.machine_spec.specs.State.{Lane, lane_at}
use Rattle.machine_spec.specs.Run.{Answer}
use Rattle.machine_lane.specs.Lanes.{no_entry}
use Rattle.machine_record.specs.Places.{lock_from, done_from, waited_from, memory_from}
use Rattle.machine_record.specs.Places.{lane_size, lane_from, position_from, register_from, entry_from}
use Rattle.machine_record.specs.Lanes.{flag, entry_bytes, place_bytes, entries_bytes, state_lane}
use Rattle.machine_record.specs.Record.{head_bytes, record_of, state_bytes}
use Rattle.machine_record.specs.Fields.{entry_in, fields_in, fields_of, Same, Fits}
use Rattle.machine_record.proofs.LaneSizes.{place_length, lane_length_lem}
use Rattle.machine_record.proofs.Sizes.{head_length}
use Rattle.machine_record.proofs.Laws.Has.{Has, has_whole, has_front, has_behind, has_within, has_turn}
use Rattle.machine_record.proofs.Laws.Has.{has_word, has_low, has_quad}

-- ## a lane

module _ (l : Lane) where
  -- what stands before its registers, and they
  abbrev front : List ℕ
  front = word_bytes l.control.pos ++ word_bytes (length l.pending)

  abbrev registers : List ℕ
  registers = in_turn (λ r. quad_bytes (get_or l.regs r 0)) 8

  abbrev entries : List ℕ
  entries = entries_bytes 64 l.control.marks l.pending

  lane_position : Has (state_lane l) 0 (word_bytes l.control.pos)
  unfolding state_lane
  lane_position =
      has_front (word_bytes (length l.pending) ++ registers ++ entries)
      (has_whole (word_bytes l.control.pos)) (omega arith)

  lane_count_lem : Has (state_lane l) 2 (word_bytes (length l.pending))
  unfolding state_lane
  lane_count_lem =
      has_behind (word_bytes l.control.pos)
      (has_front (registers ++ entries) (has_whole (word_bytes (length l.pending))) (omega arith))

  lane_register : (r : ℕ) → r < 8 → Has (state_lane l) (4 + 4 * r) (quad_bytes (get_or l.regs r 0))
  unfolding state_lane in_turn
  lane_register r h =
      has_behind front
      (has_front entries (has_turn (λ i. quad_bytes (get_or l.regs i 0)) 4 (λ j. refl) 8 r h) (omega arith))

  abbrev place : ℕ → List ℕ
  place i = place_bytes (mark_at l.control.marks i) (get_elem? l.pending i)

  lane_place : (i : ℕ) → i < 64 → Has (state_lane l) (36 + 8 * i) (place i)
  unfolding state_lane entries_bytes in_turn
  lane_place i h =
      has_behind (front ++ registers)
      (has_turn place 8 (λ j. place_length (mark_at l.control.marks j) (get_elem? l.pending j)) 64 i h)

-- ## the record of an answer

flag_back : (b : Bool) → eqb (flag b) 1 ≡ b
flag_back true = refl
flag_back false = refl

-- an entry from its bytes, and one of a list
entry_back : {s : List ℕ} {from : ℕ} (m : Bool) (e : Entry) → EntrySmall 16 4 e → Has s from (entry_bytes m e)
    → entry_in s from ≡ e
entry_back {s} {from} m (write x v) small h =
    let kind : byte s from ≡ 1 = rw (add-zero from) at (h.at 0 (omega arith)) in
    let within = has_within h (has_behind (1 ∷ x ∷ flag m ∷ 0 ∷ []) (has_whole (quad_bytes v))) (omega arith) in
    rw (kind, h.at 1 (omega arith), has_quad within small.1) refl
entry_back {s} {from} m (release l) small h =
    let kind : byte s from ≡ 2 = rw (add-zero from) at (h.at 0 (omega arith)) in
    rw (kind, h.at 1 (omega arith)) refl

-- and whether a mark stands behind it
mark_back : {s : List ℕ} {from : ℕ} (m : Bool) (e : Entry) → Has s from (entry_bytes m e)
    → eqb (byte s (from + 2)) 1 ≡ m
mark_back m (write x v) h = rw (h.at 2 (omega arith)) (flag_back m)
mark_back m (release l) h = rw (h.at 2 (omega arith)) (flag_back m)

small_at : (es : List Entry) (i : ℕ) → i < length es → AllSmall 16 4 es → EntrySmall 16 4 (get_or es i no_entry)
small_at [] i h all = absurd (omega arith)
small_at (e ∷ es) zero h all = all.0
small_at (e ∷ es) (suc i) h all = small_at es i (omega arith) all.1

module _ (a : Answer) where
  abbrev head : List ℕ
  head = head_bytes a.finished a.done a.waited a.state.memory a.state.locks

  in_head : {x : List ℕ} {k : ℕ} → Has head k x → k + length x ≤ lane_from 0 → Has (state_bytes a) k x
  unfolding record_of
  in_head h fits =
      let size = head_length a.finished a.done a.waited a.state.memory a.state.locks in
      has_front (in_turn (λ t. state_lane (lane_at a.state t)) 4) h (omega arith)

  head_lock : (l : ℕ) → l < 4 → Has head (lock_from l) (get_or a.state.locks l 0 ∷ [])
  unfolding head_bytes in_turn
  head_lock l h =
      let turn = has_turn (λ i. get_or a.state.locks i 0 ∷ []) 1 (λ j. refl) 4 l h in
      has_behind (take 4 head) (has_front (drop 8 head) (rw (one-mul l) at turn) (omega arith))

  head_memory : (x : ℕ) → x < 16 → Has head (memory_from x) (quad_bytes (get_or a.state.memory x 0))
  unfolding head_bytes in_turn
  head_memory x h =
      has_behind (take 24 head) (has_turn (λ i. quad_bytes (get_or a.state.memory i 0)) 4 (λ j. refl) 16 x h)

  head_done : Has head done_from (quad_bytes a.done)
  unfolding head_bytes in_turn
  head_done = has_behind (take 8 head) (has_front (drop 12 head) (has_whole (quad_bytes a.done)) (omega arith))

  head_waited : Has head waited_from (quad_bytes a.waited)
  unfolding head_bytes in_turn
  head_waited = has_behind (take 16 head) (has_front (drop 20 head) (has_whole (quad_bytes a.waited)) (omega arith))

  -- of the counts of moves, the low halves
  pub done_low : (fields_in (state_bytes a)).done ≡ a.done % 2 ^ 32
  done_low = has_low a.done (in_head head_done (omega arith))

  pub waited_low : (fields_in (state_bytes a)).waited ≡ a.waited % 2 ^ 32
  waited_low = has_low a.waited (in_head head_waited (omega arith))

  finished_back : (fields_in (state_bytes a)).finished ≡ a.finished
  unfolding record_of head_bytes
  finished_back = flag_back a.finished

  lock_back : (l : ℕ) → l < 4 → (fields_in (state_bytes a)).lock l ≡ get_or a.state.locks l 0
  lock_back l h = rw (add-zero (lock_from l)) at ((in_head (head_lock l h) (omega arith)).at 0 (omega arith))

  module _ (t : ℕ) (there : t < 4) where
    abbrev lane : Lane
    lane = lane_at a.state t

    in_lane : {x : List ℕ} {k : ℕ} → Has (state_lane lane) k x → k + length x ≤ lane_size
        → Has (state_bytes a) (lane_from t + k) x
    unfolding record_of head_bytes in_turn
    in_lane has fits =
        let size = lane_length_lem lane in
        has_within
        (has_behind head
        (has_turn (λ j. state_lane (lane_at a.state j)) lane_size (λ j. lane_length_lem (lane_at a.state j)) 4 t there))
        has (omega arith)

    position_in : Has (state_bytes a) (position_from t) (word_bytes lane.control.pos)
    position_in = rw (add-zero (lane_from t)) at (in_lane (lane_position lane) (omega arith))

    register_in : (r : ℕ) → r < 8 → Has (state_bytes a) (register_from t r) (quad_bytes (get_or lane.regs r 0))
    register_in r h =
        let e : lane_from t + (4 + 4 * r) ≡ register_from t r = omega arith in
        rw e at (in_lane (lane_register lane r h) (omega arith))

    entry_in_lem : (i : ℕ) → i < 64 → i < length lane.pending
        → Has (state_bytes a) (entry_from t i)
        (entry_bytes (mark_at lane.control.marks i) (get_or lane.pending i no_entry))
    entry_in_lem i h l =
        let e : lane_from t + (36 + 8 * i) ≡ entry_from t i = omega arith in
        let mark = mark_at lane.control.marks i in
        let size = place_length mark (get_elem? lane.pending i) in
        subst (λ p. Has (state_bytes a) (entry_from t i) (place_bytes mark p)) (at_some lane.pending i no_entry l)
        (rw e at (in_lane (lane_place lane i h) (omega arith)))

  pub read_back : Fits a → Same (fields_in (state_bytes a)) (fields_of a)
  read_back f = record {
    finished = finished_back;
    done = done_low ∙ mod-eq_of_lt f.done;
    waited = waited_low ∙ mod-eq_of_lt f.waited;
    lock = lock_back;
    memory = λ x h. has_quad (in_head (head_memory x h) (omega arith)) (f.memory x);
    position = λ t h. has_word (position_in t h) (f.position t);
    count = λ t h. has_word (in_lane t h (lane_count_lem (lane t h)) (omega arith)) (omega (arith, f.pending t));
    register = λ t r h l. has_quad (register_in t h r l) (f.registers t r);
    entry = λ t i h l.
        let few = f.pending t in
        entry_back (mark_at (lane t h).control.marks i) (get_or (lane t h).pending i no_entry)
        (small_at (lane t h).pending i l (f.entries t)) (entry_in_lem t h i (omega arith) l);
    mark = λ t i h l.
        let few = f.pending t in
        mark_back (mark_at (lane t h).control.marks i) (get_or (lane t h).pending i no_entry)
        (entry_in_lem t h i (omega arith) l);
  }
