-- Laws of the lanes of the state record: one that is there, one that is not, and all of them behind the head.
use Prim.Native.Nat.{ℕ, zero, suc, ◌+◌, ◌-◌, ◌≤◌, ◌<◌}
use mathlib.Core.Path.{◌≡◌, refl, sym, ap, subst, ◌∙◌}
use mathlib.Core.Bool.{Bool}
use mathlib.Core.List.{List, [], ◌∷◌}
use native.Mathlib.Decide.{dec_le}
use native.Mathlib.Omega.{arith}
use lib.ListN.{length, get_or, take, replicate}
use borrow.Author.Tests.{le-ltb}
use Rattle.sheet_format.specs.Bytes.{over}
use Rattle.sheet_format.specs.Put.{Puts, in_turn}
use Rattle.sheet_format.proofs.Laws.Turn.{turn_end}
use Rattle.sheet_format.proofs.Laws.Put.{puts_on, puts_length, puts_front}
use Rattle.machine_spec.specs.Entries.{release}
use Rattle.machine_spec.specs.State.{Lane, State, idle, lane_at}
use Rattle.machine_spec.specs.Shape.{EntrySmall, AllSmall}
use Rattle.machine_lane.specs.declared.lane.Lane.{Lane as Stored}
use Rattle.machine_lane.specs.Lanes.{entry_of, entries_of, lane_in}
use Rattle.machine_state.specs.States.{Blocks, row_at, stored_in, lane_of, count_of, state_in, Lies}
use Rattle.machine_state.proofs.Laws.Lanes.{lane_there, lane_past}
use Rattle.machine_record.specs.Lanes.{entries_bytes, state_lane}
use Rattle.machine_record.specs.SmallCells.{SmallCells}
use Rattle.machine_record.proofs.LaneSizes.{lane_length_lem}
use Rattle.machine_record.specs.Record.{head_bytes, record_of}
use Rattle.machine_record.specs.SmallStates.{SmallEntries}
use Rattle.machine_record.proofs.Sizes.{head_length, record_length}

-- a lane of zeros
abbrev pub none : Stored
none = record {
  at = 0;
  registers = replicate 8 0;
  cells = replicate 64 0;
  values = replicate 64 0;
  len = 0;
  low = 0;
  high = 0;
}

-- a lane of zeros is written as the idle one
zeros : state_lane (lane_in none) ≡ state_lane idle
unfolding state_lane entries_bytes in_turn
zeros = refl

-- a cell of an entry that names one of 16 locations or one of four locks
cell_small : (c v : ℕ) → EntrySmall 16 4 (entry_of c v) → c < 272
cell_small c v h = go (dec_le (suc c) 16)
  where
    go : Dec (c < 16) → c < 272
    go (yes l) = omega arith
    go (no l) =
        let free : 16 ≤ c = omega arith in
        let e : entry_of c v ≡ release (c - 16) = rw (le-ltb c 16 free) refl in
        let few : c - 16 < 4 = subst (EntrySmall 16 4) e h in
        omega arith

cells_small : (cs vs : List ℕ) (n : ℕ) → length cs ≡ length vs → AllSmall 16 4 (take n (entries_of cs vs)) → SmallCells
    cs n
unfolding entries_of
cells_small [] vs n e h i l = omega arith
cells_small (c ∷ cs) [] n e h i l = absurd (omega arith)
cells_small (c ∷ cs) (v ∷ vs) zero e h i l = absurd (omega arith)
cells_small (c ∷ cs) (v ∷ vs) (suc n) e h zero l = cell_small c v h.0
cells_small (c ∷ cs) (v ∷ vs) (suc n) e h (suc i) l = cells_small cs vs n (omega arith) h.1 i (omega arith)

module _ (s : Blocks) (t : ℕ) (h : Lies s t) where
  pub there_bytes : t < count_of s 0 → state_lane (lane_of s t) ≡ state_lane (lane_at (state_in s) t)
  there_bytes l = sym (ap state_lane (lane_there s t h.sized l h.lane))

  pub there_small : t < count_of s 0 → SmallEntries (state_in s)
      → SmallCells (stored_in (get_or s t [])).cells (stored_in (get_or s t [])).len
  there_small l small =
      let own = h.sized.each t (omega (arith, h.lane)) in
      cells_small (row_at s t 1) (row_at s t 2) (stored_in (get_or s t [])).len
      (own.words 1 (omega arith) ∙ sym (own.words 2 (omega arith)))
      (subst (λ (x : Lane). AllSmall 16 4 x.pending) (lane_there s t h.sized l h.lane) (small t))

  -- where there is none, a lane of zeros is written
  pub none_bytes : count_of s 0 ≤ t → state_lane (lane_in none) ≡ state_lane (lane_at (state_in s) t)
  none_bytes l = zeros ∙ sym (ap state_lane (lane_past s t l))

-- where lane t of four begins, behind the head
pub lane_room : (f : Bool) (d w : ℕ) (s : State) (t : ℕ) {l m n : List ℕ} {i j : ℕ} → t < 4 → 2280 ≤ length l
    → Puts l 0 (head_bytes f d w s.memory s.locks) m i → Puts m i (in_turn (λ k. state_lane (lane_at s k)) t) n j
    → j + 548 ≤ length n
lane_room f d w s t h room p q =
    let end = turn_end (λ k. state_lane (lane_at s k)) 548 t (λ k. lane_length_lem (lane_at s k)) q in
    omega (arith, end, p.behind, head_length f d w s.memory s.locks, puts_length p, puts_length q)

-- head and four lanes are the record
pub record_put : (f : Bool) (d w : ℕ) (s : State) {l m n : List ℕ} {i j : ℕ} → 2280 ≤ length l
    → Puts l 0 (head_bytes f d w s.memory s.locks) m i → Puts m i (in_turn (λ k. state_lane (lane_at s k)) 4) n j
    → n ≡ over (record_of f d w s) l
unfolding record_of
record_put f d w s {l} {m} {n} {i} {j} room p q =
    let whole : Puts l 0 (record_of f d w s) n j = puts_on p q in
    puts_front (omega (arith, record_length f d w s)) whole
