-- Laws of the first n lanes: all stand at their ends, or one does not; in none an entry is pending, or in one.
use Prim.Native.Nat.{ℕ, ◌≤◌, ◌<◌}
use mathlib.Core.Path.{◌≡◌, sym, ap, ◌∙◌}
use mathlib.Core.Bool.{Bool, true, false}
use mathlib.Core.List.{List, [], map}
use native.Mathlib.Omega.{arith}
use lib.Dec.{eqb}
use borrow.Author.Tests.{eq-eqb, ne_eqb}
use lib.ListN.{length, get_or, get_elem?, take, length-take, length-map}
use Rattle.laws.proofs.Lists.{at_some, at_beyond}
use Rattle.barrier_placement.specs.declared.cookbook.Barrier.TheVariants.{SL}
use Rattle.sheet_format.specs.Layout.{Instr, barrier}
use Rattle.machine_spec.specs.Entries.{is_nil}
use Rattle.machine_spec.specs.State.{Lane, lane_at}
use Rattle.machine_spec.specs.View.{every, is_none, ended_at, ended, drained}
use Rattle.machine_spec.proofs.Laws.Every.{every_true, every_false}
use Rattle.machine_lane.specs.Lanes.{lane_in}
use Rattle.machine_state.specs.States.{Blocks, stored_in, lane_of, count_of, state_in, Sized}
use Rattle.machine_state.proofs.Laws.Lanes.{lane_in_lem}
use Rattle.machine_state.proofs.Laws.Rules.{none_pending}
use Rattle.machine_run.specs.Counts.{Counts}

at_end : (l : List Instr) (p : ℕ) → length l ≤ p → is_none (get_elem? l p) ≡ true
at_end l p h = ap is_none (at_beyond l p h)

not_at_end : (l : List Instr) (p : ℕ) → p < length l → is_none (get_elem? l p) ≡ false
not_at_end l p h = ap is_none (at_some l p (barrier SL) h)

abbrev pub position : Blocks → ℕ → ℕ
position s t = (lane_of s t).control.pos

abbrev pub pending_count : Blocks → ℕ → ℕ
pending_count s t = length (lane_of s t).pending

module _ (s : Blocks) (sized : Sized s) (few : count_of s 0 ≤ 4) where
  abbrev n : ℕ
  n = count_of s 0

  -- ## at their ends

  module _ {count : List ℕ} (prog : List (List Instr)) (c : Counts n count prog) where
    stands : (t : ℕ) → t < n → ended_at prog (state_in s) t ≡ is_none (get_elem? (get_or prog t []) (position s t))
    stands t h = ap (λ (l : Lane). is_none (get_elem? (get_or prog t []) l.control.pos)) (lane_in_lem s t sized h few)

    pub all_ended : ((t : ℕ) → t < n → get_or count t 0 ≤ position s t) → true ≡ ended prog (state_in s)
    all_ended h =
        sym (ap (λ m. every m (ended_at prog (state_in s))) c.lanes
        ∙ every_true n (ended_at prog (state_in s)) (λ t l.
        stands t l ∙ at_end (get_or prog t []) (position s t) (omega (arith, c.each t l, h t l))))

    pub one_goes_on : (t : ℕ) → t < n → position s t < get_or count t 0 → false ≡ ended prog (state_in s)
    one_goes_on t l h =
        sym (ap (λ m. every m (ended_at prog (state_in s))) c.lanes
        ∙ every_false n (ended_at prog (state_in s)) t l
        (stands t l ∙ not_at_end (get_or prog t []) (position s t) (omega (arith, c.each t l))))

  -- ## pending

  abbrev nothing : ℕ → Bool
  nothing t = is_nil (lane_at (state_in s) t).pending

  lanes_many : length (state_in s).lanes ≡ n
  lanes_many =
      omega (
        arith,
        few,
        sized.blocks,
        length-take n (map (λ b. lane_in (stored_in b)) (take 4 s)),
        length-map (take 4 s) (λ b. lane_in (stored_in b)),
        length-take 4 s,
      )

  nothing_by_count : (t : ℕ) → t < n → nothing t ≡ eqb (pending_count s t) 0
  nothing_by_count t h =
      ap (λ (l : Lane). is_nil l.pending) (lane_in_lem s t sized h few) ∙ sym (none_pending (lane_of s t).pending)

  pub all_drained : ((t : ℕ) → t < n → pending_count s t ≡ 0) → true ≡ drained (state_in s)
  all_drained h =
      sym (ap (λ m. every m nothing) lanes_many
      ∙ every_true n nothing (λ t l. nothing_by_count t l ∙ eq-eqb (pending_count s t) 0 (h t l)))

  pub one_pending : (t : ℕ) → t < n → (pending_count s t ≡ 0 → ⊥) → false ≡ drained (state_in s)
  one_pending t l h =
      sym (ap (λ m. every m nothing) lanes_many
      ∙ every_false n nothing t l (nothing_by_count t l ∙ ne_eqb (pending_count s t) 0 h))
