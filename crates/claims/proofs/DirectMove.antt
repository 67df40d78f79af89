-- The moves of a target for one source move of a direct run lead to matching states.
use mathlib.Core.Path.{◌≡◌, refl, ap, ◌∙◌, sym, subst}
use mathlib.Core.Bool.{Bool, true, false, false≢true}
use mathlib.Core.List.{List, [], foldl}
use mathlib.Core.Option.{some}
use Prim.Native.Nat.{ℕ, zero, suc, ◌<◌}
use lib.ListN.{length, get_or, get_elem?, drop, get_or-map}
use Rattle.file_format.specs.declared.accepted.Op.{Op}
use Rattle.barrier_placement.specs.declared.cookbook.Barrier.{Barrier}
use Rattle.barrier_placement.specs.Layout.{Placed}
use Rattle.sheet_format.specs.Layout.{barrier, sheet, rank}
use Rattle.machine_spec.specs.declared.Machine.TheVariants.{Source, Target}
use Rattle.machine_spec.specs.declared.Model.{Model}
use Rattle.machine_spec.specs.Step.{Control, Core, Turn, waits, refuses, passes, does, passed}
use Rattle.machine_spec.specs.Schedule.{Move, move}
use Rattle.machine_spec.specs.State.{Run, ran, lane_at, pos_at, core_of, lane_of, set_lane, done_more, apply_turn}
use Rattle.machine_spec.specs.State.{move_turn}
use Rattle.machine_spec.specs.State.{advance, run}
use Rattle.claims.specs.Schedules.{keep, leading, expand}
use Rattle.claims.proofs.Fenced.{AllFenced, kernel_program, sheet_program}
use Rattle.claims.proofs.Laws.Lanes.{set_lane_same, set_lane_count}
use Rattle.claims.proofs.Matching.{Follows, Matched, both_ran, source_turn, step_matched}
use Rattle.claims.proofs.DirectLane.{fetch_barrier, no_barrier, execute_back, is_pass, passes_barrier}
use Rattle.claims.proofs.DirectLane.{drained_passes}

matched_ran : {m : Model} {vol : ℕ → Bool} {ks : List (List (Placed Op))} {r s : Run} → Matched m vol ks (ran r) (ran s)
    → (r.row ≡ s.row) × Follows m vol ks r.state s.state
matched_ran (both_ran e h) = (e, h)

module _ (m : Model) (vol : ℕ → Bool) (ks : List (List (Placed Op)))
    (f : (t : ℕ) → AllFenced m vol (get_or ks t [])) where
  -- a move of the target that passes no barrier, and the same source move
  pub exact : (r s : Run) → r.row ≡ s.row → Follows m vol ks r.state s.state → (mv : Move)
      → is_pass (move_turn (Target m) vol (sheet_program ks) s.state mv) ≡ false
      → (move_turn (Target m) vol (sheet_program ks) s.state mv ≡ waits
      → move_turn Source vol (kernel_program ks) r.state mv ≡ waits)
      → Matched m vol ks (advance Source vol (kernel_program ks) (ran r) mv)
      (advance (Target m) vol (sheet_program ks) (ran s) mv)
  unfolding is_pass
  exact r s e h mv np back =
      go (move_turn (Target m) vol (sheet_program ks) s.state mv) refl (step_matched m vol ks f r s e h mv)
    where
      go : (u : Turn) → move_turn (Target m) vol (sheet_program ks) s.state mv ≡ u
          → Matched m vol ks (run Source vol (kernel_program ks) (ran r) (keep mv u))
          (advance (Target m) vol (sheet_program ks) (ran s) mv)
          → Matched m vol ks (advance Source vol (kernel_program ks) (ran r) mv)
          (advance (Target m) vol (sheet_program ks) (ran s) mv)
      go waits k x = rw (k, back k) (both_ran e h)
      go refuses k x = x
      go (passes j c) k x = absurd (false≢true (sym np ∙ ap is_pass k))
      go (does j c v) k x = x

  -- the barriers before an operation, and the operation, in a lane with nothing pending
  pub through : (n t : ℕ) (r s : Run) → r.row ≡ s.row → Follows m vol ks r.state s.state
      → t < length s.state.lanes → (lane_at s.state t).pending ≡ []
      → leading (drop (pos_at s.state t) (get_or (sheet_program ks) t [])) ≡ n
      → Matched m vol ks (advance Source vol (kernel_program ks) (ran r) (move t 0))
      (run (Target m) vol (sheet_program ks) (ran s) (expand t 0 n))
  unfolding is_pass
  through zero t r s e h lt nil lead = exact r s e h (move t 0) no_pass back
    where
      no_pass : is_pass (move_turn (Target m) vol (sheet_program ks) s.state (move t 0)) ≡ false
      no_pass = go _ refl
        where
          go : (x : Bool) → is_pass (move_turn (Target m) vol (sheet_program ks) s.state (move t 0)) ≡ x
              → is_pass (move_turn (Target m) vol (sheet_program ks) s.state (move t 0)) ≡ false
          go false k = k
          go true k =
              let b = passes_barrier m vol (suc t) (lane_at s.state t).control
              (core_of s.state (lane_at s.state t)) (get_elem? (get_or (sheet_program ks) t []) (pos_at s.state t))
              k in
              absurd (no_barrier (get_or (sheet_program ks) t []) (pos_at s.state t) b.0 lead b.1)

      back : move_turn (Target m) vol (sheet_program ks) s.state (move t 0) ≡ waits
          → move_turn Source vol (kernel_program ks) r.state (move t 0) ≡ waits
      back x =
          source_turn m vol ks f r.state s.state h (move t 0)
          ∙ execute_back m vol (get_or ks t []) (suc t) (lane_at r.state t).control (lane_at s.state t).control
          (core_of s.state (lane_at s.state t)) nil (h.lanes t).stands
          (rw (get_or-map sheet ks t []) at lead) (rw (get_or-map sheet ks t []) at x)
  through (suc n) t r s e h lt nil lead =
      subst (λ (u : Turn). Matched m vol ks (advance Source vol (kernel_program ks) (ran r) mv)
      (foldl (advance (Target m) vol (sheet_program ks)) (apply_turn s t (rank (get_or (sheet_program ks) t []) q) u)
      (expand t 0 n)))
      (sym passing) (through n t r s₁ after.0 after.1 (rw (set_lane_count s.state t k₁ c) lt) nil₁ lead₁)
    where
      c : Core
      c = core_of s.state (lane_at s.state t)

      q : ℕ
      q = pos_at s.state t

      mv : Move
      mv = record { lane = t; choice = 0 }

      ahead_of : (b : Barrier) × (get_elem? (get_or (sheet_program ks) t []) q ≡ some (barrier b))
          × (leading (drop (suc q) (get_or (sheet_program ks) t [])) ≡ n)
      ahead_of = fetch_barrier (get_or (sheet_program ks) t []) q n lead

      k₁ : Control
      k₁ = passed (Target m) (lane_at s.state t).control c ahead_of.0

      s₁ : Run
      s₁ = done_more s (set_lane s.state t k₁ c) s.row

      passing : move_turn (Target m) vol (sheet_program ks) s.state mv ≡ passes k₁ c
      passing = rw ahead_of.1 (drained_passes m vol (suc t) (lane_at s.state t).control c nil ahead_of.0)

      after : (r.row ≡ s₁.row) × Follows m vol ks r.state s₁.state
      after = matched_ran
          (subst (λ (u : Turn). Matched m vol ks (run Source vol (kernel_program ks) (ran r) (keep mv u))
          (apply_turn s t (rank (get_or (sheet_program ks) t []) q) u)) passing (step_matched m vol ks f r s e h mv))

      moved : lane_at s₁.state t ≡ lane_of k₁ c
      moved = set_lane_same s.state t k₁ c lt

      nil₁ : (lane_at s₁.state t).pending ≡ []
      nil₁ = rw moved nil

      lead₁ : leading (drop (lane_at s₁.state t).control.pos (get_or (sheet_program ks) t [])) ≡ n
      lead₁ = rw moved ahead_of.2
