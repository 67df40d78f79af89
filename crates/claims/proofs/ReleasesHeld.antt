-- No run of an accepted kernel meets an UNLOCK of a lock that its lane does not hold: number 11 is never met.
use mathlib.Core.Path.{◌≡◌, refl, ap, sym, ◌∙◌}
use mathlib.Core.Bool.{Bool, true, ◌&&◌}
use mathlib.Core.List.{List, [], ◌∷◌, map}
use Prim.Native.Nat.{ℕ, suc, ◌<◌}
use lib.Dec.{eqb, ltb, leb}
use borrow.Author.Tests.{ltb-true}
use lib.ListN.{length, get_or, replicate, length-replicate, get_or-map}
use Rattle.laws.proofs.Bools.{and_true}
use Rattle.laws.proofs.Lists.{getD-replicate-all}
use Rattle.file_format.specs.declared.accepted.Op.{Op}
use Rattle.barrier_placement.specs.Layout.{Placed, operations}
use Rattle.sheet_format.specs.Layout.{op}
use Rattle.machine_spec.specs.declared.Machine.TheVariants.{Source, Target}
use Rattle.machine_spec.specs.declared.Model.{Model}
use Rattle.machine_spec.specs.Step.{Turn, waits, refuses, passes, does}
use Rattle.machine_spec.specs.Schedule.{Move, limit, legal}
use Rattle.machine_spec.specs.State.{State, start_state, lane_at, pos_at, core_of, Run, Outcome, ran, refused}
use Rattle.machine_spec.specs.State.{apply_turn}
use Rattle.machine_spec.specs.State.{move_turn, advance, run, begin}
use Rattle.claims.specs.Schedules.{source_schedule}
use Rattle.claims.proofs.Fenced.{AllFenced, kernel_program, sheet_program}
use Rattle.claims.proofs.Laws.Lanes.{set_lane_count, set_lane_each, start_each}
use Rattle.claims.proofs.Matching.{Matched, both_ran, both_refused, matching, begin_matched}
use Rattle.claims.proofs.Legal.{source_legal}
use Rattle.claims.proofs.HeldSets.{Disciplined}
use Rattle.claims.proofs.LockClaims.{one, Claims, free_word}
use Rattle.claims.proofs.LockTurns.{Sound, turn_sound}

-- a state of m lanes, whose claims the words of n locks tell
pub record Inv (m n : ℕ) (held : ℕ → ℕ → ℕ → Bool) (a : State) : Type 0 where
  pub lanes : length a.lanes ≡ m
  pub locks : length a.locks ≡ n
  pub claims : (t : ℕ) → Claims (held t (pos_at a t)) t (lane_at a t).pending a.locks

abbrev pub InvOut : (m n : ℕ) → (ℕ → ℕ → ℕ → Bool) → Outcome → Type 0
InvOut m n held (ran r) = Inv m n held r.state
InvOut m n held (refused t k) = ⊥

module _ (m n : ℕ) (ks : List (List (Placed Op))) (held : ℕ → ℕ → ℕ → Bool)
    (D : (t : ℕ) → Disciplined n (operations (get_or ks t [])) (held t)) (vol : ℕ → Bool) where
  inv_land : (r : Run) (t k : ℕ) → t < m → Inv m n held r.state → (u : Turn) → Sound n (held t) t r.state.locks u
      → InvOut m n held (apply_turn r t k u)
  inv_land r t k lt i waits s = record { lanes = i.lanes; locks = i.locks; claims = i.claims }
  inv_land r t k lt i refuses s = s
  inv_land r t k lt i (passes j d) s = absurd s
  inv_land r t k lt i (does j d v) s = record {
    lanes = set_lane_count r.state t j d ∙ i.lanes;
    locks = s.count;
    claims = set_lane_each (λ u l. Claims (held u l.control.pos) u l.pending d.locks) r.state t j d
        (rw i.lanes lt) s.claims
        (λ u ne l. i.claims u l ∙ ap one (sym (s.foreign l u ne)));
  }

  inv_step : (r : Run) (mv : Move) → mv.lane < m → Inv m n held r.state
      → InvOut m n held (advance Source vol (kernel_program ks) (ran r) mv)
  inv_step r mv lt i =
      inv_land r mv.lane _ lt i (move_turn Source vol (kernel_program ks) r.state mv)
      (rw (get_or-map (λ ps. map op (operations ps)) ks mv.lane [])
      (turn_sound n (operations (get_or ks mv.lane [])) (held mv.lane) (D mv.lane) vol mv.lane
      (lane_at r.state mv.lane).control
      (core_of r.state (lane_at r.state mv.lane)) i.locks (i.claims mv.lane) mv.choice))

  inv_run : (mvs : List Move) (o : Outcome) → InvOut m n held o → legal m 64 mvs ≡ true
      → InvOut m n held (run Source vol (kernel_program ks) o mvs)
  inv_run [] o i le = i
  inv_run (mv ∷ mvs) (refused t k) i le = absurd i
  inv_run (mv ∷ mvs) (ran r) i le =
      let fits = and_true (ltb mv.lane m && leb mv.choice 64) (legal m 64 mvs) le in
      let lt : mv.lane < m = ltb-true mv.lane m (and_true (ltb mv.lane m) (leb mv.choice 64) fits.0).0 in
      inv_run mvs (advance Source vol (kernel_program ks) (ran r) mv) (inv_step r mv lt i) fits.1

  inv_start : (mem : List ℕ) → Inv m n held (start_state m mem n)
  inv_start mem = record {
    lanes = length-replicate m _;
    locks = length-replicate n 0;
    claims = λ t.
        start_each (λ l. Claims (held t l.control.pos) t l.pending (replicate n 0)) m mem n (unclaimed t)
        (unclaimed t) t;
  }
    where
      unclaimed : (t : ℕ) → Claims (held t 0) t [] (replicate n 0)
      unclaimed t l =
          rw ((D t).starts l)
          (getD-replicate-all (λ w. 0 ≡ one (eqb w (suc t))) n 0 0 (rw (free_word t)) (rw (free_word t)) l)

  ran_of : (o : Outcome) → InvOut m n held o → (r : Run) × (o ≡ ran r)
  ran_of (ran r) i = (r, refl)
  ran_of (refused t k) i = absurd i

  -- a source run keeps the claims
  pub source_kept : (mem : List ℕ) (mvs : List Move) → legal m 64 mvs ≡ true
      → InvOut m n held (run Source vol (kernel_program ks) (begin (start_state m mem n)) mvs)
  source_kept mem mvs = inv_run mvs (begin (start_state m mem n)) (inv_start mem)

  -- no source run is refused
  pub source_runs : (mem : List ℕ) (mvs : List Move) → legal m 64 mvs ≡ true → (r : Run)
      × (run Source vol (kernel_program ks) (begin (start_state m mem n)) mvs ≡ ran r)
  source_runs mem mvs le = ran_of _ (source_kept mem mvs le)

  matched_inv : (x : Model) (o o' : Outcome) → Matched x vol ks o o' → InvOut m n held o → (r : Run) × (o' ≡ ran r)
  matched_inv x o o' (both_ran {s = s} e h) i = (s, refl)
  matched_inv x o o' both_refused i = absurd i

  -- nor is a run of a target, since it would share the refusal
  pub target_runs : (x : Model) → ((t : ℕ) → AllFenced x vol (get_or ks t [])) → (mem : List ℕ) (mvs : List Move)
      → legal m (limit (Target x)) mvs ≡ true
      → (r : Run) × (run (Target x) vol (sheet_program ks) (begin (start_state m mem n)) mvs ≡ ran r)
  target_runs x f mem mvs le =
      let s = begin (start_state m mem n) in
      matched_inv x _ _ (matching x vol ks f mvs s s (begin_matched x vol ks m mem n))
      (source_kept mem (source_schedule x vol (sheet_program ks) s mvs)
      (source_legal x vol (sheet_program ks) m s mvs le))
