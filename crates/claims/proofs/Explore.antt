-- What holds after every schedule of a small kernel, by a search that antt computes: over the tree of the moves that
-- are done.
use mathlib.Core.Path.{◌≡◌}
use mathlib.Core.Bool.{Bool, true, false, ◌&&◌, false≢true}
use mathlib.Core.List.{List, [], ◌∷◌}
use Prim.Native.Nat.{ℕ, zero, suc, ◌<◌}
use native.Mathlib.Decide.{dec_lt}
use native.Mathlib.Omega.{arith}
use lib.Dec.{ltb, leb}
use borrow.Author.Tests.{ltb-true, leb-true}
use lib.ListN.{length}
use Rattle.laws.proofs.Bools.{and_true}
use Rattle.laws.proofs.Lists.{at_beyond}
use Rattle.sheet_format.specs.Layout.{Instr}
use Rattle.machine_spec.specs.declared.Machine.{Machine}
use Rattle.machine_spec.specs.Step.{Turn, waits, refuses, passes, does}
use Rattle.machine_spec.specs.Schedule.{Move, move, legal}
use Rattle.machine_spec.specs.State.{State, Run, Outcome, ran, refused, lane_at, set_lane, apply_turn, move_turn, run}
use Rattle.machine_spec.specs.View.{every}
use Rattle.machine_spec.proofs.Laws.Every.{every_at}

-- after a refusal nothing changes
abbrev pub GoodOut : (State → Bool) → Outcome → Type 0
GoodOut good (ran r) = good r.state ≡ true
GoodOut good (refused t k) = Unit {0}

module _ (m : Machine) (vol : ℕ → Bool) (prog : List (List Instr)) (n c : ℕ) (good : State → Bool) where
  -- the state after a turn, tested by f
  abbrev child : (State → Bool) → State → ℕ → Turn → Bool
  child f s t waits = true
  child f s t refuses = true
  child f s t (passes j d) = f (set_lane s t j d)
  child f s t (does j d v) = f (set_lane s t j d)

  -- good holds in s and after each row of moves that are done; no lane has more than c entries pending; at most k
  -- moves are done
  abbrev pub explore : ℕ → State → Bool
  explore zero s = false
  explore (suc k) s =
      good s && every n
      (λ t. leb (length (lane_at s t).pending) c && every (suc c)
      (λ x. child (explore k) s t (move_turn m vol prog s (move t x))))

  refused_good : (t k : ℕ) (mvs : List Move) → GoodOut good (run m vol prog (refused t k) mvs)
  refused_good t k [] = tt
  refused_good t k (mv ∷ mvs) = refused_good t k mvs

  -- a choice beyond the pending list waits
  late : (s : State) (t x : ℕ) → length (lane_at s t).pending < x → move_turn m vol prog s (move t x) ≡ waits
  late s t zero lt = absurd (omega arith)
  late s t (suc i) lt = rw (at_beyond (lane_at s t).pending i (omega arith))

  tested : (k : ℕ) (s : State) (t x : ℕ) → t < n → explore (suc k) s ≡ true
      → child (explore k) s t (move_turn m vol prog s (move t x)) ≡ true
  tested k s t x lt e = go (dec_lt c x)
    where
      tests : ℕ → Bool
      tests t = every (suc c) (λ x. child (explore k) s t (move_turn m vol prog s (move t x)))

      here : (leb (length (lane_at s t).pending) c ≡ true) × (tests t ≡ true)
      here = and_true (leb (length (lane_at s t).pending) c) (tests t)
          (every_at n (λ t. leb (length (lane_at s t).pending) c && tests t)
          (and_true (good s) (every n (λ t. leb (length (lane_at s t).pending) c && tests t)) e).1 t lt)

      go : Dec (c < x) → child (explore k) s t (move_turn m vol prog s (move t x)) ≡ true
      go (yes l) = let few = leb-true (length (lane_at s t).pending) c here.0 in rw (late s t x (omega arith))
      go (no l) =
          every_at (suc c) (λ x. child (explore k) s t (move_turn m vol prog s (move t x))) here.1 x (omega arith)

  onward : (k : ℕ) (r : Run) (t : ℕ) → explore (suc k) r.state ≡ true → (mvs : List Move)
      → ((k : ℕ) (r : Run) → explore k r.state ≡ true → GoodOut good (run m vol prog (ran r) mvs))
      → (q : ℕ) (u : Turn) → child (explore k) r.state t u ≡ true
      → GoodOut good (run m vol prog (apply_turn r t q u) mvs)
  onward k r t e mvs rec q waits h = rec (suc k) _ e
  onward k r t e mvs rec q refuses h = refused_good t q mvs
  onward k r t e mvs rec q (passes j d) h = rec k _ h
  onward k r t e mvs rec q (does j d v) h = rec k _ h

  pub explored : (mvs : List Move) (b k : ℕ) (r : Run) → explore k r.state ≡ true → legal n b mvs ≡ true
      → GoodOut good (run m vol prog (ran r) mvs)
  explored [] b zero r e le = absurd (false≢true e)
  explored [] b (suc k) r e le = (and_true (good r.state) _ e).0
  explored (mv ∷ mvs) b zero r e le = absurd (false≢true e)
  explored (mv ∷ mvs) b (suc k) r e le =
      let fits = and_true (ltb mv.lane n && leb mv.choice b) (legal n b mvs) le in
      let lt = ltb-true mv.lane n (and_true (ltb mv.lane n) (leb mv.choice b) fits.0).0 in
      onward k r mv.lane e mvs (λ k r e. explored mvs b k r e fits.1) _ (move_turn m vol prog r.state mv)
      (tested k r.state mv.lane mv.choice lt e)
