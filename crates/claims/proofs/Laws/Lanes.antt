-- Laws of updating one lane of a state, and of sums over its lanes.
use mathlib.Core.Path.{◌≡◌, refl, sym, subst}
use mathlib.Core.List.{List, [], ◌∷◌}
use mathlib.Core.Logic.{◌≢◌}
use Prim.Native.Nat.{ℕ, zero, suc, ◌+◌, ◌<◌}
use native.Mathlib.Decide.{dec_lt}
use native.Mathlib.Omega.{arith}
use lib.ListN.{length, get_or, set, length-set, replicate, get_or-eq_default}
use lib.Seq.{get_or-set_same, set-get_or}
use Rattle.laws.proofs.Lists.{set-each, pointwise_set, getD-replicate-all}
use Rattle.machine_spec.specs.Step.{Control, Core}
use Rattle.machine_spec.specs.State.{Lane, State, at_start, start_state, idle, lane_at, core_of, lane_of, set_lane}

-- to put a lane's own core back changes nothing
pub set_lane_own : (a : State) (t : ℕ) → set_lane a t (lane_at a t).control (core_of a (lane_at a t)) ≡ a
set_lane_own a t = λ i. record { lanes = set-get_or a.lanes t idle i; memory = a.memory; locks = a.locks }

pub set_lane_count : (a : State) (t : ℕ) (k : Control) (c : Core) → length (set_lane a t k c).lanes ≡ length a.lanes
set_lane_count a t k c = length-set a.lanes t (lane_of k c)

pub set_lane_same : (a : State) (t : ℕ) (k : Control) (c : Core) → t < length a.lanes
    → lane_at (set_lane a t k c) t ≡ lane_of k c
set_lane_same a t k c lt = get_or-set_same a.lanes t (lane_of k c) idle lt

-- what holds of the lane put, and held of each other one
pub set_lane_each : (P : ℕ → Lane → Type 0) (a : State) (t : ℕ) (k : Control) (c : Core) → t < length a.lanes
    → P t (lane_of k c) → ((u : ℕ) → u ≢ t → P u (lane_at a u)) → (u : ℕ) → P u (lane_at (set_lane a t k c) u)
set_lane_each P a t k c lt = set-each P idle a.lanes t (lane_of k c) lt

-- what holds of the lanes of two states, after lane t is put in both
pub set_lane_both : (R : ℕ → Lane → Lane → Type 0) (a b : State) → length a.lanes ≡ length b.lanes
    → ((u : ℕ) → R u (lane_at a u) (lane_at b u)) → (t : ℕ) (i k : Control) (c d : Core)
    → R t (lane_of i c) (lane_of k d)
    → (u : ℕ) → R u (lane_at (set_lane a t i c) u) (lane_at (set_lane b t k d) u)
set_lane_both R a b e h t i k c d =
    pointwise_set R idle idle a.lanes b.lanes e h t (lane_of i c) (lane_of k d)

-- what holds of a lane at its start and of an idle one holds of each lane of a start state
pub start_each : (P : Lane → Type 0) (n : ℕ) (m : List ℕ) (k : ℕ)
    → P (record { control = at_start; regs = replicate 8 0; pending = [] }) → P idle
    → (t : ℕ) → P (lane_at (start_state n m k) t)
start_each P n m k p q = getD-replicate-all P n _ idle p q

-- what holds of each of n lanes and of an idle one holds at every place
pub lane_each : (P : Lane → Type 0) (a : State) (n : ℕ) → length a.lanes ≡ n → P idle
    → ((t : ℕ) → t < n → P (lane_at a t)) → (t : ℕ) → P (lane_at a t)
lane_each P a n e p h t = go (dec_lt t n)
  where
    go : Dec (t < n) → P (lane_at a t)
    go (yes lt) = h t lt
    go (no ge) = subst P (sym (get_or-eq_default a.lanes idle {n = t} (omega arith))) p

-- ## a number of each lane, added up

abbrev pub summed : (Lane → ℕ) → List Lane → ℕ
summed f [] = 0
summed f (l ∷ ls) = f l + summed f ls

-- where one lane is put, what that lane has changes the sum
pub summed_set : (f : Lane → ℕ) (ls : List Lane) (t : ℕ) (l : Lane) → t < length ls
    → summed f (set ls t l) + f (get_or ls t idle) ≡ summed f ls + f l
summed_set f [] t l h = absurd (omega arith)
summed_set f (x ∷ ls) zero l h = omega arith
summed_set f (x ∷ ls) (suc t) l h = omega (arith, summed_set f ls t l (omega arith))

-- at the start of a run, where each lane has none
pub start_summed : (f : Lane → ℕ) (n : ℕ) (m : List ℕ) (k : ℕ)
    → f (record { control = at_start; regs = replicate 8 0; pending = [] }) ≡ 0 → summed f (start_state n m k).lanes ≡ 0
start_summed f zero m k e = refl
start_summed f (suc n) m k e = omega (arith, start_summed f n m k e)
