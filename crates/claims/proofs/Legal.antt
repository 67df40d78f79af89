-- The schedules that match are legal where those that they are made from are.
use mathlib.Core.Path.{◌≡◌, refl}
use mathlib.Core.Bool.{Bool, true, ◌&&◌}
use mathlib.Core.List.{List, [], ◌∷◌, ◌++◌}
use Prim.Native.Nat.{ℕ, zero, suc, ◌≤◌}
use native.Mathlib.Omega.{arith}
use lib.Dec.{ltb, leb}
use borrow.Author.Tests.{leb-true, le-leb}
use Rattle.laws.proofs.Bools.{and_true}
use Rattle.sheet_format.specs.Layout.{Instr}
use Rattle.machine_spec.specs.declared.Machine.TheVariants.{Target}
use Rattle.machine_spec.specs.declared.Model.{Model}
use Rattle.machine_spec.specs.declared.Model.TheVariants.{Tso, Pso}
use Rattle.machine_spec.specs.Step.{Turn, waits, refuses, passes, does}
use Rattle.machine_spec.specs.Schedule.{Move, limit, legal}
use Rattle.machine_spec.specs.State.{Outcome, ran, refused, advance, run, move_turn}
use Rattle.claims.specs.Schedules.{keep, keep_move, source_schedule, expand, expand_at, target_schedule}

pub legal_append : (n k : ℕ) (a b : List Move) → legal n k a ≡ true → legal n k b ≡ true → legal n k (a ++ b) ≡ true
legal_append n k [] b p q = q
legal_append n k (mv ∷ a) b p q =
    let h = and_true (ltb mv.lane n && leb mv.choice k) (legal n k a) p in
    rw h.0 (legal_append n k a b h.1 q)

limits : (m : Model) → (1 ≤ limit (Target m)) × (limit (Target m) ≤ 64)
limits Tso = omega arith
limits Pso = omega arith

wider : (m : Model) (n : ℕ) (mv : Move) → legal n (limit (Target m)) (mv ∷ []) ≡ true → legal n 64 (mv ∷ []) ≡ true
wider m n mv h =
    let p = and_true (ltb mv.lane n) (leb mv.choice (limit (Target m)))
    (and_true (ltb mv.lane n && leb mv.choice (limit (Target m))) true h).0 in
    let small : mv.choice ≤ 64 = omega (arith, leb-true mv.choice (limit (Target m)) p.1, (limits m).1) in
    rw (p.0, le-leb mv.choice 64 small)

-- the source moves for a legal move of a target are legal
keep_legal : (m : Model) (n : ℕ) (mv : Move) (u : Turn) → legal n (limit (Target m)) (mv ∷ []) ≡ true
    → legal n 64 (keep mv u) ≡ true
keep_legal m n mv waits h = refl
keep_legal m n mv refuses h = wider m n mv h
keep_legal m n mv (passes k c) h = refl
keep_legal m n mv (does k c v) h = wider m n mv h

pub source_legal : (m : Model) (vol : ℕ → Bool) (prog : List (List Instr)) (n : ℕ) (o : Outcome) (mvs : List Move)
    → legal n (limit (Target m)) mvs ≡ true
    → legal n 64 (source_schedule m vol prog o mvs) ≡ true
source_legal m vol prog n o [] h = refl
source_legal m vol prog n o (mv ∷ mvs) h =
    legal_append n 64 (keep_move m vol prog o mv) _ (kept o)
    (source_legal m vol prog n (advance (Target m) vol prog o mv) mvs parts.1)
  where
    parts : ((ltb mv.lane n && leb mv.choice (limit (Target m))) ≡ true) × (legal n (limit (Target m)) mvs ≡ true)
    parts = and_true (ltb mv.lane n && leb mv.choice (limit (Target m))) (legal n (limit (Target m)) mvs) h

    kept : (o : Outcome) → legal n 64 (keep_move m vol prog o mv) ≡ true
    kept (refused t k) = refl
    kept (ran r) = keep_legal m n mv (move_turn (Target m) vol prog r.state mv) (rw parts.0)

-- a target's moves for a legal source move are legal
expand_legal : (n b t k x : ℕ) → 1 ≤ b → ltb t n ≡ true → legal n b (expand t k x) ≡ true
expand_legal n b t zero zero le h = rw (h, le-leb 0 b (omega arith))
expand_legal n b t zero (suc x) le h = rw (h, le-leb 0 b (omega arith)) (expand_legal n b t zero x le h)
expand_legal n b t (suc zero) x le h = rw (h, le-leb 1 b le)
expand_legal n b t (suc (suc k)) x le h = refl

pub target_legal : (m : Model) (vol : ℕ → Bool) (prog : List (List Instr)) (n : ℕ) (o : Outcome) (mvs : List Move)
    → legal n 64 mvs ≡ true
    → legal n (limit (Target m)) (target_schedule m vol prog o mvs) ≡ true
target_legal m vol prog n o [] h = refl
target_legal m vol prog n o (mv ∷ mvs) h =
    legal_append n (limit (Target m)) (expand_at prog o mv) _ (spelt o)
    (target_legal m vol prog n (run (Target m) vol prog o (expand_at prog o mv)) mvs parts.1)
  where
    parts : ((ltb mv.lane n && leb mv.choice 64) ≡ true) × (legal n 64 mvs ≡ true)
    parts = and_true (ltb mv.lane n && leb mv.choice 64) (legal n 64 mvs) h

    spelt : (o : Outcome) → legal n (limit (Target m)) (expand_at prog o mv) ≡ true
    spelt (refused t k) = refl
    spelt (ran r) =
        expand_legal n (limit (Target m)) mv.lane mv.choice _ (limits m).0
        (and_true (ltb mv.lane n) (leb mv.choice 64) parts.0).0
