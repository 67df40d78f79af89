-- What the moves of a legal schedule name, and its first moves.
use Prim.Native.Nat.{ℕ, zero, suc, ◌≤◌, ◌<◌}
use mathlib.Core.Path.{◌≡◌, refl}
use mathlib.Core.Bool.{true, ◌&&◌}
use mathlib.Core.List.{List, [], ◌∷◌}
use mathlib.Core.Option.{some}
use native.Mathlib.Omega.{arith}
use lib.Dec.{ltb, leb}
use lib.ListN.{get_elem?, take}
use borrow.Author.Tests.{ltb-true, leb-true}
use Rattle.laws.proofs.Bools.{and_true}
use Rattle.machine_spec.specs.Schedule.{Move, legal}

module _ (n c : ℕ) where
  -- each move names one of n lanes and a choice up to c
  pub legal_named : (mvs : List Move) (j : ℕ) (mv : Move) → legal n c mvs ≡ true → get_elem? mvs j ≡ some mv
      → (mv.lane < n) × (mv.choice ≤ c)
  legal_named [] j mv le e = let z : ◌≡◌ {A = ℕ} 0 1 = cc in absurd (omega arith)
  legal_named (x ∷ mvs) zero mv le e =
      let same : x ≡ mv = cc in
      let h = and_true (ltb x.lane n && leb x.choice c) (legal n c mvs) le in
      let p = and_true (ltb x.lane n) (leb x.choice c) h.0 in
      rw (← same) (ltb-true x.lane n p.0, leb-true x.choice c p.1)
  legal_named (x ∷ mvs) (suc j) mv le e =
      legal_named mvs j mv (and_true (ltb x.lane n && leb x.choice c) (legal n c mvs) le).1 e

  pub legal_take : (j : ℕ) (mvs : List Move) → legal n c mvs ≡ true → legal n c (take j mvs) ≡ true
  legal_take zero mvs le = refl
  legal_take (suc j) [] le = refl
  legal_take (suc j) (x ∷ mvs) le =
      let h = and_true (ltb x.lane n && leb x.choice c) (legal n c mvs) le in
      rw h.0 (legal_take j mvs h.1)
