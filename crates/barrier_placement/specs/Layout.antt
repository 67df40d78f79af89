-- The layout of a lane, for operations and instructions of whatever kind: the operations one after the other, each
-- behind its barriers.
use Rattle.std.specs.Prelude.{ℕ, zero, suc, ◌+◌, List, [], ◌∷◌, ◌++◌, map, length}
use Rattle.std.proofs.Math.Option.{Option, none, some}
use Rattle.std.proofs.Math.ListN.{get_elem?}
use Rattle.barrier_placement.specs.Cookbook.{Barrier}

-- an operation of the chain, with the barriers that stand directly before it
pub record Placed (A : Type 0) : Type 0 where
  pub before : List Barrier
  pub oper : A

-- the chain of a placed lane
abbrev pub operations : {A : Type 0} → List (Placed A) → List A
operations = map (λ x. x.oper)

-- the barriers before the p-th operation
abbrev pub before_of : {A : Type 0} → Option (Placed A) → List Barrier
before_of none = []
before_of (some x) = x.before

abbrev pub barriers_at : {A : Type 0} → List (Placed A) → ℕ → List Barrier
barriers_at ps p = before_of (get_elem? ps p)

-- the position at which the p-th operation begins, that is, its first barrier; past the last operation the lane's end
abbrev pub start : {A : Type 0} → List (Placed A) → ℕ → ℕ
start [] p = 0
start (x ∷ ps) zero = 0
start (x ∷ ps) (suc p) = length x.before + suc (start ps p)

-- the position of the p-th operation itself
abbrev pub op_at : {A : Type 0} → List (Placed A) → ℕ → ℕ
op_at ps p = start ps p + length (barriers_at ps p)

-- the lane: bar makes an instruction of a barrier, put of an operation
abbrev pub layout : {A I : Type 0} → (Barrier → I) → (A → I) → List (Placed A) → List I
layout bar put [] = []
layout bar put (x ∷ ps) = map bar x.before ++ put x.oper ∷ layout bar put ps
