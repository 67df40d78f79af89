-- A lane's chain as far as placement sees it, and the paths through it. Only `Forward` says that a skip goes forward.
use Rattle.std.specs.Prelude.{ℕ, suc, ◌<◌, ◌≡◌, List, ◌⊎◌, length, get_or}
pub use Rattle.barrier_placement.specs.declared.steps.Step.{Step}
pub use Rattle.barrier_placement.specs.declared.steps.Step.TheVariants.{Access, Skip, Other}

abbrev pub Chain : Type 0
Chain = List Step

abbrev pub at : Chain → ℕ → Step
at s p = get_or s p Other

-- control can go from p to q in one step, register values ignored
abbrev pub Next : Chain → ℕ → ℕ → Type 0
Next s p q = (p < length s) × ((q ≡ suc p) ⊎ (at s p ≡ Skip q))

-- the ways from i by the steps R, one or more of them
pub data Path (R : ℕ → ℕ → Type 0) (i : ℕ) : ℕ → Type 0 where
  edge : {p : ℕ} → R i p → Path R i p
  more : {q p : ℕ} → Path R i q → R q p → Path R i p

-- k stands on the path, strictly between its two ends
abbrev pub Between : {R : ℕ → ℕ → Type 0} {i j : ℕ} → Path R i j → ℕ → Type 0
Between (edge e) k = ⊥
Between (more {q = q} π e) k = Between π k ⊎ (k ≡ q)

-- every step goes to a later position, as check 7 demands of SKIP
abbrev pub Forward : Chain → Type 0
Forward s = (p q : ℕ) → Next s p q → p < q
