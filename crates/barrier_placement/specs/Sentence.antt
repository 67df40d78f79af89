-- The paper's sentence on placement, as a property of any set B of positions; and what it is to cover every path.
use Rattle.std.specs.Prelude.{ℕ, ◌≡◌, Bool, true, false, ◌⊎◌, ◌↔◌}
use Rattle.std.proofs.Math.Option.{some}
use Rattle.barrier_placement.specs.Cookbook.{Class, Barrier, cell}
use Rattle.barrier_placement.specs.Chain.{Chain, Access, at, Next, Path, Between}

-- on the path and after its start: where a barrier between the two ends can stand
abbrev pub Along : {R : ℕ → ℕ → Type 0} {i j : ℕ} → Path R i j → ℕ → Type 0
Along {j = j} π k = Between π k ⊎ (k ≡ j)

-- i and j are accesses whose cell is b
pub record Pair (s : Chain) (b : Barrier) (i j : ℕ) : Type 0 where
  pub first : Class
  pub second : Class
  pub earlier : at s i ≡ Access first
  pub later : at s j ≡ Access second
  pub calls : cell first second ≡ some b

-- some path leads from an access, whose cell with j is b, to j, and before no position strictly between the two on that
-- path does B have a barrier
pub record Open (s : Chain) (b : Barrier) (B : ℕ → Bool) (j : ℕ) : Type 0 where
  pub from : ℕ
  pub pair : Pair s b from j
  pub path : Path (Next s) from j
  pub clear : (k : ℕ) → Between path k → B k ≡ false

-- the paper's sentence: b stands directly before j exactly when such a path leads to j
abbrev pub Sentence : Chain → Barrier → (ℕ → Bool) → Type 0
Sentence s b B = (j : ℕ) → (B j ≡ true) ↔ Open s b B j

-- on every path from one access to another whose cell is b there is a b, after the first and up to the second
abbrev pub Covers : Chain → Barrier → (ℕ → Bool) → Type 0
Covers s b B = (i j : ℕ) (π : Path (Next s) i j) → Pair s b i j → (k : ℕ) × Along π k × (B k ≡ true)
