-- Whatever has the paper's sentence covers every path, on any chain, also one whose skips go back.
use Prim.Native.Nat.{ℕ}
use mathlib.Core.Path.{refl}
use mathlib.Core.Bool.{Bool}
use mathlib.Core.Logic.{inl, inr}
use Rattle.barrier_placement.specs.Cookbook.{Barrier}
use Rattle.barrier_placement.specs.Chain.{Chain}
use Rattle.barrier_placement.specs.Sentence.{Sentence, Covers}
use Rattle.barrier_placement.proofs.Laws.Paths.{first}

-- A path has a first position between its ends where b stands; or none, and then b stands before its end.
pub covered : (s : Chain) (b : Barrier) (B : ℕ → Bool) → Sentence s b B → Covers s b B
covered s b B sentence i j π pair = elim (first B π) [
  | inl f ↦ (f.place, inl f.on, f.holds)
  | inr f ↦ (j, inr refl, (sentence j).1 (record { from = i; pair = pair; path = π; clear = f }))
]
