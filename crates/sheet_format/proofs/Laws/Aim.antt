-- Laws of an operation whose target is renumbered.
use Prim.Native.Nat.{ℕ}
use mathlib.Core.Path.{◌≡◌, refl, ap}
use mathlib.Core.Bool.{Bool, not}
use mathlib.Core.Option.{some}
use Rattle.file_format.specs.declared.accepted.Op.{Op}
use Rattle.file_format.specs.declared.accepted.Op.TheVariants.{Set, Add, Load, Store, Lock, Unlock, Skip}
use Rattle.file_format.specs.Accepted.{jump}
use Rattle.barrier_placement.specs.declared.cookbook.Barrier.{Barrier}
use Rattle.barrier_placement.specs.declared.cookbook.Barrier.TheVariants.{LL, LS, SS, SL}
use Rattle.sheet_format.specs.Layout.{aim}
use Rattle.sheet_format.specs.declared.Level.{Level}
use Rattle.sheet_format.specs.declared.Level.TheVariants.{Level0, Level1, Level2, Level3}
use Rattle.sheet_format.specs.Levels.{drains, keeps}

-- an operation that keeps its target
pub aim_own : (o : Op) → aim (λ t. t) o ≡ o
aim_own (Set a c) = refl
aim_own (Add a b) = refl
aim_own (Load a x) = refl
aim_own (Store a x) = refl
aim_own (Lock l) = refl
aim_own (Unlock l) = refl
aim_own (Skip a t) = refl

-- an operation is aimed alike by two functions that agree at its target
pub aim_agrees : (f g : ℕ → ℕ) (o : Op) → ((t : ℕ) → jump o ≡ some t → f t ≡ g t) → aim f o ≡ aim g o
aim_agrees f g (Set a c) h = refl
aim_agrees f g (Add a b) h = refl
aim_agrees f g (Load a x) h = refl
aim_agrees f g (Store a x) h = refl
aim_agrees f g (Lock l) h = refl
aim_agrees f g (Unlock l) h = refl
aim_agrees f g (Skip a t) h = ap (Skip a) (h t refl)

-- an aimed operation is as it was, or both are a SKIP of the same register
pub aim_cases : (P : Op → Op → Type 0) → ((o : Op) → P o o) → ((a t u : ℕ) → P (Skip a u) (Skip a t))
    → (r : ℕ → ℕ) (o : Op) → P (aim r o) o
aim_cases P same skips r (Set a c) = same (Set a c)
aim_cases P same skips r (Add a b) = same (Add a b)
aim_cases P same skips r (Load a x) = same (Load a x)
aim_cases P same skips r (Store a x) = same (Store a x)
aim_cases P same skips r (Lock l) = same (Lock l)
aim_cases P same skips r (Unlock l) = same (Unlock l)
aim_cases P same skips r (Skip a t) = skips a t (r t)

-- so what does not look at a SKIP's target does not change with it
pub aim_blind : (f : Op → Bool) → ((a t u : ℕ) → f (Skip a u) ≡ f (Skip a t)) → (r : ℕ → ℕ) (o : Op)
    → f (aim r o) ≡ f o
aim_blind f = aim_cases (λ o q. f o ≡ f q) (λ o. refl)

-- what a level keeps before an operation
pub keeps_aim : (l : Level) (r : ℕ → ℕ) (o : Op) (b : Barrier) → keeps l (aim r o) b ≡ keeps l o b
keeps_aim Level0 r o b = refl
keeps_aim Level1 r o b = refl
keeps_aim Level2 r o LL = refl
keeps_aim Level2 r o LS = refl
keeps_aim Level2 r o SS = refl
keeps_aim Level2 r o SL = ap not (aim_blind drains (λ a t u. refl) r o)
keeps_aim Level3 r o LL = refl
keeps_aim Level3 r o LS = refl
keeps_aim Level3 r o SS = refl
keeps_aim Level3 r o SL = ap not (aim_blind drains (λ a t u. refl) r o)
