-- Instructions of a sheet, and a lane's part of it.
use Rattle.std.specs.Prelude.{ℕ, zero, suc, Bool, false, ◌||◌, List, [], ◌∷◌}
use Rattle.file_format.specs.declared.accepted.Op.{Op}
use Rattle.file_format.specs.declared.accepted.Op.TheVariants.{Set, Add, Load, Store, Lock, Unlock, Skip}
use Rattle.barrier_placement.specs.declared.cookbook.Barrier.{Barrier}
use Rattle.barrier_placement.specs.Cookbook.{same}
use Rattle.barrier_placement.specs.Layout.{Placed, start, layout}

pub data Instr : Type 0 where
  op : Op → Instr
  barrier : Barrier → Instr

-- an operation whose target is renumbered
abbrev pub aim : (ℕ → ℕ) → Op → Op
aim r (Set a c) = Set a c
aim r (Add a b) = Add a b
aim r (Load a x) = Load a x
aim r (Store a x) = Store a x
aim r (Lock l) = Lock l
aim r (Unlock l) = Unlock l
aim r (Skip a t) = Skip a (r t)

-- the instructions of a placed lane, its targets renumbered
abbrev pub cells : (ℕ → ℕ) → List (Placed Op) → List Instr
cells r = layout barrier (λ o. op (aim r o))

-- a lane's part of the sheet: a SKIP lands on its target's first barrier
abbrev pub sheet : List (Placed Op) → List Instr
sheet ps = cells (start ps) ps

-- the number of operations before position q: q with barriers not counted
abbrev pub rank : List Instr → ℕ → ℕ
rank [] q = 0
rank (i ∷ is) zero = 0
rank (op o ∷ is) (suc q) = suc (rank is q)
rank (barrier b ∷ is) (suc q) = rank is q

-- does b stand among the barriers
abbrev pub has : Barrier → List Barrier → Bool
has b [] = false
has b (x ∷ bs) = same b x || has b bs
