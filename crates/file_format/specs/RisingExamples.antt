-- The order in which locks are taken, by computation: sets of locks with a number, and kernels with the record that is
-- named.
use Rattle.std.specs.Prelude.{ℕ, suc, ◌+◌, ◌*◌, ◌≡◌, refl, Bool, true, false, List, [], ◌∷◌, map}
use Rattle.file_format.specs.declared.accepted.Op.{Op}
use Rattle.file_format.specs.declared.accepted.Op.TheVariants.{Set, Lock, Unlock, Skip}
use Rattle.file_format.specs.Search.{lowest, first_of}
use Rattle.file_format.specs.Accepted.{Program}
use Rattle.file_format.specs.Held.{held_from, record_at}
use Rattle.file_format.specs.Rising.{all_below, descent_at, descent_position, lock_order}

-- ## sets

record Row : Type 0 where
  locks : List Bool
  number : ℕ
  below : Bool

abbrev row : Bool → Bool → Bool → Bool → ℕ → Bool → Row
row a b c d n t = record { locks = a ∷ b ∷ c ∷ d ∷ []; number = n; below = t }

sets : List Row
sets =
    -- no lock, and each of the four alone
    row false false false false 0 true
    ∷ row true false false false 0 false
    ∷ row true false false false 1 true
    ∷ row false true false false 1 false
    ∷ row false true false false 2 true
    ∷ row false false true false 2 false
    ∷ row false false true false 3 true
    ∷ row false false false true 3 false
    ∷ row false false false true 0 false
    -- one below and one above; two below
    ∷ row true false true false 1 false
    ∷ row true false false true 2 false
    ∷ row true true false false 2 true
    ∷ []

sets_hold : map (λ (r : Row). all_below r.locks r.number) sets ≡ map (λ (r : Row). r.below) sets
unfolding sets all_below
sets_hold = refl

-- ## kernels

-- lanes whose records are numbered from 1, from 11, from 21, ..
abbrev numbered : ℕ → List Op → List ℕ
numbered i [] = []
numbered i (o ∷ os) = i ∷ numbered (suc i) os

abbrev numbered_from : ℕ → List (List Op) → List (List ℕ)
numbered_from t [] = []
numbered_from t (os ∷ lanes) = numbered (t * 10 + 1) os ∷ numbered_from (suc t) lanes

kernel : List (List Op) → Program
kernel lanes = record { locations = 1; locks = 4; mask = 0; records = numbered_from 0 lanes; lanes = lanes }

-- locks a, then b, released in the other order
abbrev nested : ℕ → ℕ → List Op
nested a b = Lock a ∷ Lock b ∷ Unlock b ∷ Unlock a ∷ []

-- lanes, and the record that is named, or 0
kernels : List (List (List Op) × ℕ)
kernels =
    ([], 0)
    ∷ (nested 0 1 ∷ nested 0 1 ∷ [], 0)
    ∷ (nested 1 0 ∷ [], 2)
    ∷ (nested 3 2 ∷ [], 2)
    -- the held lock is released first, in another order than that of taking
    ∷ ((Lock 1 ∷ Unlock 1 ∷ Lock 0 ∷ Unlock 0 ∷ []) ∷ [], 0)
    ∷ ((Lock 0 ∷ Lock 2 ∷ Unlock 0 ∷ Lock 3 ∷ Unlock 3 ∷ Unlock 2 ∷ []) ∷ [], 0)
    ∷ ((Lock 0 ∷ Lock 2 ∷ Unlock 0 ∷ Lock 1 ∷ Unlock 1 ∷ Unlock 2 ∷ []) ∷ [], 4)
    -- one lower lock held and one higher; the first of two such LOCKs
    ∷ ((Lock 0 ∷ Lock 2 ∷ Lock 1 ∷ Unlock 1 ∷ Unlock 2 ∷ Unlock 0 ∷ []) ∷ [], 3)
    ∷ ((Lock 3 ∷ Lock 2 ∷ Lock 1 ∷ Unlock 1 ∷ Unlock 2 ∷ Unlock 3 ∷ []) ∷ [], 2)
    -- in the last lane alone; in two lanes, the first
    ∷ (nested 0 1 ∷ nested 1 2 ∷ nested 2 3 ∷ nested 2 0 ∷ [], 32)
    ∷ ((Set 0 0 ∷ []) ∷ nested 2 1 ∷ nested 1 0 ∷ [], 12)
    -- behind a SKIP, register values ignored
    ∷ ((Skip 0 3 ∷ Lock 0 ∷ Unlock 0 ∷ Lock 1 ∷ Unlock 1 ∷ []) ∷ [], 0)
    ∷ ((Lock 1 ∷ Skip 0 4 ∷ Lock 0 ∷ Unlock 0 ∷ Unlock 1 ∷ []) ∷ [], 3)
    ∷ []

kernels_hold : map (λ (e : List (List Op) × ℕ). lock_order (kernel e.0)) kernels
    ≡ map (λ (e : List (List Op) × ℕ). e.1) kernels
unfolding kernels kernel lock_order first_of record_at descent_position lowest descent_at all_below held_from
kernels_hold = refl
