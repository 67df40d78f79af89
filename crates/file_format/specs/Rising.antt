-- Locks taken upward (refusal 12): a LOCK finds each lock of its held set below its own.
use Rattle.std.specs.Prelude.{ℕ, ◌-◌, List, [], ◌∷◌, Bool, true, false, not, cond, get_or, length, ltb}
use Rattle.std.proofs.Math.Option.{Option, none, some}
use Rattle.std.proofs.Math.ListN.{get_elem?}
use Rattle.file_format.specs.declared.accepted.Op.{Op}
use Rattle.file_format.specs.declared.accepted.Op.TheVariants.{Set, Add, Load, Store, Lock, Unlock, Skip}
use Rattle.file_format.specs.Search.{lowest, first_of, all}
use Rattle.file_format.specs.Accepted.{Program}
use Rattle.file_format.specs.Held.{held, record_at}

-- each lock in the set h has a number below b
unfoldable pub all_below : List Bool → ℕ → Bool
all_below h b =
    all
    (cond (get_or h 0 false) (ltb 0 b) true ∷ cond (get_or h 1 false) (ltb 1 b) true
    ∷ cond (get_or h 2 false) (ltb 2 b) true ∷ cond (get_or h 3 false) (ltb 3 b) true
    ∷ [])

-- the operation is a LOCK, and some lock in the set h before it is not below its own
abbrev pub descends : List Bool → Option Op → Bool
descends h none = false
descends h (some (Set a c)) = false
descends h (some (Add a b)) = false
descends h (some (Load a b)) = false
descends h (some (Store a b)) = false
descends h (some (Lock b)) = not (all_below h b)
descends h (some (Unlock b)) = false
descends h (some (Skip a q)) = false

unfoldable pub descent_at : List Op → ℕ → Bool
descent_at ops p = descends (held ops p) (get_elem? ops p)

-- the first position of such a LOCK, counted from 1, or 0
unfoldable pub descent_position : List Op → ℕ
descent_position ops = lowest (λ i. descent_at ops (i - 1)) 1 (length ops)

-- its record, or 0
abbrev pub lane_descent : List ℕ → List Op → ℕ
lane_descent rs ops = record_at rs (descent_position ops)

-- lanes in order
unfoldable pub lock_order : Program → ℕ
lock_order k = first_of (λ t. lane_descent (get_or k.records t []) (get_or k.lanes t [])) 0 4
