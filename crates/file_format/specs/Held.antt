-- The held-set rule of a lane (refusal 8). A set of locks is four flags, one for each lock.
use Rattle.std.specs.Prelude.{ℕ, zero, suc, ◌+◌, ◌-◌, min, List, [], ◌∷◌, Bool, true, false, not, cond, get_or, set}
use Rattle.std.specs.Prelude.{length, take, replicate, eqb}
use Rattle.std.specs.Bool.{beq}
use Rattle.std.proofs.Math.Option.{Option, none, some}
use Rattle.std.proofs.Math.ListN.{get_elem?}
use Rattle.file_format.specs.declared.accepted.Op.{Op}
use Rattle.file_format.specs.declared.accepted.Op.TheVariants.{Set, Add, Load, Store, Lock, Unlock, Skip}
use Rattle.file_format.specs.Search.{lowest, first_of, all}
use Rattle.file_format.specs.Accepted.{Program, jump}

abbrev pub no_locks : List Bool
no_locks = replicate 4 false

unfoldable pub same : List Bool → List Bool → Bool
same h g =
    all
    (beq (get_or h 0 false) (get_or g 0 false) ∷ beq (get_or h 1 false) (get_or g 1 false)
    ∷ beq (get_or h 2 false) (get_or g 2 false) ∷ beq (get_or h 3 false) (get_or g 3 false)
    ∷ [])

-- the set after an operation, and after several
abbrev pub after : List Bool → Op → List Bool
after h (Set a c) = h
after h (Add a b) = h
after h (Load a b) = h
after h (Store a b) = h
after h (Lock b) = set h b true
after h (Unlock b) = set h b false
after h (Skip a q) = h

unfoldable pub held_from : List Bool → List Op → List Bool
held_from h [] = h
held_from h (o ∷ os) = held_from (after h o) os

-- The held set at position p: the locks taken and not released on the way to it. Each position is reached from the one
-- before it, so that, where every way agrees, the set is the one after all the operations before p.
abbrev pub held : List Op → ℕ → List Bool
held ops p = held_from no_locks (take p ops)

-- where the operation at a position leads besides the next one; the end leads nowhere
abbrev pub jump_from : Option Op → Option ℕ
jump_from none = none
jump_from (some o) = jump o

-- a jump from a position with the set h leads to p, where the set is another
abbrev pub conflicts_by : Option ℕ → ℕ → List Bool → List Bool → Bool
conflicts_by none p h g = false
conflicts_by (some q) p h g = cond (eqb q p) (not (same h g)) false

-- some SKIP among the first n operations leads to p with a set other than p's
unfoldable pub conflict_below : List Op → ℕ → ℕ → Bool
conflict_below ops zero p = false
conflict_below ops (suc q) p =
    cond (conflicts_by (jump_from (get_elem? ops q)) p (held ops q) (held ops p)) true (conflict_below ops q p)

-- two ways to p disagree
abbrev pub conflict : List Op → ℕ → Bool
conflict ops p = conflict_below ops (length ops) p

-- an operation with the set h before it breaks the rule; past the last operation is the end
abbrev pub misuse : List Bool → Option Op → Bool
misuse h none = not (same h no_locks)
misuse h (some (Set a c)) = false
misuse h (some (Add a b)) = false
misuse h (some (Load a b)) = false
misuse h (some (Store a b)) = false
misuse h (some (Lock b)) = get_or h b false
misuse h (some (Unlock b)) = not (get_or h b false)
misuse h (some (Skip a q)) = false

-- the rule is broken at position p; the end is the length
unfoldable pub fault_at : List Op → ℕ → Bool
fault_at ops p = cond (conflict ops p) true (misuse (held ops p) (get_elem? ops p))

-- the first position at which the rule is broken, counted from 1, or 0
unfoldable pub fault_position : List Op → ℕ
fault_position ops = lowest (λ i. fault_at ops (i - 1)) 1 (length ops + 1)

-- the record at a position counted from 1; for the end, beyond the last, the last; 0 for position 0
unfoldable pub record_at : List ℕ → ℕ → ℕ
record_at rs i = get_or (0 ∷ rs) (min i (length rs)) 0

-- the record where a lane breaks the rule, or 0
abbrev pub lane_fault : List ℕ → List Op → ℕ
lane_fault rs ops = record_at rs (fault_position ops)

-- lanes in order
unfoldable pub lock_fault : Program → ℕ
lock_fault k = first_of (λ t. lane_fault (get_or k.records t []) (get_or k.lanes t [])) 0 4
