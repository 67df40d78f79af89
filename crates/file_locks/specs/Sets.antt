-- What the held-set check of a lane computes on its way: sets of locks, and the ways to a position, as numbers.
use Rattle.std.specs.Prelude.{ℕ, ◌+◌, ◌-◌, ◌*◌, ◌/◌, ◌%◌, ◌^◌, List, [], ◌∷◌, Bool, not, cond, ◌&&◌, ◌||◌, eqb, leb}
use Rattle.std.proofs.Math.Option.{Option, none, some}
use Rattle.std.specs.Int.Bits.{bit_and, bit_xor}
use mir.Val.{bool_byte}
use Rattle.file_format.specs.declared.accepted.Op.{Op}
use Rattle.file_format.specs.Held.{jump_from}

-- where an operation leads besides the next position; a number past every position of a lane where it leads nowhere
-- else
abbrev pub or_else : ℕ → Option ℕ → ℕ
or_else d none = d
or_else d (some q) = q

abbrev pub jump_or : ℕ → Option Op → ℕ
jump_or d o = or_else d (jump_from o)

abbrev pub no_jump : ℕ
no_jump = 65536

-- the set that a number stands for: lock l is in it where bit l is up
abbrev pub has_lock : ℕ → ℕ → Bool
has_lock h l = eqb (h / 2 ^ l % 2) 1

abbrev pub locks_in : ℕ → List Bool
locks_in h = has_lock h 0 ∷ has_lock h 1 ∷ has_lock h 2 ∷ has_lock h 3 ∷ []

-- two sets have a lock in common
abbrev pub meets : ℕ → ℕ → Bool
meets h g = not (eqb (bit_and h g) 0)

-- The ways to a position as one number: bit l is up where some way holds lock l, bit 4 + l where some way does not.
-- Ways to one position are joined by `bit_or`. These all hold the set h.
abbrev pub ways : ℕ → ℕ
ways h = h + 16 * (15 - h)

-- some lock is held on one way and not on another
abbrev pub differ : ℕ → Bool
differ w = meets w (w / 2 ^ 4)

-- the set of the lock that an operation of this code and operand takes or frees; no lock for other codes
abbrev pub lock_bit : ℕ → ℕ → ℕ
lock_bit code b = bool_byte (eqb code 5 || eqb code 6) * 2 ^ (b % 4) % 2 ^ 8

-- the locks that the operation may not name: those held for a LOCK, those not held for an UNLOCK
abbrev pub barred : ℕ → ℕ → ℕ
barred w code = cond (eqb code 5) w (w / 2 ^ 4)

-- the ways differ, or the operation breaks the rule
abbrev pub wrong_at : ℕ → ℕ → ℕ → Bool
wrong_at w code bit = differ w || meets (barred w code) bit

-- one of the two rules may be broken: a LOCK while its own lock or a higher one is held is told as one; as numbers, the
-- locks from that of `bit` up are 16 - bit
abbrev pub suspect_at : ℕ → ℕ → ℕ → Bool
suspect_at w code bit = differ w || meets (barred w code) (cond (eqb code 5) (16 - bit) bit)

-- the operation takes the lock of `bit`, and the set on the ways has a lock that is not below it: as numbers, a set has
-- a lock of number b or more exactly when it is at least 2^b
abbrev pub descends_at : ℕ → ℕ → ℕ → Bool
descends_at w code bit = eqb code 5 && leb bit (w % 16)

-- the ways after an operation that takes or frees the lock of `bit`: its two bits change places
abbrev pub after_row : ℕ → ℕ → ℕ
after_row w bit = bit_xor w (17 * bit)
