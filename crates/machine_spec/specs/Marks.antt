-- The SS marks of a pending list, which the pso machine has, as the bits of a number: bit i is set where a mark stands
-- directly behind the entry that has i older ones. Listed.antt has the list in which the marks stand.
use Rattle.std.specs.Prelude.{Bool, ℕ, zero, suc, ◌/◌, ◌%◌, ◌^◌, eqb}
use Rattle.std.specs.Int.Bits.{bit_or}

-- a mark stands directly behind the entry that has i older ones
abbrev pub mark_at : ℕ → ℕ → Bool
mark_at ks i = eqb (ks / 2 ^ i % 2) 1

-- no mark is older than the entry that has n older ones
abbrev pub no_mark : ℕ → ℕ → Bool
no_mark n ks = eqb (ks % 2 ^ n) 0

-- the marks after an SS behind n entries: with none pending, or where the newest has its mark, it leaves none
abbrev pub after_ss : ℕ → ℕ → ℕ
after_ss zero ks = ks
after_ss (suc n) ks = bit_or ks (2 ^ n)

-- the marks after the commit of an entry older than all of them: each has one entry fewer before it, and that behind
-- the oldest entry, which has become the oldest itself, has vanished
abbrev pub after_commit : ℕ → ℕ
after_commit ks = ks / 2
