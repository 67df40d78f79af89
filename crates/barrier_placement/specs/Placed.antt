-- What the code of the placement holds: a set of barriers and what is due as the bits of numbers, and where a step
-- lands.
use Rattle.std.specs.Prelude.{ℕ, ◌+◌, ◌*◌, ◌/◌, ◌%◌, ◌^◌, Bool, cond, eqb, leb}
use Rattle.std.proofs.Math.Option.{Option, none, some}
use Rattle.barrier_placement.specs.Cookbook.{Class, PL, PS, VL, VS, Barrier, LL, LS, SS, SL, number_of, cell}
use Rattle.barrier_placement.specs.Chain.{Step, Access, Skip, Other}

-- bit j of a number
abbrev pub bit : ℕ → ℕ → Bool
bit n j = eqb (n / 2 ^ j % 2) 1

-- each barrier's bit of a set of barriers, which is a number below 16
abbrev pub bit_of : Barrier → ℕ
bit_of LL = 0
bit_of LS = 1
bit_of SS = 2
bit_of SL = 3

-- what is due, as a number below 65536: four bits for each class of the later access, the barriers due before it
abbrev pub due_in : ℕ → Barrier → Class → Bool
due_in n b c = bit n (4 * number_of c + bit_of b)

-- the set of the barrier in a cell
abbrev pub set_of : Option Barrier → ℕ
set_of none = 0
set_of (some b) = 2 ^ bit_of b

-- a row of the table: all that an access of class c calls for
abbrev pub row_number : Class → ℕ
row_number c = set_of (cell c PL) + 16 * set_of (cell c PS) + 256 * set_of (cell c VL) + 4096 * set_of (cell c VS)

-- the target of a SKIP that lies in a lane or at its end, else 0, to which nothing goes forward
abbrev pub landing : Step → ℕ
landing (Access c) = 0
landing (Skip t) = cond (leb t 64) t 0
landing Other = 0
