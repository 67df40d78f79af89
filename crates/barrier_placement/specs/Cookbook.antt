-- The cookbook table: which barrier an earlier access and a later one call for.
use Rattle.std.specs.Prelude.{ℕ, Bool, true, false, eqb}
use Rattle.std.proofs.Math.Option.{Option, none, some}
pub use Rattle.barrier_placement.specs.declared.cookbook.Class.{Class}
pub use Rattle.barrier_placement.specs.declared.cookbook.Class.TheVariants.{PL, PS, VL, VS}
pub use Rattle.barrier_placement.specs.declared.cookbook.Barrier.{Barrier}
pub use Rattle.barrier_placement.specs.declared.cookbook.Barrier.TheVariants.{LL, LS, SS, SL}

-- an entry of a row, whose columns are PL, PS, VL and VS
abbrev pub column : {A : Type 0} → A → A → A → A → Class → A
column w x y z PL = w
column w x y z PS = x
column w x y z VL = y
column w x y z VS = z

-- the barrier between an earlier and a later access, if there is one; a row for each class of the earlier access
abbrev pub cell : Class → Class → Option Barrier
cell PL = column none none none (some LS)
cell PS = column none none none (some SS)
cell VL = column (some LL) (some LS) (some LL) (some LS)
cell VS = column none none (some SL) (some SS)

-- the sheet's operation codes
abbrev pub code_of : Barrier → ℕ
code_of LL = 11
code_of LS = 12
code_of SS = 13
code_of SL = 14

abbrev pub cell_code : Option Barrier → ℕ
cell_code none = 0
cell_code (some b) = code_of b

abbrev pub number_of : Class → ℕ
number_of = column 0 1 2 3

abbrev pub same : Barrier → Barrier → Bool
same a b = eqb (code_of a) (code_of b)

abbrev pub holds : Option Barrier → Barrier → Bool
holds none b = false
holds (some a) b = same a b

-- the test: the cell of the two classes is b
abbrev pub calls : Barrier → Class → Class → Bool
calls b c d = holds (cell c d) b

-- a barrier's second letter: it stands before a load, or else before a store
abbrev pub before_load : Barrier → Bool
before_load LL = true
before_load LS = false
before_load SS = false
before_load SL = true

-- an access of the class is a load, or else a store
abbrev pub is_load : Class → Bool
is_load = column true false true false
