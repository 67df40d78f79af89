-- Laws of the cookbook table, each by one computed test of every class and every barrier.
use Prim.Native.Nat.{ℕ, ◌≤◌}
use mathlib.Core.Path.{◌≡◌, refl, sym, ◌∙◌, ap, subst}
use mathlib.Core.Bool.{Bool, true, ◌&&◌, cond, false≢true}
use mathlib.Core.List.{[]}
use mathlib.Core.Option.{Option, none, some}
use lib.Dec.{eqb, leb}
use lib.ListN.{get_or}
use borrow.Author.Tests.{eqb-true, leb-true, eq-eqb}
use Rattle.std.specs.Prelude.{Option as Found, None, MatchOption}
use Rattle.laws.proofs.Bools.{all_four}
use Rattle.barrier_placement.specs.declared.cookbook.TheConstants.{TABLE}
use Rattle.barrier_placement.specs.Cookbook.{Class, PL, PS, VL, VS, Barrier, LL, LS, SS, SL}
use Rattle.barrier_placement.specs.Cookbook.{cell, code_of, number_of, same, holds, calls}

-- A test that passes at every class passes at each, and so for barriers.
abbrev pub every_class : (Class → Bool) → Bool
every_class f = f PL && (f PS && (f VL && f VS))

pub class_at : (f : Class → Bool) → every_class f ≡ true → (c : Class) → f c ≡ true
class_at f h PL = (all_four (f PL) (f PS) (f VL) (f VS) h).0
class_at f h PS = (all_four (f PL) (f PS) (f VL) (f VS) h).1
class_at f h VL = (all_four (f PL) (f PS) (f VL) (f VS) h).2
class_at f h VS = (all_four (f PL) (f PS) (f VL) (f VS) h).3

abbrev pub every_barrier : (Barrier → Bool) → Bool
every_barrier f = f LL && (f LS && (f SS && f SL))

pub barrier_at : (f : Barrier → Bool) → every_barrier f ≡ true → (b : Barrier) → f b ≡ true
barrier_at f h LL = (all_four (f LL) (f LS) (f SS) (f SL) h).0
barrier_at f h LS = (all_four (f LL) (f LS) (f SS) (f SL) h).1
barrier_at f h SS = (all_four (f LL) (f LS) (f SS) (f SL) h).2
barrier_at f h SL = (all_four (f LL) (f LS) (f SS) (f SL) h).3

-- a barrier is known by its code
abbrev barrier_of : ℕ → Barrier
barrier_of n = cond (eqb n 11) LL (cond (eqb n 12) LS (cond (eqb n 13) SS SL))

of_code : (b : Barrier) → barrier_of (code_of b) ≡ b
of_code LL = refl
of_code LS = refl
of_code SS = refl
of_code SL = refl

pub same_true : (a b : Barrier) → same a b ≡ true → a ≡ b
same_true a b h = sym (of_code a) ∙ ap barrier_of (eqb-true (code_of a) (code_of b) h) ∙ of_code b

pub same_refl : (b : Barrier) → same b b ≡ true
same_refl b = eq-eqb (code_of b) (code_of b) refl

holds_true : (o : Option Barrier) (b : Barrier) → holds o b ≡ true → o ≡ some b
holds_true none b h = absurd (false≢true h)
holds_true (some a) b h = ap some (same_true a b h)

pub calls_cell : (b : Barrier) (c d : Class) → calls b c d ≡ true → cell c d ≡ some b
calls_cell b c d h = holds_true (cell c d) b h

pub cell_calls : (b : Barrier) (c d : Class) → cell c d ≡ some b → calls b c d ≡ true
cell_calls b c d h = subst (λ (o : Option Barrier). holds o b ≡ true) (sym h) (same_refl b)

-- an entry of the code's constant: a row for each class of the earlier access, a column for each of the later one
abbrev entry : Class → Class → Found Barrier
entry c d = get_or (get_or TABLE (number_of c) []) (number_of d) None

pub table_cell : (c d : Class) → MatchOption (entry c d) (cell c d ≡ none) (λ b. cell c d ≡ some b)
table_cell PL PL = refl
table_cell PL PS = refl
table_cell PL VL = refl
table_cell PL VS = refl
table_cell PS PL = refl
table_cell PS PS = refl
table_cell PS VL = refl
table_cell PS VS = refl
table_cell VL PL = refl
table_cell VL PS = refl
table_cell VL VL = refl
table_cell VL VS = refl
table_cell VS PL = refl
table_cell VS PS = refl
table_cell VS VL = refl
table_cell VS VS = refl

pub number_small : (c : Class) → number_of c ≤ 3
number_small c = leb-true (number_of c) 3 (class_at (λ a. leb (number_of a) 3) refl c)
