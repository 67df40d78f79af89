-- Laws of what the pass knows of a step as a number.
use Prim.Native.Nat.{ℕ, ◌+◌, ◌*◌, ◌/◌, ◌%◌, ◌^◌, ◌<◌}
use native.Mathlib.Nat.{div-eq_of_lt}
use native.Mathlib.Omega.{arith}
use mathlib.Core.Path.{◌≡◌, refl, sym, ap, ◌∙◌}
use mathlib.Core.Bool.{Bool, true, cond, beq}
use mathlib.Core.List.{List}
use lib.Dec.{leb, ltb, eqb}
use lib.ListN.{get_or}
use borrow.Author.Tests.{ltb-true}
use mir.Val.{bool_byte}
use Rattle.laws.proofs.Bools.{by_test, beq_true}
use Rattle.laws.proofs.Lists.{map_at}
use Rattle.laws.proofs.Numbers.{values_at}
use Rattle.file_format.specs.declared.accepted.Op.{Op}
use Rattle.file_format.specs.declared.accepted.Op.TheVariants.{Set, Add, Load, Store, Lock, Unlock, Skip as SkipOp}
use Rattle.file_format.specs.Stored.{no_op}
use Rattle.barrier_placement.specs.declared.cookbook.Class.{Class}
use Rattle.barrier_placement.specs.declared.cookbook.Class.TheVariants.{PL, PS, VL, VS}
use Rattle.barrier_placement.specs.declared.cookbook.Barrier.{Barrier}
use Rattle.barrier_placement.specs.declared.steps.Step.{Step}
use Rattle.barrier_placement.specs.declared.steps.Step.TheVariants.{Access, Skip, Other}
use Rattle.barrier_placement.specs.Chain.{at}
use Rattle.barrier_placement.specs.Cookbook.{number_of, calls}
use Rattle.barrier_placement.specs.Place.{stands_at, raises}
use Rattle.barrier_placement.specs.Placed.{bit, bit_of, due_in, landing}
use Rattle.barrier_placement.specs.Steps.{step_of, steps}
use Rattle.barrier_placement.proofs.Laws.Bits.{bit_zero, bit_four}
use Rattle.barrier_placement.proofs.Laws.Bytes.{bit_small}
use Rattle.barrier_placement.proofs.Laws.Cookbook.{every_class, class_at, barrier_at}
use Rattle.sheet_rows.specs.Lanes.{fields_of, Holds}
use Rattle.barrier_pass.specs.Known.{access_number, idle_number, known_of, known_table}

pub known_small : (i : ℕ) → i < 16 → get_or known_table i 0 < 2 ^ 21
known_small i h =
    ltb-true (get_or known_table i 0) (2 ^ 21)
    (values_at (λ k. ltb (get_or known_table k 0) (2 ^ 21)) (λ k. true) 16 i refl h)

module _ (vol : ℕ → Bool) where
  abbrev entry : ℕ → Bool → ℕ
  entry k u = get_or known_table (k + 8 * bool_byte u) 0

  -- the entry of an operation's code and location
  pub known_entry : (o : Op) → entry ((fields_of o).code % 8) (vol (fields_of o).b) ≡ known_of (step_of vol o)
  known_entry (Set a c) = by_test (λ u. entry 1 u ≡ idle_number) refl refl (vol 0)
  known_entry (Add a b) = by_test (λ u. entry 2 u ≡ idle_number) refl refl (vol b)
  known_entry (Load a x) = by_test (λ u. entry 3 u ≡ access_number (cond u VL PL)) refl refl (vol x)
  known_entry (Store a x) = by_test (λ u. entry 4 u ≡ access_number (cond u VS PS)) refl refl (vol x)
  known_entry (Lock l) = by_test (λ u. entry 5 u ≡ access_number VL) refl refl (vol l)
  known_entry (Unlock l) = by_test (λ u. entry 6 u ≡ access_number VS) refl refl (vol l)
  known_entry (SkipOp a t) = by_test (λ u. entry 7 u ≡ idle_number) refl refl (vol 0)

  -- only a SKIP lands elsewhere than at 0
  pub landing_by : (o : Op)
      → landing (step_of vol o)
      ≡ cond (eqb (fields_of o).code 7) (cond (leb (fields_of o).word 64) (fields_of o).word 0) 0
  landing_by (Set a c) = refl
  landing_by (Add a b) = refl
  landing_by (Load a x) = refl
  landing_by (Store a x) = refl
  landing_by (Lock l) = refl
  landing_by (Unlock l) = refl
  landing_by (SkipOp a t) = refl

-- where the barriers due before an access stand in what is due
known_shift : (c : Class) → access_number c % 32 ≡ 4 * number_of c
known_shift PL = refl
known_shift PS = refl
known_shift VL = refl
known_shift VS = refl

-- four bits of what is due, none past the last class
pub known_stands : (s : Step) (n : ℕ) (b : Barrier) → n < 65536
    → bit (n / 2 ^ (known_of s % 32) % 16) (bit_of b) ≡ stands_at s (due_in n b)
known_stands (Access c) n b h =
    ap (λ k. bit (n / 2 ^ k % 16) (bit_of b)) (known_shift c) ∙ bit_four n (4 * number_of c) (bit_of b) (bit_small b)
known_stands (Skip t) n b h = ap (λ y. bit (y % 16) (bit_of b)) (div-eq_of_lt h) ∙ bit_zero (bit_of b)
known_stands Other n b h = ap (λ y. bit (y % 16) (bit_of b)) (div-eq_of_lt h) ∙ bit_zero (bit_of b)

-- one test of every cell
abbrev call_agrees : Barrier → Class → Class → Bool
call_agrees b c d = beq (due_in (access_number c / 32) b d) (calls b c d)

pub known_raises : (b : Barrier) (s : Step) (d : Class) → due_in (known_of s / 32) b d ≡ raises b s d
known_raises b (Access c) d =
    beq_true _ _
    (class_at (call_agrees b c)
    (class_at (λ x. every_class (call_agrees b x))
    (barrier_at (λ a. every_class (λ x. every_class (call_agrees a x))) refl b) c) d)
known_raises b (Skip t) d = bit_zero (4 * number_of d + bit_of b)
known_raises b Other d = bit_zero (4 * number_of d + bit_of b)

-- the steps of the operations that a buffer holds
module _ (vol : ℕ → Bool) {rows : List ℕ} {n : ℕ} {ops : List Op} (h : Holds rows n ops) where
  pub step_is : (p : ℕ) → p < n → step_of vol (get_or ops p no_op) ≡ at (steps vol ops) p
  step_is p l = sym (map_at (step_of vol) ops p no_op Other (omega (arith, h.count)))
