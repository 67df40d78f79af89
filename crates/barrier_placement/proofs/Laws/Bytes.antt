-- Laws of what is due as a number, of the table's cells as numbers, and of where a step lands.
use Prim.Native.Nat.{ℕ, ◌*◌, ◌^◌, ◌<◌, ◌≤◌}
use native.Mathlib.Omega.{arith}
use mathlib.Core.Path.{◌≡◌, refl}
use mathlib.Core.Bool.{Bool, true, false, cond, beq}
use mathlib.Core.Option.{Option, none, some}
use lib.Dec.{leb, ltb}
use borrow.Author.Tests.{leb-true, ltb-true}
use Rattle.laws.proofs.Bools.{beq_true}
use Rattle.laws.proofs.Numbers.{values_at}
use Rattle.barrier_placement.specs.Cookbook.{Class, Barrier, code_of, cell_code}
use Rattle.barrier_placement.specs.Chain.{Step, Access, Skip, Other}
use Rattle.barrier_placement.specs.Placed.{bit, bit_of, due_in, set_of, landing}
use Rattle.barrier_placement.proofs.Laws.Cookbook.{every_class, class_at, every_barrier, barrier_at}

pub bit_small : (b : Barrier) → bit_of b < 4
bit_small b = ltb-true (bit_of b) 4 (barrier_at (λ a. ltb (bit_of a) 4) refl b)

-- the code of a cell, as a shift
pub code_small : (o : Option Barrier) → cell_code o < 16
code_small none = omega arith
code_small (some b) = ltb-true (code_of b) 16 (barrier_at (λ a. ltb (code_of a) 16) refl b)

pub set_small : (o : Option Barrier) → set_of o ≤ 8
set_small none = omega arith
set_small (some b) = leb-true (2 ^ bit_of b) 8 (barrier_at (λ a. leb (2 ^ bit_of a) 8) refl b)

-- a set of barriers, four times over
abbrev spread_agrees : ℕ → Barrier → Class → Bool
spread_agrees n b c = beq (due_in (n * 4369) b c) (bit n (bit_of b))

pub spread : (n : ℕ) → n < 16 → (b : Barrier) (c : Class) → due_in (n * 4369) b c ≡ bit n (bit_of b)
spread n h b c =
    beq_true _ _
    (class_at (spread_agrees n b)
    (barrier_at (λ a. every_class (spread_agrees n a))
    (values_at (λ k. every_barrier (λ a. every_class (spread_agrees k a))) (λ k. true) 16 n refl h) b) c)

pub landing_small : (s : Step) → landing s ≤ 64
landing_small (Access c) = omega arith
landing_small (Skip t) = go (leb t 64) refl
  where
    go : (u : Bool) → leb t 64 ≡ u → cond u t 0 ≤ 64
    go true h = leb-true t 64 h
    go false h = omega arith
landing_small Other = omega arith
