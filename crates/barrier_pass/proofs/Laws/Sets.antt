-- Laws of a set of barriers as a number, and of the set that a plan has of it.
use Prim.Native.Nat.{ℕ, ◌+◌, ◌*◌, ◌/◌, ◌%◌, ◌<◌}
use native.Mathlib.Nat.{div-one}
use native.Mathlib.Omega.{arith}
use mathlib.Core.Path.{◌≡◌, refl, sym, ap, ap₂, ◌∙◌}
use mathlib.Core.Bool.{Bool, true, false, not, ◌&&◌, beq}
use lib.Dec.{eqb}
use mir.Val.{bool_byte}
use borrow.Author.Tests.{eqb-true}
use Rattle.laws.proofs.Bools.{by_test, beq_true, all_tests}
use Rattle.laws.proofs.Bytes.{bool_byte_small}
use Rattle.laws.proofs.Numbers.{values_at}
use Rattle.file_format.specs.declared.accepted.Op.{Op}
use Rattle.file_format.specs.declared.accepted.Op.TheVariants.{Set, Add, Load, Store, Lock, Unlock, Skip}
use Rattle.barrier_placement.specs.declared.cookbook.Barrier.{Barrier}
use Rattle.barrier_placement.specs.declared.cookbook.Barrier.TheVariants.{LL, LS, SS, SL}
use Rattle.barrier_placement.specs.Placed.{bit, bit_of}
use Rattle.barrier_placement.proofs.Laws.Bits.{bit_four}
use Rattle.barrier_placement.proofs.Laws.Bytes.{bit_small}
use Rattle.barrier_placement.proofs.Laws.Cookbook.{every_barrier, barrier_at}
use Rattle.sheet_format.specs.declared.Level.{Level}
use Rattle.sheet_format.specs.declared.Level.TheVariants.{Level0, Level1, Level2, Level3}
use Rattle.sheet_format.specs.Levels.{drains, keeps}
use Rattle.sheet_rows.specs.Lanes.{fields_of}
use Rattle.barrier_pass.specs.Plan.{set_by, plan_set, fence_in, kept_in}

pub set_small : (f : Barrier → Bool) → set_by f < 16
set_small f =
    omega (arith, bool_byte_small (f LL), bool_byte_small (f LS), bool_byte_small (f SS), bool_byte_small (f SL))

-- a number below 16 is the set of its bits
pub set_is : (x : ℕ) → x < 16 → (f : Barrier → Bool) → ((b : Barrier) → bit x (bit_of b) ≡ f b) → x ≡ set_by f
set_is x h f e =
    eqb-true x (set_by (λ b. bit x (bit_of b)))
    (values_at (λ k. eqb k (set_by (λ b. bit k (bit_of b)))) (λ k. true) 16 x refl h)
    ∙ (λ i. set_by (λ b. e b i))

-- the bits of a set, whatever stands above them
pub bit_lowest : (a x : ℕ) → x < 16 → (b : Barrier) → bit (x + 16 * a) (bit_of b) ≡ bit x (bit_of b)
bit_lowest a x h b =
    let low : (x + 16 * a) / 1 % 16 ≡ x = omega (arith, div-one (x + 16 * a)) in
    ap (bit (x + 16 * a)) (omega arith) ∙ sym (bit_four (x + 16 * a) 0 (bit_of b) (bit_small b))
    ∙ ap (λ n. bit n (bit_of b)) low

abbrev pick : Bool → Bool → Bool → Bool → Barrier → Bool
pick ll ls ss sl LL = ll
pick ll ls ss sl LS = ls
pick ll ls ss sl SS = ss
pick ll ls ss sl SL = sl

-- one test of every set
abbrev agree : Bool → Bool → Bool → Bool → Bool
agree ll ls ss sl =
    every_barrier (λ b. beq (bit (set_by (pick ll ls ss sl)) (bit_of b)) (pick ll ls ss sl b))

abbrev both : (Bool → Bool) → Bool
both f = f true && f false

sets_agree : (ll ls ss sl : Bool) → agree ll ls ss sl ≡ true
sets_agree ll ls ss sl =
    all_tests (agree ll ls ss)
    (all_tests (λ c. both (agree ll ls c))
    (all_tests (λ b. both (λ c. both (agree ll b c)))
    (all_tests (λ a. both (λ b. both (λ c. both (agree a b c)))) refl ll) ls) ss) sl

-- the set of the barriers that a test picks has the bit of each of them
pub bit_set : (f : Barrier → Bool) (b : Barrier) → bit (set_by f) (bit_of b) ≡ f b
bit_set f b =
    beq_true _ _
    (barrier_at (λ a. beq (bit (set_by f) (bit_of a)) (f a)) (sets_agree (f LL) (f LS) (f SS) (f SL)) b)

-- ## the set of a plan

-- LOCK has code 5
pub drains_code : (o : Op) → drains o ≡ eqb (fields_of o).code 5
drains_code (Set a c) = refl
drains_code (Add a b) = refl
drains_code (Load a x) = refl
drains_code (Store a x) = refl
drains_code (Lock l) = refl
drains_code (Unlock l) = refl
drains_code (Skip a t) = refl

pub plan_set_small : (o : Op) (x : ℕ) → x < 16 → plan_set o x < 32
plan_set_small o x h = omega (arith, bool_byte_small (drains o))

-- it has SL for the targets where SL is in the set and the operation does not drain
fence_kept : (o : Op) (x : ℕ) → x < 16 → fence_in (plan_set o x) ≡ (not (drains o) && bit x 3)
fence_kept o x h =
    let t : Bool = drains o in
    let fifth : (x + 16 * bool_byte t) / 16 % 2 ≡ bool_byte t = omega (arith, bool_byte_small t) in
    ap₂ (λ u v. not u && v)
    (ap (λ n. eqb n 1) fifth ∙ by_test (λ u. eqb (bool_byte u) 1 ≡ u) refl refl t)
    (bit_lowest (bool_byte t) x h SL)

-- at each level it has those barriers of the set that the level keeps before the operation
pub plan_set_kept : (l : Level) (o : Op) (x : ℕ) → x < 16 → (b : Barrier)
    → kept_in l (plan_set o x) b ≡ (keeps l o b && bit x (bit_of b))
plan_set_kept Level0 o x h b = refl
plan_set_kept Level1 o x h b = bit_lowest (bool_byte (drains o)) x h b
plan_set_kept Level2 o x h LL = refl
plan_set_kept Level2 o x h LS = refl
plan_set_kept Level2 o x h SS = refl
plan_set_kept Level2 o x h SL = fence_kept o x h
plan_set_kept Level3 o x h LL = refl
plan_set_kept Level3 o x h LS = refl
plan_set_kept Level3 o x h SS = bit_lowest (bool_byte (drains o)) x h SS
plan_set_kept Level3 o x h SL = fence_kept o x h

-- ## whatever stands above it

bit_below : (a x : ℕ) → x < 32 → (b : Barrier) → bit (x + 32 * a) (bit_of b) ≡ bit x (bit_of b)
bit_below a x h b =
    let low : x % 16 < 16 = omega arith in
    let whole : x + 32 * a ≡ x % 16 + 16 * (x / 16 + 2 * a) = omega arith in
    let alone : x ≡ x % 16 + 16 * (x / 16) = omega arith in
    ap (λ n. bit n (bit_of b)) whole ∙ bit_lowest (x / 16 + 2 * a) (x % 16) low b
    ∙ sym (ap (λ n. bit n (bit_of b)) alone ∙ bit_lowest (x / 16) (x % 16) low b)

fence_below : (a x : ℕ) → x < 32 → fence_in (x + 32 * a) ≡ fence_in x
fence_below a x h =
    let fifth : (x + 32 * a) / 16 % 2 ≡ x / 16 % 2 = omega arith in
    ap₂ (λ u v. not (eqb u 1) && v) fifth (bit_below a x h SL)

pub kept_lowest : (l : Level) (a x : ℕ) → x < 32 → (b : Barrier) → kept_in l (x + 32 * a) b ≡ kept_in l x b
kept_lowest Level0 a x h b = refl
kept_lowest Level1 a x h b = bit_below a x h b
kept_lowest Level2 a x h LL = refl
kept_lowest Level2 a x h LS = refl
kept_lowest Level2 a x h SS = refl
kept_lowest Level2 a x h SL = fence_below a x h
kept_lowest Level3 a x h LL = refl
kept_lowest Level3 a x h LS = refl
kept_lowest Level3 a x h SS = bit_below a x h SS
kept_lowest Level3 a x h SL = fence_below a x h
