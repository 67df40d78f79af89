-- Laws of the bits of a number.
use Prim.Native.Nat.{ℕ, zero, suc, ◌+◌, ◌/◌, ◌%◌, ◌^◌, ◌<◌}
use native.Mathlib.Nat.{mod-lt, zero-div}
use native.Mathlib.Omega.{arith}
use mathlib.Core.Path.{◌≡◌, refl, ◌∙◌, ap}
use mathlib.Core.Bool.{Bool, true, false, not, ◌&&◌, ◌||◌, cond}
use mathlib.Core.List.{[], ◌∷◌}
use lib.Bits.{bit_or, bit_and, bit_xor, or_shr, or_mod, and_shr, and_mod, xor_shr, xor_mod}
use lib.Dec.{eqb}
use lib.Pow.{shr-shr, field, mod-mod-pow}
use Rattle.laws.proofs.Numbers.{table_at}
use Rattle.barrier_placement.specs.Placed.{bit}

-- an operation that works bit by bit, as a test does on the two bits
module _ (op : ℕ → ℕ → ℕ) (test : Bool → Bool → Bool)
    (shr : (a b k : ℕ) → op a b / 2 ^ k ≡ op (a / 2 ^ k) (b / 2 ^ k))
    (low : (a b k : ℕ) → op a b % 2 ^ k ≡ op (a % 2 ^ k) (b % 2 ^ k))
    (none : eqb (op 0 0) 1 ≡ test false false) (second : eqb (op 0 1) 1 ≡ test false true)
    (first : eqb (op 1 0) 1 ≡ test true false) (both : eqb (op 1 1) 1 ≡ test true true) where
  bit_by : (a b j : ℕ) → bit (op a b) j ≡ test (bit a j) (bit b j)
  bit_by a b j =
      ap (λ (x : ℕ). eqb (x % 2) 1) (shr a b j)
      ∙ ap (λ (x : ℕ). eqb x 1) (low (a / 2 ^ j) (b / 2 ^ j) 1)
      ∙ table_at (λ u v. eqb (op u v) 1) (λ u v. test (eqb u 1) (eqb v 1)) 2 2
      (λ i. (both i ∷ first i ∷ []) ∷ (second i ∷ none i ∷ []) ∷ [])
      (a / 2 ^ j % 2) (b / 2 ^ j % 2) (mod-lt (a / 2 ^ j) (omega arith)) (mod-lt (b / 2 ^ j) (omega arith))

pub bit_or_lem : (a b j : ℕ) → bit (bit_or a b) j ≡ (bit a j || bit b j)
bit_or_lem = bit_by bit_or ◌||◌ or_shr or_mod refl refl refl refl

pub bit_and_lem : (a b j : ℕ) → bit (bit_and a b) j ≡ (bit a j && bit b j)
bit_and_lem = bit_by bit_and ◌&&◌ and_shr and_mod refl refl refl refl

abbrev pub differ : Bool → Bool → Bool
differ a b = cond a (not b) b

pub bit_xor_lem : (a b j : ℕ) → bit (bit_xor a b) j ≡ differ (bit a j) (bit b j)
bit_xor_lem = bit_by bit_xor differ xor_shr xor_mod refl refl refl refl

-- the low bits of a number are its own
pub bit_low : (n j k : ℕ) → bit (n % 2 ^ (j + 1 + k)) k ≡ bit n k
bit_low n j k =
    ap (λ (x : ℕ). eqb (x % 2) 1) (field n (j + 1) k) ∙ ap (λ (x : ℕ). eqb x 1) (mod-mod-pow (n / 2 ^ k) j 1)

-- four bits of a number, from bit m up
pub bit_four : (n m k : ℕ) → k < 4 → bit (n / 2 ^ m % 16) k ≡ bit n (m + k)
bit_four n m k h = go k h ∙ ap (λ (x : ℕ). eqb (x % 2) 1) (shr-shr n m k)
  where
    go : (k : ℕ) → k < 4 → bit (n / 2 ^ m % 16) k ≡ bit (n / 2 ^ m) k
    go zero h = bit_low (n / 2 ^ m) 3 0
    go (suc zero) h = bit_low (n / 2 ^ m) 2 1
    go (suc (suc zero)) h = bit_low (n / 2 ^ m) 1 2
    go (suc (suc (suc zero))) h = bit_low (n / 2 ^ m) 0 3
    go (suc (suc (suc (suc k)))) h = absurd (omega arith)

pub bit_zero : (j : ℕ) → bit 0 j ≡ false
bit_zero j = ap (λ (x : ℕ). eqb (x % 2) 1) (zero-div (2 ^ j))
