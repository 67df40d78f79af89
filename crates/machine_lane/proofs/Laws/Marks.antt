-- Laws of the marks of a pending list: one bit, and the bits below it, as the code makes them.
use Prim.Native.Nat.{ℕ, zero, suc, ◌-◌, ◌*◌, ◌%◌, ◌^◌, ◌≤◌, ◌<◌}
use mathlib.Core.Path.{◌≡◌, refl, ap, ◌∙◌}
use native.Mathlib.Nat.{one-mul}
use native.Mathlib.Omega.{arith}
use lib.Bits.{bit_or, bit_and, and_mask}
use lib.Dec.{eqb, lit<}
use lib.Pow.{shl_exact}
use Rattle.machine_spec.specs.Marks.{no_mark, after_ss}

-- one bit of a word of 64
pub one_bit : (n : ℕ) → n < 64 → (1 * 2 ^ n) % 2 ^ 64 ≡ 2 ^ n
one_bit n h = shl_exact {a = 1} 1 n 64 (lit< tt) (omega arith) ∙ one-mul (2 ^ n)

-- the bits below it
pub below_bit : (n ks : ℕ) → n < 64 → eqb (bit_and ks ((1 * 2 ^ n) % 2 ^ 64 - 1)) 0 ≡ no_mark n ks
below_bit n ks h =
    ap (λ x. eqb (bit_and ks (x - 1)) 0) (one_bit n h) ∙ ap (λ x. eqb x 0) (and_mask ks n)

-- that of the newest of n entries
pub newest_bit : (n ks : ℕ) → (n ≡ 0 → ⊥) → n ≤ 64 → bit_or ks ((1 * 2 ^ (n - 1)) % 2 ^ 64) ≡ after_ss n ks
newest_bit zero ks h k = absurd (h refl)
newest_bit (suc n) ks h k =
    let last : suc n - 1 ≡ n = omega arith in
    ap (λ i. bit_or ks ((1 * 2 ^ i) % 2 ^ 64)) last ∙ ap (bit_or ks) (one_bit n (omega arith))
