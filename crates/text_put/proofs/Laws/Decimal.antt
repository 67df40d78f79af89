-- Laws of decimals: the first digits and the last one; a number of 32 bits has at most ten.
use Prim.Native.Nat.{ℕ, zero, suc, ◌+◌, ◌*◌, ◌/◌, ◌%◌, ◌^◌, ◌≤◌, ◌<◌}
use mathlib.Core.Path.{◌≡◌, refl, sym, ap, subst}
use mathlib.Core.Bool.{Bool, true, false}
use mathlib.Core.List.{List, [], ◌∷◌, ◌++◌}
use native.Mathlib.Nat.{pow-suc, div-lt_iff_lt-mul}
use native.Mathlib.Omega.{arith}
use lib.Dec.{ltb}
use lib.ListN.{length, length-append}
use borrow.Author.Tests.{lt-ltb, le-ltb}
use Rattle.text_put.specs.Decimal.{digits_by, digits, decimal}

same_by : (b : Bool) (n : ℕ) (f g : ℕ → List ℕ) → f (n / 10) ≡ g (n / 10) → digits_by b n f ≡ digits_by b n g
same_by true n f g e = refl
same_by false n f g e = ap (λ z. z ++ (48 + n % 10) ∷ []) e

-- a bound on the digits that is no less than the number does not show
enough : (f g n : ℕ) → n ≤ f → n ≤ g → digits f n ≡ digits g n
unfolding digits
enough zero zero n p q = refl
enough zero (suc g) n p q = sym (rw (lt-ltb n 10 (omega arith)))
enough (suc f) zero n p q = rw (lt-ltb n 10 (omega arith))
enough (suc f) (suc g) n p q =
    same_by (ltb n 10) n (digits f) (digits g) (enough f g (n / 10) (omega arith) (omega arith))

pub decimal_one : (n : ℕ) → n < 10 → decimal n ≡ (48 + n) ∷ []
unfolding decimal digits
decimal_one zero h = refl
decimal_one (suc m) h = rw (lt-ltb (suc m) 10 h)

pub decimal_more : (n : ℕ) → 10 ≤ n → decimal n ≡ decimal (n / 10) ++ (48 + n % 10) ∷ []
unfolding decimal digits
decimal_more zero h = absurd (omega arith)
decimal_more (suc m) h =
    rw (le-ltb (suc m) 10 h)
    (ap (λ z. z ++ (48 + suc m % 10) ∷ []) (enough m (suc m / 10) (suc m / 10) (omega arith) (omega arith)))

few_by : (b : Bool) (n m : ℕ) (f : ℕ → List ℕ) → length (f (n / 10)) ≤ m → length (digits_by b n f) ≤ suc m
few_by true n m f h = omega arith
few_by false n m f h = simp length-append (omega arith)

few : (k f n : ℕ) → n < 10 ^ suc k → length (digits f n) ≤ suc k
unfolding digits
few k zero n h = omega arith
few zero (suc f) n h = rw (lt-ltb n 10 h) (omega arith)
few (suc k) (suc f) n h =
    let small : n < 10 ^ suc k * 10 = subst (λ m. n < m) (pow-suc 10 (suc k)) h in
    few_by (ltb n 10) n (suc k) (digits f) (few k f (n / 10) ((div-lt_iff_lt-mul (omega arith)).1 small))

pub decimal_within : (k n : ℕ) → n < 10 ^ suc k → length (decimal n) ≤ suc k
unfolding decimal
decimal_within k n h = few k n n h

pub decimal_few : (n : ℕ) → n < 2 ^ 32 → length (decimal n) ≤ 10
decimal_few n h = decimal_within 9 n (omega arith)

-- behind the first digits there is room for the last
pub decimal_room : (n : ℕ) → 10 ≤ n → n < 2 ^ 32 → length (decimal (n / 10)) < 10
decimal_room n more h =
    let whole = ap length (decimal_more n more) in
    omega (arith, simp length-append at whole, decimal_few n h)
