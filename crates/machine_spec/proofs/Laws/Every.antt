-- Laws of a test of each number below a bound.
use mathlib.Core.Path.{◌≡◌, refl, sym, ap, ◌∙◌}
use mathlib.Core.Bool.{Bool, true, false, ◌&&◌, and-false}
use Prim.Native.Nat.{ℕ, zero, suc, ◌<◌}
use native.Mathlib.Decide.{ℕ_discrete, dec_le}
use native.Mathlib.Omega.{arith}
use Rattle.laws.proofs.Bools.{and_true}
use Rattle.machine_spec.specs.View.{every}

pub every_ext : (n : ℕ) {f g : ℕ → Bool} → ((t : ℕ) → f t ≡ g t) → every n f ≡ every n g
every_ext zero h = refl
every_ext (suc n) h = cc (every_ext n h, h n)

pub every_at : (n : ℕ) (f : ℕ → Bool) → every n f ≡ true → (t : ℕ) → t < n → f t ≡ true
every_at zero f e t lt = absurd (omega arith)
every_at (suc n) f e t lt =
    go (ℕ_discrete t n) (and_true (every n f) (f n) e)
    (λ l. every_at n f (and_true (every n f) (f n) e).0 t l)
  where
    go : Dec (t ≡ n) → (every n f ≡ true) × (f n ≡ true) → (t < n → f t ≡ true) → f t ≡ true
    go (yes k) h ih = rw k h.1
    go (no k) h ih = ih (omega arith)

pub every_true : (n : ℕ) (f : ℕ → Bool) → ((t : ℕ) → t < n → f t ≡ true) → every n f ≡ true
every_true zero f h = refl
every_true (suc n) f h = rw (every_true n f (λ t l. h t (omega arith)), h n (omega arith))

pub every_false : (n : ℕ) (f : ℕ → Bool) (t : ℕ) → t < n → f t ≡ false → every n f ≡ false
every_false zero f t h e = absurd (omega arith)
every_false (suc n) f t h e = go (λ l. every_false n f t l e) (dec_le (suc t) n)
  where
    go : (t < n → every n f ≡ false) → Dec (t < n) → every (suc n) f ≡ false
    go before (yes l) = ap (λ b. b && f n) (before l)
    go before (no l) =
        let last : t ≡ n = omega arith in
        ap (λ b. every n f && b) (sym (ap f last) ∙ e) ∙ and-false (every n f)
