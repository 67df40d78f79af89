-- Laws of numbers: tests of them, what holds of every number below a bound, their bits.
use Prim.Native.Nat.{ℕ, zero, suc, ◌+◌, ◌-◌, ◌*◌, ◌/◌, ◌%◌, ◌^◌, ◌≤◌, ◌<◌, max}
use mathlib.Core.Path.{◌≡◌, refl, sym, ap, ap₂, subst, ◌∙◌}
use mathlib.Core.List.{List, [], ◌∷◌}
use mathlib.Core.Logic.{◌⊎◌, inl, inr}
use native.Mathlib.Nat.{pow-suc, div-lt_iff_lt-mul, mod-lt}
use native.Mathlib.Omega.{arith}
use native.Mathlib.Decide.{dec_le, dec_lt}
use lib.Arith.{bin_ind}
use lib.Bits.{bit_or, or_step, or_shr, or_mod}
use lib.Count.{ones_in, ones, ones_step}
use lib.Dec.{leb}
use borrow.Author.Tests.{le-leb, lt-leb}

pub lt_or_le : (a b : ℕ) → (a < b) ⊎ (b ≤ a)
lt_or_le a b = go (dec_lt a b)
  where
    go : Dec (a < b) → (a < b) ⊎ (b ≤ a)
    go (yes h) = inl h
    go (no h) = inr (omega arith)

pub leb_sub : (a b n : ℕ) → n ≤ b → leb a (b - n) ≡ leb (a + n) b
leb_sub a b n h = go (dec_le a (b - n))
  where
    go : Dec (a ≤ b - n) → leb a (b - n) ≡ leb (a + n) b
    go (yes l) = le-leb a (b - n) l ∙ sym (le-leb (a + n) b (omega arith))
    go (no l) = lt-leb a (b - n) (omega arith) ∙ sym (lt-leb (a + n) b (omega arith))

-- ## below a bound

pub below_four : (P : ℕ → Type 0) → P 0 → P 1 → P 2 → P 3 → (t : ℕ) → t < 4 → P t
below_four P a b c d zero h = a
below_four P a b c d (suc zero) h = b
below_four P a b c d (suc (suc zero)) h = c
below_four P a b c d (suc (suc (suc zero))) h = d
below_four P a b c d (suc (suc (suc (suc t)))) h = absurd (omega arith)

pub below_more : (P : ℕ → Type 0) (n : ℕ) → ((i : ℕ) → i < n → P i) → P n → (i : ℕ) → i < n + 1 → P i
below_more P n h e i l = go (dec_lt i n)
  where
    go : Dec (i < n) → P i
    go (yes below) = h i below
    go (no above) = let here : i ≡ n = omega arith in rw here e

-- some number below n gives an A, or each has P
pub each_or : {A : Type 0} (P : ℕ → Type 0) (n : ℕ) → ((i : ℕ) → i < n → A ⊎ P i) → A ⊎ ((i : ℕ) → i < n → P i)
each_or P zero f = inr (λ i l. absurd (omega arith))
each_or {A = A} P (suc n) f = go (each_or P n (λ i l. f i (omega arith))) (f n (omega arith))
  where
    go : A ⊎ ((i : ℕ) → i < n → P i) → A ⊎ P n → A ⊎ ((i : ℕ) → i < suc n → P i)
    go (inl a) y = inl a
    go (inr h) (inl a) = inl a
    go (inr h) (inr p) = inr (λ i l. below_more P n h p i (omega arith))

-- the values of f below n, the last first; two functions with the same values agree below n
abbrev pub values : {A : Type 0} → (ℕ → A) → ℕ → List A
values f zero = []
values f (suc n) = f n ∷ values f n

pub values_at : {A : Type 0} (f g : ℕ → A) (n i : ℕ) → values f n ≡ values g n → i < n → f i ≡ g i
values_at f g zero i e h = absurd (omega arith)
values_at f g (suc n) i e h = go (dec_lt i n) (values_at f g n i cc)
  where
    go : Dec (i < n) → (i < n → f i ≡ g i) → f i ≡ g i
    go (yes l) ih = ih l
    go (no l) ih =
        let last : i ≡ n = omega arith in
        rw last cc

-- the same of two tables of m by n cells
pub table_at : {A : Type 0} (f g : ℕ → ℕ → A) (m n : ℕ)
    → values (λ x. values (f x) n) m ≡ values (λ x. values (g x) n) m
    → (x y : ℕ) → x < m → y < n → f x y ≡ g x y
table_at f g m n e x y h k = values_at (f x) (g x) n y (values_at (λ z. values (f z) n) (λ z. values (g z) n) m x e h) k

-- ## bits

-- the ones of a number of n bits
pub ones_in_lem : (n m : ℕ) → m < 2 ^ n → ones m ≡ ones_in n m
unfolding ones_in ones
ones_in_lem zero m h =
    let none : m ≡ 0 = omega arith in
    ap ones none
ones_in_lem (suc n) m h =
    let small : m < 2 ^ n * 2 = subst (λ k. m < k) (pow-suc 2 n) h in
    ones_step m ∙ ap (λ k. m % 2 + k) (ones_in_lem n (m / 2) ((div-lt_iff_lt-mul (omega arith)).1 small))

pub ones_few : (n m : ℕ) → ones_in n m ≤ n
unfolding ones_in
ones_few zero m = omega arith
ones_few (suc n) m = omega (arith, ones_few n (m / 2))

or_odd : (a b : ℕ) → bit_or a b % 2 ≡ max (a % 2) (b % 2)
or_odd a b =
    or_mod a b 1 ∙ table_at bit_or max 2 2 refl (a % 2) (b % 2) (mod-lt a (omega arith)) (mod-lt b (omega arith))

pub bit_or_assoc : (a b c : ℕ) → bit_or (bit_or a b) c ≡ bit_or a (bit_or b c)
bit_or_assoc = bin_ind (λ a. (b c : ℕ) → bit_or (bit_or a b) c ≡ bit_or a (bit_or b c)) (λ b c. refl) step
  where
    step : (a : ℕ) → ((b c : ℕ) → bit_or (bit_or (a / 2) b) c ≡ bit_or (a / 2) (bit_or b c)) → (b c : ℕ)
        → bit_or (bit_or a b) c ≡ bit_or a (bit_or b c)
    step a ih b c =
        let rest = ap (λ x. bit_or x (c / 2)) (or_shr a b 1) ∙ ih (b / 2) (c / 2)
        ∙ ap (bit_or (a / 2)) (sym (or_shr b c 1)) in
        let odd : max (bit_or a b % 2) (c % 2) ≡ max (a % 2) (bit_or b c % 2) =
        omega (arith, or_odd a b, or_odd b c) in
        or_step (bit_or a b) c ∙ ap₂ (λ x y. x * 2 + y) rest odd ∙ sym (or_step a (bit_or b c))
