-- Laws of tests: what a conjunction, a disjunction, a negation and a choice say.
use mathlib.Core.Path.{◌≡◌, refl, sym, ap, ◌∙◌}
use mathlib.Core.Bool.{Bool, true, false, not, ◌&&◌, ◌||◌, beq, cond, true≢false, false≢true, or_assoc, or_comm}
use mathlib.Core.Logic.{◌⊎◌, inl, inr}
use borrow.Author.Tests.{not-true, not-false}

-- what holds of both values
pub by_test : (P : Bool → Type 0) → P true → P false → (b : Bool) → P b
by_test P t f true = t
by_test P t f false = f

-- ## or

pub or_true : (a b : Bool) → (a || b) ≡ true → (a ≡ true) ⊎ (b ≡ true)
or_true true b h = inl refl
or_true false b h = inr h

pub or_false : (a b : Bool) → a || b ≡ false → (a ≡ false) × (b ≡ false)
or_false true b e = (e, cc)
or_false false b e = (refl, e)

pub or_left : (a b : Bool) → a ≡ true → (a || b) ≡ true
or_left a b h = rw h

pub or_right : (a b : Bool) → b ≡ true → (a || b) ≡ true
or_right true b h = refl
or_right false b h = h

pub or_mono : (a : Bool) {b c : Bool} → (b ≡ true → c ≡ true) → a || b ≡ true → a || c ≡ true
or_mono true f e = refl
or_mono false f e = f e

pub or_swap : (a b c : Bool) → a || (b || c) ≡ b || (a || c)
or_swap a b c = sym (or_assoc a b c) ∙ ap (λ d. d || c) (or_comm a b) ∙ or_assoc b a c

pub or_absorbs : (a b c : Bool) → (a || b) ≡ (a || ((c && a) || b))
or_absorbs true b c = refl
or_absorbs false b true = refl
or_absorbs false b false = refl

-- ## and

pub and_true : (a b : Bool) → (a && b) ≡ true → (a ≡ true) × (b ≡ true)
and_true true b h = (refl, h)
and_true false b h = absurd (false≢true h)

-- a test that both values pass
pub all_tests : (f : Bool → Bool) → (f true && f false) ≡ true → (b : Bool) → f b ≡ true
all_tests f h = by_test (λ b. f b ≡ true) (and_true (f true) (f false) h).0 (and_true (f true) (f false) h).1

pub both_true : (a b : Bool) → a ≡ true → b ≡ true → (a && b) ≡ true
both_true a b h k = rw (h, k)

pub all_four : (a b c d : Bool) → (a && (b && (c && d))) ≡ true
    → (a ≡ true) × (b ≡ true) × (c ≡ true) × (d ≡ true)
all_four true true true d h = (refl, refl, refl, h)
all_four true true false d h = absurd (false≢true h)
all_four true false c d h = absurd (false≢true h)
all_four false b c d h = absurd (false≢true h)

-- ## not, and two tests that say the same

pub beq_true : (a b : Bool) → beq a b ≡ true → a ≡ b
beq_true true true e = refl
beq_true true false e = absurd (false≢true e)
beq_true false true e = absurd (false≢true e)
beq_true false false e = refl

-- what a test says whose answer was negated
pub denied : {x y : Bool} → x ≡ y → not x ≡ true → y ≡ false
denied {y = y} e h = not-true y (sym (ap not e) ∙ h)

pub granted : {x y : Bool} → x ≡ y → not x ≡ false → y ≡ true
granted {y = y} e h = not-false y (sym (ap not e) ∙ h)

-- ## one of two, by a test

pub first_of : {A : Type 0} {t : Bool} (x y : A) → t ≡ true → x ≡ cond t x y
first_of x y e = rw e refl

pub second_of : {A : Type 0} {t : Bool} (x y : A) → t ≡ false → y ≡ cond t x y
second_of x y e = rw e refl

pub cond_false : (a : Bool) {b : Bool} → cond a true b ≡ false → b ≡ false
cond_false true e = absurd (true≢false e)
cond_false false e = e

-- what holds of each of the two where it is taken
pub cond_by : {A : Type 0} (P : A → Type 0) (b : Bool) (x y : A) → (b ≡ true → P x) → (b ≡ false → P y)
    → P (cond b x y)
cond_by P true x y f g = f refl
cond_by P false x y f g = g refl
