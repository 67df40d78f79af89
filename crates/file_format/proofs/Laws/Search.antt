-- Laws of the searches: how a loop goes through one, and what a search that found nothing says.
use Prim.Native.Nat.{ℕ, zero, suc, ◌+◌, ◌-◌, ◌≤◌, ◌<◌}
use mathlib.Core.Path.{◌≡◌, refl, sym, ◌∙◌, ap}
use mathlib.Core.Bool.{Bool, true, false, false≢true}
use native.Mathlib.Numerals.{add-one}
use native.Mathlib.Omega.{arith}
use native.Mathlib.Decide.{dec_le}
use lib.Dec.{eqb}
use lib.ListN.{get_or}
use mathlib.Core.List.{List, [], ◌∷◌}
use borrow.Author.Tests.{eq-eqb, ne_eqb, eqb-true, eqb-false}
use Rattle.file_format.specs.Search.{lowest, first_of, all}

lowest_here : (test : ℕ → Bool) (i k : ℕ) → test i ≡ true → lowest test i (suc k) ≡ i
unfolding lowest
lowest_here test i k h = rw (h, lowest)

lowest_on : (test : ℕ → Bool) (i k : ℕ) → test i ≡ false → lowest test i (suc k) ≡ lowest test (suc i) k
unfolding lowest
lowest_on test i k h = rw (h, lowest)

-- A search loop holds, at i, with the numbers below e ahead: lowest test i (e - i) is the answer. It starts so, a
-- number
-- that fails is passed, one that passes is the answer, and at the end the answer is 0.
pub search_start : (test : ℕ → Bool) (i k : ℕ) → lowest test i (k + i - i) ≡ lowest test i k
search_start test i k = ap (lowest test i) (omega arith)

module _ (test : ℕ → Bool) (i e : ℕ) {a : ℕ} where
  pub search_on : i < e → test i ≡ false → lowest test i (e - i) ≡ a → lowest test (i + 1) (e - (i + 1)) ≡ a
  search_on h p inv =
      let q : e - i ≡ suc (e - suc i) = omega arith in
      rw add-one (sym (lowest_on test i (e - suc i) p) ∙ (rw q at inv))

  pub search_found : i < e → test i ≡ true → lowest test i (e - i) ≡ a → i ≡ a
  search_found h p inv =
      let q : e - i ≡ suc (e - suc i) = omega arith in
      sym (lowest_here test i (e - suc i) p) ∙ (rw q at inv)

  pub search_none : e ≤ i → lowest test i (e - i) ≡ a → 0 ≡ a
  unfolding lowest
  search_none h inv =
      let q : e - i ≡ 0 = omega arith in
      rw q at inv

first_of_here : (f : ℕ → ℕ) (i k : ℕ) → eqb (f i) 0 ≡ false → first_of f i (suc k) ≡ f i
unfolding first_of
first_of_here f i k h = rw (h, first_of)

first_of_on : (f : ℕ → ℕ) (i k : ℕ) → eqb (f i) 0 ≡ true → first_of f i (suc k) ≡ first_of f (suc i) k
unfolding first_of
first_of_on f i k h = rw (h, first_of)

-- the same of a loop over first_of, at which v is f i
module _ (f : ℕ → ℕ) (i e : ℕ) {a : ℕ} where
  pub first_on : {v : ℕ} → i < e → v ≡ f i → v ≡ 0 → first_of f i (e - i) ≡ a → first_of f (i + 1) (e - (i + 1)) ≡ a
  first_on h v p inv =
      let q : e - i ≡ suc (e - suc i) = omega arith in
      rw add-one (sym (first_of_on f i (e - suc i) (eq-eqb _ _ (sym v ∙ p))) ∙ (rw q at inv))

  pub first_found : {v : ℕ} → i < e → v ≡ f i → (v ≡ 0 → ⊥) → first_of f i (e - i) ≡ a → v ≡ a
  first_found h v p inv =
      let q : e - i ≡ suc (e - suc i) = omega arith in
      v ∙ sym (first_of_here f i (e - suc i) (ne_eqb _ _ (λ z. p (v ∙ z)))) ∙ (rw q at inv)

  pub first_none : e ≤ i → first_of f i (e - i) ≡ a → 0 ≡ a
  unfolding first_of
  first_none h inv =
      let q : e - i ≡ 0 = omega arith in
      rw q at inv

-- a search that found nothing: no number in its reach passes the test
pub nothing_found : (test : ℕ → Bool) (i k j : ℕ) → 0 < i → lowest test i k ≡ 0 → i ≤ j → j < i + k → test j ≡ false
nothing_found test i zero j pos e lo hi = absurd (omega arith)
nothing_found test i (suc k) j pos e lo hi =
    go (test i) refl (dec_le (suc i) j) (nothing_found test (suc i) k j (omega arith))
  where
    go : (b : Bool) → test i ≡ b → Dec (suc i ≤ j)
        → (lowest test (suc i) k ≡ 0 → suc i ≤ j → j < suc i + k → test j ≡ false) → test j ≡ false
    go true h d ih = absurd (omega (arith, sym (lowest_here test i k h) ∙ e))
    go false h (yes l) ih = ih (sym (lowest_on test i k h) ∙ e) l (omega arith)
    go false h (no l) ih =
        let same : j ≡ i = omega arith in
        ap test same ∙ h

-- a search that no number in its reach ends, and one among names none of which is a record
pub found_nowhere : (test : ℕ → Bool) (i k : ℕ) → ((j : ℕ) → test j ≡ false) → lowest test i k ≡ 0
unfolding lowest
found_nowhere test i zero h = refl
found_nowhere test i (suc k) h = lowest_on test i k (h i) ∙ found_nowhere test (suc i) k h

pub named_nowhere : (f : ℕ → ℕ) (i k : ℕ) → ((j : ℕ) → j < i + k → f j ≡ 0) → first_of f i k ≡ 0
unfolding first_of
named_nowhere f i zero h = refl
named_nowhere f i (suc k) h =
    first_of_on f i k (eq-eqb (f i) 0 (h i (omega arith))) ∙ named_nowhere f (suc i) k (λ j l. h j (omega arith))

-- none of them names a record
pub nothing_named : (f : ℕ → ℕ) (i k j : ℕ) → first_of f i k ≡ 0 → i ≤ j → j < i + k → f j ≡ 0
nothing_named f i zero j e lo hi = absurd (omega arith)
nothing_named f i (suc k) j e lo hi = go (eqb (f i) 0) refl (dec_le (suc i) j) (nothing_named f (suc i) k j)
  where
    go : (b : Bool) → eqb (f i) 0 ≡ b → Dec (suc i ≤ j)
        → (first_of f (suc i) k ≡ 0 → suc i ≤ j → j < suc i + k → f j ≡ 0) → f j ≡ 0
    go false h d ih = absurd (eqb-false (f i) 0 h (sym (first_of_here f i k h) ∙ e))
    go true h (yes l) ih = ih (sym (first_of_on f i k h) ∙ e) l (omega arith)
    go true h (no l) ih =
        let same : j ≡ i = omega arith in
        ap f same ∙ eqb-true (f i) 0 h

-- each test of a row that holds
pub all_at : (xs : List Bool) (n : ℕ) → all xs ≡ true → get_or xs n true ≡ true
all_at [] n e = refl
all_at (true ∷ xs) zero e = refl
all_at (true ∷ xs) (suc n) e = all_at xs n e
all_at (false ∷ xs) n e = absurd (false≢true e)
