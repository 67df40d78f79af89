-- Laws of records by their numbers, and of a search that names the lowest.
use Prim.Native.Nat.{ℕ, zero, suc, ◌+◌, ◌-◌, ◌≤◌, ◌<◌}
use mathlib.Core.Path.{◌≡◌, refl, sym, ap, ◌∙◌}
use mathlib.Core.Bool.{Bool, true, false}
use native.Mathlib.Omega.{arith}
use native.Mathlib.Decide.{dec_le}
use Rattle.std.specs.Prelude.{Option, Some, None, MatchOption}
use Rattle.std.proofs.lemmas.Option.{none-some, same_Some}
use Rattle.file_format.specs.Search.{lowest}
use Rattle.file_format.specs.Named.{named}
use Rattle.file_format.proofs.Laws.Search.{search_found, search_none}

named_some : (r : ℕ) → (r ≡ 0 → ⊥) → Some r ≡ named r
named_some zero h = absurd (h refl)
named_some (suc r) h = refl

-- the record r is the one that is to be named
pub names_it : {r a : ℕ} → (r ≡ 0 → ⊥) → r ≡ a → Some r ≡ named a
names_it {r} h e = named_some r h ∙ ap named e

-- what an answer says of the number that it names
pub is_named : (a : ℕ) {r : ℕ} → Some r ≡ named a → (r ≡ a) × (r ≡ 0 → ⊥)
is_named zero e = absurd (none-some _ (sym e))
is_named (suc a) e = (same_Some _ _ e, λ z. omega (arith, same_Some _ _ e))

pub none_named : (a : ℕ) → None ≡ named a → a ≡ 0
none_named zero e = refl
none_named (suc a) e = absurd (none-some _ e)

-- ## the loop of a search, at i: what it returns

module _ (test : ℕ → Bool) (i e : ℕ) {a : ℕ} where
  pub found_named : 0 < i → i < e → test i ≡ true → lowest test i (e - i) ≡ a → Some i ≡ named a
  found_named pos h p inv = names_it (λ z. omega arith) (search_found test i e h p inv)

  pub none_found : e ≤ i → lowest test i (e - i) ≡ a → None ≡ named a
  none_found h inv = ap named (search_none test i e h inv)

-- ## a `find` through the records 1 to n

module _ (test : ℕ → Bool) where
  no_hit : (i k : ℕ) → ((j : ℕ) → i ≤ j → j < i + k → test j ≡ false) → lowest test i k ≡ 0
  unfolding lowest
  no_hit i zero none = refl
  no_hit i (suc k) none =
      rw (none i (omega arith) (omega arith), lowest) (no_hit (suc i) k (λ j a b. none j (omega arith) (omega arith)))

  first_hit : (x i k : ℕ) → i ≤ x → x < i + k → test x ≡ true → ((j : ℕ) → i ≤ j → j < x → test j ≡ false)
      → lowest test i k ≡ x
  unfolding lowest
  first_hit x i zero lo hi p none = absurd (omega arith)
  first_hit x i (suc k) lo hi p none = go (dec_le x i) (first_hit x (suc i) k)
    where
      go : Dec (x ≤ i)
          → (suc i ≤ x → x < suc i + k → test x ≡ true → ((j : ℕ) → suc i ≤ j → j < x → test j ≡ false)
          → lowest test (suc i) k ≡ x) → lowest test i (suc k) ≡ x
      go (yes l) ih =
          let same : i ≡ x = omega arith in
          rw (ap test same ∙ p, lowest) same
      go (no l) ih =
          rw (none i (omega arith) (omega arith), lowest)
          (ih (omega arith) (omega arith) p (λ j a b. none j (omega arith) b))

-- the first of the records 1 to n that passes the test
abbrev pub Found : (ℕ → Bool) → ℕ → Option ℕ → Type 0
Found test n r = MatchOption r ((i : ℕ) → 1 ≤ i → i < n + 1 → test i ≡ false)
    (λ x. (1 ≤ x) × (x < n + 1) × (test x ≡ true) × ((i : ℕ) → 1 ≤ i → i < x → test i ≡ false))

-- is the lowest, also by a test that gives the same for these records
pub found_is : {test other : ℕ → Bool} (n : ℕ) (r : Option ℕ)
    → ((i : ℕ) → 1 ≤ i → i < n + 1 → other i ≡ test i) → Found test n r → r ≡ named (lowest other 1 n)
found_is {test} {other} n None same none =
    ap named (sym (no_hit other 1 n (λ i a b. same i a (omega arith) ∙ none i a (omega arith))))
found_is {test} {other} n (Some x) same found =
    names_it (λ z. omega (arith, found.0))
    (sym (first_hit other x 1 n found.0 (omega (arith, found.1)) (same x found.0 found.1 ∙ found.2)
    (λ i a b. same i a (omega (arith, found.1)) ∙ found.3 i a b)))
