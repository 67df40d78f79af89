-- Laws of names: the store-load barrier by its code.
use Prim.Native.Nat.{ℕ, ◌≤◌, ◌<◌}
use mathlib.Core.Path.{◌≡◌, refl, subst}
use mathlib.Core.Logic.{⊎_elim}
use mathlib.Core.Bool.{Bool, true, false}
use native.Mathlib.Omega.{arith}
use borrow.Author.Tests.{ne_eqb}
use Rattle.laws.proofs.Numbers.{lt_or_le}
use Rattle.sheet_format.specs.Layout.{Instr}
use Rattle.sheet_format.specs.Read.{instr_by}
use Rattle.sheet_format.proofs.Laws.Codes.{by_code, other_code}
use Rattle.text_run.specs.Names.{is_store_load}

module _ (o a b c : ℕ) where
  abbrev Is : Bool → Instr → Type 0
  Is u i = u ≡ is_store_load i

  at : (n : ℕ) {u : Bool} → o ≡ n → Is u (instr_by n a b c) → Is u (instr_by o a b c)
  at n {u} e = subst (Is u) (by_code n a b c e)

  -- an operation
  pub no_barrier : 1 ≤ o → o < 8 → false ≡ is_store_load (instr_by o a b c)
  no_barrier p q =
      ⊎_elim
      (λ l. ⊎_elim (λ u. at 1 (omega arith) refl)
      (λ g. ⊎_elim (λ l. at 2 (omega arith) refl)
      (λ h. ⊎_elim (λ l. at 3 (omega arith) refl) (λ k. at 4 (omega arith) refl) (lt_or_le o 4))
      (lt_or_le o 3)) (lt_or_le o 2))
      (λ g. ⊎_elim (λ l. at 5 (omega arith) refl)
      (λ h. ⊎_elim (λ l. at 6 (omega arith) refl) (λ k. at 7 (omega arith) refl) (lt_or_le o 7)) (lt_or_le o 6))
      (lt_or_le o 5)

  -- another barrier
  pub other_barrier : 11 ≤ o → o < 14 → false ≡ is_store_load (instr_by o a b c)
  other_barrier p q =
      ⊎_elim (λ l. at 11 (omega arith) refl)
      (λ g. ⊎_elim (λ l. at 12 (omega arith) refl) (λ h. at 13 (omega arith) refl) (lt_or_le o 13))
      (lt_or_le o 12)

  -- it
  pub store_load : (1 ≤ o → o < 8 → ⊥) → (11 ≤ o → o < 14 → ⊥) → true ≡ is_store_load (instr_by o a b c)
  store_load h n =
      let no : (n : ℕ) → 1 ≤ n → n < 8 → o ≡ n → ⊥ = λ n p q e. h (omega arith) (omega arith) in
      subst (Is true)
      (other_code o a b c (no 1 (omega arith) (omega arith)) (no 2 (omega arith) (omega arith))
      (no 3 (omega arith) (omega arith)) (no 4 (omega arith) (omega arith)) (no 5 (omega arith) (omega arith))
      (no 6 (omega arith) (omega arith)) (no 7 (omega arith) (omega arith)))
      (rw (
        ne_eqb o 11 (λ e. n (omega arith) (omega arith)),
        ne_eqb o 12 (λ e. n (omega arith) (omega arith)),
        ne_eqb o 13 (λ e. n (omega arith) (omega arith)),
      ) refl)
