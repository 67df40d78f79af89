-- The row of an operation is made of its record's own bytes: law `record_row_lem`.
use Prim.Native.Nat.{ℕ, zero, suc, ◌+◌, ◌*◌, ◌/◌, ◌%◌, ◌<◌}
use mathlib.Core.Path.{◌≡◌, refl, sym, ap, ap₂, subst, ◌∙◌}
use mathlib.Core.Bool.{true, cond}
use mathlib.Core.List.{List, [], ◌∷◌}
use native.Mathlib.Omega.{arith}
use borrow.Author.Tests.{ltb-true, eqb-true, eq-eqb, ne_eqb}
use lib.Dec.{eqb}
use lib.ListN.{set}
use lib.Seq.{sets}
use Rattle.laws.proofs.Bytes.{fifth_stored}
use Rattle.file_format.specs.Fields.{byte, start, locations, locks, operation, register_a, operand_b, reserved}
use Rattle.file_format.specs.Fields.{constant}
use Rattle.file_format.specs.Fields.{target}
use Rattle.file_format.specs.Rules.{record_tests, record_rule, limit_a, limit_b, limit_constant}
use Rattle.file_format.specs.Accepted.{op_by, op_of}
use Rattle.file_format.specs.Targets.{position}
use Rattle.file_format.proofs.Laws.Search.{all_at}
use Rattle.sheet_format.specs.Bytes.{row, op_bytes}
use Rattle.sheet_rows.proofs.Laws.Read.{quad_of}
use Rattle.sheet_rows.specs.Eight.{eight_in}
use Rattle.file_rows.specs.Records.{record_row}

-- a record's constant, of four bytes
module _
    (a b z c d e f : ℕ) (hz : z ≡ 0) (hc : c < 256) (hd : d < 256) (he : e < 256) (hf : f < 256)
  where
    abbrev number : ℕ
    number = c + 256 * d + 65536 * (e + 256 * f)

    abbrev eight : ℕ → ℕ → List ℕ
    eight o x = o ∷ a ∷ b ∷ z ∷ x ∷ d ∷ e ∷ f ∷ []

    -- a row without a constant
    plain : (o : ℕ) {a' : ℕ} → a' ≡ a → number < 1 → row o a' b 0 ≡ eight o c
    plain o ea h =
        let ez : 0 ≡ z = omega arith in
        let ec : 0 ≡ c = omega arith in
        let ed : 0 ≡ d = omega arith in
        let ee : 0 ≡ e = omega arith in
        let ef : 0 ≡ f = omega arith in
        λ i. o ∷ ea i ∷ b ∷ ez i ∷ ec i ∷ ed i ∷ ee i ∷ ef i ∷ []

    with_constant : b < 1 → row 1 a 0 number ≡ eight 1 c
    with_constant h =
        let eb : 0 ≡ b = omega arith in
        let ez : 0 ≡ z = omega arith in
        let above : number / 256 ≡ d + 256 * (e + 256 * f) = omega arith in
        let upper : number / 65536 ≡ e + 256 * f = omega arith in
        let ec : number % 256 ≡ c = omega arith in
        let ed : number / 256 % 256 ≡ d = ap (λ x. x % 256) above ∙ omega arith in
        let ee : number / 65536 % 256 ≡ e = ap (λ x. x % 256) upper ∙ omega arith in
        let top : (e + 256 * f) / 256 ≡ f = omega arith in
        let ef : number / 65536 / 256 % 256 ≡ f = ap (λ x. x / 256 % 256) upper ∙ ap (λ x. x % 256) top ∙ omega arith in
        λ i. 1 ∷ a ∷ eb i ∷ ez i ∷ ec i ∷ ed i ∷ ee i ∷ ef i ∷ []

    aimed : (q : ℕ) → q < 256 → b < 1 → number < 1 → row 7 a 0 q ≡ eight 7 q
    aimed q hq hb h =
        let eb : 0 ≡ b = omega arith in
        let ez : 0 ≡ z = omega arith in
        let ec : q % 256 ≡ q = omega arith in
        let ed : q / 256 % 256 ≡ d = omega arith in
        let ee : q / 65536 % 256 ≡ e = omega arith in
        let ef : q / 65536 / 256 % 256 ≡ f = omega arith in
        λ i. 7 ∷ a ∷ eb i ∷ ez i ∷ ec i ∷ ed i ∷ ee i ∷ ef i ∷ []

    -- the limits of an operation's fields leave the others 0
    row_by : (ls ks o q : ℕ) → a < limit_a o → b < limit_b ls ks o → number < limit_constant o → q < 256
        → op_bytes (op_by o a b number q) ≡ eight o (cond (eqb o 7) q c)
    unfolding limit_a limit_b limit_constant
    row_by ls ks zero q ha hb hn hq = absurd (omega arith)
    row_by ls ks (suc zero) q ha hb hn hq = with_constant hb
    row_by ls ks (suc (suc zero)) q ha hb hn hq = plain 2 refl hn
    row_by ls ks (suc (suc (suc zero))) q ha hb hn hq = plain 3 refl hn
    row_by ls ks (suc (suc (suc (suc zero)))) q ha hb hn hq = plain 4 refl hn
    row_by ls ks (suc (suc (suc (suc (suc zero))))) q ha hb hn hq =
        let none : 0 ≡ a = omega arith in
        plain 5 none hn
    row_by ls ks (suc (suc (suc (suc (suc (suc zero)))))) q ha hb hn hq =
        let none : 0 ≡ a = omega arith in
        plain 6 none hn
    row_by ls ks (suc (suc (suc (suc (suc (suc (suc zero))))))) q ha hb hn hq = aimed q hq hb hn
    row_by ls ks (suc (suc (suc (suc (suc (suc (suc (suc o)))))))) q ha hb hn hq = absurd (omega arith)

module _ (s : List ℕ) (small : (i : ℕ) → byte s i < 256) (r : ℕ) (holds : record_rule s r ≡ true) where
  pub record_row_lem : (p : ℕ) (rest : List ℕ) {q : ℕ} → p + 1 + position (target s r) rest ≡ q → q < 256
      → op_bytes (op_of s p rest r) ≡ record_row s r q
  unfolding record_rule op_of
  record_row_lem p rest {q} e hq =
      let at = start r in
      let number_is = quad_of s at refl refl refl refl in
      let low : constant s r < limit_constant (operation s r) = ltb-true _ _ (all_at (record_tests s r) 3 holds) in
      ap₂ (λ n x. op_bytes (op_by (operation s r) (register_a s r) (operand_b s r) n x)) (sym number_is) e
      ∙ row_by (register_a s r) (operand_b s r) (reserved s r) (byte s (at + 4)) (byte s (at + 5)) (byte s (at + 6))
      (byte s (at + 7)) (eqb-true _ _ (all_at (record_tests s r) 2 holds)) (small (at + 4)) (small (at + 5))
      (small (at + 6)) (small (at + 7)) (locations s) (locks s) (operation s r) q
      (ltb-true _ _ (all_at (record_tests s r) 0 holds)) (ltb-true _ _ (all_at (record_tests s r) 1 holds))
      (subst (λ n. n < limit_constant (operation s r)) (sym number_is) low) hq

-- a record's first eight bytes in place: its row, if its code is not 7, and with the position written anew, if it is
module _ (s l : List ℕ) (r at : ℕ) {m : List ℕ} (copied : m ≡ sets l at (eight_in s (start r))) where
  abbrev row_with : ℕ → List ℕ
  row_with v =
      operation s r ∷ register_a s r ∷ operand_b s r ∷ reserved s r ∷ v
      ∷ byte s (start r + 5) ∷ byte s (start r + 6) ∷ byte s (start r + 7)
      ∷ []

  pub record_other : (q : ℕ) → ¬ operation s r ≡ 7 → m ≡ sets l at (record_row s r q)
  record_other q h =
      copied
      ∙ ap (λ b. sets l at (row_with (cond b q (byte s (start r + 4))))) (sym (ne_eqb (operation s r) 7 h))

  pub record_skip : {v q : ℕ} → operation s r ≡ 7 → v ≡ q → set m (at + 4) v ≡ sets l at (record_row s r q)
  record_skip {v} {q} h e =
      ap (λ k. set k (at + 4) v) copied
      ∙ fifth_stored l at _ _ _ _ _ _ _ _ v
      ∙ ap (λ x. sets l at (row_with x)) e
      ∙ ap (λ b. sets l at (row_with (cond b q (byte s (start r + 4))))) (sym (eq-eqb (operation s r) 7 h))
