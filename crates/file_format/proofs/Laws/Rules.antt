-- What a header and a record that keep their rules have.
use Prim.Native.Nat.{ℕ, zero, suc, ◌+◌, ◌^◌, ◌≤◌, ◌<◌}
use mathlib.Core.Path.{◌≡◌, refl, ap, ap₂, ◌∙◌}
use mathlib.Core.List.{List, [], ◌∷◌}
use mathlib.Core.Bool.{Bool, true, not, cond}
use lib.Dec.{ltb, leb, eqb}
use lib.ListN.{length, get_or}
use native.Mathlib.Omega.{arith}
use borrow.Author.Tests.{ltb-true, leb-true, le-ltb, not-false}
use Rattle.laws.proofs.Bools.{cond_by}
use Rattle.laws.proofs.Lists.{get_d_within}
use Rattle.laws.proofs.Numbers.{below_four}
use Rattle.file_format.specs.Fields.{lane_count, locations, locks, mask, record_count, head}
use Rattle.file_format.specs.Fields.{operation, register_a, operand_b, reserved, constant, target, next}
use Rattle.file_format.specs.Rules.{head_rule, header_tests, header_rule, record_tests, record_rule, bad_record}
use Rattle.file_format.specs.Rules.{row_a, row_b, row_constant, row_target, limit_a, limit_b, limit_constant}
use Rattle.file_format.specs.Rules.{limit_target, Limits}
use Rattle.file_format.specs.Search.{all}
use Rattle.file_format.proofs.Laws.Search.{all_at, nothing_found}

module _ (s : List ℕ) (ok : header_rule s ≡ true) where
  pub some_lanes : 1 ≤ lane_count s
  unfolding header_rule
  some_lanes = leb-true _ _ (all_at (header_tests s) 0 ok)

  pub four_lanes_lem : lane_count s ≤ 4
  unfolding header_rule
  four_lanes_lem = leb-true _ _ (all_at (header_tests s) 1 ok)

  pub some_locations : 1 ≤ locations s
  unfolding header_rule
  some_locations = leb-true _ _ (all_at (header_tests s) 2 ok)

  pub few_locations : locations s ≤ 16
  unfolding header_rule
  few_locations = leb-true _ _ (all_at (header_tests s) 3 ok)

  pub few_locks : locks s ≤ 4
  unfolding header_rule
  few_locks = leb-true _ _ (all_at (header_tests s) 4 ok)

  pub small_mask : mask s < 2 ^ locations s
  unfolding header_rule
  small_mask = ltb-true _ _ (all_at (header_tests s) 6 ok)

  pub few_records : record_count s ≤ 256
  unfolding header_rule
  few_records = leb-true _ _ (all_at (header_tests s) 7 ok)

  head_tested : (t : ℕ) → t < 4 → head_rule s t ≡ true
  unfolding header_rule
  head_tested =
      below_four (λ t. head_rule s t ≡ true) (all_at (header_tests s) 8 ok) (all_at (header_tests s) 9 ok)
      (all_at (header_tests s) 10 ok) (all_at (header_tests s) 11 ok)

  head_limit : (t : ℕ) → t < 4 → head s t ≤ cond (ltb t (lane_count s)) (record_count s) 0
  unfolding head_rule
  head_limit t h = leb-true _ _ (head_tested t h)

  -- the head of each lane is one of the file's records, or 0
  pub head_range : (t : ℕ) → t < 4 → head s t ≤ record_count s
  head_range t h =
      let most = cond_by (λ n. n ≤ record_count s) (ltb t (lane_count s)) (record_count s) 0 (λ e. omega arith)
      (λ e. omega arith) in
      omega (arith, head_limit t h)

  -- lanes from T up are empty
  pub head_none : (t : ℕ) → t < 4 → lane_count s ≤ t → head s t ≡ 0
  head_none t h past =
      let limit : head s t ≤ 0 = rw (le-ltb t (lane_count s) past) at (head_limit t h) in
      omega arith

target_limit : (n op : ℕ) → limit_target n op ≤ n + 1
unfolding limit_target
target_limit n zero = omega arith
target_limit n (suc zero) = omega arith
target_limit n (suc (suc zero)) = omega arith
target_limit n (suc (suc (suc zero))) = omega arith
target_limit n (suc (suc (suc (suc zero)))) = omega arith
target_limit n (suc (suc (suc (suc (suc zero))))) = omega arith
target_limit n (suc (suc (suc (suc (suc (suc zero)))))) = omega arith
target_limit n (suc (suc (suc (suc (suc (suc (suc zero))))))) = omega arith
target_limit n (suc (suc (suc (suc (suc (suc (suc (suc op)))))))) = omega arith

module _ (s : List ℕ) (ok : bad_record s ≡ 0) (i : ℕ) (lo : 1 ≤ i) (hi : i ≤ record_count s) where
  -- the rule of each record holds
  pub record_rule_lem : record_rule s i ≡ true
  unfolding bad_record
  record_rule_lem =
      not-false (record_rule s i)
      (nothing_found (λ j. not (record_rule s j)) 1 (record_count s) i (omega arith) ok lo (omega arith))

  pub next_small : next s i ≤ record_count s
  unfolding record_rule
  next_small = leb-true _ _ (all_at (record_tests s i) 5 record_rule_lem)

  -- a target is one of the file's records, or 0
  pub target_small : target s i ≤ record_count s
  unfolding record_rule
  target_small =
      let below : target s i < limit_target (record_count s) (operation s i) =
      ltb-true _ _ (all_at (record_tests s i) 4 record_rule_lem) in
      omega (arith, target_limit (record_count s) (operation s i))

-- ## the limits of an operation

module _ {s : List ℕ} {n : ℕ} {a b constant target : List ℕ} (l : Limits s n a b constant target) where
  -- there are eight rows
  pub rows_eight : (length a ≡ 8) × (length b ≡ 8) × (length constant ≡ 8) × (length target ≡ 8)
  rows_eight = (ap length l.a_row, ap length l.b_row, ap length l.constant_row, ap length l.target_row)

  module _ {r : ℕ} (op : ℕ) (e : r ≡ cond (ltb op 8) op 0) where
    pub limit_a_lem : get_or a r 0 ≡ limit_a op
    unfolding limit_a
    limit_a_lem = ap₂ (λ x y. get_or x y 0) l.a_row e ∙ get_d_within row_a 8 refl refl op

    pub limit_b_lem : get_or b r 0 ≡ limit_b (locations s) (locks s) op
    unfolding limit_b
    limit_b_lem = ap₂ (λ x y. get_or x y 0) l.b_row e ∙ get_d_within (row_b (locations s) (locks s)) 8 refl refl op

    pub limit_constant_lem : get_or constant r 0 ≡ limit_constant op
    unfolding limit_constant
    limit_constant_lem = ap₂ (λ x y. get_or x y 0) l.constant_row e ∙ get_d_within row_constant 8 refl refl op

    pub limit_target_lem : get_or target r 0 ≡ limit_target (record_count s) op
    unfolding limit_target
    limit_target_lem =
        ap₂ (λ x y. get_or x y 0) l.target_row e ∙ get_d_within (row_target (record_count s)) 8 refl refl op

    -- what a record's fields are held to
    pub limits_at : (get_or a r 0 ≡ limit_a op) × (get_or b r 0 ≡ limit_b (locations s) (locks s) op)
        × (get_or constant r 0 ≡ limit_constant op) × (get_or target r 0 ≡ limit_target (record_count s) op)
    limits_at = (limit_a_lem, limit_b_lem, limit_constant_lem, limit_target_lem)

-- the six tests of a record together
pub rule_by : (s : List ℕ) (i : ℕ) {t₁ t₂ t₃ t₄ t₅ t₆ : Bool}
    → t₁ ≡ ltb (register_a s i) (limit_a (operation s i))
    → t₂ ≡ ltb (operand_b s i) (limit_b (locations s) (locks s) (operation s i))
    → t₃ ≡ eqb (reserved s i) 0
    → t₄ ≡ ltb (constant s i) (limit_constant (operation s i))
    → t₅ ≡ ltb (target s i) (limit_target (record_count s) (operation s i))
    → t₆ ≡ leb (next s i) (record_count s)
    → all (t₁ ∷ t₂ ∷ t₃ ∷ t₄ ∷ t₅ ∷ t₆ ∷ []) ≡ record_rule s i
unfolding record_rule
rule_by s i e₁ e₂ e₃ e₄ e₅ e₆ = λ j. all (e₁ j ∷ e₂ j ∷ e₃ j ∷ e₄ j ∷ e₅ j ∷ e₆ j ∷ [])
