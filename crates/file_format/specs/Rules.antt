-- The rules of a header and of a record (refusals 2 and 4).
use Rattle.std.specs.Prelude.{ℕ, ◌+◌, ◌^◌, ◌≡◌, List, [], ◌∷◌, Bool, not, cond, get_or, ltb, leb, eqb}
use Rattle.file_format.specs.Fields.{byte, lane_count, locations, locks, mask, record_count, head}
use Rattle.file_format.specs.Fields.{operation, register_a, operand_b, reserved, constant, target, next}
use Rattle.file_format.specs.Search.{lowest, all}

-- a head is at most the record count, and zero for lanes from T up
unfoldable pub head_rule : List ℕ → ℕ → Bool
head_rule s t = leb (head s t) (cond (ltb t (lane_count s)) (record_count s) 0)

abbrev pub header_tests : List ℕ → List Bool
header_tests s =
    leb 1 (lane_count s) ∷ leb (lane_count s) 4
    ∷ leb 1 (locations s) ∷ leb (locations s) 16
    ∷ leb (locks s) 4
    ∷ eqb (byte s 3) 0
    ∷ ltb (mask s) (2 ^ locations s)
    ∷ leb (record_count s) 256
    ∷ head_rule s 0 ∷ head_rule s 1 ∷ head_rule s 2 ∷ head_rule s 3
    ∷ []

unfoldable pub header_rule : List ℕ → Bool
header_rule s = all (header_tests s)

-- What each field of a record stays below, in the row of its operation: SET, ADD, LOAD, STORE, LOCK, UNLOCK, SKIP.
-- An unused field stays below 1. Operation 0 and those from 8 up have limit 0, so no record meets them.
abbrev pub row_a : List ℕ
row_a = 0 ∷ 8 ∷ 8 ∷ 8 ∷ 8 ∷ 1 ∷ 1 ∷ 8 ∷ []

abbrev pub row_b : ℕ → ℕ → List ℕ
row_b ls ks = 0 ∷ 1 ∷ 8 ∷ ls ∷ ls ∷ ks ∷ ks ∷ 1 ∷ []

abbrev pub row_constant : List ℕ
row_constant = 0 ∷ 2 ^ 32 ∷ 1 ∷ 1 ∷ 1 ∷ 1 ∷ 1 ∷ 1 ∷ []

abbrev pub row_target : ℕ → List ℕ
row_target n = 0 ∷ 1 ∷ 1 ∷ 1 ∷ 1 ∷ 1 ∷ 1 ∷ (n + 1) ∷ []

unfoldable pub limit_a : ℕ → ℕ
limit_a op = get_or row_a op 0

unfoldable pub limit_b : ℕ → ℕ → ℕ → ℕ
limit_b ls ks op = get_or (row_b ls ks) op 0

unfoldable pub limit_constant : ℕ → ℕ
limit_constant op = get_or row_constant op 0

unfoldable pub limit_target : ℕ → ℕ → ℕ
limit_target n op = get_or (row_target n) op 0

-- what the rule of a file's records goes by: their count, and the rows of limits
pub record Limits (s : List ℕ) (n : ℕ) (a b constant target : List ℕ) : Type 0 where
  pub counted : n ≡ record_count s
  pub a_row : a ≡ row_a
  pub b_row : b ≡ row_b (locations s) (locks s)
  pub constant_row : constant ≡ row_constant
  pub target_row : target ≡ row_target (record_count s)

abbrev pub record_tests : List ℕ → ℕ → List Bool
record_tests s i =
    ltb (register_a s i) (limit_a (operation s i))
    ∷ ltb (operand_b s i) (limit_b (locations s) (locks s) (operation s i))
    ∷ eqb (reserved s i) 0
    ∷ ltb (constant s i) (limit_constant (operation s i))
    ∷ ltb (target s i) (limit_target (record_count s) (operation s i))
    ∷ leb (next s i) (record_count s)
    ∷ []

unfoldable pub record_rule : List ℕ → ℕ → Bool
record_rule s i = all (record_tests s i)

-- the lowest record that breaks its rule, or 0
unfoldable pub bad_record : List ℕ → ℕ
bad_record s = lowest (λ i. not (record_rule s i)) 1 (record_count s)
