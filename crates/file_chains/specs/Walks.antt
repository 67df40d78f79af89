-- The order of the records while the lanes are walked.
use Rattle.std.specs.Prelude.{ℕ, zero, suc, ◌+◌, ◌-◌, ◌≤◌, ◌<◌, ◌≡◌, Bool, false, not, cond, List, [], ◌++◌, map, eqb}
use Rattle.std.specs.Prelude.{length, get_or, take, replicate}
use Rattle.file_format.specs.Fields.{record_count, head}
use Rattle.file_format.specs.Linkage.{chain, walked, walk_of}

-- the places of 257 records, 0 for those that the array has no room for
abbrev pub padded : List ℕ → List ℕ
padded place = take 257 (place ++ replicate 257 0)

-- the flags of a walk: the records that have a place
abbrev pub given : ℕ → Bool
given x = not (eqb x 0)

unfoldable pub met : List ℕ → List Bool
met place = map given (padded place)

abbrev pub bit : Bool → ℕ
bit b = cond b 1 0

-- how many of the k flags from flag i on are up
unfoldable pub tally : List Bool → ℕ → ℕ → ℕ
tally flags i zero = 0
tally flags i (suc k) = bit (get_or flags i false) + tally flags (suc i) k

-- the chains of the first t lanes one behind the other
unfoldable pub fronts : List ℕ → ℕ → List ℕ
fronts s zero = []
fronts s (suc t) = fronts s t ++ chain s 257 (head s t)

-- The order has n records, each once, and these are the records that have a place.
pub record Filling (s order place : List ℕ) (n : ℕ) : Type 0 where
  pub order_room : record_count s ≤ length order
  pub place_room : record_count s < length place
  pub counted : tally (met place) 1 (record_count s) ≡ n
  pub named : (j : ℕ) → j < n → (1 ≤ get_or order j 0) × (get_or order j 0 ≤ record_count s)
  pub placed : (j : ℕ) → j < n → get_or place (get_or order j 0) 0 ≡ j + 1
  pub every : (i : ℕ) → 1 ≤ get_or place i 0 → (get_or place i 0 ≤ n) × (get_or order (get_or place i 0 - 1) 0 ≡ i)

-- The chain of record h was walked, with k records in the order before it and n after it.
pub record LaneWalked (s : List ℕ) (h k : ℕ) (order place : List ℕ) (twice n : ℕ) (order' place' : List ℕ)
    : Type 0 where
  pub flags : walked (met place') twice ≡ walk_of (met place) (chain s 257 h)
  pub filling : Filling s order' place' n
  pub behind : twice ≡ 0 → take n order' ≡ take k order ++ chain s 257 h
