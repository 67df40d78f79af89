-- The records of a file in the order of its lanes, and each record's place in that order.
use Rattle.std.specs.Prelude.{ℕ, ◌+◌, ◌-◌, ◌≤◌, ◌<◌, ◌≡◌, cond, List, ◌∷◌, eqb, length, get_or, take, drop}
use Rattle.file_format.specs.Fields.{record_count, head}
use Rattle.file_format.specs.Linkage.{chain}

-- where lane t begins in the order; `ends` has of each lane where it ends
abbrev pub begin_of : List ℕ → ℕ → ℕ
begin_of ends t = get_or (0 ∷ ends) t 0

-- how many records lane t has
abbrev pub count_of : List ℕ → ℕ → ℕ
count_of ends t = get_or ends t 0 - begin_of ends t

-- the records of lane t
abbrev pub records_in : List ℕ → List ℕ → ℕ → List ℕ
records_in order ends t = take (count_of ends t) (drop (begin_of ends t) order)

-- The lanes' chains stand in the order one behind the other. Each of the file's records stands in it once, and its
-- place is one more than its index there.
pub record Ordered (s order place ends : List ℕ) : Type 0 where
  pub order_room : record_count s ≤ length order
  pub place_room : record_count s < length place
  pub four : length ends ≡ 4
  pub rising : (t : ℕ) → t < 4 → begin_of ends t ≤ get_or ends t 0
  pub all : get_or ends 3 0 ≡ record_count s
  pub lanes : (t : ℕ) → t < 4 → records_in order ends t ≡ chain s 257 (head s t)
  pub named : (j : ℕ) → j < record_count s → (1 ≤ get_or order j 0) × (get_or order j 0 ≤ record_count s)
  pub placed : (j : ℕ) → j < record_count s → get_or place (get_or order j 0) 0 ≡ j + 1
  pub every : (i : ℕ) → 1 ≤ i → i ≤ record_count s
      → (1 ≤ get_or place i 0) × (get_or place i 0 ≤ record_count s) × (get_or order (get_or place i 0 - 1) 0 ≡ i)

-- the position in a lane of n records, which begins at `begin`, to which target x leads: the end for zero
abbrev pub landing_in : List ℕ → ℕ → ℕ → ℕ → ℕ
landing_in place begin n x = cond (eqb x 0) n (get_or place x 0 - 1 - begin)
