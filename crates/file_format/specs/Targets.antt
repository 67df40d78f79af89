-- Where a SKIP leads (refusal 7).
use Rattle.std.specs.Prelude.{ℕ, suc, List, [], ◌∷◌, Bool, true, false, not, cond, eqb}
use Rattle.file_format.specs.Fields.{record_count, target, next}
use Rattle.file_format.specs.Search.{lowest}
use Rattle.file_format.specs.Linkage.{chain}

unfoldable pub member : ℕ → List ℕ → Bool
member x [] = false
member x (y ∷ ys) = elim (eqb x y) [ true ↦ true | false ↦ member x ys ]

-- the target of record i is neither zero, the end, nor among the records that follow i
unfoldable pub unreachable_target : List ℕ → ℕ → Bool
unreachable_target s i = cond (eqb (target s i) 0) false (not (member (target s i) (chain s 64 (next s i))))

-- the lowest SKIP with such a target, or 0
unfoldable pub bad_target : List ℕ → ℕ
bad_target s = lowest (unreachable_target s) 1 (record_count s)

-- the position of a record in a chain; of 0, which no chain has, the chain's length
unfoldable pub position : ℕ → List ℕ → ℕ
position r [] = 0
position r (x ∷ xs) = elim (eqb r x) [ true ↦ 0 | false ↦ suc (position r xs) ]
