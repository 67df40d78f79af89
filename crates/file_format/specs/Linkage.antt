-- Chains of records, and whether each record belongs to one lane of at most 64 (refusals 5 and 6).
use Rattle.std.specs.Prelude.{ℕ, zero, suc, List, [], ◌∷◌, Bool, true, false, not, get_or, set, replicate, eqb}
use Rattle.file_format.specs.Fields.{record_count, head, next}
use Rattle.file_format.specs.Search.{lowest, first_of}

-- the records met from record r on by next, at most k of them
unfoldable pub chain : List ℕ → ℕ → ℕ → List ℕ
chain s zero r = []
chain s (suc k) r = elim (eqb r 0) [ true ↦ [] | false ↦ r ∷ chain s k (next s r) ]

-- the flags after a walk, one for each record met, and the record that was met a second time, or 0
pub record Walked : Type 0 where
  pub met : List Bool
  pub twice : ℕ

abbrev pub walked : List Bool → ℕ → Walked
walked met twice = record { met = met; twice = twice }

-- walking along these records: each puts its flag up, until one is met whose flag is up already
unfoldable pub walk_of : List Bool → List ℕ → Walked
walk_of met [] = walked met 0
walk_of met (r ∷ rs) =
    elim (get_or met r false) [
      | true ↦ walked met r
      | false ↦ walk_of (set met r true) rs
    ]

-- Lane t walked. A chain that never ends has, within its first 257 records, one that it met before, since there are at
-- most 256 records (law `Walk-Ends`).
abbrev pub walk_lane : List ℕ → List Bool → ℕ → Walked
walk_lane s met t = walk_of met (chain s 257 (head s t))

-- walking the k lanes from lane t on in order, the record met twice first; else the lowest left over; else 0
unfoldable pub linkage_from : List ℕ → List Bool → ℕ → ℕ → ℕ
linkage_from s met t zero = lowest (λ i. not (get_or met i false)) 1 (record_count s)
linkage_from s met t (suc k) =
    elim (eqb (walk_lane s met t).twice 0) [
      | true ↦ linkage_from s (walk_lane s met t).met (suc t) k
      | false ↦ (walk_lane s met t).twice
    ]

unfoldable pub bad_linkage : List ℕ → ℕ
bad_linkage s = linkage_from s (replicate 257 false) 0 4

-- the 65th record of the first lane that has one, or 0
unfoldable pub chain_too_long : List ℕ → ℕ
chain_too_long s = first_of (λ t. get_or (chain s 65 (head s t)) 64 0) 0 4
