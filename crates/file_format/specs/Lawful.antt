-- What holds of every accepted kernel: the one record that the layers above use.
use Rattle.std.specs.Prelude.{ℕ, ◌≤◌, ◌<◌, ◌^◌, ◌≡◌, List, [], true, false, get_or, length}
use Rattle.std.proofs.Math.Option.{some}
use Rattle.std.proofs.Math.ListN.{get_elem?}
use Rattle.file_format.specs.declared.accepted.Op.{Op}
use Rattle.file_format.specs.declared.accepted.Op.TheVariants.{Set, Add, Load, Store, Lock, Unlock, Skip}
use Rattle.file_format.specs.Accepted.{Program}
use Rattle.file_format.specs.Held.{no_locks, same, held}

-- what the fields of an operation at position p of a lane of n operations stay below; a SKIP goes on, at most to the
-- end
abbrev pub Bounded : ℕ → ℕ → ℕ → ℕ → Op → Type 0
Bounded ls ks n p (Set a c) = (a < 8) × (c < 2 ^ 32)
Bounded ls ks n p (Add a b) = (a < 8) × (b < 8)
Bounded ls ks n p (Load a b) = (a < 8) × (b < ls)
Bounded ls ks n p (Store a b) = (a < 8) × (b < ls)
Bounded ls ks n p (Lock b) = b < ks
Bounded ls ks n p (Unlock b) = b < ks
Bounded ls ks n p (Skip a q) = (a < 8) × (p < q) × (q ≤ n)

-- the held-set discipline at position p: a LOCK finds its lock free, an UNLOCK held, and a SKIP leads to the same set
abbrev pub Keeps : List Op → ℕ → Op → Type 0
Keeps ops p (Set a c) = Unit {0}
Keeps ops p (Add a b) = Unit {0}
Keeps ops p (Load a b) = Unit {0}
Keeps ops p (Store a b) = Unit {0}
Keeps ops p (Lock b) = get_or (held ops p) b false ≡ false
Keeps ops p (Unlock b) = get_or (held ops p) b false ≡ true
Keeps ops p (Skip a q) = same (held ops p) (held ops q) ≡ true

-- a lane, with ls locations and ks locks
pub record LawfulLane (ls ks : ℕ) (ops : List Op) : Type 0 where
  pub short : length ops ≤ 64
  pub bounded : (p : ℕ) (o : Op) → get_elem? ops p ≡ some o → Bounded ls ks (length ops) p o
  pub disciplined : (p : ℕ) (o : Op) → get_elem? ops p ≡ some o → Keeps ops p o
  pub released : same (held ops (length ops)) no_locks ≡ true
  -- a LOCK finds each lock of the held set below its own
  pub rising : (p b l : ℕ) → get_elem? ops p ≡ some (Lock b) → get_or (held ops p) l false ≡ true → l < b

pub record Lawful (k : Program) : Type 0 where
  pub some_lanes : 1 ≤ length k.lanes
  pub few_lanes : length k.lanes ≤ 4
  pub some_locations : 1 ≤ k.locations
  pub few_locations : k.locations ≤ 16
  pub few_locks : k.locks ≤ 4
  pub small_mask : k.mask < 2 ^ k.locations
  pub same_lanes : length k.records ≡ length k.lanes
  pub same_length : (t : ℕ) → length (get_or k.records t []) ≡ length (get_or k.lanes t [])
  pub records_small : (t p : ℕ) → get_or (get_or k.records t []) p 0 ≤ 256
  pub lane : (t : ℕ) → LawfulLane k.locations k.locks (get_or k.lanes t [])
