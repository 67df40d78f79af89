-- Pending lists: a lane's stores and releases that are not yet in memory, oldest first.
use Rattle.std.specs.Prelude.{Bool, true, false, ◌||◌, cond, List, [], ◌∷◌, ◌++◌, ℕ, suc, eqb, take, drop}
use Rattle.std.proofs.Math.Option.{Option, none, some}

-- a value on its way to a location, or a lock on its way to be free
pub data Entry : Type 0 where
  write : (x v : ℕ) → Entry
  release : (l : ℕ) → Entry

-- the entry of a volatile store or of an UNLOCK
abbrev pub is_sync : (ℕ → Bool) → Entry → Bool
is_sync vol (write x v) = vol x
is_sync vol (release l) = true

abbrev pub any_sync : (ℕ → Bool) → List Entry → Bool
any_sync vol [] = false
any_sync vol (e ∷ es) = is_sync vol e || any_sync vol es

abbrev pub is_nil : List Entry → Bool
is_nil [] = true
is_nil (e ∷ es) = false

-- both are for the same location, or for the same lock
abbrev pub same_target : Entry → Entry → Bool
same_target (write x v) (write y u) = eqb y x
same_target (write x v) (release l) = false
same_target (release l) (write y u) = false
same_target (release l) (release k) = eqb k l

abbrev pub any_same : Entry → List Entry → Bool
any_same e [] = false
any_same e (x ∷ es) = same_target e x || any_same e es

-- the newest pending value for location x, else m
abbrev pub newest : ℕ → ℕ → List Entry → ℕ
newest x m [] = m
newest x m (write y v ∷ es) = newest x (cond (eqb y x) v m) es
newest x m (release l ∷ es) = newest x m es

-- with one entry more, where there is one: STORE and UNLOCK append
abbrev pub append_entry : List Entry → Option Entry → List Entry
append_entry es none = es
append_entry es (some e) = es ++ (e ∷ [])

-- without the entry that has i older ones
abbrev pub without : ℕ → List Entry → List Entry
without i es = take i es ++ drop (suc i) es
