-- A lane as the check of its locks reads it, and what it finds there.
use Rattle.std.specs.Prelude.{ℕ, ◌≤◌, ◌<◌, ◌≡◌, List, length, get_or, cond, Option, Some, None, MatchOption}
use Rattle.std.specs.Prelude.{Result, MatchResult}
use Rattle.std.proofs.Math.Option.{some}
use Rattle.file_format.specs.declared.accepted.Op.{Op}
use Rattle.file_format.specs.Held.{fault_position, record_at}
use Rattle.file_format.specs.Rising.{descent_position}
use Rattle.file_format.specs.Stored.{no_op}
use Rattle.sheet_rows.specs.Lanes.{fields_of, Holds}
use Rattle.file_locks.specs.Sets.{no_jump, jump_or, descends_at}

-- every operation leads on
abbrev pub Onward : List Op → Type 0
Onward ops = (p : ℕ) → p < length ops → p < jump_or no_jump (some (get_or ops p no_op))

-- a LOCK and an UNLOCK name one of the four locks
abbrev pub Named : Op → Type 0
Named o = 5 ≤ (fields_of o).code → (fields_of o).b < 4

-- the buffer begins with the rows of these n operations, which name locks that there are, and every SKIP goes on, at
-- most to the end
pub record LaneIn (rows : List ℕ) (n : ℕ) (ops : List Op) : Type 0 where
  pub held : Holds rows n ops
  pub onward : Onward ops
  pub within : (p : ℕ) → p < length ops → (fields_of (get_or ops p no_op)).code ≡ 7
      → (fields_of (get_or ops p no_op)).word ≤ n
  pub named : (p : ℕ) → p < length ops → Named (get_or ops p no_op)

-- both rules are kept at every position
abbrev pub Clean : List Op → Type 0
Clean ops = (fault_position ops ≡ 0) × (descent_position ops ≡ 0)

-- the position `at` of an operation that descends
abbrev pub descent_here : ℕ → ℕ → ℕ → ℕ → Option ℕ
descent_here w code bit at = cond (descends_at w code bit) (Some at) None

-- the name by f of a number that is 0 for none
abbrev pub Told : (ℕ → ℕ) → ℕ → Option ℕ → Type 0
Told f x o = MatchOption o (x ≡ 0) (λ y. (y ≡ f x) × (¬ x ≡ 0))

-- what is found of a fault and a descent, 0 for none, by their names: the fault, and where there is none, the descent
abbrev pub Finds : (ℕ → ℕ) → ℕ → ℕ → Result (Option ℕ) ℕ → Type 0
Finds f fault descent r = MatchResult r (λ o. (fault ≡ 0) × Told f descent o) (λ y. (y ≡ f fault) × (¬ fault ≡ 0))

-- by the positions of a lane's operations: where the held-set rule is first broken, and the first LOCK that descends
abbrev pub PositionsOf : List Op → Result (Option ℕ) ℕ → Type 0
PositionsOf ops = Finds (λ x. x) (fault_position ops) (descent_position ops)

-- by the records at these, among those of the lane
abbrev pub RecordsOf : List ℕ → List Op → Result (Option ℕ) ℕ → Type 0
RecordsOf rs ops = Finds (record_at rs) (fault_position ops) (descent_position ops)
