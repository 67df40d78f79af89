-- The kernel that an accepted file stands for: what every layer above is defined over.
use Rattle.std.specs.Prelude.{ℕ, suc, ◌+◌, ◌/◌, ◌%◌, ◌^◌, List, [], ◌∷◌, map, Bool, cond, take, eqb}
use Rattle.std.proofs.Math.Option.{Option, none, some}
use Rattle.file_format.specs.declared.accepted.Op.{Op}
use Rattle.file_format.specs.declared.accepted.Op.TheVariants.{Set, Add, Load, Store, Lock, Unlock, Skip}
use Rattle.file_format.specs.Fields.{lane_count, locations, locks, mask, heads}
use Rattle.file_format.specs.Fields.{operation, register_a, operand_b, constant, target}
use Rattle.file_format.specs.Linkage.{chain}
use Rattle.file_format.specs.Targets.{position}

-- the operation of a code, with its fields and the position of its target
abbrev pub op_by : ℕ → ℕ → ℕ → ℕ → ℕ → Op
op_by op a b c q =
    cond (eqb op 1) (Set a c)
    (cond (eqb op 2) (Add a b)
    (cond (eqb op 3) (Load a b)
    (cond (eqb op 4) (Store a b)
    (cond (eqb op 5) (Lock b)
    (cond (eqb op 6) (Unlock b)
    (Skip a q))))))

-- The operation of record r at position p of a chain, with the records that follow it. The target's position is sought
-- among those; zero, which is none of them, gives the chain's length, the end.
unfoldable pub op_of : List ℕ → ℕ → List ℕ → ℕ → Op
op_of s p rest r =
    op_by (operation s r) (register_a s r) (operand_b s r) (constant s r) (p + 1 + position (target s r) rest)

-- the operations of a chain, the first of which stands at position p
unfoldable pub ops_from : List ℕ → ℕ → List ℕ → List Op
ops_from s p [] = []
ops_from s p (r ∷ rest) = op_of s p rest r ∷ ops_from s (suc p) rest

abbrev pub ops_of : List ℕ → List ℕ → List Op
ops_of s rs = ops_from s 0 rs

-- the records and the operations of the lane whose first record is h
abbrev pub records_at : List ℕ → ℕ → List ℕ
records_at s h = chain s 64 h

abbrev pub ops_at : List ℕ → ℕ → List Op
ops_at s h = ops_of s (records_at s h)

-- an accepted kernel: for each of its lanes, the operations in chain order and the records that they come from
pub record Program : Type 0 where
  pub locations : ℕ
  pub locks : ℕ
  pub mask : ℕ
  pub records : List (List ℕ)
  pub lanes : List (List Op)

abbrev pub program_of : List ℕ → Program
program_of s =
    record {
      locations = locations s;
      locks = locks s;
      mask = mask s;
      records = map (records_at s) (take (lane_count s) (heads s));
      lanes = map (ops_at s) (take (lane_count s) (heads s));
    }

-- where an operation leads besides the next position: the target of a SKIP
abbrev pub jump : Op → Option ℕ
jump (Set a c) = none
jump (Add a b) = none
jump (Load a b) = none
jump (Store a b) = none
jump (Lock b) = none
jump (Unlock b) = none
jump (Skip a q) = some q

-- bit x of the mask: location x is volatile
abbrev pub is_volatile : ℕ → ℕ → Bool
is_volatile m x = eqb (m / 2 ^ x % 2) 1
