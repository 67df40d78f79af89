-- The operations of a lane as rows one behind the other, and a buffer that begins with them.
use Rattle.std.specs.Prelude.{ℕ, ◌*◌, ◌^◌, ◌<◌, ◌≡◌, List, map, length, take}
use Rattle.std.proofs.Math.Option.{some}
use Rattle.std.proofs.Math.ListN.{get_elem?}
use Rattle.file_format.specs.declared.accepted.Op.{Op}
use Rattle.file_format.specs.declared.accepted.Op.TheVariants.{Set, Add, Load, Store, Lock, Unlock, Skip}
use Rattle.sheet_format.specs.Layout.{op}
use Rattle.sheet_format.specs.declared.Level.TheVariants.{Level0}
use Rattle.sheet_format.specs.Bytes.{lane_bytes}
use Rattle.sheet_rows.specs.declared.read.Row.{Row}

abbrev pub op_rows : List Op → List ℕ
op_rows ops = lane_bytes Level0 (map op ops)

-- the fields of an operation's row
abbrev pub fields_of : Op → Row
fields_of (Set a c) = record { code = 1; a = a; b = 0; word = c }
fields_of (Add a b) = record { code = 2; a = a; b = b; word = 0 }
fields_of (Load a x) = record { code = 3; a = a; b = x; word = 0 }
fields_of (Store a x) = record { code = 4; a = a; b = x; word = 0 }
fields_of (Lock l) = record { code = 5; a = 0; b = l; word = 0 }
fields_of (Unlock l) = record { code = 6; a = 0; b = l; word = 0 }
fields_of (Skip a t) = record { code = 7; a = a; b = 0; word = t }

-- the buffer begins with the rows of these n operations, whose constants and targets have 32 bits
pub record Holds (rows : List ℕ) (n : ℕ) (ops : List Op) : Type 0 where
  pub count : length ops ≡ n
  pub front : take (8 * n) rows ≡ op_rows ops
  pub small : (p : ℕ) (o : Op) → get_elem? ops p ≡ some o → (fields_of o).word < 2 ^ 32
