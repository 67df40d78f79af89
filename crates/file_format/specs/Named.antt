-- A record by its number, or none: record 0 is no record.
use Rattle.std.specs.Prelude.{ℕ, zero, suc, Option, Some, None}

abbrev pub named : ℕ → Option ℕ
named zero = None
named (suc r) = Some (suc r)
