-- The records of a kernel in the order of its lanes.
use Rattle.std.specs.Prelude.{ℕ, List}
use Rattle.file_format.specs.Accepted.{Program}
use Rattle.sheet_format.specs.Bytes.{joined}

-- those of lane after lane, one behind the other
abbrev pub lane_order : Program → List ℕ
lane_order k = joined k.records
