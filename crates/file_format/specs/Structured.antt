-- What the checks leave of a file that they do not refuse.
use Rattle.std.specs.Prelude.{ℕ, ◌+◌, ◌*◌, ◌≡◌, true, List, length}
use Rattle.file_format.specs.Fields.{record_count}
use Rattle.file_format.specs.Rules.{header_rule, bad_record}
use Rattle.file_format.specs.Linkage.{bad_linkage, chain_too_long}
use Rattle.file_format.specs.Targets.{bad_target}

-- checks 1 to 4
pub record Fielded (s : List ℕ) : Type 0 where
  pub header : header_rule s ≡ true
  pub sized : length s ≡ 16 + 12 * record_count s
  pub records : bad_record s ≡ 0

-- checks 1 to 7
pub record Structured (s : List ℕ) : Type 0 where
  pub fields : Fielded s
  pub linkage : bad_linkage s ≡ 0
  pub chains : chain_too_long s ≡ 0
  pub targets : bad_target s ≡ 0
