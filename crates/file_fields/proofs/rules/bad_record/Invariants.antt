-- `file_fields::rules::bad_record` meets its contract.
use Prim.Native.Nat.{◌-◌, ◌+◌}
use mathlib.Core.Bool.{not}
use mathlib.Core.Path.{◌≡◌}
use Rattle.file_format.specs.Search.{lowest}
use Rattle.file_format.specs.Rules.{record_rule, bad_record}
use Rattle.file_fields.proofs.rules.bad_record.Given as goal

abbrev pub invariant-loop-i : goal.invariant-loop-i
invariant-loop-i l = lowest (λ j. not (record_rule l.s j)) l.i (l.rows.count + 1 - l.i) ≡ bad_record l.s
