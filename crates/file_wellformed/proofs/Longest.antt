-- The longest chain that is accepted, and the shortest that is too long, computed from bytes.
use Prim.Native.Nat.{ℕ}
use mathlib.Core.Path.{◌≡◌, refl}
use mathlib.Core.List.{List, [], ◌∷◌, ◌++◌, map}
use Rattle.std.specs.Prelude.{Ok, Err}
use Rattle.file_verdict.specs.declared.refusal.Refusal.TheVariants.{ChainTooLong}
use Rattle.file_format.specs.Search.{lowest, first_of}
use Rattle.file_format.specs.Rules.{header_rule, head_rule, bad_record, record_rule}
use Rattle.file_format.specs.Rules.{limit_a, limit_b, limit_constant, limit_target}
use Rattle.file_format.specs.Linkage.{chain, walk_of, bad_linkage, linkage_from, chain_too_long}
use Rattle.file_format.specs.Targets.{member, bad_target, unreachable_target, position}
use Rattle.file_format.specs.Accepted.{op_of, ops_from}
use Rattle.file_format.specs.Held.{held_from, same, conflict_below, fault_at, fault_position, record_at, lock_fault}
use Rattle.file_format.specs.Rising.{all_below, descent_at, descent_position, lock_order}
use Rattle.file_verdict.specs.Verdict.{Checked, fields_then, structure_then, refusal_of}
use Rattle.file_verdict.specs.Examples.{header, entry, sets}

-- bytes, and what the checks come to
table : List (List ℕ × Checked)
table =
    (header 1 0 64 1 ++ sets 1 64, Ok tt)
    ∷ (header 1 0 65 1 ++ sets 1 65, Err (ChainTooLong 65))
    ∷ []

longest : map (λ e. refusal_of e.0) table ≡ map (λ e. e.1) table
unfolding refusal_of structure_then fields_then header_rule head_rule bad_record record_rule limit_a limit_b
    limit_constant
    limit_target lowest first_of bad_linkage linkage_from chain member walk_of chain_too_long bad_target
    unreachable_target
    lock_fault
    lock_order all_below descent_at descent_position position
    op_of ops_from record_at fault_position fault_at conflict_below held_from same header entry sets table
longest = refl
