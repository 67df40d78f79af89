-- The starred examples and the kernel of four lanes hold: each row by computation, and the three that speak of every
-- schedule by a search.
use mathlib.Core.Path.{refl}
use Rattle.file_format.specs.Search.{lowest, first_of}
use Rattle.file_format.specs.Rules.{header_rule, head_rule, bad_record, record_rule}
use Rattle.file_format.specs.Rules.{limit_a, limit_b, limit_constant, limit_target}
use Rattle.file_format.specs.Linkage.{chain, walk_of, bad_linkage, linkage_from, chain_too_long}
use Rattle.file_format.specs.Targets.{member, bad_target, unreachable_target, position}
use Rattle.file_format.specs.Accepted.{op_of, ops_from}
use Rattle.file_format.specs.Held.{held_from, same, conflict_below, fault_at, fault_position, record_at, lock_fault}
use Rattle.file_format.specs.Rising.{all_below, descent_at, descent_position, lock_order}
use Rattle.file_verdict.specs.Verdict.{fields_then, structure_then, refusal_of}
use Rattle.barrier_placement.specs.Place.{stands, due, due_after}
use Rattle.sheet_format.specs.Bytes.{sheet_bytes}
use Rattle.sheet_format.specs.Read.{read_sheet}
use Rattle.sheet_format.specs.Put.{in_turn}
use Rattle.machine_record.specs.Lanes.{entries_bytes, state_lane}
use Rattle.machine_record.specs.Record.{head_bytes, record_of}
use lib.Count.{ones_in}
use Rattle.text_put.specs.Decimal.{digits, decimal}
use Rattle.text_listing.specs.Line.{instr_text, line_of, first_line}
use Rattle.text_listing.specs.Ones.{ones}
use Rattle.text_listing.specs.Listing.{lane_lines, sheet_lines, listing}
use Rattle.claims_examples.specs.Table.{table, Each, end, ◌▸◌}
use Rattle.claims_examples.proofs.Never.{never_on_tso, never_on_pso, never_on_source}

pub examples : Each table
unfolding table refusal_of structure_then fields_then header_rule head_rule bad_record record_rule limit_a limit_b
    limit_constant limit_target lowest first_of bad_linkage linkage_from chain member walk_of chain_too_long
    bad_target unreachable_target lock_fault lock_order all_below descent_at descent_position position op_of ops_from
    record_at fault_position fault_at conflict_below held_from same stands due due_after sheet_bytes read_sheet
    in_turn entries_bytes state_lane head_bytes record_of digits decimal instr_text line_of first_line ones_in ones
    lane_lines sheet_lines listing
examples =
    refl ▸ refl ▸ refl ▸ refl ▸ never_on_tso ▸ never_on_source
    ▸ refl ▸ refl ▸ refl ▸ refl ▸ refl ▸ refl
    ▸ refl ▸ refl ▸ refl ▸ refl
    ▸ refl ▸ refl ▸ refl ▸ refl ▸ refl ▸ refl ▸ refl ▸ refl ▸ refl
    ▸ refl ▸ refl ▸ refl ▸ refl ▸ refl
    ▸ refl ▸ refl ▸ refl ▸ refl ▸ refl ▸ refl ▸ never_on_pso ▸ refl ▸ refl
    ▸ refl ▸ refl ▸ refl ▸ refl
    ▸ refl ▸ refl ▸ refl ▸ refl ▸ refl ▸ refl ▸ refl ▸ refl ▸ refl
    ▸ refl ▸ refl ▸ refl ▸ refl ▸ refl ▸ refl ▸ refl
    ▸ end
