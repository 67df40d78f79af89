-- `machine_record::lane::write_lane` meets its contract: its parts one after the other.
use mathlib.Core.Path.{ap}
use mathlib.Core.List.{◌++◌}
use native.Mathlib.Omega.{arith}
use Rattle.sheet_format.specs.Bytes.{word_bytes}
use Rattle.sheet_format.proofs.Laws.Put.{puts_on, puts_as, puts_length}
use Rattle.machine_record.specs.Lanes.{state_lane}
use Rattle.sheet_format.specs.Put.{in_turn}
use Rattle.machine_record.proofs.lane.write_lane.Goals as goal

pub write_entries-requires : goal.write_entries-requires
unfolding in_turn
write_entries-requires c =
    record {
      room = omega (
        arith,
        c.requires.room,
        c.put_words-next.ensures.behind,
        c.put_table-next.ensures.behind,
        puts_length c.put_words-next.ensures,
        puts_length c.put_table-next.ensures,
      );
      small = c.requires.small;
    }

pub returns : goal.returns
unfolding state_lane
returns c =
    let head = puts_as (ap (λ n. word_bytes c.args.lane.now.at ++ word_bytes n) c.count.ensures.0)
    c.put_words-next.ensures in
    puts_on (puts_on head c.put_table-next.ensures) c.write_entries.ensures
