-- `file_rows::whole::write_chains` meets its contract: the header with the lanes' counts, and the lanes.
use Rattle.file_rows.proofs.Laws.Whole.{chains_from}
use Rattle.file_rows.proofs.whole.write_chains.Goals as goal

pub returns : goal.returns
returns c =
    chains_from c.requires.structure c.requires.order c.byte_at.ensures c.byte_at-2.ensures
    c.byte_at-3.ensures c.word_at-mask.ensures.0 c.args.out.now c.requires.room
    c.put_first.ensures c.put_counts.ensures c.write_lanes.ensures
