-- `file_rows::chain::put_record` meets its contract: of a SKIP the fifth byte is written anew.
use mathlib.Core.Path.{ap, ◌∙◌}
use Rattle.file_chains.specs.Ordered.{landing_in}
use Rattle.file_rows.proofs.Laws.Row.{record_skip}
use Rattle.file_rows.proofs.chain.put_record.Goals as goal

pub returns-then-s-from-eq7 : goal.returns-then-s-from-eq7
returns-then-s-from-eq7 c =
    let lands =
    ap (landing_in c.args.place.now c.args.begin c.args.n) c.whole_word.ensures.0 in
    record_skip c.args.s.now c.args.out.now c.args.r c.args.at c.copy_eight.ensures c.if-s-from-eq7.true
    (c.landing.ensures ∙ lands)
