-- `text_run::places::next_row` meets its contract.
use mathlib.Core.Path.{◌≡◌, ap, ◌∙◌}
use native.Mathlib.Omega.{arith}
use Rattle.file_format.specs.Fields.{word}
use Rattle.machine_record.specs.Fields.{fields_in}
use Rattle.text_run.proofs.places.next_row.Goals as goal

pub returns : goal.returns
returns c =
    let e : c.from.result ≡ (fields_in c.args.before.now).position c.args.t =
    c.from.ensures ∙ c.word_at.ensures.0 ∙ ap (word c.args.before.now) c.lane_from.ensures.0 in
    (omega (arith, e, c.first_row.ensures.0), omega (arith, c.first_row.ensures.1, c.from.ensures, c.word_at.ensures.1))
