-- `text_run::places::first_row` meets its contract.
use mathlib.Core.Path.{◌≡◌, ap, ◌∙◌}
use native.Mathlib.Omega.{arith}
use lib.ListN.{get_or}
use Rattle.std.specs.Prelude.{unwrap_or}
use Rattle.sheet_rows.specs.Rows.{parts_in}
use Rattle.sheet_rows.specs.declared.parts.Parts.{Parts}
use Rattle.text_run.proofs.Laws.Places.{from_few}
use Rattle.text_run.proofs.places.first_row.Goals as goal

pub returns : goal.returns
returns c =
    let e = ap (λ (p : Parts). get_or p.from c.args.t 0) c.parts_of.ensures in
    let few = from_few c.args.rows.now (λ i. omega (arith, c.type_inv.rows i)) c.args.t in
    let is : c.unwrap_or.result ≡ get_or (parts_in c.args.rows.now).from c.args.t 0 =
    c.unwrap_or.ensures ∙ ap (λ o. unwrap_or o 0) c.copied.ensures ∙ c.get.ensures.lookup.4 (omega arith) 0 ∙ e in
    (is, omega (arith, is, few))
