-- `text_listing::title::put_first` meets its contract.
use mathlib.Core.Path.{◌∙◌}
use native.Mathlib.Omega.{arith}
use Rattle.laws.proofs.Numbers.{ones_in_lem}
use Rattle.text_listing.specs.Line.{first_line}
use Rattle.text_listing.specs.Ones.{ones}
use Rattle.sheet_format.proofs.Laws.Put.{puts_as, puts_on}
use Rattle.text_listing.proofs.Laws.Line.{first_same}
use Rattle.text_listing.proofs.title.put_first.Goals as goal

pub returns : goal.returns
unfolding first_line ones
returns c =
    let all =
    puts_on
    (puts_on (puts_on (puts_on c.put_one-i.ensures.1 c.put_one-j.ensures.1) c.put_one-k.ensures.1)
    c.put_one-m.ensures.1)
    c.put.ensures in
    let same =
    first_same (c.from.ensures ∙ c.byte_at.ensures) (c.from-2.ensures ∙ c.byte_at-2.ensures)
    (ones_in_lem 16 c.args.mask (omega arith))
    (c.from-3.ensures ∙ c.byte_at-3.ensures) in (
      omega (
        arith,
        c.put.ensures.behind,
        c.put_one-m.ensures.0,
        c.put_one-k.ensures.0,
        c.put_one-j.ensures.0,
        c.put_one-i.ensures.0,
      ),
      puts_as same all,
    )
