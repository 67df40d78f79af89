-- `text_listing::whole::put_lane` meets its contract. What is written so far are the lines of the first p instructions.
use mathlib.Core.Path.{◌≡◌, refl, ap, ◌∙◌}
use native.Mathlib.Omega.{arith}
use lib.ListN.{drop}
use Rattle.sheet_format.specs.Read.{read_rows}
use Rattle.text_listing.specs.Listing.{lane_lines}
use Rattle.sheet_format.proofs.Laws.Put.{puts_none, puts_as, puts_on, puts_length}
use Rattle.text_listing.proofs.Laws.Sheet.{lane_next}
use Rattle.text_listing.proofs.whole.put_lane.Goals as goal

pub loop-p-init : goal.loop-p-init
unfolding lane_lines
loop-p-init c = (refl, omega arith, omega arith, puts_none)

pub loop-p-preserved : goal.loop-p-preserved
loop-p-preserved c = (
  puts_length c.put_line-at.ensures.1 ∙ c.loop-p.invariant.0,
  omega (arith, c.loop-p.invariant.1),
  omega (arith, c.put_line-at.ensures.0, c.loop-p.invariant.2),
  puts_as (lane_next c.args.lane c.loop-p.p c.args.from c.loop-p.row c.args.sheet.now c.loop-p.invariant.1)
      (puts_on c.loop-p.invariant.3 c.put_line-at.ensures.1),
)

pub returns : goal.returns
returns c =
    let all : c.loop-p.p ≡ c.args.count = omega arith in (
      omega (arith, c.loop-p.invariant.2),
      puts_as (ap (λ n. lane_lines c.args.lane 0 (read_rows n (drop c.args.from c.args.sheet.now))) all)
          c.loop-p.invariant.3,
    )
