-- `text_listing::whole::put_lanes` meets its contract. What is written so far are the lines of the first t lanes.
use mathlib.Core.Path.{refl, ap, ◌∙◌}
use native.Mathlib.Omega.{arith}
use Prim.Native.Nat.{◌<◌}
use lib.ListN.{length, drop}
use lib.Seq.{take_all}
use Rattle.sheet_format.specs.Read.{read_lanes, read_sheet, counts}
use Rattle.text_listing.specs.Listing.{sheet_lines}
use Rattle.sheet_format.proofs.Laws.Put.{puts_none, puts_as, puts_on, puts_length}
use Rattle.text_listing.proofs.Laws.Sheet.{lanes_next, from_next}
use Rattle.text_listing.proofs.whole.put_lanes.Goals as goal

pub loop-t-init : goal.loop-t-init
unfolding sheet_lines
loop-t-init c = (refl, omega arith, omega arith, omega arith, puts_none)

pub loop-t-preserved : goal.loop-t-preserved
loop-t-preserved c =
    let more : c.loop-t.t < length (counts c.args.sheet.now) = omega (arith, c.lanes_of-lanes.ensures.0) in (
      puts_length c.put_lane-at.ensures.1 ∙ c.loop-t.invariant.0,
      from_next c.args.sheet.now c.loop-t.t c.loop-t.from c.from-count.result more c.loop-t.invariant.1
          (c.from-count.ensures ∙ c.word_at.ensures.0),
      omega (arith, c.put_lane-at.ensures.0, c.loop-t.invariant.2, c.from-count.ensures, c.word_at.ensures.1),
      omega (arith, c.loop-t.invariant.3, c.from-count.ensures, c.word_at.ensures.1),
      puts_as (lanes_next c.args.sheet.now c.loop-t.t c.loop-t.from c.from-count.result more c.loop-t.invariant.1
          (c.from-count.ensures ∙ c.word_at.ensures.0))
          (puts_on c.loop-t.invariant.4 c.put_lane-at.ensures.1),
    )

pub returns : goal.returns
unfolding read_sheet
returns c =
    let all = take_all c.loop-t.t (counts c.args.sheet.now) (omega (arith, c.lanes_of-lanes.ensures.0)) in record {
      puts = puts_as (ap (λ ns. sheet_lines 0 (read_lanes ns (drop 16 c.args.sheet.now))) all) c.loop-t.invariant.4;
      upper_bound = omega (arith, c.loop-t.invariant.2, c.lanes_of-lanes.ensures.1);
    }
