-- `machine_lane::flags::flags_of` meets its contract. The flags passed are those of the mask.
use mathlib.Core.Path.{◌≡◌, sym, subst}
use native.Mathlib.Omega.{arith}
use Rattle.machine_lane.proofs.Laws.Flags.{Flagged, flagged_all, flagged_on}
use Rattle.machine_lane.proofs.flags.flags_of.Goals as goal

pub loop-x-preserved : goal.loop-x-preserved
loop-x-preserved c =
    flagged_on c.args.mask c.loop-x.flag-items c.loop-x.x c.loop-x.invariant (omega arith)

pub returns : goal.returns
returns c =
    let last : c.loop-x.x ≡ 16 = omega arith in (
      sym c.loop-x-test.array_long,
      flagged_all c.args.mask c.loop-x.flag-items
          (subst (Flagged c.args.mask c.loop-x.flag-items) last c.loop-x.invariant) c.loop-x-test.array_long
          c.requires,
    )
