-- `file_locks::lock_refusal` meets its contract. No lane before t has a fault, and none descends.
use Prim.Native.Nat.{suc, ◌+◌}
use mathlib.Core.Path.{◌≡◌, refl, sym, ap, ◌∙◌}
use native.Mathlib.Omega.{arith}
use Rattle.std.specs.Prelude.{None, Ok}
use Rattle.file_format.proofs.Laws.Search.{first_on, first_none}
use Rattle.file_chains.specs.Ordered.{begin_of}
use Rattle.file_verdict.specs.declared.refusal.Refusal.TheVariants.{LockFault, LockOrder}
use Rattle.file_verdict.proofs.Laws.Verdict.{passes}
use Rattle.file_locks.proofs.Laws.NoLocks.{no_fault, no_descent}
use Rattle.file_locks.proofs.Laws.Order.{lane_fits, found_is, fault_first, descent_first}
use Rattle.file_locks.proofs.lock_refusal.Goals as goal

-- no lane takes or frees a lock
pub returns-then-s-eq0 : goal.returns-then-s-eq0
returns-then-s-eq0 c =
    passes _ LockOrder (Ok tt) (no_descent c.args.s.now c.requires.structure c.if-s-eq0.true)
    ∙ passes _ LockFault _ (no_fault c.args.s.now c.requires.structure c.if-s-eq0.true)

pub loop-end-init : goal.loop-end-init
loop-end-init c =
    (refl, fault_first c.args.s.now, descent_first c.args.s.now)

pub suspicious_lane-requires : goal.suspicious_lane-requires
suspicious_lane-requires c =
    let fits = lane_fits _ _ _ _ c.requires.structure c.requires.order.1 _ _ c.requires.chains.1 c.requires.chains.2 _
    c.loop-end-test.true
    c.loop-end.invariant.0 in
    (fits.0, fits.1, fits.2, fits.3)

pub returns-then-suspicious_lane : goal.returns-then-suspicious_lane
returns-then-suspicious_lane c = c.find_refusal.ensures

pub loop-end-preserved : goal.loop-end-preserved
loop-end-preserved c =
    let is = found_is _ _ _ _ c.requires.structure c.requires.order.1 _ _ c.requires.chains.1 c.requires.chains.2 _
    c.loop-end-test.true (Ok None) c.loop-end.invariant.0 (c.suspicious_lane.ensures c.if-suspicious_lane.false) in
    let next : c.loop-end.end-index + 1 ≡ suc c.loop-end.end-index = omega arith in (
      ap (begin_of c.args.ends.now) (sym next),
      first_on _ _ _ c.loop-end-test.true refl is.0 c.loop-end.invariant.1,
      first_on _ _ _ c.loop-end-test.true refl is.1 c.loop-end.invariant.2,
    )

pub returns : goal.returns
returns c =
    passes _ LockOrder (Ok tt) (sym (first_none _ _ _ c.loop-end-test.false c.loop-end.invariant.2))
    ∙ passes _ LockFault _ (sym (first_none _ _ _ c.loop-end-test.false c.loop-end.invariant.1))
