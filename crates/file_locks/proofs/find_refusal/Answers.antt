-- `file_locks::find_refusal` meets its contract. The first fault from lane t on is the first of all, and the first
-- descent is the one found, or else the first from lane t on.
use Rattle.std.specs.Prelude.{Ok}
use Prim.Native.Nat.{suc, ◌+◌}
use mathlib.Core.Path.{◌≡◌, refl, sym, ap, subst, ◌∙◌}
use native.Mathlib.Omega.{arith}
use Rattle.file_format.specs.Accepted.{program_of}
use Rattle.file_format.specs.Held.{lock_fault}
use Rattle.file_format.specs.Rising.{lock_order}
use Rattle.file_format.proofs.Laws.Search.{first_on, first_found, first_none}
use Rattle.file_chains.specs.Ordered.{begin_of}
use Rattle.file_verdict.specs.declared.refusal.Refusal.TheVariants.{LockFault, LockOrder}
use Rattle.file_verdict.proofs.Laws.Verdict.{names, passes}
use Rattle.file_locks.specs.Lanes.{Told, Finds}
use Rattle.file_locks.proofs.Laws.Descents.{named_on, named_end}
use Rattle.file_locks.proofs.Laws.Order.{fault, descent, lane_fits, found_is, fault_first, descent_first}
use Rattle.file_locks.proofs.find_refusal.Goals as goal
use Rattle.file_locks.proofs.find_refusal.Goals.{After-find_records, After-loop-end}

-- what is found in the lane that is looked at
is : (g : After-find_records) → Finds (λ y. y) (fault g.args.s.now g.loop-end.end-index)
    (descent g.args.s.now g.loop-end.end-index) g.find_records.result
is g =
    let p = g.requires in
    found_is _ _ _ _ p.structure p.order.1 _ _ p.chains.1 p.chains.2 _ g.loop-end-test.true
    _ g.loop-end.invariant.0 g.find_records.ensures

-- no lane has a fault, and the first descent is the one found
no-fault : (w : After-loop-end) → lock_fault (program_of w.args.s.now) ≡ 0
no-fault w = sym (first_none _ _ _ w.loop-end-test.false w.loop-end.invariant.1)

order_is : (w : After-loop-end) → Told (λ y. y) (lock_order (program_of w.args.s.now)) w.loop-end.descent
order_is w =
    let l = w.loop-end in
    named_end (descent w.args.s.now) l.end-index 4 (lock_order (program_of w.args.s.now)) l.descent
    w.loop-end-test.false l.invariant.2

pub loop-end-init : goal.loop-end-init
loop-end-init c =
    (refl, fault_first c.args.s.now, descent_first c.args.s.now)

pub find_records-requires : goal.find_records-requires
find_records-requires c =
    lane_fits _ _ _ _ c.requires.structure c.requires.order.1 _ _ c.requires.chains.1 c.requires.chains.2 _
    c.loop-end-test.true c.loop-end.invariant.0

pub returns-in-Err : goal.returns-in-Err
returns-in-Err c =
    let t = c.loop-end.end-index in
    let told = subst (Finds (λ y. y) (fault c.args.s.now t) (descent c.args.s.now t)) c.in-Err.is
    (is (goal.at.returns-in-Err c).After-find_records) in
    let some : ¬ c.in-Err.fault ≡ 0 = λ z. told.1 (sym told.0 ∙ z) in
    names _ LockFault _ (first_found _ _ _ c.loop-end-test.true told.0 some c.loop-end.invariant.1) some

pub loop-end-preserved : goal.loop-end-preserved
loop-end-preserved c =
    let l = c.loop-end in
    let t = l.end-index in
    let told = subst (Finds (λ y. y) (fault c.args.s.now t) (descent c.args.s.now t)) c.in-Ok.is
    (is (goal.at.loop-end-preserved c).After-find_records) in
    let next : t + 1 ≡ suc t = omega arith in (
      ap (begin_of c.args.ends.now) (sym next),
      first_on _ _ _ c.loop-end-test.true refl told.0 l.invariant.1,
      named_on (descent c.args.s.now) t 4 (lock_order (program_of c.args.s.now)) l.descent c.in-Ok.found
          c.loop-end-test.true told.1 c.or-descent.ensures l.invariant.2,
    )

pub returns-in-Some : goal.returns-in-Some
returns-in-Some c =
    let r = (goal.at.returns-in-Some c).After-loop-end in
    let told = subst (Told (λ y. y) (lock_order (program_of c.args.s.now))) c.in-Some.is (order_is r) in
    names _ LockOrder (Ok tt) told.0 (λ z. told.1 (sym told.0 ∙ z)) ∙ passes _ LockFault _ (no-fault r)

pub returns-in-None : goal.returns-in-None
returns-in-None c =
    let r = (goal.at.returns-in-None c).After-loop-end in
    let told = subst (Told (λ y. y) (lock_order (program_of c.args.s.now))) c.in-None.is (order_is r) in
    passes _ LockOrder (Ok tt) told ∙ passes _ LockFault _ (no-fault r)
