-- `machine_step::carry::carry` meets its contract.
use Rattle.machine_lane.specs.Lanes.{flags}
use Rattle.machine_step.proofs.Laws.Codes.{carried_by, carried_past}
use Rattle.machine_step.proofs.carry.carry.Goals as goal

pub returns-in-Set : goal.returns-in-Set
returns-in-Set c =
    carried_by c.args.machine (flags c.args.volatile.now) c.args.a c.args.b c.args.c c.from.ensures c.from-2.ensures
    c.in-Set.is (c.set.ensures c.args.machine (flags c.args.volatile.now))

pub returns-in-Add : goal.returns-in-Add
returns-in-Add c =
    carried_by c.args.machine (flags c.args.volatile.now) c.args.a c.args.b c.args.c c.from.ensures c.from-2.ensures
    c.in-Add.is (c.add.ensures c.args.machine (flags c.args.volatile.now))

pub returns-in-Store : goal.returns-in-Store
returns-in-Store c =
    carried_by c.args.machine (flags c.args.volatile.now) c.args.a c.args.b c.args.c c.from.ensures c.from-2.ensures
    c.in-Store.is (c.store.ensures c.args.machine (flags c.args.volatile.now))

pub returns-in-Unlock : goal.returns-in-Unlock
returns-in-Unlock c =
    carried_by c.args.machine (flags c.args.volatile.now) c.args.a c.args.b c.args.c c.from.ensures c.from-2.ensures
    c.in-Unlock.is (c.unlock.ensures c.args.machine (flags c.args.volatile.now))

pub returns-in-Skip : goal.returns-in-Skip
returns-in-Skip c =
    carried_by c.args.machine (flags c.args.volatile.now) c.args.a c.args.b c.args.c c.from.ensures c.from-2.ensures
    c.in-Skip.is (c.skip.ensures c.args.machine (flags c.args.volatile.now))

pub returns-in-LL : goal.returns-in-LL
returns-in-LL c =
    carried_past c.args.machine (flags c.args.volatile.now) c.args.a c.args.b c.args.c c.from.ensures c.from-2.ensures
    c.in-LL.is c.barrier_of.ensures (c.pass.ensures (flags c.args.volatile.now))
