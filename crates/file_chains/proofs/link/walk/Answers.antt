-- `file_chains::link::walk` meets its contract. At each record the rest of the walk is the whole walk.
use native.Mathlib.Omega.{arith}
use Rattle.file_chains.proofs.Laws.Walks.{walking_start, walking_room}
use Rattle.file_chains.proofs.Laws.Walks.{walking_stop, walking_twice, walking_on}
use Rattle.file_chains.proofs.link.walk.Goals as goal

pub loop-r-init : goal.loop-r-init
loop-r-init c =
    walking_start _ _ _ _ _ c.requires.0 c.requires.1 c.requires.2 c.requires.3

pub returns-then-place-r-ne0 : goal.returns-then-place-r-ne0
returns-then-place-r-ne0 c = (
  c.loop-r-test.true,
  (c.loop-r.n, walking_twice c.loop-r.invariant c.loop-r-test.true c.if-place-r-ne0.true),
)

pub offset_bounds-order-n : goal.offset_bounds-order-n
offset_bounds-order-n c =
    omega (arith, walking_room c.loop-r.invariant c.loop-r-test.true c.if-place-r-ne0.false)

pub bounds-order-n : goal.bounds-order-n
bounds-order-n c =
    omega (arith, walking_room c.loop-r.invariant c.loop-r-test.true c.if-place-r-ne0.false)

pub overflow_add-n : goal.overflow_add-n
overflow_add-n c =
    omega (arith, walking_room c.loop-r.invariant c.loop-r-test.true c.if-place-r-ne0.false)

pub overflow_cast-place : goal.overflow_cast-place
overflow_cast-place c =
    omega (arith, walking_room c.loop-r.invariant c.loop-r-test.true c.if-place-r-ne0.false)

pub loop-r-smaller : goal.loop-r-smaller
loop-r-smaller c =
    omega (arith, walking_room c.loop-r.invariant c.loop-r-test.true c.if-place-r-ne0.false)

pub loop-r-preserved : goal.loop-r-preserved
loop-r-preserved c =
    walking_on c.loop-r.invariant c.loop-r-test.true c.if-place-r-ne0.false c.next_of-r.ensures.0

pub returns : goal.returns
returns c = walking_stop c.loop-r.invariant c.loop-r-test.false
