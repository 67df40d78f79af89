-- `text_schedule::lines::lay_moves` meets its contract. What is left from i on, laid behind what is there, makes the
-- whole.
use native.Mathlib.Omega.{arith}
use Rattle.text_schedule.proofs.Laws.Lines.{finish_next, finish_on, finish_end, finish_room}
use Rattle.text_schedule.proofs.lines.lay_moves.Goals as goal
use Rattle.text_schedule.proofs.lines.lay_moves.Goals.{then-b-eq10, else-b-eq10}

pub lay_move-at-requires : goal.lay_move-at-requires
lay_move-at-requires c =
    omega (arith, finish_room c.args.text.now c.args.out.now c.loop-b.b-index _ _ _ c.loop-b.invariant)

pub loop-b-preserved : goal.loop-b-preserved
loop-b-preserved c =
    elim c.if-b-eq10.branch [
      | then-b-eq10 w ↦ rw (w.out-is, w.at-is, w.p-is)
          (finish_next c.args.text.now c.args.out.now c.loop-b.b-index _ c.loop-b-test.true w.if-b-eq10.true
          c.loop-b.invariant w.lay_move-at.ensures)
      | else-b-eq10 w ↦ rw (w.out-is, w.at-is, w.p-is, w.after-p.ensures)
          (finish_on c.args.text.now c.args.out.now c.loop-b.b-index _ c.loop-b-test.true w.if-b-eq10.false
          c.loop-b.invariant)
    ]

pub lay_move-requires : goal.lay_move-requires
lay_move-requires c =
    omega (arith, finish_room c.args.text.now c.args.out.now c.loop-b.b-index _ _ _ c.loop-b.invariant)

pub returns : goal.returns
returns c =
    finish_end c.args.text.now c.args.out.now c.loop-b.b-index _ c.loop-b-test.false c.loop-b.invariant
    c.lay_move.ensures
