-- `text_schedule::lines::malformed` meets its contract. What is left from i on has the first malformed line of the
-- whole.
use mathlib.Core.Path.{refl, sym, ◌∙◌}
use native.Mathlib.Omega.{arith}
use Rattle.text_schedule.proofs.Laws.Lines.{malformed_line, malformed_next, malformed_on, malformed_end}
use Rattle.text_schedule.proofs.lines.malformed.Goals as goal
use Rattle.text_schedule.proofs.lines.malformed.Goals.{then-b-eq10+else-is_wrong, else-b-eq10}

pub returns-then-is_wrong : goal.returns-then-is_wrong
returns-then-is_wrong c =
    sym (malformed_line c.args.text.now c.loop-b.b-index c.loop-b-test.true _ _
    c.if-b-eq10.true (sym c.is_wrong.ensures ∙ c.if-is_wrong.true)) ∙ c.loop-b.invariant.1

pub loop-b-preserved : goal.loop-b-preserved
loop-b-preserved c =
    elim c.if-b-eq10.branch [
      | then-b-eq10+else-is_wrong w ↦ rw (w.line-is, w.p-is) (
        omega (arith, c.loop-b.invariant.0),
        sym (malformed_next c.args.text.now c.loop-b.b-index c.loop-b-test.true _ _ w.if-b-eq10.true
            (sym w.is_wrong.ensures ∙ w.if-is_wrong.false)) ∙ c.loop-b.invariant.1,
      )
      | else-b-eq10 w ↦ rw (w.line-is, w.p-is, w.after-p.ensures) (
        omega (arith, c.loop-b.invariant.0),
        sym (malformed_on c.args.text.now c.loop-b.b-index c.loop-b-test.true _ _ w.if-b-eq10.false)
            ∙ c.loop-b.invariant.1,
      )
    ]

pub returns-then-is_wrong-2 : goal.returns-then-is_wrong-2
returns-then-is_wrong-2 c =
    let wrong = sym c.is_wrong-2.ensures ∙ c.if-is_wrong-2.true in
    sym (malformed_end c.args.text.now c.loop-b.b-index c.loop-b-test.false _ _ ∙ rw wrong refl)
    ∙ c.loop-b.invariant.1

pub returns-else-is_wrong-2 : goal.returns-else-is_wrong-2
returns-else-is_wrong-2 c =
    let right = sym c.is_wrong-2.ensures ∙ c.if-is_wrong-2.false in
    sym (malformed_end c.args.text.now c.loop-b.b-index c.loop-b-test.false _ _ ∙ rw right refl)
    ∙ c.loop-b.invariant.1
