-- `machine_state::held::set_marks` meets its contract.
use Prim.Native.Nat.{◌+◌, ◌*◌, ◌/◌, ◌%◌, ◌^◌}
use mathlib.Core.Path.{◌≡◌, ap, ◌∙◌}
use native.Mathlib.Omega.{arith}
use Rattle.machine_state.specs.States.{HEAD, HIGHMARKS, with_word}
use Rattle.machine_state.proofs.Laws.States.{came}
use Rattle.machine_state.proofs.Laws.Writes.{marks_set}
use Rattle.machine_state.proofs.held.set_marks.Goals as goal

pub returns : goal.returns
returns c =
    let whole : c.args.marks % 2 ^ 32 + 2 ^ 32 * (c.args.marks / 2 ^ 32) ≡ c.args.marks = omega arith in
    came (c.put_word-2.ensures
    ∙ ap (λ x. with_word x c.args.t HEAD HIGHMARKS (c.args.marks / 2 ^ 32)) c.put_word.ensures)
    (marks_set c.args.state.now c.args.t c.requires (c.args.marks % 2 ^ 32) (c.args.marks / 2 ^ 32) c.args.marks whole)
