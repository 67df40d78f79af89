-- `machine_run::judge::finished` meets its contract.
use Rattle.std.proofs.Common.{◌&&◌, sym, ap, ◌∙◌}
use Rattle.machine_spec.specs.View.{drained}
use Rattle.machine_state.specs.States.{state_in}
use Rattle.machine_run.proofs.judge.finished.Goals as goal

pub returns-then-ended : goal.returns-then-ended
returns-then-ended c =
    λ prog counts.
    let s = state_in c.args.state.now in
    c.drained.ensures ∙ ap (λ b. b && drained s) (sym c.if-ended.true ∙ c.ended.ensures prog counts)

pub returns-else-ended : goal.returns-else-ended
returns-else-ended c =
    λ prog counts.
    let s = state_in c.args.state.now in
    c.if-ended.false ∙ ap (λ b. b && drained s) (sym c.if-ended.false ∙ c.ended.ensures prog counts)
