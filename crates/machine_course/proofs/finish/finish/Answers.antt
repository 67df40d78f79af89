-- `machine_course::finish::finish` meets its contract.
use mathlib.Core.Path.{◌∙◌}
use Rattle.machine_course.proofs.Laws.Sizes.{stands_fits}
use Rattle.machine_course.proofs.finish.finish.Goals as goal

pub end_of-end-requires : goal.end_of-end-requires
end_of-end-requires c = (c.requires.stands.sized, stands_fits c.requires.stands)

pub returns : goal.returns
returns c = λ s m mvs rows so. record {
  refusal = so.refusal;
  state = c.end_of-end.ensures ∙ so.state;
  finished = c.answer_finished-finished.ensures s m mvs rows so;
  done = so.done;
  waited = so.waited;
}
