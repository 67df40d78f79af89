-- `machine_course::finish::answer_finished` meets its contract.
use Rattle.machine_course.proofs.Laws.Legal.{none_by}
use Rattle.machine_course.proofs.Laws.Ends.{lanes_few, finished_by}
use Rattle.machine_course.proofs.finish.answer_finished.Goals as goal

pub finished-requires : goal.finished-requires
finished-requires c = (
  c.requires.stands.sized,
  lanes_few c.requires.stands (none_by c.is_some.ensures
      c.if-is_some.false),
)

pub returns : goal.returns
returns c = λ s m mvs rows so. finished_by so (none_by c.is_some.ensures c.if-is_some.false) c.finished.ensures
