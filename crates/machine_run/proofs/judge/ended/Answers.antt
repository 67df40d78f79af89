-- `machine_run::judge::ended` meets its contract. The lanes passed stand at their ends.
use Rattle.std.proofs.Common.{◌≤◌, ◌<◌, get_or, refl, arith, rules, tests}
use Rattle.std.proofs.lemmas.Iterator.{YieldsList-from_range, cases_from_all}
use Rattle.machine_run.proofs.Laws.Below.{all_below}
use Rattle.machine_run.proofs.Laws.Finished.{position, all_ended, one_goes_on}
use Rattle.machine_run.proofs.judge.ended.Goals as goal

pub returns : goal.returns
returns c =
    λ prog counts.
    let s = c.args.state.now in
    all_below c.wide-n.result c.all.result
    (cases_from_all _ _ _ (λ t. get_or c.args.count.now t 0 ≤ position s t)
    (λ t. position s t < get_or c.args.count.now t 0) c.all.ensures.ran
    (YieldsList-from_range 0 c.wide-n.result _ refl (omega arith)) (λ x q k. search (rules, tests))
    (λ x q k. search (rules, tests)))
    (λ h. all_ended s c.requires.0 c.requires.1 prog counts (λ t l. h t (omega (arith, c.wide-n.ensures))))
    (λ t l. one_goes_on s c.requires.0 c.requires.1 prog counts t (omega (arith, c.wide-n.ensures)))
