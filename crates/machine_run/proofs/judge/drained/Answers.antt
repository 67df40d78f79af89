-- `machine_run::judge::drained` meets its contract. In the lanes passed nothing is pending.
use Rattle.std.proofs.Common.{◌≡◌, refl, arith, rules, tests}
use Rattle.std.proofs.lemmas.Iterator.{YieldsList-from_range, cases_from_all}
use Rattle.machine_run.proofs.Laws.Below.{all_below}
use Rattle.machine_run.proofs.Laws.Finished.{pending_count, all_drained, one_pending}
use Rattle.machine_run.proofs.judge.drained.Goals as goal

pub returns : goal.returns
returns c =
    let s = c.args.state.now in
    all_below c.wide-n.result c.all.result
    (cases_from_all _ _ _ (λ t. pending_count s t ≡ 0) (λ t. pending_count s t ≡ 0 → ⊥) c.all.ensures.ran
    (YieldsList-from_range 0 c.wide-n.result _ refl (omega arith)) (λ x q k. search (rules, tests))
    (λ x q k. search (rules, tests)))
    (λ h. all_drained s c.requires.0 c.requires.1 (λ t l. h t (omega (arith, c.wide-n.ensures))))
    (λ t l. one_pending s c.requires.0 c.requires.1 t (omega (arith, c.wide-n.ensures)))
