-- `file_chains::targets::strays` meets its contract.
use borrow.Author.Tests.{eq-eqb}
use lib.ListN.{get_or}
use mathlib.Core.Bool.{not}
use mathlib.Core.Path.{◌∙◌, refl, sym, ap, ap₂}
use native.Mathlib.Omega.{arith}
use Rattle.file_format.specs.Targets.{unreachable_target}
use Rattle.file_chains.specs.Reach.{reached}
use Rattle.file_format.proofs.Laws.Rules.{target_small}
use Rattle.file_chains.proofs.Laws.Reach.{strays_as}
use Rattle.file_chains.proofs.targets.strays.Goals as goal

pub bounds-place-x : goal.bounds-place-x
bounds-place-x c =
    let small = target_small c.args.s.now c.requires.s_bound.1 c.args.i c.requires.s_bound.2 c.requires.s_bound.3 in
    omega (arith, c.whole_word-x.ensures.0, c.requires.s_value.1.1.place_room)

pub returns-then-x-ne0 : goal.returns-then-x-ne0
returns-then-x-ne0 c =
    let small = target_small c.args.s.now c.requires.s_bound.1 c.args.i c.requires.s_bound.2 c.requires.s_bound.3 in
    ap not
    (c.reaches.ensures
    ∙ ap₂ (reached c.args.ends.now) c.from.ensures
    (c.from-then-x-ne0.ensures ∙ ap (λ x. get_or c.args.place.now x 0) (c.whole_word-x.ensures.0)))
    ∙ strays_as c.requires.s_value.1.1 c.requires.s_value.0 c.args.i c.requires.s_bound.2 c.requires.s_bound.3
    (λ z. c.if-x-ne0.true (c.whole_word-x.ensures.0 ∙ z)) small

pub returns-else-x-ne0 : goal.returns-else-x-ne0
unfolding unreachable_target
returns-else-x-ne0 c =
    let none = c.if-x-ne0.false in
    rw (eq-eqb _ _ none, eq-eqb _ _ (sym (c.whole_word-x.ensures.0) ∙ none)) refl
