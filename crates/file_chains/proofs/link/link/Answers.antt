-- `file_chains::link::link` meets its contract. At each lane the rest of the walk gives the whole answer.
use mathlib.Core.Path.{refl, sym, ◌∙◌, ap}
use native.Mathlib.Omega.{arith}
use Rattle.std.proofs.lemmas.Result.{err_from_is_err_and}
use Rattle.file_format.specs.Search.{lowest}
use Rattle.file_format.proofs.Laws.Named.{is_named, none_named}
use Rattle.file_format.proofs.Laws.Rules.{few_records, head_range}
use Rattle.file_format.proofs.Laws.Linkage.{linkage_found}
use Rattle.file_chains.proofs.Laws.Walks.{lane_as}
use Rattle.file_chains.proofs.Laws.Lanes.{linking_start, linking_on, linking_end, linking_full, linked}
use Rattle.file_chains.proofs.link.link.Goals as goal

pub loop-t-init : goal.loop-t-init
loop-t-init c = (
  linking_start _ _ _
      (few_records _ c.requires.fields.header) c.requires.room.0 c.requires.room.1 c.requires.blank,
  refl,
  refl,
)

pub walk-requires : goal.walk-requires
walk-requires c = (
  omega (arith, c.head_of.ensures.0, head_range _ c.requires.fields.header _ c.loop-t-test.true),
  c.loop-t.invariant.0.few,
  c.requires.fields.records,
  c.loop-t.invariant.0.filling,
)

pub returns-in_err-k : goal.returns-in_err-k
returns-in_err-k c =
    let p = err_from_is_err_and c.from_residual.result c.from_residual.ensures.1 in
    let twice = c.in_err-k.ensures in
    rw (p.1, p.2) (
      twice.0,
      linkage_found _ _ _ 4 c.loop-t-test.true (lane_as c.head_of.ensures.0 twice.1.1).flags twice.0
          c.loop-t.invariant.0.answer,
    )

pub loop-t-preserved : goal.loop-t-preserved
loop-t-preserved c = (
  linking_on c.loop-t.invariant.0 c.loop-t-test.true (lane_as c.head_of.ensures.0 c.in_ok-k.ensures) refl,
  omega arith,
  omega arith,
)

pub returns-then-k-n : goal.returns-then-k-n
returns-then-k-n c =
    let fine =
    sym (linking_full c.loop-t.invariant.0 (omega arith) (c.if-k-n.true ∙ c.from-n.ensures ∙ c.word_at.ensures.0)) in
    (fine, linked c.loop-t.invariant.0 (omega arith) fine)

pub returns-in-Some : goal.returns-in-Some
returns-in-Some c =
    let it = is_named _ c.in-Some.ensures in (
      it.1,
      it.0 ∙ ap (lowest _ 1) (c.from-n.ensures ∙ c.word_at.ensures.0) ∙ linking_end c.loop-t.invariant.0 (omega arith),
    )

pub returns-in-None : goal.returns-in-None
returns-in-None c =
    let fine =
    sym (ap (lowest _ 1) (c.from-n.ensures ∙ c.word_at.ensures.0) ∙ linking_end c.loop-t.invariant.0 (omega arith))
    ∙ none_named _ c.in-None.ensures in
    (fine, linked c.loop-t.invariant.0 (omega arith) fine)
