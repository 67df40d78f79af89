-- `file_chains::targets::bad_target` meets its contract.
use mathlib.Core.Path.{◌∙◌, sym, ap}
use native.Mathlib.Omega.{arith}
use Rattle.file_format.specs.Search.{lowest}
use Rattle.file_format.specs.Targets.{bad_target}
use Rattle.file_format.proofs.Laws.Named.{found_named, none_found}
use Rattle.file_format.proofs.Laws.Rules.{few_records}
use Rattle.file_format.proofs.Laws.Search.{search_start, search_on}
use Rattle.file_chains.proofs.targets.bad_target.Goals as goal

pub loop-i-init : goal.loop-i-init
unfolding bad_target
loop-i-init c = search_start _ 1 c.from-n.result ∙ ap (lowest _ 1) (c.from-n.ensures ∙ c.word_at.ensures.0)

pub strays-requires : goal.strays-requires
strays-requires c =
    record {
      s_bound = (
        few_records _ c.requires.fielded.header,
        c.requires.fielded.records,
        omega arith,
        omega arith,
        omega (arith, c.requires.fielded.sized),
      );
      s_value = c.requires.s_value;
    }

pub returns-then-strays : goal.returns-then-strays
returns-then-strays c =
    found_named _ _ _ (omega arith) (omega arith) (sym c.strays.ensures ∙ c.if-strays.true) c.loop-i.invariant

pub loop-i-preserved : goal.loop-i-preserved
loop-i-preserved c = search_on _ _ _ (omega arith) (sym c.strays.ensures ∙ c.if-strays.false) c.loop-i.invariant

pub returns : goal.returns
returns c = none_found _ _ _ (omega arith) c.loop-i.invariant
