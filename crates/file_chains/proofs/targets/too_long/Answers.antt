-- `file_chains::targets::too_long` meets its contract.
use Prim.Native.Nat.{◌+◌}
use lib.ListN.{get_or}
use mathlib.Core.Path.{◌≡◌, ◌∙◌, refl, sym, ap}
use native.Mathlib.Numerals.{add-one}
use native.Mathlib.Omega.{arith}
use Rattle.file_format.specs.Linkage.{chain_too_long}
use Rattle.file_format.specs.Named.{named}
use Rattle.file_format.proofs.Laws.Named.{names_it}
use Rattle.file_format.proofs.Laws.Search.{first_on, first_found, first_none}
use Rattle.file_chains.specs.Ordered.{begin_of}
use Rattle.file_chains.proofs.Laws.Places.{end_fits, none_over, one_over}
use Rattle.file_chains.proofs.targets.too_long.Goals as goal

pub loop-end-init : goal.loop-end-init
unfolding chain_too_long
loop-end-init c = (omega arith, refl, refl)

pub returns-then-from-end : goal.returns-then-from-end
returns-then-from-end c =
    let over = one_over c.requires.1 c.loop-end.end-index c.loop-end-test.true (omega arith) in
    let value : c.from.result ≡ get_or c.args.order.now (begin_of c.args.ends.now c.loop-end.end-index + 64) 0 =
    c.from.ensures ∙ ap (λ n. get_or c.args.order.now (n + 64) 0) c.loop-end.invariant.1 in
    let some : c.from.result ≡ 0 → ⊥ = λ z. omega (arith, over.1) in
    names_it some (first_found _ _ _ c.loop-end-test.true (value ∙ over.0) some c.loop-end.invariant.2)

pub loop-end-preserved : goal.loop-end-preserved
loop-end-preserved c = (
  end_fits c.requires.1 c.loop-end.end-index,
  sym (ap (begin_of c.args.ends.now) (add-one c.loop-end.end-index)),
  first_on _ _ _ c.loop-end-test.true
      (none_over c.requires.1 c.loop-end.end-index c.loop-end-test.true (omega arith)) refl c.loop-end.invariant.2,
)

pub returns : goal.returns
returns c = ap named (first_none _ _ _ c.loop-end-test.false c.loop-end.invariant.2)
