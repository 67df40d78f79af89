-- `machine_lane::lane::Lane::newest` meets its contract.
use mathlib.Core.Path.{◌≡◌, refl, ap, sym, ◌∙◌}
use Prim.Native.Nat.{suc, ◌-◌}
use native.Mathlib.Omega.{arith}
use borrow.Author.Tests.{eq-eqb, ne_eqb}
use lib.ListN.{take}
use Rattle.laws.proofs.Parts.{take_length_take}
use Rattle.machine_spec.specs.Entries.{newest}
use Rattle.machine_lane.specs.Lanes.{entries_of}
use Rattle.machine_lane.proofs.Laws.Searches.{newest_on}
use Rattle.machine_lane.proofs.lane.Lane.newest.Goals as goal

pub loop-i-init : goal.loop-i-init
loop-i-init c =
    let es = entries_of c.args.self.now.cells c.args.self.now.values in
    ap (newest c.args.cell c.args.otherwise)
    (ap (λ n. take n es) c.count-i.ensures.0 ∙ take_length_take c.args.self.now.len es)

pub returns-then-c-i : goal.returns-then-c-i
returns-then-c-i c =
    let l = c.args.self.now in
    let j = c.loop-i.i - 1 in
    let on : c.loop-i.i ≡ suc j = omega arith in
    sym (rw on at (sym c.loop-i.invariant)
    ∙ newest_on l.cells l.values (omega arith) (omega arith) c.args.cell c.args.otherwise j (omega arith) (omega arith)
    ∙ rw (eq-eqb _ _ c.if-c-i.true) refl)

pub loop-i-preserved : goal.loop-i-preserved
loop-i-preserved c =
    let l = c.args.self.now in
    let j = c.loop-i.i - 1 in
    let on : c.loop-i.i ≡ suc j = omega arith in
    sym (newest_on l.cells l.values (omega arith) (omega arith)
    c.args.cell c.args.otherwise j (omega arith) (omega arith)
    ∙ rw (ne_eqb _ _ c.if-c-i.false) refl) ∙ rw on at c.loop-i.invariant

pub returns : goal.returns
returns c =
    let at_end : c.loop-i.i ≡ 0 = omega arith in
    rw at_end at c.loop-i.invariant
