-- `machine_lane::lane::Lane::commit` meets its contract.
use mathlib.Core.Path.{◌≡◌, refl, ap, ◌∙◌}
use Prim.Native.Nat.{suc, ◌≤◌, ◌<◌, ◌-◌}
use native.Mathlib.Numerals.{add-one}
use native.Mathlib.Omega.{arith}
use lib.ListN.{length, take, length-set}
use Rattle.laws.proofs.Parts.{take_length_take}
use Rattle.machine_spec.specs.Entries.{without}
use Rattle.machine_lane.specs.Lanes.{entries_of}
use Rattle.machine_lane.proofs.Laws.Entries.{entries_length, moved_down, shifted}
use Rattle.machine_lane.proofs.Laws.Lanes.{lane_eq}
use Rattle.machine_lane.proofs.lane.Lane.commit.Goals as goal

pub loop-i-init : goal.loop-i-init
loop-i-init c = record { cells = omega arith; values = omega arith; moved = refl }

pub loop-i-preserved : goal.loop-i-preserved
loop-i-preserved c =
    let h : suc c.loop-i.i < 64 = omega arith in
    record {
      cells = length-set c.loop-i.c _ _ ∙ c.loop-i.invariant.cells;
      values = length-set c.loop-i.v _ _ ∙ c.loop-i.invariant.values;
      moved = rw add-one
          (moved_down c.loop-i.c c.loop-i.v c.loop-i.i c.loop-i.invariant.cells c.loop-i.invariant.values h
          ∙ c.loop-i.invariant.moved);
    }

pub returns : goal.returns
returns c =
    let es = entries_of c.args.self.cells c.args.self.values in
    let last = c.count-last.result - 1 in
    let h : c.args.index ≤ last = omega arith in
    let at_end : c.loop-i.i ≡ last = omega arith in
    let inside : last < length (entries_of c.loop-i.c c.loop-i.v) =
    omega (arith, entries_length 64 c.loop-i.c c.loop-i.v c.loop-i.invariant.cells c.loop-i.invariant.values) in
    let kept : take last (entries_of c.loop-i.c c.loop-i.v) ≡ without c.args.index (take (suc last) es) =
    shifted _ es c.args.index last inside h (rw at_end at c.loop-i.invariant.moved) in
    let whole : suc last ≡ length (take c.args.self.len es) = omega arith in
    let rest : take (suc last) es ≡ take c.args.self.len es =
    ap (λ n. take n es) whole ∙ take_length_take c.args.self.len es in
    lane_eq refl refl refl (kept ∙ ap (without c.args.index) rest)
