-- `machine_lane::lane::Lane::append` meets its contract.
use Prim.Native.Nat.{◌<◌}
use mathlib.Core.Path.{◌≡◌, refl}
use native.Mathlib.Numerals.{add-one}
use native.Mathlib.Omega.{arith}
use lib.ListN.{length}
use lib.Seq.{take-suc-set, get_or-set_same}
use Rattle.machine_lane.specs.Lanes.{entries_of, entry_of}
use Rattle.machine_lane.proofs.Laws.Entries.{entries_set}
use Rattle.machine_lane.proofs.Laws.Lanes.{room, pending_length, lane_eq}
use Rattle.machine_lane.proofs.lane.Lane.append.Goals as goal

pub bounds-c-n : goal.bounds-c-n
bounds-c-n c = omega (arith, pending_length c.args.self.now (omega arith) (omega arith))

pub bounds-v-n : goal.bounds-v-n
bounds-v-n c = omega (arith, pending_length c.args.self.now (omega arith) (omega arith))

pub overflow_add-self : goal.overflow_add-self
overflow_add-self c = omega (arith, pending_length c.args.self.now (omega arith) (omega arith))

pub returns : goal.returns
returns c =
    let l = c.args.self.now in
    let cells : length l.cells ≡ 64 = omega arith in
    let values : length l.values ≡ 64 = omega arith in
    let low : l.len < 64 = omega (arith, pending_length l cells values) in
    record {
      lane = lane_eq refl refl refl
          (rw (add-one, entries_set l.cells l.values l.len c.args.cell c.args.value)
          (take-suc-set (entries_of l.cells l.values) l.len (entry_of c.args.cell c.args.value)
          (omega (arith, room l cells values))));
      len = add-one l.len;
      cell = get_or-set_same l.cells l.len c.args.cell 0 (omega arith);
      value = get_or-set_same l.values l.len c.args.value 0 (omega arith);
    }
