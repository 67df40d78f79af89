-- `machine_record::lane::write_entries` meets its contract. What is written is the places passed.
use mathlib.Core.Path.{◌≡◌, ap, ap₂, ◌∙◌}
use native.Mathlib.Omega.{arith}
use lib.ListN.{get_elem?}
use Rattle.sheet_format.specs.Put.{in_turn}
use Rattle.sheet_format.proofs.Laws.Put.{puts_as, puts_length}
use Rattle.machine_spec.specs.Marks.{mark_at}
use Rattle.machine_lane.specs.Lanes.{lane_in}
use Rattle.machine_record.specs.Lanes.{entry_in, place_bytes, entries_bytes}
use Rattle.machine_record.proofs.LaneSizes.{place_length}
use Rattle.machine_record.proofs.Laws.Entries.{place_there, place_free}
use Rattle.sheet_format.proofs.Laws.Turn.{turn_none, turn_on_lem, turn_end}
use Rattle.machine_record.proofs.lane.write_entries.Goals as goal
use Rattle.machine_record.proofs.lane.write_entries.Goals.{then-i-len, else-i-len}

pub loop-i-init : goal.loop-i-init
loop-i-init c = turn_none _

pub write_place-next-requires : goal.write_place-next-requires
write_place-next-requires c =
    let l = lane_in c.args.lane.now in
    let end =
    turn_end (λ k. place_bytes (mark_at l.control.marks k) (get_elem? l.pending k)) 8 c.loop-i.i
    (λ k. place_length (mark_at l.control.marks k) (get_elem? l.pending k)) c.loop-i.invariant in
    record {
      room = omega (arith, end, puts_length c.loop-i.invariant);
      small = elim c.if-i-len.branch [
        | then-i-len w ↦ rw w.entry-is (c.requires.small c.loop-i.i (omega arith))
        | else-i-len w ↦ rw w.entry-is tt
      ];
    }

pub loop-i-preserved : goal.loop-i-preserved
loop-i-preserved c =
    let lane = c.args.lane.now in
    let l = lane_in lane in
    let mark = c.mark_at.ensures ∙ ap (λ k. mark_at k c.loop-i.i) c.marks-marks.ensures in
    let entry : entry_in c.if-i-len.entry ≡ get_elem? l.pending c.loop-i.i = elim c.if-i-len.branch [
      | then-i-len w ↦ ap entry_in w.entry-is
          ∙ place_there lane.cells lane.values lane.len c.loop-i.i (omega arith) (omega arith)
          (omega arith) (omega arith)
      | else-i-len w ↦ ap entry_in w.entry-is
          ∙ place_free lane.cells lane.values lane.len c.loop-i.i (omega arith) (omega arith) (omega arith)
    ] in
    let place = ap₂ place_bytes mark entry in
    turn_on_lem (λ k. place_bytes (mark_at l.control.marks k) (get_elem? l.pending k)) c.loop-i.i c.loop-i.invariant
    (puts_as place c.write_place-next.ensures)

pub returns : goal.returns
unfolding entries_bytes
returns c =
    let l = lane_in c.args.lane.now in
    let last : c.loop-i.i ≡ 64 = omega arith in
    puts_as (ap (in_turn (λ k. place_bytes (mark_at l.control.marks k) (get_elem? l.pending k))) last)
    c.loop-i.invariant
