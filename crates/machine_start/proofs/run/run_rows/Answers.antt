-- `machine_start::run::run_rows` meets its contract.
use Rattle.machine_start.proofs.Laws.Start.{mask_small, begins_zeroed}
use Rattle.machine_start.proofs.run.run_rows.Goals as goal

pub flags_of-flags-requires : goal.flags_of-flags-requires
flags_of-flags-requires c = mask_small c.requires.start.program

pub run_lanes-requires : goal.run_lanes-requires
run_lanes-requires c =
    let b = begins_zeroed c.requires.start.program c.flags_of-flags.ensures.1 c.parts_of-parts.ensures
    c.extent_of-extent.ensures.lanes
    c.extent_of-extent.ensures.locations
    c.extent_of-extent.ensures.locks in
    record {
      room = c.requires.room;
      start =
          record { file = c.requires.start.file; kernel = c.requires.start.kernel; begins = b };
    }

pub returns : goal.returns
returns c =
    λ s k p.
    let b = begins_zeroed p c.flags_of-flags.ensures.1 c.parts_of-parts.ensures
    c.extent_of-extent.ensures.lanes c.extent_of-extent.ensures.locations c.extent_of-extent.ensures.locks in
    c.run_lanes.ensures s k b
