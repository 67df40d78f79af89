-- The answer that a run returns: all of the definition's but for the row of loaded values, which the code does not
-- keep.
use Rattle.std.specs.Prelude.{◌≡◌, List, map, ◌≤◌, length, take}
use Rattle.machine_spec.specs.Schedule.{Move, move}
use Rattle.machine_spec.specs.State.{State}
use Rattle.machine_spec.specs.Run.{Answer}
use Rattle.machine_lane.specs.Lanes.{lane_in}
use Rattle.machine_state.specs.States.{Blocks, state_in}
use Rattle.machine_record.specs.SmallStates.{Small}
use Rattle.machine_course.specs.declared.moves.Move.{Move as Declared}
use Rattle.machine_course.specs.declared.finish.End.{End}
use Rattle.machine_course.specs.declared.finish.Ran.{Ran}

-- the state that is returned
abbrev pub end_state : End → State
end_state e =
    record {
      lanes = take e.extent.lanes (map lane_in e.lanes);
      memory = take e.extent.locations e.memory;
      locks = take e.extent.locks e.locks;
    }

-- a state that `End` has room for, and that can be written
pub record Fits (s : State) : Type 0 where
  pub memory : length s.memory ≤ 16
  pub locks : length s.locks ≤ 4
  pub small : Small s

abbrev pub Holds : Blocks → End → Type 0
Holds s e = end_state e ≡ state_in s

-- r is the answer a
pub record Answers (r : Ran) (a : Answer) : Type 0 where
  pub refusal : r.refusal ≡ a.refusal
  pub state : end_state r.end ≡ a.state
  pub finished : r.finished ≡ a.finished
  pub done : r.done ≡ a.done
  pub waited : r.waited ≡ a.waited

-- the moves of a slice of move structs
abbrev pub move_in : Declared → Move
move_in d = move d.lane d.choice

abbrev pub moves_of : List Declared → List Move
moves_of = map move_in
