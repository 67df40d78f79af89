-- The text of the state at the end of a run: counts, finished, memory, lock words, and each lane.
use Rattle.std.specs.Prelude.{ℕ, cond, List, [], ◌∷◌, ◌++◌, length}
use Rattle.sheet_format.specs.Put.{in_turn}
use Rattle.machine_spec.specs.Run.{Answer}
use Rattle.machine_record.specs.Fields.{Fields, fields_in, fields_of}
use Rattle.text_put.specs.Words.{newline, named}
use Rattle.text_run.specs.Words.{done_count, waited_count, finished_yes, finished_no, memory_word, locks_word}
use Rattle.text_run.specs.Lanes.{numbers_line, lane_text}

abbrev pub counts_line : Fields → List ℕ
counts_line f = named done_count f.done ++ named waited_count f.waited ++ newline ∷ []

abbrev pub finished_line : Fields → List ℕ
finished_line f = cond f.finished finished_yes finished_no ++ newline ∷ []

abbrev pub memory_line : Fields → ℕ → List ℕ
memory_line f locations = numbers_line memory_word f.memory locations

abbrev pub locks_line : Fields → ℕ → List ℕ
locks_line f locks = numbers_line locks_word f.lock locks

unfoldable pub text_by : Fields → ℕ → ℕ → ℕ → List ℕ
text_by f lanes locations locks =
    counts_line f ++ finished_line f ++ memory_line f locations ++ locks_line f locks ++ in_turn (lane_text f) lanes

-- from the bytes of a state record
abbrev pub state_text : List ℕ → ℕ → ℕ → ℕ → List ℕ
state_text s = text_by (fields_in s)

-- of the answer of a run
abbrev pub answer_text : Answer → List ℕ
answer_text a =
    text_by (fields_of a) (length a.state.lanes) (length a.state.memory) (length a.state.locks)
