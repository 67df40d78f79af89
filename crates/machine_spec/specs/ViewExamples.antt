-- What is compared of a run, and which schedules count, by computation: a kernel of two lanes on the
-- source and the tso machine.
use Rattle.std.specs.Prelude.{◌≡◌, refl, true, false, List, [], ◌∷◌, ◌++◌, map, ℕ}
use Rattle.file_format.specs.declared.accepted.Op.TheVariants.{Set, Add, Load, Store, Lock, Unlock}
use Rattle.file_format.specs.Accepted.{Program}
use Rattle.barrier_placement.specs.Place.{stands, due, due_after}
use Rattle.sheet_format.specs.Bytes.{sheet_bytes}
use Rattle.sheet_format.specs.Read.{read_sheet}
use Rattle.machine_spec.specs.Entries.{write, release}
use Rattle.machine_spec.specs.declared.Machine.{Machine}
use Rattle.machine_spec.specs.declared.Machine.TheVariants.{Source, Target}
use Rattle.machine_spec.specs.declared.Model.TheVariants.{Tso}
use Rattle.machine_spec.specs.Schedule.{Move, move}
use Rattle.machine_spec.specs.State.{Loaded}
use Rattle.machine_spec.specs.Run.{number_in, run_program, shown, counts_as}

-- location 1 is volatile; lane 1 has MFENCE before its LOAD at level 2
abbrev kernel : Program
kernel =
    record {
      locations = 2;
      locks = 2;
      mask = 2;
      records = (1 ∷ 2 ∷ 3 ∷ 4 ∷ 5 ∷ 6 ∷ []) ∷ (7 ∷ 8 ∷ 9 ∷ []) ∷ [];
      lanes =
          (Lock 1 ∷ Set 1 5 ∷ Store 1 0 ∷ Store 1 1 ∷ Load 2 0 ∷ Unlock 1 ∷ [])
          ∷ (Set 0 9 ∷ Store 0 1 ∷ Load 3 1 ∷ [])
          ∷ [];
    }

abbrev took : ℕ → ℕ → ℕ → Loaded
took t p v = record { lane = t; place = p; value = v }

-- lane 0 up to its LOAD; lane 1 up to the commit of its STORE
abbrev opening : List Move
opening =
    move 0 0 ∷ move 0 0 ∷ move 0 0 ∷ move 0 0 ∷ move 0 0 ∷ move 1 0 ∷ move 1 0 ∷ move 1 1 ∷ []

-- the LOAD of lane 1, and the UNLOCK of lane 0
abbrev ending : List Move
ending = opening ++ move 1 0 ∷ move 0 0 ∷ []

-- every lane stands at its end; the stores of lane 0 and its release are pending, so the run is not finished
source_shows : shown (run_program Source kernel ending) ≡ record {
  row = took 0 4 5 ∷ took 1 2 9 ∷ [];
  finished = false;
  regs = (0 ∷ 5 ∷ 5 ∷ 0 ∷ 0 ∷ 0 ∷ 0 ∷ 0 ∷ []) ∷ (9 ∷ 0 ∷ 0 ∷ 9 ∷ 0 ∷ 0 ∷ 0 ∷ 0 ∷ []) ∷ [];
  memory = 0 ∷ 9 ∷ [];
  locks = 0 ∷ 1 ∷ [];
  pending = (write 0 5 ∷ write 1 5 ∷ release 1 ∷ []) ∷ [] ∷ [];
}
source_shows = refl

-- after their commits it is, and memory is another
finished_shows : shown (run_program Source kernel (ending ++ move 0 1 ∷ move 0 1 ∷ move 0 1 ∷ [])) ≡ record {
  row = took 0 4 5 ∷ took 1 2 9 ∷ [];
  finished = true;
  regs = (0 ∷ 5 ∷ 5 ∷ 0 ∷ 0 ∷ 0 ∷ 0 ∷ 0 ∷ []) ∷ (9 ∷ 0 ∷ 0 ∷ 9 ∷ 0 ∷ 0 ∷ 0 ∷ 0 ∷ []) ∷ [];
  memory = 5 ∷ 5 ∷ [];
  locks = 0 ∷ 0 ∷ [];
  pending = [] ∷ [] ∷ [];
}
finished_shows = refl

-- MFENCE first, which is not counted in the LOAD's place; lane 0 has not ended
tso_shows : shown (run_program (Target Tso) kernel (opening ++ move 1 0 ∷ move 1 0 ∷ move 0 1 ∷ [])) ≡ record {
  row = took 0 4 5 ∷ took 1 2 9 ∷ [];
  finished = false;
  regs = (0 ∷ 5 ∷ 5 ∷ 0 ∷ 0 ∷ 0 ∷ 0 ∷ 0 ∷ []) ∷ (9 ∷ 0 ∷ 0 ∷ 9 ∷ 0 ∷ 0 ∷ 0 ∷ 0 ∷ []) ∷ [];
  memory = 5 ∷ 9 ∷ [];
  locks = 0 ∷ 1 ∷ [];
  pending = (write 1 5 ∷ []) ∷ [] ∷ [];
}
unfolding read_sheet sheet_bytes stands due due_after
tso_shows = refl

-- ## limits of schedules: choice 64 and 65, choice 1 and 2, lane T − 1 and T

abbrev number : Machine → Move → ℕ
number m mv = number_in (run_program m kernel (mv ∷ [])).refusal

source_limits : map (number Source) (move 0 64 ∷ move 0 65 ∷ move 1 64 ∷ move 2 0 ∷ []) ≡ 0 ∷ 10 ∷ 0 ∷ 10 ∷ []
source_limits = refl

tso_limits : map (number (Target Tso)) (move 0 1 ∷ move 0 2 ∷ move 1 1 ∷ move 2 0 ∷ []) ≡ 0 ∷ 10 ∷ 0 ∷ 10 ∷ []
unfolding read_sheet sheet_bytes stands due due_after
tso_limits = refl

-- a legal schedule counts as itself, another as the empty one
source_counts :
    map (counts_as Source kernel) ((move 1 64 ∷ move 0 2 ∷ []) ∷ (move 0 0 ∷ move 0 65 ∷ []) ∷ (move 2 0 ∷ []) ∷ [])
    ≡ (move 1 64 ∷ move 0 2 ∷ []) ∷ [] ∷ [] ∷ []
source_counts = refl

tso_counts :
    map (counts_as (Target Tso) kernel) ((move 1 1 ∷ move 0 0 ∷ []) ∷ (move 0 0 ∷ move 0 2 ∷ []) ∷ (move 2 0 ∷ []) ∷ [])
    ≡ (move 1 1 ∷ move 0 0 ∷ []) ∷ [] ∷ [] ∷ []
tso_counts = refl

-- ## ADD is modulo 2^32

abbrev sum : Program
sum =
    record {
      locations = 1;
      locks = 0;
      mask = 0;
      records = (1 ∷ 2 ∷ 3 ∷ []) ∷ [];
      lanes = (Set 6 4294967295 ∷ Set 7 3 ∷ Add 6 7 ∷ []) ∷ [];
    }

add_holds : (shown (run_program Source sum (move 0 0 ∷ move 0 0 ∷ move 0 0 ∷ []))).regs
    ≡ (0 ∷ 0 ∷ 0 ∷ 0 ∷ 0 ∷ 0 ∷ 2 ∷ 3 ∷ []) ∷ []
add_holds = refl
