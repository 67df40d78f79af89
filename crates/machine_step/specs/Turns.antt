-- A turn of lane t on the borrowed state, and what the code answers.
use Rattle.std.specs.Prelude.{◌≡◌, ℕ, suc, Bool, List}
use Rattle.std.proofs.Math.Option.{Option, some}
use Rattle.std.proofs.Math.ListN.{get_elem?}
use Rattle.sheet_format.specs.Layout.{Instr}
use Rattle.machine_spec.specs.Step.{Turn, waits, refuses, passes, does, execute, commit, turn}
use Rattle.machine_spec.specs.State.{State, set_lane}
use Rattle.machine_spec.specs.declared.Machine.{Machine}
use Rattle.machine_state.specs.declared.state.Moved.{Moved}
use Rattle.machine_state.specs.declared.state.Moved.TheVariants.{Waited, Done, ReleaseNotHeld}
use Rattle.machine_state.specs.States.{Blocks, lane_of, core_in, count_of, state_in, Sized}

-- it carries out an instruction
abbrev pub carries : Machine → (ℕ → Bool) → Blocks → ℕ → Option Instr → Turn
carries m vol s t i = execute m vol (suc t) (lane_of s t).control (core_in s t) i

-- it commits the entry that has i older ones
abbrev pub commits : Machine → (ℕ → Bool) → Blocks → ℕ → ℕ → Turn
commits m vol s t i =
    commit m vol (lane_of s t).control (core_in s t) i (get_elem? (lane_of s t).pending i)

-- it makes choice k of its program
abbrev pub turns : Machine → (ℕ → Bool) → List Instr → Blocks → ℕ → ℕ → Turn
turns m vol prog s t k = turn m vol (suc t) prog (lane_of s t).control (core_in s t) k

abbrev pub moved_by : Turn → Moved
moved_by waits = Waited
moved_by refuses = ReleaseNotHeld
moved_by (passes k c) = Done
moved_by (does k c v) = Done

abbrev pub state_by : State → ℕ → Turn → State
state_by s t waits = s
state_by s t refuses = s
state_by s t (passes k c) = set_lane s t k c
state_by s t (does k c v) = set_lane s t k c

-- the turn u of lane t was answered with q and took s to e
pub record Took (s : Blocks) (t : ℕ) (u : Turn) (q : Moved) (e : Blocks) : Type 0 where
  pub answer : q ≡ moved_by u
  pub sized : Sized e
  pub lanes : count_of e 0 ≡ count_of s 0
  pub state : state_in e ≡ state_by (state_in s) t u

-- lane t had the instruction i to carry out
abbrev pub Carried : Machine → (ℕ → Bool) → Instr → ℕ → Blocks → Moved → Blocks → Type 0
Carried m vol i t s q e = Took s t (carries m vol s t (some i)) q e
