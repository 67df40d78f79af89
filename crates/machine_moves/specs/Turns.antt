-- A run before its first move.
use Rattle.std.specs.Prelude.{ℕ, List, []}
use Rattle.machine_spec.specs.declared.Machine.{Machine}
use Rattle.machine_state.specs.States.{Blocks}
use Rattle.machine_course.specs.declared.course.Course.{Course}
use Rattle.machine_course.specs.Stands.{Stands}

-- on some file
pub record Fresh (rows : List ℕ) (x : Course) (h : Blocks) : Type 0 where
  pub file : List ℕ
  pub machine : Machine
  pub stands : Stands file machine [] rows x h
