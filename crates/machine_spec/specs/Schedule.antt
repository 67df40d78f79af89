-- Schedules: rows of moves, and which of them refusal 10 lets through.
use Rattle.std.specs.Prelude.{Bool, true, ◌&&◌, List, [], ◌∷◌, ℕ, ltb, leb}
use Rattle.machine_spec.specs.declared.Machine.{Machine}
use Rattle.machine_spec.specs.declared.Machine.TheVariants.{Source, Target}
use Rattle.machine_spec.specs.declared.Model.TheVariants.{Tso, Pso}

pub record Move : Type 0 where
  pub lane : ℕ
  pub choice : ℕ

abbrev pub move : ℕ → ℕ → Move
move t k = record { lane = t; choice = k }

-- the highest choice
abbrev pub limit : Machine → ℕ
limit Source = 64
limit (Target Tso) = 1
limit (Target Pso) = 64

-- each move names a lane below n and a choice up to k
abbrev pub legal : ℕ → ℕ → List Move → Bool
legal n k [] = true
legal n k (mv ∷ mvs) = ltb mv.lane n && leb mv.choice k && legal n k mvs
