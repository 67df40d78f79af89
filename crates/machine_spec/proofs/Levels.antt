-- Each machine runs the lanes of its level: theorem `program_lanes`. They are as many as the kernel's.
use Prim.Native.Nat.{◌≤◌}
use native.Mathlib.Omega.{arith}
use mathlib.Core.Path.{◌≡◌, sym, ap, ◌∙◌}
use lib.ListN.{length, length-map}
use Rattle.file_format.specs.Accepted.{Program}
use Rattle.file_format.specs.Lawful.{Lawful}
use Rattle.sheet_format.specs.Layout.{sheet}
use Rattle.sheet_format.specs.Levels.{widest, placed, placed_lanes, volatile_in, sheet_lanes}
use Rattle.sheet_format.proofs.Level0.{lawful_lanes0}
use Rattle.sheet_format.proofs.ReadBack.{bytes_back}
use Rattle.machine_spec.specs.declared.Machine.{Machine}
use Rattle.machine_spec.specs.declared.Machine.TheVariants.{Source, Target}
use Rattle.machine_spec.specs.declared.Model.TheVariants.{Tso, Pso}
use Rattle.machine_spec.specs.Run.{level_of, program_for}

pub program_lanes : (k : Program) → Lawful k → (m : Machine) → program_for m k ≡ sheet_lanes (level_of m) k
program_lanes k w Source = sym (lawful_lanes0 k w)
program_lanes k w (Target m) = bytes_back (level_of (Target m)) k w

pub programs_many : (k : Program) → Lawful k → (m : Machine) → length (program_for m k) ≡ length k.lanes
programs_many k w m =
    ap length (program_lanes k w m)
    ∙ length-map (placed_lanes (level_of m) k) sheet
    ∙ length-map k.lanes (placed (level_of m) (volatile_in k))

-- in which an operation makes at most two instructions
pub program_narrow : (m : Machine) → widest (level_of m) ≤ 2
program_narrow Source = omega arith
program_narrow (Target Tso) = omega arith
program_narrow (Target Pso) = omega arith
