-- `sheet_lanes::codes::second_codes` meets its contract: one test of every set.
use mathlib.Core.Path.{refl}
use Rattle.sheet_format.specs.declared.Level.TheVariants.{Level2}
use Rattle.sheet_lanes.proofs.Laws.Put.{codes_by}
use Rattle.sheet_lanes.proofs.codes.second_codes.Goals as goal

pub returns : goal.returns
returns c = codes_by Level2 _ refl
