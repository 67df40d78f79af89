-- `file_chains::targets::bad_target` meets its contract.
use Prim.Native.Nat.{◌+◌, ◌-◌}
use mathlib.Core.Path.{◌≡◌}
use Rattle.file_format.specs.Search.{lowest}
use Rattle.file_format.specs.Targets.{unreachable_target, bad_target}
use Rattle.file_chains.proofs.targets.bad_target.Given as goal

abbrev pub invariant-loop-i : goal.invariant-loop-i
invariant-loop-i l = lowest (unreachable_target l.s) l.i (l.n + 1 - l.i) ≡ bad_target l.s
