-- `file_chains::targets::too_long` meets its contract.
use Prim.Native.Nat.{◌-◌, ◌≤◌}
use lib.ListN.{length, get_or}
use mathlib.Core.Path.{◌≡◌}
use Rattle.file_format.specs.Fields.{head}
use Rattle.file_format.specs.Search.{first_of}
use Rattle.file_format.specs.Linkage.{chain, chain_too_long}
use Rattle.file_chains.specs.Ordered.{begin_of}
use Rattle.file_chains.proofs.targets.too_long.Given as goal

abbrev pub invariant-loop-end : goal.invariant-loop-end
invariant-loop-end l = (l.from ≤ length l.order)
    × (l.from ≡ begin_of l.ends l.end-index)
    × (first_of (λ n. get_or (chain l.s 65 (head l.s n)) 64 0) l.end-index (4 - l.end-index) ≡ chain_too_long l.s)
