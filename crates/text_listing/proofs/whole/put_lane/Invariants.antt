-- `text_listing::whole::put_lane` meets its contract. What is written so far are the lines of the first p instructions.
use Prim.Native.Nat.{◌+◌}
use mathlib.Core.Path.{◌≡◌}
use Prim.Native.Nat.{◌*◌, ◌≤◌}
use lib.ListN.{length, drop}
use Rattle.sheet_format.specs.Read.{read_rows}
use Rattle.sheet_format.specs.Put.{Puts}
use Rattle.text_listing.specs.Listing.{lane_lines}
use Rattle.text_listing.proofs.whole.put_lane.Given as goal

abbrev pub invariant-loop-p : goal.invariant-loop-p
invariant-loop-p l = (length l.out ≡ length l.initial.out) × (l.row ≡ l.from + 8 * l.p) ×
    (l.at ≤ l.start + 51 * l.p)
    × Puts l.initial.out l.start (lane_lines l.lane 0 (read_rows l.p (drop l.from l.sheet))) l.out l.at
