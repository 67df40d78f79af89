-- `text_listing::whole::put_lanes` meets its contract. What is written so far are the lines of the first t lanes.
use Prim.Native.Nat.{◌+◌}
use mathlib.Core.Path.{◌≡◌}
use Prim.Native.Nat.{◌*◌, ◌≤◌}
use lib.ListN.{length, take, drop}
use Rattle.sheet_format.specs.Read.{read_lanes, counts}
use Rattle.sheet_format.specs.Put.{Puts}
use Rattle.text_listing.specs.Listing.{sheet_lines}
use Rattle.text_listing.proofs.Laws.Sheet.{total}
use Rattle.text_listing.proofs.whole.put_lanes.Given as goal

abbrev pub invariant-loop-t : goal.invariant-loop-t
invariant-loop-t l = (length l.out ≡ length l.initial.out) ×
    (l.from ≡ 16 + 8 * total (take l.t (counts l.sheet)))
    × (l.at ≤ l.start + 3342285 * l.t) × (l.from ≤ 16 + 524280 * l.t)
    × Puts l.initial.out l.start (sheet_lines 0 (read_lanes (take l.t (counts l.sheet)) (drop 16 l.sheet))) l.out l.at
