-- `text_schedule::lines::malformed` meets its contract. What is left from i on has the first malformed line of the
-- whole.
use Prim.Native.Nat.{◌+◌, ◌≤◌}
use mathlib.Core.Path.{◌≡◌}
use lib.ListN.{drop}
use Rattle.text_schedule.specs.declared.place.Place.TheVariants.{Blank}
use Rattle.text_schedule.specs.Text.{malformed_from}
use Rattle.text_schedule.proofs.lines.malformed.Given as goal

abbrev pub invariant-loop-b : goal.invariant-loop-b
invariant-loop-b l =
    (l.line ≤ l.b-index + 1) ×
    (malformed_from l.line l.p (drop l.b-index l.text) ≡ malformed_from 1 Blank l.text)
