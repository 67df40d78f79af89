-- `text_run::numbers::put_numbers_line` meets its contract. What is written behind the word are the first i numbers.
use Prim.Native.Nat.{◌+◌, ◌*◌, ◌≤◌}
use Rattle.sheet_format.specs.Put.{Puts}
use Rattle.text_run.specs.Lanes.{spaced, number_at}
use Rattle.text_run.proofs.numbers.put_numbers_line.Given as goal

abbrev pub invariant-loop-i : goal.invariant-loop-i
invariant-loop-i l =
    (l.at ≤ l.initial.at + 11 * l.i) ×
    Puts l.initial.out l.initial.at (spaced (number_at l.s l.base l.width) l.i) l.out l.at
