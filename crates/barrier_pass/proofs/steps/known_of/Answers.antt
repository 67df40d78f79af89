-- `barrier_pass::steps::known_of` meets its contract: the entry is found by the code and the location's bit.
use Prim.Native.Nat.{◌*◌, ◌+◌, ◌<◌, ◌%◌}
use native.Mathlib.Omega.{arith}
use mathlib.Core.Path.{◌≡◌, ap, ◌∙◌}
use mathlib.Core.Bool.{Bool, true, false}
use mir.Val.{bool_byte}
use Rattle.file_format.specs.Accepted.{is_volatile}
use Rattle.barrier_pass.proofs.Laws.Known.{known_entry, known_small}
use Rattle.barrier_pass.proofs.steps.known_of.Goals as goal

one_bit : (u : Bool) → bool_byte u < 2
one_bit true = omega arith
one_bit false = omega arith

pub overflow_mul-i : goal.overflow_mul-i
overflow_mul-i c = omega (arith, one_bit c.is_volatile.result)

pub overflow_add-i : goal.overflow_add-i
overflow_add-i c = omega (arith, one_bit c.is_volatile.result)

pub bounds-tables-from : goal.bounds-tables-from
bounds-tables-from c = omega (arith, one_bit c.is_volatile.result)

pub returns : goal.returns
returns c =
    let at : c.from-2.result ≡ c.args.code % 8 + 8 * bool_byte c.is_volatile.result =
    c.from-2.ensures ∙ ap (λ n. c.args.code % 8 + 8 * n) c.from.ensures in (
      λ o ec eb. rw (c.args.tables.now.by_code, at, c.is_volatile.ensures, ec, eb)
          (known_entry (is_volatile c.args.mask) o),
      rw c.args.tables.now.by_code (known_small _ (omega (arith, one_bit c.is_volatile.result))),
    )
