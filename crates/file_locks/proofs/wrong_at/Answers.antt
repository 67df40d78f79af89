-- `file_locks::wrong_at` meets its contract.
use Prim.Native.Nat.{◌/◌, ◌^◌}
use mathlib.Core.Bool.{◌||◌}
use mathlib.Core.Path.{ap, ◌∙◌}
use lib.Bits.{bit_and}
use Rattle.file_locks.specs.Sets.{meets, differ}
use Rattle.file_locks.proofs.Laws.Locks.{some_or}
use Rattle.file_locks.proofs.wrong_at.Goals as goal

pub returns : goal.returns
returns c =
    some_or (bit_and c.args.w (c.args.w / 2 ^ 4)) (bit_and c.barred.result c.args.bit)
    ∙ ap (λ x. differ c.args.w || meets x c.args.bit) c.barred.ensures
