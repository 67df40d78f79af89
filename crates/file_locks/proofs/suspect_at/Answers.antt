-- `file_locks::suspect_at` meets its contract.
use Prim.Native.Nat.{◌-◌, ◌/◌, ◌^◌}
use mathlib.Core.Bool.{◌||◌, cond}
use mathlib.Core.Path.{◌≡◌, ◌∙◌}
use borrow.Author.Tests.{eq-eqb, ne_eqb}
use lib.Bits.{bit_and}
use lib.Dec.{eqb}
use Rattle.laws.proofs.Bools.{first_of, second_of}
use Rattle.file_locks.specs.Sets.{meets, differ}
use Rattle.file_locks.proofs.Laws.Locks.{some_or}
use Rattle.file_locks.proofs.suspect_at.Goals as goal
use Rattle.file_locks.proofs.suspect_at.Goals.{then-code-eq5, else-code-eq5}

pub returns : goal.returns
returns c =
    let names : c.if-code-eq5.named ≡ cond (eqb c.args.code 5) (16 - c.args.bit) c.args.bit =
    elim c.if-code-eq5.branch [
      | then-code-eq5 w ↦ w.named-is ∙ first_of _ _ (eq-eqb _ _ w.if-code-eq5.true)
      | else-code-eq5 w ↦ w.named-is ∙ second_of _ _ (ne_eqb _ _ w.if-code-eq5.false)
    ] in
    some_or (bit_and c.args.w (c.args.w / 2 ^ 4)) (bit_and c.barred.result c.if-code-eq5.named)
    ∙ (λ k. differ c.args.w || meets (c.barred.ensures k) (names k))
