-- `barrier_pass::table::width_table` meets its contract: one test of every set.
use Prim.Native.Nat.{ℕ, ◌<◌}
use mathlib.Core.Path.{◌≡◌, refl}
use mathlib.Core.Bool.{true}
use mathlib.Core.List.{List, [], ◌∷◌}
use lib.Dec.{eqb}
use lib.ListN.{get_or}
use borrow.Author.Tests.{eqb-true}
use Rattle.laws.proofs.Numbers.{values_at}
use Rattle.barrier_pass.specs.Plan.{width_number}
use Rattle.barrier_pass.proofs.table.width_table.Goals as goal

abbrev table : List ℕ
table =
    2105376 ∷ 2105408 ∷ 2105408 ∷ 2105440 ∷ 4202560 ∷ 4202592 ∷ 4202592 ∷ 4202624
    ∷ 4210752 ∷ 4210784 ∷ 4210784 ∷ 4210816 ∷ 6307936 ∷ 6307968 ∷ 6307968 ∷ 6308000
    ∷ 2105376 ∷ 2105408 ∷ 2105408 ∷ 2105440 ∷ 4202560 ∷ 4202592 ∷ 4202592 ∷ 4202624
    ∷ 2105408 ∷ 2105440 ∷ 2105440 ∷ 2105472 ∷ 4202592 ∷ 4202624 ∷ 4202624 ∷ 4202656
    ∷ []

width_is : (x : ℕ) → x < 32 → get_or table x 0 ≡ width_number x
width_is x h =
    eqb-true (get_or table x 0) (width_number x)
    (values_at (λ k. eqb (get_or table k 0) (width_number k)) (λ k. true) 32 x refl h)

pub returns : goal.returns
returns c = record { each = width_is }
