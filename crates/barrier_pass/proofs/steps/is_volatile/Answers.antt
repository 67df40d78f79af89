-- `barrier_pass::steps::is_volatile` meets its contract. From location 16 up the mask has no bit: it is below 2 ^ 16.
use Prim.Native.Nat.{ℕ, ◌/◌, ◌%◌, ◌<◌, ◌^◌}
use native.Mathlib.Nat.{lt_of_lt_of_le, div-eq_of_lt}
use native.Mathlib.Omega.{arith}
use mathlib.Core.Path.{◌≡◌, refl, ap, ◌∙◌}
use mathlib.Core.Bool.{Bool, true, false, ◌&&◌, and-true, and-false}
use lib.Dec.{eqb, ltb}
use lib.Pow.{pow_mono}
use borrow.Author.Tests.{ltb-true, ltb-false}
use Rattle.file_format.specs.Accepted.{is_volatile}
use Rattle.barrier_pass.proofs.steps.is_volatile.Goals as goal

both-tests : (mask x : ℕ) → mask < 2 ^ 16 → (eqb (mask / 2 ^ (x % 16) % 2) 1 && ltb x 16) ≡ is_volatile mask x
both-tests mask x h = go (ltb x 16) refl
  where
    go : (u : Bool) → ltb x 16 ≡ u → (eqb (mask / 2 ^ (x % 16) % 2) 1 && u) ≡ is_volatile mask x
    go true e =
        let same : x % 16 ≡ x = omega (arith, ltb-true x 16 e) in
        and-true (eqb (mask / 2 ^ (x % 16) % 2) 1) ∙ ap (is_volatile mask) same
    go false e =
        let small : mask < 2 ^ x = lt_of_lt_of_le h (pow_mono (ltb-false x 16 e)) in
        and-false (eqb (mask / 2 ^ (x % 16) % 2) 1) ∙ rw (div-eq_of_lt small)

pub returns : goal.returns
returns c = both-tests c.args.mask c.args.x c.ranges.mask.fits
