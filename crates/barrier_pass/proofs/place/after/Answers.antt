-- `barrier_pass::place::after` meets its contract.
use Prim.Native.Nat.{◌+◌, ◌*◌}
use mathlib.Core.Path.{◌≡◌, refl, ◌∙◌, ap}
use mathlib.Core.Bool.{Bool, true, false, not, ◌&&◌, ◌||◌}
use lib.Bits.{bit_and, bit_xor}
use Rattle.barrier_placement.specs.Cookbook.{number_of}
use Rattle.barrier_placement.specs.Placed.{bit, bit_of}
use Rattle.barrier_placement.proofs.Laws.Bits.{differ, bit_or_lem, bit_and_lem, bit_xor_lem}
use Rattle.barrier_placement.proofs.Laws.Bytes.{spread}
use Rattle.barrier_pass.proofs.place.after.Goals as goal

-- what is taken out of a set is no longer there
taken_out : (t u : Bool) → differ t (t && u) ≡ (not u && t)
taken_out true true = refl
taken_out true false = refl
taken_out false true = refl
taken_out false false = refl

pub returns : goal.returns
returns c = λ b d.
    let j = 4 * number_of d + bit_of b in
    let met = bit_and c.args.due (c.args.stood * 4369) in
    bit_or_lem (bit_xor c.args.due met) c.args.new j
    ∙ ap (λ (t : Bool). t || bit c.args.new j)
    (bit_xor_lem c.args.due met j
    ∙ ap (differ (bit c.args.due j))
    (bit_and_lem c.args.due (c.args.stood * 4369) j
    ∙ ap (λ (t : Bool). bit c.args.due j && t) (spread c.args.stood c.requires b d))
    ∙ taken_out (bit c.args.due j) (bit c.args.stood (bit_of b)))
