-- `sheet_lanes::codes::Encoder::put_own` meets its contract.
use Prim.Native.Nat.{◌+◌}
use mathlib.Core.Path.{refl, ap, ◌∙◌}
use native.Mathlib.Omega.{arith}
use lib.ListN.{take, drop, length-drop}
use lib.Seq.{sets, take-take, length-take-le}
use Rattle.laws.proofs.Bytes.{eight_taken}
use Rattle.sheet_format.specs.Bytes.{quad_bytes}
use Rattle.sheet_lanes.specs.Put.{beginning}
use Rattle.sheet_lanes.proofs.Laws.Put.{half_over, own_skip, own_copy}
use mathlib.Core.List.{◌++◌}
use Rattle.sheet_lanes.proofs.codes.Encoder.put_own.Goals as goal

pub returns-then-rows-from-eq7 : goal.returns-then-rows-from-eq7
returns-then-rows-from-eq7 c =
    let s = drop c.args.from c.args.rows.now in
    let copied = c.copy_eight.ensures
    ∙ ap (sets c.args.out.now c.args.at) (eight_taken c.args.rows.now c.args.from c.requires.1) in
    let target =
    c.beginning-target.ensures ∙ ap (beginning c.args.self.level c.args.plan.now) c.from.ensures in
    c.put_quad.ensures.bytes
    ∙ ap (λ z. sets z (c.args.at + 4) (quad_bytes c.beginning-target.result)) copied
    ∙ half_over c.args.out.now c.args.at (take 8 s) (quad_bytes c.beginning-target.result)
    (length-take-le 8 s (omega (arith, length-drop c.args.from c.args.rows.now, c.requires.1))) refl
    ∙ ap (λ z. sets c.args.out.now c.args.at (z ++ quad_bytes c.beginning-target.result))
    (take-take 4 8 s (omega arith))
    ∙ ap (sets c.args.out.now c.args.at)
    (own_skip c.args.self.level c.args.plan.now c.args.rows.now c.args.from c.if-rows-from-eq7.true target)

pub returns-else-rows-from-eq7 : goal.returns-else-rows-from-eq7
returns-else-rows-from-eq7 c =
    c.copy_eight.ensures
    ∙ ap (sets c.args.out.now c.args.at) (eight_taken c.args.rows.now c.args.from c.requires.1
    ∙ own_copy c.args.self.level c.args.plan.now c.args.rows.now c.args.from c.if-rows-from-eq7.false)
