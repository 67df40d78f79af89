-- `file_fields::header::mask_rule` meets its contract.
use Prim.Native.Nat.{◌<◌, ◌^◌, ◌≤◌}
use borrow.Author.Tests.{lt-ltb, le-leb}
use lib.Pow.{pow_mono}
use mathlib.Core.Path.{sym, ◌∙◌}
use native.Mathlib.Omega.{arith}
use Rattle.file_fields.proofs.header.mask_rule.Goals as goal

pub returns-then-ls-ge16 : goal.returns-then-ls-ge16
returns-then-ls-ge16 c =
    let wide : 2 ^ 16 ≤ 2 ^ c.args.ls = pow_mono c.if-ls-ge16.true in
    let less : c.args.mask < 2 ^ c.args.ls = omega arith in
    le-leb _ _ c.if-ls-ge16.true ∙ sym (lt-ltb _ _ less)
