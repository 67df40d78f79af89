-- `machine_run::judge::legal_moves` meets its contract. The test so far, with that of the moves left, is that of all.
use Prim.Native.Nat.{ℕ, ◌+◌, ◌*◌}
use mathlib.Core.Path.{◌≡◌, refl, ◌∙◌}
use native.Mathlib.Omega.{arith}
use Rattle.machine_run.proofs.Laws.Legal.{legal_more, legal_all}
use Rattle.machine_run.proofs.judge.legal_moves.Goals as goal

twice-more : (k : ℕ) → 2 * (k + 1) ≡ 2 * k + 2
twice-more k = omega arith

pub loop-k-init : goal.loop-k-init
loop-k-init c = (refl, refl)

pub loop-k-preserved : goal.loop-k-preserved
loop-k-preserved c = (
  c.loop-k.invariant.0,
  rw c.legal_move-legal.ensures
      (rw (twice-more c.loop-k.k) (legal_more c.args.n c.args.limit c.args.moves.now (2 * c.loop-k.k)
      c.loop-k.legal (omega (arith, c.loop-k.invariant.0)) ∙ c.loop-k.invariant.1)),
)

pub returns : goal.returns
returns c =
    legal_all c.args.n c.args.limit c.args.moves.now (2 * c.loop-k.k) c.loop-k.legal
    (omega (arith, c.loop-k.invariant.0))
    ∙ c.loop-k.invariant.1
