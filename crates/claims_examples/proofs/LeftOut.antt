-- What level 2 leaves out, on one lane: VS, LOCK, UNLOCK. SL parts the first two at level 1; at level 2 no barrier
-- stands in the lane, and before the LOCK one is left out.
use Prim.Native.Nat.{ℕ, zero, suc, ◌<◌}
use native.Mathlib.Omega.{arith}
use mathlib.Core.Path.{◌≡◌, refl}
use mathlib.Core.List.{[], ◌∷◌}
use Rattle.file_format.specs.declared.accepted.Op.TheVariants.{Store, Lock, Unlock}
use Rattle.file_format.specs.Accepted.{Program}
use Rattle.barrier_placement.specs.declared.cookbook.Barrier.TheVariants.{LS, SS, SL}
use Rattle.barrier_placement.specs.declared.steps.Step.TheVariants.{Skip}
use Rattle.barrier_placement.specs.Chain.{at}
use Rattle.barrier_placement.specs.Place.{stands, due, due_after}
use Rattle.barrier_placement.proofs.Correct.{correct}
use Rattle.barrier_placement.proofs.Laws.Paths.{forward_of}
use Rattle.sheet_format.specs.declared.Level.TheVariants.{Level1, Level2}
use Rattle.sheet_format.specs.Layout.{op, barrier}
use Rattle.sheet_format.specs.Bytes.{sheet_bytes}
use Rattle.sheet_format.specs.Read.{read_sheet}
use Rattle.claims.specs.Claims.{lane_of, chain_of, LeftOut}

-- location 1 is volatile
abbrev kernel : Program
kernel = record {
  locations = 2;
  locks = 1;
  mask = 2;
  records = (1 ∷ 2 ∷ 3 ∷ []) ∷ [];
  lanes = (Store 0 1 ∷ Lock 0 ∷ Unlock 0 ∷ []) ∷ [];
}

pub parted_at_level_1 : lane_of (sheet_bytes Level1 kernel) 0
    ≡ op (Store 0 1) ∷ barrier SL ∷ op (Lock 0) ∷ barrier LS ∷ barrier SS ∷ op (Unlock 0) ∷ []
unfolding sheet_bytes read_sheet stands due due_after
parted_at_level_1 = refl

pub bare_at_level_2 : lane_of (sheet_bytes Level2 kernel) 0 ≡ op (Store 0 1) ∷ op (Lock 0) ∷ op (Unlock 0) ∷ []
unfolding sheet_bytes read_sheet stands due due_after
bare_at_level_2 = refl

-- the lane has no SKIP
no_skip : (p q : ℕ) → at (chain_of kernel 0) p ≡ Skip q → p < q
no_skip zero q e = absurd (let z : ◌≡◌ {A = ℕ} 0 1 = cc in omega arith)
no_skip (suc zero) q e = absurd (let z : ◌≡◌ {A = ℕ} 0 1 = cc in omega arith)
no_skip (suc (suc zero)) q e = absurd (let z : ◌≡◌ {A = ℕ} 0 1 = cc in omega arith)
no_skip (suc (suc (suc p))) q e = absurd (let z : ◌≡◌ {A = ℕ} 0 1 = cc in omega arith)

pub left_out_before_the_lock : LeftOut Level2 kernel (sheet_bytes Level2 kernel) 0 SL 1
unfolding sheet_bytes read_sheet stands due due_after
left_out_before_the_lock = record {
  operation = Lock 0;
  here = refl;
  put = (stands (chain_of kernel 0) SL, correct (chain_of kernel 0) SL (forward_of (chain_of kernel 0) no_skip), refl);
  dropped = refl;
}
