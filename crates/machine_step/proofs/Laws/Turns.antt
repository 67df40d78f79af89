-- Laws of a lane's turn on the borrowed state: a wait, a refusal, a move that is done.
use Rattle.std.proofs.Common.{◌≡◌, ℕ, ◌+◌, ◌-◌, ◌<◌, Bool, false, List, refl, ap, ◌∙◌, arith, le-ltb, lt-ltb}
use mathlib.Core.Option.{Option}
use Rattle.file_format.specs.declared.accepted.Op.{Op}
use Rattle.sheet_format.specs.Layout.{op}
use Rattle.machine_spec.specs.Entries.{write, release}
use Rattle.machine_spec.specs.Step.{Control, Core, waits, refuses, passes, does, permits}
use Rattle.machine_spec.specs.State.{lane_of as placed, set_lane}
use Rattle.machine_spec.specs.declared.Machine.{Machine}
use Rattle.machine_state.specs.declared.state.Moved.TheVariants.{Waited, Done, ReleaseNotHeld}
use Rattle.machine_lane.specs.Lanes.{entry_of, lane_in}
use Rattle.machine_state.specs.States.{Blocks, stored_in, lane_of, core_in, state_in, Sized, with_lane, Became, Shared}
use Rattle.machine_step.specs.Turns.{Took, Carried}

pub took_wait : (s : Blocks) (t : ℕ) → Sized s → Took s t waits Waited s
took_wait s t h = record { answer = refl; sized = h; lanes = refl; state = refl }

-- an operation that is not permitted
pub not_permitted : (m : Machine) (f : ℕ → Bool) (s : Blocks) (t : ℕ) (o : Op)
    → permits m f (core_in s t) o ≡ false → Sized s → Carried m f (op o) t s Waited s
not_permitted m f s t o e h = rw e (took_wait s t h)

pub took_refusal : (s : Blocks) (t : ℕ) → Sized s → Took s t refuses ReleaseNotHeld s
took_refusal s t h = record { answer = refl; sized = h; lanes = refl; state = refl }

-- memory and the lock words stay
pub kept : (s : Blocks) → Sized s → Shared s (state_in s).memory (state_in s).locks s
kept s h = record { sized = h; each = λ t k. refl; lanes = refl; state = refl }

-- another lane, memory and lock words
module _ (s d e : Blocks) (t : ℕ) (k : Control) (c : Core) (w : Shared s c.memory c.locks d)
    (b : Became d t (placed k c) e) where
  state_after : state_in e ≡ set_lane (state_in s) t k c
  state_after = b.state ∙ ap (λ x. with_lane x t (placed k c)) w.state

  pub took_does : (v : Option ℕ) → Took s t (does k c v) Done e
  took_does v = record { answer = refl; sized = b.sized; lanes = b.lanes ∙ w.lanes; state = state_after }

  pub took_passes : Took s t (passes k c) Done e
  took_passes = record { answer = refl; sized = b.sized; lanes = b.lanes ∙ w.lanes; state = state_after }

-- a lane stays where memory and lock words change
pub same_lane : {s e : Blocks} {t : ℕ} {m l : List ℕ} → Shared s m l e → t < 4 → lane_of e t ≡ lane_of s t
same_lane {t = t} w h = ap (λ b. lane_in (stored_in b)) (w.each t h)

-- the entries of a STORE and of an UNLOCK
pub write_of : (x v : ℕ) → x < 16 → entry_of x v ≡ write x v
write_of x v h = rw (lt-ltb x 16 h) refl

pub release_of : (l v : ℕ) → entry_of (16 + l) v ≡ release l
release_of l v = let e : 16 + l - 16 ≡ l = omega arith in rw (le-ltb (16 + l) 16 (omega arith), e) refl
