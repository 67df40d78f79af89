-- Laws of finished runs: what is the same in each lane is finished alike, and a finished run is over.
use Prim.Native.Nat.{ℕ, zero, suc, ◌+◌, ◌<◌}
use mathlib.Core.Path.{◌≡◌, refl, ap, ◌∙◌}
use mathlib.Core.Bool.{Bool, true}
use mathlib.Core.List.{List, [], ◌∷◌}
use mathlib.Core.Option.{Option, none, some}
use native.Mathlib.Decide.{dec_lt}
use native.Mathlib.Omega.{arith}
use lib.ListN.{length, get_or, get_elem?, get_or-eq_default}
use Rattle.laws.proofs.Bools.{and_true}
use Rattle.sheet_format.specs.Layout.{Instr}
use Rattle.machine_spec.specs.Entries.{Entry, is_nil}
use Rattle.machine_spec.specs.declared.Machine.{Machine}
use Rattle.machine_spec.specs.Step.{waits}
use Rattle.machine_spec.specs.Schedule.{Move, move}
use Rattle.machine_spec.specs.State.{State, Run, ran, idle, lane_at, pos_at, move_turn, run}
use Rattle.machine_spec.specs.View.{is_none, ended_at, ended, drained, finished}
use Rattle.machine_spec.proofs.Laws.Every.{every_ext, every_at}

-- two programs with as many lanes, in two states with as many: lanes at their ends alike, and pending lists the same
pub finished_same : (p q : List (List Instr)) (a b : State) → length p ≡ length q
    → length a.lanes ≡ length b.lanes → ((t : ℕ) → ended_at p a t ≡ ended_at q b t)
    → ((t : ℕ) → (lane_at a t).pending ≡ (lane_at b t).pending)
    → finished p a ≡ finished q b
finished_same p q a b lanes states ends pends =
    rw (lanes, states, every_ext (length q) ends, every_ext (length b.lanes) (λ t. ap is_nil (pends t)))

nil_of : (es : List Entry) → is_nil es ≡ true → es ≡ []
nil_of [] h = refl
nil_of (e ∷ es) h = cc

none_of : (i : Option Instr) → is_none i ≡ true → i ≡ none
none_of none h = refl
none_of (some i) h = cc

-- a lane of a finished run stands at its end, and has nothing pending
module _ (prog : List (List Instr)) (s : State) (f : finished prog s ≡ true) where
  parts : (ended prog s ≡ true) × (drained s ≡ true)
  parts = and_true (ended prog s) (drained s) f

  ended_there : (t : ℕ) → get_elem? (get_or prog t []) (pos_at s t) ≡ none
  ended_there t = go (dec_lt t (length prog))
    where
      go : Dec (t < length prog) → get_elem? (get_or prog t []) (pos_at s t) ≡ none
      go (yes l) = none_of _ (every_at (length prog) (ended_at prog s) parts.0 t l)
      go (no l) = ap (λ is. get_elem? is (pos_at s t)) (get_or-eq_default prog [] (omega arith))

  drained_there : (t : ℕ) → (lane_at s t).pending ≡ []
  drained_there t = go (dec_lt t (length s.lanes))
    where
      go : Dec (t < length s.lanes) → (lane_at s t).pending ≡ []
      go (yes l) = nil_of _ (every_at (length s.lanes) (λ t. is_nil (lane_at s t).pending) parts.1 t l)
      go (no l) = ap (λ l. l.pending) (get_or-eq_default s.lanes idle (omega arith))

  -- so every move waits
  pub finished_waits : (m : Machine) (vol : ℕ → Bool) (mv : Move) → move_turn m vol prog s mv ≡ waits
  finished_waits m vol mv = go mv.choice
    where
      go : (c : ℕ) → move_turn m vol prog s (move mv.lane c) ≡ waits
      go zero = rw (ended_there mv.lane) refl
      go (suc i) = rw (drained_there mv.lane) refl

-- the run with so many moves waited
abbrev pub with_waited : Run → ℕ → Run
with_waited r n = record { state = r.state; row = r.row; done = r.done; waited = n }

-- and a finished run is over: with whatever moves after it, it stays as it is
pub finished_over : (m : Machine) (vol : ℕ → Bool) (prog : List (List Instr)) (mvs : List Move) (r : Run)
    → finished prog r.state ≡ true
    → run m vol prog (ran r) mvs ≡ ran (with_waited r (r.waited + length mvs))
finished_over m vol prog [] r f = ap (λ n. ran (with_waited r n)) (omega arith)
finished_over m vol prog (mv ∷ mvs) r f =
    rw (finished_waits prog r.state f m vol mv)
    (finished_over m vol prog mvs (with_waited r (suc r.waited)) f ∙ ap (λ n. ran (with_waited r n)) (omega arith))
