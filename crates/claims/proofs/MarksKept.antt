-- On every machine each mark stands behind an entry that is pending, and only the pso machine leaves any: theorem
-- `marks_kept`.
use mathlib.Core.Path.{◌≡◌, refl, ap, sym, subst}
use mathlib.Core.Bool.{Bool, true, false, cond}
use mathlib.Core.List.{List, [], ◌∷◌, ◌++◌}
use mathlib.Core.Logic.{◌≢◌}
use mathlib.Core.Option.{Option, none, some}
use Prim.Native.Nat.{ℕ, zero, suc, ◌^◌, ◌<◌}
use native.Mathlib.Decide.{dec_lt}
use native.Mathlib.Omega.{arith}
use lib.ListN.{length, get_or, get_elem?, take, length-append}
use lib.Pow.{pow-lt}
use lib.Seq.{set_out}
use Rattle.barrier_placement.specs.declared.cookbook.Barrier.{Barrier}
use Rattle.sheet_format.specs.Layout.{Instr, op, barrier}
use Rattle.machine_spec.specs.Entries.{Entry, append_entry}
use Rattle.machine_spec.specs.declared.Machine.{Machine}
use Rattle.machine_spec.specs.declared.Machine.TheVariants.{Source, Target}
use Rattle.machine_spec.specs.declared.Model.TheVariants.{Tso, Pso}
use Rattle.machine_spec.specs.Marks.{after_ss, after_commit}
use Rattle.machine_spec.specs.Rules.{may_commit, may_pass, leaves_mark}
use Rattle.machine_spec.specs.Step.{Control, Core, Turn, waits, refuses, passes, does, permits, holds, emit, marks_past}
use Rattle.machine_spec.specs.Step.{execute, commit, turn}
use Rattle.machine_spec.specs.Schedule.{Move}
use Rattle.machine_spec.specs.State.{Lane, State, Run, Outcome, ran, refused, idle, lane_at, core_of, lane_of, set_lane}
use Rattle.machine_spec.specs.State.{start_state, apply_turn, move_turn, advance, run, begin}
use Rattle.machine_spec.specs.Shape.{MarksBehind, Unmarked}
use Rattle.machine_spec.proofs.Laws.Marks.{ss_behind, commit_behind}
use Rattle.claims.proofs.Laws.Lanes.{set_lane_each, start_each}
use Rattle.claims.proofs.Laws.Pending.{length_without}

no_mark_left : (m : Machine) → m ≢ Target Pso → (b : Barrier) → leaves_mark m b ≡ false
no_mark_left Source ne b = refl
no_mark_left (Target Tso) ne b = refl
no_mark_left (Target Pso) ne b = absurd (ne refl)

module _ (m : Machine) where
  -- of a lane, and of what its turn leaves
  abbrev Kept : ℕ → List Entry → Type 0
  Kept ks es = (ks < 2 ^ length es) × (m ≢ Target Pso → ks ≡ 0)

  abbrev After : Turn → Type 0
  After waits = Unit {0}
  After refuses = Unit {0}
  After (passes k c) = Kept k.marks c.pending
  After (does k c v) = Kept k.marks c.pending

  after_either : (b : Bool) (u v : Turn) → After u → After v → After (cond b u v)
  after_either true u v p q = p
  after_either false u v p q = q

  append_kept : (ks : ℕ) (es : List Entry) (x : Option Entry) → Kept ks es → Kept ks (append_entry es x)
  append_kept ks es none h = h
  append_kept ks es (some e) h =
      let more : length es < length (es ++ (e ∷ [])) = omega (arith, length-append es (e ∷ [])) in
      (omega (arith, h.0, pow-lt more), h.1)

  pass_kept : (b : Barrier) (ks : ℕ) (es : List Entry) → Kept ks es → Kept (marks_past m b es ks) es
  pass_kept b ks es h = (go (leaves_mark m b), λ ne. rw (no_mark_left m ne b) (h.1 ne))
    where
      go : (x : Bool) → cond x (after_ss (length es) ks) ks < 2 ^ length es
      go true = ss_behind (length es) ks h.0
      go false = h.0

  module _ (vol : ℕ → Bool) (w : ℕ) (k : Control) (c : Core) (h : Kept k.marks c.pending) where
    execute_kept : (i : Option Instr) → After (execute m vol w k c i)
    execute_kept none = tt
    execute_kept (some (op o)) =
        after_either (permits m vol c o) _ waits
        (after_either (holds w c o) _ refuses (append_kept k.marks c.pending (emit c o) h) tt) tt
    execute_kept (some (barrier b)) =
        after_either (may_pass m b c.pending) _ waits (pass_kept b k.marks c.pending h) tt

    commit_kept : (i : ℕ) (e : Option Entry) → get_elem? c.pending i ≡ e → After (commit m vol k c i e)
    commit_kept i none at = tt
    commit_kept i (some e) at =
        after_either (may_commit m vol k.marks (take i c.pending) e) _ waits (
          commit_behind _ k.marks (subst (λ n. k.marks < 2 ^ n) (length_without c.pending i e at) h.0),
          λ ne. ap after_commit (h.1 ne),
        ) tt

    turn_kept : (prog : List Instr) (n : ℕ) → After (turn m vol w prog k c n)
    turn_kept prog zero = execute_kept (get_elem? prog k.pos)
    turn_kept prog (suc i) = commit_kept i (get_elem? c.pending i) refl

  -- of every lane of a state
  abbrev All : State → Type 0
  All s = (t : ℕ) → Kept (lane_at s t).control.marks (lane_at s t).pending

  -- a lane that is put, or one past the last, which is not
  put_kept : (s : State) (t : ℕ) (k : Control) (c : Core) → All s → Kept k.marks c.pending
      → All (set_lane s t k c)
  put_kept s t k c h p = go (dec_lt t (length s.lanes))
    where
      go : Dec (t < length s.lanes) → All (set_lane s t k c)
      go (yes lt) = set_lane_each (λ u l. Kept l.control.marks l.pending) s t k c lt p (λ u ne. h u)
      go (no ge) = λ u.
          subst (λ (ls : List Lane). Kept (get_or ls u idle).control.marks (get_or ls u idle).pending)
          (sym (set_out s.lanes t (lane_of k c) (omega arith))) (h u)

  abbrev AllOut : Outcome → Type 0
  AllOut (ran r) = All r.state
  AllOut (refused t p) = Unit {0}

  apply_kept : (r : Run) (t p : ℕ) (u : Turn) → All r.state → After u → AllOut (apply_turn r t p u)
  apply_kept r t p waits h a = h
  apply_kept r t p refuses h a = tt
  apply_kept r t p (passes k c) h a = put_kept r.state t k c h a
  apply_kept r t p (does k c v) h a = put_kept r.state t k c h a

  module _ (vol : ℕ → Bool) (prog : List (List Instr)) where
    advance_kept : (o : Outcome) (mv : Move) → AllOut o → AllOut (advance m vol prog o mv)
    advance_kept (refused t p) mv h = tt
    advance_kept (ran r) mv h =
        apply_kept r mv.lane _ (move_turn m vol prog r.state mv) h
        (turn_kept vol (suc mv.lane) _ (core_of r.state (lane_at r.state mv.lane)) (h mv.lane)
        (get_or prog mv.lane []) mv.choice)

    run_kept : (mvs : List Move) (o : Outcome) → AllOut o → AllOut (run m vol prog o mvs)
    run_kept [] o h = h
    run_kept (mv ∷ mvs) o h = run_kept mvs (advance m vol prog o mv) (advance_kept o mv h)

    pub marks_kept : (n : ℕ) (mem : List ℕ) (l : ℕ) (mvs : List Move) (r : Run)
        → run m vol prog (begin (start_state n mem l)) mvs ≡ ran r
        → MarksBehind r.state × (m ≢ Target Pso → Unmarked r.state)
    marks_kept n mem l mvs r e =
        let all : All r.state =
        subst AllOut e (run_kept mvs (begin (start_state n mem l))
        (start_each (λ x. Kept x.control.marks x.pending) n mem l (omega arith, λ ne. refl)
        (omega arith, λ ne. refl))) in
        (λ t. (all t).0, λ ne t. (all t).1 ne)
