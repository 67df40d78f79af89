-- Each schedule of a target has its source schedule, and the two runs share what is compared.
use mathlib.Core.Path.{◌≡◌, refl, ap, ◌∙◌, sym, subst}
use mathlib.Core.Bool.{Bool, false≢true}
use mathlib.Core.List.{List, [], ◌∷◌, ◌++◌, map, foldl-append}
use Prim.Native.Nat.{ℕ, suc}
use native.Mathlib.Omega.{arith}
use lib.ListN.{length, get_or, length-map, get_or-map}
use Rattle.laws.proofs.Lists.{map-ext}
use Rattle.file_format.specs.declared.accepted.Op.{Op}
use Rattle.barrier_placement.specs.Layout.{Placed, operations, start}
use Rattle.barrier_placement.proofs.Laws.Layout.{start_zero}
use Rattle.sheet_format.specs.Layout.{op, sheet, rank}
use Rattle.machine_spec.specs.declared.Machine.TheVariants.{Source, Target}
use Rattle.machine_spec.specs.declared.Model.{Model}
use Rattle.machine_spec.specs.Step.{Control, Core, Turn, turn}
use Rattle.machine_spec.specs.Schedule.{Move}
use Rattle.machine_spec.specs.State.{Lane, State, Run, Outcome, ran, refused, idle, lane_at, pos_at, core_of, set_lane}
use Rattle.machine_spec.specs.State.{load_row, apply_turn, move_turn, advance, run, start_state, begin, at_start}
use Rattle.machine_spec.specs.View.{ended_at, finished, observe, saw}
use Rattle.claims.specs.Schedules.{keep, keep_move, source_schedule}
use Rattle.claims.proofs.Fenced.{AllFenced, kernel_program, sheet_program}
use Rattle.claims.proofs.Laws.Lanes.{set_lane_own, set_lane_count, set_lane_both, start_each}
use Rattle.machine_spec.proofs.Laws.Finished.{finished_same}
use Rattle.claims.proofs.Laws.Sheets.{rank_cells, ended_cells}
use Rattle.claims.proofs.Stands.{Stands}
use Rattle.claims.proofs.OpAgrees.{Agrees, wait, refuse, passed_by, act}
use Rattle.claims.proofs.LaneAgrees.{turn_agrees}
use Rattle.claims.proofs.Exposed.{exposed_nil, ordered_nil}

-- a source lane and the target's lane that it matches
pub record LaneFollows (m : Model) (vol : ℕ → Bool) (ps : List (Placed Op)) (a b : Lane) : Type 0 where
  pub regs : a.regs ≡ b.regs
  pub pending : a.pending ≡ b.pending
  pub stands : Stands m vol ps a.control.pos b.control b.pending

pub record Follows (m : Model) (vol : ℕ → Bool) (ks : List (List (Placed Op))) (a b : State) : Type 0 where
  pub lanes : (t : ℕ) → LaneFollows m vol (get_or ks t []) (lane_at a t) (lane_at b t)
  pub count : length a.lanes ≡ length b.lanes
  pub memory : a.memory ≡ b.memory
  pub locks : a.locks ≡ b.locks

pub data Matched (m : Model) (vol : ℕ → Bool) (ks : List (List (Placed Op))) : Outcome → Outcome → Type 0 where
  both_ran : {r s : Run} → r.row ≡ s.row → Follows m vol ks r.state s.state → Matched m vol ks (ran r) (ran s)
  both_refused : {t k : ℕ} → Matched m vol ks (refused t k) (refused t k)

module _ (m : Model) (vol : ℕ → Bool) (ks : List (List (Placed Op))) where
  follows_put : (a b : State) → Follows m vol ks a b → (t : ℕ) (i k : Control) (d : Core)
      → Stands m vol (get_or ks t []) i.pos k d.pending → Follows m vol ks (set_lane a t i d) (set_lane b t k d)
  follows_put a b h t i k d st = record {
    lanes = set_lane_both (λ n. LaneFollows m vol (get_or ks n [])) a b h.count h.lanes t i k d d
        (record { regs = refl; pending = refl; stands = st });
    count = set_lane_count a t i d ∙ h.count ∙ sym (set_lane_count b t k d);
    memory = refl;
    locks = refl;
  }

  same_core : (a b : State) → Follows m vol ks a b → (t : ℕ) → core_of a (lane_at a t) ≡ core_of b (lane_at b t)
  same_core a b h t =
      λ i. record
      { regs = (h.lanes t).regs i; pending = (h.lanes t).pending i; memory = h.memory i; locks = h.locks i }

  module _ (f : (t : ℕ) → AllFenced m vol (get_or ks t [])) where
    pub source_turn : (a b : State) → Follows m vol ks a b → (mv : Move)
        → move_turn Source vol (kernel_program ks) a mv
        ≡ turn Source vol (suc mv.lane) (map op (operations (get_or ks mv.lane [])))
        (lane_at a mv.lane).control (core_of b (lane_at b mv.lane)) mv.choice
    source_turn a b h mv =
        rw (get_or-map (λ ps. map op (operations ps)) ks mv.lane [], same_core a b h mv.lane) refl

    pub lane_agrees : (a b : State) → Follows m vol ks a b → (mv : Move)
        → Agrees m vol (get_or ks mv.lane []) (pos_at a mv.lane) (core_of b (lane_at b mv.lane))
        (move_turn (Target m) vol (sheet_program ks) b mv) (move_turn Source vol (kernel_program ks) a mv)
    lane_agrees a b h mv =
        rw (source_turn a b h mv, get_or-map sheet ks mv.lane [])
        (turn_agrees m vol (get_or ks mv.lane []) (f mv.lane) (suc mv.lane) _ _
        (core_of b (lane_at b mv.lane)) (h.lanes mv.lane).stands mv.choice)

    same_rank : (a b : State) → Follows m vol ks a b → (t : ℕ)
        → rank (get_or (kernel_program ks) t []) (pos_at a t) ≡ rank (get_or (sheet_program ks) t []) (pos_at b t)
    same_rank a b h t =
        let st = (h.lanes t).stands in
        rw (get_or-map (λ ps. map op (operations ps)) ks t [], get_or-map sheet ks t [], st.place)
        (sym (rank_cells (start (get_or ks t [])) (get_or ks t []) (pos_at a t) st.passed st.within))

    pub step_matched : (r s : Run) → r.row ≡ s.row → Follows m vol ks r.state s.state → (mv : Move)
        → Matched m vol ks (run Source vol (kernel_program ks) (ran r) (keep_move m vol (sheet_program ks) (ran s) mv))
        (advance (Target m) vol (sheet_program ks) (ran s) mv)
    step_matched r s e h mv = go _ _ (lane_agrees a b h mv) refl
      where
        a : State
        a = r.state

        b : State
        b = s.state

        t : ℕ
        t = mv.lane

        ps : List (Placed Op)
        ps = get_or ks t []

        c : Core
        c = core_of b (lane_at b t)

        go : (u' u : Turn) → Agrees m vol ps (pos_at a t) c u' u → move_turn Source vol (kernel_program ks) a mv ≡ u
            → Matched m vol ks (run Source vol (kernel_program ks) (ran r) (keep mv u'))
            (apply_turn s t (rank (get_or (sheet_program ks) t []) (pos_at b t)) u')
        go u' u wait k = both_ran e h
        go u' u refuse k = rw (k, same_rank a b h t) both_refused
        go u' u (passed_by {k = j} st) k =
            both_ran e
            (subst (λ (z : State). Follows m vol ks z (set_lane b t j c))
            (ap (set_lane a t (lane_at a t).control) (sym (same_core a b h t)) ∙ set_lane_own a t)
            (follows_put a b h t (lane_at a t).control j c st))
        go u' u (act {j = j} {j' = j'} {d = d} {v = v} st) k =
            rw (k, same_rank a b h t)
            (both_ran (ap (λ l. l ++ load_row t (rank (get_or (sheet_program ks) t []) (pos_at b t)) v) e)
            (follows_put a b h t j j' d st))

    advance_matched : (o o' : Outcome) → Matched m vol ks o o' → (mv : Move)
        → Matched m vol ks (run Source vol (kernel_program ks) o (keep_move m vol (sheet_program ks) o' mv))
        (advance (Target m) vol (sheet_program ks) o' mv)
    advance_matched o o' (both_ran {r = r} {s = s} e h) mv = step_matched r s e h mv
    advance_matched o o' both_refused mv = both_refused

    pub matching : (mvs : List Move) (o o' : Outcome) → Matched m vol ks o o'
        → Matched m vol ks (run Source vol (kernel_program ks) o (source_schedule m vol (sheet_program ks) o' mvs))
        (run (Target m) vol (sheet_program ks) o' mvs)
    matching [] o o' h = h
    matching (mv ∷ mvs) o o' h = rw foldl-append (matching mvs _ _ (advance_matched o o' h mv))

  same_end : (a b : State) → Follows m vol ks a b → (t : ℕ)
      → ended_at (kernel_program ks) a t ≡ ended_at (sheet_program ks) b t
  same_end a b h t =
      let st = (h.lanes t).stands in
      rw (get_or-map (λ ps. map op (operations ps)) ks t [], get_or-map sheet ks t [], st.place)
      (sym (ended_cells (start (get_or ks t [])) (get_or ks t []) (pos_at a t) st.passed st.within))

  same_finish : (a b : State) → Follows m vol ks a b → finished (kernel_program ks) a ≡ finished (sheet_program ks) b
  same_finish a b h =
      finished_same (kernel_program ks) (sheet_program ks) a b
      (length-map ks (λ ps. map op (operations ps)) ∙ sym (length-map ks sheet)) h.count (same_end a b h)
      (λ t. (h.lanes t).pending)

  -- what is compared is the same
  pub observed : (o o' : Outcome) → Matched m vol ks o o' → observe (kernel_program ks) o
      ≡ observe (sheet_program ks) o'
  observed o o' both_refused = refl
  observed o o' (both_ran {r = r} {s = s} e h) =
      let regs =
      map-ext (λ (l : Lane). l.regs) idle r.state.lanes s.state.lanes h.count (λ i. (h.lanes i).regs) in
      let pend =
      map-ext (λ (l : Lane). l.pending) idle r.state.lanes s.state.lanes h.count
      (λ i. (h.lanes i).pending) in
      λ i. saw (record {
        row = e i;
        finished = same_finish r.state s.state h i;
        regs = regs i;
        memory = h.memory i;
        locks =
            h.locks i;
        pending = pend i;
      })

  -- lanes at their start with nothing pending match themselves
  start_follows : (s : State) → ((t : ℕ) → ((lane_at s t).control ≡ at_start) × ((lane_at s t).pending ≡ []))
      → Follows m vol ks s s
  start_follows s z =
      record {
        lanes = λ t. record { regs = refl; pending = refl; stands = at_start_lem t };
        count = refl;
        memory =
            refl;
        locks = refl;
      }
    where
      at_start_lem : (t : ℕ)
          → Stands m vol (get_or ks t []) (lane_at s t).control.pos (lane_at s t).control (lane_at s t).pending
      at_start_lem t = rw ((z t).0, (z t).1) (record {
        passed = 0;
        place = omega (arith, start_zero (get_or ks t []));
        within = omega arith;
        safe = λ b v e. absurd (false≢true (sym (exposed_nil b vol 0 [] refl) ∙ e));
        ordered = ordered_nil m vol 0;
      })

  pub begin_matched : (n : ℕ) (mem : List ℕ) (l : ℕ)
      → Matched m vol ks (begin (start_state n mem l)) (begin (start_state n mem l))
  begin_matched n mem l =
      both_ran refl (start_follows (start_state n mem l)
      (start_each (λ x. (x.control ≡ at_start) × (x.pending ≡ [])) n mem l (refl, refl) (refl, refl)))
