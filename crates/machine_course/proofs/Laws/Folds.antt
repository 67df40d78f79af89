-- Laws of one move more on a run so far: a run that is refused, a move that is not legal, one that a lane makes.
use Prim.Native.Nat.{ℕ, ◌+◌, ◌-◌, ◌*◌, ◌≤◌, ◌<◌}
use mathlib.Core.Path.{◌≡◌, refl, sym, ap, ap₂, subst, ◌∙◌}
use mathlib.Core.Bool.{Bool, true, false, ◌&&◌}
use mathlib.Core.List.{List, [], ◌∷◌, ◌++◌}
use mathlib.Core.Logic.{inl, inr}
use native.Mathlib.Omega.{arith}
use lib.ListN.{length, get_or, take, drop, replicate, length-append}
use lib.Seq.{take_at, take_all}
use Rattle.laws.proofs.Lists.{get_elem?_seam}
use Rattle.file_format.specs.Accepted.{Program}
use Rattle.file_format.specs.Lawful.{Lawful}
use Rattle.std.specs.Prelude.{None}
use Rattle.std.proofs.lemmas.Option.{none-some}
use Rattle.file_verdict.specs.declared.refusal.Refusal.TheVariants.{IllegalMove}
use Rattle.file_verdict.specs.Verdict.{accepted, verdict}
use Rattle.file_wellformed.proofs.Lawful.{accepted_lawful}
use Rattle.sheet_format.specs.Layout.{Instr}
use Rattle.sheet_format.specs.Read.{read_rows}
use Rattle.machine_spec.specs.Schedule.{Move, limit, legal}
use Rattle.machine_spec.specs.State.{State, start_state, Outcome, ran, refused, run, begin}
use Rattle.machine_spec.specs.Run.{Answer, refused_with, answer_of, start_of, program_for, run_on, run_by}
use Rattle.machine_spec.specs.declared.Machine.{Machine}
use Rattle.machine_lane.specs.Lanes.{flags}
use Rattle.machine_state.specs.declared.state.Moved.{Moved}
use Rattle.machine_state.specs.declared.state.Moved.TheVariants.{Waited, Done, ReleaseNotHeld}
use Rattle.machine_state.specs.Ready.{Movable}
use Rattle.machine_state.specs.States.{Blocks, state_in}
use Rattle.machine_step.specs.Turns.{turns, Took}
use Rattle.machine_run.specs.Runs.{RunnableBy, Ran, Ends, course}
use Rattle.machine_run.proofs.Laws.Runs.{Counted, lane_moves, inside, run_refused, run_counted}
use Rattle.machine_start.proofs.Answered.{not_refused}
use Rattle.machine_start.proofs.Reached.{runs_by}
use Rattle.machine_start.proofs.Laws.Start.{zeroed, zeroed_state}
use Rattle.machine_start.specs.declared.extent.Extent.{Extent}
use Rattle.machine_course.specs.declared.course.Course.{Course}
use Rattle.machine_course.specs.Stands.{answer_by, Prepared, Stands, Started, counted, stopped}
use Rattle.machine_course.proofs.Laws.Legal.{allowed, legal_snoc, Under, under, stays_refused}

snoc_length : (mvs : List Move) (mv : Move) → length (mvs ++ (mv ∷ [])) ≡ length mvs + 1
snoc_length mvs mv = length-append mvs (mv ∷ [])

module _ {s : List ℕ} {m : Machine} {mvs : List Move} {rows : List ℕ} {x : Course} {h : Blocks}
    (so : Stands s m mvs rows x h) (mv : Move) where
  abbrev after : List Move
  after = mvs ++ (mv ∷ [])

  pub still_refused : (x.refusal ≡ None → ⊥) → Stands s m after rows x h
  still_refused never =
      let same = stays_refused m s mvs mv (λ e. never (so.refusal ∙ e)) in
      record {
        sized = so.sized;
        few = omega (arith, so.few, snoc_length mvs mv);
        counted = λ e. absurd (never e);
        refusal = so.refusal ∙ ap (λ (a : Answer). a.refusal) same;
        done = so.done ∙ ap (λ (a : Answer). a.done) same;
        waited = so.waited ∙ ap (λ (a : Answer). a.waited) same;
        state = so.state ∙ ap (λ (a : Answer). a.state) same;
        prepared = so.prepared;
      }

  -- ## a run that is under way
  module _ (z : x.refusal ≡ None) where
    pub here : Under m s mvs
    here = under m s mvs (sym so.refusal ∙ z)

    abbrev k : Program
    k = here.kernel

    abbrev n : ℕ
    n = length k.lanes

    law : Lawful k
    law = accepted_lawful s k here.accepts

    own : Prepared m k rows x h
    own = so.prepared k here.accepts

    abbrev prog : List (List Instr)
    prog = program_for m k

    legal_after : legal n (limit m) after ≡ allowed n (limit m) mv
    legal_after =
        legal_snoc n (limit m) mvs mv
        ∙ ap (λ b. b && allowed n (limit m) mv) here.legals

    -- the code's test
    test : {c width : ℕ} {b : Bool} → c ≡ limit x.machine → width ≡ x.extent.lanes → b ≡ allowed width c mv
        → b ≡ allowed n (limit m) mv
    test ce we be = be ∙ ap₂ (λ p q. allowed p q mv) (we ∙ own.lanes) (ce ∙ ap (λ y. limit y) own.machine)

    answers_by : {a : Answer} → run_by m s (accepted k) after ≡ a → answer_by m s after ≡ a
    answers_by e = ap (λ v. run_by m s v after) here.accepts ∙ e

    -- a move that is not legal
    stops : {c width : ℕ} {b : Bool} {e : Blocks} → c ≡ limit x.machine → width ≡ x.extent.lanes
        → b ≡ allowed width c mv → b ≡ false → Started x.extent.lanes x.extent.locations x.extent.locks e
        → Stands s m after rows (stopped x) e
    stops {e = e} ce we be bad st =
        let illegal = legal_after ∙ sym (test ce we be) ∙ bad in
        let same : answer_by m s after ≡ refused_with (start_of k) IllegalMove = answers_by (rw illegal refl) in
        let few = law.few_lanes in
        let start : state_in e ≡ start_of k =
        st.state (omega (arith, own.lanes, law.few_lanes)) (omega (arith, own.locations, law.few_locations))
        (omega (arith, own.locks, law.few_locks))
        ∙ λ i. start_state (own.lanes i) (replicate (own.locations i) 0) (own.locks i) in
        record {
          sized = st.sized;
          few = omega arith;
          counted = λ e. absurd (none-some IllegalMove (sym e));
          refusal = sym (ap (λ (a : Answer). a.refusal) same);
          done = sym (ap (λ (a : Answer). a.done) same);
          waited = sym (ap (λ (a : Answer). a.waited) same);
          state = start ∙ sym (ap (λ (a : Answer). a.state) same);
          prepared = λ j v. subst (λ q. Prepared m q rows (stopped x) e) (same_kernel j v) (record {
            machine = own.machine;
            volatile = own.volatile;
            lanes = own.lanes;
            locations = own.locations;
            locks = own.locks;
            held = st.lanes ∙ own.lanes;
            first = own.first;
            programs = own.programs;
          });
        }
      where
        same_kernel : (j : Program) → verdict s ≡ accepted j → k ≡ j
        same_kernel j v = let e : accepted k ≡ accepted j = sym here.accepts ∙ v in cc

    -- ## a legal move
    module _ {c width : ℕ} {b : Bool} (ce : c ≡ limit x.machine) (we : width ≡ x.extent.lanes)
        (be : b ≡ allowed width c mv) (good : b ≡ true) where
      lets : legal n (limit m) after ≡ true
      lets = legal_after ∙ sym (test ce we be) ∙ good

      abbrev h₀ : Blocks
      h₀ = zeroed n k.locations k.locks

      start_is : state_in h₀ ≡ start_of k
      start_is =
          zeroed_state n k.locations k.locks law.few_lanes (omega (arith, law.few_locations))
          (omega (arith, law.few_locks))

      runs : RunnableBy m (flags x.volatile) rows x.first x.count after h₀ prog
      runs =
          runs_by s k here.accepts m (flags x.volatile) rows x.first x.count after h₀ prog own.volatile
          refl refl start_is lets own.programs

      same_run : (l : List Move)
          → run m (flags x.volatile) prog (begin (state_in h₀)) l ≡ run_on m k l
      same_run l =
          ap₂ (λ (v : ℕ → Bool) (y : State). run m v prog (begin y) l) own.volatile start_is

      -- what the moves so far came to
      so_far : Ends m (flags x.volatile) (take (length mvs) after) prog h₀ (Ran x.done x.waited) h
      so_far = go (run_on m k mvs) refl
        where
          go : (o : Outcome) → run_on m k mvs ≡ o
              → Ends m (flags x.volatile) (take (length mvs) after) prog h₀ (Ran x.done x.waited) h
          go (refused t p) e = absurd (not_refused s k here.accepts m mvs here.legals t p e)
          go (ran r) e =
              let a : answer_by m s mvs ≡ answer_of prog k.records (start_of k) (ran r) =
              ap (λ v. run_by m s v mvs) here.accepts ∙ rw (here.legals, e) refl in
              let st : r.state ≡ state_in h = sym (so.state ∙ ap (λ (y : Answer). y.state) a) in
              let d : r.done ≡ x.done = sym (so.done ∙ ap (λ (y : Answer). y.done) a) in
              let w : r.waited ≡ x.waited = sym (so.waited ∙ ap (λ (y : Answer). y.waited) a) in
              record {
                sized = so.sized;
                lanes = own.held;
                row = r.row;
                outcome = same_run (take (length mvs) after)
                    ∙ ap (run_on m k) (take_at mvs (mv ∷ []) (length mvs) refl) ∙ e
                    ∙ λ i. ran (record { state = st i; row = r.row; done = d i; waited = w i });
              }

      pub lane_few : mv.lane < 4
      lane_few = omega (arith, runs.lanes, runs.named (length mvs) mv (get_elem?_seam mvs mv []))

      pub can_move : Movable h mv.lane
          (read_rows (get_or x.count mv.lane 0) (drop (get_or x.first mv.lane 0) rows))
      can_move = lane_moves runs (length mvs) mv (get_elem?_seam mvs mv []) x.done x.waited h so.sized so_far

      pub lies_inside : get_or x.first mv.lane 0 + 8 * get_or x.count mv.lane 0 ≤ length rows
      lies_inside = inside runs (length mvs) mv (get_elem?_seam mvs mv [])

      -- ### what it comes to
      module _ (q : Moved) (e : Blocks) (made : Took h mv.lane (turns m (flags x.volatile)
          (read_rows (get_or x.count mv.lane 0) (drop (get_or x.first mv.lane 0) rows)) h mv.lane
          mv.choice) q e)
        where
          abbrev j : ℕ
          j = length mvs

          whole : take (j + 1) after ≡ after
          whole = take_all (j + 1) after (omega (arith, snoc_length mvs mv))

          done_few : x.done ≤ j
          done_few = omega (arith, so.few)

          waits_rest : x.waited ≡ j - x.done
          waits_rest = omega (arith, so.counted z)

          ends : (d : ℕ) → Counted q x.done d → Ends m (flags x.volatile) after prog h₀ (Ran d (j + 1 - d)) e
          ends d u =
              subst (λ l. Ends m (flags x.volatile) l prog h₀ (Ran d (j + 1 - d)) e) whole
              (run_counted runs j mv (get_elem?_seam mvs mv []) x.done x.waited h e q so.sized made so_far d u
              done_few waits_rest)

          module _ (d : ℕ) (u : Counted q x.done d) where
            came : run_on m k after ≡ course e (ends d u).row d (j + 1 - d)
            came = sym (same_run after) ∙ (ends d u).outcome

            answer : answer_by m s after ≡ answer_of prog k.records (start_of k)
                (course e (ends d u).row d (j + 1 - d))
            answer = answers_by (rw (lets, came) refl)

            stands : (y : Course) → Prepared m k rows y e → y.refusal ≡ None → y.done ≡ d
                → y.waited ≡ j + 1 - d → d ≤ j + 1 → Stands s m after rows y e
            stands y p yn yd yw few = record {
              sized = made.sized;
              few = omega (arith, snoc_length mvs mv);
              counted = λ _. omega (arith, snoc_length mvs mv);
              refusal = yn ∙ sym (ap (λ (a : Answer). a.refusal) answer);
              done = yd ∙ sym (ap (λ (a : Answer). a.done) answer);
              waited = yw ∙ sym (ap (λ (a : Answer). a.waited) answer);
              state = sym (ap (λ (a : Answer). a.state) answer);
              prepared = λ i v. subst (λ g. Prepared m g rows y e) (same_kernel i v) p;
            }
              where
                same_kernel : (i : Program) → verdict s ≡ accepted i → k ≡ i
                same_kernel i v = let e : accepted k ≡ accepted i = sym here.accepts ∙ v in cc

          kept : (y : Course) → y.machine ≡ x.machine → y.volatile ≡ x.volatile → y.first ≡ x.first
              → y.count ≡ x.count → y.extent ≡ x.extent → Prepared m k rows y e
          kept y a v f g o = record {
            machine = a ∙ own.machine;
            volatile = ap flags v ∙ own.volatile;
            lanes = ap (λ (n : Extent). n.lanes) o ∙ own.lanes;
            locations = ap (λ (n : Extent). n.locations) o ∙ own.locations;
            locks = ap (λ (n : Extent). n.locks) o ∙ own.locks;
            held = made.lanes ∙ own.held;
            first = f ∙ own.first;
            programs = rw (f, g) own.programs;
          }

          -- the code's count of it
          moves_on : Stands s m after rows (counted x q) e
          moves_on = go q refl
            where
              go : (p : Moved) → q ≡ p → Stands s m after rows (counted x p) e
              go Waited qe =
                  stands x.done (inl (qe, refl)) (counted x Waited) (kept (counted x Waited) refl refl refl refl refl)
                  z refl (omega (arith, waits_rest, done_few)) (omega (arith, done_few))
              go Done qe =
                  stands (x.done + 1) (inr (qe, refl)) (counted x Done) (kept (counted x Done) refl refl refl refl refl)
                  z refl (omega (arith, waits_rest, done_few)) (omega (arith, done_few))
              go ReleaseNotHeld qe =
                  absurd (not_refused s k here.accepts m after lets mv.lane _
                  (sym (same_run after) ∙ (run_refused runs j mv (get_elem?_seam mvs mv []) x.done x.waited h e q
                  so.sized made
                  so_far refl qe).outcome))

-- ## the same of what the code made

module _ {s : List ℕ} {m : Machine} {mvs : List Move} {rows : List ℕ} {x y : Course} {h e : Blocks}
    (so : Stands s m mvs rows x h) (mv : Move) (z : x.refusal ≡ None) {c width : ℕ} {b : Bool}
    (ce : c ≡ limit x.machine) (we : width ≡ x.extent.lanes) (be : b ≡ allowed width c mv) where
  pub code_stops : b ≡ false → Started x.extent.lanes x.extent.locations x.extent.locks e → y ≡ stopped x
      → Stands s m (mvs ++ (mv ∷ [])) rows y e
  code_stops bad st q =
      subst (λ w. Stands s m (mvs ++ (mv ∷ [])) rows w e) (sym q) (stops so mv z ce we be bad st)

  pub code_moves : {q : Moved} → b ≡ true → Took h mv.lane (turns x.machine (flags x.volatile)
      (read_rows (get_or x.count mv.lane 0) (drop (get_or x.first mv.lane 0) rows)) h mv.lane mv.choice)
      q e
      → y ≡ counted x q → Stands s m (mvs ++ (mv ∷ [])) rows y e
  code_moves {q} good made r =
      subst (λ w. Stands s m (mvs ++ (mv ∷ [])) rows w e) (sym r)
      (moves_on so mv z ce we be good q e
      (subst (λ w. Took h mv.lane (turns w (flags x.volatile)
      (read_rows (get_or x.count mv.lane 0) (drop (get_or x.first mv.lane 0) rows)) h mv.lane mv.choice)
      q e)
      (own so mv z).machine made))
