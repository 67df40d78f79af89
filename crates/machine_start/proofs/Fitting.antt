-- Every answer of an accepted kernel, of every machine and whatever its number, fits a state record: `answer_fits`.
use Prim.Native.Nat.{ℕ, suc, ◌+◌, ◌^◌, ◌≤◌, ◌<◌}
use mathlib.Core.Path.{◌≡◌, refl, ap, sym, subst, ◌∙◌}
use mathlib.Core.Bool.{Bool, true, false, cond}
use mathlib.Core.List.{List, [], ◌∷◌, map}
use native.Mathlib.Omega.{arith}
use lib.ListN.{length, get_or, length-map, get_or-map}
use Rattle.file_format.specs.Accepted.{Program}
use Rattle.file_format.specs.Lawful.{Lawful}
use Rattle.file_verdict.specs.Verdict.{accepted, verdict}
use Rattle.file_wellformed.proofs.Lawful.{accepted_lawful}
use Rattle.sheet_format.specs.Layout.{Instr, rank}
use Rattle.sheet_format.specs.Levels.{volatile_in}
use Rattle.machine_spec.specs.declared.Machine.{Machine}
use Rattle.machine_spec.specs.Step.{Turn, waits, refuses, passes, does}
use Rattle.machine_spec.specs.Schedule.{Move, limit, legal}
use Rattle.machine_spec.specs.State.{Lane, Run, Outcome, ran, refused, idle, lane_at, pos_at, move_turn, apply_turn}
use Rattle.machine_spec.specs.State.{advance, run, begin}
use Rattle.machine_spec.specs.Run.{Answer, answer_of, start_of, program_for, run_on, run_program, run_by, counts_as}
use Rattle.machine_spec.specs.View.{view_of}
use Rattle.machine_spec.specs.Shape.{Shaped, Within}
use Rattle.machine_record.specs.Fields.{Fits}
use Rattle.claims.proofs.Theorem.{claims}
use Rattle.machine_start.proofs.Ranges.{program_short}
use Rattle.machine_start.proofs.Laws.Runs.{shaped_small}

-- ## no more moves are counted than are made

abbrev Few : ℕ → Outcome → Type 0
Few n (ran r) = r.done + r.waited ≤ n
Few n (refused t p) = Unit {0}

turn_few : (n : ℕ) (r : Run) (t p : ℕ) (u : Turn) → r.done + r.waited ≤ n → Few (suc n) (apply_turn r t p u)
turn_few n r t p waits h = omega arith
turn_few n r t p refuses h = tt
turn_few n r t p (passes k c) h = omega arith
turn_few n r t p (does k c v) h = omega arith

module _ (m : Machine) (vol : ℕ → Bool) (prog : List (List Instr)) where
  run_few : (mvs : List Move) (n l : ℕ) (o : Outcome) → Few n o → n + length mvs ≤ l → Few l (run m vol prog o mvs)
  run_few [] n l (ran r) h e = omega arith
  run_few [] n l (refused t p) h e = tt
  run_few (mv ∷ mvs) n l (ran r) h e =
      run_few mvs (suc n) l (advance m vol prog (ran r) mv)
      (turn_few n r mv.lane (rank (get_or prog mv.lane []) (pos_at r.state mv.lane))
      (move_turn m vol prog r.state mv) h)
      (omega arith)
  run_few (mv ∷ mvs) n l (refused t p) h e = run_few mvs (suc n) l (refused t p) tt (omega arith)

-- ## the state

module _ (s : List ℕ) (k : Program) (v : verdict s ≡ accepted k) (m : Machine) (mvs : List Move) where
  abbrev lets : Bool
  lets = legal (length k.lanes) (limit m) mvs

  abbrev a : Answer
  a = run_by m s (verdict s) mvs

  is : a ≡ run_program m k mvs
  is = ap (λ x. run_by m s x mvs) v

  counts : a.done + a.waited ≤ length mvs
  counts = subst (λ (x : Answer). x.done + x.waited ≤ length mvs) (sym is) (go lets refl)
    where
      of_outcome : (o : Outcome) → Few (length mvs) o
          → (answer_of (program_for m k) k.records (start_of k) o).done
          + (answer_of (program_for m k) k.records (start_of k) o).waited ≤ length mvs
      of_outcome (ran r) h = h
      of_outcome (refused t p) h = omega arith

      go : (b : Bool) → lets ≡ b → (run_program m k mvs).done + (run_program m k mvs).waited ≤ length mvs
      go true e =
          rw e (of_outcome (run_on m k mvs)
          (run_few m (volatile_in k) (program_for m k) mvs 0 (length mvs) (begin (start_of k)) (omega arith)
          (omega arith)))
      go false e = rw e (omega arith)

  -- one that is refused with 10 stays at the start, as the empty schedule does
  counted_state : (run_by m s (verdict s) (counts_as m k mvs)).state ≡ a.state
  counted_state =
      ap (λ x. (run_by m s x (counts_as m k mvs)).state) v ∙ go lets refl ∙ sym (ap (λ (x : Answer). x.state) is)
    where
      go : (b : Bool) → lets ≡ b → (run_program m k (counts_as m k mvs)).state ≡ (run_program m k mvs).state
      go true e = ap (λ l. (run_program m k l).state) (ap (λ b. cond b mvs []) e)
      go false e = rw e refl

  law : Lawful k
  law = accepted_lawful s k v

  abbrev b : Answer
  b = run_by m s (verdict s) (counts_as m k mvs)

  shape : Shaped k (view_of b.row b.finished a.state)
  shape = subst (λ x. Shaped k (view_of b.row b.finished x)) counted_state ((claims s k v).bounds.shaped m mvs)

  regs_at : (t : ℕ) → get_or (map (λ (l : Lane). l.regs) a.state.lanes) t [] ≡ (lane_at a.state t).regs
  regs_at t = get_or-map (λ (l : Lane). l.regs) a.state.lanes t idle

  pending_at : (t : ℕ) → get_or (map (λ (l : Lane). l.pending) a.state.lanes) t [] ≡ (lane_at a.state t).pending
  pending_at t = get_or-map (λ (l : Lane). l.pending) a.state.lanes t idle

  pub lanes_many : length a.state.lanes ≡ length k.lanes
  lanes_many = sym (length-map a.state.lanes (λ (l : Lane). l.pending)) ∙ shape.lanes.1

  pub locations_many : length a.state.memory ≡ k.locations
  locations_many = shape.memory_count

  pub locks_many : length a.state.locks ≡ k.locks
  locks_many = shape.locks_count

  pub eight_registers : (t : ℕ) → t < length k.lanes → length (lane_at a.state t).regs ≡ 8
  eight_registers t h = sym (ap length (regs_at t)) ∙ shape.regs_count t h

  pub answer_fits : length mvs < 2 ^ 32 → Fits a
  answer_fits few = record {
    lanes = omega (arith, lanes_many, law.few_lanes);
    locations = omega (arith, locations_many, law.few_locations);
    locks = omega (arith, locks_many, law.few_locks);
    done = omega (arith, counts);
    waited = omega (arith, counts);
    memory = shape.memory_small;
    position = λ t.
        omega (
          arith,
          subst (Within (program_for m k)) counted_state ((claims s k v).bounds.within m mvs) t,
          program_short k law t m,
        );
    pending = λ t. omega (arith, shape.pending_few t, ap length (pending_at t));
    registers = λ t r. subst (λ l. get_or l r 0 < 2 ^ 32) (regs_at t) (shape.regs_small t r);
    entries = (shaped_small {s = a.state} law shape).entries;
  }
