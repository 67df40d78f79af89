-- Every run is finished with some more permitted moves: theorem `finishes`. Each move that is done brings its lane on,
-- or takes one entry out of its pending list, so that no more than twice the instructions are done.
use mathlib.Core.Path.{◌≡◌, refl, ap, ◌∙◌, subst}
use mathlib.Core.Bool.{Bool, true, false, ◌&&◌}
use mathlib.Core.List.{List, [], ◌∷◌, ◌++◌, append-nil, append_assoc}
use mathlib.Core.Logic.{inl, inr}
use mathlib.Core.Option.{Option, none, some}
use Prim.Native.Nat.{ℕ, zero, suc, ◌+◌, ◌*◌, ◌≤◌, ◌<◌}
use native.Mathlib.Omega.{arith}
use lib.Dec.{ltb, leb, eqb}
use borrow.Author.Tests.{ltb-true, lt-ltb, le-leb}
use lib.ListN.{length, get_or, get_elem?, take, replicate, length-replicate, length-map, get_or-map}
use Rattle.laws.proofs.Bools.{and_true, cond_by}
use Rattle.laws.proofs.Lists.{at_some}
use Rattle.file_format.specs.declared.accepted.Op.{Op}
use Rattle.file_format.specs.declared.accepted.Op.TheVariants.{Set, Add, Load, Store, Lock, Unlock, Skip}
use Rattle.file_format.specs.Accepted.{Program}
use Rattle.file_format.specs.Lawful.{LawfulLane, Lawful}
use Rattle.file_verdict.specs.Verdict.{accepted, verdict}
use Rattle.file_wellformed.proofs.Lawful.{accepted_lawful}
use Rattle.barrier_placement.specs.Layout.{Placed, operations, start, op_at}
use Rattle.barrier_placement.specs.Steps.{steps}
use Rattle.barrier_placement.proofs.Laws.Layout.{start_later}
use Rattle.sheet_format.specs.Layout.{Instr, op, barrier, aim, sheet}
use Rattle.sheet_format.specs.Levels.{placed, placed_lanes, volatile_in}
use Rattle.sheet_format.specs.Items.{operation_at}
use Rattle.sheet_format.proofs.PlacedLanes.{placed_operations}
use Rattle.machine_spec.specs.Entries.{Entry}
use Rattle.machine_spec.specs.declared.Machine.{Machine}
use Rattle.machine_spec.specs.Rules.{may_commit, may_pass}
use Rattle.machine_spec.specs.Step.{Control, Core, Turn, waits, refuses, passes, does, reg, permits, holds, next, emit}
use Rattle.machine_spec.specs.Step.{execute, commit, turn}
use Rattle.machine_spec.specs.Schedule.{Move, move, limit, legal}
use Rattle.machine_spec.specs.State.{Lane, State, Run, Outcome, ran, refused, idle, lane_at, core_of, lane_of, set_lane}
use Rattle.machine_spec.specs.State.{start_state, apply_turn, move_turn, advance, run, begin}
use Rattle.machine_spec.specs.Run.{start_of, level_of, program_for, run_on, run_program, run_file}
use Rattle.machine_spec.proofs.Levels.{program_lanes}
use Rattle.claims.specs.Claims.{instructions_in, Finishes}
use Rattle.claims.proofs.Laws.Lanes.{set_lane_count, summed, summed_set, start_summed}
use Rattle.claims.proofs.Laws.Pending.{length_append_entry, length_without}
use Rattle.claims.proofs.Laws.Sheets.{op_fetched, op_located}
use Rattle.claims.proofs.KernelLanes.{lane_placed}
use Rattle.claims.proofs.Demand3.{answered, ran_to, program_within}
use Rattle.claims.proofs.Progress.{legal_with, progress}

-- ## lanes whose operations go on

-- each operation of the lane leads beyond its own position
abbrev Onward : List Instr → Type 0
Onward is = (p : ℕ) (o : Op) → get_elem? is p ≡ some (op o) → (c : Core) → p < next c o p

aimed_onward : (c : Core) (r : ℕ → ℕ) (p : ℕ) (o : Op) → ((a t : ℕ) → o ≡ Skip a t → p < r t) → p < next c (aim r o) p
aimed_onward c r p (Set a n) h = omega arith
aimed_onward c r p (Add a b) h = omega arith
aimed_onward c r p (Load a x) h = omega arith
aimed_onward c r p (Store a x) h = omega arith
aimed_onward c r p (Lock l) h = omega arith
aimed_onward c r p (Unlock l) h = omega arith
aimed_onward c r p (Skip a t) h =
    cond_by (λ q. p < q) (eqb (reg c a) 0) (r t) (suc p) (λ e. h a t refl) (λ e. omega arith)

-- as those of a sheet do: a SKIP's target begins behind it
sheet_onward : (ls ks : ℕ) (ps : List (Placed Op)) → LawfulLane ls ks (operations ps) → Onward (sheet ps)
sheet_onward ls ks ps w x o e c =
    subst (λ z. x < next c z x) same
    (aimed_onward c (start ps) x (operation_at os p) (λ a t z.
    let later : p < t = (w.bounded p (Skip a t) (at_some os p (Set 0 0) inside ∙ ap some z)).1 in
    omega (arith, f.2, start_later ps p t later f.1)))
  where
    os : List Op
    os = operations ps

    f : (p : ℕ) × (p < length ps) × (x ≡ op_at ps p)
    f = op_located ps x o e

    p : ℕ
    p = f.0

    inside : p < length os
    inside = omega (arith, f.1, length-map ps (λ (y : Placed Op). y.oper))

    same : aim (start ps) (operation_at os p) ≡ o
    same = cc (op_fetched ps p f.1, e, f.2)

program_onward : (k : Program) → Lawful k → (m : Machine) (t : ℕ) → Onward (get_or (program_for m k) t [])
program_onward k w m t =
    let os = get_or k.lanes t [] in
    rw (program_lanes k w m, get_or-map sheet (placed_lanes (level_of m) k) t [], lane_placed k (level_of m) t)
    (sheet_onward k.locations k.locks (placed (level_of m) (volatile_in k) os)
    (rw (placed_operations (level_of m) (steps (volatile_in k) os) 0 os) (w.lane t)))

-- ## a turn

-- a lane with n entries pending at p, and with x at q: twice its position, less what is pending, has grown
abbrev Grows : ℕ → ℕ → ℕ → ℕ → Type 0
Grows p n q x = 2 * p + x < 2 * q + n

abbrev After : ℕ → ℕ → Turn → Type 0
After p n waits = Unit {0}
After p n refuses = Unit {0}
After p n (passes k c) = Grows p n k.pos (length c.pending)
After p n (does k c v) = Grows p n k.pos (length c.pending)

module _ (m : Machine) (vol : ℕ → Bool) (w : ℕ) (is : List Instr) (on : Onward is) (k : Control) (c : Core) where
  abbrev G : Turn → Type 0
  G = After k.pos (length c.pending)

  execute_grows : (i : Option Instr) → get_elem? is k.pos ≡ i → G (execute m vol w k c i)
  execute_grows none at = tt
  execute_grows (some (op o)) at =
      cond_by G (permits m vol c o) _ waits (λ e.
      cond_by G (holds w c o) _ refuses
      (λ h. omega (arith, on k.pos o at c, length_append_entry c.pending (emit c o))) (λ h. tt)) (λ e. tt)
  execute_grows (some (barrier b)) at =
      cond_by G (may_pass m b c.pending) _ waits (λ e. omega arith) (λ e. tt)

  commit_grows : (i : ℕ) (e : Option Entry) → get_elem? c.pending i ≡ e → G (commit m vol k c i e)
  commit_grows i none at = tt
  commit_grows i (some e) at =
      cond_by G (may_commit m vol k.marks (take i c.pending) e) _ waits
      (λ h. omega (arith, length_without c.pending i e at)) (λ h. tt)

  turn_grows : (n : ℕ) → G (turn m vol w is k c n)
  turn_grows zero = execute_grows (get_elem? is k.pos) refl
  turn_grows (suc i) = commit_grows i (get_elem? c.pending i) refl

-- ## a run

abbrev position : Lane → ℕ
position l = l.control.pos

abbrev entries : Lane → ℕ
entries l = length l.pending

-- of a state of n lanes after d moves that were done: with the entries pending they are at most twice the positions
record Counted (n d : ℕ) (s : State) : Type 0 where
  lanes : length s.lanes ≡ n
  few : d + summed entries s.lanes ≤ 2 * summed position s.lanes

abbrev CountedOut : ℕ → Outcome → Type 0
CountedOut n (ran r) = Counted n r.done r.state
CountedOut n (refused t p) = Unit {0}

put_counted : (n d : ℕ) (s : State) (t : ℕ) (k : Control) (c : Core) → t < n → Counted n d s
    → Grows (position (lane_at s t)) (entries (lane_at s t)) k.pos (length c.pending)
    → Counted n (suc d) (set_lane s t k c)
put_counted n d s t k c lt h g =
    let inside : t < length s.lanes = omega (arith, h.lanes) in
    record {
      lanes = set_lane_count s t k c ∙ h.lanes;
      few = omega (
        arith,
        h.few,
        summed_set entries s.lanes t (lane_of k c) inside,
        summed_set position s.lanes t (lane_of k c) inside,
      );
    }

apply_counted : (n : ℕ) (r : Run) (t p : ℕ) (u : Turn) → t < n → Counted n r.done r.state
    → After (position (lane_at r.state t)) (entries (lane_at r.state t)) u → CountedOut n (apply_turn r t p u)
apply_counted n r t p waits lt h g = h
apply_counted n r t p refuses lt h g = tt
apply_counted n r t p (passes k c) lt h g = put_counted n r.done r.state t k c lt h g
apply_counted n r t p (does k c v) lt h g = put_counted n r.done r.state t k c lt h g

module _ (m : Machine) (vol : ℕ → Bool) (prog : List (List Instr)) (on : (t : ℕ) → Onward (get_or prog t [])) (n : ℕ)
  where
    advance_counted : (o : Outcome) (mv : Move) → mv.lane < n → CountedOut n o → CountedOut n (advance m vol prog o mv)
    advance_counted (refused t p) mv lt h = tt
    advance_counted (ran r) mv lt h =
        apply_counted n r mv.lane _ (move_turn m vol prog r.state mv) lt h
        (turn_grows m vol (suc mv.lane) (get_or prog mv.lane []) (on mv.lane)
        (lane_at r.state mv.lane).control (core_of r.state (lane_at r.state mv.lane)) mv.choice)

    run_counted : (b : ℕ) (mvs : List Move) (o : Outcome) → legal n b mvs ≡ true → CountedOut n o
        → CountedOut n (run m vol prog o mvs)
    run_counted b [] o le h = h
    run_counted b (mv ∷ mvs) o le h =
        let fits = and_true (ltb mv.lane n && leb mv.choice b) (legal n b mvs) le in
        let lt = ltb-true mv.lane n (and_true (ltb mv.lane n) (leb mv.choice b) fits.0).0 in
        run_counted b mvs (advance m vol prog o mv) fits.1 (advance_counted o mv lt h)

start_counted : (n : ℕ) (mem : List ℕ) (l : ℕ) → Counted n 0 (start_state n mem l)
start_counted n mem l = record { lanes = length-replicate n _; few = omega (arith, start_summed entries n mem l refl) }

-- ## every machine

-- the positions of lanes that stand within their programs
positions_few : (ls : List Lane) (prog : List (List Instr))
    → ((t : ℕ) → position (get_or ls t idle) ≤ length (get_or prog t [])) → summed position ls ≤ instructions_in prog
positions_few [] prog h = omega arith
positions_few (l ∷ ls) [] h = omega (arith, h 0, positions_few ls [] (λ t. h (suc t)))
positions_few (l ∷ ls) (is ∷ prog) h = omega (arith, h 0, positions_few ls prog (λ t. h (suc t)))

module _ (k : Program) (w : Lawful k) (m : Machine) (mvs : List Move) where
  abbrev n : ℕ
  n = length k.lanes

  ran_counted : (r : Run) → legal n (limit m) mvs ≡ true → run_on m k mvs ≡ ran r → Counted n r.done r.state
  ran_counted r le e =
      subst (CountedOut n) e
      (run_counted m (volatile_in k) (program_for m k) (program_onward k w m) n (limit m) mvs (begin (start_of k)) le
      (start_counted n (replicate k.locations 0) k.locks))

  few_done : (run_program m k mvs).done ≤ 2 * instructions_in (program_for m k)
  few_done = go (legal n (limit m) mvs) refl
    where
      go : (b : Bool) → legal n (limit m) mvs ≡ b → (run_program m k mvs).done ≤ 2 * instructions_in (program_for m k)
      go false le = rw le (omega arith)
      go true le =
          let (r, e) = ran_to k w m mvs le in
          let same = answered m k mvs r le e in
          let within = positions_few r.state.lanes (program_for m k) (rw same at (program_within k w m mvs le)) in
          rw same (omega (arith, (ran_counted r le e).few, within))

module _ (s : List ℕ) (k : Program) (e : verdict s ≡ accepted k) (m : Machine) where
  abbrev most : ℕ
  most = 2 * instructions_in (program_for m k)

  few : (mvs : List Move) → (run_file m s mvs).done ≤ most
  few mvs = rw e (few_done k (accepted_lawful s k e) m mvs)

  -- one permitted move after the other
  last : (rest : ℕ) (mvs : List Move) → legal (length k.lanes) (limit m) mvs ≡ true
      → most < (run_file m s mvs).done + rest → (more : List Move) × (legal (length k.lanes) 1 more ≡ true)
      × ((run_file m s (mvs ++ more)).finished ≡ true)
  last zero mvs le h = absurd (omega (arith, few mvs))
  last (suc rest) mvs le h = elim (progress s k e m mvs le) [
    | inl f ↦ ([], refl, rw (append-nil mvs) f)
    | inr (t, c, lt, small, d) ↦
        let x = last rest (mvs ++ (move t c ∷ [])) (legal_with m (length k.lanes) mvs t c le lt small)
        (omega (arith, d)) in (
          move t c ∷ x.0,
          rw (lt-ltb t (length k.lanes) lt, le-leb c 1 small) x.1,
          rw append_assoc at x.2,
        )
  ]

pub finishes : (s : List ℕ) (k : Program) → verdict s ≡ accepted k → Finishes s k
finishes s k e = record {
  few = few s k e;
  last = λ m mvs le. last s k e m (suc (2 * instructions_in (program_for m k))) mvs le (omega arith);
}
