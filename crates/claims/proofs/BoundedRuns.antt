-- Every state of a source run keeps its bounds, and each lane stands within its chain.
use mathlib.Core.Path.{◌≡◌, refl, ap, ◌∙◌, subst}
use mathlib.Core.Bool.{Bool, true, ◌&&◌}
use mathlib.Core.List.{List, [], ◌∷◌, map}
use Prim.Native.Nat.{ℕ, ◌^◌, ◌≤◌, ◌<◌}
use native.Mathlib.Decide.{dec_lt}
use native.Mathlib.Omega.{arith}
use lib.Dec.{ltb, leb}
use borrow.Author.Tests.{ltb-true}
use lib.ListN.{length, get_or, replicate, length-replicate, get_or-replicate, length-map, get_or-map}
use lib.ListN.{get_or-eq_default}
use Rattle.laws.proofs.Bools.{and_true}
use Rattle.laws.proofs.Lists.{getD-replicate-all}
use Rattle.file_format.specs.Accepted.{Program}
use Rattle.file_format.specs.Lawful.{Lawful}
use Rattle.sheet_format.specs.Layout.{Instr, op}
use Rattle.sheet_format.specs.Levels.{volatile_in}
use Rattle.machine_spec.specs.declared.Machine.TheVariants.{Source}
use Rattle.machine_spec.specs.Step.{Control, Core, Turn, waits, refuses, passes, does}
use Rattle.machine_spec.specs.Schedule.{Move, legal}
use Rattle.machine_spec.specs.State.{Lane, State, at_start, idle, lane_at, core_of, set_lane, Run, Outcome, ran}
use Rattle.machine_spec.specs.State.{refused}
use Rattle.machine_spec.specs.State.{apply_turn, move_turn, advance, run, begin}
use Rattle.machine_spec.specs.Run.{answer_of, start_of, program_for, run_on, shown}
use Rattle.machine_spec.specs.Shape.{AllSmall, Shaped, Within}
use Rattle.claims.proofs.Laws.Lanes.{set_lane_count, set_lane_each, lane_each}
use Rattle.claims.proofs.BoundedTurns.{Fit, Keeps, turn_keeps}

record LaneFit (ls ks len : ℕ) (l : Lane) : Type 0 where
  place : l.control.pos ≤ len
  few : length l.pending ≤ l.control.pos
  regs_count : length l.regs ≡ 8
  regs_small : (a : ℕ) → get_or l.regs a 0 < 2 ^ 32
  entries : AllSmall ls ks l.pending

module _ (k : Program) (w : Lawful k) where
  abbrev lanes : ℕ
  lanes = length k.lanes

  abbrev ls : ℕ
  ls = k.locations

  abbrev ks : ℕ
  ks = k.locks

  abbrev vol : ℕ → Bool
  vol = volatile_in k

  abbrev prog : List (List Instr)
  prog = program_for Source k

  abbrev lane_length : ℕ → ℕ
  lane_length t = length (get_or k.lanes t [])

  record Inv (a : State) : Type 0 where
    count : length a.lanes ≡ lanes
    lane : (t : ℕ) → t < lanes → LaneFit ls ks (lane_length t) (lane_at a t)
    memory_count : length a.memory ≡ k.locations
    memory_small : (x : ℕ) → get_or a.memory x 0 < 2 ^ 32
    locks_count : length a.locks ≡ k.locks
    locks_small : (l : ℕ) → get_or a.locks l 0 ≤ lanes

  abbrev InvOut : Outcome → Type 0
  InvOut (ran r) = Inv r.state
  InvOut (refused t p) = Unit {0}

  fit_of : (a : State) → Inv a → (t : ℕ) → t < lanes
      → Fit lanes ls ks (lane_length t) (lane_at a t).control.pos (core_of a (lane_at a t))
  fit_of a i t lt =
      let l = i.lane t lt in
      record {
        place = l.place;
        few = l.few;
        regs_count = l.regs_count;
        regs_small = l.regs_small;
        entries = l.entries;
        memory_count = i.memory_count;
        memory_small = i.memory_small;
        locks_count = i.locks_count;
        locks_small = i.locks_small;
      }

  inv_put : (a : State) → Inv a → (t : ℕ) → t < lanes → (j : Control) (d : Core)
      → Fit lanes ls ks (lane_length t) j.pos d → Inv (set_lane a t j d)
  inv_put a i t lt j d f = record {
    count = set_lane_count a t j d ∙ i.count;
    lane = set_lane_each (λ u l. u < lanes → LaneFit ls ks (lane_length u) l) a t j d (rw i.count lt)
        (λ lt'.
        record {
          place = f.place;
          few = f.few;
          regs_count = f.regs_count;
          regs_small = f.regs_small;
          entries = f.entries;
        })
        (λ u ne. i.lane u);
    memory_count = f.memory_count;
    memory_small = f.memory_small;
    locks_count = f.locks_count;
    locks_small = f.locks_small;
  }

  inv_turn : (r : Run) (t q : ℕ) → t < lanes → Inv r.state → (u : Turn) → Keeps lanes ls ks (lane_length t) u
      → InvOut (apply_turn r t q u)
  inv_turn r t q lt i waits s = i
  inv_turn r t q lt i refuses s = tt
  inv_turn r t q lt i (passes j d) s = inv_put r.state i t lt j d s
  inv_turn r t q lt i (does j d v) s = inv_put r.state i t lt j d s

  inv_run : (mvs : List Move) (o : Outcome) → InvOut o → legal lanes 64 mvs ≡ true → InvOut (run Source vol prog o mvs)
  inv_run [] o i le = i
  inv_run (mv ∷ mvs) (refused t p) i le =
      inv_run mvs (refused t p) tt (and_true (ltb mv.lane lanes && leb mv.choice 64) (legal lanes 64 mvs) le).1
  inv_run (mv ∷ mvs) (ran r) i le =
      let fits = and_true (ltb mv.lane lanes && leb mv.choice 64) (legal lanes 64 mvs) le in
      let lt : mv.lane < lanes =
      ltb-true mv.lane lanes (and_true (ltb mv.lane lanes) (leb mv.choice 64) fits.0).0 in
      inv_run mvs (advance Source vol prog (ran r) mv) (step lt) fits.1
    where
      step : mv.lane < lanes → InvOut (advance Source vol prog (ran r) mv)
      step lt =
          inv_turn r mv.lane _ lt i (move_turn Source vol prog r.state mv)
          (rw (get_or-map (map op) k.lanes mv.lane [])
          (turn_keeps lanes ls ks (get_or k.lanes mv.lane []) (w.lane mv.lane) vol mv.lane lt
          (lane_at r.state mv.lane).control (core_of r.state (lane_at r.state mv.lane))
          (fit_of r.state i mv.lane lt) mv.choice))

  fresh : {len : ℕ} → LaneFit ls ks len (record { control = at_start; regs = replicate 8 0; pending = [] })
  fresh = record {
    place = omega arith;
    few = omega arith;
    regs_count = refl;
    regs_small = getD-replicate-all (λ z. z < 2 ^ 32) 8 0 0 (omega arith) (omega arith);
    entries = tt;
  }

  inv_start : Inv (start_of k)
  inv_start = record {
    count = length-replicate lanes _;
    lane = λ t lt. rw (get_or-replicate lanes t _ idle lt) fresh;
    memory_count = length-replicate k.locations 0;
    memory_small = getD-replicate-all (λ z. z < 2 ^ 32) k.locations 0 0 (omega arith) (omega arith);
    locks_count = length-replicate k.locks 0;
    locks_small = getD-replicate-all (λ z. z ≤ lanes) k.locks 0 0 (omega arith) (omega arith);
  }

  shaped_by : (r : Run) → Inv r.state → Shaped k (shown (answer_of prog k.records (start_of k) (ran r)))
  shaped_by r i = record {
    lanes = (
      length-map r.state.lanes (λ (l : Lane). l.regs) ∙ i.count,
      length-map r.state.lanes (λ (l : Lane). l.pending) ∙ i.count,
    );
    regs_count = λ t lt. ap length (regs_at t) ∙ (i.lane t lt).regs_count;
    regs_small = λ t a. rw (regs_at t) (each (λ l. get_or l.regs a 0 < 2 ^ 32) (omega arith)
        (λ u lt. (i.lane u lt).regs_small a) t);
    pending_few = λ t. rw (pending_at t) (each (λ l. length l.pending ≤ 64) (omega arith)
        (λ u lt. omega (arith, (i.lane u lt).few, (i.lane u lt).place, (w.lane u).short)) t);
    entries = λ t. rw (pending_at t) (each (λ l. AllSmall ls ks l.pending) tt (λ u lt. (i.lane u lt).entries) t);
    memory_count = i.memory_count;
    memory_small = i.memory_small;
    locks_count = i.locks_count;
    locks_small = i.locks_small;
  }
    where
      each : (P : Lane → Type 0) → P idle → ((t : ℕ) → t < lanes → P (lane_at r.state t)) → (t : ℕ)
          → P (lane_at r.state t)
      each P = lane_each P r.state lanes i.count

      regs_at : (t : ℕ) → get_or (map (λ (l : Lane). l.regs) r.state.lanes) t [] ≡ (lane_at r.state t).regs
      regs_at t = get_or-map (λ (l : Lane). l.regs) r.state.lanes t idle

      pending_at : (t : ℕ)
          → get_or (map (λ (l : Lane). l.pending) r.state.lanes) t [] ≡ (lane_at r.state t).pending
      pending_at t = get_or-map (λ (l : Lane). l.pending) r.state.lanes t idle

  within_by : (r : Run) → Inv r.state → Within prog r.state
  within_by r i t =
      rw (get_or-map (map op) k.lanes t [], length-map (get_or k.lanes t []) op) (go (dec_lt t lanes))
    where
      go : Dec (t < lanes) → (lane_at r.state t).control.pos ≤ lane_length t
      go (yes lt) = (i.lane t lt).place
      go (no ge) =
          let none-there = get_or-eq_default r.state.lanes idle {n = t} (omega (arith, i.count)) in
          rw none-there (omega arith)

  -- a source run that is not refused ends in a state that keeps the bounds
  inv_of : (mvs : List Move) (r : Run) → legal lanes 64 mvs ≡ true → run_on Source k mvs ≡ ran r → Inv r.state
  inv_of mvs r le e = subst InvOut e (inv_run mvs (begin (start_of k)) inv_start le)

  pub source_shaped : (mvs : List Move) (r : Run) → legal lanes 64 mvs ≡ true → run_on Source k mvs ≡ ran r
      → Shaped k (shown (answer_of prog k.records (start_of k) (ran r)))
  source_shaped mvs r le e = shaped_by r (inv_of mvs r le e)

  pub source_within : (mvs : List Move) (r : Run) → legal lanes 64 mvs ≡ true → run_on Source k mvs ≡ ran r
      → Within prog r.state
  source_within mvs r le e = within_by r (inv_of mvs r le e)
