-- The code can run every legal schedule of an accepted kernel: each lane that a move names is ready in every state that
-- the moves before it reach.
use Prim.Native.Nat.{ℕ, suc, ◌<◌}
use mathlib.Core.Path.{◌≡◌, refl, ap, ◌∙◌}
use mathlib.Core.Bool.{Bool, true, false}
use mathlib.Core.List.{List, [], ◌∷◌, ◌++◌, foldl-append}
use mathlib.Core.Option.{some}
use native.Mathlib.Omega.{arith}
use borrow.Author.Tests.{lt-ltb, le-leb}
use lib.ListN.{length, get_or, get_elem?, take, length-append}
use Rattle.file_format.specs.declared.accepted.Op.{Op}
use Rattle.file_format.specs.declared.accepted.Op.TheVariants.{Set, Add, Load, Store, Lock, Unlock, Skip}
use Rattle.file_format.specs.Accepted.{Program}
use Rattle.file_verdict.specs.Verdict.{accepted, verdict}
use Rattle.file_wellformed.proofs.Lawful.{accepted_lawful}
use Rattle.sheet_format.specs.Layout.{Instr, op, barrier, rank}
use Rattle.sheet_format.specs.Levels.{volatile_in}
use Rattle.machine_spec.specs.Entries.{Entry}
use Rattle.machine_spec.specs.declared.Machine.{Machine}
use Rattle.machine_spec.specs.Step.{Core, Turn, refuses, does, goto, permits, holds, emit, next, core_after, loads}
use Rattle.machine_spec.specs.Step.{execute}
use Rattle.machine_spec.specs.Schedule.{Move, move, limit, legal}
use Rattle.machine_spec.specs.State.{Lane, Run, ran, lane_at, pos_at, core_of, set_lane, apply_turn, run, begin}
use Rattle.machine_spec.specs.Run.{start_of, program_for, run_on}
use Rattle.claims.proofs.Legal.{legal_append}
use Rattle.claims.proofs.Laws.Lanes.{set_lane_same}
use Rattle.machine_state.specs.Ready.{Asks, LaneReady}
use Rattle.machine_run.specs.Runs.{ProgramAt, RunnableBy}
use Rattle.machine_state.specs.States.{Blocks, count_of, state_in}
use Rattle.machine_start.proofs.Named.{legal_named, legal_take}
use Rattle.machine_start.proofs.Ranges.{Ranged, program_ranged, program_short}
use Rattle.machine_start.proofs.Answered.{not_refused, lane_count_lem, pending_few, stands_within}

-- lane t of the run r, to which a legal schedule led
module _ (s : List ℕ) (k : Program) (e : verdict s ≡ accepted k) (m : Machine) (mvs : List Move)
    (le : legal (length k.lanes) (limit m) mvs ≡ true) (r : Run) (re : run_on m k mvs ≡ ran r) (t : ℕ)
    (lt : t < length k.lanes) where
  abbrev lane : Lane
  lane = lane_at r.state t

  abbrev core : Core
  core = core_of r.state lane

  abbrev prog : List Instr
  prog = get_or (program_for m k) t []

  -- the schedule with one move more, by which the lane carries out what it stands at
  abbrev longer : List Move
  longer = mvs ++ (move t 0 ∷ [])

  longer_legal : legal (length k.lanes) (limit m) longer ≡ true
  longer_legal =
      legal_append (length k.lanes) (limit m) mvs (move t 0 ∷ []) le
      (rw (lt-ltb t (length k.lanes) lt, le-leb 0 (limit m) (omega arith)))

  after : (i : Instr) (u : Turn) → get_elem? prog (pos_at r.state t) ≡ some i
      → execute m (volatile_in k) (suc t) lane.control core (some i) ≡ u
      → run_on m k longer ≡ apply_turn r t (rank prog (pos_at r.state t)) u
  after i u at ue = rw (foldl-append, re, at, ue) refl

  -- an operation that appends finds room: after it too at most 64 entries are pending
  room : (o : Op) (n : Entry) → get_elem? prog (pos_at r.state t) ≡ some (op o) → emit core o ≡ some n
      → permits m (volatile_in k) core o ≡ true → length lane.pending < 64
  room o n at en may = go (holds (suc t) core o) refl
    where
      go : (b : Bool) → holds (suc t) core o ≡ b → length lane.pending < 64
      go false h =
          absurd (not_refused s k e m longer longer_legal t _ (after (op o) refuses at (rw (may, h) refl)))
      go true h =
          let j = goto lane.control (next core o (pos_at r.state t)) in
          let d = core_after m (volatile_in k) (suc t) core o in
          let done = after (op o) (does j d (loads m (volatile_in k) core o)) at (rw (may, h) refl) in
          let put = set_lane_same r.state t j d (rw (lane_count_lem s k e m mvs le r re) lt) in
          let grown : length (lane_at (set_lane r.state t j d) t).pending ≡ length (lane.pending ++ (n ∷ [])) =
          ap (λ (l : Lane). length l.pending) put ∙ rw en refl in
          omega (
            arith,
            pending_few s k e m longer longer_legal _ done t,
            grown,
            length-append lane.pending (n ∷ []),
          )

  asked : (i : Instr) → get_elem? prog (pos_at r.state t) ≡ some i → Ranged i → Asks i lane
  asked (op (Set a c)) at h = tt
  asked (op (Add a b)) at h = tt
  asked (op (Load a x)) at h = h
  asked (op (Store a x)) at h = (h.0, room (Store a x) _ at refl refl)
  asked (op (Lock l)) at h = tt
  asked (op (Unlock l)) at h = (h.0, room (Unlock l) _ at refl refl)
  asked (op (Skip a u)) at h = tt
  asked (barrier b) at h = tt

  lane_ready : LaneReady prog lane
  lane_ready =
      let w = accepted_lawful s k e in
      record {
        position = omega (arith, stands_within s k e m mvs le r re t, program_short k w t m);
        asked = λ i at. asked i at (program_ranged k w t m (pos_at r.state t) i at);
      }

pub reached_ready : (s : List ℕ) (k : Program) → verdict s ≡ accepted k → (m : Machine) (mvs : List Move)
    → legal (length k.lanes) (limit m) mvs ≡ true
    → (j : ℕ) (mv : Move) (r : Run) → get_elem? mvs j ≡ some mv
    → run m (volatile_in k) (program_for m k) (begin (start_of k)) (take j mvs) ≡ ran r
    → LaneReady (get_or (program_for m k) mv.lane []) (lane_at r.state mv.lane)
reached_ready s k e m mvs le j mv r at re =
    let n = length k.lanes in
    let c = limit m in
    lane_ready s k e m (take j mvs) (legal_take n c j mvs le) r re mv.lane
    (legal_named n c mvs j mv le at).0

-- the code can run the schedule from a store that holds the start, on lanes whose programs are rows of the sheet
pub runs_by : (s : List ℕ) (k : Program) → verdict s ≡ accepted k → (m : Machine) (vol : ℕ → Bool)
    (sheet first count : List ℕ) (mvs : List Move) (h : Blocks) (prog : List (List Instr))
    → vol ≡ volatile_in k → count_of h 0 ≡ length k.lanes → prog ≡ program_for m k → state_in h ≡ start_of k
    → legal (length k.lanes) (limit m) mvs ≡ true
    → ((t : ℕ) → t < length k.lanes → ProgramAt sheet (get_or first t 0) (get_or count t 0) (get_or prog t []))
    → RunnableBy m vol sheet first count mvs h prog
runs_by s k e m vol sheet first count mvs h prog ve ne pe he le rows = record {
  lanes = omega (arith, ne, (accepted_lawful s k e).few_lanes);
  programs = λ t l. rows t (rw ne at l);
  named = λ j mv at. omega (arith, ne, (legal_named (length k.lanes) (limit m) mvs j mv le at).0);
  ready = λ j mv r at re. rw pe (reached_ready s k e m mvs le j mv r at (rw (ve, pe, he) at re));
}
