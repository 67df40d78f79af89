-- Demand 3 of every accepted kernel file, that number 11 is never met, and the bounds of every end state.
use mathlib.Core.Path.{◌≡◌, refl, ap, ◌∙◌, sym, subst, subst₂}
use mathlib.Core.Bool.{Bool, true, false, cond}
use mathlib.Core.List.{List, []}
use mathlib.Core.Logic.{◌≢◌}
use mathlib.Core.Option.{none}
use Prim.Native.Nat.{ℕ}
use lib.ListN.{length, get_or, replicate, get_or-map}
use Rattle.file_format.specs.declared.accepted.Op.{Op}
use Rattle.file_format.specs.Accepted.{Program}
use Rattle.file_verdict.specs.Verdict.{accepted, verdict}
use Rattle.file_format.specs.Lawful.{Lawful}
use Rattle.file_wellformed.proofs.Lawful.{accepted_lawful}
use Rattle.barrier_placement.specs.Layout.{Placed, start}
use Rattle.barrier_placement.proofs.Laws.Layout.{place_within}
use Rattle.sheet_format.specs.Layout.{Instr, op, barrier, aim, sheet}
use Rattle.sheet_format.specs.declared.Level.TheVariants.{Level0}
use Rattle.sheet_format.specs.Levels.{placed_lanes, volatile_in}
use Rattle.sheet_format.proofs.ReadBack.{bytes_back}
use Rattle.machine_spec.specs.declared.Machine.{Machine}
use Rattle.machine_spec.specs.declared.Machine.TheVariants.{Source, Target}
use Rattle.machine_spec.specs.declared.Model.{Model}
use Rattle.machine_spec.specs.declared.Model.TheVariants.{Pso}
use Rattle.machine_spec.specs.Schedule.{Move, limit, legal}
use Rattle.machine_spec.specs.State.{Run, Outcome, ran, begin, run}
use Rattle.machine_spec.specs.View.{View, Seen, saw, refusal as seenRefusal, observe}
use Rattle.claims.specs.Schedules.{source_schedule, target_schedule}
use Rattle.claims.specs.Direct.{direct}
use Rattle.claims.proofs.Fenced.{kernel_program, sheet_program}
use Rattle.file_verdict.specs.declared.refusal.Refusal.TheVariants.{IllegalMove}
use Rattle.machine_spec.specs.Run.{answer_of, refused_with, start_of, level_of, program_for, run_on, run_program}
use Rattle.machine_spec.specs.Run.{run_file}
use Rattle.machine_spec.specs.Run.{shown}
use Rattle.machine_spec.specs.Run.{run_by, counts_as}
use Rattle.claims.specs.Claims.{Shares, source_for, target_for, answer_for, Demand3, Runs, Bounds}
use Rattle.claims.proofs.Matching.{Matched, both_ran, matching, observed, begin_matched}
use Rattle.claims.proofs.Legal.{source_legal, target_legal}
use Rattle.claims.proofs.DirectPending.{start_ready}
use Rattle.claims.proofs.DirectMatching.{direct_matching}
use Rattle.claims.proofs.Stuck.{stuck}
use Rattle.claims.proofs.ReleasesHeld.{source_runs, target_runs}
use Rattle.claims.proofs.HeldSets.{held_at}
use Rattle.machine_spec.specs.Shape.{Shaped, Within, MarksBehind, Unmarked}
use Rattle.claims.proofs.BoundedRuns.{source_shaped, source_within}
use Rattle.claims.proofs.MarksKept.{marks_kept}
use Rattle.claims.proofs.KernelLanes.{fenced, disciplined, source_program}

counts_legal : (m : Machine) (k : Program) (mvs : List Move)
    → legal (length k.lanes) (limit m) (counts_as m k mvs) ≡ true
counts_legal m k mvs = go (legal (length k.lanes) (limit m) mvs) refl
  where
    go : (b : Bool) → legal (length k.lanes) (limit m) mvs ≡ b
        → legal (length k.lanes) (limit m) (cond b mvs []) ≡ true
    go true h = h
    go false h = refl

-- a legal schedule whose run is not refused
pub answered : (m : Machine) (k : Program) (mvs : List Move) (r : Run) → legal (length k.lanes) (limit m) mvs ≡ true
    → run_on m k mvs ≡ ran r
    → run_program m k mvs ≡ answer_of (program_for m k) k.records (start_of k) (ran r)
answered m k mvs r le e = rw (le, e)

view_seen : View → Seen → View
view_seen v (saw w) = w
view_seen v (seenRefusal t p) = v

module _ (k : Program) (w : Lawful k) where
  abbrev n : ℕ
  n = length k.lanes

  abbrev vol : ℕ → Bool
  vol = volatile_in k

  abbrev zeros : List ℕ
  zeros = replicate k.locations 0

  abbrev begun : Outcome
  begun = begin (start_of k)

  abbrev P : List (List Instr)
  P = program_for Source k

  source_ran : (mvs : List Move) → legal n 64 mvs ≡ true → (r : Run) × (run_on Source k mvs ≡ ran r)
  source_ran =
      subst (λ p. (mvs : List Move) → legal n 64 mvs ≡ true → (r : Run) × (run Source vol p begun mvs ≡ ran r))
      (source_program k Level0)
      (source_runs n k.locks (placed_lanes Level0 k) (λ t. held_at (get_or k.lanes t [])) (disciplined k w Level0)
      vol zeros)

  -- ## a target beside the source machine

  module _ (m : Model) where
    abbrev ks : List (List (Placed Op))
    ks = placed_lanes (level_of (Target m)) k

    abbrev Q : List (List Instr)
    Q = program_for (Target m) k

    -- what the bytes of the sheet stand for are its lanes
    pub target_program : sheet_program ks ≡ Q
    target_program = sym (bytes_back (level_of (Target m)) k w)

    target_ran : (mvs : List Move) → legal n (limit (Target m)) mvs ≡ true
        → (r : Run) × (run_on (Target m) k mvs ≡ ran r)
    target_ran =
        subst (λ q. (mvs : List Move) → legal n (limit (Target m)) mvs ≡ true
        → (r : Run) × (run (Target m) vol q begun mvs ≡ ran r))
        target_program
        (target_runs n k.locks ks (λ t. held_at (get_or k.lanes t [])) (disciplined k w (level_of (Target m))) vol m
        (fenced k w m) zeros)

    begins : Matched m vol ks begun begun
    begins = begin_matched m vol ks n zeros k.locks

    -- a run of the source program p for each of the sheet program q, and back
    abbrev Matches : List (List Instr) → List (List Instr) → Type 0
    Matches p q = (mvs : List Move)
        → observe p (run Source vol p begun (source_schedule m vol q begun mvs)) ≡ observe q
        (run (Target m) vol q begun mvs)

    matched_seen : Matches P Q
    matched_seen = subst₂ Matches (source_program k (level_of (Target m))) target_program
        (λ mvs. observed m vol ks _ _ (matching m vol ks (fenced k w m) mvs begun begun begins))

    abbrev Directs : List (List Instr) → List (List Instr) → Type 0
    Directs p q = (mvs : List Move) → legal n 64 mvs ≡ true → direct vol p none begun mvs ≡ true
        → observe p (run Source vol p begun mvs) ≡ observe q
        (run (Target m) vol q begun (target_schedule m vol q begun mvs))

    direct_seen : Directs P Q
    direct_seen = subst₂ Directs (source_program k (level_of (Target m))) target_program
        (λ mvs le st. observed m vol ks _ _ (direct_matching m vol ks (fenced k w m) n mvs none begun begun begins
        (start_ready n zeros k.locks) le st))

    -- two runs that are seen the same share what is compared
    shares : (a b : List Move) → legal n 64 a ≡ true → legal n (limit (Target m)) b ≡ true
        → observe P (run_on Source k a) ≡ observe Q (run_on (Target m) k b)
        → Shares (run_program Source k a) (run_program (Target m) k b)
    unfolding view_seen
    shares a b la lb e =
        let x = source_ran a la in
        let y = target_ran b lb in
        rw (answered Source k a x.0 la x.1, answered (Target m) k b y.0 lb y.1) (record {
          ran = refl;
          ran_too = refl;
          same = ap (view_seen (shown (refused_with (start_of k) IllegalMove)))
              (sym (ap (observe P) x.1) ∙ e ∙ ap (observe Q) y.1);
        })

    program_matched : (mvs : List Move)
        → Shares (run_program Source k (source_for m k mvs)) (run_program (Target m) k (counts_as (Target m) k mvs))
    program_matched mvs =
        let cs = counts_as (Target m) k mvs in
        let le = counts_legal (Target m) k mvs in
        shares (source_for m k mvs) cs (source_legal m vol Q n begun cs le) le (matched_seen cs)

    program_direct : (mvs : List Move) → direct vol P none begun (counts_as Source k mvs) ≡ true
        → Shares (run_program Source k (counts_as Source k mvs)) (run_program (Target m) k (target_for m k mvs))
    program_direct mvs st =
        let cs = counts_as Source k mvs in
        let le = counts_legal Source k mvs in
        shares cs (target_for m k mvs) le (target_legal m vol Q n begun cs le) (direct_seen cs le st)

    -- where it ran to beside the source machine
    pub ran_matched : (mvs : List Move) (r : Run) → run (Target m) vol (sheet_program ks) begun mvs ≡ ran r
        → Matched m vol ks
        (run Source vol (kernel_program ks) begun (source_schedule m vol (sheet_program ks) begun mvs))
        (ran r)
    ran_matched mvs r e = subst (Matched m vol ks _) e (matching m vol ks (fenced k w m) mvs begun begun begins)

    -- its lane stands in its sheet part, since it stands at the place of a source lane
    lane_within : (o : Outcome) (r : Run) → Matched m vol ks o (ran r) → Within (sheet_program ks) r.state
    lane_within o r (both_ran e h) t =
        let st = (h.lanes t).stands in
        let ps = get_or ks t [] in
        rw (get_or-map sheet ks t [], st.place)
        (place_within barrier (λ o. op (aim (start ps) o)) ps _ st.passed st.within)

    abbrev Stays : List (List Instr) → Type 0
    Stays q = (mvs : List Move) (r : Run) → run (Target m) vol q begun mvs ≡ ran r → Within q r.state

    target_stays : Stays Q
    target_stays = subst Stays target_program (λ mvs r e. lane_within _ r (ran_matched mvs r e))

  -- ## every machine

  pub ran_to : (m : Machine) (mvs : List Move) → legal n (limit m) mvs ≡ true → (r : Run) × (run_on m k mvs ≡ ran r)
  ran_to Source = source_ran
  ran_to (Target m) = target_ran m

  pub program_within : (m : Machine) (mvs : List Move) → legal n (limit m) mvs ≡ true
      → Within (program_for m k) (run_program m k mvs).state
  program_within m mvs le =
      let x = ran_to m mvs le in
      rw (answered m k mvs x.0 le x.1) (go m x.0 le x.1)
    where
      go : (m : Machine) (r : Run) → legal n (limit m) mvs ≡ true → run_on m k mvs ≡ ran r
          → Within (program_for m k) r.state
      go Source r le e = source_within k w mvs r le e
      go (Target m) r le e = target_stays m mvs r e

  program_marks : (m : Machine) (mvs : List Move) → legal n (limit m) mvs ≡ true
      → MarksBehind (run_program m k mvs).state × (m ≢ Target Pso → Unmarked (run_program m k mvs).state)
  program_marks m mvs le =
      let x = ran_to m mvs le in
      rw (answered m k mvs x.0 le x.1)
      (marks_kept m vol (program_for m k) n zeros k.locks mvs x.0 x.1)

  source_bounds : (mvs : List Move) → legal n 64 mvs ≡ true → Shaped k (shown (run_program Source k mvs))
  source_bounds mvs le =
      let x = source_ran mvs le in
      rw (answered Source k mvs x.0 le x.1) (source_shaped k w mvs x.0 le x.1)

  -- of a target, since its runs share what is bounded
  program_bounds : (m : Machine) (mvs : List Move) → Shaped k (shown (run_program m k (counts_as m k mvs)))
  program_bounds Source mvs = source_bounds (counts_as Source k mvs) (counts_legal Source k mvs)
  program_bounds (Target m) mvs =
      let le = source_legal m vol (Q m) n begun (counts_as (Target m) k mvs) (counts_legal (Target m) k mvs) in
      subst (Shaped k) (program_matched m mvs).same (source_bounds (source_for m k mvs) le)

-- what an accepted file answers
from_bytes : (m : Machine) (s : List ℕ) (k : Program) → verdict s ≡ accepted k → (mvs : List Move)
    → run_program m k mvs ≡ run_file m s mvs
from_bytes m s k e mvs = sym (ap (λ v. run_by m s v mvs) e)

pub demand3 : (s : List ℕ) (k : Program) → verdict s ≡ accepted k → (m : Model) → Demand3 m s k
demand3 s k e m =
    let w = accepted_lawful s k e in
    record {
      matched =
          λ mvs. subst₂ Shares (from_bytes Source s k e _) (from_bytes (Target m) s k e _)
          (program_matched k w m mvs);
      stuck = λ mvs. stuck (Target m) (volatile_in k) (program_for (Target m) k) (answer_for (Target m) s k mvs).state;
      direct = λ mvs st. subst₂ Shares (from_bytes Source s k e _) (from_bytes (Target m) s k e _)
          (program_direct k w m mvs st);
    }

-- number 11 is never met
pub runs : (s : List ℕ) (k : Program) → verdict s ≡ accepted k → Runs s k
runs s k e m mvs le =
    let x = ran_to k (accepted_lawful s k e) m mvs le in
    ap (λ a. a.refusal) (sym (from_bytes m s k e mvs) ∙ answered m k mvs x.0 le x.1)

pub bounds : (s : List ℕ) (k : Program) → verdict s ≡ accepted k → Bounds s k
bounds s k e =
    let w = accepted_lawful s k e in
    record {
      shaped = λ m mvs. subst (λ a. Shaped k (shown a)) (from_bytes m s k e (counts_as m k mvs))
          (program_bounds k w m mvs);
      within = λ m mvs. subst (λ a. Within (program_for m k) a.state) (from_bytes m s k e (counts_as m k mvs))
          (program_within k w m (counts_as m k mvs) (counts_legal m k mvs));
      marks = λ m mvs. subst (λ a. MarksBehind a.state) (from_bytes m s k e (counts_as m k mvs))
          (program_marks k w m (counts_as m k mvs) (counts_legal m k mvs)).0;
      unmarked = λ m ne mvs. subst (λ a. Unmarked a.state) (from_bytes m s k e (counts_as m k mvs))
          ((program_marks k w m (counts_as m k mvs) (counts_legal m k mvs)).1 ne);
    }
