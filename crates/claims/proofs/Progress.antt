-- A run that is not finished has a permitted move: theorem `progress`. Where none is permitted, each lane has ended or
-- stands at a held lock; but the holder of a lock would stand at a higher one, so that every lane has ended.
use mathlib.Core.Path.{◌≡◌, refl, ap, ◌∙◌, sym, subst}
use mathlib.Core.Bool.{Bool, true, false, false≢true}
use mathlib.Core.List.{List, [], ◌∷◌, ◌++◌, map, foldl-append}
use mathlib.Core.Logic.{◌≢◌, ◌⊎◌, inl, inr}
use mathlib.Core.Option
use mathlib.Core.Option.{Option, none, some}
use Prim.Native.Nat.{ℕ, zero, suc, ◌+◌, ◌≤◌, ◌<◌}
use native.Mathlib.Decide.{dec_lt}
use native.Mathlib.Omega.{arith}
use lib.Dec.{eqb}
use borrow.Author.Tests.{lt-ltb, le-leb, eq-eqb, eqb-false, not-true}
use lib.ListN.{length, get_or, get_elem?, replicate, length-map, get_or-map, get_or-eq_default}
use Rattle.laws.proofs.Bools.{both_true}
use Rattle.laws.proofs.Lists.{getElem?-map}
use Rattle.laws.proofs.Numbers.{each_or}
use Rattle.file_format.specs.declared.accepted.Op.{Op}
use Rattle.file_format.specs.declared.accepted.Op.TheVariants.{Set, Add, Load, Store, Lock, Unlock, Skip}
use Rattle.file_format.specs.Accepted.{Program}
use Rattle.file_format.specs.Lawful.{Lawful}
use Rattle.file_verdict.specs.Verdict.{accepted, verdict}
use Rattle.file_wellformed.proofs.Lawful.{accepted_lawful}
use Rattle.barrier_placement.specs.Layout.{Placed, operations}
use Rattle.sheet_format.specs.Layout.{Instr, op, sheet, rank}
use Rattle.sheet_format.specs.declared.Level.{Level}
use Rattle.sheet_format.specs.declared.Level.TheVariants.{Level0}
use Rattle.sheet_format.specs.Levels.{placed_lanes, volatile_in}
use Rattle.sheet_format.proofs.Laws.Aim.{aim_blind}
use Rattle.machine_spec.specs.Entries.{is_nil}
use Rattle.machine_spec.specs.declared.Machine.{Machine}
use Rattle.machine_spec.specs.declared.Machine.TheVariants.{Source, Target}
use Rattle.machine_spec.specs.declared.Model.{Model}
use Rattle.machine_spec.specs.declared.Model.TheVariants.{Tso, Pso}
use Rattle.machine_spec.specs.Step.{Turn, waits, refuses, passes, does}
use Rattle.machine_spec.specs.Schedule.{Move, move, limit, legal}
use Rattle.machine_spec.specs.State.{State, Run, Outcome, ran, lane_at, pos_at, apply_turn, move_turn, advance, run}
use Rattle.machine_spec.specs.State.{begin}
use Rattle.machine_spec.specs.View.{is_none, ended_at, finished, view_of}
use Rattle.machine_spec.specs.Run.{start_of, level_of, program_for, run_on, run_program}
use Rattle.machine_spec.proofs.Levels.{programs_many}
use Rattle.machine_spec.proofs.Laws.Every.{every_true}
use Rattle.claims.specs.Stuck.{halted, AllHalted}
use Rattle.claims.specs.Schedules.{source_schedule}
use Rattle.claims.specs.Claims.{Progress}
use Rattle.claims.proofs.Laws.Lanes.{lane_each}
use Rattle.claims.proofs.Laws.Sheets.{Here, end, ahead, meet, here}
use Rattle.claims.proofs.Fenced.{kernel_program, sheet_program}
use Rattle.claims.proofs.Legal.{legal_append, source_legal}
use Rattle.claims.proofs.Stuck.{stuck}
use Rattle.claims.proofs.HeldSets.{Disciplined, held_at}
use Rattle.claims.proofs.LockClaims.{one, claim}
use Rattle.claims.proofs.ReleasesHeld.{Inv, InvOut, source_kept}
use Rattle.claims.proofs.Matching.{Follows, Matched, both_ran, observed}
use Rattle.claims.proofs.KernelLanes.{source_program, disciplined}
use Rattle.claims.proofs.Demand3.{answered, target_program, ran_matched, ran_to}

-- where every lane is halted the run is finished
abbrev Ends : List (List Instr) → State → Type 0
Ends prog s = AllHalted prog s → finished prog s ≡ true

-- ## the source machine

-- a halted lane has ended, or its next operation is a LOCK whose word is not 0
abbrev Halted : List ℕ → Option Op → Type 0
Halted locks o = (o ≡ none) ⊎ ((l : ℕ) × (o ≡ some (Lock l)) × (get_or locks l 0 ≢ 0))

halted_at : (locks : List ℕ) (o : Option Op) → halted locks (Option.map op o) ≡ true → Halted locks o
halted_at locks none h = inl refl
halted_at locks (some (Set a c)) h = absurd (false≢true h)
halted_at locks (some (Add a b)) h = absurd (false≢true h)
halted_at locks (some (Load a x)) h = absurd (false≢true h)
halted_at locks (some (Store a x)) h = absurd (false≢true h)
halted_at locks (some (Lock l)) h =
    inr (l, refl, eqb-false (get_or locks l 0) 0 (not-true (eqb (get_or locks l 0) 0) h))
halted_at locks (some (Unlock l)) h = absurd (false≢true h)
halted_at locks (some (Skip a t)) h = absurd (false≢true h)

one_true : (b : Bool) → one b ≡ 1 → b ≡ true
one_true true e = refl
one_true false e = absurd (omega arith)

-- the operation that lane t carries out next
abbrev next_of : List (List (Placed Op)) → State → ℕ → Option Op
next_of ks a t = get_elem? (operations (get_or ks t [])) (pos_at a t)

fetched : (ks : List (List (Placed Op))) (a : State) (t : ℕ)
    → get_elem? (get_or (kernel_program ks) t []) (pos_at a t) ≡ Option.map op (next_of ks a t)
fetched ks a t =
    rw (get_or-map (λ ps. map op (operations ps)) ks t []) (getElem?-map op (operations (get_or ks t [])) (pos_at a t))

-- some lane stands at a LOCK of l, and l is held
record Awaited (ks : List (List (Placed Op))) (a : State) (l : ℕ) : Type 0 where
  lane : ℕ
  next : next_of ks a lane ≡ some (Lock l)
  word : get_or a.locks l 0 ≢ 0

module _ (n : ℕ) (ks : List (List (Placed Op))) (held : ℕ → ℕ → ℕ → Bool)
    (D : (t : ℕ) → Disciplined n (operations (get_or ks t [])) (held t)) (a : State)
    (i : Inv (length (kernel_program ks)) n held a) (h : AllHalted (kernel_program ks) a) where
  drained : (t : ℕ) → (lane_at a t).pending ≡ []
  drained = lane_each (λ l. l.pending ≡ []) a (length (kernel_program ks)) i.lanes refl (λ t lt. (h t lt).0)

  stands : (t : ℕ) → Halted a.locks (next_of ks a t)
  stands t = go (dec_lt t (length (kernel_program ks)))
    where
      go : Dec (t < length (kernel_program ks)) → Halted a.locks (next_of ks a t)
      go (yes lt) = halted_at a.locks (next_of ks a t) (rw (fetched ks a t) at (h t lt).1)
      go (no ge) =
          let past : length ks ≤ t = omega (arith, length-map ks (λ ps. map op (operations ps))) in
          inl (rw (get_or-eq_default ks [] {n = t} past))

  -- the lane that a lock's word names holds it
  holds : (l u : ℕ) → get_or a.locks l 0 ≡ suc u → held u (pos_at a u) l ≡ true
  holds l u e =
      let b = held u (pos_at a u) l in
      let c : claim b [] l ≡ 1 =
      subst (λ es. claim b es l ≡ 1) (drained u) (i.claims u l ∙ rw (e, eq-eqb (suc u) (suc u) refl)) in
      one_true b (omega arith)

  -- so it has not ended, and stands at a higher one
  higher : (l : ℕ) → Awaited ks a l → (b : ℕ) × (l < b) × Awaited ks a b
  higher l x = go (get_or a.locks l 0) refl
    where
      up : (u : ℕ) → held u (pos_at a u) l ≡ true → Halted a.locks (next_of ks a u)
          → (b : ℕ) × (l < b) × Awaited ks a b
      up u e (inl z) = absurd (false≢true (sym ((D u).ends (pos_at a u) l z) ∙ e))
      up u e (inr z) = (z.0, (D u).rising (pos_at a u) z.0 l z.1 e, record { lane = u; next = z.1; word = z.2 })

      go : (v : ℕ) → get_or a.locks l 0 ≡ v → (b : ℕ) × (l < b) × Awaited ks a b
      go zero e = absurd (x.word e)
      go (suc u) e = up u (holds l u e) (stands u)

  -- there are few locks, so that none is awaited
  unawaited : (rest l : ℕ) → n ≤ l + rest → Awaited ks a l → ⊥
  unawaited zero l le x = omega (arith, (D x.lane).takes (pos_at a x.lane) l x.next)
  unawaited (suc rest) l le x = let y = higher l x in unawaited rest y.0 (omega (arith, y.1)) y.2

  ended : (t : ℕ) → ended_at (kernel_program ks) a t ≡ true
  ended t = rw (fetched ks a t) (go (stands t))
    where
      go : Halted a.locks (next_of ks a t) → is_none (Option.map op (next_of ks a t)) ≡ true
      go (inl z) = rw z
      go (inr z) = absurd (unawaited n z.0 (omega arith) (record { lane = t; next = z.1; word = z.2 }))

  source_finished : finished (kernel_program ks) a ≡ true
  source_finished =
      both_true _ _ (every_true (length (kernel_program ks)) (ended_at (kernel_program ks) a) (λ t lt. ended t))
      (every_true (length a.lanes) (λ t. is_nil (lane_at a t).pending) (λ t lt. ap is_nil (drained t)))

-- ## a target beside it

here_halted : (locks : List ℕ) {r : ℕ → ℕ} {i : Option Instr} {o : Option Op} → Here r i o → halted locks i ≡ true
    → halted locks (Option.map op o) ≡ true
here_halted locks end h = refl
here_halted locks ahead h = absurd (false≢true h)
here_halted locks {r} (meet {o = o}) h =
    sym (aim_blind (λ x. halted locks (some (op x))) (λ a t u. refl) r o) ∙ h

module _ (m : Model) (vol : ℕ → Bool) (ks : List (List (Placed Op))) where
  follows_halted : (a b : State) → Follows m vol ks a b → AllHalted (sheet_program ks) b
      → AllHalted (kernel_program ks) a
  follows_halted a b f h t lt =
      let x = h t (omega (arith, length-map ks sheet, length-map ks (λ ps. map op (operations ps)))) in
      let st = (f.lanes t).stands in
      let there : halted b.locks (Option.map op (next_of ks a t)) ≡ true =
      here_halted b.locks (here (get_or ks t []) (pos_at a t) st.passed st.within)
      (rw (get_or-map sheet ks t [], st.place) at x.1) in
      ((f.lanes t).pending ∙ x.0, rw (f.locks, fetched ks a t) there)

  -- the two are finished alike
  matched_ends : (r s : Run) → r.row ≡ s.row → Follows m vol ks r.state s.state
      → Ends (kernel_program ks) r.state → Ends (sheet_program ks) s.state
  matched_ends r s e f ends h =
      let alike : view_of r.row (finished (kernel_program ks) r.state) r.state
      ≡ view_of s.row (finished (sheet_program ks) s.state) s.state =
      cc (observed m vol ks (ran r) (ran s) (both_ran e f)) in
      sym (ap (λ v. v.finished) alike) ∙ ends (follows_halted r.state s.state f h)

-- ## a search for a permitted move

some_limit : (m : Machine) → 1 ≤ limit m
some_limit Source = omega arith
some_limit (Target Tso) = omega arith
some_limit (Target Pso) = omega arith

-- with a move of a lane below n at choice 0 or 1 behind it, a schedule stays legal
pub legal_with : (m : Machine) (n : ℕ) (mvs : List Move) (t c : ℕ) → legal n (limit m) mvs ≡ true → t < n → c ≤ 1
    → legal n (limit m) (mvs ++ (move t c ∷ [])) ≡ true
legal_with m n mvs t c le lt small =
    legal_append n (limit m) mvs (move t c ∷ []) le
    (rw (lt-ltb t n lt, le-leb c (limit m) (omega (arith, some_limit m))))

-- a move that is not refused is done, or waits
counted : (r s : Run) (t p : ℕ) (u : Turn) → apply_turn r t p u ≡ ran s → (s.done ≡ suc r.done) ⊎ (u ≡ waits)
counted r s t p waits e = inr refl
counted r s t p refuses e = let z : ◌≡◌ {A = ℕ} 0 1 = cc in absurd (omega arith)
counted r s t p (passes k c) e = inl (cc)
counted r s t p (does k c v) e = inl (cc)

-- ## every machine

module _ (k : Program) (w : Lawful k) where
  abbrev n : ℕ
  n = length k.lanes

  abbrev vol : ℕ → Bool
  vol = volatile_in k

  abbrev begun : Outcome
  begun = begin (start_of k)

  -- wherever a machine runs to
  abbrev EndsOn : Machine → List (List Instr) → Type 0
  EndsOn m prog = (mvs : List Move) (r : Run) → legal n (limit m) mvs ≡ true → run m vol prog begun mvs ≡ ran r
      → Ends prog r.state

  source_ends : (l : Level) → EndsOn Source (kernel_program (placed_lanes l k))
  source_ends l mvs r le e =
      let held : ℕ → ℕ → ℕ → Bool = λ t. held_at (get_or k.lanes t []) in
      let kept : Inv n k.locks held r.state =
      subst (InvOut n k.locks held) e
      (source_kept n k.locks (placed_lanes l k) held (disciplined k w l) vol (replicate k.locations 0) mvs le) in
      source_finished k.locks (placed_lanes l k) held (disciplined k w l) r.state
      (rw (ap length (source_program k l) ∙ length-map k.lanes (map op)) kept)

  module _ (m : Model) where
    abbrev ks : List (List (Placed Op))
    ks = placed_lanes (level_of (Target m)) k

    beside_ends : (mvs : List Move) (o : Outcome) (r : Run) → legal n 64 mvs ≡ true
        → run Source vol (kernel_program ks) begun mvs ≡ o → Matched m vol ks o (ran r)
        → Ends (sheet_program ks) r.state
    beside_ends mvs o r le q (both_ran {r = a} e f) =
        matched_ends m vol ks a r e f (source_ends (level_of (Target m)) mvs a le q)

    target_ends : EndsOn (Target m) (sheet_program ks)
    target_ends mvs r le e =
        beside_ends (source_schedule m vol (sheet_program ks) begun mvs) _ r
        (source_legal m vol (sheet_program ks) n begun mvs le) refl (ran_matched k w m mvs r e)

  machine_ends : (m : Machine) → EndsOn m (program_for m k)
  machine_ends Source = subst (EndsOn Source) (source_program k Level0) (source_ends Level0)
  machine_ends (Target m) = subst (EndsOn (Target m)) (target_program k w m) (target_ends m)

  module _ (m : Machine) (mvs : List Move) (le : legal n (limit m) mvs ≡ true) (r : Run) (e : run_on m k mvs ≡ ran r)
    where
      abbrev Done : ℕ → ℕ → Type 0
      Done t c = (run_program m k (mvs ++ (move t c ∷ []))).done ≡ suc (run_program m k mvs).done

      abbrev Found : Type 0
      Found = (t : ℕ) × (c : ℕ) × (t < n) × (c ≤ 1) × Done t c

      abbrev turn_of : ℕ → ℕ → Turn
      turn_of t c = move_turn m vol (program_for m k) r.state (move t c)

      abbrev Waiting : ℕ → Type 0
      Waiting t = (turn_of t 0 ≡ waits) × (turn_of t 1 ≡ waits)

      tried : (t c : ℕ) → t < n → c ≤ 1 → Done t c ⊎ (turn_of t c ≡ waits)
      tried t c lt small =
          let more = mvs ++ (move t c ∷ []) in
          let longer = legal_with m n mvs t c le lt small in
          let y = ran_to k w m more longer in
          let on : advance m vol (program_for m k) (ran r) (move t c) ≡ ran y.0 = rw (foldl-append, e) at y.1 in
          elim (counted r y.0 t (rank (get_or (program_for m k) t []) (pos_at r.state t)) (turn_of t c) on) [
            | inl d ↦ inl (rw (answered m k more y.0 longer y.1, answered m k mvs r le e) d)
            | inr z ↦ inr z
          ]

      lane_tried : (t : ℕ) → t < n → Found ⊎ Waiting t
      lane_tried t lt = go (tried t 0 lt (omega arith)) (tried t 1 lt (omega arith))
        where
          go : Done t 0 ⊎ (turn_of t 0 ≡ waits) → Done t 1 ⊎ (turn_of t 1 ≡ waits) → Found ⊎ Waiting t
          go (inl d) y = inl (t, 0, lt, omega arith, d)
          go (inr x) (inl d) = inl (t, 1, lt, omega arith, d)
          go (inr x) (inr y) = inr (x, y)

      none_left : ((t : ℕ) → t < n → Waiting t) → (run_program m k mvs).finished ≡ true
      none_left f =
          let halts = (stuck m vol (program_for m k) r.state).0 (λ t lt. f t (rw (programs_many k w m) at lt)) in
          rw (answered m k mvs r le e) (machine_ends m mvs r le e halts)

      found : ((run_program m k mvs).finished ≡ true) ⊎ Found
      found = elim (each_or Waiting n lane_tried) [ inl p ↦ inr p | inr f ↦ inl (none_left f) ]

pub progress : (s : List ℕ) (k : Program) → verdict s ≡ accepted k → Progress s k
progress s k e m mvs le =
    let w = accepted_lawful s k e in
    let x = ran_to k w m mvs le in
    rw e (found k w m mvs le x.0 x.1)
