-- What is pending in a direct run: nothing, but for the entry of the STORE or UNLOCK that the last move carried out.
use mathlib.Core.Path.{◌≡◌, refl, ap, ◌∙◌, sym}
use mathlib.Core.Bool.{Bool, true, false, ◌&&◌, cond}
use mathlib.Core.List.{List, [], ◌∷◌}
use mathlib.Core.Logic.{◌≢◌}
use mathlib.Core.Option.{Option, none, some}
use Prim.Native.Nat.{ℕ, zero, suc, ◌<◌}
use native.Mathlib.Decide.{ℕ_discrete}
use native.Mathlib.Omega.{arith}
use lib.Dec.{eqb}
use borrow.Author.Tests.{eqb-true, eq-eqb, ne_eqb, not-false}
use lib.ListN.{length, get_or, get_elem?, length-replicate}
use Rattle.laws.proofs.Bools.{and_true}
use Rattle.laws.proofs.Lists.{nil_of_length}
use Rattle.file_format.specs.declared.accepted.Op.{Op}
use Rattle.file_format.specs.declared.accepted.Op.TheVariants.{Set, Add, Load, Store, Lock, Unlock, Skip}
use Rattle.sheet_format.specs.Layout.{Instr, op, barrier, rank}
use Rattle.machine_spec.specs.Entries.{Entry, append_entry}
use Rattle.machine_spec.specs.declared.Machine.TheVariants.{Source}
use Rattle.machine_spec.specs.Step.{Control, Core, Turn, waits, refuses, passes, does, goto, permits, holds, loads}
use Rattle.machine_spec.specs.Step.{next}
use Rattle.machine_spec.specs.Step.{emit, core_after, effect, execute, commit}
use Rattle.machine_spec.specs.Schedule.{Move, move}
use Rattle.machine_spec.specs.State.{State, start_state, Run, Outcome, ran, refused, lane_at, pos_at, core_of, set_lane}
use Rattle.machine_spec.specs.State.{apply_turn, move_turn, advance}
use Rattle.claims.specs.Stuck.{halted}
use Rattle.claims.specs.Direct.{appends, appends_at, owes, is_done, honours}
use Rattle.claims.proofs.Laws.Lanes.{set_lane_count, set_lane_each, start_each}
use Rattle.claims.proofs.Laws.Pending.{oldest_commits}
use Rattle.claims.proofs.Stuck.{free_permits}

-- the length of lane t's pending list where d owes
abbrev pub due : Option ℕ → ℕ → ℕ
due none t = 0
due (some u) t = cond (eqb t u) 1 0

pub record Ready (n : ℕ) (d : Option ℕ) (s : State) : Type 0 where
  pub count : length s.lanes ≡ n
  pub lists : (t : ℕ) → length (lane_at s t).pending ≡ due d t

abbrev pub ReadyOut : ℕ → Option ℕ → Outcome → Type 0
ReadyOut n d (refused t k) = Unit {0}
ReadyOut n d (ran r) = Ready n d r.state

-- the lane's pending list after a turn, es being the one before, satisfies P
abbrev After : (List Entry → Type 0) → List Entry → Turn → Type 0
After P es waits = P es
After P es refuses = Unit {0}
After P es (passes k c) = P c.pending
After P es (does k c v) = P c.pending

module _ (vol : ℕ → Bool) (w : ℕ) (k : Control) (c : Core) where
  emit_length : (o : Op) → length (append_entry [] (emit c o)) ≡ cond (appends o) 1 0
  emit_length (Set a n) = refl
  emit_length (Add a b) = refl
  emit_length (Load a x) = refl
  emit_length (Store a x) = refl
  emit_length (Lock l) = refl
  emit_length (Unlock l) = refl
  emit_length (Skip a t) = refl

  effect_after : c.pending ≡ [] → (o : Op)
      → After (λ es. length es ≡ cond (appends o) 1 0) c.pending (effect Source vol w k c o)
  effect_after nil o = go (holds w c o)
    where
      go : (b : Bool) → After (λ es. length es ≡ cond (appends o) 1 0) c.pending
          (cond b (does (goto k (next c o k.pos)) (core_after Source vol w c o) (loads Source vol c o)) refuses)
      go true = ap (λ es. length (append_entry es (emit c o))) nil ∙ emit_length o
      go false = tt

  -- an operation that appends does not wait
  halted_appends : (o : Op) → halted c.locks (some (op o)) ≡ true → appends o ≡ false
  halted_appends (Set a n) h = refl
  halted_appends (Add a b) h = refl
  halted_appends (Load a x) h = refl
  halted_appends (Store a x) h = sym h
  halted_appends (Lock l) h = refl
  halted_appends (Unlock l) h = sym h
  halted_appends (Skip a t) h = refl

  execute_after : c.pending ≡ [] → (i : Option Instr)
      → After (λ es. length es ≡ cond (appends_at i) 1 0) c.pending (execute Source vol w k c i)
  execute_after nil none = rw nil
  execute_after nil (some (barrier b)) = rw nil
  execute_after nil (some (op o)) = go (permits Source vol c o) refl
    where
      go : (b : Bool) → permits Source vol c o ≡ b
          → After (λ es. length es ≡ cond (appends o) 1 0) c.pending (execute Source vol w k c (some (op o)))
      go true h = rw h (effect_after nil o)
      go false h =
          let none-appended =
          halted_appends o
          (not-false (halted c.locks (some (op o))) (sym (free_permits Source vol c nil o) ∙ h)) in
          rw (h, none-appended, nil)

  -- a list of one entry after the commit of that entry
  commit_after : length c.pending ≡ 1
      → After (λ es. length es ≡ 0) c.pending (commit Source vol k c 0 (get_elem? c.pending 0))
  commit_after one = go c.pending refl one
    where
      go : (es : List Entry) → c.pending ≡ es → length es ≡ 1
          → After (λ es. length es ≡ 0) c.pending (commit Source vol k c 0 (get_elem? c.pending 0))
      go [] h e = absurd (omega arith)
      go (x ∷ []) h e = rw (h, oldest_commits Source vol k.marks [] x refl)
      go (x ∷ y ∷ es) h e = absurd (omega arith)

due_other : (d : Bool) (t i : ℕ) → i ≢ t → due (cond d (some t) none) i ≡ 0
due_other true t i ne = rw (ne_eqb i t ne)
due_other false t i ne = refl

due_own : (d : Bool) (t : ℕ) → due (cond d (some t) none) t ≡ cond d 1 0
due_own true t = rw (eq-eqb t t refl)
due_own false t = refl

ready_put : (n : ℕ) (d d' : Option ℕ) (s : State) (t : ℕ) (k : Control) (c : Core) → Ready n d s → t < n
    → ((i : ℕ) → i ≢ t → due d i ≡ due d' i)
    → length c.pending ≡ due d' t → Ready n d' (set_lane s t k c)
ready_put n d d' s t k c h lt same a = record {
  count = set_lane_count s t k c ∙ h.count;
  lists = set_lane_each (λ i l. length l.pending ≡ due d' i) s t k c (rw h.count lt) a
      (λ i e. h.lists i ∙ same i e);
}

-- what is pending after lane t's turn, where no other lane owes before or after
ready_land : (n : ℕ) (d d' : Option ℕ) (r : Run) (t k : ℕ) (u : Turn) → Ready n d r.state → t < n
    → ((i : ℕ) → i ≢ t → due d i ≡ due d' i)
    → After (λ es. length es ≡ due d' t) (lane_at r.state t).pending u → ReadyOut n d' (apply_turn r t k u)
ready_land n d d' r t k waits h lt same a = record { count = h.count; lists = λ i. go i (ℕ_discrete i t) }
  where
    go : (i : ℕ) → Dec (i ≡ t) → length (lane_at r.state i).pending ≡ due d' i
    go i (yes e) = rw e a
    go i (no e) = h.lists i ∙ same i e
ready_land n d d' r t k refuses h lt same a = tt
ready_land n d d' r t k (passes j c) h lt same a = ready_put n d d' r.state t j c h lt same a
ready_land n d d' r t k (does j c v) h lt same a = ready_put n d d' r.state t j c h lt same a

module _ (vol : ℕ → Bool) (prog : List (List Instr)) (n : ℕ) (r : Run) where
  -- an owed entry is committed by choice 1 of its lane
  pub honoured : (u t k : ℕ) (x : Turn) → Ready n (some u) r.state
      → honours (some u) x r.state (move t k) ≡ true → (t ≡ u) × (k ≡ 1)
  honoured u t k x h e =
      let most = (and_true (eqb t u && eqb k (length (lane_at r.state u).pending)) (is_done x) e).0 in
      let both = and_true (eqb t u) (eqb k (length (lane_at r.state u).pending)) most in
      (eqb-true t u both.0, eqb-true k _ both.1 ∙ h.lists u ∙ due_own true u)

  -- a lane that carries out an instruction has nothing pending
  pub nothing_pending : (d : Option ℕ) (t : ℕ) (x : Turn) → Ready n d r.state
      → honours d x r.state (move t 0) ≡ true → (lane_at r.state t).pending ≡ []
  nothing_pending none t x h e = nil_of_length _ (h.lists t)
  nothing_pending (some u) t x h e = let k = (honoured u t 0 x h e).1 in absurd (omega arith)

  ready_advance : (d d' : Option ℕ) (mv : Move) → Ready n d r.state → mv.lane < n
      → ((i : ℕ) → i ≢ mv.lane → due d i ≡ due d' i)
      → After (λ es. length es ≡ due d' mv.lane) (lane_at r.state mv.lane).pending
      (move_turn Source vol prog r.state mv)
      → ReadyOut n d' (advance Source vol prog (ran r) mv)
  ready_advance d d' mv h lt same a =
      ready_land n d d' r mv.lane (rank (get_or prog mv.lane []) (pos_at r.state mv.lane))
      (move_turn Source vol prog r.state mv) h lt same a

  pub ready_step : (d : Option ℕ) (t k : ℕ) → Ready n d r.state → t < n
      → honours d (move_turn Source vol prog r.state (move t k)) r.state (move t k) ≡ true
      → ReadyOut n (owes prog r.state (move t k)) (advance Source vol prog (ran r) (move t k))
  ready_step none t zero h lt e =
      let i = get_elem? (get_or prog t []) (pos_at r.state t) in
      ready_advance none (cond (appends_at i) (some t) none) (move t 0) h lt
      (λ j ne. sym (due_other (appends_at i) t j ne))
      (rw (due_own (appends_at i) t)
      (execute_after vol (suc t) (lane_at r.state t).control (core_of r.state (lane_at r.state t))
      (nil_of_length (lane_at r.state t).pending (h.lists t)) i))
  ready_step (some u) t zero h lt e = let z =
      (honoured u t 0 (move_turn Source vol prog r.state (move t 0)) h e).1 in absurd (omega arith)
  ready_step none t (suc k) h lt e =
      let nil : (lane_at r.state t).pending ≡ [] = nil_of_length (lane_at r.state t).pending (h.lists t) in
      ready_advance none none (move t (suc k)) h lt (λ i ne. refl) (rw nil)
  ready_step (some u) t (suc zero) h lt e =
      let same : t ≡ u = (honoured u t 1 (move_turn Source vol prog r.state (move t 1)) h e).0 in
      ready_advance (some u) none (move t 1) h lt (λ i ne. due_other true u i (rw same at ne))
      (commit_after vol (suc t) (lane_at r.state t).control (core_of r.state (lane_at r.state t))
      (h.lists t ∙ ap (λ j. due (some u) j) same ∙ due_own true u))
  ready_step (some u) t (suc (suc k)) h lt e =
      let z = (honoured u t (suc (suc k)) (move_turn Source vol prog r.state (move t (suc (suc k)))) h e).1 in
      absurd (omega arith)

pub start_ready : (n : ℕ) (m : List ℕ) (k : ℕ) → Ready n none (start_state n m k)
start_ready n m k =
    record { count = length-replicate n _; lists = start_each (λ l. length l.pending ≡ 0) n m k refl refl }
