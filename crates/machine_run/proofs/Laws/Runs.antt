-- Laws of runs: a lane's turn is the text's turn of a move, and what the moves so far come to with one move more.
use Prim.Native.Nat.{ℕ, suc, ◌+◌, ◌-◌, ◌*◌, ◌≤◌, ◌<◌}
use mathlib.Core.Path.{◌≡◌, refl, ap, ap₂, sym, subst, ◌∙◌}
use mathlib.Core.Bool.{Bool}
use mathlib.Core.Logic.{◌⊎◌, inl, inr}
use mathlib.Core.List.{List, [], ◌∷◌, ◌++◌, foldl-append}
use mathlib.Core.Option.{some}
use native.Mathlib.Numerals.{add-one}
use native.Mathlib.Omega.{arith}
use lib.ListN.{length, get_or, get_elem?, take, drop, take-append-drop}
use lib.Seq.{take-suc, take_all}
use Rattle.laws.proofs.Lists.{some_at}
use Rattle.sheet_format.specs.Layout.{Instr, rank}
use Rattle.sheet_format.specs.Read.{read_rows}
use Rattle.machine_spec.specs.Step.{Turn, waits, refuses, passes, does, turn}
use Rattle.machine_spec.specs.Schedule.{Move, move}
use Rattle.machine_spec.specs.State.{Lane, Loaded, Run, Outcome, ran, refused, core_of, load_row, apply_turn}
use Rattle.machine_spec.specs.State.{move_turn, advance, run, begin}
use Rattle.machine_spec.specs.declared.Machine.{Machine}
use Rattle.machine_state.specs.declared.state.Moved.{Moved}
use Rattle.machine_state.specs.declared.state.Moved.TheVariants.{Waited, Done, ReleaseNotHeld}
use Rattle.machine_state.specs.Ready.{LaneReady, Movable}
use Rattle.machine_run.specs.Runs.{RunnableBy, Ended, Ran, Refused, outcome_by, Ends}
use Rattle.machine_state.specs.States.{Blocks, lane_of, count_of, state_in, Sized}
use Rattle.machine_step.specs.Turns.{turns, Took}
use Rattle.machine_state.proofs.Laws.Lanes.{lane_in_lem}

-- the turn of the text's move
pub turn_in : (m : Machine) (f : ℕ → Bool) (prog : List (List Instr)) (s : Blocks) (t c : ℕ) → Sized s
    → t < count_of s 0
    → count_of s 0 ≤ 4
    → move_turn m f prog (state_in s) (move t c) ≡ turns m f (get_or prog t []) s t c
turn_in m f prog s t c z h k =
    ap (λ (l : Lane). turn m f (suc t) (get_or prog t []) l.control (core_of (state_in s) l) c)
    (lane_in_lem s t z h k)

-- the answer after one move more of lane t, which stood at p
abbrev pub answer_after : Moved → ℕ → ℕ → ℕ → ℕ → Ended
answer_after Waited d w t p = Ran d (suc w)
answer_after Done d w t p = Ran (suc d) w
answer_after ReleaseNotHeld d w t p = Refused t p

module _ (prog : List (List Instr)) (d w t p : ℕ) (row : List Loaded) (s e : Blocks) where
  abbrev Comes : Turn → Moved → Type 0
  Comes u q =
      (l : List Loaded) × (apply_turn (record { state = state_in s; row = row; done = d; waited = w }) t
      (rank (get_or prog t []) p) u ≡ outcome_by prog e l (answer_after q d w t p))

  after_turn : (u : Turn) (q : Moved) → Took s t u q e → Comes u q
  after_turn waits q h =
      subst (Comes waits) (sym h.answer)
      (row, ap (λ x. ran (record { state = x; row = row; done = d; waited = suc w })) (sym h.state))
  after_turn refuses q h = subst (Comes refuses) (sym h.answer) (row, refl)
  after_turn (passes k c) q h =
      subst (Comes (passes k c)) (sym h.answer)
      (row, ap (λ x. ran (record { state = x; row = row; done = suc d; waited = w })) (sym h.state))
  after_turn (does k c v) q h =
      let l = row ++ load_row t (rank (get_or prog t []) p) v in
      subst (Comes (does k c v)) (sym h.answer)
      (l, ap (λ x. ran (record { state = x; row = l; done = suc d; waited = w })) (sym h.state))

-- a refused run stays refused
stays : (m : Machine) (f : ℕ → Bool) (prog : List (List Instr)) (t p : ℕ) (mvs : List Move)
    → run m f prog (refused t p) mvs ≡ refused t p
stays m f prog t p [] = refl
stays m f prog t p (mv ∷ mvs) = stays m f prog t p mvs

module _ (m : Machine) (f : ℕ → Bool) (mvs : List Move) (prog : List (List Instr)) (s : Blocks) where
  abbrev up_to : ℕ → Outcome
  up_to k = run m f prog (begin (state_in s)) (take k mvs)

  one_more : (k : ℕ) (mv : Move) → get_elem? mvs k ≡ some mv → up_to (suc k) ≡ advance m f prog (up_to k) mv
  one_more k mv e =
      let at = some_at mvs k mv mv e in
      ap (run m f prog (begin (state_in s))) (take-suc mvs k mv at.0)
      ∙ foldl-append (advance m f prog) (begin (state_in s)) (take k mvs) (get_or mvs k mv ∷ [])
      ∙ ap (advance m f prog (up_to k)) at.1

  pub ends_more : (k d w t c : ℕ) (e z : Blocks) (q : Moved) → Sized e → t < count_of s 0 → count_of s 0 ≤ 4 → get_elem?
      mvs k ≡ some (move t c)
      → Took e t (turns m f (get_or prog t []) e t c) q z → Ends m f (take k mvs) prog s (Ran d w) e
      → Ends m f (take (suc k) mvs) prog s (answer_after q d w t (lane_of e t).control.pos) z
  ends_more k d w t c e z q sized h few at made so =
      let p = (lane_of e t).control.pos in
      let here : t < count_of e 0 = omega (arith, so.lanes) in
      let only : count_of e 0 ≤ 4 = omega (arith, so.lanes) in
      let stands = ap (λ (l : Lane). rank (get_or prog t []) l.control.pos) (lane_in_lem e t sized here only) in
      let r : Run = record { state = state_in e; row = so.row; done = d; waited = w } in
      let turned = after_turn prog d w t p so.row e z (turns m f (get_or prog t []) e t c) q made in
      record {
        sized = made.sized;
        lanes = made.lanes ∙ so.lanes;
        row = turned.0;
        outcome = one_more k (move t c) at
            ∙ ap (λ o. advance m f prog o (move t c)) so.outcome
            ∙ ap₂ (apply_turn r t) stands (turn_in m f prog e t c sized here only)
            ∙ turned.1;
      }

  pub ends_refused : (k t p : ℕ) (z : Blocks) → Ends m f (take k mvs) prog s (Refused t p) z
      → Ends m f mvs prog s (Refused t p) z
  ends_refused k t p z so = record {
    sized = so.sized;
    lanes = so.lanes;
    row = [];
    outcome = ap (run m f prog (begin (state_in s))) (sym (take-append-drop k mvs))
        ∙ foldl-append (advance m f prog) (begin (state_in s)) (take k mvs) (drop k mvs)
        ∙ ap (λ o. run m f prog o (drop k mvs)) so.outcome
        ∙ stays m f prog t (rank (get_or prog t []) p) (drop k mvs);
  }

  pub ends_all : (k : ℕ) (q : Ended) (z : Blocks) → length mvs ≤ k → Ends m f (take k mvs) prog s q z
      → Ends m f mvs prog s q z
  ends_all k q z h so = subst (λ l. Ends m f l prog s q z) (take_all k mvs h) so

-- how a move that is not refused is counted: d moves were done before it, x are after it
abbrev pub Counted : Moved → ℕ → ℕ → Type 0
Counted q d x = ((q ≡ Waited) × (x ≡ d)) ⊎ ((q ≡ Done) × (x ≡ d + 1))

pub counted_few : {q : Moved} (k d x : ℕ) → Counted q d x → d ≤ k → x ≤ k + 1
counted_few k d x (inl w) h = omega arith
counted_few k d x (inr w) h = omega arith

counted_answer : {q : Moved} (k d x t p : ℕ) → Counted q d x → d ≤ k
    → answer_after q d (k - d) t p ≡ Ran x (k + 1 - x)
counted_answer {q} k d x t p (inl w) h =
    let more : suc (k - d) ≡ k + 1 - x = omega arith in
    ap (λ y. answer_after y d (k - d) t p) w.0 ∙ ap₂ Ran (sym w.1) more
counted_answer {q} k d x t p (inr w) h =
    let one : suc d ≡ x = omega arith in
    let same : k - d ≡ k + 1 - x = omega arith in
    ap (λ y. answer_after y d (k - d) t p) w.0 ∙ ap₂ Ran one same

-- ## a schedule that the code can run
module _ {m : Machine} {f : ℕ → Bool} {sheet first count : List ℕ} {mvs : List Move} {s : Blocks}
    {prog : List (List Instr)} (h : RunnableBy m f sheet first count mvs s prog) (k : ℕ) (mv : Move)
    (at : get_elem? mvs k ≡ some mv) where
  abbrev rows : List Instr
  rows = read_rows (get_or count mv.lane 0) (drop (get_or first mv.lane 0) sheet)

  pub lane_below : mv.lane < 4
  lane_below = omega (arith, h.lanes, h.named k mv at)

  -- the lane of a move can make it
  pub lane_moves : (d w : ℕ) (e : Blocks) → Sized e → Ends m f (take k mvs) prog s (Ran d w) e
      → Movable e mv.lane rows
  lane_moves d w e sized so =
      let named = h.named k mv at in
      record {
        lies = record { lane = lane_below; sized = sized };
        ready = subst (λ p. LaneReady p (lane_of e mv.lane)) (h.programs mv.lane named).rows
            (subst (LaneReady (get_or prog mv.lane [])) (lane_in_lem e mv.lane sized
            (omega (arith, so.lanes)) (omega (arith, so.lanes, h.lanes)))
            (h.ready k mv _ at so.outcome));
      }

  pub inside : get_or first mv.lane 0 + 8 * get_or count mv.lane 0 ≤ length sheet
  inside = (h.programs mv.lane (h.named k mv at)).inside

  module _ (d w : ℕ) (e z : Blocks) (q : Moved) (sized : Sized e)
      (made : Took e mv.lane (turns m f rows e mv.lane mv.choice) q z)
      (so : Ends m f (take k mvs) prog s (Ran d w) e) where
    moved : Ends m f (take (suc k) mvs) prog s (answer_after q d w mv.lane (lane_of e mv.lane).control.pos) z
    moved =
        let named = h.named k mv at in
        ends_more m f mvs prog s k d w mv.lane mv.choice e z q sized named h.lanes at
        (subst (λ p. Took e mv.lane (turns m f p e mv.lane mv.choice) q z)
        (sym (h.programs mv.lane named).rows) made) so

    pub run_refused : {p : ℕ} → p ≡ (lane_of e mv.lane).control.pos → q ≡ ReleaseNotHeld
        → Ends m f mvs prog s (Refused mv.lane p) z
    run_refused {p} same r =
        ends_refused m f mvs prog s (suc k) mv.lane p z
        (subst (λ x. Ends m f (take (suc k) mvs) prog s x z)
        (ap₂ (λ x y. answer_after x d w mv.lane y) r (sym same)) moved)

    pub run_counted : (x : ℕ) → Counted q d x → d ≤ k → w ≡ k - d
        → Ends m f (take (k + 1) mvs) prog s (Ran x (k + 1 - x)) z
    run_counted x c few all =
        let p = (lane_of e mv.lane).control.pos in
        let answer : answer_after q d w mv.lane p ≡ Ran x (k + 1 - x) =
        ap (λ y. answer_after q d y mv.lane p) all ∙ counted_answer k d x mv.lane p c few in
        subst (λ y. Ends m f (take (k + 1) mvs) prog s y z) answer
        (subst (λ j. Ends m f (take j mvs) prog s (answer_after q d w mv.lane p) z) (sym (add-one k)) moved)
