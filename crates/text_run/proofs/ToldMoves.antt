-- What is told of a move from the state records before and after it is what the machine does: theorem `move_told_lem`.
use Prim.Native.Nat.{ℕ, zero, suc, ◌+◌, ◌*◌, ◌-◌, ◌≤◌, ◌<◌}
use mathlib.Core.Path.{◌≡◌, refl, sym, ap, ◌∙◌}
use mathlib.Core.Bool.{Bool, true, false, cond}
use mathlib.Core.List.{List, [], ◌∷◌, ◌++◌, append-nil}
use mathlib.Core.Option.{Option, none, some}
use native.Mathlib.Omega.{arith}
use lib.Dec.{eqb}
use lib.ListN.{length, get_or, get_elem?, take, drop}
use lib.Seq.{get_or-set_same}
use borrow.Author.Tests.{eq-eqb, ne_eqb}
use Rattle.laws.proofs.Lists.{some_at}
use Rattle.file_format.specs.declared.accepted.Op.{Op}
use Rattle.file_format.specs.declared.accepted.Op.TheVariants.{Set, Add, Load, Store, Lock, Unlock, Skip}
use Rattle.sheet_format.specs.Layout.{Instr, op, barrier, rank}
use Rattle.sheet_format.specs.Read.{read_instr}
use Rattle.machine_spec.specs.Entries.{Entry}
use Rattle.machine_spec.specs.declared.Machine.{Machine}
use Rattle.machine_spec.specs.Rules.{may_commit, may_pass}
use Rattle.machine_spec.specs.Step.{Control, Core, Turn, waits, refuses, passes, does, permits, holds, value_of, loads}
use Rattle.machine_spec.specs.Step.{goto, next, core_after, execute, commit, turn}
use Rattle.machine_spec.specs.Schedule.{Move}
use Rattle.machine_spec.specs.State.{Lane, State, Run, ran, idle, lane_at, pos_at, core_of, lane_of, set_lane}
use Rattle.machine_spec.specs.State.{waited_more, done_more, load_row, move_turn, apply_turn, advance}
use Rattle.machine_spec.specs.Run.{Answer, answer_of}
use Rattle.machine_lane.specs.Lanes.{no_entry}
use Rattle.machine_record.specs.Record.{state_bytes}
use Rattle.machine_record.specs.Fields.{Fields, fields_in, fields_of, Same, Fits}
use Rattle.machine_record.proofs.ReadBack.{read_back}
use Rattle.sheet_rows.specs.Rows.{parts_in}
use Rattle.text_put.specs.Decimal.{decimal}
use Rattle.text_put.specs.Words.{newline, named}
use Rattle.text_run.specs.Words.{lane_word, choice_word, waited_word, done_word, value_word, commits_word}
use Rattle.text_run.specs.Lanes.{entry_text}
use Rattle.text_run.specs.Names.{instr_on}
use Rattle.text_run.specs.Places.{next_instr}
use Rattle.text_run.specs.Moves.{loaded_text, carried_text, done_text, has_waited, outcome_text, line_by, move_line}
use Rattle.text_run.specs.Turns.{carried, committed, chosen, taken, turn_text, move_told, RowsOf}

-- ## turns

-- two turns that differ, whatever they hold
abbrev kind : Turn → ℕ
kind waits = 0
kind refuses = 1
kind (passes k c) = 2
kind (does k c v) = 3

-- a test that stands before a turn was passed
passed : (b : Bool) (z : Turn) {x y : Turn} → cond b x z ≡ y → (kind z ≡ kind y → ⊥) → x ≡ y
passed true z e n = e
passed false z e n = absurd (n (ap kind e))

-- the value that an operation took, where its register after it is the one that is told
loaded : (m : Machine) (vol : ℕ → Bool) (c : Core) (f : Fields) (t : ℕ) (o : Op)
    → ((a x : ℕ) → o ≡ Load a x → f.register t a ≡ value_of m vol c x)
    → loaded_text (op o) f t ≡ taken (loads m vol c o)
loaded m vol c f t (Set a n) h = refl
loaded m vol c f t (Add a b) h = refl
loaded m vol c f t (Load a x) h = ap (named value_word) (h a x refl)
loaded m vol c f t (Store a x) h = refl
loaded m vol c f t (Lock l) h = refl
loaded m vol c f t (Unlock l) h = refl
loaded m vol c f t (Skip a u) h = refl

-- ## a move of lane t between two answers

-- what a turn of lane t makes of the first of two answers
abbrev Came : Answer → Answer → ℕ → Turn → Type 0
Came b a t waits = a.done ≡ b.done
Came b a t refuses = ⊥
Came b a t (passes k c) = (a.done ≡ suc b.done) × (a.state ≡ set_lane b.state t k c)
Came b a t (does k c v) = (a.done ≡ suc b.done) × (a.state ≡ set_lane b.state t k c)

-- what is asked of the two answers
pub record Tells (rows : List ℕ) (prog : List (List Instr)) (t : ℕ) (before after : Answer) : Type 0 where
  pub fits_before : Fits before
  pub fits_after : Fits after
  pub there : t < length before.state.lanes
  pub registers : length (lane_at before.state t).regs ≡ 8
  pub rows_of : RowsOf rows prog t

module _ (m : Machine) (vol : ℕ → Bool) (prog : List (List Instr)) (rows : List ℕ) (t : ℕ) (b a : Answer)
    (h : Tells rows prog t b a) where
  abbrev f : Fields
  f = fields_in (state_bytes b)

  abbrev g : Fields
  g = fields_in (state_bytes a)

  abbrev lane : Lane
  lane = lane_at b.state t

  abbrev core : Core
  core = core_of b.state lane

  same : Same f (fields_of b)
  same = read_back b h.fits_before

  few : t < 4
  few = omega (arith, h.there, h.fits_before.lanes)

  stood : (i : Instr) → get_elem? (get_or prog t []) lane.control.pos ≡ some i → next_instr rows f t ≡ i
  stood i e =
      ap (λ p. read_instr (drop (get_or (parts_in rows).from t 0 + 8 * p) rows)) (same.position t few)
      ∙ h.rows_of.row lane.control.pos i e

  -- an operation that did not wait and was not refused is done
  carried_by : (o : Op) (y : Turn) → execute m vol (suc t) lane.control core (some (op o)) ≡ y → 2 ≤ kind y
      → does (goto lane.control (next core o lane.control.pos)) (core_after m vol (suc t) core o)
      (loads m vol core o) ≡ y
  carried_by o y e did =
      passed (holds (suc t) core o) refuses (passed (permits m vol core o) waits e (λ z. omega arith))
      (λ z. omega arith)

  module _ (k : Control) (c : Core) (moved : a.state ≡ set_lane b.state t k c) where
    register_after : (r : ℕ) → r < 8 → g.register t r ≡ get_or c.regs r 0
    register_after r l =
        (read_back a h.fits_after).register t r few l
        ∙ ap (λ (s : State). get_or (lane_at s t).regs r 0) moved
        ∙ ap (λ (y : Lane). get_or y.regs r 0) (get_or-set_same b.state.lanes t (lane_of k c) idle h.there)

    -- a LOAD leaves in its register the value that it took
    took : (o : Op) → c ≡ core_after m vol (suc t) core o
        → get_elem? (get_or prog t []) lane.control.pos ≡ some (op o)
        → (r x : ℕ) → o ≡ Load r x → g.register t r ≡ value_of m vol core x
    took o e at r x i =
        let small : r < 8 = h.rows_of.register lane.control.pos r x (at ∙ ap (λ y. some (op y)) i) in
        register_after r small
        ∙ ap (λ (y : Core). get_or y.regs r 0) (e ∙ ap (core_after m vol (suc t) core) i)
        ∙ get_or-set_same lane.regs r (value_of m vol core x) 0 (omega (arith, h.registers))

    done_instr : (v : Option ℕ) (i : Option Instr) → get_elem? (get_or prog t []) lane.control.pos ≡ i
        → execute m vol (suc t) lane.control core i ≡ does k c v
        → carried_text m (next_instr rows f t) g t ≡ carried m i ++ taken v
    done_instr v none at e = absurd (let z = ap kind e in omega arith)
    done_instr v (some (op o)) at e =
        let did = carried_by o (does k c v) e (omega arith) in
        let end : c ≡ core_after m vol (suc t) core o = cc in
        let value : loads m vol core o ≡ v = cc in
        ap (λ i. carried_text m i g t) (stood (op o) at)
        ∙ ap (λ y. instr_on m (op o) ++ y) (loaded m vol core g t o (took o end at) ∙ ap taken value)
    done_instr v (some (barrier d)) at e =
        absurd (let z = ap kind (passed (may_pass m d core.pending) waits e (λ z. omega arith)) in omega arith)

  pass_instr : (k : Control) (c : Core) (i : Option Instr) → get_elem? (get_or prog t []) lane.control.pos ≡ i
      → execute m vol (suc t) lane.control core i ≡ passes k c
      → carried_text m (next_instr rows f t) g t ≡ carried m i
  pass_instr k c none at e = absurd (let z = ap kind e in omega arith)
  pass_instr k c (some (op o)) at e =
      absurd (let z = ap kind (carried_by o (passes k c) e (omega arith)) in omega arith)
  pass_instr k c (some (barrier d)) at e =
      ap (λ i. carried_text m i g t) (stood (barrier d) at) ∙ append-nil (instr_on m (barrier d))

  pass_entry : (j : ℕ) (k : Control) (c : Core) (e : Option Entry)
      → commit m vol lane.control core j e ≡ passes k c → ⊥
  pass_entry j k c none e = let z = ap kind e in omega arith
  pass_entry j k c (some y) e =
      let may = may_commit m vol lane.control.marks (take j lane.pending) y in
      let z = ap kind (passed may waits e (λ z. omega arith)) in
      omega arith

  done_entry : (j : ℕ) (k : Control) (c : Core) (v : Option ℕ) (e : Option Entry) → get_elem? lane.pending j ≡ e
      → commit m vol lane.control core j e ≡ does k c v
      → commits_word ++ entry_text (f.entry t j) ≡ committed e ++ taken v
  done_entry j k c v none at e = absurd (let z = ap kind e in omega arith)
  done_entry j k c v (some y) at e =
      let did = passed (may_commit m vol lane.control.marks (take j lane.pending) y) waits e (λ z. omega arith) in
      let value : none ≡ v = cc in
      let found = some_at lane.pending j y no_entry at in
      ap (λ x. commits_word ++ entry_text x) (same.entry t j few found.0 ∙ found.1)
      ∙ sym (append-nil (commits_word ++ entry_text y)) ∙ ap (λ x. commits_word ++ entry_text y ++ taken x) value

  done_differs : a.done ≡ suc b.done → has_waited f g ≡ false
  done_differs e =
      ne_eqb f.done g.done
      (λ q. omega (arith, same.done, (read_back a h.fits_after).done, e, q))

  -- what came of choice c
  outcome : (c : ℕ) (τ : Turn) → turn m vol (suc t) (get_or prog t []) lane.control core c ≡ τ → Came b a t τ
      → outcome_text m (next_instr rows f t) f g t c ≡ turn_text τ (chosen m (get_or prog t []) lane c)
  outcome c waits e came =
      let equal : has_waited f g ≡ true =
      eq-eqb f.done g.done (same.done ∙ sym came ∙ sym (read_back a h.fits_after).done) in
      ap (λ u. cond u waited_word (done_text m (next_instr rows f t) f g t c)) equal
  outcome c refuses e came = elim came [ ]
  outcome zero (passes k c) e came =
      ap (λ u. cond u waited_word (done_text m (next_instr rows f t) f g t 0)) (done_differs came.0)
      ∙ ap (λ x. done_word ++ x) (pass_instr k c _ refl e)
  outcome zero (does k c v) e came =
      ap (λ u. cond u waited_word (done_text m (next_instr rows f t) f g t 0)) (done_differs came.0)
      ∙ ap (λ x. done_word ++ x) (done_instr k c came.1 v _ refl e)
  outcome (suc j) (passes k c) e came = absurd (pass_entry j k c (get_elem? lane.pending j) e)
  outcome (suc j) (does k c v) e came =
      let older : suc j - 1 ≡ j = omega arith in
      let later : eqb (suc j) 0 ≡ false = ne_eqb (suc j) 0 (λ q. omega arith) in
      ap (λ u. cond u waited_word (done_text m (next_instr rows f t) f g t (suc j))) (done_differs came.0)
      ∙ ap (λ u. done_word
      ++ cond u (carried_text m (next_instr rows f t) g t) (commits_word ++ entry_text (f.entry t (suc j - 1)))) later
      ∙ ap (λ i. done_word ++ (commits_word ++ entry_text (f.entry t i))) older
      ∙ ap (λ x. done_word ++ x) (done_entry j k c v _ refl e)

-- ## a move of a run

module _ (m : Machine) (vol : ℕ → Bool) (prog : List (List Instr)) (records : List (List ℕ)) (start : State) where
  abbrev answer : Run → Answer
  answer r = answer_of prog records start (ran r)

  came : (r r' : Run) (t p : ℕ) (τ : Turn) → apply_turn r t p τ ≡ ran r' → Came (answer r) (answer r') t τ
  came r r' t p waits e =
      let q : waited_more r ≡ r' = cc in
      sym (ap (λ (y : Run). y.done) q)
  came r r' t p refuses e = let z : ◌≡◌ {A = ℕ} 0 1 = cc in omega arith
  came r r' t p (passes k c) e =
      let q : done_more r (set_lane r.state t k c) r.row ≡ r' = cc in
      (sym (ap (λ (y : Run). y.done) q), sym (ap (λ (y : Run). y.state) q))
  came r r' t p (does k c v) e =
      let q : done_more r (set_lane r.state t k c) (r.row ++ load_row t p v) ≡ r' = cc in
      (sym (ap (λ (y : Run). y.done) q), sym (ap (λ (y : Run). y.state) q))

  pub move_told_lem : (rows : List ℕ) (n : ℕ) (mv : Move) (r r' : Run)
      → Tells rows prog mv.lane (answer r) (answer r') → advance m vol prog (ran r) mv ≡ ran r'
      → move_line m rows (state_bytes (answer r)) (state_bytes (answer r')) n mv.lane mv.choice
      ≡ move_told m vol prog r.state n mv
  unfolding line_by
  move_told_lem rows n mv r r' h e =
      let what = move_turn m vol prog r.state mv in
      ap (λ x. decimal n ++ named lane_word mv.lane ++ named choice_word mv.choice ++ x ++ newline ∷ [])
      (outcome m vol prog rows mv.lane (answer r) (answer r') h mv.choice what refl
      (came r r' mv.lane (rank (get_or prog mv.lane []) (pos_at r.state mv.lane)) what e))
