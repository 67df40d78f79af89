-- What is told of the runs of an accepted kernel file, on each machine: theorems `line_told` and `end_told`.
use Prim.Native.Nat.{ℕ, ◌+◌, ◌*◌, ◌^◌, ◌<◌}
use mathlib.Core.Path.{◌≡◌, refl, sym, ap, subst₂, ◌∙◌}
use mathlib.Core.Bool.{Bool, true}
use mathlib.Core.List.{List, [], ◌∷◌, ◌++◌, foldl-append}
use mathlib.Core.Option.{some}
use native.Mathlib.Omega.{arith}
use lib.ListN.{length, get_or, get_elem?, drop, length-append}
use borrow.Author.Tests.{ltb-true}
use lib.Dec.{ltb, leb}
use Rattle.laws.proofs.Bools.{and_true}
use Rattle.laws.proofs.Lists.{some_at}
use Rattle.file_format.specs.declared.accepted.Op.TheVariants.{Set}
use Rattle.file_format.specs.Accepted.{Program}
use Rattle.file_format.specs.Lawful.{Lawful}
use Rattle.file_verdict.specs.Verdict.{accepted, verdict}
use Rattle.file_wellformed.proofs.Lawful.{accepted_lawful}
use Rattle.sheet_format.specs.Layout.{Instr, op}
use Rattle.sheet_format.specs.Levels.{volatile_in}
use Rattle.sheet_format.specs.Read.{read_instr, read_rows}
use Rattle.sheet_rows.specs.Rows.{parts_in}
use Rattle.sheet_rows.proofs.Laws.Read.{rows_length}
use Rattle.machine_spec.specs.declared.Machine.{Machine}
use Rattle.machine_spec.specs.Schedule.{Move, limit, legal}
use Rattle.machine_spec.specs.State.{Run, Outcome, ran, refused, advance}
use Rattle.machine_spec.specs.Run.{Answer, answer_of, start_of, program_for, run_on, run_by}
use Rattle.machine_state.specs.States.{Blocks}
use Rattle.sheet_rows.proofs.Laws.Read.{row_from}
use Rattle.machine_record.specs.Record.{state_bytes}
use Rattle.machine_start.proofs.Answered.{not_refused}
use Rattle.machine_start.proofs.Ranges.{program_loads}
use Rattle.machine_start.proofs.Fitting.{lanes_many, locations_many, locks_many, eight_registers, answer_fits}
use Rattle.machine_course.specs.declared.course.Course.{Course}
use Rattle.machine_course.specs.Stands.{answer_by, Stands}
use Rattle.machine_course.proofs.Laws.Legal.{allowed, legal_snoc}
use Rattle.text_run.specs.States.{state_text, answer_text}
use Rattle.text_run.specs.Moves.{move_line}
use Rattle.text_run.specs.Turns.{move_told, RowsOf}
use Rattle.text_run.proofs.Told.{state_told}
use Rattle.text_run.proofs.ToldMoves.{Tells, move_told_lem}

module _ (s : List ℕ) (k : Program) (v : verdict s ≡ accepted k) (m : Machine) where
  abbrev prog : List (List Instr)
  prog = program_for m k

  law : Lawful k
  law = accepted_lawful s k v

  -- ## the rows of a run so far

  pub rows_told : {mvs : List Move} {rows : List ℕ} {x : Course} {h : Blocks} → Stands s m mvs rows x h → (t : ℕ)
      → t < length k.lanes → RowsOf rows prog t
  rows_told {rows = rows} {x = x} so t there =
      record { row = row; register = program_loads k law t m }
    where
      row : (p : ℕ) (i : Instr) → get_elem? (get_or prog t []) p ≡ some i
          → read_instr (drop (get_or (parts_in rows).from t 0 + 8 * p) rows) ≡ i
      row p i at =
          let own = so.prepared k v in
          let count : ℕ = get_or x.count t 0 in
          let first : ℕ = get_or x.first t 0 in
          let is : List Instr = read_rows count (drop first rows) in
          let found : get_elem? is p ≡ some i = sym (ap (λ l. get_elem? l p) (own.programs t there).rows) ∙ at in
          let inside : p < length is = (some_at is p i (op (Set 0 0)) found).0 in
          let read = row_from count first rows p (omega (arith, rows_length count (drop first rows))) in
          let same : read_instr (drop (first + 8 * p) rows) ≡ i = cc in
          sym (ap (λ f. read_instr (drop (get_or f t 0 + 8 * p) rows)) own.first) ∙ same

  -- ## the end of every schedule, also of one that is refused with 10

  pub end_told : (mvs : List Move) → length mvs < 2 ^ 32
      → state_text (state_bytes (answer_by m s mvs)) (length k.lanes) k.locations k.locks
      ≡ answer_text (answer_by m s mvs)
  end_told mvs few =
      let a : Answer = answer_by m s mvs in
      let lanes = sym (lanes_many s k v m mvs) in
      let locations = sym (locations_many s k v m mvs) in
      let locks = sym (locks_many s k v m mvs) in
      (λ i. state_text (state_bytes a) (lanes i) (locations i) (locks i)) ∙ state_told a (answer_fits s k v m mvs few)

  -- ## a move of a legal schedule

  abbrev lets : List Move → Bool
  lets = legal (length k.lanes) (limit m)

  module _ (mvs : List Move) (le : lets mvs ≡ true) where
    came : (r : Run) × (run_on m k mvs ≡ ran r)
    came = go (run_on m k mvs) refl
      where
        go : (o : Outcome) → run_on m k mvs ≡ o → (r : Run) × (run_on m k mvs ≡ ran r)
        go (ran r) e = (r, e)
        go (refused t p) e = absurd (not_refused s k v m mvs le t p e)

    answered : answer_by m s mvs ≡ answer_of prog k.records (start_of k) (ran came.0)
    answered = ap (λ x. run_by m s x mvs) v ∙ rw (le, came.1) refl

  pub line_told : (mvs : List Move) (mv : Move) → lets (mvs ++ (mv ∷ [])) ≡ true → length mvs + 1 < 2 ^ 32
      → (rows : List ℕ) → RowsOf rows prog mv.lane → (n : ℕ)
      → move_line m rows (state_bytes (answer_by m s mvs)) (state_bytes (answer_by m s (mvs ++ (mv ∷ [])))) n mv.lane
      mv.choice
      ≡ move_told m (volatile_in k) prog (answer_by m s mvs).state n mv
  line_told mvs mv le few rows own n =
      let after = mvs ++ (mv ∷ []) in
      let both = and_true (lets mvs) (allowed (length k.lanes) (limit m) mv)
      (sym (legal_snoc (length k.lanes) (limit m) mvs mv) ∙ le) in
      let named = and_true (ltb mv.lane (length k.lanes)) (leb mv.choice (limit m)) both.1 in
      let there : mv.lane < length k.lanes = ltb-true mv.lane (length k.lanes) named.0 in
      let before = answered mvs both.0 in
      let then = answered after le in
      let tells : Tells rows prog mv.lane (answer_by m s mvs) (answer_by m s after) = record {
        fits_before = answer_fits s k v m mvs (omega arith);
        fits_after = answer_fits s k v m after (omega (arith, length-append mvs (mv ∷ [])));
        there = omega (arith, lanes_many s k v m mvs);
        registers = eight_registers s k v m mvs mv.lane there;
        rows_of = own;
      } in
      let moved : advance m (volatile_in k) prog (ran (came mvs both.0).0) mv ≡ ran (came after le).0 =
      sym (rw (foldl-append, (came mvs both.0).1) refl) ∙ (came after le).1 in
      (λ i. move_line m rows (state_bytes (before i)) (state_bytes (then i)) n mv.lane mv.choice)
      ∙ move_told_lem m (volatile_in k) prog k.records (start_of k) rows n mv (came mvs both.0).0 (came after le).0
      (subst₂ (Tells rows prog mv.lane) before then tells) moved
      ∙ sym (ap (λ (a : Answer). move_told m (volatile_in k) prog a.state n mv) before)
