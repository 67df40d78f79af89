-- Laws of the line of a move, by the bytes of a schedule.
use Prim.Native.Nat.{ℕ, suc, ◌+◌, ◌*◌, ◌/◌, ◌<◌}
use mathlib.Core.Path.{◌≡◌, sym, ap, ◌∙◌}
use mathlib.Core.Bool.{true}
use mathlib.Core.List.{List, [], ◌∷◌, ◌++◌}
use native.Mathlib.Omega.{arith}
use lib.ListN.{length, get_or, take, length-take}
use lib.Seq.{take-suc}
use Rattle.laws.proofs.Lists.{some_at}
use Rattle.file_format.specs.Accepted.{Program}
use Rattle.file_verdict.specs.Verdict.{verdict}
use Rattle.sheet_format.specs.Levels.{volatile_in}
use Rattle.machine_spec.specs.declared.Machine.{Machine}
use Rattle.machine_spec.specs.Schedule.{Move, move, limit, legal}
use Rattle.machine_spec.specs.Moves.{moves_in}
use Rattle.machine_spec.proofs.Laws.Moves.{moves_length, moves_at}
use Rattle.machine_spec.specs.Run.{program_for, run_by}
use Rattle.machine_record.specs.Record.{state_bytes}
use Rattle.machine_start.proofs.Named.{legal_named, legal_take}
use Rattle.machine_course.specs.Stands.{answer_by}
use Rattle.machine_course.proofs.Laws.Legal.{Under, under}
use Rattle.text_run.specs.Moves.{move_line}
use Rattle.text_run.specs.Turns.{move_told}
use Rattle.text_run.specs.Runs.{run_line, Between}
use Rattle.text_run.proofs.Runs.{line_told}

-- the moves of bytes, one by one: move i is made of bytes 2i and 2i + 1
module _ (b : List ℕ) (i : ℕ) (there : i < length (moves_in b)) where
  inside : i < length b / 2
  inside = omega (arith, moves_length b)

  abbrev by_bytes : Move
  by_bytes = move (get_or b (2 * i) 0) (get_or b (2 * i + 1) 0)

  move_is : get_or (moves_in b) i (move 0 0) ≡ by_bytes
  move_is = (some_at (moves_in b) i by_bytes (move 0 0) (moves_at b i inside)).1

  pub moves_next : take (suc i) (moves_in b) ≡ take i (moves_in b) ++ (by_bytes ∷ [])
  moves_next =
      take-suc (moves_in b) i (move 0 0) there ∙ ap (λ y. take i (moves_in b) ++ (y ∷ [])) move_is

module _ (b : List ℕ) {m : Machine} {s : List ℕ} {i : ℕ} {rows before after : List ℕ}
    (w : Between m s (moves_in b) i rows before after) where
  -- both bytes of the move are there
  pub move_inside : 2 * i + 1 < length b
  move_inside = omega (arith, w.there, moves_length b)

  abbrev mvs : List Move
  mvs = moves_in b

  abbrev mv : Move
  mv = by_bytes b i w.there

  here : Under m s mvs
  here = under m s mvs w.runs

  abbrev k : Program
  k = here.kernel

  lets : legal (length k.lanes) (limit m) (take i mvs ++ (mv ∷ [])) ≡ true
  lets =
      ap (legal (length k.lanes) (limit m)) (sym (moves_next b i w.there))
      ∙ legal_take (length k.lanes) (limit m) (suc i) mvs here.legals

  pub line_of : {n : ℕ} → n ≡ i + 1
      → move_line m rows before after n (get_or b (2 * i) 0) (get_or b (2 * i + 1) 0) ≡ run_line m (verdict s) mvs i
  line_of {n} e =
      let one : n ≡ suc i = omega arith in
      let then = w.after_is ∙ ap (λ l. state_bytes (answer_by m s l)) (moves_next b i w.there) in
      let named = legal_named (length k.lanes) (limit m) mvs i mv here.legals
      (moves_at b i (inside b i w.there)) in
      (λ j. move_line m rows (w.before_is j) (then j) (one j) mv.lane mv.choice)
      ∙ line_told s k here.accepts m (take i mvs) mv lets (omega (arith, length-take i mvs, w.there, w.few)) rows
      (w.rows_of k here.accepts mv.lane named.0) (suc i)
      ∙ (λ j. move_told m (volatile_in k) (program_for m k) (run_by m s (here.accepts j) (take i mvs)).state (suc i)
      (sym (move_is b i w.there) j))
      ∙ sym (ap (λ v. run_line m v mvs i) here.accepts)
