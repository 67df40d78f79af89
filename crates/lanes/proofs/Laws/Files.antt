-- Laws of the answer on a file and a schedule, by what its program's rows and the tests say.
use Prim.Native.Nat.{ℕ, ◌%◌, ◌≤◌, ◌<◌}
use mathlib.Core.Path.{◌≡◌, sym, ap, ap₂, ◌∙◌}
use mathlib.Core.Bool.{Bool, true, false}
use mathlib.Core.List.{List}
use borrow.Author.Tests.{lt-ltb, le-ltb, eq-eqb, ne_eqb}
use lib.ListN.{length, get_or, drop}
use Rattle.file_format.specs.Fields.{word}
use Rattle.file_format.specs.Accepted.{Program}
use Rattle.file_verdict.specs.Verdict.{verdict}
use Rattle.file_verdict.proofs.Laws.Verdict.{accepted_as}
use Rattle.std.specs.Prelude.{Ok, Err}
use Rattle.file_verdict.specs.declared.refusal.Refusal.{Refusal}
use Rattle.file_verdict.specs.declared.refusal.Refusal.TheVariants.{ShortBuffer, IllegalMove}
use Rattle.sheet_format.proofs.Answers.{BytesIn}
use Rattle.machine_spec.specs.Schedule.{limit, legal}
use Rattle.machine_spec.specs.Moves.{moves_in}
use Rattle.machine_spec.specs.declared.Machine.{Machine}
use Rattle.sheet_format.specs.Bytes.{WriteResult, sheet_bytes, lower_by}
use Rattle.machine_spec.specs.Run.{level_of}
use Rattle.lanes_answers.specs.Calls.{run_into, run_file_by}
use Rattle.machine_start.specs.Setup.{ProgramIn, ran_into}
use Rattle.machine_start.proofs.Laws.Programs.{header_read}
use Rattle.machine_start.proofs.Laws.Files.{file_verdict, ran_number}

-- a refused file
pub file_refused : (m : Machine) (s own : List ℕ) → 4112 ≤ length own → {r : Refusal} {after : List ℕ}
    → (Err r, after) ≡ lower_by (level_of m) (verdict s) own
    → (moves out : List ℕ) → (Err r, out) ≡ run_file_by m (verdict s) moves out
file_refused m s own big p moves out =
    sym (ap (λ v. run_file_by m v moves out) (file_verdict m s own big p))

-- a run that takes place: what it starts from, and its answer
pub record Takes (m : Machine) (mask : ℕ) (rows moves s out : List ℕ) : Type 0 where
  pub kernel : Program
  pub program : ProgramIn m mask rows moves s kernel
  pub answers : ran_into m kernel moves out ≡ run_file_by m (verdict s) moves out

-- ## an accepted file, whose program's bytes stand at the front of the rows
module _ (m : Machine) {s own rows : List ℕ} (b : BytesIn (sheet_bytes (level_of m)) s own rows)
    (moves out : List ℕ) where
  abbrev k : Program
  k = b.kernel

  abbrev Answers : WriteResult × List ℕ → Type 0
  Answers a = a ≡ run_file_by m (verdict s) moves out

  by_run : {a : WriteResult × List ℕ} → run_into m k moves out ≡ a → Answers a
  by_run e = sym (ap (λ v. run_file_by m v moves out) b.accepts ∙ e)

  pub short_buffer : length out < 2280 → Answers (Err ShortBuffer, out)
  short_buffer h = by_run (rw (lt-ltb (length out) 2280 h))

  module _ (room : 2280 ≤ length out) where
    pub odd_moves : length moves % 2 ≡ 1 → Answers (Err IllegalMove, out)
    odd_moves h = by_run (rw (le-ltb (length out) 2280 room, eq-eqb (length moves % 2) 1 h))

    -- the schedule, judged by the rows' first byte and the machine's highest choice
    module _ (even : ¬ length moves % 2 ≡ 1) {n c : ℕ} {ok : Bool} (ne : n ≡ get_or rows 0 0)
        (ce : c ≡ limit m) (judged : ok ≡ legal n c (moves_in moves)) where
      lets : ok ≡ legal (length k.lanes) (limit m) (moves_in moves)
      lets =
          let first = ap (λ x. get_or x 0 0) b.front
          ∙ (header_read k m (drop (length (sheet_bytes (level_of m) k)) own)).0 in
          judged ∙ ap₂ (λ x y. legal x y (moves_in moves)) (ne ∙ first) ce

      pub illegal_moves : ok ≡ false → Answers (Err IllegalMove, out)
      illegal_moves bad =
          by_run (rw (le-ltb (length out) 2280 room, ne_eqb (length moves % 2) 1 even, sym lets ∙ bad))

      pub takes_place : {mask : ℕ} → ok ≡ true → mask ≡ word s 4 → 4112 ≤ length own → Takes m mask rows moves s out
      takes_place good e big =
          let let_through = sym lets ∙ good in
          record {
            kernel = k;
            program = record {
              schedule = record { accepts = b.accepts; lets = let_through };
              masked = e ∙ ap (λ (x : Program). x.mask) (accepted_as s k b.accepts).1;
              own = own;
              room = big;
              front = b.front;
            };
            answers = by_run (rw (
              le-ltb (length out) 2280 room,
              ne_eqb (length moves % 2) 1 even,
              ran_number s k b.accepts m (moves_in moves) let_through,
            ));
          }
