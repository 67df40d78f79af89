-- Laws of a run that is told move by move: what its next move and its record ask for, and one move more.
use Prim.Native.Nat.{ℕ, suc, ◌+◌, ◌*◌, ◌/◌, ◌≤◌, ◌<◌}
use mathlib.Core.Path.{◌≡◌, sym, subst}
use mathlib.Core.List.{List, [], ◌∷◌, ◌++◌}
use native.Mathlib.Omega.{arith}
use lib.ListN.{length, get_or, take, length-take}
use Rattle.std.specs.Prelude.{None}
use Rattle.machine_spec.specs.Schedule.{Move, move}
use Rattle.machine_spec.specs.Moves.{moves_in}
use Rattle.machine_spec.proofs.Laws.Moves.{moves_length}
use Rattle.machine_spec.specs.declared.Machine.{Machine}
use Rattle.machine_record.specs.Record.{state_bytes}
use Rattle.machine_state.specs.States.{Blocks}
use Rattle.machine_course.specs.declared.course.Course.{Course}
use Rattle.machine_course.specs.Stands.{answer_by, Stands, Standing, Judged}
use Rattle.text_run.specs.Runs.{Between}
use Rattle.text_run.proofs.Runs.{rows_told}
use Rattle.text_run.proofs.Laws.Lines.{moves_next}

-- the first n moves of the schedule on the file s came to x and the store h, whose state record is `before`
pub record CameTo (m : Machine) (s : List ℕ) (mvs : List Move) (n : ℕ) (rows : List ℕ) (x : Course) (h : Blocks)
    (before : List ℕ) : Type 0 where
  pub stands : Stands s m (take n mvs) rows x h
  pub recorded : before ≡ state_bytes (answer_by m s (take n mvs))

pub can_record : {s : List ℕ} {m : Machine} {mvs : List Move} {rows : List ℕ} {x : Course} {h : Blocks}
    → Stands s m mvs rows x h → Judged x h
can_record so = record { file = _; machine = _; moves = _; rows = _; stands = so }

module _ (b : List ℕ) (few : length b ≤ 65536) {m : Machine} {s : List ℕ} {n : ℕ} {rows : List ℕ} {x : Course}
    {h : Blocks} {before : List ℕ} (c : CameTo m s (moves_in b) n rows x h before) where
  pub can_move : Standing rows x h
  can_move = record {
    file = s;
    machine = m;
    moves = take n (moves_in b);
    stands = c.stands;
    small = omega (arith, length-take n (moves_in b), moves_length b);
  }

  -- one move more, as `fold_move` makes it
  module _ (left : n < length b / 2) {y : Course} {e : Blocks}
      (next : (f : List ℕ) (o : Machine) (mvs : List Move) → Stands f o mvs rows x h
      → Stands f o (mvs ++ (move (get_or b (2 * n) 0) (get_or b (2 * n + 1) 0) ∷ [])) rows y e) where
    there : n < length (moves_in b)
    there = omega (arith, moves_length b)

    pub moved : Stands s m (take (suc n) (moves_in b)) rows y e
    moved =
        subst (λ mvs. Stands s m mvs rows y e) (sym (moves_next b n there)) (next s m (take n (moves_in b)) c.stands)

    module _ {after : List ℕ} (is : after ≡ state_bytes (answer_by m s (take (suc n) (moves_in b)))) where
      pub between : (answer_by m s (moves_in b)).refusal ≡ None → Between m s (moves_in b) n rows before after
      between runs = record {
        runs = runs;
        few = omega (arith, moves_length b);
        there = there;
        rows_of = λ k v. rows_told s k v m c.stands;
        before_is = c.recorded;
        after_is = is;
      }

      pub one_more : CameTo m s (moves_in b) (n + 1) rows y e after
      one_more =
          let up : suc n ≡ n + 1 = omega arith in
          subst (λ j. CameTo m s (moves_in b) j rows y e after) up (record { stands = moved; recorded = is })
