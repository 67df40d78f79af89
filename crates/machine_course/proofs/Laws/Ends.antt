-- Laws of what a run returns: the state, and whether it is finished.
use Prim.Native.Nat.{ℕ, ◌≤◌}
use mathlib.Core.Path.{◌≡◌, refl, sym, ap, subst, ◌∙◌}
use mathlib.Core.Bool.{Bool, true, false}
use mathlib.Core.List.{List, [], ◌∷◌}
use native.Mathlib.Omega.{arith}
use lib.ListN.{length, get_or, take, drop}
use Rattle.std.specs.Prelude.{None}
use Rattle.file_format.specs.Accepted.{Program}
use Rattle.file_format.specs.Lawful.{Lawful}
use Rattle.file_verdict.specs.Verdict.{Verdict, refused, accepted, verdict}
use Rattle.file_wellformed.proofs.Lawful.{accepted_lawful}
use Rattle.sheet_format.specs.Layout.{Instr}
use Rattle.machine_spec.specs.Schedule.{Move, limit, legal}
use Rattle.machine_spec.specs.State.{Outcome, ran, refused as stopped}
use Rattle.machine_spec.specs.Run.{Answer, answer_of, start_of, program_for, run_on, run_by}
use Rattle.machine_spec.specs.View.{finished}
use Rattle.sheet_rows.proofs.Laws.Read.{rows_length}
use Rattle.machine_spec.specs.declared.Machine.{Machine}
use Rattle.machine_state.specs.States.{Blocks, count_of, state_in}
use Rattle.machine_run.specs.Counts.{Counts}
use Rattle.machine_start.proofs.Answered.{not_refused}
use Rattle.machine_spec.proofs.Levels.{programs_many}
use Rattle.machine_start.proofs.Laws.Files.{ran_number}
use Rattle.machine_course.specs.declared.course.Course.{Course}
use Rattle.machine_course.specs.Stands.{answer_by, Prepared, Stands}
use Rattle.machine_course.proofs.Laws.Legal.{Under, under}

-- the first four blocks of five
pub four_blocks : (s : Blocks) → length s ≡ 5
    → get_or s 0 [] ∷ get_or s 1 [] ∷ get_or s 2 [] ∷ get_or s 3 [] ∷ [] ≡ take 4 s
four_blocks [] h = absurd (omega arith)
four_blocks (x ∷ []) h = absurd (omega arith)
four_blocks (x ∷ y ∷ []) h = absurd (omega arith)
four_blocks (x ∷ y ∷ z ∷ []) h = absurd (omega arith)
four_blocks (x ∷ y ∷ z ∷ u ∷ s) h = refl

module _ {s : List ℕ} {m : Machine} {mvs : List Move} {rows : List ℕ} {x : Course} {h : Blocks}
    (so : Stands s m mvs rows x h) where
  -- a refusal is not finished
  pub not_finished : (x.refusal ≡ None → ⊥) → false ≡ (answer_by m s mvs).finished
  not_finished never = go (verdict s) refl
    where
      go : (v : Verdict) → verdict s ≡ v → false ≡ (answer_by m s mvs).finished
      go (refused r) e = sym (ap (λ v. (run_by m s v mvs).finished) e)
      go (accepted k) e = which (legal (length k.lanes) (limit m) mvs) refl
        where
          which : (b : Bool) → legal (length k.lanes) (limit m) mvs ≡ b
              → false ≡ (answer_by m s mvs).finished
          which true l =
              absurd (never (so.refusal ∙ ap (λ v. (run_by m s v mvs).refusal) e
              ∙ ran_number s k e m mvs l))
          which false l = sym (ap (λ v. (run_by m s v mvs).finished) e ∙ rw l refl)

  -- ## a run that took place
  module _ (z : x.refusal ≡ None) where
    here : Under m s mvs
    here = under m s mvs (sym so.refusal ∙ z)

    abbrev k : Program
    k = here.kernel

    law : Lawful k
    law = accepted_lawful s k here.accepts

    own : Prepared m k rows x h
    own = so.prepared k here.accepts

    abbrev prog : List (List Instr)
    prog = program_for m k

    pub lanes_few : count_of h 0 ≤ 4
    lanes_few = omega (arith, own.held, law.few_lanes)

    counts : Counts (count_of h 0) x.count prog
    counts = subst (λ n. Counts n x.count prog) (sym own.held) (record {
      lanes = programs_many k law m;
      each = λ t l. ap length (own.programs t l).rows
          ∙ rows_length (get_or x.count t 0) (drop (get_or x.first t 0) rows);
    })

    -- f is what `finished` says of the state
    pub finished_by : {f : Bool} → ((p : List (List Instr)) → Counts (count_of h 0) x.count p → f ≡ finished p
        (state_in h))
        → f ≡ (answer_by m s mvs).finished
    finished_by judged = judged prog counts ∙ go (run_on m k mvs) refl
      where
        go : (o : Outcome) → run_on m k mvs ≡ o → finished prog (state_in h) ≡ (answer_by m s mvs).finished
        go (stopped t p) e = absurd (not_refused s k here.accepts m mvs here.legals t p e)
        go (ran r) e =
            let a : answer_by m s mvs ≡ answer_of prog k.records (start_of k) (ran r) =
            ap (λ v. run_by m s v mvs) here.accepts ∙ rw (here.legals, e) refl in
            ap (finished prog) (so.state ∙ ap (λ (y : Answer). y.state) a) ∙ sym (ap (λ (y : Answer). y.finished) a)
