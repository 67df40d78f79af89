-- A finished run is over: theorem `over`.
use mathlib.Core.Path.{◌≡◌, refl}
use mathlib.Core.Bool.{Bool, true, false, false≢true}
use mathlib.Core.List.{List, ◌++◌, foldl-append}
use Prim.Native.Nat.{ℕ, ◌+◌}
use lib.ListN.{length}
use Rattle.file_format.specs.Accepted.{Program}
use Rattle.file_verdict.specs.Verdict.{accepted, verdict}
use Rattle.sheet_format.specs.Levels.{volatile_in}
use Rattle.machine_spec.specs.declared.Machine.{Machine}
use Rattle.machine_spec.specs.Schedule.{Move, limit, legal}
use Rattle.machine_spec.specs.State.{Run, Outcome, ran, refused}
use Rattle.machine_spec.specs.View.{finished}
use Rattle.machine_spec.specs.Run.{program_for, run_on, run_program}
use Rattle.machine_spec.proofs.Laws.Finished.{with_waited, finished_over}
use Rattle.claims.specs.Claims.{Over}
use Rattle.claims.proofs.Legal.{legal_append}
use Rattle.claims.proofs.Demand3.{answered}

-- a run that took place and is finished
record FinishedRun (m : Machine) (k : Program) (mvs : List Move) : Type 0 where
  lets : legal (length k.lanes) (limit m) mvs ≡ true
  end : Run
  ran_to : run_on m k mvs ≡ ran end
  ends : finished (program_for m k) end.state ≡ true

-- a refusal is not finished
took_place : (m : Machine) (k : Program) (mvs : List Move) → (run_program m k mvs).finished ≡ true → FinishedRun m k mvs
took_place m k mvs f = go (legal (length k.lanes) (limit m) mvs) refl (run_on m k mvs) refl
  where
    go : (b : Bool) → legal (length k.lanes) (limit m) mvs ≡ b → (o : Outcome) → run_on m k mvs ≡ o
        → FinishedRun m k mvs
    go false h o e = absurd (false≢true (rw h at f))
    go true h (refused t p) e = absurd (false≢true (rw (h, e) at f))
    go true h (ran r) e = record { lets = h; end = r; ran_to = e; ends = rw (h, e) at f }

pub over : (s : List ℕ) (k : Program) → verdict s ≡ accepted k → Over s k
over s k e m mvs more le =
    rw e (λ f. let x = took_place m k mvs f in
    let r = x.end in
    let on : run_on m k (mvs ++ more) ≡ ran (with_waited r (r.waited + length more)) =
    rw (foldl-append, x.ran_to) (finished_over m (volatile_in k) (program_for m k) more r x.ends) in
    rw (
      answered m k (mvs ++ more) (with_waited r (r.waited + length more))
          (legal_append (length k.lanes) (limit m) mvs more x.lets le) on,
      answered m k mvs r x.lets x.ran_to,
    ) refl)
