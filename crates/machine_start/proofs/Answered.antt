-- What is known of the end of a run of an accepted kernel, of every machine: the claims, said of the run itself.
use Prim.Native.Nat.{ℕ, ◌≤◌}
use mathlib.Core.Path.{◌≡◌, refl, ap, sym, subst, ◌∙◌}
use mathlib.Core.Bool.{true, cond}
use mathlib.Core.List.{List, []}
use native.Mathlib.Omega.{arith}
use lib.ListN.{length, length-map, get_or-map}
use Rattle.file_format.specs.Accepted.{Program}
use Rattle.file_verdict.specs.Verdict.{accepted, verdict}
use Rattle.machine_spec.specs.declared.Machine.{Machine}
use Rattle.machine_spec.specs.Schedule.{Move, limit, legal}
use Rattle.machine_spec.specs.State.{Lane, Run, Outcome, ran, refused, idle, lane_at}
use Rattle.machine_spec.specs.Run.{number_in, Answer, answer_of, start_of, program_for, run_on, run_by}
use Rattle.machine_spec.specs.Run.{counts_as, shown}
use Rattle.machine_spec.specs.Shape.{Shaped, Within}
use Rattle.claims.specs.Claims.{Claims}
use Rattle.claims.proofs.Theorem.{claims}

module _ (s : List ℕ) (k : Program) (e : verdict s ≡ accepted k) where
  c : Claims s k
  c = claims s k e

  module _ (m : Machine) (mvs : List Move) (le : legal (length k.lanes) (limit m) mvs ≡ true) where
    abbrev answer : Outcome → Answer
    answer = answer_of (program_for m k) k.records (start_of k)

    counted : counts_as m k mvs ≡ mvs
    counted = ap (λ b. cond b mvs []) le

    answered : (o : Outcome) → run_on m k mvs ≡ o → run_by m s (verdict s) mvs ≡ answer o
    answered o r = ap (λ v. run_by m s v mvs) e ∙ rw (le, r) refl

    -- it is not refused
    pub not_refused : (t p : ℕ) → run_on m k mvs ≡ refused t p → ⊥
    not_refused t p r =
        let eleven : ◌≡◌ {A = ℕ} 11 0 =
        sym (ap (λ (a : Answer). number_in a.refusal) (answered (refused t p) r)) ∙ ap number_in (c.runs m mvs le) in
        absurd (omega arith)

    module _ (r : Run) (re : run_on m k mvs ≡ ran r) where
      ends : run_by m s (verdict s) (counts_as m k mvs) ≡ answer (ran r)
      ends = ap (run_by m s (verdict s)) counted ∙ answered (ran r) re

      pub shape : Shaped k (shown (answer (ran r)))
      shape = subst (λ a. Shaped k (shown a)) ends (c.bounds.shaped m mvs)

      pub lane_count_lem : length r.state.lanes ≡ length k.lanes
      lane_count_lem = sym (length-map r.state.lanes (λ (l : Lane). l.pending)) ∙ shape.lanes.1

      pub pending_few : (t : ℕ) → length (lane_at r.state t).pending ≤ 64
      pending_few t =
          rw (get_or-map (λ (l : Lane). l.pending) r.state.lanes t idle) at (shape.pending_few t)

      pub stands_within : Within (program_for m k) r.state
      stands_within = subst (λ a. Within (program_for m k) a.state) ends (c.bounds.within m mvs)
