-- Laws of sizes: the first words of a row, and the state of every answer, which fits what is returned and written.
use Prim.Native.Nat.{ℕ, zero, suc, ◌≤◌, ◌<◌}
use mathlib.Core.Path.{◌≡◌, refl, sym, ap, subst}
use mathlib.Core.Bool.{Bool, true, false}
use mathlib.Core.List.{List, [], ◌∷◌}
use native.Mathlib.Omega.{arith}
use borrow.Author.Tests.{ltb-false}
use lib.Dec.{ltb}
use lib.ListN.{length, get_or, take, replicate, length-replicate}
use Rattle.file_format.specs.Accepted.{Program}
use Rattle.file_format.specs.Fields.{lane_count, locations, locks}
use Rattle.file_format.specs.Lawful.{Lawful}
use Rattle.file_format.proofs.Laws.Rules.{few_locations, few_locks}
use Rattle.file_verdict.specs.declared.refusal.Refusal.{Refusal}
use Rattle.file_verdict.specs.Verdict.{Verdict, refused, accepted, verdict, number_of}
use Rattle.file_wellformed.proofs.Lawful.{accepted_lawful}
use Rattle.machine_spec.specs.Schedule.{Move, limit, legal}
use Rattle.machine_spec.specs.Shape.{AllSmall}
use Rattle.machine_spec.specs.State.{State, Outcome, ran, refused as stopped, start_state, lane_at}
use Rattle.machine_spec.specs.Run.{answer_of, start_of, program_for, run_on, run_by, run_program, refused_start}
use Rattle.machine_spec.specs.declared.Machine.{Machine}
use Rattle.machine_start.proofs.Answered.{not_refused, shape}
use Rattle.machine_start.proofs.Laws.Runs.{shaped_small}
use Rattle.machine_state.specs.States.{Blocks, firsts, state_in}
use Rattle.machine_course.specs.declared.course.Course.{Course}
use Rattle.machine_course.specs.Stands.{answer_by, Stands}
use Rattle.machine_course.specs.Returned.{Fits}
use Rattle.machine_course.proofs.Laws.Starts.{header_valid}

-- ## the first words of a row

-- of at most m words the first m are all
pub firsts_within : (n m : ℕ) (l : List ℕ) → length (take n l) ≤ m → m ≤ length l
    → take n (firsts m (λ i. get_or l i 0)) ≡ take n l
firsts_within zero m l h k = refl
firsts_within (suc n) zero [] h k = refl
firsts_within (suc n) zero (x ∷ l) h k = absurd (omega arith)
firsts_within (suc n) (suc m) [] h k = absurd (omega arith)
firsts_within (suc n) (suc m) (x ∷ l) h k = ap (λ r. x ∷ r) (firsts_within n m l (omega arith) (omega arith))

-- ## the state of an answer

zero_everywhere : (n i : ℕ) → get_or (replicate n 0) i 0 < 256
zero_everywhere zero i = omega arith
zero_everywhere (suc n) zero = omega arith
zero_everywhere (suc n) (suc i) = zero_everywhere n i

none_pending : (n : ℕ) (t : ℕ) → AllSmall 16 4 (lane_at (start_state n [] 0) t).pending
none_pending zero t = tt
none_pending (suc n) zero = tt
none_pending (suc n) (suc t) = none_pending n t

start_fits : (n ls ks : ℕ) → ls ≤ 16 → ks ≤ 4 → Fits (start_state n (replicate ls 0) ks)
start_fits n ls ks l k = record {
  memory = omega (arith, length-replicate {A = ℕ} ls 0);
  locks = omega (arith, length-replicate {A = ℕ} ks 0);
  small = record { locks = zero_everywhere ks; entries = none_pending n };
}

refused_fits : (s : List ℕ) (r : Refusal) → verdict s ≡ refused r → Fits (refused_start s r)
refused_fits s r v = go (ltb (number_of r) 3) refl
  where
    go : (b : Bool) → ltb (number_of r) 3 ≡ b → Fits (refused_start s r)
    go true e = rw e (start_fits 0 0 0 (omega arith) (omega arith))
    go false e =
        let ok = header_valid s r v (ltb-false (number_of r) 3 e) in
        rw e (start_fits (lane_count s) (locations s) (locks s) (few_locations s ok) (few_locks s ok))

module _ (m : Machine) (s : List ℕ) (mvs : List Move) where
  abbrev answered : Verdict → State
  answered v = (run_by m s v mvs).state

  accepted_fits : (k : Program) → verdict s ≡ accepted k → Fits (run_program m k mvs).state
  accepted_fits k v = which (legal (length k.lanes) (limit m) mvs) refl
    where
      law : Lawful k
      law = accepted_lawful s k v

      which : (b : Bool) → legal (length k.lanes) (limit m) mvs ≡ b
          → Fits (run_program m k mvs).state
      which false l =
          rw l (start_fits (length k.lanes) k.locations k.locks law.few_locations law.few_locks)
      which true l = rw l (go (run_on m k mvs) refl)
        where
          go : (o : Outcome) → run_on m k mvs ≡ o
              → Fits (answer_of (program_for m k) k.records (start_of k) o).state
          go (stopped t p) e = absurd (not_refused s k v m mvs l t p e)
          go (ran r) e =
              let shaped = shape s k v m mvs l r e in
              record {
                memory = omega (arith, shaped.memory_count, law.few_locations);
                locks = omega (arith, shaped.locks_count, law.few_locks);
                small = shaped_small law shaped;
              }

  answer_fits : Fits (answer_by m s mvs).state
  answer_fits = go (verdict s) refl
    where
      go : (v : Verdict) → verdict s ≡ v → Fits (answer_by m s mvs).state
      go (refused r) v = subst (λ w. Fits (answered w)) (sym v) (refused_fits s r v)
      go (accepted k) v = subst (λ w. Fits (answered w)) (sym v) (accepted_fits k v)

-- so what a run so far holds does
pub stands_fits : {s : List ℕ} {m : Machine} {mvs : List Move} {rows : List ℕ} {x : Course} {h : Blocks}
    → Stands s m mvs rows x h → Fits (state_in h)
stands_fits {s} {m} {mvs} so = subst Fits (sym so.state) (answer_fits m s mvs)
