-- Laws of the start of a run: of a file that is refused, and of one that is accepted.
use Prim.Native.Nat.{ℕ, ◌≤◌, ◌<◌}
use mathlib.Core.Path.{◌≡◌, refl, sym, ap, subst, ◌∙◌}
use mathlib.Core.List.{List, []}
use native.Mathlib.Omega.{arith}
use lib.ListN.{length, get_or, drop, replicate}
use Rattle.file_format.specs.Fields.{word}
use Rattle.file_format.specs.Accepted.{Program, is_volatile}
use Rattle.file_format.specs.Lawful.{Lawful}
use Rattle.file_verdict.specs.declared.refusal.Refusal.{Refusal}
use Rattle.file_verdict.specs.Verdict.{refused, accepted, verdict}
use Rattle.file_verdict.proofs.Laws.Verdict.{accepted_as}
use Rattle.file_wellformed.proofs.Lawful.{accepted_lawful}
use Rattle.sheet_format.proofs.Answers.{BytesIn}
use Rattle.machine_spec.specs.State.{start_state}
use Rattle.machine_spec.specs.Run.{Answer, start_of, program_for, run_by, level_of}
use Rattle.sheet_rows.specs.Rows.{parts_in}
use Rattle.machine_spec.specs.declared.Machine.{Machine}
use Rattle.machine_state.specs.States.{Blocks, state_in}
use Rattle.machine_run.specs.Runs.{ProgramAt}
use Rattle.sheet_format.specs.Bytes.{sheet_bytes}
use Rattle.machine_start.proofs.Laws.Programs.{header_read, program_at}
use Rattle.machine_course.specs.declared.course.Course.{Course}
use Rattle.machine_course.specs.Stands.{answer_by, Prepared, Stands, Sets, Started, RefusedStart, blocked}

refused_stands : (m : Machine) (s rows : List ℕ) (r : Refusal) {e : Blocks} → verdict s ≡ refused r → RefusedStart s r e
    → Stands s m [] rows (blocked m r) e
refused_stands m s rows r v st =
    let is : answer_by m s [] ≡ run_by m s (refused r) [] = ap (λ y. run_by m s y []) v in
    record {
      sized = st.sized;
      few = omega arith;
      counted = λ e. refl;
      refusal = sym (ap (λ (a : Answer). a.refusal) is);
      done = sym (ap (λ (a : Answer). a.done) is);
      waited = sym (ap (λ (a : Answer). a.waited) is);
      state = st.state v ∙ sym (ap (λ (a : Answer). a.state) is);
      prepared = λ k a. let z : ◌≡◌ {A = ℕ} 0 1 = clash k (sym v ∙ a) in absurd (omega arith);
    }
  where
    clash : (k : Program) → refused r ≡ accepted k → ◌≡◌ {A = ℕ} 0 1
    clash k e = cc

-- of what the code made
pub begins_refused : (m : Machine) (s : List ℕ) {rows : List ℕ} {r : Refusal} {x : Course} {e : Blocks}
    → verdict s ≡ refused r → RefusedStart s r e → x ≡ blocked m r → Stands s m [] rows x e
begins_refused m s {rows} {r} {x} {e} v st q =
    subst (λ y. Stands s m [] rows y e) (sym q) (refused_stands m s rows r v st)

module _ (m : Machine) {s own rows : List ℕ} (b : BytesIn (sheet_bytes (level_of m)) s own rows)
    (room : 4112 ≤ length own) {mask : ℕ} {x : Course} {e : Blocks} (me : mask ≡ word s 4) (sets : Sets m mask rows x)
    (st : Started (get_or rows 0 0) (get_or rows 1 0) (get_or rows 2 0) e) where
  abbrev k : Program
  k = b.kernel

  law : Lawful k
  law = accepted_lawful s k b.accepts

  header : (get_or rows 0 0 ≡ length k.lanes) × (get_or rows 1 0 ≡ k.locations) × (get_or rows 2 0 ≡ k.locks)
  header =
      subst (λ y. (get_or y 0 0 ≡ length k.lanes) × (get_or y 1 0 ≡ k.locations) × (get_or y 2 0 ≡ k.locks))
      (sym b.front) (header_read k m (drop (length (sheet_bytes (level_of m) k)) own))

  programs : (t : ℕ) → t < length k.lanes
      → ProgramAt rows (get_or (parts_in rows).from t 0) (get_or (parts_in rows).count t 0)
      (get_or (program_for m k) t [])
  programs t h =
      subst (λ y. ProgramAt y (get_or (parts_in y).from t 0) (get_or (parts_in y).count t 0)
      (get_or (program_for m k) t []))
      (sym b.front) (program_at k law m own room t h)

  prepared : Prepared m k rows x e
  prepared = record {
    machine = sets.machine;
    volatile = sets.volatile ∙ ap is_volatile (me ∙ ap (λ (y : Program). y.mask) (accepted_as s k b.accepts).1);
    lanes = sets.lanes ∙ header.0;
    locations = sets.locations ∙ header.1;
    locks = sets.locks ∙ header.2;
    held = st.lanes ∙ header.0;
    first = sets.first;
    programs = λ t h.
        subst (λ f. ProgramAt rows (get_or f t 0) (get_or x.count t 0) (get_or (program_for m k) t []))
        (sym sets.first)
        (subst (λ f. ProgramAt rows (get_or (parts_in rows).from t 0) (get_or f t 0)
        (get_or (program_for m k) t []))
        (sym sets.count) (programs t h));
  }

  start : state_in e ≡ start_of k
  start =
      st.state (omega (arith, header.0, law.few_lanes)) (omega (arith, header.1, law.few_locations))
      (omega (arith, header.2, law.few_locks))
      ∙ λ i. start_state (header.0 i) (replicate (header.1 i) 0) (header.2 i)

  pub begins_accepted : Stands s m [] rows x e
  begins_accepted =
      let is : answer_by m s [] ≡ run_by m s (accepted k) [] =
      ap (λ y. run_by m s y []) b.accepts in
      record {
        sized = st.sized;
        few = omega (arith, sets.zeros.1, sets.zeros.2);
        counted = λ z. omega (arith, sets.zeros.1, sets.zeros.2);
        refusal = sets.zeros.0 ∙ sym (ap (λ (a : Answer). a.refusal) is);
        done = sets.zeros.1 ∙ sym (ap (λ (a : Answer). a.done) is);
        waited = sets.zeros.2 ∙ sym (ap (λ (a : Answer). a.waited) is);
        state = start ∙ sym (ap (λ (a : Answer). a.state) is);
        prepared = λ j v. subst (λ q. Prepared m q rows x e) (same_kernel j v) prepared;
      }
    where
      same_kernel : (j : Program) → verdict s ≡ accepted j → k ≡ j
      same_kernel j v = let q : accepted k ≡ accepted j = sym b.accepts ∙ v in cc
