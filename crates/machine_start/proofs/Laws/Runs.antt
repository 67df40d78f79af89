-- Laws of a run from the kernel's start: the code can run it, it is not refused, and the record that is written of its
-- end is that of the answer.
use Prim.Native.Nat.{ℕ, ◌≤◌}
use mathlib.Core.Path.{◌≡◌, refl, sym, ap, ap₂, subst, ◌∙◌}
use mathlib.Core.Bool.{Bool}
use mathlib.Core.List.{List, [], ◌∷◌}
use native.Mathlib.Omega.{arith}
use lib.ListN.{length, get_or, drop, get_or-map}
use Rattle.file_format.specs.Accepted.{Program}
use Rattle.file_format.specs.Lawful.{Lawful}
use Rattle.file_wellformed.proofs.Lawful.{accepted_lawful}
use Rattle.sheet_format.specs.Layout.{Instr, rank}
use Rattle.machine_spec.specs.Schedule.{Move}
use Rattle.machine_spec.specs.Entries.{Entry, write, release}
use Rattle.machine_spec.specs.State.{Lane, State, Loaded, Outcome, idle, lane_at, run, begin}
use Rattle.machine_spec.specs.Run.{answer_of, start_of, program_for, run_on, run_program}
use Rattle.machine_spec.specs.View.{finished, view_of}
use Rattle.machine_spec.specs.Shape.{EntrySmall, AllSmall, Shaped}
use Rattle.sheet_rows.proofs.Laws.Read.{rows_length}
use Rattle.machine_spec.specs.declared.Machine.{Machine}
use Rattle.machine_state.specs.States.{Blocks, count_of, state_in}
use Rattle.machine_run.specs.Runs.{RunnableBy, Runnable, Ended, Ran, Refused, Ends, outcome_by}
use Rattle.machine_record.specs.Record.{record_of, state_bytes}
use Rattle.machine_record.specs.SmallStates.{Small}
use Rattle.machine_run.specs.Counts.{Counts}
use Rattle.machine_start.proofs.Answered.{not_refused, shape}
use Rattle.machine_start.proofs.Reached.{runs_by}
use Rattle.machine_start.specs.Setup.{AtStart}
use Rattle.machine_spec.proofs.Levels.{programs_many}

entry_smaller : {ls ks : ℕ} → ls ≤ 16 → ks ≤ 4 → (e : Entry) → EntrySmall ls ks e → EntrySmall 16 4 e
entry_smaller wl wk (write x v) h = (omega (arith, h.0), h.1)
entry_smaller wl wk (release l) h = omega arith

all_smaller : {ls ks : ℕ} → ls ≤ 16 → ks ≤ 4 → (es : List Entry) → AllSmall ls ks es → AllSmall 16 4 es
all_smaller wl wk [] h = tt
all_smaller wl wk (e ∷ es) h = (entry_smaller wl wk e h.0, all_smaller wl wk es h.1)

-- a state within a kernel's bounds can be written
pub shaped_small : {k : Program} {row : List Loaded} {f : Bool} {s : State} → Lawful k → Shaped k (view_of row f s)
    → Small s
shaped_small {k} {s = s} law shaped = record {
  locks = λ i. omega (arith, shaped.locks_small i, law.few_lanes);
  entries = λ t. all_smaller law.few_locations law.few_locks (lane_at s t).pending
      (subst (AllSmall k.locations k.locks) (get_or-map (λ (l : Lane). l.pending) s.lanes t idle)
      (shaped.entries t));
}

module _ {m : Machine} {vol : ℕ → Bool} {rows first count : List ℕ} {mvs : List Move} {h : Blocks} {s : List ℕ}
    {k : Program} (b : AtStart m vol rows first count mvs h s k) where
  abbrev prog : List (List Instr)
  prog = program_for m k

  law : Lawful k
  law = accepted_lawful s k b.schedule.accepts

  pub few_lanes : count_of h 0 ≤ 4
  few_lanes = omega (arith, b.lanes, law.few_lanes)

  pub begins_run : RunnableBy m vol rows first count mvs h prog
  begins_run =
      runs_by s k b.schedule.accepts m vol rows first count mvs h prog b.volatile b.lanes refl b.start
      b.schedule.lets b.programs

  pub begins_runnable : Runnable m vol rows first count mvs h
  begins_runnable = record { program = prog; runs = begins_run }

  -- the rows of each lane's program are as many as its count says
  begins_counts : Counts (length k.lanes) count prog
  begins_counts = record {
    lanes = programs_many k law m;
    each = λ t l. ap length (b.programs t l).rows ∙ rows_length (get_or count t 0) (drop (get_or first t 0) rows);
  }

  same_run : run m vol prog (begin (state_in h)) mvs ≡ run_on m k mvs
  same_run =
      ap₂ (λ (v : ℕ → Bool) (x : State). run m v prog (begin x) mvs) b.volatile b.start

  -- ## its end

  module _ {q : Ended} {e : Blocks} (so : Ends m vol mvs prog h q e) where
    came : {o : Ended} → q ≡ o → run_on m k mvs ≡ outcome_by prog e so.row o
    came r = sym same_run ∙ so.outcome ∙ ap (outcome_by prog e so.row) r

    pub never_refused : {t p : ℕ} → q ≡ Refused t p → ⊥
    never_refused {t} {p} r =
        not_refused s k b.schedule.accepts m mvs b.schedule.lets t (rank (get_or prog t []) p)
        (came r)

    pub few_ended : count_of e 0 ≤ 4
    few_ended = omega (arith, so.lanes, few_lanes)

    module _ {d w : ℕ} (r : q ≡ Ran d w) where
      shaped : Shaped k (view_of so.row (finished prog (state_in e)) (state_in e))
      shaped = shape s k b.schedule.accepts m mvs b.schedule.lets _ (came r)

      pub small : Small (state_in e)
      small = shaped_small law shaped

      -- f is what `finished` says of the state
      pub record_is : {f : Bool}
          → ((p : List (List Instr)) → Counts (count_of e 0) count p → f ≡ finished p (state_in e))
          → record_of f d w (state_in e) ≡ state_bytes (run_program m k mvs)
      record_is judged =
          ap (λ x. record_of x d w (state_in e))
          (judged prog (subst (λ n. Counts n count prog) (sym (so.lanes ∙ b.lanes)) begins_counts))
          ∙ sym (rw b.schedule.lets
          (ap (λ (o : Outcome). state_bytes (answer_of prog k.records (start_of k) o)) (came r)))
