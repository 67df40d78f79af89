-- No schedule of the first example finishes with register 1 zero in both lanes: a search over its states.
use Prim.Native.Nat.{ℕ}
use mathlib.Core.Path.{◌≡◌, refl, ap, ◌∙◌, sym, subst}
use mathlib.Core.Bool.{Bool, true, false, not, ◌&&◌}
use mathlib.Core.List.{List, [], ◌∷◌, map}
use lib.ListN.{length, get_or}
use borrow.Author.Tests.{not-true}
use Rattle.file_format.specs.declared.accepted.Op.TheVariants.{Set, Load, Store}
use Rattle.file_format.specs.Search.{lowest, first_of}
use Rattle.file_format.specs.Rules.{header_rule, head_rule, bad_record, record_rule}
use Rattle.file_format.specs.Rules.{limit_a, limit_b, limit_constant, limit_target}
use Rattle.file_format.specs.Linkage.{chain, walk_of, bad_linkage, linkage_from, chain_too_long}
use Rattle.file_format.specs.Targets.{member, bad_target, unreachable_target, position}
use Rattle.file_format.specs.Accepted.{Program, op_of, ops_from}
use Rattle.file_format.specs.Held.{held_from, same, conflict_below, fault_at, fault_position, record_at, lock_fault}
use Rattle.file_format.specs.Rising.{all_below, descent_at, descent_position, lock_order}
use Rattle.file_verdict.specs.Verdict.{accepted, verdict, fields_then, structure_then, refusal_of}
use Rattle.barrier_placement.specs.declared.cookbook.Barrier.TheVariants.{SL}
use Rattle.barrier_placement.specs.Place.{stands, due, due_after}
use Rattle.sheet_format.specs.Layout.{Instr, op, barrier}
use Rattle.sheet_format.specs.Levels.{volatile_in}
use Rattle.sheet_format.specs.Bytes.{sheet_bytes}
use Rattle.sheet_format.specs.Read.{read_sheet}
use Rattle.machine_spec.specs.declared.Machine.{Machine}
use Rattle.machine_spec.specs.declared.Machine.TheVariants.{Source, Target}
use Rattle.machine_spec.specs.declared.Model.{Model}
use Rattle.machine_spec.specs.declared.Model.TheVariants.{Tso, Pso}
use Rattle.machine_spec.specs.Schedule.{Move, legal, limit}
use Rattle.machine_spec.specs.State.{State, Outcome, ran, refused}
use Rattle.machine_spec.specs.View.{finished}
use Rattle.machine_spec.specs.Run.{answer_of, start_of, program_for, run_on, run_program, run_by}
use Rattle.claims.proofs.Explore.{GoodOut, explore, explored}
use Rattle.claims_examples.specs.Kernels.{store_buffering}
use Rattle.claims_examples.specs.Table.{all_zero, ends_all_zero}

-- the kernel that the file stands for, and its level 2 lanes
abbrev kernel : Program
kernel = record {
  locations = 2;
  locks = 0;
  mask = 3;
  records = (1 ∷ 2 ∷ 3 ∷ []) ∷ (4 ∷ 5 ∷ 6 ∷ []) ∷ [];
  lanes = (Set 0 1 ∷ Store 0 0 ∷ Load 1 1 ∷ []) ∷ (Set 0 1 ∷ Store 0 1 ∷ Load 1 0 ∷ []) ∷ [];
}

abbrev lanes2 : List (List Instr)
lanes2 =
    (op (Set 0 1) ∷ op (Store 0 0) ∷ barrier SL ∷ op (Load 1 1) ∷ [])
    ∷ (op (Set 0 1) ∷ op (Store 0 1) ∷ barrier SL ∷ op (Load 1 0) ∷ [])
    ∷ []

stands_for : verdict (store_buffering 3) ≡ accepted kernel
unfolding refusal_of structure_then fields_then header_rule head_rule bad_record record_rule limit_a limit_b
    limit_constant limit_target lowest first_of bad_linkage linkage_from chain member walk_of chain_too_long
    bad_target unreachable_target lock_fault lock_order all_below descent_at descent_position position op_of ops_from
    record_at fault_position fault_at conflict_below held_from same
stands_for = refl

lowered_to : (m : Model) → program_for (Target m) kernel ≡ lanes2
unfolding stands due due_after sheet_bytes read_sheet
lowered_to Tso = refl
lowered_to Pso = refl

-- not finished with register 1 zero in each lane
abbrev good : List (List Instr) → State → Bool
good prog s = not (finished prog s && all_zero (map (λ l. get_or l.regs 1 0) s.lanes))

-- the search over the program's states finds none that is not good, within so many moves done
abbrev Searched : Machine → Program → List (List Instr) → ℕ → Type 0
Searched m k prog fuel = explore m (volatile_in k) prog (length k.lanes) 1 (good prog) fuel (start_of k) ≡ true

module _ (m : Machine) (k : Program) (fuel : ℕ) (search : Searched m k (program_for m k) fuel) where
  ended : (o : Outcome) → GoodOut (good (program_for m k)) o
      → ends_all_zero (answer_of (program_for m k) k.records (start_of k) o) ≡ false
  ended (ran r) h = not-true _ h
  ended (refused t p) h = refl

  never_all_zero : (mvs : List Move) → ends_all_zero (run_program m k mvs) ≡ false
  never_all_zero mvs = go (legal (length k.lanes) (limit m) mvs) refl
    where
      go : (b : Bool) → legal (length k.lanes) (limit m) mvs ≡ b → ends_all_zero (run_program m k mvs) ≡ false
      go false h = rw h
      go true h =
          rw h
          (ended (run_on m k mvs)
          (explored m (volatile_in k) (program_for m k) (length k.lanes) 1 (good (program_for m k)) mvs (limit m) fuel _
          search h))

searched : (m : Model) → Searched (Target m) kernel (program_for (Target m) kernel) 11
searched Tso = subst (λ p. Searched (Target Tso) kernel p 11) (sym (lowered_to Tso)) refl
searched Pso = subst (λ p. Searched (Target Pso) kernel p 11) (sym (lowered_to Pso)) refl

never_on : (m : Model) (mvs : List Move)
    → ends_all_zero (run_by (Target m) (store_buffering 3) (verdict (store_buffering 3)) mvs) ≡ false
never_on m mvs =
    ap (λ v. ends_all_zero (run_by (Target m) (store_buffering 3) v mvs)) stands_for
    ∙ never_all_zero (Target m) kernel 11 (searched m) mvs

pub never_on_tso : (mvs : List Move)
    → ends_all_zero (run_by (Target Tso) (store_buffering 3) (verdict (store_buffering 3)) mvs) ≡ false
never_on_tso = never_on Tso

pub never_on_pso : (mvs : List Move)
    → ends_all_zero (run_by (Target Pso) (store_buffering 3) (verdict (store_buffering 3)) mvs) ≡ false
never_on_pso = never_on Pso

pub never_on_source : (mvs : List Move)
    → ends_all_zero (run_by Source (store_buffering 3) (verdict (store_buffering 3)) mvs) ≡ false
never_on_source mvs =
    ap (λ v. ends_all_zero (run_by Source (store_buffering 3) v mvs)) stands_for
    ∙ never_all_zero Source kernel 9 refl mvs
