-- How a machine names an instruction: as the listing does; but the pso machine's store-load barrier is SL, not MFENCE.
use Rattle.std.specs.Prelude.{Bool, true, false, cond, List, ℕ}
use Rattle.barrier_placement.specs.declared.cookbook.Barrier.TheVariants.{LL, LS, SS, SL}
use Rattle.sheet_format.specs.Layout.{Instr, op, barrier}
use Rattle.machine_spec.specs.declared.Machine.{Machine}
use Rattle.machine_spec.specs.declared.Machine.TheVariants.{Source, Target}
use Rattle.machine_spec.specs.declared.Model.TheVariants.{Tso, Pso}
use Rattle.text_listing.specs.Line.{instr_text}
use Rattle.text_run.specs.Words.{store_load_word}

abbrev pub is_store_load : Instr → Bool
is_store_load (op o) = false
is_store_load (barrier LL) = false
is_store_load (barrier LS) = false
is_store_load (barrier SS) = false
is_store_load (barrier SL) = true

-- has the machine a name of its own for it
abbrev pub own_name : Machine → Instr → Bool
own_name Source i = false
own_name (Target Tso) i = false
own_name (Target Pso) i = is_store_load i

abbrev pub instr_on : Machine → Instr → List ℕ
instr_on m i = cond (own_name m i) store_load_word (instr_text i)
