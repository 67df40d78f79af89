-- The kind of an operation code, and the instruction of a kind with its fields.
use Rattle.std.specs.Prelude.{ℕ, cond, eqb}
use Rattle.file_format.specs.declared.accepted.Op.TheVariants.{Set as set, Add as add, Load as load, Store as store}
use Rattle.file_format.specs.declared.accepted.Op.TheVariants.{Lock as lock, Unlock as unlock, Skip as skip}
use Rattle.barrier_placement.specs.declared.cookbook.Barrier.{Barrier}
use Rattle.barrier_placement.specs.declared.cookbook.Barrier.TheVariants.{LL as ll, LS as ls, SS as ss, SL as sl}
use Rattle.sheet_format.specs.Layout.{Instr, op, barrier}
use Rattle.sheet_format.specs.Read.{barrier_by}
use Rattle.sheet_format.specs.declared.code.Code.{Code}
use Rattle.sheet_format.specs.declared.code.Code.TheVariants.{Set, Add, Load, Store, Lock, Unlock, Skip, LL, LS, SS, SL}

abbrev pub barrier_kind : Barrier → Code
barrier_kind ll = LL
barrier_kind ls = LS
barrier_kind ss = SS
barrier_kind sl = SL

abbrev pub code_from : ℕ → Code
code_from o =
    cond (eqb o 1) Set
    (cond (eqb o 2) Add
    (cond (eqb o 3) Load
    (cond (eqb o 4) Store
    (cond (eqb o 5) Lock
    (cond (eqb o 6) Unlock
    (cond (eqb o 7) Skip
    (barrier_kind (barrier_by o))))))))

-- `instr_by` is this of the code's kind: `named_by` in proofs/Laws/Codes.antt
abbrev pub instr_named : Code → ℕ → ℕ → ℕ → Instr
instr_named Set a b c = op (set a c)
instr_named Add a b c = op (add a b)
instr_named Load a b c = op (load a b)
instr_named Store a b c = op (store a b)
instr_named Lock a b c = op (lock b)
instr_named Unlock a b c = op (unlock b)
instr_named Skip a b c = op (skip a c)
instr_named LL a b c = barrier ll
instr_named LS a b c = barrier ls
instr_named SS a b c = barrier ss
instr_named SL a b c = barrier sl
