-- The instructions that the bytes of a sheet stand for: what a target carries out.
use Rattle.std.specs.Prelude.{ℕ, zero, suc, cond, List, [], ◌∷◌, eqb, get_or, take, drop}
use Rattle.file_format.specs.declared.accepted.Op.TheVariants.{Set, Add, Load, Store, Lock, Unlock, Skip}
use Rattle.file_format.specs.Fields.{word, quad}
use Rattle.barrier_placement.specs.declared.cookbook.Barrier.{Barrier}
use Rattle.barrier_placement.specs.declared.cookbook.Barrier.TheVariants.{LL, LS, SS, SL}
use Rattle.sheet_format.specs.Layout.{Instr, op, barrier}

-- the barrier of a code that is no operation's; 14 at levels 1 and 3 and 15 at level 2 are both SL
abbrev pub barrier_by : ℕ → Barrier
barrier_by o = cond (eqb o 11) LL (cond (eqb o 12) LS (cond (eqb o 13) SS SL))

-- the instruction of a code, with its fields
abbrev pub instr_by : ℕ → ℕ → ℕ → ℕ → Instr
instr_by o a b c =
    cond (eqb o 1) (op (Set a c))
    (cond (eqb o 2) (op (Add a b))
    (cond (eqb o 3) (op (Load a b))
    (cond (eqb o 4) (op (Store a b))
    (cond (eqb o 5) (op (Lock b))
    (cond (eqb o 6) (op (Unlock b))
    (cond (eqb o 7) (op (Skip a c))
    (barrier (barrier_by o))))))))

abbrev pub read_instr : List ℕ → Instr
read_instr b = instr_by (get_or b 0 0) (get_or b 1 0) (get_or b 2 0) (quad b 4)

-- n instructions, and what follows them
abbrev pub read_rows : ℕ → List ℕ → List Instr
read_rows zero b = []
read_rows (suc n) b = read_instr b ∷ read_rows n (drop 8 b)

abbrev pub past_rows : ℕ → List ℕ → List ℕ
past_rows zero b = b
past_rows (suc n) b = past_rows n (drop 8 b)

-- lane after lane, of these counts
abbrev pub read_lanes : List ℕ → List ℕ → List (List Instr)
read_lanes [] b = []
read_lanes (n ∷ ns) b = read_rows n b ∷ read_lanes ns (past_rows n b)

-- the header's counts, of its T lanes
abbrev pub counts : List ℕ → List ℕ
counts b = take (get_or b 0 0) (word b 8 ∷ word b 10 ∷ word b 12 ∷ word b 14 ∷ [])

unfoldable pub read_sheet : List ℕ → List (List Instr)
read_sheet b = read_lanes (counts b) (drop 16 b)
