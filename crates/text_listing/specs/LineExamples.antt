-- Lines by computation.
use Rattle.std.specs.Prelude.{◌≡◌, refl, [], ◌∷◌, ◌++◌}
use Rattle.file_format.specs.declared.accepted.Op.TheVariants.{Set, Add, Load, Store, Lock, Unlock, Skip}
use Rattle.barrier_placement.specs.declared.cookbook.Barrier.TheVariants.{SL}
use Rattle.sheet_format.specs.Layout.{op, barrier}
use Rattle.text_put.specs.Decimal.{digits, decimal}
use Rattle.text_listing.specs.Line.{instr_text, line_of}

-- "3 12 SET 7 4294967295", "0 0 SKIP 1 130", "0 9 UNLOCK 3"
set_holds : line_of 3 12 (op (Set 7 4294967295)) ≡
    51 ∷ 32 ∷ 49 ∷ 50 ∷ 32 ∷ 83 ∷ 69 ∷ 84 ∷ 32 ∷ 55 ∷ 32 ∷ 52 ∷ 50 ∷ 57 ∷ 52 ∷ 57 ∷ 54 ∷ 55 ∷ 50 ∷ 57
    ∷ 53 ∷ 10
    ∷ []
unfolding digits decimal instr_text line_of
set_holds = refl

skip_holds : line_of 0 0 (op (Skip 1 130)) ≡
    48 ∷ 32 ∷ 48 ∷ 32 ∷ 83 ∷ 75 ∷ 73 ∷ 80 ∷ 32 ∷ 49 ∷ 32 ∷ 49 ∷ 51 ∷ 48 ∷ 10
    ∷ []
unfolding digits decimal instr_text line_of
skip_holds = refl

unlock_holds : line_of 0 9 (op (Unlock 3)) ≡
    48 ∷ 32 ∷ 57 ∷ 32 ∷ 85 ∷ 78 ∷ 76 ∷ 79 ∷ 67 ∷ 75 ∷ 32 ∷ 51 ∷ 10
    ∷ []
unfolding digits decimal instr_text line_of
unlock_holds = refl

-- "1 2 ADD 6 5", "2 3 LOAD 4 15", "0 7 STORE 3 1", "3 0 LOCK 2", "0 2 MFENCE"
others_hold :
    line_of 1 2 (op (Add 6 5)) ++ line_of 2 3 (op (Load 4 15)) ++ line_of 0 7 (op (Store 3 1))
    ++ line_of 3 0 (op (Lock 2)) ++ line_of 0 2 (barrier SL) ≡
    49 ∷ 32 ∷ 50 ∷ 32 ∷ 65 ∷ 68 ∷ 68 ∷ 32 ∷ 54 ∷ 32 ∷ 53 ∷ 10
    ∷ 50 ∷ 32 ∷ 51 ∷ 32 ∷ 76 ∷ 79 ∷ 65 ∷ 68 ∷ 32 ∷ 52 ∷ 32 ∷ 49 ∷ 53 ∷ 10
    ∷ 48 ∷ 32 ∷ 55 ∷ 32 ∷ 83 ∷ 84 ∷ 79 ∷ 82 ∷ 69 ∷ 32 ∷ 51 ∷ 32 ∷ 49 ∷ 10
    ∷ 51 ∷ 32 ∷ 48 ∷ 32 ∷ 76 ∷ 79 ∷ 67 ∷ 75 ∷ 32 ∷ 50 ∷ 10
    ∷ 48 ∷ 32 ∷ 50 ∷ 32 ∷ 77 ∷ 70 ∷ 69 ∷ 78 ∷ 67 ∷ 69 ∷ 10
    ∷ []
unfolding digits decimal instr_text line_of
others_hold = refl
