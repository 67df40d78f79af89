-- Lines of moves by computation. Past the end of a record every byte reads as 0.
use Rattle.std.specs.Prelude.{ℕ, ◌≡◌, refl, List, [], ◌∷◌, ◌++◌, replicate}
use Rattle.machine_spec.specs.declared.Machine.{Machine}
use Rattle.machine_spec.specs.declared.Machine.TheVariants.{Source, Target}
use Rattle.machine_spec.specs.declared.Model.TheVariants.{Tso, Pso}
use Rattle.text_put.specs.Decimal.{digits, decimal}
use Rattle.text_listing.specs.Line.{instr_text}
use Rattle.text_run.specs.Moves.{line_by, move_line}

-- "1 lane 0 choice 0 waited": nothing was done
waited_holds : move_line Source [] [] [] 1 0 0 ≡
    49 ∷ 32 ∷ 108 ∷ 97 ∷ 110 ∷ 101 ∷ 32 ∷ 48 ∷ 32 ∷ 99 ∷ 104 ∷ 111 ∷ 105 ∷ 99 ∷ 101 ∷ 32 ∷ 48 ∷ 32 ∷ 119 ∷ 97 ∷ 105
    ∷ 116 ∷ 101 ∷ 100 ∷ 10 ∷ []
unfolding digits decimal line_by
waited_holds = refl

-- "1 lane 0 choice 0 done LOAD 1 0 value 5": one lane of one row; byte 8 counts one move done, register 1 is 5
load_holds : move_line Source (1 ∷ 1 ∷ 0 ∷ 2 ∷ 0 ∷ 0 ∷ 0 ∷ 0 ∷ 1 ∷ replicate 7 0 ++ 3 ∷ 1 ∷ [])
    [] (replicate 8 0 ++ 1 ∷ replicate 87 0 ++ 5 ∷ []) 1 0 0 ≡
    49 ∷ 32 ∷ 108 ∷ 97 ∷ 110 ∷ 101 ∷ 32 ∷ 48 ∷ 32 ∷ 99 ∷ 104 ∷ 111 ∷ 105 ∷ 99 ∷ 101 ∷ 32 ∷ 48 ∷ 32 ∷ 100 ∷ 111 ∷ 110
    ∷ 101 ∷ 32 ∷ 76 ∷ 79 ∷ 65 ∷ 68 ∷ 32 ∷ 49 ∷ 32 ∷ 48 ∷ 32 ∷ 118 ∷ 97 ∷ 108 ∷ 117 ∷ 101 ∷ 32 ∷ 53 ∷ 10 ∷ []
unfolding digits decimal instr_text line_by
load_holds = refl

-- "2 lane 0 choice 1 done commits location 2 value 7": the entry of place 0 begins at byte 124
commit_holds : move_line Source [] (replicate 124 0 ++ 1 ∷ 2 ∷ 0 ∷ 0 ∷ 7 ∷ []) (replicate 8 0 ++ 1 ∷ []) 2 0 1 ≡
    50 ∷ 32 ∷ 108 ∷ 97 ∷ 110 ∷ 101 ∷ 32 ∷ 48 ∷ 32 ∷ 99 ∷ 104 ∷ 111 ∷ 105 ∷ 99 ∷ 101 ∷ 32 ∷ 49 ∷ 32 ∷ 100 ∷ 111 ∷ 110
    ∷ 101 ∷ 32 ∷ 99 ∷ 111 ∷ 109 ∷ 109 ∷ 105 ∷ 116 ∷ 115 ∷ 32 ∷ 108 ∷ 111 ∷ 99 ∷ 97 ∷ 116 ∷ 105 ∷ 111 ∷ 110 ∷ 32 ∷ 50
    ∷ 32 ∷ 118 ∷ 97 ∷ 108 ∷ 117 ∷ 101 ∷ 32 ∷ 55 ∷ 10 ∷ []
unfolding digits decimal line_by
commit_holds = refl

-- a move that passes the barrier of this code, the one row of the one lane
abbrev passing : Machine → ℕ → List ℕ
passing m code =
    move_line m (1 ∷ replicate 7 0 ++ 1 ∷ replicate 7 0 ++ code ∷ []) [] (replicate 8 0 ++ 1 ∷ []) 1 0 0

-- "1 lane 0 choice 0 done SS"
ss_holds : passing (Target Pso) 13 ≡
    49 ∷ 32 ∷ 108 ∷ 97 ∷ 110 ∷ 101 ∷ 32 ∷ 48 ∷ 32 ∷ 99 ∷ 104 ∷ 111 ∷ 105 ∷ 99 ∷ 101 ∷ 32 ∷ 48 ∷ 32 ∷ 100 ∷ 111 ∷ 110
    ∷ 101 ∷ 32 ∷ 83 ∷ 83 ∷ 10 ∷ []
unfolding digits decimal instr_text line_by
ss_holds = refl

-- "1 lane 0 choice 0 done SL"
sl_holds : passing (Target Pso) 14 ≡
    49 ∷ 32 ∷ 108 ∷ 97 ∷ 110 ∷ 101 ∷ 32 ∷ 48 ∷ 32 ∷ 99 ∷ 104 ∷ 111 ∷ 105 ∷ 99 ∷ 101 ∷ 32 ∷ 48 ∷ 32 ∷ 100 ∷ 111 ∷ 110
    ∷ 101 ∷ 32 ∷ 83 ∷ 76 ∷ 10 ∷ []
unfolding digits decimal instr_text line_by
sl_holds = refl

-- "1 lane 0 choice 0 done MFENCE"
fence_holds : passing (Target Tso) 15 ≡
    49 ∷ 32 ∷ 108 ∷ 97 ∷ 110 ∷ 101 ∷ 32 ∷ 48 ∷ 32 ∷ 99 ∷ 104 ∷ 111 ∷ 105 ∷ 99 ∷ 101 ∷ 32 ∷ 48 ∷ 32 ∷ 100 ∷ 111 ∷ 110
    ∷ 101 ∷ 32 ∷ 77 ∷ 70 ∷ 69 ∷ 78 ∷ 67 ∷ 69 ∷ 10 ∷ []
unfolding digits decimal instr_text line_by
fence_holds = refl
