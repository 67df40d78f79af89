-- The text of a state by computation. Past the end of a record every byte reads as 0.
use Rattle.std.specs.Prelude.{◌≡◌, refl, [], ◌∷◌, ◌++◌, replicate}
use Rattle.sheet_format.specs.Put.{in_turn}
use Rattle.text_put.specs.Decimal.{digits, decimal}
use Rattle.text_run.specs.Lanes.{lane_text}
use Rattle.text_run.specs.States.{text_by, state_text}

-- one lane, one location, no locks, two entries pending:
-- "done 0 waited 0", "finished no", "memory 0", "locks", "lane 0 position 0 registers 0 0 0 0 0 0 0 0",
-- "lane 0 pending location 0 value 7", "lane 0 pending release 1"
state_holds : state_text
    (replicate 90 0 ++ 2 ∷ replicate 33 0 ++ 1 ∷ 0 ∷ 0 ∷ 0 ∷ 7 ∷ 0 ∷ 0 ∷ 0 ∷ 2 ∷ 1 ∷ []) 1 1 0 ≡
    100 ∷ 111 ∷ 110 ∷ 101 ∷ 32 ∷ 48 ∷ 32 ∷ 119 ∷ 97 ∷ 105 ∷ 116 ∷ 101 ∷ 100 ∷ 32 ∷ 48 ∷ 10 ∷ 102 ∷ 105 ∷ 110 ∷ 105
    ∷ 115 ∷ 104 ∷ 101 ∷ 100 ∷ 32 ∷ 110 ∷ 111 ∷ 10 ∷ 109 ∷ 101 ∷ 109 ∷ 111 ∷ 114 ∷ 121 ∷ 32 ∷ 48 ∷ 10 ∷ 108 ∷ 111
    ∷ 99 ∷ 107 ∷ 115 ∷ 10 ∷ 108 ∷ 97 ∷ 110 ∷ 101 ∷ 32 ∷ 48 ∷ 32 ∷ 112 ∷ 111 ∷ 115 ∷ 105 ∷ 116 ∷ 105 ∷ 111 ∷ 110 ∷ 32
    ∷ 48 ∷ 32 ∷ 114 ∷ 101 ∷ 103 ∷ 105 ∷ 115 ∷ 116 ∷ 101 ∷ 114 ∷ 115 ∷ 32 ∷ 48 ∷ 32 ∷ 48 ∷ 32 ∷ 48 ∷ 32 ∷ 48 ∷ 32
    ∷ 48 ∷ 32 ∷ 48 ∷ 32 ∷ 48 ∷ 32 ∷ 48 ∷ 10 ∷ 108 ∷ 97 ∷ 110 ∷ 101 ∷ 32 ∷ 48 ∷ 32 ∷ 112 ∷ 101 ∷ 110 ∷ 100 ∷ 105
    ∷ 110 ∷ 103 ∷ 32 ∷ 108 ∷ 111 ∷ 99 ∷ 97 ∷ 116 ∷ 105 ∷ 111 ∷ 110 ∷ 32 ∷ 48 ∷ 32 ∷ 118 ∷ 97 ∷ 108 ∷ 117 ∷ 101 ∷ 32
    ∷ 55 ∷ 10 ∷ 108 ∷ 97 ∷ 110 ∷ 101 ∷ 32 ∷ 48 ∷ 32 ∷ 112 ∷ 101 ∷ 110 ∷ 100 ∷ 105 ∷ 110 ∷ 103 ∷ 32 ∷ 114 ∷ 101 ∷ 108
    ∷ 101 ∷ 97 ∷ 115 ∷ 101 ∷ 32 ∷ 49 ∷ 10 ∷ []
unfolding digits decimal in_turn lane_text text_by
state_holds = refl

-- a mark behind the first of the two, byte 2 of its eight: its line comes between theirs, "lane 0 pending SS"
mark_holds : state_text
    (replicate 90 0 ++ 2 ∷ replicate 33 0 ++ 1 ∷ 0 ∷ 1 ∷ 0 ∷ 7 ∷ 0 ∷ 0 ∷ 0 ∷ 2 ∷ 1 ∷ []) 1 1 0 ≡
    100 ∷ 111 ∷ 110 ∷ 101 ∷ 32 ∷ 48 ∷ 32 ∷ 119 ∷ 97 ∷ 105 ∷ 116 ∷ 101 ∷ 100 ∷ 32 ∷ 48 ∷ 10 ∷ 102 ∷ 105 ∷ 110 ∷ 105
    ∷ 115 ∷ 104 ∷ 101 ∷ 100 ∷ 32 ∷ 110 ∷ 111 ∷ 10 ∷ 109 ∷ 101 ∷ 109 ∷ 111 ∷ 114 ∷ 121 ∷ 32 ∷ 48 ∷ 10 ∷ 108 ∷ 111 ∷ 99
    ∷ 107 ∷ 115 ∷ 10 ∷ 108 ∷ 97 ∷ 110 ∷ 101 ∷ 32 ∷ 48 ∷ 32 ∷ 112 ∷ 111 ∷ 115 ∷ 105 ∷ 116 ∷ 105 ∷ 111 ∷ 110 ∷ 32 ∷ 48
    ∷ 32 ∷ 114 ∷ 101 ∷ 103 ∷ 105 ∷ 115 ∷ 116 ∷ 101 ∷ 114 ∷ 115 ∷ 32 ∷ 48 ∷ 32 ∷ 48 ∷ 32 ∷ 48 ∷ 32 ∷ 48 ∷ 32 ∷ 48 ∷ 32
    ∷ 48 ∷ 32 ∷ 48 ∷ 32 ∷ 48 ∷ 10 ∷ 108 ∷ 97 ∷ 110 ∷ 101 ∷ 32 ∷ 48 ∷ 32 ∷ 112 ∷ 101 ∷ 110 ∷ 100 ∷ 105 ∷ 110 ∷ 103 ∷ 32
    ∷ 108 ∷ 111 ∷ 99 ∷ 97 ∷ 116 ∷ 105 ∷ 111 ∷ 110 ∷ 32 ∷ 48 ∷ 32 ∷ 118 ∷ 97 ∷ 108 ∷ 117 ∷ 101 ∷ 32 ∷ 55 ∷ 10 ∷ 108 ∷ 97
    ∷ 110 ∷ 101 ∷ 32 ∷ 48 ∷ 32 ∷ 112 ∷ 101 ∷ 110 ∷ 100 ∷ 105 ∷ 110 ∷ 103 ∷ 32 ∷ 83 ∷ 83 ∷ 10 ∷ 108 ∷ 97 ∷ 110 ∷ 101
    ∷ 32 ∷ 48 ∷ 32 ∷ 112 ∷ 101 ∷ 110 ∷ 100 ∷ 105 ∷ 110 ∷ 103 ∷ 32 ∷ 114 ∷ 101 ∷ 108 ∷ 101 ∷ 97 ∷ 115 ∷ 101 ∷ 32 ∷ 49
    ∷ 10 ∷ []
unfolding digits decimal in_turn lane_text text_by
mark_holds = refl
