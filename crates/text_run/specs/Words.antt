-- The words of a run's text, as ASCII bytes.
use Rattle.std.specs.Prelude.{ℕ, List, [], ◌∷◌}

-- " lane "
abbrev pub lane_word : List ℕ
lane_word = 32 ∷ 108 ∷ 97 ∷ 110 ∷ 101 ∷ 32 ∷ []

-- " choice "
abbrev pub choice_word : List ℕ
choice_word = 32 ∷ 99 ∷ 104 ∷ 111 ∷ 105 ∷ 99 ∷ 101 ∷ 32 ∷ []

-- " waited"
abbrev pub waited_word : List ℕ
waited_word = 32 ∷ 119 ∷ 97 ∷ 105 ∷ 116 ∷ 101 ∷ 100 ∷ []

-- " done "
abbrev pub done_word : List ℕ
done_word = 32 ∷ 100 ∷ 111 ∷ 110 ∷ 101 ∷ 32 ∷ []

-- " value "
abbrev pub value_word : List ℕ
value_word = 32 ∷ 118 ∷ 97 ∷ 108 ∷ 117 ∷ 101 ∷ 32 ∷ []

-- "commits "
abbrev pub commits_word : List ℕ
commits_word = 99 ∷ 111 ∷ 109 ∷ 109 ∷ 105 ∷ 116 ∷ 115 ∷ 32 ∷ []

-- "location "
abbrev pub location_word : List ℕ
location_word = 108 ∷ 111 ∷ 99 ∷ 97 ∷ 116 ∷ 105 ∷ 111 ∷ 110 ∷ 32 ∷ []

-- "release "
abbrev pub release_word : List ℕ
release_word = 114 ∷ 101 ∷ 108 ∷ 101 ∷ 97 ∷ 115 ∷ 101 ∷ 32 ∷ []

-- "done "
abbrev pub done_count : List ℕ
done_count = 100 ∷ 111 ∷ 110 ∷ 101 ∷ 32 ∷ []

-- " waited "
abbrev pub waited_count : List ℕ
waited_count = 32 ∷ 119 ∷ 97 ∷ 105 ∷ 116 ∷ 101 ∷ 100 ∷ 32 ∷ []

-- "finished yes"
abbrev pub finished_yes : List ℕ
finished_yes = 102 ∷ 105 ∷ 110 ∷ 105 ∷ 115 ∷ 104 ∷ 101 ∷ 100 ∷ 32 ∷ 121 ∷ 101 ∷ 115 ∷ []

-- "finished no"
abbrev pub finished_no : List ℕ
finished_no = 102 ∷ 105 ∷ 110 ∷ 105 ∷ 115 ∷ 104 ∷ 101 ∷ 100 ∷ 32 ∷ 110 ∷ 111 ∷ []

-- "memory"
abbrev pub memory_word : List ℕ
memory_word = 109 ∷ 101 ∷ 109 ∷ 111 ∷ 114 ∷ 121 ∷ []

-- "locks"
abbrev pub locks_word : List ℕ
locks_word = 108 ∷ 111 ∷ 99 ∷ 107 ∷ 115 ∷ []

-- "lane "
abbrev pub lane_start : List ℕ
lane_start = 108 ∷ 97 ∷ 110 ∷ 101 ∷ 32 ∷ []

-- " position "
abbrev pub position_word : List ℕ
position_word = 32 ∷ 112 ∷ 111 ∷ 115 ∷ 105 ∷ 116 ∷ 105 ∷ 111 ∷ 110 ∷ 32 ∷ []

-- " registers"
abbrev pub registers_word : List ℕ
registers_word = 32 ∷ 114 ∷ 101 ∷ 103 ∷ 105 ∷ 115 ∷ 116 ∷ 101 ∷ 114 ∷ 115 ∷ []

-- " pending "
abbrev pub pending_word : List ℕ
pending_word = 32 ∷ 112 ∷ 101 ∷ 110 ∷ 100 ∷ 105 ∷ 110 ∷ 103 ∷ 32 ∷ []

-- "SS"
abbrev pub mark_word : List ℕ
mark_word = 83 ∷ 83 ∷ []

-- "SL"
abbrev pub store_load_word : List ℕ
store_load_word = 83 ∷ 76 ∷ []
