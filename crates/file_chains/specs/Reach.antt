-- Which places of the order a place reaches.
use Rattle.std.specs.Prelude.{ℕ, Bool, false, cond, List, leb, get_or}

-- where the lane of place j ends: the first end that is not before j, else the last
abbrev pub end_of : List ℕ → ℕ → ℕ
end_of ends j =
    cond (leb j (get_or ends 0 0)) (get_or ends 0 0)
    (cond (leb j (get_or ends 1 0)) (get_or ends 1 0)
    (cond (leb j (get_or ends 2 0)) (get_or ends 2 0)
    (get_or ends 3 0)))

-- place z comes after place j in the lane of place j
abbrev pub reached : List ℕ → ℕ → ℕ → Bool
reached ends j z = cond (leb z j) false (leb z (end_of ends j))
