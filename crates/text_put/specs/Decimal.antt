-- A number in decimal: its digits as ASCII bytes, highest first, with no leading zeros; 0 is "0".
use Rattle.std.specs.Prelude.{ℕ, zero, suc, ◌+◌, ◌/◌, ◌%◌, Bool, true, false, List, [], ◌∷◌, ◌++◌, ltb}

-- one digit for a number below 10; else those of n / 10, and behind them the last one
abbrev pub digits_by : Bool → ℕ → (ℕ → List ℕ) → List ℕ
digits_by true n shorter = (48 + n) ∷ []
digits_by false n shorter = shorter (n / 10) ++ (48 + n % 10) ∷ []

-- the digits of n, of which there are at most one more than `more`
unfoldable pub digits : ℕ → ℕ → List ℕ
digits zero n = (48 + n) ∷ []
digits (suc more) n = digits_by (ltb n 10) n (digits more)

-- a number has no more digits than its value, but for 0, which has one
unfoldable pub decimal : ℕ → List ℕ
decimal n = digits n n
