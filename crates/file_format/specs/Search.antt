-- Searching in a fixed order: the lowest number that passes a test, the first name that is not 0, and a row of tests.
use Rattle.std.specs.Prelude.{ℕ, zero, suc, Bool, true, false, cond, List, [], ◌∷◌, eqb}

-- the lowest of the k numbers from i on that passes the test; 0 where none does
unfoldable pub lowest : (ℕ → Bool) → ℕ → ℕ → ℕ
lowest test i zero = 0
lowest test i (suc k) = elim (test i) [ true ↦ i | false ↦ lowest test (suc i) k ]

-- the first of f i, .., f (i + k - 1) that names a record; 0 where none does
unfoldable pub first_of : (ℕ → ℕ) → ℕ → ℕ → ℕ
first_of f i zero = 0
first_of f i (suc k) = elim (eqb (f i) 0) [ true ↦ first_of f (suc i) k | false ↦ f i ]

-- every test of a row holds
abbrev pub all : List Bool → Bool
all [] = true
all (x ∷ xs) = cond x (all xs) false
