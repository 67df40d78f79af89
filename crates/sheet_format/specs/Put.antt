-- Bytes laid into a buffer from a position on. What does not fit is dropped, and the position counts on all the same.
use Rattle.std.specs.Prelude.{ℕ, zero, suc, ◌+◌, ◌≡◌, cond, List, [], ◌++◌, leb, length}
use Rattle.std.proofs.lemmas.List.Edits.{sets}

-- `after` is `before` with x from `at` on, and `end` is the position behind x
pub record Puts (before : List ℕ) (at : ℕ) (x : List ℕ) (after : List ℕ) (end : ℕ) : Type 0 where
  pub bytes : after ≡ sets before at x
  pub behind : end ≡ at + length x

-- x from `at` on where all of it fits, else nothing
unfoldable pub laid : List ℕ → ℕ → List ℕ → List ℕ
laid before at x = cond (leb (at + length x) (length before)) (sets before at x) before

-- the first n texts one behind the other
unfoldable pub in_turn : (ℕ → List ℕ) → ℕ → List ℕ
in_turn text zero = []
in_turn text (suc n) = in_turn text n ++ text n
