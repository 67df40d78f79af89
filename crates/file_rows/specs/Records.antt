-- The rows of a file's records, taken from their own bytes.
use Rattle.std.specs.Prelude.{ℕ, ◌+◌, ◌≤◌, ◌<◌, ◌≡◌, cond, List, [], ◌∷◌, eqb, length, get_or}
use Rattle.file_format.specs.Fields.{byte, start, operation, register_a, operand_b, reserved, target}
use Rattle.file_format.specs.Structured.{Structured}
use Rattle.file_chains.specs.Ordered.{begin_of, landing_in, Ordered}

-- the first eight bytes of record r, of a SKIP with the position q to which it leads
abbrev pub record_row : List ℕ → ℕ → ℕ → List ℕ
record_row s r q =
    operation s r ∷ register_a s r ∷ operand_b s r ∷ reserved s r
    ∷ cond (eqb (operation s r) 7) q (byte s (start r + 4))
    ∷ byte s (start r + 5) ∷ byte s (start r + 6) ∷ byte s (start r + 7)
    ∷ []

-- record r lies in the file, and its target leads on in a lane of n records, the first of which stands at `begin`
pub record RecordIn (s place : List ℕ) (begin n r : ℕ) : Type 0 where
  pub whole : start r + 12 ≤ length s
  pub aimed : target s r < length place
  pub later : ¬ target s r ≡ 0 → begin + 1 ≤ get_or place (target s r) 0
  pub landed : landing_in place begin n (target s r) < 256

-- the records from `begin` up to `end` in the order are a lane
pub record LaneIn (s order place : List ℕ) (begin end : ℕ) : Type 0 where
  pub lane : ℕ
  pub ends : List ℕ
  pub below : lane < 4
  pub structured : Structured s
  pub ordered : Ordered s order place ends
  pub from : begin ≡ begin_of ends lane
  pub to : end ≡ get_or ends lane 0
