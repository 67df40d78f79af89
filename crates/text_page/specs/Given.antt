-- What the pages are laid from: the bytes of a level 2 sheet, and the records in the order of its lanes. Each line is
-- laid behind those before it, with a heading before each 55th.
use Rattle.std.specs.Prelude.{ℕ, suc, ◌+◌, ◌*◌, ◌/◌, ◌%◌, ◌<◌, ◌≡◌, cond, List, [], ◌∷◌, ◌++◌, eqb, length, get_or}
use Rattle.file_format.specs.Accepted.{Program}
use Rattle.file_format.specs.Lawful.{Lawful}
use Rattle.sheet_format.specs.declared.Level.TheVariants.{Level2}
use Rattle.sheet_format.specs.Bytes.{sheet_bytes}
use Rattle.file_accept.specs.Order.{lane_order}
use Rattle.sheet_rows.specs.Rows.{parts_in}
use Rattle.text_page.specs.Pages.{heading_line}
use Rattle.text_page.specs.Lines.{page_lines}

-- what stands before line n, from 0: the heading of the page that it begins
unfoldable pub heading : ℕ → List ℕ
heading n = cond (eqb (n % 55) 0) (heading_line (n / 55 + 1)) []

unfoldable pub headed : ℕ → List ℕ → List ℕ
headed n l = heading n ++ l

-- lines with their headings, the first of which is line n
unfoldable pub paged : ℕ → List (List ℕ) → List ℕ
paged n [] = []
paged n (l ∷ ls) = headed n l ++ paged (suc n) ls

-- row i of a sheet, from 0, is that of the instruction of lane t at position p
pub record RowAt (sheet : List ℕ) (i t p : ℕ) : Type 0 where
  pub lane : t < 4
  pub position : p < get_or (parts_in sheet).count t 0
  pub row : get_or (parts_in sheet).from t 0 + 8 * p ≡ 16 + 8 * i

-- the level 2 sheet of a lawful kernel of n instructions stands at the front of a buffer, and the records in the order
-- of its lanes at the front of another
pub record Given (k : Program) (sheet order : List ℕ) (n : ℕ) : Type 0 where
  pub lawful : Lawful k
  pub behind : List ℕ
  pub front : sheet ≡ sheet_bytes Level2 k ++ behind
  pub others : List ℕ
  pub ordered : order ≡ lane_order k ++ others
  pub counted : n ≡ length (page_lines k)
