-- Lines and pages by computation, held to lines typed from the paper's columns.
use Rattle.std.specs.Prelude.{ℕ, zero, suc, ◌≡◌, refl, List, [], ◌∷◌, map, length, replicate}
use Rattle.file_format.specs.declared.accepted.Op.TheVariants.{Set, Add, Load, Store, Lock, Unlock, Skip}
use Rattle.file_format.specs.Accepted.{Program}
use Rattle.barrier_placement.specs.declared.cookbook.Barrier.TheVariants.{SL}
use Rattle.barrier_placement.specs.Place.{stands, due, due_after}
use Rattle.sheet_format.specs.Layout.{Instr, op, barrier}
use Rattle.sheet_format.specs.Put.{in_turn}
use Rattle.text_put.specs.Decimal.{digits, decimal}
use Rattle.text_page.specs.declared.column.Side.TheVariants.{Left, Right}
use Rattle.text_page.specs.Columns.{column, blank_line, in_column, in_columns, line_in, column_in, filling}
use Rattle.text_page.specs.Lines.{instruction_line, lane_lines, lines_from, page_lines}
use Rattle.text_page.specs.Pages.{heading_line, page_of, pages_of, page_text}
use Rattle.text_page.specs.PageClaims.{line_at}

-- the lines
--   "3 127 SET    7    4294967295 256"
--   "0   0 SET    0             0   1"
--   "1   2 ADD    6  5              9"
--   "2  13 LOAD   4 15             17"
--   "0   7 STORE  3  1             99"
--   "3   0 LOCK      2            100"
--   "0 100 UNLOCK    3              7"
--   "0  99 SKIP   1           128  10"
--   "0   2 MFENCE                    "
lines_hold :
    instruction_line 3 127 (op (Set 7 4294967295)) 256
    ∷ instruction_line 0 0 (op (Set 0 0)) 1
    ∷ instruction_line 1 2 (op (Add 6 5)) 9
    ∷ instruction_line 2 13 (op (Load 4 15)) 17
    ∷ instruction_line 0 7 (op (Store 3 1)) 99
    ∷ instruction_line 3 0 (op (Lock 2)) 100
    ∷ instruction_line 0 100 (op (Unlock 3)) 7
    ∷ instruction_line 0 99 (op (Skip 1 128)) 10
    ∷ instruction_line 0 2 (barrier SL) 8
    ∷ []
    ≡
    (51 ∷ 32 ∷ 49 ∷ 50 ∷ 55 ∷ 32 ∷ 83 ∷ 69 ∷ 84 ∷ 32 ∷ 32 ∷ 32 ∷ 32 ∷ 55 ∷ 32 ∷ 32 ∷ 32 ∷ 32 ∷ 52 ∷ 50 ∷ 57
    ∷ 52 ∷ 57 ∷ 54 ∷ 55 ∷ 50 ∷ 57 ∷ 53 ∷ 32 ∷ 50 ∷ 53 ∷ 54 ∷ 10 ∷ [])
    ∷ (48 ∷ 32 ∷ 32 ∷ 32 ∷ 48 ∷ 32 ∷ 83 ∷ 69 ∷ 84 ∷ 32 ∷ 32 ∷ 32 ∷ 32 ∷ 48 ∷ 32 ∷ 32 ∷ 32 ∷ 32 ∷ 32 ∷ 32 ∷ 32
    ∷ 32 ∷ 32 ∷ 32 ∷ 32 ∷ 32 ∷ 32 ∷ 48 ∷ 32 ∷ 32 ∷ 32 ∷ 49 ∷ 10 ∷ [])
    ∷ (49 ∷ 32 ∷ 32 ∷ 32 ∷ 50 ∷ 32 ∷ 65 ∷ 68 ∷ 68 ∷ 32 ∷ 32 ∷ 32 ∷ 32 ∷ 54 ∷ 32 ∷ 32 ∷ 53 ∷ 32 ∷ 32 ∷ 32 ∷ 32
    ∷ 32 ∷ 32 ∷ 32 ∷ 32 ∷ 32 ∷ 32 ∷ 32 ∷ 32 ∷ 32 ∷ 32 ∷ 57 ∷ 10 ∷ [])
    ∷ (50 ∷ 32 ∷ 32 ∷ 49 ∷ 51 ∷ 32 ∷ 76 ∷ 79 ∷ 65 ∷ 68 ∷ 32 ∷ 32 ∷ 32 ∷ 52 ∷ 32 ∷ 49 ∷ 53 ∷ 32 ∷ 32 ∷ 32 ∷ 32
    ∷ 32 ∷ 32 ∷ 32 ∷ 32 ∷ 32 ∷ 32 ∷ 32 ∷ 32 ∷ 32 ∷ 49 ∷ 55 ∷ 10 ∷ [])
    ∷ (48 ∷ 32 ∷ 32 ∷ 32 ∷ 55 ∷ 32 ∷ 83 ∷ 84 ∷ 79 ∷ 82 ∷ 69 ∷ 32 ∷ 32 ∷ 51 ∷ 32 ∷ 32 ∷ 49 ∷ 32 ∷ 32 ∷ 32 ∷ 32
    ∷ 32 ∷ 32 ∷ 32 ∷ 32 ∷ 32 ∷ 32 ∷ 32 ∷ 32 ∷ 32 ∷ 57 ∷ 57 ∷ 10 ∷ [])
    ∷ (51 ∷ 32 ∷ 32 ∷ 32 ∷ 48 ∷ 32 ∷ 76 ∷ 79 ∷ 67 ∷ 75 ∷ 32 ∷ 32 ∷ 32 ∷ 32 ∷ 32 ∷ 32 ∷ 50 ∷ 32 ∷ 32 ∷ 32 ∷ 32
    ∷ 32 ∷ 32 ∷ 32 ∷ 32 ∷ 32 ∷ 32 ∷ 32 ∷ 32 ∷ 49 ∷ 48 ∷ 48 ∷ 10 ∷ [])
    ∷ (48 ∷ 32 ∷ 49 ∷ 48 ∷ 48 ∷ 32 ∷ 85 ∷ 78 ∷ 76 ∷ 79 ∷ 67 ∷ 75 ∷ 32 ∷ 32 ∷ 32 ∷ 32 ∷ 51 ∷ 32 ∷ 32 ∷ 32 ∷ 32
    ∷ 32 ∷ 32 ∷ 32 ∷ 32 ∷ 32 ∷ 32 ∷ 32 ∷ 32 ∷ 32 ∷ 32 ∷ 55 ∷ 10 ∷ [])
    ∷ (48 ∷ 32 ∷ 32 ∷ 57 ∷ 57 ∷ 32 ∷ 83 ∷ 75 ∷ 73 ∷ 80 ∷ 32 ∷ 32 ∷ 32 ∷ 49 ∷ 32 ∷ 32 ∷ 32 ∷ 32 ∷ 32 ∷ 32 ∷ 32
    ∷ 32 ∷ 32 ∷ 32 ∷ 32 ∷ 49 ∷ 50 ∷ 56 ∷ 32 ∷ 32 ∷ 49 ∷ 48 ∷ 10 ∷ [])
    ∷ (48 ∷ 32 ∷ 32 ∷ 32 ∷ 50 ∷ 32 ∷ 77 ∷ 70 ∷ 69 ∷ 78 ∷ 67 ∷ 69 ∷ 32 ∷ 32 ∷ 32 ∷ 32 ∷ 32 ∷ 32 ∷ 32 ∷ 32 ∷ 32
    ∷ 32 ∷ 32 ∷ 32 ∷ 32 ∷ 32 ∷ 32 ∷ 32 ∷ 32 ∷ 32 ∷ 32 ∷ 32 ∷ 10 ∷ [])
    ∷ []
unfolding digits decimal blank_line in_column in_columns line_in instruction_line
lines_hold = refl

-- headings
--   "page                           1"
--   "page                          10"
headings_hold : heading_line 1 ∷ heading_line 10 ∷ []
    ≡
    (112 ∷ 97 ∷ 103 ∷ 101 ∷ 32 ∷ 32 ∷ 32 ∷ 32 ∷ 32 ∷ 32 ∷ 32 ∷ 32 ∷ 32 ∷ 32 ∷ 32 ∷ 32 ∷ 32 ∷ 32 ∷ 32 ∷ 32 ∷ 32
    ∷ 32 ∷ 32 ∷ 32 ∷ 32 ∷ 32 ∷ 32 ∷ 32 ∷ 32 ∷ 32 ∷ 32 ∷ 49 ∷ 10 ∷ [])
    ∷ (112 ∷ 97 ∷ 103 ∷ 101 ∷ 32 ∷ 32 ∷ 32 ∷ 32 ∷ 32 ∷ 32 ∷ 32 ∷ 32 ∷ 32 ∷ 32 ∷ 32 ∷ 32 ∷ 32 ∷ 32 ∷ 32 ∷ 32 ∷ 32
    ∷ 32 ∷ 32 ∷ 32 ∷ 32 ∷ 32 ∷ 32 ∷ 32 ∷ 32 ∷ 32 ∷ 49 ∷ 48 ∷ 10 ∷ [])
    ∷ []
unfolding digits decimal blank_line in_column in_columns line_in heading_line
headings_hold = refl

-- a kernel without instructions gives a heading alone
empty : Program
empty = record { locations = 1; locks = 0; mask = 0; records = [] ∷ []; lanes = [] ∷ [] }

empty_holds : page_text empty ≡ heading_line 1
unfolding digits decimal blank_line in_column in_columns line_in heading_line page_text pages_of page_of in_turn
    page_lines
    lines_from lane_lines empty
empty_holds = refl

-- a lane whose chain goes through the file in no order, a lane without records, and one of one record
kernel : Program
kernel = record {
  locations = 2;
  locks = 0;
  mask = 2;
  records = (7 ∷ 3 ∷ 9 ∷ 1 ∷ []) ∷ [] ∷ (2 ∷ []) ∷ [];
  lanes = (Store 0 1 ∷ Skip 0 3 ∷ Load 0 1 ∷ Load 0 1 ∷ []) ∷ [] ∷ (Set 5 258 ∷ []) ∷ [];
}

--   "page                           1"
--   "0   0 STORE  0  1              7"
--   "0   1 SKIP   0             4   3"
--   "0   2 MFENCE                    "
--   "0   3 LOAD   0  1              9"
--   "0   4 MFENCE                    "
--   "0   5 LOAD   0  1              1"
--   "2   0 SET    5           258   2"
kernel_holds : page_text kernel ≡
    112 ∷ 97 ∷ 103 ∷ 101 ∷ 32 ∷ 32 ∷ 32 ∷ 32 ∷ 32 ∷ 32 ∷ 32 ∷ 32 ∷ 32 ∷ 32 ∷ 32 ∷ 32 ∷ 32 ∷ 32 ∷ 32 ∷ 32 ∷ 32
    ∷ 32 ∷ 32 ∷ 32 ∷ 32 ∷ 32 ∷ 32 ∷ 32 ∷ 32 ∷ 32 ∷ 32 ∷ 49 ∷ 10
    ∷ 48 ∷ 32 ∷ 32 ∷ 32 ∷ 48 ∷ 32 ∷ 83 ∷ 84 ∷ 79 ∷ 82 ∷ 69 ∷ 32 ∷ 32 ∷ 48 ∷ 32 ∷ 32 ∷ 49 ∷ 32 ∷ 32 ∷ 32 ∷ 32
    ∷ 32 ∷ 32 ∷ 32 ∷ 32 ∷ 32 ∷ 32 ∷ 32 ∷ 32 ∷ 32 ∷ 32 ∷ 55 ∷ 10
    ∷ 48 ∷ 32 ∷ 32 ∷ 32 ∷ 49 ∷ 32 ∷ 83 ∷ 75 ∷ 73 ∷ 80 ∷ 32 ∷ 32 ∷ 32 ∷ 48 ∷ 32 ∷ 32 ∷ 32 ∷ 32 ∷ 32 ∷ 32 ∷ 32
    ∷ 32 ∷ 32 ∷ 32 ∷ 32 ∷ 32 ∷ 32 ∷ 52 ∷ 32 ∷ 32 ∷ 32 ∷ 51 ∷ 10
    ∷ 48 ∷ 32 ∷ 32 ∷ 32 ∷ 50 ∷ 32 ∷ 77 ∷ 70 ∷ 69 ∷ 78 ∷ 67 ∷ 69 ∷ 32 ∷ 32 ∷ 32 ∷ 32 ∷ 32 ∷ 32 ∷ 32 ∷ 32 ∷ 32
    ∷ 32 ∷ 32 ∷ 32 ∷ 32 ∷ 32 ∷ 32 ∷ 32 ∷ 32 ∷ 32 ∷ 32 ∷ 32 ∷ 10
    ∷ 48 ∷ 32 ∷ 32 ∷ 32 ∷ 51 ∷ 32 ∷ 76 ∷ 79 ∷ 65 ∷ 68 ∷ 32 ∷ 32 ∷ 32 ∷ 48 ∷ 32 ∷ 32 ∷ 49 ∷ 32 ∷ 32 ∷ 32 ∷ 32
    ∷ 32 ∷ 32 ∷ 32 ∷ 32 ∷ 32 ∷ 32 ∷ 32 ∷ 32 ∷ 32 ∷ 32 ∷ 57 ∷ 10
    ∷ 48 ∷ 32 ∷ 32 ∷ 32 ∷ 52 ∷ 32 ∷ 77 ∷ 70 ∷ 69 ∷ 78 ∷ 67 ∷ 69 ∷ 32 ∷ 32 ∷ 32 ∷ 32 ∷ 32 ∷ 32 ∷ 32 ∷ 32 ∷ 32
    ∷ 32 ∷ 32 ∷ 32 ∷ 32 ∷ 32 ∷ 32 ∷ 32 ∷ 32 ∷ 32 ∷ 32 ∷ 32 ∷ 10
    ∷ 48 ∷ 32 ∷ 32 ∷ 32 ∷ 53 ∷ 32 ∷ 76 ∷ 79 ∷ 65 ∷ 68 ∷ 32 ∷ 32 ∷ 32 ∷ 48 ∷ 32 ∷ 32 ∷ 49 ∷ 32 ∷ 32 ∷ 32 ∷ 32
    ∷ 32 ∷ 32 ∷ 32 ∷ 32 ∷ 32 ∷ 32 ∷ 32 ∷ 32 ∷ 32 ∷ 32 ∷ 49 ∷ 10
    ∷ 50 ∷ 32 ∷ 32 ∷ 32 ∷ 48 ∷ 32 ∷ 83 ∷ 69 ∷ 84 ∷ 32 ∷ 32 ∷ 32 ∷ 32 ∷ 53 ∷ 32 ∷ 32 ∷ 32 ∷ 32 ∷ 32 ∷ 32 ∷ 32
    ∷ 32 ∷ 32 ∷ 32 ∷ 32 ∷ 50 ∷ 53 ∷ 56 ∷ 32 ∷ 32 ∷ 32 ∷ 50 ∷ 10
    ∷ []
unfolding digits decimal blank_line in_column in_columns line_in instruction_line heading_line lane_lines lines_from
    page_lines
    page_of pages_of page_text in_turn stands due due_after kernel
kernel_holds = refl

-- the n records from record i on
abbrev upward : ℕ → ℕ → List ℕ
upward zero i = []
upward (suc n) i = i ∷ upward n (suc i)

-- lanes of SET 0 to 5, of these lengths
abbrev settings : List ℕ → List (List Instr)
settings = map (λ n. replicate n (op (Set 0 5)))

-- how many bytes their pages have, and some of the lines, by number
record Example : Type 0 where
  records : List (List ℕ)
  lanes : List ℕ
  size : ℕ
  at : List ℕ
  found : List (List ℕ)

abbrev printed : Example → Example
printed e =
    let text : List ℕ = pages_of (lines_from 0 e.records (settings e.lanes)) in
    record {
      records = e.records;
      lanes = e.lanes;
      size = length text;
      at = e.at;
      found = map (line_at text) e.at;
    }

examples : List Example
examples =
    -- 55 instructions are one page
    (record {
      records = upward 55 1 ∷ [];
      lanes = 55 ∷ [];
      size = 1848;
      at = 0 ∷ 1 ∷ 55 ∷ [];
      found =
          -- "page                           1"
          (112 ∷ 97 ∷ 103 ∷ 101 ∷ 32 ∷ 32 ∷ 32 ∷ 32 ∷ 32 ∷ 32 ∷ 32 ∷ 32 ∷ 32 ∷ 32 ∷ 32 ∷ 32 ∷ 32 ∷ 32 ∷ 32
          ∷ 32 ∷ 32 ∷ 32 ∷ 32 ∷ 32 ∷ 32 ∷ 32 ∷ 32 ∷ 32 ∷ 32 ∷ 32 ∷ 32 ∷ 49 ∷ 10 ∷ [])
          -- "0   0 SET    0             5   1"
          ∷ (48 ∷ 32 ∷ 32 ∷ 32 ∷ 48 ∷ 32 ∷ 83 ∷ 69 ∷ 84 ∷ 32 ∷ 32 ∷ 32 ∷ 32 ∷ 48 ∷ 32 ∷ 32 ∷ 32 ∷ 32 ∷ 32 ∷ 32
          ∷ 32 ∷ 32 ∷ 32 ∷ 32 ∷ 32 ∷ 32 ∷ 32 ∷ 53 ∷ 32 ∷ 32 ∷ 32 ∷ 49 ∷ 10 ∷ [])
          -- "0  54 SET    0             5  55"
          ∷ (48 ∷ 32 ∷ 32 ∷ 53 ∷ 52 ∷ 32 ∷ 83 ∷ 69 ∷ 84 ∷ 32 ∷ 32 ∷ 32 ∷ 32 ∷ 48 ∷ 32 ∷ 32 ∷ 32 ∷ 32 ∷ 32 ∷ 32
          ∷ 32 ∷ 32 ∷ 32 ∷ 32 ∷ 32 ∷ 32 ∷ 32 ∷ 53 ∷ 32 ∷ 32 ∷ 53 ∷ 53 ∷ 10 ∷ [])
          ∷ [];
    })
    ∷
    -- 56 are two
    (record {
      records = upward 56 1 ∷ [];
      lanes = 56 ∷ [];
      size = 1914;
      at = 55 ∷ 56 ∷ 57 ∷ [];
      found =
          -- "0  54 SET    0             5  55"
          (48 ∷ 32 ∷ 32 ∷ 53 ∷ 52 ∷ 32 ∷ 83 ∷ 69 ∷ 84 ∷ 32 ∷ 32 ∷ 32 ∷ 32 ∷ 48 ∷ 32 ∷ 32 ∷ 32 ∷ 32 ∷ 32 ∷ 32
          ∷ 32 ∷ 32 ∷ 32 ∷ 32 ∷ 32 ∷ 32 ∷ 32 ∷ 53 ∷ 32 ∷ 32 ∷ 53 ∷ 53 ∷ 10 ∷ [])
          -- "page                           2"
          ∷ (112 ∷ 97 ∷ 103 ∷ 101 ∷ 32 ∷ 32 ∷ 32 ∷ 32 ∷ 32 ∷ 32 ∷ 32 ∷ 32 ∷ 32 ∷ 32 ∷ 32 ∷ 32 ∷ 32 ∷ 32 ∷ 32
          ∷ 32 ∷ 32 ∷ 32 ∷ 32 ∷ 32 ∷ 32 ∷ 32 ∷ 32 ∷ 32 ∷ 32 ∷ 32 ∷ 32 ∷ 50 ∷ 10 ∷ [])
          -- "0  55 SET    0             5  56"
          ∷ (48 ∷ 32 ∷ 32 ∷ 53 ∷ 53 ∷ 32 ∷ 83 ∷ 69 ∷ 84 ∷ 32 ∷ 32 ∷ 32 ∷ 32 ∷ 48 ∷ 32 ∷ 32 ∷ 32 ∷ 32 ∷ 32 ∷ 32
          ∷ 32 ∷ 32 ∷ 32 ∷ 32 ∷ 32 ∷ 32 ∷ 32 ∷ 53 ∷ 32 ∷ 32 ∷ 53 ∷ 54 ∷ 10 ∷ [])
          ∷ [];
    })
    ∷
    -- 110 are two, lanes run on
    (record {
      records = upward 50 201 ∷ [] ∷ upward 60 1 ∷ [];
      lanes = 50 ∷ 0 ∷ 60 ∷ [];
      size = 3696;
      at = 50 ∷ 51 ∷ 55 ∷ 56 ∷ 57 ∷ 111 ∷ [];
      found =
          -- "0  49 SET    0             5 250"
          (48 ∷ 32 ∷ 32 ∷ 52 ∷ 57 ∷ 32 ∷ 83 ∷ 69 ∷ 84 ∷ 32 ∷ 32 ∷ 32 ∷ 32 ∷ 48 ∷ 32 ∷ 32 ∷ 32 ∷ 32 ∷ 32 ∷ 32
          ∷ 32 ∷ 32 ∷ 32 ∷ 32 ∷ 32 ∷ 32 ∷ 32 ∷ 53 ∷ 32 ∷ 50 ∷ 53 ∷ 48 ∷ 10 ∷ [])
          -- "2   0 SET    0             5   1"
          ∷ (50 ∷ 32 ∷ 32 ∷ 32 ∷ 48 ∷ 32 ∷ 83 ∷ 69 ∷ 84 ∷ 32 ∷ 32 ∷ 32 ∷ 32 ∷ 48 ∷ 32 ∷ 32 ∷ 32 ∷ 32 ∷ 32 ∷ 32
          ∷ 32 ∷ 32 ∷ 32 ∷ 32 ∷ 32 ∷ 32 ∷ 32 ∷ 53 ∷ 32 ∷ 32 ∷ 32 ∷ 49 ∷ 10 ∷ [])
          -- "2   4 SET    0             5   5"
          ∷ (50 ∷ 32 ∷ 32 ∷ 32 ∷ 52 ∷ 32 ∷ 83 ∷ 69 ∷ 84 ∷ 32 ∷ 32 ∷ 32 ∷ 32 ∷ 48 ∷ 32 ∷ 32 ∷ 32 ∷ 32 ∷ 32 ∷ 32
          ∷ 32 ∷ 32 ∷ 32 ∷ 32 ∷ 32 ∷ 32 ∷ 32 ∷ 53 ∷ 32 ∷ 32 ∷ 32 ∷ 53 ∷ 10 ∷ [])
          -- "page                           2"
          ∷ (112 ∷ 97 ∷ 103 ∷ 101 ∷ 32 ∷ 32 ∷ 32 ∷ 32 ∷ 32 ∷ 32 ∷ 32 ∷ 32 ∷ 32 ∷ 32 ∷ 32 ∷ 32 ∷ 32 ∷ 32 ∷ 32
          ∷ 32 ∷ 32 ∷ 32 ∷ 32 ∷ 32 ∷ 32 ∷ 32 ∷ 32 ∷ 32 ∷ 32 ∷ 32 ∷ 32 ∷ 50 ∷ 10 ∷ [])
          -- "2   5 SET    0             5   6"
          ∷ (50 ∷ 32 ∷ 32 ∷ 32 ∷ 53 ∷ 32 ∷ 83 ∷ 69 ∷ 84 ∷ 32 ∷ 32 ∷ 32 ∷ 32 ∷ 48 ∷ 32 ∷ 32 ∷ 32 ∷ 32 ∷ 32 ∷ 32
          ∷ 32 ∷ 32 ∷ 32 ∷ 32 ∷ 32 ∷ 32 ∷ 32 ∷ 53 ∷ 32 ∷ 32 ∷ 32 ∷ 54 ∷ 10 ∷ [])
          -- "2  59 SET    0             5  60"
          ∷ (50 ∷ 32 ∷ 32 ∷ 53 ∷ 57 ∷ 32 ∷ 83 ∷ 69 ∷ 84 ∷ 32 ∷ 32 ∷ 32 ∷ 32 ∷ 48 ∷ 32 ∷ 32 ∷ 32 ∷ 32 ∷ 32 ∷ 32
          ∷ 32 ∷ 32 ∷ 32 ∷ 32 ∷ 32 ∷ 32 ∷ 32 ∷ 53 ∷ 32 ∷ 32 ∷ 54 ∷ 48 ∷ 10 ∷ [])
          ∷ [];
    })
    ∷
    []

examples_hold : map printed examples ≡ examples
unfolding digits decimal blank_line in_column in_columns line_in instruction_line heading_line lane_lines lines_from
    page_of
    pages_of in_turn line_at examples
examples_hold = refl

-- what a reader finds in the columns of a line: a number to the right, a name to the left, blanks for what is lacking
found_hold :
    column_in (column 19 10 Right) (instruction_line 0 0 (op (Set 7 258)) 3)
    ∷ column_in (column 7 6 Left) (instruction_line 0 0 (op (Set 7 258)) 3)
    ∷ column_in (column 30 3 Right) (instruction_line 0 0 (barrier SL) 3)
    ∷ filling (column 19 10 Right) (50 ∷ 53 ∷ 56 ∷ [])
    ∷ filling (column 7 6 Left) (83 ∷ 69 ∷ 84 ∷ [])
    ∷ filling (column 30 3 Right) []
    ∷ []
    ≡
    (32 ∷ 32 ∷ 32 ∷ 32 ∷ 32 ∷ 32 ∷ 32 ∷ 50 ∷ 53 ∷ 56 ∷ [])
    ∷ (83 ∷ 69 ∷ 84 ∷ 32 ∷ 32 ∷ 32 ∷ [])
    ∷ (32 ∷ 32 ∷ 32 ∷ [])
    ∷ (32 ∷ 32 ∷ 32 ∷ 32 ∷ 32 ∷ 32 ∷ 32 ∷ 50 ∷ 53 ∷ 56 ∷ [])
    ∷ (83 ∷ 69 ∷ 84 ∷ 32 ∷ 32 ∷ 32 ∷ [])
    ∷ (32 ∷ 32 ∷ 32 ∷ [])
    ∷ []
unfolding digits decimal blank_line in_column in_columns line_in column_in filling instruction_line
found_hold = refl
