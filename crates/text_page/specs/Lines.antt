-- The lines of a kernel's instructions at level 2, each with the record that it comes from.
use Rattle.std.specs.Prelude.{ℕ, suc, List, [], ◌∷◌, ◌++◌, get_or, drop}
use Rattle.file_format.specs.declared.accepted.Op.{Op}
use Rattle.file_format.specs.declared.accepted.Op.TheVariants.{Set, Add, Load, Store, Lock, Unlock, Skip}
use Rattle.file_format.specs.Accepted.{Program}
use Rattle.sheet_format.specs.Layout.{Instr, op, barrier}
use Rattle.sheet_format.specs.declared.Level.TheVariants.{Level2}
use Rattle.sheet_format.specs.Levels.{sheet_lanes}
use Rattle.text_put.specs.Decimal.{decimal}
use Rattle.text_listing.specs.Line.{instr_name}
use Rattle.text_page.specs.declared.column.Side.TheVariants.{Left, Right}
use Rattle.text_page.specs.declared.column.Column.{Column}
use Rattle.text_page.specs.Columns.{column, line_in}

-- column 1 is the lane; 3-5 the position; 7-12 the name; 14 register a; 16-17 operand b; 19-28 the constant or skip
-- position; 30-32 the source record
abbrev pub columns : List Column
columns =
    column 1 1 Right
    ∷ column 3 3 Right
    ∷ column 7 6 Left
    ∷ column 14 1 Right
    ∷ column 16 2 Right
    ∷ column 19 10 Right
    ∷ column 30 3 Right
    ∷ []

-- register a, operand b, the constant or skip position; a field that the operation lacks is empty
abbrev pub operand_texts : Op → List (List ℕ)
operand_texts (Set a c) = decimal a ∷ [] ∷ decimal c ∷ []
operand_texts (Add a b) = decimal a ∷ decimal b ∷ [] ∷ []
operand_texts (Load a x) = decimal a ∷ decimal x ∷ [] ∷ []
operand_texts (Store a x) = decimal a ∷ decimal x ∷ [] ∷ []
operand_texts (Lock l) = [] ∷ decimal l ∷ [] ∷ []
operand_texts (Unlock l) = [] ∷ decimal l ∷ [] ∷ []
operand_texts (Skip a t) = decimal a ∷ [] ∷ decimal t ∷ []

-- the same, and the record; MFENCE has none of them
abbrev pub field_texts : Instr → ℕ → List (List ℕ)
field_texts (op o) r = operand_texts o ++ decimal r ∷ []
field_texts (barrier b) r = []

-- the line of an instruction of a lane at a position, which comes from record r if it is an operation
unfoldable pub instruction_line : ℕ → ℕ → Instr → ℕ → List ℕ
instruction_line lane position i r =
    line_in columns (decimal lane ∷ decimal position ∷ instr_name i ∷ field_texts i r)

-- an operation takes a record, a barrier none
abbrev pub takes : Instr → ℕ
takes (op o) = 1
takes (barrier b) = 0

-- the lines of a lane's instructions, the first of which stands at a position; its operations have these records
unfoldable pub lane_lines : ℕ → ℕ → List ℕ → List Instr → List (List ℕ)
lane_lines lane position rs [] = []
lane_lines lane position rs (i ∷ is) =
    instruction_line lane position i (get_or rs 0 0) ∷ lane_lines lane (suc position) (drop (takes i) rs) is

-- lane after lane, each from position 0
unfoldable pub lines_from : ℕ → List (List ℕ) → List (List Instr) → List (List ℕ)
lines_from lane records [] = []
lines_from lane records (is ∷ lanes) =
    lane_lines lane 0 (get_or records 0 []) is ++ lines_from (suc lane) (drop 1 records) lanes

-- the lines of the instructions of a kernel's level 2 sheet
unfoldable pub page_lines : Program → List (List ℕ)
page_lines k = lines_from 0 k.records (sheet_lanes Level2 k)
