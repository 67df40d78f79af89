-- The text of a level 2 sheet: of a kernel, and of the bytes of a sheet with the kernel's mask.
use Rattle.std.specs.Prelude.{ℕ, suc, List, [], ◌∷◌, ◌++◌, length, get_or}
use Rattle.file_format.specs.Accepted.{Program}
use Rattle.file_verdict.specs.Verdict.{number_of, record_of, Verdict, refused, accepted, verdict}
use Rattle.sheet_format.specs.Layout.{Instr}
use Rattle.sheet_format.specs.declared.Level.TheVariants.{Level2}
use Rattle.sheet_format.specs.Levels.{sheet_lanes}
use Rattle.sheet_format.specs.Read.{read_sheet}
use Rattle.text_listing.specs.Line.{line_of, first_line, refusal_line}
use Rattle.text_listing.specs.Ones.{ones}

-- a lane's instructions, the first of which stands at a position
unfoldable pub lane_lines : ℕ → ℕ → List Instr → List ℕ
lane_lines lane position [] = []
lane_lines lane position (i ∷ is) = line_of lane position i ++ lane_lines lane (suc position) is

-- lane after lane, each from position 0
unfoldable pub sheet_lines : ℕ → List (List Instr) → List ℕ
sheet_lines lane [] = []
sheet_lines lane (is ∷ rest) = lane_lines lane 0 is ++ sheet_lines (suc lane) rest

-- The listing of an accepted kernel. The level 2 mask is zero: the volatile locations are the kernel's.
unfoldable pub listing : Program → List ℕ
listing k =
    first_line (length k.lanes) k.locations (ones k.mask) k.locks ++ sheet_lines 0 (sheet_lanes Level2 k)

-- what is printed of a kernel file: the line of its refusal, or a text of the kernel
abbrev pub printed_by : (Program → List ℕ) → Verdict → List ℕ
printed_by text (refused r) = refusal_line (number_of r) (record_of r)
printed_by text (accepted k) = text k

abbrev pub printed : List ℕ → List ℕ
printed s = printed_by listing (verdict s)

-- the same of the bytes of a sheet, which do not have the kernel's mask
unfoldable pub sheet_text : List ℕ → ℕ → List ℕ
sheet_text b mask = first_line (get_or b 0 0) (get_or b 1 0) (ones mask) (get_or b 2 0) ++ sheet_lines 0 (read_sheet b)
