-- Where lane t's next instruction lies in the rows of the machine's program, and that instruction.
use Rattle.std.specs.Prelude.{ℕ, ◌+◌, ◌*◌, List, get_or, drop}
use Rattle.sheet_format.specs.Layout.{Instr}
use Rattle.sheet_format.specs.Read.{read_instr}
use Rattle.sheet_rows.specs.Rows.{parts_in}
use Rattle.machine_record.specs.Fields.{Fields}

abbrev pub next_row : List ℕ → Fields → ℕ → ℕ
next_row rows before t = get_or (parts_in rows).from t 0 + 8 * before.position t

abbrev pub next_instr : List ℕ → Fields → ℕ → Instr
next_instr rows before t = read_instr (drop (next_row rows before t) rows)
