-- The line of a move, from what the machine does: the instruction or the entry that its lane chose, and the turn.
use Rattle.std.specs.Prelude.{ℕ, zero, suc, ◌+◌, ◌*◌, ◌<◌, ◌≡◌, Bool, List, [], ◌∷◌, ◌++◌, get_or, drop}
use Rattle.std.proofs.Math.Option.{Option, none, some}
use Rattle.std.proofs.Math.ListN.{get_elem?}
use Rattle.file_format.specs.declared.accepted.Op.TheVariants.{Load}
use Rattle.sheet_format.specs.Layout.{Instr, op}
use Rattle.sheet_format.specs.Read.{read_instr}
use Rattle.machine_spec.specs.Entries.{Entry}
use Rattle.machine_spec.specs.declared.Machine.{Machine}
use Rattle.machine_spec.specs.Step.{Turn, waits, refuses, passes, does}
use Rattle.machine_spec.specs.Schedule.{Move}
use Rattle.machine_spec.specs.State.{Lane, State, lane_at, move_turn}
use Rattle.sheet_rows.specs.Rows.{parts_in}
use Rattle.text_put.specs.Decimal.{decimal}
use Rattle.text_put.specs.Words.{newline, named}
use Rattle.text_run.specs.Words.{lane_word, choice_word, waited_word, done_word, value_word, commits_word}
use Rattle.text_run.specs.Names.{instr_on}
use Rattle.text_run.specs.Lanes.{entry_text}

abbrev pub carried : Machine → Option Instr → List ℕ
carried m none = []
carried m (some i) = instr_on m i

abbrev pub committed : Option Entry → List ℕ
committed none = []
committed (some e) = commits_word ++ entry_text e

-- choice 0 is the lane's next instruction, k its k-th oldest entry
abbrev pub chosen : Machine → List Instr → Lane → ℕ → List ℕ
chosen m prog l zero = carried m (get_elem? prog l.control.pos)
chosen m prog l (suc i) = committed (get_elem? l.pending i)

-- the value that a LOAD took
abbrev pub taken : Option ℕ → List ℕ
taken none = []
taken (some v) = named value_word v

-- what came of a choice; a run that is refused tells none of its moves
abbrev pub turn_text : Turn → List ℕ → List ℕ
turn_text waits x = waited_word
turn_text refuses x = []
turn_text (passes k c) x = done_word ++ x
turn_text (does k c v) x = done_word ++ (x ++ taken v)

-- move n of a schedule, in the state s
abbrev pub move_told : Machine → (ℕ → Bool) → List (List Instr) → State → ℕ → Move → List ℕ
move_told m vol prog s n mv =
    decimal n ++ named lane_word mv.lane ++ named choice_word mv.choice
    ++ turn_text (move_turn m vol prog s mv) (chosen m (get_or prog mv.lane []) (lane_at s mv.lane) mv.choice)
    ++ newline ∷ []

-- lane t's program lies in the rows, and its LOADs name registers
pub record RowsOf (rows : List ℕ) (prog : List (List Instr)) (t : ℕ) : Type 0 where
  pub row : (p : ℕ) (i : Instr) → get_elem? (get_or prog t []) p ≡ some i
      → read_instr (drop (get_or (parts_in rows).from t 0 + 8 * p) rows) ≡ i
  pub register : (p a x : ℕ) → get_elem? (get_or prog t []) p ≡ some (op (Load a x)) → a < 8
