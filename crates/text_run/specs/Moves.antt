-- The line of a move, from the instruction at which its lane stood and what was so before and after it.
use Rattle.std.specs.Prelude.{ℕ, ◌-◌, Bool, cond, List, [], ◌∷◌, ◌++◌, eqb}
use Rattle.file_format.specs.declared.accepted.Op.TheVariants.{Set, Add, Load, Store, Lock, Unlock, Skip}
use Rattle.sheet_format.specs.Layout.{Instr, op, barrier}
use Rattle.machine_spec.specs.declared.Machine.{Machine}
use Rattle.machine_record.specs.Fields.{Fields, fields_in}
use Rattle.text_put.specs.Decimal.{decimal}
use Rattle.text_put.specs.Words.{newline, named}
use Rattle.text_run.specs.Words.{lane_word, choice_word, waited_word, done_word, value_word, commits_word}
use Rattle.text_run.specs.Names.{instr_on}
use Rattle.text_run.specs.Places.{next_instr}
use Rattle.text_run.specs.Lanes.{entry_text}

-- " value V" behind a LOAD
abbrev pub loaded_text : Instr → Fields → ℕ → List ℕ
loaded_text (op (Set a c)) after t = []
loaded_text (op (Add a b)) after t = []
loaded_text (op (Load a x)) after t = named value_word (after.register t a)
loaded_text (op (Store a x)) after t = []
loaded_text (op (Lock l)) after t = []
loaded_text (op (Unlock l)) after t = []
loaded_text (op (Skip a u)) after t = []
loaded_text (barrier b) after t = []

-- the instruction that lane t carried out
abbrev pub carried_text : Machine → Instr → Fields → ℕ → List ℕ
carried_text m i after t = instr_on m i ++ loaded_text i after t

-- choice 0 carries out, k commits the k-th oldest entry
abbrev pub done_text : Machine → Instr → Fields → Fields → ℕ → ℕ → List ℕ
done_text m i before after t c =
    done_word ++ cond (eqb c 0) (carried_text m i after t) (commits_word ++ entry_text (before.entry t (c - 1)))

-- a move that waited leaves the count of moves done as it was
abbrev pub has_waited : Fields → Fields → Bool
has_waited before after = eqb before.done after.done

abbrev pub outcome_text : Machine → Instr → Fields → Fields → ℕ → ℕ → List ℕ
outcome_text m i before after t c = cond (has_waited before after) waited_word (done_text m i before after t c)

-- number of the move, lane, choice, what came of it
unfoldable pub line_by : Machine → Instr → Fields → Fields → ℕ → ℕ → ℕ → List ℕ
line_by m i before after n t c =
    decimal n ++ named lane_word t ++ named choice_word c ++ outcome_text m i before after t c ++ newline ∷ []

-- from the rows of the machine's program and the bytes of the state records
abbrev pub move_line : Machine → List ℕ → List ℕ → List ℕ → ℕ → ℕ → ℕ → List ℕ
move_line m rows before after n t c =
    line_by m (next_instr rows (fields_in before) t) (fields_in before) (fields_in after) n t c
