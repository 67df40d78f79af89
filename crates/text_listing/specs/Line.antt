-- The lines of a listing: the first line, one for each instruction, and the line of a refusal. Names are ASCII bytes.
use Rattle.std.specs.Prelude.{ℕ, List, [], ◌∷◌, ◌++◌}
use Rattle.file_format.specs.declared.accepted.Op.{Op}
use Rattle.file_format.specs.declared.accepted.Op.TheVariants.{Set, Add, Load, Store, Lock, Unlock, Skip}
use Rattle.barrier_placement.specs.declared.cookbook.Barrier.{Barrier}
use Rattle.barrier_placement.specs.declared.cookbook.Barrier.TheVariants.{LL, LS, SS, SL}
use Rattle.sheet_format.specs.Layout.{Instr, op, barrier}
use Rattle.text_put.specs.Decimal.{decimal}
use Rattle.text_put.specs.Words.{space, newline, named}

-- "SET", "ADD", "LOAD", "STORE", "LOCK", "UNLOCK", "SKIP"
abbrev pub name_of : Op → List ℕ
name_of (Set a c) = 83 ∷ 69 ∷ 84 ∷ []
name_of (Add a b) = 65 ∷ 68 ∷ 68 ∷ []
name_of (Load a x) = 76 ∷ 79 ∷ 65 ∷ 68 ∷ []
name_of (Store a x) = 83 ∷ 84 ∷ 79 ∷ 82 ∷ 69 ∷ []
name_of (Lock l) = 76 ∷ 79 ∷ 67 ∷ 75 ∷ []
name_of (Unlock l) = 85 ∷ 78 ∷ 76 ∷ 79 ∷ 67 ∷ 75 ∷ []
name_of (Skip a t) = 83 ∷ 75 ∷ 73 ∷ 80 ∷ []

-- "LL", "LS", "SS", which a level 2 sheet does not have, and "MFENCE"
abbrev pub barrier_name : Barrier → List ℕ
barrier_name LL = 76 ∷ 76 ∷ []
barrier_name LS = 76 ∷ 83 ∷ []
barrier_name SS = 83 ∷ 83 ∷ []
barrier_name SL = 77 ∷ 70 ∷ 69 ∷ 78 ∷ 67 ∷ 69 ∷ []

-- the name of an instruction
abbrev pub instr_name : Instr → List ℕ
instr_name (op o) = name_of o
instr_name (barrier b) = barrier_name b

-- two numbers with a space between them
abbrev pub pair : ℕ → ℕ → List ℕ
pair a b = decimal a ++ space ∷ decimal b

-- a and b, or a and constant, or a and target; LOCK and UNLOCK give b alone
abbrev pub operands : Op → List ℕ
operands (Set a c) = pair a c
operands (Add a b) = pair a b
operands (Load a x) = pair a x
operands (Store a x) = pair a x
operands (Lock l) = decimal l
operands (Unlock l) = decimal l
operands (Skip a t) = pair a t

-- the name, then a space and the operands; MFENCE has none
unfoldable pub instr_text : Instr → List ℕ
instr_text (op o) = name_of o ++ space ∷ operands o
instr_text (barrier b) = barrier_name b

-- lane, position, then the instruction
unfoldable pub line_of : ℕ → ℕ → Instr → List ℕ
line_of lane position i = pair lane position ++ space ∷ instr_text i ++ newline ∷ []

-- "lanes ", " locations ", " volatile ", " locks "
abbrev pub lanes_word : List ℕ
lanes_word = 108 ∷ 97 ∷ 110 ∷ 101 ∷ 115 ∷ space ∷ []

abbrev pub locations_word : List ℕ
locations_word = space ∷ 108 ∷ 111 ∷ 99 ∷ 97 ∷ 116 ∷ 105 ∷ 111 ∷ 110 ∷ 115 ∷ space ∷ []

abbrev pub volatile_word : List ℕ
volatile_word = space ∷ 118 ∷ 111 ∷ 108 ∷ 97 ∷ 116 ∷ 105 ∷ 108 ∷ 101 ∷ space ∷ []

abbrev pub locks_word : List ℕ
locks_word = space ∷ 108 ∷ 111 ∷ 99 ∷ 107 ∷ 115 ∷ space ∷ []

-- lanes T locations L volatile V locks K
unfoldable pub first_line : ℕ → ℕ → ℕ → ℕ → List ℕ
first_line t l v k =
    named lanes_word t ++ named locations_word l ++ named volatile_word v ++ named locks_word k ++ newline ∷ []

-- "refused ", " record "
abbrev pub refused_word : List ℕ
refused_word = 114 ∷ 101 ∷ 102 ∷ 117 ∷ 115 ∷ 101 ∷ 100 ∷ space ∷ []

abbrev pub record_word : List ℕ
record_word = space ∷ 114 ∷ 101 ∷ 99 ∷ 111 ∷ 114 ∷ 100 ∷ space ∷ []

-- refused NUMBER record RECORD
unfoldable pub refusal_line : ℕ → ℕ → List ℕ
refusal_line number r = named refused_word number ++ named record_word r ++ newline ∷ []
