-- The text of a lane at the end of a run: its line, a line for each pending entry, and a line for each mark.
use Rattle.std.specs.Prelude.{ℕ, ◌+◌, ◌*◌, Bool, cond, List, [], ◌∷◌, ◌++◌}
use Rattle.file_format.specs.Fields.{byte, quad}
use Rattle.sheet_format.specs.Put.{in_turn}
use Rattle.machine_spec.specs.Entries.{Entry, write, release}
use Rattle.machine_record.specs.Fields.{Fields}
use Rattle.text_put.specs.Decimal.{decimal}
use Rattle.text_put.specs.Words.{space, newline, named}
use Rattle.text_run.specs.declared.numbers.Width.{Width}
use Rattle.text_run.specs.declared.numbers.Width.TheVariants.{Byte, Quad}
use Rattle.text_run.specs.Words.{lane_start, position_word, registers_word, pending_word, mark_word}
use Rattle.text_run.specs.Words.{location_word, value_word, release_word}

-- n numbers, each behind a space
abbrev pub spaced : (ℕ → ℕ) → ℕ → List ℕ
spaced f n = in_turn (λ i. space ∷ decimal (f i)) n

-- the end of a line: a word, and n numbers
abbrev pub numbers_line : List ℕ → (ℕ → ℕ) → ℕ → List ℕ
numbers_line w f n = w ++ spaced f n ++ newline ∷ []

-- number i of those that lie from `base` on: a byte, or of 32 bits
abbrev pub number_at : List ℕ → ℕ → Width → ℕ → ℕ
number_at s base Byte i = byte s (base + i)
number_at s base Quad i = quad s (base + 4 * i)

abbrev pub entry_text : Entry → List ℕ
entry_text (write x v) = named location_word x ++ named value_word v
entry_text (release l) = named release_word l

abbrev pub lane_line : Fields → ℕ → List ℕ
lane_line f t =
    named lane_start t ++ named position_word (f.position t) ++ numbers_line registers_word (f.register t) 8

abbrev pub mark_line : ℕ → List ℕ
mark_line t = named lane_start t ++ (pending_word ++ mark_word ++ newline ∷ [])

-- the line of the mark, where one stands directly behind an entry
abbrev pub mark_text : Bool → ℕ → List ℕ
mark_text marked t = cond marked (mark_line t) []

abbrev pub pending_line : Fields → ℕ → ℕ → List ℕ
pending_line f t i =
    named lane_start t ++ pending_word ++ entry_text (f.entry t i) ++ newline ∷ [] ++ mark_text (f.mark t i) t

-- a lane and its pending entries with their marks, oldest first
unfoldable pub lane_text : Fields → ℕ → List ℕ
lane_text f t = lane_line f t ++ in_turn (pending_line f t) (f.count t)
