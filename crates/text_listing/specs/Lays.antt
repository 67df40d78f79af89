-- What lays a text at the front of a buffer, and answers with the position behind it.
use Rattle.std.specs.Prelude.{ℕ, List}
use denote.Ref.{MutBor}
use Rattle.sheet_format.specs.Put.{Puts}

-- each call lays this text, as far as the buffer reaches
abbrev pub Lays : (MutBor (List ℕ) → ℕ → MutBor (List ℕ) → Type 0) → List ℕ → Type 0
Lays call text = (before after : MutBor (List ℕ)) (end : ℕ) → call before end after
    → Puts before.now 0 text after.now end
