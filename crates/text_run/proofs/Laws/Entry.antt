-- Laws of the text of an entry.
use Prim.Native.Nat.{ℕ, ◌+◌}
use mathlib.Core.Path.{◌≡◌, refl}
use mathlib.Core.List.{List, ◌++◌}
use borrow.Author.Tests.{eq-eqb, ne_eqb}
use Rattle.file_format.specs.Fields.{byte, quad}
use Rattle.text_put.specs.Words.{named}
use Rattle.text_run.specs.Words.{location_word, value_word, release_word}
use Rattle.machine_record.specs.Fields.{entry_in}
use Rattle.text_run.specs.Lanes.{entry_text}

module _ (s : List ℕ) (from : ℕ) {place : ℕ} (p : place ≡ byte s (from + 1)) where
  pub entry_store : {value : ℕ} → byte s from ≡ 1 → value ≡ quad s (from + 4)
      → named location_word place ++ named value_word value ≡ entry_text (entry_in s from)
  entry_store e v = rw (eq-eqb (byte s from) 1 e, p, v) refl

  pub entry_release : (byte s from ≡ 1 → ⊥) → named release_word place ≡ entry_text (entry_in s from)
  entry_release e = rw (ne_eqb (byte s from) 1 e, p) refl
