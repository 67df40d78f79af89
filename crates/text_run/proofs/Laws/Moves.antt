-- Laws of the line of a move, by what its tests find.
use Prim.Native.Nat.{ℕ}
use mathlib.Core.Path.{◌≡◌, refl, ap, ◌∙◌}
use mathlib.Core.Bool.{Bool, true, false, cond}
use mathlib.Core.List.{List, [], ◌++◌}
use lib.Dec.{eqb}
use lib.ListN.{drop}
use borrow.Author.Tests.{eqb-true}
use Rattle.sheet_rows.specs.declared.read.Row.{Row}
use Rattle.sheet_rows.specs.Rows.{row_in}
use Rattle.sheet_format.specs.Layout.{Instr}
use Rattle.sheet_format.specs.Read.{instr_by, read_instr}
use Rattle.machine_spec.specs.declared.Machine.{Machine}
use Rattle.machine_record.specs.Fields.{Fields}
use Rattle.text_put.specs.Words.{named}
use Rattle.text_run.specs.Words.{value_word}
use Rattle.text_run.specs.Names.{instr_on}
use Rattle.text_run.specs.Places.{next_row, next_instr}
use Rattle.text_run.specs.Moves.{loaded_text, carried_text}

module _ (a b w : ℕ) (f : Fields) (t : ℕ) where
  -- code 3 is LOAD
  pub loaded_value : {o value : ℕ} → o ≡ 3 → value ≡ f.register t a
      → named value_word value ≡ loaded_text (instr_by o a b w) f t
  loaded_value e v = rw (e, v) refl

  abbrev None : Instr → Type 0
  None i = [] ≡ loaded_text i f t

  either : (u : Bool) (x y : Instr) → (u ≡ true → None x) → None y → None (cond u x y)
  either true x y p q = p refl
  either false x y p q = q

  pub loaded_none : (o : ℕ) → (o ≡ 3 → ⊥) → None (instr_by o a b w)
  loaded_none o n3 =
      either (eqb o 1) _ _ (λ e. refl)
      (either (eqb o 2) _ _ (λ e. refl)
      (either (eqb o 3) _ _ (λ e. absurd (n3 (eqb-true o 3 e)))
      (either (eqb o 4) _ _ (λ e. refl)
      (either (eqb o 5) _ _ (λ e. refl)
      (either (eqb o 6) _ _ (λ e. refl)
      (either (eqb o 7) _ _ (λ e. refl) refl))))))

-- the instruction, from its row, and what it loaded
pub carried_row : (m : Machine) (rows : List ℕ) (before after : Fields) (t : ℕ) {from : ℕ} {row : Row}
    → from ≡ next_row rows before t → row ≡ row_in (drop from rows)
    → instr_on m (instr_by row.code row.a row.b row.word)
    ++ loaded_text (instr_by row.code row.a row.b row.word) after t
    ≡ carried_text m (next_instr rows before t) after t
carried_row m rows before after t {from} {row} e r =
    ap (λ (y : Row). carried_text m (instr_by y.code y.a y.b y.word) after t) r
    ∙ ap (λ k. carried_text m (read_instr (drop k rows)) after t) e
