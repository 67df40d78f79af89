-- `text_page::line::fields_in` meets its contract, by the kinds whose instructions have the same fields.
use Prim.Native.Nat.{ℕ}
use mathlib.Core.Path.{◌≡◌, refl}
use mathlib.Core.List.{List}
use lib.ListN.{drop}
use Rattle.sheet_format.specs.Layout.{Instr}
use Rattle.sheet_format.proofs.Laws.Codes.{word_kinds, pair_kinds, lock_kinds, barrier_kinds}
use Rattle.text_page.specs.Columns.{in_column, in_columns}
use Rattle.text_page.specs.Lines.{columns, field_texts}
use Rattle.text_page.proofs.line.fields_in.Goals as goal

-- an instruction's fields and record r laid into a line
abbrev Laid : List ℕ → List ℕ → ℕ → Instr → Type 0
Laid line after r i = after ≡ in_columns line (drop 3 columns) (field_texts i r)

pub returns-in-Set : goal.returns-in-Set
unfolding in_column in_columns
returns-in-Set c =
    word_kinds (Laid c.args.line.now _ c.args.rec) c.args.code c.args.a c.args.b c.args.word
    c.from.ensures c.in-Set.is c.pair_in.ensures c.pair_in.ensures

pub returns-in-Add : goal.returns-in-Add
unfolding in_column in_columns
returns-in-Add c =
    pair_kinds (Laid c.args.line.now _ c.args.rec) c.args.code c.args.a c.args.b c.args.word
    c.from.ensures c.in-Add.is c.pair_in-in-Add.ensures c.pair_in-in-Add.ensures c.pair_in-in-Add.ensures

pub returns-in-Lock : goal.returns-in-Lock
unfolding in_column in_columns
returns-in-Lock c =
    lock_kinds (Laid c.args.line.now _ c.args.rec) c.args.code c.args.a c.args.b c.args.word
    c.from.ensures c.in-Lock.is c.number_in.ensures c.number_in.ensures

pub returns-in-LL : goal.returns-in-LL
unfolding in_columns
returns-in-LL c =
    barrier_kinds (Laid c.args.line.now _ c.args.rec) c.args.code c.args.a c.args.b c.args.word
    c.from.ensures c.in-LL.is (λ k e. refl)
