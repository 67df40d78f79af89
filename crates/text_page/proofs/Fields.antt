-- Each text of a lawful kernel's lines, and of a heading, fits its column: theorems `line_fits` and `heading_fits`.
use Prim.Native.Nat.{ℕ, ◌≤◌, ◌<◌}
use mathlib.Core.Path.{◌≡◌, sym, ap, ◌∙◌, subst}
use mathlib.Core.Logic.{◌⊎◌, inl, inr}
use mathlib.Core.Bool.{Bool}
use mathlib.Core.List.{List, [], ◌∷◌}
use mathlib.Core.Option.{some}
use native.Mathlib.Omega.{arith}
use lib.ListN.{length, get_or, get_elem?, drop, get_or-map, get_or-eq_default}
use Rattle.laws.proofs.Numbers.{lt_or_le}
use Rattle.laws.proofs.Lists.{some_at}
use Rattle.file_format.specs.declared.accepted.Op.{Op}
use Rattle.file_format.specs.declared.accepted.Op.TheVariants.{Set, Add, Load, Store, Lock, Unlock, Skip}
use Rattle.file_format.specs.Accepted.{Program}
use Rattle.file_format.specs.Lawful.{Bounded, Lawful}
use Rattle.barrier_placement.specs.Steps.{steps}
use Rattle.barrier_placement.specs.Layout.{start}
use Rattle.sheet_format.specs.Layout.{Instr, op, aim, sheet}
use Rattle.sheet_format.specs.declared.Level.TheVariants.{Level2}
use Rattle.sheet_format.specs.Levels.{placed, placed_lanes, sheet_lanes, volatile_in}
use Rattle.sheet_format.proofs.Laws.Cells.{Each, each_at, cells_each, lane_start_lem}
use Rattle.sheet_format.proofs.Sizes.{lane_few}
use Rattle.text_put.specs.Decimal.{decimal}
use Rattle.text_put.proofs.Laws.Decimal.{decimal_within, decimal_few}
use Rattle.text_page.specs.Columns.{Apart, Fitting}
use Rattle.text_listing.specs.Line.{instr_name}
use Rattle.text_listing.proofs.Laws.Line.{name_few}
use Rattle.text_page.specs.Lines.{columns, field_texts}
use Rattle.text_page.specs.Pages.{page_word, heading_columns}
use Rattle.text_page.proofs.Laws.Ranks.{lanes_count}

-- ## columns and heading

pub columns_apart : Apart 1 columns
columns_apart =
    (omega arith, (omega arith, (omega arith, (omega arith, (omega arith, (omega arith, (omega arith, omega arith)))))))

pub heading_apart : Apart 1 heading_columns
heading_apart = (omega arith, (omega arith, omega arith))

pub heading_fits : (n : ℕ) → n < 1000 → Fitting heading_columns (page_word ∷ decimal n ∷ [])
heading_fits n h = (omega arith, (decimal_within 2 n h, tt))

-- ## an instruction's fields

one_digit : (n : ℕ) → n < 8 → length (decimal n) ≤ 1
one_digit n h = decimal_within 0 n (omega arith)

two_digits : (n : ℕ) → n < 16 → length (decimal n) ≤ 2
two_digits n h = decimal_within 1 n (omega arith)

-- the texts of its fields and of record r fit their columns
abbrev Narrow : ℕ → Instr → Type 0
Narrow r i = Fitting (drop 3 columns) (field_texts i r)

module _ (r : ℕ) (small : r ≤ 256) where
  record_few : length (decimal r) ≤ 3
  record_few = decimal_within 2 r (omega arith)

  op_narrow : (at : ℕ → ℕ) (ls ks n p : ℕ) (o : Op) → ls ≤ 16 → ks ≤ 4 → Bounded ls ks n p o
      → ((t : ℕ) → at t ≤ 128) → Narrow r (op (aim at o))
  op_narrow at ls ks n p (Set a c) wl wk h near =
      (one_digit a h.0, (omega arith, (decimal_few c h.1, (record_few, tt))))
  op_narrow at ls ks n p (Add a b) wl wk h near =
      (one_digit a h.0, (two_digits b (omega (arith, h.1)), (omega arith, (record_few, tt))))
  op_narrow at ls ks n p (Load a x) wl wk h near =
      (one_digit a h.0, (two_digits x (omega (arith, h.1)), (omega arith, (record_few, tt))))
  op_narrow at ls ks n p (Store a x) wl wk h near =
      (one_digit a h.0, (two_digits x (omega (arith, h.1)), (omega arith, (record_few, tt))))
  op_narrow at ls ks n p (Lock l) wl wk h near =
      (omega arith, (two_digits l (omega arith), (omega arith, (record_few, tt))))
  op_narrow at ls ks n p (Unlock l) wl wk h near =
      (omega arith, (two_digits l (omega arith), (omega arith, (record_few, tt))))
  op_narrow at ls ks n p (Skip a t) wl wk h near =
      (one_digit a h.0, (omega arith, (decimal_few (at t) (omega (arith, near t)), (record_few, tt))))

  lane_narrow : (k : Program) → Lawful k → (t : ℕ) → Each (Narrow r) (get_or (sheet_lanes Level2 k) t [])
  lane_narrow k w t =
      subst (Each (Narrow r)) (sym lane) (cells_each Level2 (steps vol os) at (Narrow r) (λ b. tt) os 0 narrow)
    where
      vol : ℕ → Bool
      vol = volatile_in k

      os : List Op
      os = get_or k.lanes t []

      at : ℕ → ℕ
      at = start (placed Level2 vol os)

      narrow : (i : ℕ) (o : Op) → get_elem? os i ≡ some o → Narrow r (op (aim at o))
      narrow i o e =
          op_narrow at k.locations k.locks (length os) i o w.few_locations w.few_locks
          ((w.lane t).bounded i o e) (lane_start_lem Level2 vol os (w.lane t).short)

      lane : get_or (sheet_lanes Level2 k) t [] ≡ sheet (placed Level2 vol os)
      lane =
          get_or-map sheet (placed_lanes Level2 k) t []
          ∙ ap sheet (get_or-map (placed Level2 vol) k.lanes t [])

-- ## a line

-- a lane that has an instruction is one of at most four
lane_below : (k : Program) → Lawful k → (t : ℕ) → 0 < length (get_or (sheet_lanes Level2 k) t []) → t < 4
lane_below k w t any = go (lt_or_le t (length (sheet_lanes Level2 k)))
  where
    go : (t < length (sheet_lanes Level2 k)) ⊎ (length (sheet_lanes Level2 k) ≤ t) → t < 4
    go (inl h) = omega (arith, w.few_lanes, lanes_count k)
    go (inr h) = absurd (omega (arith, ap length (get_or-eq_default (sheet_lanes Level2 k) [] h)))

pub line_fits : (k : Program) → Lawful k → (t p : ℕ) (i : Instr) (r : ℕ)
    → get_elem? (get_or (sheet_lanes Level2 k) t []) p ≡ some i → r ≤ 256
    → Fitting columns (decimal t ∷ decimal p ∷ instr_name i ∷ field_texts i r)
line_fits k w t p i r e small =
    let is : List Instr = get_or (sheet_lanes Level2 k) t [] in
    let here : p < length is = (some_at is p i i e).0 in
    let lane : t < 4 = lane_below k w t (omega arith) in
    let position : p < 1000 = omega (arith, lane_few Level2 k w t) in
    let fields = each_at (Narrow r) is (lane_narrow r small k w t) p i e in
    (one_digit t (omega arith), (decimal_within 2 p position, (name_few i, fields)))
