-- Laws of rows that are written whole, and count only where they stand.
use Prim.Native.Nat.{ℕ, ◌+◌, ◌*◌}
use mathlib.Core.Path.{◌≡◌, refl, sym, ap, ap₂, subst, ◌∙◌}
use mathlib.Core.Bool.{Bool, true, false}
use mathlib.Core.List.{List, [], ◌++◌, append-nil}
use native.Mathlib.Omega.{arith}
use lib.ListN.{length, length-append}
use lib.Seq.{sets, length-sets}
use mir.Val.{bool_byte}
use Rattle.laws.proofs.Parts.{sets_over, sets_on}
use Rattle.sheet_format.specs.Bytes.{row}
use Rattle.sheet_format.specs.Put.{Puts}
use Rattle.sheet_lanes.specs.Put.{row_if, Begins}

pub row_size : (b : Bool) (code at : ℕ) → at + 8 * bool_byte b ≡ at + length (row_if b code)
row_size true code at = refl
row_size false code at = refl

pub begins_none : {l : List ℕ} {i : ℕ} → Begins l i [] l i
begins_none {l} {i} = record { rest = []; short = omega arith; bytes = refl; behind = omega arith }

pub begins_length : {l m x : List ℕ} {i j : ℕ} → Begins l i x m j → length m ≡ length l
begins_length {l} {m} {x} {i} {j} p =
    ap length p.bytes ∙ length-sets (sets l i x) j p.rest ∙ length-sets l i x

-- a text by another name
pub begins_as : {l m x y : List ℕ} {i j : ℕ} → x ≡ y → Begins l i x m j → Begins l i y m j
begins_as {l} {m} {i = i} {j = j} e p = subst (λ z. Begins l i z m j) e p

module _ {l m x : List ℕ} {i j : ℕ} (p : Begins l i x m j) where
  -- what follows is written over the bytes that do not count
  over_rest : {n : List ℕ} (y : List ℕ) → length y ≡ 8 → n ≡ sets m j y → n ≡ sets (sets l i x) j y
  over_rest y size e =
      e ∙ ap (λ z. sets z j y) p.bytes ∙ sets_over (sets l i x) j p.rest y (omega (arith, p.short))

  behind_it : (y : List ℕ) → sets (sets l i x) j y ≡ sets l i (x ++ y)
  behind_it y = ap (λ k. sets (sets l i x) k y) p.behind ∙ sets_on l i x y

  -- a row that counts or not
  pub begins_row : (b : Bool) (code : ℕ) {n : List ℕ} {k : ℕ} → n ≡ sets m j (row code 0 0 0)
      → k ≡ j + length (row_if b code) → Begins l i (x ++ row_if b code) n k
  begins_row true code e behind = record {
    rest = [];
    short = omega arith;
    bytes = over_rest (row code 0 0 0) refl e ∙ behind_it (row code 0 0 0);
    behind = omega (arith, behind, p.behind, length-append x (row code 0 0 0));
  }
  begins_row false code {n} {k} e behind =
      let same : j ≡ k = omega (arith, behind) in
      record {
        rest = row code 0 0 0;
        short = omega arith;
        bytes =
            over_rest (row code 0 0 0) refl e
            ∙ ap₂ (λ z t. sets (sets l i z) t (row code 0 0 0)) (sym (append-nil x)) same;
        behind = omega (arith, behind, p.behind, ap length (append-nil x));
      }

  -- the last row
  pub begins_last : {n : List ℕ} (y : List ℕ) → length y ≡ 8 → n ≡ sets m j y → Puts l i (x ++ y) n (j + 8)
  begins_last y size e = record {
    bytes = over_rest y size e ∙ behind_it y;
    behind = omega (arith, size, p.behind, length-append x y);
  }
