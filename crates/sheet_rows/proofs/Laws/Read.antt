-- Laws of a sheet's fields, which are 0 past the end, and of its rows.
use Prim.Native.Nat.{ℕ, zero, suc, ◌+◌, ◌*◌, ◌≤◌, ◌<◌}
use mathlib.Core.Path.{◌≡◌, refl, sym, ap, ◌∙◌}
use mathlib.Core.List.{List, [], ◌∷◌, ◌++◌}
use mathlib.Core.Option.{some}
use native.Mathlib.Omega.{arith}
use lib.ListN.{length, get_elem?, take, drop, get_or-eq_default}
use lib.Seq.{drop-drop}
use Rattle.file_format.specs.Fields.{byte, word, quad}
use Rattle.sheet_format.specs.Read.{read_instr, read_rows}

pub word_past : (s : List ℕ) (i : ℕ) → length s ≤ i → word s i ≡ 0
word_past s i h =
    omega (arith, get_or-eq_default s 0 {n = i} h, get_or-eq_default s 0 {n = i + 1} (omega arith))

pub quad_past : (s : List ℕ) (i : ℕ) → length s ≤ i → quad s i ≡ 0
quad_past s i h = omega (arith, word_past s i h, word_past s (i + 2) (omega arith))

-- the 32-bit field behind four bytes, from its own four
pub quad_of : (s : List ℕ) (k : ℕ) {a b c d : ℕ} → a ≡ byte s (k + 4) → b ≡ byte s (k + 5) → c ≡ byte s (k + 6)
    → d ≡ byte s (k + 7) → a + 256 * b + 65536 * (c + 256 * d) ≡ quad s (k + 4)
quad_of s k ea eb ec ed =
    let e5 : byte s (k + 5) ≡ byte s (k + 4 + 1) = ap (byte s) (omega arith) in
    let e6 : byte s (k + 6) ≡ byte s (k + 4 + 2) = ap (byte s) (omega arith) in
    let e7 : byte s (k + 7) ≡ byte s (k + 4 + 2 + 1) = ap (byte s) (omega arith) in
    omega (arith, ea, eb, ec, ed, e5, e6, e7)

-- ## n rows

pub rows_length : (n : ℕ) (s : List ℕ) → length (read_rows n s) ≡ n
rows_length zero s = refl
rows_length (suc n) s = ap suc (rows_length n (drop 8 s))

-- row p of n
pub row_of : (n : ℕ) (s : List ℕ) (p : ℕ) → p < n → get_elem? (read_rows n s) p ≡ some (read_instr (drop (8 * p) s))
row_of zero s p h = absurd (omega arith)
row_of (suc n) s zero h = refl
row_of (suc n) s (suc p) h =
    let on : 8 + 8 * p ≡ 8 * suc p = omega arith in
    row_of n (drop 8 s) p (omega arith)
    ∙ ap (λ x. some (read_instr x)) (drop-drop (8 * p) 8 s ∙ ap (λ k. drop k s) on)

-- the row that begins at a byte
pub row_from : (n first : ℕ) (s : List ℕ) (p : ℕ) → p < n
    → get_elem? (read_rows n (drop first s)) p ≡ some (read_instr (drop (first + 8 * p) s))
row_from n first s p h = row_of n (drop first s) p h ∙ ap (λ x. some (read_instr x)) (drop-drop (8 * p) first s)

-- one row more
pub rows_on : (n : ℕ) (s : List ℕ) → read_rows (suc n) s ≡ read_rows n s ++ read_instr (drop (8 * n) s) ∷ []
rows_on zero s = refl
rows_on (suc n) s =
    let e : 8 * suc n ≡ 8 + 8 * n = omega arith in
    let same : drop (8 * n) (drop 8 s) ≡ drop (8 * suc n) s = drop-drop (8 * n) 8 s ∙ ap (λ k. drop k s) (sym e) in
    ap (λ x. read_instr s ∷ x) (rows_on n (drop 8 s))
    ∙ ap (λ x. read_instr s ∷ read_rows n (drop 8 s) ++ read_instr x ∷ []) same

pub rows_take : (q n : ℕ) (s : List ℕ) → q ≤ n → take q (read_rows n s) ≡ read_rows q s
rows_take zero n s h = refl
rows_take (suc q) zero s h = absurd (omega arith)
rows_take (suc q) (suc n) s h = ap (λ x. read_instr s ∷ x) (rows_take q n (drop 8 s) (omega arith))
