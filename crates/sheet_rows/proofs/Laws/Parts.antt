-- Laws of the parts of a sheet: each lane's rows lie where its part says.
use Prim.Native.Nat.{ℕ, zero, suc, ◌+◌, ◌*◌, ◌<◌, ◌≤◌}
use mathlib.Core.Path.{◌≡◌, refl, sym, ap, ap₂, ◌∙◌}
use mathlib.Core.List.{List, [], ◌∷◌}
use native.Mathlib.Omega.{arith}
use lib.ListN.{get_or, drop, length-take, get_or-eq_default}
use lib.Seq.{drop-drop, get_or-take}
use Rattle.laws.proofs.Numbers.{below_four}
use Rattle.file_format.specs.Fields.{word}
use Rattle.file_format.proofs.Laws.Lanes.{head_at}
use Rattle.sheet_format.specs.Read.{read_rows, past_rows, read_lanes, counts, read_sheet}
use Rattle.sheet_rows.specs.Rows.{count_at, parts_in}

-- the count of one of the header's lanes, and of one that is not there
pub count_in_lem : (s : List ℕ) (t : ℕ) → t < 4 → t < get_or s 0 0 → word s (8 + 2 * t) ≡ count_at s t
count_in_lem s t h l =
    sym (get_or-take (get_or s 0 0) (word s 8 ∷ word s 10 ∷ word s 12 ∷ word s 14 ∷ []) t 0 l ∙ head_at s t h)

pub count_none : (s : List ℕ) (t : ℕ) → get_or s 0 0 ≤ t → 0 ≡ count_at s t
count_none s t h =
    sym (get_or-eq_default (counts s) 0
    (omega (arith, length-take (get_or s 0 0) (word s 8 ∷ word s 10 ∷ word s 12 ∷ word s 14 ∷ []))))

pub past : (n : ℕ) (s : List ℕ) → past_rows n s ≡ drop (8 * n) s
past zero s = refl
past (suc n) s =
    let e : 8 * suc n ≡ 8 + 8 * n = omega arith in
    past n (drop 8 s) ∙ drop-drop (8 * n) 8 s ∙ ap (λ k. drop k s) (sym e)

-- the rows before lane t
abbrev pub before : List ℕ → ℕ → ℕ
before ns zero = 0
before [] (suc t) = 0
before (n ∷ ns) (suc t) = n + before ns t

lane_in_lem : (ns s : List ℕ) (t : ℕ)
    → get_or (read_lanes ns s) t [] ≡ read_rows (get_or ns t 0) (drop (8 * before ns t) s)
lane_in_lem [] s zero = refl
lane_in_lem [] s (suc t) = refl
lane_in_lem (n ∷ ns) s zero = refl
lane_in_lem (n ∷ ns) s (suc t) =
    let e : 8 * (n + before ns t) ≡ 8 * n + 8 * before ns t = omega arith in
    lane_in_lem ns (past_rows n s) t
    ∙ ap (λ x. read_rows (get_or ns t 0) (drop (8 * before ns t) x)) (past n s)
    ∙ ap (read_rows (get_or ns t 0)) (drop-drop (8 * before ns t) (8 * n) s ∙ ap (λ k. drop k s) (sym e))

before_suc : (ns : List ℕ) (t : ℕ) → before ns (suc t) ≡ before ns t + get_or ns t 0
before_suc [] zero = refl
before_suc [] (suc t) = refl
before_suc (n ∷ ns) zero = omega arith
before_suc (n ∷ ns) (suc t) = omega (arith, before_suc ns t)

pub begins : (s : List ℕ) (t : ℕ) → t < 4 → get_or (parts_in s).from t 0 ≡ 16 + 8 * before (counts s) t
begins s =
    let one = before_suc (counts s) 0 in
    let two = before_suc (counts s) 1 in
    below_four (λ t. get_or (parts_in s).from t 0 ≡ 16 + 8 * before (counts s) t) refl (omega (arith, one))
    (omega (arith, one, two)) (omega (arith, one, two, before_suc (counts s) 2))

pub many : (s : List ℕ) (t : ℕ) → t < 4 → get_or (parts_in s).count t 0 ≡ count_at s t
many s = below_four (λ t. get_or (parts_in s).count t 0 ≡ count_at s t) refl refl refl refl

-- lane t of the sheet is read where its part lies
pub lane_rows_lem : (s : List ℕ) (t : ℕ) → t < 4
    → get_or (read_sheet s) t [] ≡ read_rows (get_or (parts_in s).count t 0) (drop (get_or (parts_in s).from t 0) s)
unfolding read_sheet
lane_rows_lem s t h =
    lane_in_lem (counts s) (drop 16 s) t
    ∙ ap₂ read_rows (sym (many s t h))
    (drop-drop (8 * before (counts s) t) 16 s ∙ ap (λ k. drop k s) (sym (begins s t h)))
