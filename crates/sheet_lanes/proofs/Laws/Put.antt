-- Laws of a row and the barriers before it, as the code writes them.
use Prim.Native.Nat.{ℕ, ◌+◌, ◌*◌, ◌/◌, ◌%◌, ◌^◌, ◌≤◌, ◌<◌}
use mathlib.Core.Path.{◌≡◌, refl, sym, ap, ap₂, ◌∙◌}
use mathlib.Core.Bool.{Bool, true, false, not, ◌&&◌, cond, true≢false, and-false}
use mathlib.Core.List.{List, ◌++◌}
use native.Mathlib.Omega.{arith}
use lib.Dec.{eqb}
use lib.ListN.{length, get_or, take, drop, length-append, length-drop, take-append-drop}
use lib.Seq.{sets, length-take-le}
use borrow.Author.Tests.{ne_eqb, eqb-true}
use Rattle.laws.proofs.Bools.{by_test, cond_by}
use Rattle.laws.proofs.Numbers.{below_four, values, values_at}
use Rattle.laws.proofs.Parts.{get_d_behind, sets_on, sets_over}
use Rattle.file_format.specs.Fields.{byte}
use Rattle.barrier_placement.specs.declared.cookbook.Barrier.TheVariants.{SS, SL}
use Rattle.barrier_placement.specs.Placed.{bit}
use Rattle.sheet_format.specs.declared.Level.{Level}
use Rattle.sheet_format.specs.declared.Level.TheVariants.{Level0, Level1, Level2, Level3}
use Rattle.sheet_format.specs.Bytes.{quad_bytes, row, barrier_code}
use Rattle.barrier_pass.specs.Plan.{fence_in, kept_in}
use Rattle.sheet_lanes.specs.Put.{beginning, row_if, load_rows, store_rows, barrier_rows, store_code, CodesOf, Single}
use Rattle.sheet_lanes.specs.Put.{own_row, step_rows}

-- ## the barriers

-- one row of two, by a number below 4 that has not both bits
either_row : (c y : ℕ) → y < 4 → (bit y 0 && bit y 1) ≡ false
    → row_if (not (eqb y 0)) (c + y / 2) ≡ row_if (bit y 0) c ++ row_if (bit y 1) (c + 1)
either_row c =
    below_four
    (λ y. (bit y 0 && bit y 1) ≡ false
    → row_if (not (eqb y 0)) (c + y / 2) ≡ row_if (bit y 0) c ++ row_if (bit y 1) (c + 1))
    (λ e. refl) (λ e. ap (λ n. row n 0 0 0) (omega arith)) (λ e. refl) (λ e. absurd (true≢false e))

-- one row of two, by the code of the one that stands
coded_row : (s t : Bool) (c d : ℕ) → eqb c 0 ≡ false → eqb d 0 ≡ false → (s && t) ≡ false
    → row_if (not (eqb (cond s c (cond t d 0)) 0)) (cond s c (cond t d 0)) ≡ row_if s c ++ row_if t d
coded_row true true c d hc hd e = absurd (true≢false e)
coded_row true false c d hc hd e = ap (λ t. row_if (not t) c) hc
coded_row false true c d hc hd e = ap (λ t. row_if (not t) d) hd
coded_row false false c d hc hd e = refl

stores_some : (l : Level) → (eqb (barrier_code l SS) 0 ≡ false) × (eqb (barrier_code l SL) 0 ≡ false)
stores_some Level0 = (refl, refl)
stores_some Level1 = (refl, refl)
stores_some Level2 = (refl, refl)
stores_some Level3 = (refl, refl)

-- a table of codes, by one test of every set
pub codes_by : (l : Level) (codes : ℕ)
    → values (λ y. eqb (codes / 2 ^ (8 * y) % 256) (store_code l (4 * y))) 8 ≡ values (λ y. true) 8 → CodesOf l codes
codes_by l codes e = record {
  each = λ y h.
      eqb-true (codes / 2 ^ (8 * y) % 256) (store_code l (4 * y))
      (values_at (λ k. eqb (codes / 2 ^ (8 * k) % 256) (store_code l (4 * k))) (λ k. true) 8 y e h);
}

module _ (x : ℕ) where
  abbrev test : ℕ → Bool
  test n = eqb n 1

  -- SS, SL and bit 4 alone
  abbrev part : ℕ
  part = 4 * (x / 4 % 8)

  part2 : bit part 2 ≡ bit x 2
  part2 = let e : part / 4 % 2 ≡ x / 4 % 2 = omega arith in ap test e

  part3 : bit part 3 ≡ bit x 3
  part3 = let e : part / 8 % 2 ≡ x / 8 % 2 = omega arith in ap test e

  part_fence : fence_in part ≡ fence_in x
  part_fence =
      let e : part / 16 % 2 ≡ x / 16 % 2 = omega arith in
      ap₂ (λ u v. not (test u) && v) e part3

  part_code : (l : Level) → store_code l part ≡ store_code l x
  part_code Level0 = refl
  part_code Level1 = λ i. cond (part2 i) 13 (cond (part3 i) 14 0)
  part_code Level2 = λ i. cond (part_fence i) 15 0
  part_code Level3 = λ i. cond (part2 i) 13 (cond (part_fence i) 14 0)

  module _ (one : Single x) where
    low0 : bit (x % 4) 0 ≡ bit x 0
    low0 = let e : x % 4 / 1 % 2 ≡ x / 1 % 2 = omega arith in ap test e

    low1 : bit (x % 4) 1 ≡ bit x 1
    low1 = let e : x % 4 / 2 % 2 ≡ x / 2 % 2 = omega arith in ap test e

    -- LL or LS at level 1
    pub loads_rows : row_if (not (eqb (x % 4) 0)) (11 + x % 4 / 2) ≡ load_rows Level1 x
    loads_rows =
        either_row 11 (x % 4) (omega arith) (ap₂ (λ a b. a && b) low0 low1 ∙ one.0)
        ∙ (λ i. row_if (low0 i) 11 ++ row_if (low1 i) 12)

    kept_once : (l : Level) → (kept_in l x SS && kept_in l x SL) ≡ false
    kept_once Level0 = refl
    kept_once Level1 = one.1
    kept_once Level2 = refl
    kept_once Level3 =
        by_test (λ t. (bit x 2 && (t && bit x 3)) ≡ false) one.1 (and-false (bit x 2)) (not (bit x 4))

    -- SS or SL, of a level's codes
    pub stores_rows : (l : Level) {codes : ℕ} → CodesOf l codes
        → row_if (not (eqb (codes / 2 ^ (8 * (x / 4 % 8)) % 256) 0)) (codes / 2 ^ (8 * (x / 4 % 8)) % 256)
        ≡ store_rows l x
    stores_rows l ok =
        ap (λ c. row_if (not (eqb c 0)) c) (ok.each (x / 4 % 8) (omega arith) ∙ part_code l)
        ∙ coded_row (kept_in l x SS) (kept_in l x SL) (barrier_code l SS) (barrier_code l SL) (stores_some l).0
        (stores_some l).1 (kept_once l)

-- ## the row

-- four bytes written over the last of eight
pub half_over : (l : List ℕ) (i : ℕ) (x q : List ℕ) → length x ≡ 8 → length q ≡ 4
    → sets (sets l i x) (i + 4) q ≡ sets l i (take 4 x ++ q)
half_over l i x q eight four =
    let size : length (take 4 x) ≡ 4 = length-take-le 4 x (omega arith) in
    let rest : length (drop 4 x) ≤ length q = omega (arith, length-drop 4 x) in
    let at : i + 4 ≡ i + length (take 4 x) = omega arith in
    ap (λ z. sets (sets l i z) (i + 4) q) (sym (take-append-drop 4 x))
    ∙ ap (λ z. sets z (i + 4) q) (sym (sets_on l i (take 4 x) (drop 4 x)))
    ∙ ap (λ n. sets (sets (sets l i (take 4 x)) (i + length (take 4 x)) (drop 4 x)) n q) at
    ∙ sets_over (sets l i (take 4 x)) (i + length (take 4 x)) (drop 4 x) q rest
    ∙ sets_on l i (take 4 x) q

module _ (lv : Level) (plan l : List ℕ) (k : ℕ) where
  abbrev s : List ℕ
  s = drop k l

  abbrev aimed : List ℕ
  aimed = take 4 s ++ quad_bytes (beginning lv plan (byte s 4))

  code : byte s 0 ≡ get_or l k 0
  code = sym (get_d_behind l k 0 k (omega arith))

  -- a SKIP's row, and any other's
  pub own_skip : {t : ℕ} → get_or l k 0 ≡ 7 → t ≡ beginning lv plan (get_or l (k + 4) 0)
      → take 4 s ++ quad_bytes t ≡ own_row lv plan s
  unfolding own_row
  own_skip e et =
      let target = et ∙ ap (beginning lv plan) (get_d_behind l k 4 (k + 4) refl) in
      ap (λ n. take 4 s ++ quad_bytes n) target ∙ sym (ap (λ n. cond (eqb n 7) aimed (take 8 s)) (code ∙ e))

  pub own_copy : ¬ get_or l k 0 ≡ 7 → take 8 s ≡ own_row lv plan s
  unfolding own_row
  own_copy h =
      sym (ap (λ t. cond t aimed (take 8 s)) (ap (λ n. eqb n 7) code ∙ ne_eqb (get_or l k 0) 7 h))

  pub own_length : k + 8 ≤ length l → length (own_row lv plan s) ≡ 8
  unfolding own_row
  own_length h =
      cond_by (λ x. length x ≡ 8) (eqb (byte s 0) 7) aimed (take 8 s)
      (λ e. omega (
        arith,
        length-append (take 4 s) (quad_bytes (beginning lv plan (byte s 4))),
        length-take-le 4 s (omega (arith, length-drop k l)),
      ))
      (λ e. length-take-le 8 s (omega (arith, length-drop k l)))

-- row p with its barriers
pub step_length : (lv : Level) (plan rows : List ℕ) (p : ℕ) → 8 * p + 8 ≤ length rows
    → length (step_rows lv plan rows p) ≡ length (barrier_rows lv (get_or plan p 0)) + 8
step_length lv plan rows p h =
    length-append (barrier_rows lv (get_or plan p 0)) (own_row lv plan (drop (8 * p) rows))
    ∙ ap (λ n. length (barrier_rows lv (get_or plan p 0)) + n) (own_length lv plan rows (8 * p) h)
