-- Laws of bytes that have others within them: in front, behind, one of texts in turn; numbers read back from there.
use Prim.Native.Nat.{ℕ, zero, suc, ◌+◌, ◌*◌, ◌%◌, ◌^◌, ◌<◌, ◌≤◌}
use mathlib.Core.Path.{◌≡◌, sym, ap, ◌∙◌}
use mathlib.Core.List.{List, ◌++◌}
use native.Mathlib.Nat.{add-zero, mul_comm, mul-suc, mul-le-mul_left, mod-eq_of_lt}
use native.Mathlib.Decide.{dec_le}
use native.Mathlib.Omega.{arith}
use lib.ListN.{length, get_or, get_or-append}
use lib.Seq.{get_or-append-add}
use Rattle.file_format.specs.Fields.{word, quad}
use Rattle.sheet_format.specs.Bytes.{word_bytes, quad_bytes}
use Rattle.sheet_format.specs.Put.{in_turn}
use Rattle.sheet_format.proofs.Laws.Turn.{turn_even}

-- s has x from a position on
pub record Has (s : List ℕ) (from : ℕ) (x : List ℕ) : Type 0 where
  pub at : (i : ℕ) → i < length x → get_or s (from + i) 0 ≡ get_or x i 0

pub has_whole : (x : List ℕ) → Has x 0 x
has_whole x = record {
  at = λ i l.
      let e : 0 + i ≡ i = omega arith in
      ap (λ n. get_or x n 0) e;
}

pub has_front : {x z : List ℕ} {k : ℕ} (y : List ℕ) → Has x k z → k + length z ≤ length x → Has (x ++ y) k z
has_front {x} {z} {k} y h fits = record {
  at = λ i l. get_or-append x y 0 (k + i) (omega arith) ∙ h.at i l;
}

pub has_behind : (x : List ℕ) {y z : List ℕ} {k : ℕ} → Has y k z → Has (x ++ y) (length x + k) z
has_behind x {y} {z} {k} h = record {
  at = λ i l.
      let e : length x + k + i ≡ length x + (k + i) = omega arith in
      ap (λ n. get_or (x ++ y) n 0) e ∙ get_or-append-add x y (k + i) 0 ∙ h.at i l;
}

-- what x has, each that has x has
pub has_within : {s x y : List ℕ} {from k : ℕ} → Has s from x → Has x k y → k + length y ≤ length x
    → Has s (from + k) y
has_within {s} {x} {y} {from} {k} h w fits = record {
  at = λ i l.
      let e : from + k + i ≡ from + (k + i) = omega arith in
      ap (λ n. get_or s n 0) e ∙ h.at (k + i) (omega arith) ∙ w.at i l;
}

-- text t of n, of m bytes each
module _ (f : ℕ → List ℕ) (m : ℕ) (each : (j : ℕ) → length (f j) ≡ m) where
  pub has_turn : (n t : ℕ) → t < n → Has (in_turn f n) (m * t) (f t)
  unfolding in_turn
  has_turn zero t h = absurd (omega arith)
  has_turn (suc n) t h = go (dec_le (suc t) n) (has_turn n t)
    where
      size : length (in_turn f n) ≡ m * n
      size = turn_even f m n each ∙ mul_comm n m

      go : Dec (t < n) → (t < n → Has (in_turn f n) (m * t) (f t)) → Has (in_turn f n ++ f n) (m * t) (f t)
      go (yes l) ih =
          has_front (f n) (ih l) (omega (arith, each t, mul-suc m t, mul-le-mul_left m l, size))
      go (no l) ih =
          let last : n ≡ t = omega arith in
          let from : length (in_turn f n) ≡ m * t = size ∙ ap (λ k. m * k) last in
          record {
            at = λ i l.
                ap (λ k. get_or (in_turn f n ++ f n) (k + i) 0) (sym from)
                ∙ get_or-append-add (in_turn f n) (f n) i 0 ∙ ap (λ k. get_or (f k) i 0) last;
          }

-- a number of 16 bits; the low 32 bits of a number, and all of one that fits them
pub has_word : {s : List ℕ} {from n : ℕ} → Has s from (word_bytes n) → n < 2 ^ 16 → word s from ≡ n
has_word {s} {from} {n} h small =
    omega (arith, rw (add-zero from) at (h.at 0 (omega arith)), h.at 1 (omega arith))

pub has_low : {s : List ℕ} {from : ℕ} (n : ℕ) → Has s from (quad_bytes n) → quad s from ≡ n % 2 ^ 32
has_low {s} {from} n h =
    let e : from + 3 ≡ from + 2 + 1 = omega arith in
    omega (
      arith,
      rw (add-zero from) at (h.at 0 (omega arith)),
      h.at 1 (omega arith),
      h.at 2 (omega arith),
      rw e at (h.at 3 (omega arith)),
    )

pub has_quad : {s : List ℕ} {from n : ℕ} → Has s from (quad_bytes n) → n < 2 ^ 32 → quad s from ≡ n
has_quad {s} {from} {n} h small = has_low n h ∙ mod-eq_of_lt small
