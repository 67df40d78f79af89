-- Laws of the lines of a schedule: one byte more, none left; and of the moves that are laid so far.
use Prim.Native.Nat.{ℕ, ◌+◌, ◌≤◌, ◌<◌}
use mathlib.Core.Path.{◌≡◌, refl, sym, ◌∙◌}
use mathlib.Core.Bool.{true, false, cond}
use mathlib.Core.List.{List, [], ◌∷◌, ◌++◌}
use Rattle.std.specs.Prelude.{Some, None}
use native.Mathlib.Numerals.{add-one}
use native.Mathlib.Omega.{arith}
use borrow.Author.Tests.{eq-eqb, ne_eqb}
use lib.ListN.{length, get_or, drop, set, drop_of_length-le}
use lib.Seq.{drop-cons, sets}
use Rattle.sheet_format.specs.Put.{Puts}
use Rattle.sheet_format.proofs.Laws.Put.{puts_as, puts_on}
use Rattle.text_schedule.specs.declared.place.Place.{Place}
use Rattle.text_schedule.specs.declared.place.Place.TheVariants.{Blank}
use Rattle.text_schedule.specs.Place.{after, is_wrong}
use Rattle.text_schedule.specs.Text.{malformed_from, move_at, moves_from, moves_of}
use Rattle.text_schedule.proofs.Laws.Few.{moves_few}

-- the byte at which the reader stands, and what is left behind it
module _ (s : List ℕ) (i : ℕ) (h : i < length s) where
  here : drop i s ≡ get_or s i 0 ∷ drop (i + 1) s
  here = rw (add-one, drop-cons s i 0) refl

  pub malformed_line : (n : ℕ) (p : Place) → get_or s i 0 ≡ 10 → is_wrong p ≡ true
      → malformed_from n p (drop i s) ≡ Some n
  unfolding malformed_from
  malformed_line n p e w = rw (here, eq-eqb (get_or s i 0) 10 e, w) refl

  pub malformed_next : (n : ℕ) (p : Place) → get_or s i 0 ≡ 10 → is_wrong p ≡ false
      → malformed_from n p (drop i s) ≡ malformed_from (n + 1) Blank (drop (i + 1) s)
  unfolding malformed_from
  malformed_next n p e w = rw (here, eq-eqb (get_or s i 0) 10 e, w, add-one n) refl

  pub malformed_on : (n : ℕ) (p : Place) → (get_or s i 0 ≡ 10 → ⊥)
      → malformed_from n p (drop i s) ≡ malformed_from n (after p (get_or s i 0)) (drop (i + 1) s)
  unfolding malformed_from
  malformed_on n p e = rw (here, ne_eqb (get_or s i 0) 10 e) refl

  pub moves_next : (p : Place) → get_or s i 0 ≡ 10
      → moves_from p (drop i s) ≡ move_at p ++ moves_from Blank (drop (i + 1) s)
  unfolding moves_from
  moves_next p e = rw (here, eq-eqb (get_or s i 0) 10 e) refl

  pub moves_on : (p : Place) → (get_or s i 0 ≡ 10 → ⊥)
      → moves_from p (drop i s) ≡ moves_from (after p (get_or s i 0)) (drop (i + 1) s)
  unfolding moves_from
  moves_on p e = rw (here, ne_eqb (get_or s i 0) 10 e) refl

-- the last line ends with the text
module _ (s : List ℕ) (i : ℕ) (h : length s ≤ i) where
  pub malformed_end : (n : ℕ) (p : Place) → malformed_from n p (drop i s) ≡ cond (is_wrong p) (Some n) None
  unfolding malformed_from
  malformed_end n p = rw (drop_of_length-le s h) refl

  pub moves_end : (p : Place) → moves_from p (drop i s) ≡ move_at p
  unfolding moves_from
  moves_end p = rw (drop_of_length-le s h) refl

-- The moves that are left, laid from `at` on, make the moves of the whole text.
abbrev pub Finishes : List ℕ → List ℕ → Place → ℕ → List ℕ → ℕ → Type 0
Finishes s buffer p i out at =
    (n : List ℕ) (k : ℕ) → Puts out at (moves_from p (drop i s)) n k → Puts buffer 0 (moves_of s) n k

module _ (s buffer : List ℕ) (i : ℕ) where
  pub finish_next : (p : Place) {out out' : List ℕ} {at at' : ℕ} → i < length s → get_or s i 0 ≡ 10
      → Finishes s buffer p i out at → Puts out at (move_at p) out' at' → Finishes s buffer Blank (i + 1) out' at'
  finish_next p h e f q n k r = f n k (puts_as (sym (moves_next s i h p e)) (puts_on q r))

  pub finish_on : (p : Place) {out : List ℕ} {at : ℕ} → i < length s → (get_or s i 0 ≡ 10 → ⊥)
      → Finishes s buffer p i out at → Finishes s buffer (after p (get_or s i 0)) (i + 1) out at
  finish_on p h e f n k r = f n k (puts_as (sym (moves_on s i h p e)) r)

  pub finish_end : (p : Place) {out out' : List ℕ} {at at' : ℕ} → length s ≤ i → Finishes s buffer p i out at
      → Puts out at (move_at p) out' at' → Puts buffer 0 (moves_of s) out' at'
  finish_end p h f q = f _ _ (puts_as (sym (moves_end s i h p)) q)

  -- where the next move is laid
  pub finish_room : (p : Place) (out : List ℕ) (at : ℕ) → Finishes s buffer p i out at → at ≤ length s
  finish_room p out at f =
      let rest : List ℕ = moves_from p (drop i s) in
      let whole = f (sets out at rest) (at + length rest) (record { bytes = refl; behind = refl }) in
      omega (arith, whole.behind, moves_few s)

pub two_put : (l : List ℕ) (i a b : ℕ) {m n : List ℕ} → m ≡ set l i a → n ≡ set m (i + 1) b
    → Puts l i (a ∷ b ∷ []) n (i + 2)
two_put l i a b {m} {n} e f = record { bytes = f ∙ rw (e, add-one i) refl; behind = refl }
