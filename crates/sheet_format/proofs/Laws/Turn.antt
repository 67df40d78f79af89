-- Laws of texts put one behind the other.
use Prim.Native.Nat.{ℕ, zero, suc, ◌+◌, ◌*◌, ◌≤◌, ◌<◌}
use mathlib.Core.Path.{◌≡◌, refl, sym, ap, ap₂, ◌∙◌}
use mathlib.Core.List.{List, [], ◌∷◌, ◌++◌, map, append_assoc, append-nil}
use native.Mathlib.Nat.{suc-mul}
use native.Mathlib.Omega.{arith}
use native.Mathlib.Decide.{dec_le}
use lib.ListN.{length, get_or, length-append}
use Rattle.sheet_format.specs.Bytes.{joined}
use Rattle.sheet_format.specs.Put.{Puts, in_turn}
use Rattle.sheet_format.proofs.Laws.Put.{puts_none, puts_as, puts_on, puts_length}

-- two ways to write the same texts
pub turn_same : (f g : ℕ → List ℕ) (n : ℕ) → ((t : ℕ) → t < n → f t ≡ g t) → in_turn f n ≡ in_turn g n
unfolding in_turn
turn_same f g zero h = refl
turn_same f g (suc n) h =
    ap₂ (λ x y. x ++ y) (turn_same f g n (λ t l. h t (omega arith))) (h n (omega arith))

-- the texts of a list's elements; behind its end they are empty
module _ {A : Type 0} (g : A → List ℕ) (d : A) (none : g d ≡ []) where
  turn_front : (x : A) (xs : List A) (n : ℕ)
      → in_turn (λ t. g (get_or (x ∷ xs) t d)) (suc n) ≡ g x ++ in_turn (λ t. g (get_or xs t d)) n
  unfolding in_turn
  turn_front x xs zero = sym (append-nil (g x))
  turn_front x xs (suc n) =
      ap (λ z. z ++ g (get_or xs n d)) (turn_front x xs n)
      ∙ append_assoc (g x) (in_turn (λ t. g (get_or xs t d)) n) (g (get_or xs n d))

  pub turn_all : (xs : List A) (n : ℕ) → length xs ≤ n → in_turn (λ t. g (get_or xs t d)) n ≡ joined (map g xs)
  unfolding in_turn
  turn_all [] zero h = refl
  turn_all [] (suc n) h =
      ap (λ z. in_turn (λ t. g (get_or [] t d)) n ++ z) none ∙ append-nil (in_turn (λ t. g (get_or [] t d)) n)
      ∙ turn_all [] n (omega arith)
  turn_all (x ∷ xs) zero h = absurd (omega arith)
  turn_all (x ∷ xs) (suc n) h = turn_front x xs n ∙ ap (λ z. g x ++ z) (turn_all xs n (omega arith))

module _ (f : ℕ → List ℕ) where
  turn_suc : (t : ℕ) → in_turn f (t + 1) ≡ in_turn f t ++ f t
  unfolding in_turn
  turn_suc t =
      let one : t + 1 ≡ suc t = omega arith in
      ap (in_turn f) one

  turn_length : (t : ℕ) → length (in_turn f (t + 1)) ≡ length (in_turn f t) + length (f t)
  turn_length t = ap length (turn_suc t) ∙ length-append (in_turn f t) (f t)

  turn_grows : (t n : ℕ) → t ≤ n → length (in_turn f t) ≤ length (in_turn f n)
  turn_grows t zero h =
      let z : t ≡ 0 = omega arith in
      rw z (omega arith)
  turn_grows t (suc n) h = go (dec_le t n) (turn_grows t n)
    where
      go : Dec (t ≤ n) → (t ≤ n → length (in_turn f t) ≤ length (in_turn f n)) → length (in_turn f t) ≤ length
          (in_turn f (suc n))
      go (yes l) ih =
          let one : n + 1 ≡ suc n = omega arith in
          omega (arith, ih l, turn_length n, ap (λ m. length (in_turn f m)) one)
      go (no l) ih =
          let e : t ≡ suc n = omega arith in
          rw e (omega arith)

  pub turn_none : {buffer : List ℕ} {i : ℕ} → Puts buffer i (in_turn f 0) buffer i
  unfolding in_turn
  turn_none = puts_none

  -- one text more
  pub turn_on_lem : (t : ℕ) {buffer out out' : List ℕ} {i j j' : ℕ} → Puts buffer i (in_turn f t) out j
      → Puts out j (f t) out' j' → Puts buffer i (in_turn f (t + 1)) out' j'
  turn_on_lem t p q = puts_as (sym (turn_suc t)) (puts_on p q)

  -- what four texts take
  pub turn_four : length (in_turn f 4) ≡ length (f 0) + (length (f 1) + (length (f 2) + length (f 3)))
  unfolding in_turn
  turn_four = omega (arith, turn_length 0, turn_length 1, turn_length 2, turn_length 3)

  -- texts of m bytes each, and where they end
  pub turn_even : (m n : ℕ) → ((t : ℕ) → length (f t) ≡ m) → length (in_turn f n) ≡ n * m
  unfolding in_turn
  turn_even m zero each = omega arith
  turn_even m (suc n) each =
      omega (arith, length-append (in_turn f n) (f n), each n, turn_even m n each, suc-mul n m)

  pub turn_end : (m n : ℕ) → ((t : ℕ) → length (f t) ≡ m) → {buffer out : List ℕ} {i j : ℕ}
      → Puts buffer i (in_turn f n) out j → j ≡ i + n * m
  turn_end m n each {i = i} p = p.behind ∙ ap (λ x. i + x) (turn_even m n each)

  -- there is room for one of n texts where there is for all
  pub turn_room : (n t : ℕ) → t < n → length (in_turn f t) + length (f t) ≤ length (in_turn f n)
  turn_room n t h = omega (arith, turn_length t, turn_grows (t + 1) n (omega arith))

  -- t of n texts are written into `out`, up to `at`, where all have room: the buffer keeps its length, and the next
  -- has room
  pub turn_fits : (n t : ℕ) {buffer out : List ℕ} {i at : ℕ} → i + length (in_turn f n) ≤ length buffer → t < n
      → Puts buffer i (in_turn f t) out at → (length out ≡ length buffer) × (at + length (f t) ≤ length out)
  turn_fits n t {buffer} {out} {i} {at} room h p =
      let same = puts_length p in
      (same, omega (arith, same, p.behind, turn_room n t h, room))
