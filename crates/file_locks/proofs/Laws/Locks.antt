-- Laws of sets of locks as numbers below 16, and of the ways to a position as numbers below 256, most of them by a
-- table of all.
use Prim.Native.Nat.{ℕ, ◌*◌, ◌%◌, ◌^◌, ◌≤◌, ◌<◌}
use mathlib.Core.Path.{◌≡◌, refl, ap, sym, ◌∙◌}
use mathlib.Core.Bool.{Bool, true, false, not, cond, ◌&&◌, ◌||◌}
use mathlib.Core.List.{[]}
use native.Mathlib.Nat.{mod-lt}
use native.Mathlib.Omega.{arith}
use borrow.Author.Tests.{ltb-true, ne_eqb, eqb-true, eqb-false, not-true}
use lib.Bits.{bit_or, bit_xor, and_zero_r, xor_zero_r, or_lt, or_add_and, and_le_l, and_le_r}
use lib.Dec.{eqb, ltb}
use lib.ListN.{get_or, set}
use mir.Val.{bool_byte}
use Rattle.laws.proofs.Bools.{and_true, by_test}
use Rattle.laws.proofs.Numbers.{table_at, values_at, bit_or_assoc}
use Rattle.file_format.specs.Held.{same}
use Rattle.file_format.specs.Rising.{all_below}
use Rattle.file_locks.specs.Sets.{locks_in, meets, ways, differ, lock_bit, barred, wrong_at, suspect_at, descends_at}
use Rattle.file_locks.specs.Sets.{after_row}

-- equal sets have equal numbers
pub locks_same : (h g : ℕ) → h < 16 → g < 16 → same (locks_in h) (locks_in g) ≡ eqb h g
unfolding same
locks_same = table_at (λ h g. same (locks_in h) (locks_in g)) eqb 16 16 refl

-- one of two sets has a lock where their union has
pub some_or : (h g : ℕ) → not (eqb (bit_or h g) 0) ≡ not (eqb h 0) || not (eqb g 0)
some_or h g = go (eqb h 0) refl (eqb g 0) refl
  where
    most : (h ≤ bit_or h g) × (g ≤ bit_or h g)
    most = (omega (arith, or_add_and h g, and_le_r h g), omega (arith, or_add_and h g, and_le_l h g))

    go : (a : Bool) → eqb h 0 ≡ a → (b : Bool) → eqb g 0 ≡ b → not (eqb (bit_or h g) 0) ≡ not a || not b
    go true ea b eb = ap (λ x. not (eqb (bit_or x g) 0)) (eqb-true h 0 ea) ∙ ap not eb
    go false ea b eb = ap not (ne_eqb (bit_or h g) 0 (λ e. eqb-false h 0 ea (omega (arith, most.0))))

-- ## the ways to a position

pub ways_small : (h : ℕ) → h < 16 → ways h < 256
ways_small h few = omega arith

-- ways that differ still do where others join them
differ_more : (w g : ℕ) → w < 256 → g < 16 → differ w ≡ true → differ (bit_or w (ways g)) ≡ true
differ_more w g small few d =
    let cell = table_at (λ (x y : ℕ). cond (differ x) (differ (bit_or x (ways y))) true) (λ x y. true) 256 16 refl
    w g small few in
    ap (λ b. cond b (differ (bit_or w (ways g))) true) (sym d) ∙ cell

module _ (h led : ℕ) (few : h < 16) (small : led < 256) where
  abbrev here : ℕ
  here = bit_or (ways h) led

  -- ways that do not differ are those of their set
  pub agree_same : differ here ≡ false → here ≡ ways h
  agree_same d =
      let cell = table_at (λ (x y : ℕ). cond (differ (bit_or (ways x) y)) (ways x) (bit_or (ways x) y)) (λ x y. ways x)
      16 256 refl h led few small in
      ap (λ b. cond b (ways h) here) (sym d) ∙ cell

  -- at a row, and at the end
  pub wrong_is : (code bit : ℕ) {m : Bool} → meets (barred (ways h) code) bit ≡ m
      → wrong_at here code bit ≡ cond (differ here) true m
  wrong_is code bit {m} e = go (differ here) refl
    where
      go : (d : Bool) → differ here ≡ d → d || meets (barred here code) bit ≡ cond d true m
      go true d = refl
      go false d = ap (λ w. meets (barred w code) bit) (agree_same d) ∙ e

  pub wrong_end : not (eqb (here % 16) 0) ≡ cond (differ here) true (not (eqb h 0))
  wrong_end =
      table_at (λ (x y : ℕ). not (eqb (bit_or (ways x) y % 16) 0))
      (λ x y. cond (differ (bit_or (ways x) y)) true (not (eqb x 0))) 16 256 refl h led few small

  -- one SKIP more leads there, with the set g
  pub led_more : (g : ℕ) → g < 16
      → differ (bit_or (ways h) (bit_or led (ways g))) ≡ cond (not (eqb g h)) true (differ here)
  led_more g fewer = ap differ (sym (bit_or_assoc (ways h) led (ways g))) ∙ go (differ here) refl
    where
      go : (d : Bool) → differ here ≡ d → differ (bit_or here (ways g)) ≡ cond (not (eqb g h)) true d
      go true d =
          differ_more here g (or_lt 8 (ways h) led (ways_small h few) small) fewer d
          ∙ by_test (λ b. true ≡ cond (not b) true true) refl refl (eqb g h)
      go false d =
          ap (λ w. differ (bit_or w (ways g))) (agree_same d)
          ∙ table_at (λ (x y : ℕ). differ (bit_or (ways x) (ways y))) (λ x y. cond (not (eqb y x)) true false) 16 16
          refl
          h g few fewer

pub led_none : (h : ℕ) → h < 16 → differ (bit_or (ways h) 0) ≡ false
led_none h few = values_at (λ x. differ (bit_or (ways x) 0)) (λ x. false) 16 h refl few

-- ## one operation

-- an operation that is no LOCK and no UNLOCK names no lock
none_named : (b : ℕ) → bool_byte false * 2 ^ (b % 4) % 2 ^ 8 ≡ 0
none_named b = omega arith

pub bit_small : (code b : ℕ) → lock_bit code b < 16
bit_small code b =
    by_test (λ t. bool_byte t * 2 ^ (b % 4) % 2 ^ 8 < 16)
    (ltb-true _ _ (values_at (λ l. ltb (1 * 2 ^ l % 2 ^ 8) 16) (λ l. true) 4 (b % 4) refl (mod-lt b (omega arith))))
    (omega (arith, none_named b)) (eqb code 5 || eqb code 6)

pub after_ways : (h bit : ℕ) → h < 16 → bit < 16 → after_row (ways h) bit ≡ ways (bit_xor h bit)
after_ways = table_at (λ (x y : ℕ). after_row (ways x) y) (λ x y. ways (bit_xor x y)) 16 16 refl

pub other_wrong : (w b : ℕ) → meets w (bool_byte false * 2 ^ (b % 4) % 2 ^ 8) ≡ false
other_wrong w b = ap (meets w) (none_named b) ∙ ap (λ x. not (eqb x 0)) (and_zero_r w)

pub other_next : (h b : ℕ) → bit_xor h (bool_byte false * 2 ^ (b % 4) % 2 ^ 8) ≡ h
other_next h b = ap (bit_xor h) (none_named b) ∙ xor_zero_r h

pub skip_after : (w b : ℕ) → after_row w (lock_bit 7 b) ≡ w
skip_after w b = ap (after_row w) (none_named b) ∙ xor_zero_r w

module _ (h l : ℕ) (few : h < 16) (near : l < 4) where
  pub lock_wrong : meets (ways h) (lock_bit 5 l) ≡ get_or (locks_in h) l false
  lock_wrong =
      table_at (λ (x y : ℕ). meets (ways x) (lock_bit 5 y)) (λ x y. get_or (locks_in x) y false) 16 4 refl h l few near

  pub unlock_wrong : meets (barred (ways h) 6) (lock_bit 6 l) ≡ not (get_or (locks_in h) l false)
  unlock_wrong =
      table_at (λ (x y : ℕ). meets (barred (ways x) 6) (lock_bit 6 y)) (λ x y. not (get_or (locks_in x) y false)) 16 4
      refl
      h l few near

  pub lock_descends : descends_at (ways h) 5 (lock_bit 5 l) ≡ not (all_below (locks_in h) l)
  unfolding all_below
  lock_descends =
      table_at (λ (x y : ℕ). descends_at (ways x) 5 (lock_bit 5 y)) (λ x y. not (all_below (locks_in x) y)) 16 4 refl
      h l
      few near

  pub lock_next : get_or (locks_in h) l false ≡ false → locks_in (bit_xor h (lock_bit 5 l)) ≡ set (locks_in h) l true
  lock_next right =
      let cell = table_at (λ (x y : ℕ). cond (get_or (locks_in x) y false) [] (locks_in (bit_xor x (lock_bit 5 y))))
      (λ x y. cond (get_or (locks_in x) y false) [] (set (locks_in x) y true)) 16 4 refl h l few near in
      rw right at cell

  pub unlock_next : not (get_or (locks_in h) l false) ≡ false
      → locks_in (bit_xor h (lock_bit 6 l)) ≡ set (locks_in h) l false
  unlock_next right =
      let cell = table_at (λ (x y : ℕ). cond (not (get_or (locks_in x) y false)) []
      (locks_in (bit_xor x (lock_bit 6 y))))
      (λ x y. cond (not (get_or (locks_in x) y false)) [] (set (locks_in x) y false)) 16 4 refl h l few near in
      rw right at cell

-- ## a row that is not suspect

-- neither rule is broken there
abbrev Kept : ℕ → ℕ → ℕ → Type 0
Kept w code bit = (wrong_at w code bit ≡ false) × (descends_at w code bit ≡ false)

lock_kept : (w l : ℕ) → w < 256 → l < 4 → suspect_at w 5 (lock_bit 5 l) ≡ false → Kept w 5 (lock_bit 5 l)
lock_kept w l small near e =
    let cell = table_at
    (λ (x y : ℕ). cond (suspect_at x 5 (lock_bit 5 y)) true
    (not (wrong_at x 5 (lock_bit 5 y)) && not (descends_at x 5 (lock_bit 5 y))))
    (λ x y. true) 256 4 refl w l small near in
    let both = and_true _ _ (ap (λ b. cond b true
    (not (wrong_at w 5 (lock_bit 5 l)) && not (descends_at w 5 (lock_bit 5 l)))) (sym e) ∙ cell) in
    (not-true _ both.0, not-true _ both.1)

pub unsuspected : (w code l : ℕ) → w < 256 → (5 ≤ code → l < 4) → suspect_at w code (lock_bit code l) ≡ false
    → Kept w code (lock_bit code l)
unsuspected w code l small near e = go (eqb code 5) refl
  where
    go : (b : Bool) → eqb code 5 ≡ b → Kept w code (lock_bit code l)
    go false h = (rw h (rw h at e), rw h)
    go true h =
        let is : code ≡ 5 = eqb-true code 5 h in
        rw is (lock_kept w l small (near (omega arith)) (rw is at e))
