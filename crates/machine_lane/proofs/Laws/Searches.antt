-- Laws of the loops that look through a pending list.
use Prim.Native.Nat.{ℕ, suc, ◌-◌, ◌≤◌, ◌<◌}
use mathlib.Core.Path.{◌≡◌, refl, sym, ◌∙◌}
use mathlib.Core.Bool.{cond}
use mathlib.Core.List.{List, [], ◌∷◌, ◌++◌}
use native.Mathlib.Omega.{arith}
use lib.Dec.{eqb}
use lib.ListN.{length, get_or, take}
use lib.Seq.{take-suc}
use borrow.Author.Tests.{eq-eqb, ne_eqb, lt-ltb, le-ltb}
use native.Mathlib.Decide.{dec_le}
use Rattle.machine_spec.specs.Entries.{Entry, write, release, same_target, newest}
use Rattle.machine_lane.specs.Lanes.{entry_of, entries_of}
use Rattle.machine_lane.proofs.Laws.Entries.{entries_length, entries_at}

-- the newest value with one entry more
newest_snoc : (x m : ℕ) (es : List Entry) (c v : ℕ) → x < 16
    → newest x m (es ++ (entry_of c v ∷ [])) ≡ cond (eqb c x) v (newest x m es)
newest_snoc x m [] c v h = go (dec_le (suc c) 16)
  where
    go : Dec (c < 16) → newest x m (entry_of c v ∷ []) ≡ cond (eqb c x) v m
    go (yes k) = rw (lt-ltb c 16 k) refl
    go (no k) = rw (le-ltb c 16 (omega arith), ne_eqb c x (λ e. omega arith)) refl
newest_snoc x m (write y u ∷ es) c v h = newest_snoc x (cond (eqb y x) u m) es c v h
newest_snoc x m (release l ∷ es) c v h = newest_snoc x m es c v h

-- two entries have one target exactly where they have one cell
pub same_cell : (a v b u : ℕ) → same_target (entry_of a v) (entry_of b u) ≡ eqb b a
same_cell a v b u = go (dec_le (suc a) 16) (dec_le (suc b) 16)
  where
    both : 16 ≤ a → 16 ≤ b → Dec (b ≤ a) → Dec (a ≤ b) → eqb (b - 16) (a - 16) ≡ eqb b a
    both h k (yes l) (yes m) = let e : b ≡ a =
        omega arith in rw e (eq-eqb (a - 16) (a - 16) refl ∙ sym (eq-eqb a a refl))
    both h k (yes l) (no m) = ne_eqb (b - 16) (a - 16) (λ e. omega arith) ∙ sym (ne_eqb b a (λ e. omega arith))
    both h k (no l) m = ne_eqb (b - 16) (a - 16) (λ e. omega arith) ∙ sym (ne_eqb b a (λ e. omega arith))

    go : Dec (a < 16) → Dec (b < 16) → same_target (entry_of a v) (entry_of b u) ≡ eqb b a
    go (yes h) (yes k) = rw (lt-ltb a 16 h, lt-ltb b 16 k) refl
    go (yes h) (no k) = rw (lt-ltb a 16 h, le-ltb b 16 (omega arith), ne_eqb b a (λ e. omega arith)) refl
    go (no h) (yes k) = rw (le-ltb a 16 (omega arith), lt-ltb b 16 k, ne_eqb b a (λ e. omega arith)) refl
    go (no h) (no k) =
        rw (le-ltb a 16 (omega arith), le-ltb b 16 (omega arith))
        (both (omega arith) (omega arith) (dec_le b a) (dec_le a b))

-- what stands at place i of rows of 64
module _ (cs vs : List ℕ) (full : length cs ≡ 64) (whole : length vs ≡ 64) where
  here : (i : ℕ) → i < 64 → get_or (entries_of cs vs) i (write 0 0) ≡ entry_of (get_or cs i 0) (get_or vs i 0)
  here i h = entries_at cs vs i (write 0 0) (omega (arith, entries_length 64 cs vs full whole))

  -- the newest value among the first i + 1
  pub newest_on : (x m i : ℕ) → x < 16 → i < 64 → newest x m (take (suc i) (entries_of cs vs))
      ≡ cond (eqb (get_or cs i 0) x) (get_or vs i 0) (newest x m (take i (entries_of cs vs)))
  newest_on x m i h k =
      let inside : i < length (entries_of cs vs) = omega (arith, entries_length 64 cs vs full whole) in
      rw (take-suc (entries_of cs vs) i (write 0 0) inside, here i k)
      (newest_snoc x m (take i (entries_of cs vs)) (get_or cs i 0) (get_or vs i 0) h)
