-- Rows of cells and values as rows of entries, and lists that lose an element.
use Prim.Native.Nat.{ℕ, zero, suc, ◌≤◌, ◌<◌}
use mathlib.Core.Path.{◌≡◌, refl, ap, sym, ◌∙◌}
use mathlib.Core.List.{List, [], ◌∷◌}
use native.Mathlib.Omega.{arith}
use lib.ListN.{length, get_or, take, set}
use Rattle.machine_spec.specs.Entries.{Entry, write, without}
use Rattle.machine_lane.specs.Lanes.{entry_of, entries_of}

pub entries_length : (n : ℕ) (cs vs : List ℕ) → length cs ≡ n → length vs ≡ n → length (entries_of cs vs) ≡ n
unfolding entries_of
entries_length n [] vs e f = e
entries_length n (c ∷ cs) [] e f = let z : suc (length cs) ≡ 0 = e ∙ sym f in absurd (omega arith)
entries_length zero (c ∷ cs) (v ∷ vs) e f = absurd (omega arith)
entries_length (suc n) (c ∷ cs) (v ∷ vs) e f =
    ap suc (entries_length n cs vs (omega arith) (omega arith))

-- writing a cell and its value is writing an entry
pub entries_set : (cs vs : List ℕ) (i c v : ℕ)
    → entries_of (set cs i c) (set vs i v) ≡ set (entries_of cs vs) i (entry_of c v)
unfolding entries_of
entries_set [] vs i c v = refl
entries_set (x ∷ cs) [] zero c v = refl
entries_set (x ∷ cs) [] (suc i) c v = refl
entries_set (x ∷ cs) (y ∷ vs) zero c v = refl
entries_set (x ∷ cs) (y ∷ vs) (suc i) c v = ap (λ t. entry_of x y ∷ t) (entries_set cs vs i c v)

pub entries_at : (cs vs : List ℕ) (i : ℕ) (d : Entry) → i < length (entries_of cs vs)
    → get_or (entries_of cs vs) i d ≡ entry_of (get_or cs i 0) (get_or vs i 0)
unfolding entries_of
entries_at [] vs i d h = absurd (omega arith)
entries_at (c ∷ cs) [] i d h = absurd (omega arith)
entries_at (c ∷ cs) (v ∷ vs) zero d h = refl
entries_at (c ∷ cs) (v ∷ vs) (suc i) d h = entries_at cs vs i d (omega arith)

-- where the next element takes an element's place, the next one is to be left out
pub without_step : (l : List Entry) (i : ℕ) (d : Entry) → suc i < length l
    → without (suc i) (set l i (get_or l (suc i) d)) ≡ without i l
without_step [] i d h = absurd (omega arith)
without_step (x ∷ []) zero d h = absurd (omega arith)
without_step (x ∷ y ∷ xs) zero d h = refl
without_step (x ∷ xs) (suc i) d h = ap (λ t. x ∷ t) (without_step xs i d (omega arith))

-- the same on rows of 64
pub moved_down : (cs vs : List ℕ) (i : ℕ) → length cs ≡ 64 → length vs ≡ 64 → suc i < 64
    → without (suc i) (entries_of (set cs i (get_or cs (suc i) 0)) (set vs i (get_or vs (suc i) 0)))
    ≡ without i (entries_of cs vs)
moved_down cs vs i e f h =
    let d : Entry = write 0 0 in
    let inside : suc i < length (entries_of cs vs) = omega (arith, entries_length 64 cs vs e f) in
    ap (without (suc i))
    (entries_set cs vs i (get_or cs (suc i) 0) (get_or vs (suc i) 0)
    ∙ ap (set (entries_of cs vs) i) (sym (entries_at cs vs (suc i) d inside)))
    ∙ without_step (entries_of cs vs) i d inside

-- the elements before an index stay
take_without : (l : List Entry) (n : ℕ) → n < length l → take n (without n l) ≡ take n l
take_without [] n h = absurd (omega arith)
take_without (x ∷ xs) zero h = refl
take_without (x ∷ xs) (suc n) h = ap (λ t. x ∷ t) (take_without xs n (omega arith))

without_take : (l : List Entry) (i n : ℕ) → i ≤ n → take n (without i l) ≡ without i (take (suc n) l)
without_take [] zero zero h = refl
without_take [] zero (suc n) h = refl
without_take [] (suc i) zero h = refl
without_take [] (suc i) (suc n) h = refl
without_take (x ∷ xs) zero n h = refl
without_take (x ∷ xs) (suc i) zero h = absurd (omega arith)
without_take (x ∷ xs) (suc i) (suc n) h = ap (λ t. x ∷ t) (without_take xs i n (omega arith))

-- what is kept of a list whose elements after an index have all moved one place down
pub shifted : (es fs : List Entry) (i m : ℕ) → m < length es → i ≤ m → without m es ≡ without i fs
    → take m es ≡ without i (take (suc m) fs)
shifted es fs i m k h e = sym (take_without es m k) ∙ ap (take m) e ∙ without_take fs i m h
