-- Laws of what stands at a position of a list: of a part, a join, an image, an updated list.
use Prim.Native.Nat.{ℕ, zero, suc, ◌+◌, ◌≤◌, ◌<◌}
use mathlib.Core.Path.{◌≡◌, refl, sym, ap, ◌∙◌}
use mathlib.Core.Bool.{Bool, true, false, cond, true≢false}
use mathlib.Core.List.{List, [], ◌∷◌, ◌++◌, map}
use mathlib.Core.Option
use mathlib.Core.Option.{none, some}
use mathlib.Core.Logic.{◌≢◌}
use native.Mathlib.Omega.{arith}
use native.Mathlib.Decide.{ℕ_discrete, dec_lt}
use lib.Dec.{ltb}
use lib.ListN.{length, get_or, get_elem?, take, set, replicate, length-map, get_or-map, get_or-eq_default}
use lib.Seq.{get_or-set_same, get_or-set_other, set_out, ext_get_or}
use borrow.Author.Tests.{ltb-false}

pub nil_of_length : {A : Type 0} (l : List A) → length l ≡ 0 → l ≡ []
nil_of_length [] e = refl
nil_of_length (x ∷ l) e = absurd (omega arith)

-- ## what stands at a position

pub some_at : {A : Type 0} (l : List A) (p : ℕ) (a d : A) → get_elem? l p ≡ some a → (p < length l) × (get_or l p d ≡ a)
some_at [] p a d e = let z : ◌≡◌ {A = ℕ} 0 1 = cc in absurd (omega arith)
some_at (x ∷ l) zero a d e = (omega arith, cc)
some_at (x ∷ l) (suc p) a d e = let r = some_at l p a d e in (omega (arith, r.0), r.1)

pub at_some : {A : Type 0} (l : List A) (p : ℕ) (d : A) → p < length l → get_elem? l p ≡ some (get_or l p d)
at_some [] p d h = absurd (omega arith)
at_some (x ∷ l) zero d h = refl
at_some (x ∷ l) (suc p) d h = at_some l p d (omega arith)

pub at_beyond : {A : Type 0} (l : List A) (p : ℕ) → length l ≤ p → get_elem? l p ≡ none
at_beyond [] p h = refl
at_beyond (x ∷ l) zero h = absurd (omega arith)
at_beyond (x ∷ l) (suc p) h = at_beyond l p (omega arith)

module _ {ℓ} {A : Type ℓ} where
  pub get_elem?_seam : (xs : List A) (y : A) (ys : List A) → get_elem? (xs ++ y ∷ ys) (length xs) ≡ some y
  get_elem?_seam [] y ys = refl
  get_elem?_seam (x ∷ xs) y ys = get_elem?_seam xs y ys

  pub get_elem?_left : (xs ys : List A) (d : A) (i : ℕ) → i < length xs → get_elem? (xs ++ ys) i ≡ some (get_or xs i d)
  get_elem?_left [] ys d i h = absurd (omega arith)
  get_elem?_left (x ∷ xs) ys d zero h = refl
  get_elem?_left (x ∷ xs) ys d (suc i) h = get_elem?_left xs ys d i (omega arith)

  pub at_behind : (xs ys : List A) (i : ℕ) → get_elem? (xs ++ ys) (length xs + i) ≡ get_elem? ys i
  at_behind [] ys i = let e : 0 + i ≡ i = omega arith in ap (get_elem? ys) e
  at_behind (x ∷ xs) ys i =
      let e : suc (length xs) + i ≡ suc (length xs + i) = omega arith in
      ap (get_elem? (x ∷ xs ++ ys)) e ∙ at_behind xs ys i

-- row 0, which is 0, stands for every position that the list has not
pub get_d_within : (l : List ℕ) (n : ℕ) → length l ≡ n → get_or l 0 0 ≡ 0 → (i : ℕ)
    → get_or l (cond (ltb i n) i 0) 0 ≡ get_or l i 0
get_d_within l n len first i = go (ltb i n) refl
  where
    go : (b : Bool) → ltb i n ≡ b → get_or l (cond b i 0) 0 ≡ get_or l i 0
    go true e = refl
    go false e = first ∙ sym (get_or-eq_default l 0 {n = i} (omega (arith, len, ltb-false i n e)))

-- what holds of the element and of the default
pub getD-replicate-all {ℓ κ} : {A : Type ℓ} (P : A → Type κ) (n : ℕ) (a d : A) → P a → P d → (t : ℕ)
    → P (get_or (replicate n a) t d)
getD-replicate-all P zero a d pa pd t = pd
getD-replicate-all P (suc n) a d pa pd zero = pa
getD-replicate-all P (suc n) a d pa pd (suc t) = getD-replicate-all P n a d pa pd t

-- ## under a map

pub getElem?-map {ℓ κ} : {A : Type ℓ} {B : Type κ} (f : A → B) (l : List A) (p : ℕ)
    → get_elem? (map f l) p ≡ Option.map f (get_elem? l p)
getElem?-map f [] p = refl
getElem?-map f (x ∷ l) zero = refl
getElem?-map f (x ∷ l) (suc p) = getElem?-map f l p

pub map-some {ℓ κ} : {A : Type ℓ} {B : Type κ} (f : A → B) (l : List A) (p : ℕ) (a : A) → get_elem? l p ≡ some a
    → get_elem? (map f l) p ≡ some (f a)
map-some f l p a e = getElem?-map f l p ∙ ap (Option.map f) e

-- whatever stands past the ends
pub map_at : {A B : Type 0} (f : A → B) (l : List A) (t : ℕ) (a : A) (b : B) → t < length l
    → get_or (map f l) t b ≡ f (get_or l t a)
map_at f [] t a b h = absurd (omega arith)
map_at f (x ∷ l) zero a b h = refl
map_at f (x ∷ l) (suc t) a b h = map_at f l t a b (omega arith)

pub map_set : {A B : Type 0} (f : A → B) (l : List A) (i : ℕ) (a : A) → map f (set l i a) ≡ set (map f l) i (f a)
map_set f [] i a = refl
map_set f (x ∷ l) zero a = refl
map_set f (x ∷ l) (suc i) a = ap (λ m. f x ∷ m) (map_set f l i a)

pub map-ext {ℓ} : {A B : Type ℓ} (f : A → B) (d : A) (l m : List A) → length l ≡ length m
    → ((i : ℕ) → f (get_or l i d) ≡ f (get_or m i d)) → map f l ≡ map f m
map-ext f d l m e h =
    ext_get_or (f d) (map f l) (map f m) (length-map l f ∙ e ∙ sym (length-map m f))
    (λ i k. get_or-map f l i d ∙ h i ∙ sym (get_or-map f m i d))

-- of the first n elements, where those past them would give nothing
pub map_take_at : {A : Type 0} (f : ℕ → List A) (l : List ℕ) (n t : ℕ) → t < length l
    → (n ≤ t → f (get_or l t 0) ≡ []) → get_or (map f (take n l)) t [] ≡ f (get_or l t 0)
map_take_at f [] n t h past = absurd (omega arith)
map_take_at f (x ∷ l) zero t h past = sym (past (omega arith))
map_take_at f (x ∷ l) (suc n) zero h past = refl
map_take_at f (x ∷ l) (suc n) (suc t) h past = map_take_at f l n t (omega arith) (λ g. past (omega arith))

-- ## after an update

-- what holds of two lists place by place still does after an update of both at one place
module _ {ℓ κ μ} {A : Type ℓ} {B : Type κ} (R : ℕ → A → B → Type μ) (a₀ : A) (b₀ : B) where
  pub pointwise_set : (l : List A) (m : List B) → length l ≡ length m → ((i : ℕ) → R i (get_or l i a₀) (get_or m i b₀))
      → (t : ℕ) (a : A) (b : B) → R t a b → (i : ℕ) → R i (get_or (set l t a) i a₀) (get_or (set m t b) i b₀)
  pointwise_set l m e h t a b r i = go (ℕ_discrete i t) (dec_lt t (length l))
    where
      go : Dec (i ≡ t) → Dec (t < length l) → R i (get_or (set l t a) i a₀) (get_or (set m t b) i b₀)
      go (no d) k = rw (get_or-set_other l t i a a₀ d, get_or-set_other m t i b b₀ d) (h i)
      go (yes d) (yes k) = rw (d, get_or-set_same l t a a₀ k, get_or-set_same m t b b₀ (rw e at k)) r
      go (yes d) (no k) = rw (set_out l t a (omega arith), set_out m t b (omega arith)) (h i)

-- the same of one list
pub set_all {ℓ κ} : {A : Type ℓ} (P : ℕ → A → Type κ) (d : A) (l : List A) (t : ℕ) (a : A)
    → ((i : ℕ) → P i (get_or l i d)) → P t a → (i : ℕ) → P i (get_or (set l t a) i d)
set_all P d l t a h p = pointwise_set (λ i x y. P i x) d d l l refl h t a a p

-- of a list whose element at t is replaced, from the others
pub set-each {ℓ κ} : {A : Type ℓ} (P : ℕ → A → Type κ) (d : A) (l : List A) (t : ℕ) (a : A) → t < length l → P t a
    → ((i : ℕ) → i ≢ t → P i (get_or l i d)) → (i : ℕ) → P i (get_or (set l t a) i d)
set-each P d l t a lt pa h i = go (ℕ_discrete i t)
  where
    go : Dec (i ≡ t) → P i (get_or (set l t a) i d)
    go (yes e) = rw (e, get_or-set_same l t a d lt) pa
    go (no e) = rw (get_or-set_other l t i a d e) (h i e)

-- ## how many flags are up

unfoldable pub count : List Bool → ℕ
count [] = 0
count (true ∷ l) = suc (count l)
count (false ∷ l) = count l

count_le : (l : List Bool) → count l ≤ length l
unfolding count
count_le [] = omega arith
count_le (true ∷ l) = omega (arith, count_le l)
count_le (false ∷ l) = omega (arith, count_le l)

pub count_first : (l : List Bool) → get_or l 0 false ≡ false → 0 < length l → count l < length l
unfolding count
count_first [] e h = absurd (omega arith)
count_first (true ∷ l) e h = absurd (true≢false e)
count_first (false ∷ l) e h = omega (arith, count_le l)

pub count_set : (l : List Bool) (r : ℕ) → get_or l r false ≡ false → r < length l → count (set l r true) ≡ suc (count l)
unfolding count
count_set [] r e h = absurd (omega arith)
count_set (true ∷ l) zero e h = absurd (true≢false e)
count_set (false ∷ l) zero e h = refl
count_set (true ∷ l) (suc r) e h = ap suc (count_set l r e (omega arith))
count_set (false ∷ l) (suc r) e h = count_set l r e (omega arith)
