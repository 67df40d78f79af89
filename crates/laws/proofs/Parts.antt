-- Laws of parts of a list, and of runs of stores.
use Prim.Native.Nat.{ℕ, zero, suc, ◌+◌, ◌-◌, ◌≤◌, ◌<◌}
use mathlib.Core.Path.{◌≡◌, refl, sym, ap, ◌∙◌}
use mathlib.Core.List.{List, [], ◌∷◌, ◌++◌}
use native.Mathlib.Omega.{arith}
use lib.ListN.{length, get_or, take, drop, set, replicate, length-drop}
use lib.Seq.{sets, get_or-drop, set_comm, set-set, set_out, drop-set-lt, drop-set-add, take_all}

-- the part of a list from n on, as `&xs[n..]` has it
pub take_rest : (n : ℕ) (xs : List ℕ) → take (length xs - n) (drop n xs) ≡ drop n xs
take_rest n xs = take_all (length xs - n) (drop n xs) (omega (arith, length-drop n xs))

pub part_length : (l : List ℕ) (i : ℕ) → i ≤ length l → length (take (length l - i) (drop i l)) ≡ length l - i
part_length l i h = ap length (take_rest i l) ∙ length-drop i l

-- what stands at j stands at i behind the first k
pub get_d_behind : (l : List ℕ) (k i j : ℕ) → j ≡ k + i → get_or l j 0 ≡ get_or (drop k l) i 0
get_d_behind l k i j e = ap (λ n. get_or l n 0) e ∙ sym (get_or-drop k l i 0)

pub take_set : {A : Type 0} (n : ℕ) (l : List A) (t : ℕ) (a : A) → take n (set l t a) ≡ set (take n l) t a
take_set zero l t a = refl
take_set (suc n) [] t a = refl
take_set (suc n) (x ∷ l) zero a = refl
take_set (suc n) (x ∷ l) (suc t) a = ap (λ r. x ∷ r) (take_set n l t a)

pub take_replicate : {A : Type 0} (n m : ℕ) (a : A) → n ≤ m → take n (replicate m a) ≡ replicate n a
take_replicate zero m a h = refl
take_replicate (suc n) zero a h = absurd (omega arith)
take_replicate (suc n) (suc m) a h = ap (λ l. a ∷ l) (take_replicate n m a (omega arith))

pub drop_replicate : {A : Type 0} (n m : ℕ) (a : A) → drop n (replicate m a) ≡ replicate (m - n) a
drop_replicate zero m a = let all : m ≡ m - 0 = omega arith in ap (λ k. replicate k a) all
drop_replicate (suc n) zero a = let none : 0 ≡ 0 - suc n = omega arith in ap (λ k. replicate k a) none
drop_replicate (suc n) (suc m) a =
    let less : m - n ≡ suc m - suc n = omega arith in
    drop_replicate n m a ∙ ap (λ k. replicate k a) less

-- as many elements as a list's first part has are that part
pub take_length_take : {A : Type 0} (m : ℕ) (l : List A) → take (length (take m l)) l ≡ take m l
take_length_take zero l = refl
take_length_take (suc m) [] = refl
take_length_take (suc m) (x ∷ xs) = ap (λ t. x ∷ t) (take_length_take m xs)

-- ## runs of stores

-- one run behind another
pub sets_on : (l : List ℕ) (i : ℕ) (x y : List ℕ) → sets (sets l i x) (i + length x) y ≡ sets l i (x ++ y)
sets_on l i [] y = let e : i + 0 ≡ i = omega arith in ap (λ n. sets l n y) e
sets_on l i (a ∷ x) y =
    let e : i + suc (length x) ≡ suc i + length x = omega arith in
    ap (λ n. sets (sets (set l i a) (suc i) x) n y) e ∙ sets_on (set l i a) (suc i) x y

-- a store before a run
pub before_sets : (l : List ℕ) (k i : ℕ) (x : List ℕ) (b : ℕ) → i < k → set (sets l k x) i b ≡ sets (set l i b) k x
before_sets l k i [] b h = refl
before_sets l k i (a ∷ x) b h =
    before_sets (set l k a) (suc k) i x b (omega arith)
    ∙ ap (λ m. sets m (suc k) x) (set_comm l k i a b (λ e. omega arith))

-- a run over one that is no longer
pub sets_over : (l : List ℕ) (i : ℕ) (x y : List ℕ) → length x ≤ length y → sets (sets l i x) i y ≡ sets l i y
sets_over l i [] y h = refl
sets_over l i (a ∷ x) [] h = absurd (omega arith)
sets_over l i (a ∷ x) (b ∷ y) h =
    ap (λ m. sets m (suc i) y)
    (before_sets (set l i a) (suc i) i x b (omega arith) ∙ ap (λ m. sets m (suc i) x) (set-set l i a b))
    ∙ sets_over (set l i b) (suc i) x y (omega arith)

-- a run, seen in a part of the list
pub take_sets : (n : ℕ) (l : List ℕ) (i : ℕ) (x : List ℕ) → take n (sets l i x) ≡ sets (take n l) i x
take_sets n l i [] = refl
take_sets n l i (a ∷ x) = take_sets n (set l i a) (suc i) x ∙ ap (λ m. sets m (suc i) x) (take_set n l i a)

pub drop_sets : (n : ℕ) (l : List ℕ) (i : ℕ) (x : List ℕ) → drop n (sets l (n + i) x) ≡ sets (drop n l) i x
drop_sets n l i [] = refl
drop_sets n l i (a ∷ x) =
    let next : suc (n + i) ≡ n + suc i = omega arith in
    ap (λ k. drop n (sets (set l (n + i) a) k x)) next
    ∙ drop_sets n (set l (n + i) a) (suc i) x
    ∙ ap (λ m. sets m (suc i) x) (drop-set-add n l i a)

-- the list behind the run is as it was
pub drop_sets_le : (n : ℕ) (l : List ℕ) (i : ℕ) (x : List ℕ) → i + length x ≤ n → drop n (sets l i x) ≡ drop n l
drop_sets_le n l i [] h = refl
drop_sets_le n l i (a ∷ x) h =
    drop_sets_le n (set l i a) (suc i) x (omega arith) ∙ drop-set-lt n l i a (omega arith)

-- a run behind the list's end
pub sets_out : (l : List ℕ) (i : ℕ) (x : List ℕ) → length l ≤ i → sets l i x ≡ l
sets_out l i [] h = refl
sets_out l i (a ∷ x) h =
    ap (λ m. sets m (suc i) x) (set_out l i a h) ∙ sets_out l (suc i) x (omega arith)
