-- Laws of bytes: the number that two or four of them make, and eight of them in a row.
use Prim.Native.Nat.{ℕ, suc, ◌+◌, ◌*◌, ◌/◌, ◌%◌, ◌^◌, ◌≤◌, ◌<◌}
use mathlib.Core.Path.{◌≡◌, refl, sym, ap, ◌∙◌}
use mathlib.Core.Bool.{Bool, true}
use mathlib.Core.List.{List, [], ◌∷◌, ◌++◌}
use native.Mathlib.Omega.{arith}
use lib.Dec.{ltb}
use lib.ListN.{length, get_or, take, drop, set, length-drop}
use lib.Seq.{sets, set-set, take-suc, get_or-drop}
use borrow.Author.Tests.{ltb-true}
use mir.Val.{bool_byte}
use Rattle.laws.proofs.Bools.{by_test}
use Rattle.laws.proofs.Parts.{get_d_behind, before_sets}

pub bool_byte_small : (b : Bool) → bool_byte b ≤ 1
bool_byte_small = by_test (λ b. bool_byte b ≤ 1) (omega arith) (omega arith)

pub word_back : (c : ℕ) → c < 65536 → c % 256 + 256 * (c / 256 % 256) ≡ c
word_back c h = omega arith

pub quad_back : (c : ℕ) → c < 2 ^ 32
    → c % 256 + 256 * (c / 256 % 256) + 65536 * (c / 65536 % 256 + 256 * (c / 65536 / 256 % 256)) ≡ c
quad_back c h = omega arith

-- ## eight in a row

-- eight bytes in place, and the fifth of them written anew
pub fifth_stored : (l : List ℕ) (i a b c d e f g h v : ℕ)
    → set (sets l i (a ∷ b ∷ c ∷ d ∷ e ∷ f ∷ g ∷ h ∷ [])) (i + 4) v
    ≡ sets l i (a ∷ b ∷ c ∷ d ∷ v ∷ f ∷ g ∷ h ∷ [])
fifth_stored l i a b c d e f g h v =
    let m = sets l i (a ∷ b ∷ c ∷ d ∷ []) in
    let j : i + 4 ≡ suc (suc (suc (suc i))) = omega arith in
    rw j
    (before_sets (set m (suc (suc (suc (suc i)))) e) (suc (suc (suc (suc (suc i))))) (suc (suc (suc (suc i))))
    (f ∷ g ∷ h ∷ []) v (omega arith)
    ∙ ap (λ k. sets k (suc (suc (suc (suc (suc i))))) (f ∷ g ∷ h ∷ []))
    (set-set m (suc (suc (suc (suc i)))) e v))

-- eight elements one by one
pub eight_taken : (l : List ℕ) (k : ℕ) → k + 8 ≤ length l
    → get_or l k 0 ∷ get_or l (k + 1) 0 ∷ get_or l (k + 2) 0 ∷ get_or l (k + 3) 0
    ∷ get_or l (k + 4) 0 ∷ get_or l (k + 5) 0 ∷ get_or l (k + 6) 0 ∷ get_or l (k + 7) 0
    ∷ []
    ≡ take 8 (drop k l)
eight_taken l k h =
    let m = drop k l in
    let at : (i : ℕ) → get_or l (k + i) 0 ≡ get_or m i 0 = λ i. sym (get_or-drop k l i 0) in
    let first : get_or l k 0 ≡ get_or m 0 0 = get_d_behind l k 0 k (omega arith) in
    let more : (n : ℕ) → ltb n 8 ≡ true → take (suc n) m ≡ take n m ++ get_or m n 0 ∷ [] =
    λ n e. take-suc m n 0 (omega (arith, ltb-true n 8 e, length-drop k l)) in
    (λ j. first j ∷ at 1 j ∷ at 2 j ∷ at 3 j ∷ at 4 j ∷ at 5 j ∷ at 6 j ∷ at 7 j ∷ [])
    ∙ sym (rw (more 7 refl, more 6 refl, more 5 refl, more 4 refl, more 3 refl, more 2 refl, more 1 refl, more 0 refl))
