-- Laws of membership and of positions in a chain.
use Prim.Native.Nat.{ℕ, zero, suc, ◌≤◌, ◌<◌}
use mathlib.Core.Path.{◌≡◌, refl, sym, ◌∙◌}
use mathlib.Core.List.{List, [], ◌∷◌}
use mathlib.Core.Bool.{Bool, true, false, false≢true}
use mathlib.Core.Logic.{◌⊎◌, inl, inr, ⊎_elim}
use native.Mathlib.Omega.{arith}
use borrow.Author.Tests.{eq-eqb, ne_eqb, eqb-true, eqb-false}
use lib.ListN.{length, get_or}
use lib.Dec.{eqb}
use Rattle.file_format.specs.Targets.{member, position}

pub member_here : (x y : ℕ) (ys : List ℕ) → x ≡ y → member x (y ∷ ys) ≡ true
unfolding member
member_here x y ys h = rw (eq-eqb x y h, member)

pub member_on : (x y : ℕ) (ys : List ℕ) → (x ≡ y → ⊥) → member x (y ∷ ys) ≡ member x ys
unfolding member
member_on x y ys h = rw (ne_eqb x y h, member)

pub position_here : (r x : ℕ) (xs : List ℕ) → r ≡ x → position r (x ∷ xs) ≡ 0
unfolding position
position_here r x xs h = rw (eq-eqb r x h, position)

pub position_on : (r x : ℕ) (xs : List ℕ) → (r ≡ x → ⊥) → position r (x ∷ xs) ≡ suc (position r xs)
unfolding position
position_on r x xs h = rw (ne_eqb r x h, position)

pub position_le : (r : ℕ) (xs : List ℕ) → position r xs ≤ length xs
unfolding position
position_le r [] = omega arith
position_le r (x ∷ xs) = go (eqb r x) refl (position_le r xs)
  where
    go : (b : Bool) → eqb r x ≡ b → position r xs ≤ length xs → position r (x ∷ xs) ≤ suc (length xs)
    go true h ih = omega (arith, position_here r x xs (eqb-true r x h))
    go false h ih = omega (arith, position_on r x xs (eqb-false r x h))

-- a record's position in a chain that has it
pub member_position : (x : ℕ) (l : List ℕ) → member x l ≡ true → position x l < length l
unfolding member position
member_position x [] h = absurd (false≢true h)
member_position x (y ∷ l) h = go (eqb x y) refl (member_position x l)
  where
    go : (b : Bool) → eqb x y ≡ b → (member x l ≡ true → position x l < length l)
        → position x (y ∷ l) < suc (length l)
    go true e ih = omega (arith, position_here x y l (eqb-true x y e))
    go false e ih =
        let apart = eqb-false x y e in
        omega (arith, position_on x y l apart, ih (sym (member_on x y l apart) ∙ h))

-- what stands at the position of a number that the list has, or of 0, which is read past the end too
pub position_at : (x : ℕ) (l : List ℕ) → (x ≡ 0) ⊎ (position x l < length l) → get_or l (position x l) 0 ≡ x
unfolding position
position_at x [] (inl z) = sym z
position_at x [] (inr h) = absurd (omega arith)
position_at x (y ∷ l) h = go (eqb x y) refl (position_at x l)
  where
    go : (b : Bool) → eqb x y ≡ b → ((x ≡ 0) ⊎ (position x l < length l) → get_or l (position x l) 0 ≡ x)
        → get_or (y ∷ l) (position x (y ∷ l)) 0 ≡ x
    go true e ih = rw (position_here x y l (eqb-true x y e)) (sym (eqb-true x y e))
    go false e ih =
        let there = position_on x y l (eqb-false x y e) in
        rw there (ih (⊎_elim inl (λ k. inr (omega (arith, there))) h))

pub at_member : (x : ℕ) (l : List ℕ) (q : ℕ) → q < length l → get_or l q 0 ≡ x → member x l ≡ true
unfolding member
at_member x [] q h e = absurd (omega arith)
at_member x (y ∷ l) zero h e = member_here x y l (sym e)
at_member x (y ∷ l) (suc q) h e = go (eqb x y) refl (at_member x l q (omega arith) e)
  where
    go : (b : Bool) → eqb x y ≡ b → member x l ≡ true → member x (y ∷ l) ≡ true
    go true f ih = member_here x y l (eqb-true x y f)
    go false f ih = member_on x y l (eqb-false x y f) ∙ ih
