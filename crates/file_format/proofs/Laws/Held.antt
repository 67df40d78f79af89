-- Laws of held sets: a set stays one of four flags; the set after one operation more.
use mathlib.Core.Path.{◌≡◌, refl, ap, ◌∙◌}
use mathlib.Core.Bool.{Bool, true, false}
use mathlib.Core.List.{List, [], ◌∷◌}
use mathlib.Core.Option.{some}
use Prim.Native.Nat.{ℕ, zero, suc}
use lib.ListN.{length, get_elem?, take, length-set}
use Rattle.file_format.specs.declared.accepted.Op.{Op}
use Rattle.file_format.specs.declared.accepted.Op.TheVariants.{Set, Add, Load, Store, Lock, Unlock, Skip}
use Rattle.file_format.specs.Held.{after, held_from}

after_length : (h : List Bool) (o : Op) → length (after h o) ≡ length h
after_length h (Set a c) = refl
after_length h (Add a c) = refl
after_length h (Load a x) = refl
after_length h (Store a x) = refl
after_length h (Lock k) = length-set h k true
after_length h (Unlock k) = length-set h k false
after_length h (Skip a t) = refl

pub held_length : (h : List Bool) (os : List Op) → length (held_from h os) ≡ length h
unfolding held_from
held_length h [] = refl
held_length h (o ∷ os) = held_length (after h o) os ∙ after_length h o

pub held_next : (h : List Bool) (os : List Op) (p : ℕ) (o : Op) → get_elem? os p ≡ some o
    → held_from h (take (suc p) os) ≡ after (held_from h (take p os)) o
unfolding held_from
held_next h [] p o e = cc
held_next h (x ∷ os) zero o e = let q : x ≡ o = cc in ap (after h) q
held_next h (x ∷ os) (suc p) o e = held_next (after h x) os p o e
