-- Laws of the operations of a chain.
use Prim.Native.Nat.{ℕ, zero, suc, ◌+◌, ◌<◌}
use mathlib.Core.Path.{◌≡◌, ap, ◌∙◌}
use mathlib.Core.List.{List, [], ◌∷◌}
use native.Mathlib.Omega.{arith}
use lib.ListN.{get_or, length, drop}
use Rattle.file_format.specs.declared.accepted.Op.{Op}
use Rattle.file_format.specs.Accepted.{op_of, ops_from, ops_of}

ops_from_at : (s : List ℕ) (n : ℕ) (rs : List ℕ) (p : ℕ) (d : Op) → p < length rs
    → get_or (ops_from s n rs) p d ≡ op_of s (n + p) (drop (suc p) rs) (get_or rs p 0)
unfolding ops_from
ops_from_at s n [] p d h = absurd (omega arith)
ops_from_at s n (r ∷ rest) zero d h = ap (λ m. op_of s m rest r) (omega arith)
ops_from_at s n (r ∷ rest) (suc p) d h =
    ops_from_at s (suc n) rest p d (omega arith)
    ∙ ap (λ m. op_of s m (drop (suc p) rest) (get_or rest p 0)) (omega arith)

pub ops_of_at : (s rs : List ℕ) (p : ℕ) (d : Op) → p < length rs
    → get_or (ops_of s rs) p d ≡ op_of s p (drop (p + 1) rs) (get_or rs p 0)
ops_of_at s rs p d h =
    let q : 0 + p ≡ p = omega arith in
    let n : p + 1 ≡ suc p = omega arith in
    rw n (rw q at (ops_from_at s 0 rs p d h))
