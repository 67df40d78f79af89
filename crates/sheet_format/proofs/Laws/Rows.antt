-- Laws of the bytes of instructions: how many there are.
use Prim.Native.Nat.{ℕ, ◌+◌, ◌*◌, ◌≤◌}
use native.Mathlib.Omega.{arith}
use mathlib.Core.Path.{◌≡◌, refl, sym, ap, ◌∙◌}
use mathlib.Core.List.{List, [], ◌∷◌, ◌++◌, map, append_assoc}
use lib.ListN.{length, get_or, length-append}
use Rattle.file_format.specs.declared.accepted.Op.TheVariants.{Set, Add, Load, Store, Lock, Unlock, Skip}
use Rattle.sheet_format.specs.Layout.{Instr, op, barrier}
use Rattle.sheet_format.specs.declared.Level.{Level}
use Rattle.sheet_format.specs.Bytes.{instr_bytes, joined, lane_bytes}

pub instr_length : (l : Level) (i : Instr) → length (instr_bytes l i) ≡ 8
instr_length l (op (Set a c)) = refl
instr_length l (op (Add a b)) = refl
instr_length l (op (Load a x)) = refl
instr_length l (op (Store a x)) = refl
instr_length l (op (Lock x)) = refl
instr_length l (op (Unlock x)) = refl
instr_length l (op (Skip a t)) = refl
instr_length l (barrier b) = refl

pub lane_bytes_lem : (l : Level) (is : List Instr) → length (lane_bytes l is) ≡ 8 * length is
lane_bytes_lem l [] = refl
lane_bytes_lem l (i ∷ is) =
    omega (arith, length-append (instr_bytes l i) (lane_bytes l is), instr_length l i, lane_bytes_lem l is)

-- the instructions of all lanes
abbrev pub total : List (List Instr) → ℕ
total [] = 0
total (x ∷ xs) = length x + total xs

pub lanes_bytes : (l : Level) (xs : List (List Instr)) → length (joined (map (lane_bytes l) xs)) ≡ 8 * total xs
lanes_bytes l [] = refl
lanes_bytes l (x ∷ xs) =
    omega (arith, length-append (lane_bytes l x) (joined (map (lane_bytes l) xs)), lane_bytes_lem l x, lanes_bytes l xs)

pub bytes_append : (l : Level) (xs ys : List Instr) → lane_bytes l (xs ++ ys) ≡ lane_bytes l xs ++ lane_bytes l ys
bytes_append l [] ys = refl
bytes_append l (x ∷ xs) ys =
    ap (λ z. instr_bytes l x ++ z) (bytes_append l xs ys)
    ∙ sym (append_assoc (instr_bytes l x) (lane_bytes l xs) (lane_bytes l ys))

-- what four lanes hold
pub total_four : (xs : List (List Instr)) → length xs ≤ 4
    → total xs
    ≡ length (get_or xs 0 []) + (length (get_or xs 1 []) + (length (get_or xs 2 []) + length (get_or xs 3 [])))
total_four [] h = refl
total_four (a ∷ []) h = omega arith
total_four (a ∷ b ∷ []) h = omega arith
total_four (a ∷ b ∷ c ∷ []) h = omega arith
total_four (a ∷ b ∷ c ∷ d ∷ []) h = omega arith
total_four (a ∷ b ∷ c ∷ d ∷ e ∷ xs) h = absurd (omega arith)
