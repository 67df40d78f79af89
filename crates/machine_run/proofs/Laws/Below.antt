-- Laws of `all` over the numbers below a bound.
use Prim.Native.Nat.{ℕ, ◌<◌}
use mathlib.Core.Path.{◌≡◌, subst}
use mathlib.Core.Bool.{Bool, true, false}
use native.Mathlib.Omega.{arith}
use lib.ListN.{length, get_or}
use Rattle.std.specs.Bool.{MatchBool}
use Rattle.std.specs.List.{range_with_len, AllWithin, HoldsAt}
use Rattle.std.proofs.lemmas.List.FromFn.{length-range_with_len, get_or-range_with_len}

in_range : (n t : ℕ) → t < n → get_or (range_with_len 0 n) t 0 ≡ t
in_range n t l = omega (arith, get_or-range_with_len 0 n t 0 l)

-- the answer is b, where all the numbers that pass make b true, and one that does not makes it false
pub all_below : (n : ℕ) {Yes No : ℕ → Type 0} {b : Bool} (r : Bool)
    → MatchBool r (AllWithin Yes (range_with_len 0 n) 0 (length (range_with_len 0 n)))
    ((k : ℕ) × (k < length (range_with_len 0 n)) × HoldsAt No (range_with_len 0 n) k)
    → (((t : ℕ) → t < n → Yes t) → true ≡ b) → ((t : ℕ) → t < n → No t → false ≡ b) → r ≡ b
all_below n {Yes} {No} true h holds fails =
    holds (λ t l. subst Yes (in_range n t l)
    (h t 0 (omega arith) (omega (arith, length-range_with_len 0 n))))
all_below n {Yes} {No} false h holds fails =
    let l : h.0 < n = omega (arith, length-range_with_len 0 n, h.1) in
    fails h.0 l (subst No (in_range n h.0 l) (h.2 0))
