-- Laws of the marks in a pending list: which of them stand after an SS and after a commit.
use Prim.Native.Nat.{ℕ, zero, suc, ◌+◌, ◌-◌, ◌*◌, ◌/◌, ◌%◌, ◌^◌, ◌<◌}
use mathlib.Core.Path.{◌≡◌, refl, ap, sym, ◌∙◌}
use mathlib.Core.Bool.{true, false, not, ◌&&◌}
use mathlib.Core.List.{List}
use mathlib.Core.Option.{some}
use native.Mathlib.Nat.{mod-lt, one-mul, pow-suc}
use native.Mathlib.Numerals.{add-one}
use native.Mathlib.Omega.{arith}
use lib.Dec.{eqb}
use lib.ListN.{length, get_elem?, take}
use lib.Bits.{or_lt}
use lib.Pow.{pow-lt, shl-shr, shr-shr, mod-pow-add}
use lib.Seq.{length-take-le}
use borrow.Author.Tests.{eqb-true, ne_eqb}
use Rattle.laws.proofs.Bools.{or_right}
use Rattle.laws.proofs.Lists.{some_at}
use Rattle.barrier_placement.proofs.Laws.Bits.{bit_or_lem, bit_low, bit_zero}
use Rattle.machine_spec.specs.Marks.{mark_at, no_mark, after_ss, after_commit}

-- nothing is older than the oldest entry
pub none_before_oldest : (ks : ℕ) → no_mark 0 ks ≡ true
none_before_oldest ks = let all : ks % 1 ≡ 0 = omega arith in ap (λ n. eqb n 0) all

-- an entry has as many older ones as its place says
pub length_at : {A : Type 0} (xs : List A) (i : ℕ) (x : A) → get_elem? xs i ≡ some x → length (take i xs) ≡ i
length_at xs i x h = length-take-le i xs (omega (arith, (some_at xs i x x h).0))

-- ## after an SS

own_mark : (n : ℕ) → mark_at (2 ^ n) n ≡ true
own_mark n = ap (λ x. eqb (x / 2 ^ n % 2) 1) (sym (one-mul (2 ^ n))) ∙ ap (λ x. eqb (x % 2) 1) (shl-shr 1 n)

pub ss_keeps : (n j ks : ℕ) → mark_at ks j ≡ true → mark_at (after_ss n ks) j ≡ true
ss_keeps zero j ks h = h
ss_keeps (suc n) j ks h = bit_or_lem ks (2 ^ n) j ∙ rw h refl

pub ss_marks : (n ks : ℕ) → mark_at (after_ss (suc n) ks) n ≡ true
ss_marks n ks = bit_or_lem ks (2 ^ n) n ∙ or_right (mark_at ks n) (mark_at (2 ^ n) n) (own_mark n)

pub ss_behind : (n ks : ℕ) → ks < 2 ^ n → after_ss n ks < 2 ^ n
ss_behind zero ks h = h
ss_behind (suc n) ks h = or_lt (suc n) ks (2 ^ n) h (pow-lt (omega arith))

-- ## after a commit

pub commit_behind : (n ks : ℕ) → ks < 2 ^ suc n → after_commit ks < 2 ^ n
commit_behind n ks h = omega (arith, pow-suc 2 n)

pub commit_shifts : (j ks : ℕ) → mark_at (after_commit ks) j ≡ mark_at ks (suc j)
commit_shifts j ks =
    let next : 1 + j ≡ suc j = omega arith in
    ap (λ n. eqb (n % 2) 1) (shr-shr ks 1 j) ∙ ap (mark_at ks) next

-- ## what no_mark says

pub no_mark_at : (n j ks : ℕ) → no_mark n ks ≡ true → j < n → mark_at ks j ≡ false
no_mark_at n j ks h lt =
    let all : n - 1 - j + 1 + j ≡ n = omega arith in
    sym (bit_low ks (n - 1 - j) j) ∙ ap (λ m. mark_at (ks % 2 ^ m) j) all ∙ ap (λ x. mark_at x j) (eqb-true _ 0 h)
    ∙ bit_zero j

halves : (x y : ℕ) → y < 2 → eqb (x * 2 + y) 0 ≡ (not (eqb y 1) && eqb x 0)
halves zero zero h = refl
halves (suc x) zero h = ne_eqb (suc x * 2 + 0) 0 (λ e. omega arith) ∙ sym (ne_eqb (suc x) 0 (λ e. omega arith))
halves x (suc zero) h = ne_eqb (x * 2 + 1) 0 (λ e. omega arith)
halves x (suc (suc y)) h = absurd (omega arith)

-- bit after bit
pub no_mark_suc : (n ks : ℕ) → no_mark (suc n) ks ≡ (not (eqb (ks % 2) 1) && no_mark n (ks / 2))
no_mark_suc n ks =
    ap (λ x. eqb x 0) (ap (λ m. ks % 2 ^ m) (sym (add-one n)) ∙ mod-pow-add ks n 1)
    ∙ halves (ks / 2 % 2 ^ n) (ks % 2) (mod-lt ks (omega arith))
