-- The entries of a pending list with the bits of its marks are the paper's list with its marks: what each move of the
-- pso machine makes of them is what the paper makes of that list.
use Prim.Native.Nat.{ℕ, zero, suc, ◌/◌, ◌%◌, ◌^◌, ◌<◌}
use mathlib.Core.Path.{◌≡◌, refl, ap, ap₂, sym, ◌∙◌}
use mathlib.Core.Bool.{Bool, true, false, not, ◌&&◌, cond}
use mathlib.Core.List.{List, [], ◌∷◌, ◌++◌}
use mathlib.Core.Option.{some}
use native.Mathlib.Nat.{div-one, pow-suc}
use native.Mathlib.Omega.{arith}
use borrow.Author.Tests.{not-true}
use lib.Bits.{bit_or, or_zero_r, or_shr, or_mod}
use lib.Dec.{eqb}
use lib.ListN.{length, get_elem?, take}
use Rattle.laws.proofs.Bools.{by_test, and_true}
use Rattle.machine_spec.specs.Entries.{Entry, any_same, without}
use Rattle.machine_spec.specs.Marks.{mark_at, no_mark, after_ss, after_commit}
use Rattle.machine_spec.specs.Listed.{EntryOrMark, entry, mark, listed, entries, mark_behind, ends_in_entry}
use Rattle.machine_spec.specs.Listed.{pass_ss, older, any_mark, may_leave, removed, vanish}
use Rattle.machine_spec.specs.declared.Machine.TheVariants.{Target}
use Rattle.machine_spec.specs.declared.Model.TheVariants.{Pso}
use Rattle.machine_spec.specs.Rules.{may_commit}
use Rattle.machine_spec.proofs.Laws.Marks.{none_before_oldest, ss_marks, commit_shifts, no_mark_suc, length_at}

-- a list with or without a mark in front
abbrev marked : Bool → List EntryOrMark → List EntryOrMark
marked b xs = cond b (mark ∷ xs) xs

-- its marks left out, it is the list of entries
pub entries_listed : (es : List Entry) (ks : ℕ) → entries (listed es ks) ≡ es
entries_listed [] ks = refl
entries_listed (e ∷ es) ks = ap (λ l. e ∷ l) (go (eqb (ks % 2) 1) ∙ entries_listed es (ks / 2))
  where
    go : (b : Bool) → entries (marked b (listed es (ks / 2))) ≡ entries (listed es (ks / 2))
    go true = refl
    go false = refl

-- each mark is where its bit says
pub mark_listed : (i : ℕ) (es : List Entry) (ks : ℕ) → i < length es → mark_behind i (listed es ks) ≡ mark_at ks i
mark_listed i [] ks h = absurd (omega arith)
mark_listed zero (x ∷ es) ks h = first es (eqb (ks % 2) 1) ∙ ap (λ n. eqb (n % 2) 1) (sym (div-one ks))
  where
    first : (es : List Entry) (b : Bool) → mark_behind 0 (entry x ∷ marked b (listed es (ks / 2))) ≡ b
    first es true = refl
    first [] false = refl
    first (y ∷ es) false = refl
mark_listed (suc i) (x ∷ es) ks h =
    by_test (λ b. mark_behind i (marked b (listed es (ks / 2))) ≡ mark_behind i (listed es (ks / 2))) refl refl
    (eqb (ks % 2) 1)
    ∙ mark_listed i es (ks / 2) (omega arith) ∙ commit_shifts i ks

-- ## SS

-- an SS behind two or more leaves the first bit, and is one behind one fewer for the rest
module _ (n ks : ℕ) where
  half : 2 ^ suc n / 2 ≡ 2 ^ n
  half = omega (arith, pow-suc 2 n)

  first_stays : after_ss (suc (suc n)) ks % 2 ≡ ks % 2
  first_stays =
      let even : 2 ^ suc n % 2 ≡ 0 = omega (arith, pow-suc 2 n) in
      or_mod ks (2 ^ suc n) 1 ∙ ap (bit_or (ks % 2)) even ∙ or_zero_r (ks % 2)

  rest_shifts : after_ss (suc (suc n)) ks / 2 ≡ after_ss (suc n) (ks / 2)
  rest_shifts = or_shr ks (2 ^ suc n) 1 ∙ ap (bit_or (ks / 2)) half

-- SS at the end of a list whose first entry has its mark or has none
pass_on : (x y : Entry) (b : Bool) (xs : List EntryOrMark)
    → pass_ss (entry x ∷ marked b (entry y ∷ xs)) ≡ entry x ∷ marked b (pass_ss (entry y ∷ xs))
pass_on x y true xs =
    let ys : List EntryOrMark = entry y ∷ xs in
    by_test (λ t. cond t (entry x ∷ mark ∷ ys ++ (mark ∷ [])) (entry x ∷ mark ∷ ys)
    ≡ entry x ∷ mark ∷ cond t (ys ++ (mark ∷ [])) ys) refl refl (ends_in_entry ys)
pass_on x y false xs =
    let ys : List EntryOrMark = entry y ∷ xs in
    by_test (λ t. cond t (entry x ∷ ys ++ (mark ∷ [])) (entry x ∷ ys) ≡ entry x ∷ cond t (ys ++ (mark ∷ [])) ys)
    refl refl (ends_in_entry ys)

pub ss_listed : (es : List Entry) (ks : ℕ) → listed es (after_ss (length es) ks) ≡ pass_ss (listed es ks)
ss_listed [] ks = refl
ss_listed (x ∷ []) ks =
    let odd : eqb (bit_or ks 1 % 2) 1 ≡ true =
    ap (λ n. eqb (n % 2) 1) (sym (div-one (bit_or ks 1))) ∙ ss_marks 0 ks in
    rw odd (by_test (λ b. entry x ∷ mark ∷ [] ≡ pass_ss (entry x ∷ marked b [])) refl refl (eqb (ks % 2) 1))
ss_listed (x ∷ y ∷ es) ks =
    ap (λ n. entry x ∷ marked (eqb n 1) (listed (y ∷ es) (after_ss (length (x ∷ y ∷ es)) ks / 2)))
    (first_stays (length es) ks)
    ∙ ap (λ n. entry x ∷ marked (eqb (ks % 2) 1) (listed (y ∷ es) n)) (rest_shifts (length es) ks)
    ∙ ap (λ l. entry x ∷ marked (eqb (ks % 2) 1) l) (ss_listed (y ∷ es) (ks / 2))
    ∙ sym (pass_on x y (eqb (ks % 2) 1) _)

-- ## a commit

older_listed : (i : ℕ) (es : List Entry) (ks : ℕ) (e : Entry) → get_elem? es i ≡ some e
    → (not (any_mark (older i (listed es ks))) ≡ no_mark i ks) × (entries (older i (listed es ks)) ≡ take i es)
older_listed i [] ks e k = let z : ◌≡◌ {A = ℕ} 0 1 = cc in absurd (omega arith)
older_listed zero (x ∷ es) ks e k = (sym (none_before_oldest ks), refl)
older_listed (suc i) (x ∷ es) ks e k = go (eqb (ks % 2) 1) refl (older_listed i es (ks / 2) e k)
  where
    go : (b : Bool) → eqb (ks % 2) 1 ≡ b
        → (not (any_mark (older i (listed es (ks / 2)))) ≡ no_mark i (ks / 2))
        × (entries (older i (listed es (ks / 2))) ≡ take i es)
        → (not (any_mark (older i (marked b (listed es (ks / 2))))) ≡ no_mark (suc i) ks)
        × (x ∷ entries (older i (marked b (listed es (ks / 2)))) ≡ x ∷ take i es)
    go true h ih = (sym (no_mark_suc i ks ∙ ap (λ t. not t && no_mark i (ks / 2)) h), ap (λ l. x ∷ l) ih.1)
    go false h ih =
        (ih.0 ∙ sym (no_mark_suc i ks ∙ ap (λ t. not t && no_mark i (ks / 2)) h), ap (λ l. x ∷ l) ih.1)

-- may it commit
pub may_leave_lem : (vol : ℕ → Bool) (i : ℕ) (es : List Entry) (ks : ℕ) (e : Entry) → get_elem? es i ≡ some e
    → may_commit (Target Pso) vol ks (take i es) e ≡ may_leave i e (listed es ks)
may_leave_lem vol i es ks e k =
    let h = older_listed i es ks e k in
    ap (λ n. no_mark n ks && not (any_same e (take i es))) (length_at es i e k)
    ∙ ap₂ (λ b l. b && not (any_same e l)) (sym h.0) (sym h.1)

vanish_listed : (b : Bool) (es : List Entry) (ks : ℕ) → vanish (marked b (listed es ks)) ≡ listed es ks
vanish_listed true [] ks = refl
vanish_listed true (e ∷ es) ks = refl
vanish_listed false [] ks = refl
vanish_listed false (e ∷ es) ks = refl

removed_listed : (i : ℕ) (es : List Entry) (ks : ℕ) (e : Entry) → get_elem? es i ≡ some e → no_mark i ks ≡ true
    → removed i (listed es ks) ≡ marked (eqb (ks % 2) 1) (listed (without i es) (ks / 2))
removed_listed i [] ks e k h = let z : ◌≡◌ {A = ℕ} 0 1 = cc in absurd (omega arith)
removed_listed zero (x ∷ es) ks e k h = refl
removed_listed (suc i) (x ∷ es) ks e k h =
    let p = and_true (not (eqb (ks % 2) 1)) (no_mark i (ks / 2)) (sym (no_mark_suc i ks) ∙ h) in
    let even : eqb (ks % 2) 1 ≡ false = not-true (eqb (ks % 2) 1) p.0 in
    rw even (ap (λ l. entry x ∷ l) (removed_listed i es (ks / 2) e k p.1))

-- and what it leaves
pub commit_listed : (i : ℕ) (es : List Entry) (ks : ℕ) (e : Entry) → get_elem? es i ≡ some e → no_mark i ks ≡ true
    → listed (without i es) (after_commit ks) ≡ vanish (removed i (listed es ks))
commit_listed i es ks e k h =
    sym (ap vanish (removed_listed i es ks e k h) ∙ vanish_listed (eqb (ks % 2) 1) (without i es) (ks / 2))

-- ## STORE and UNLOCK

-- where each mark stands behind an entry
pub append_listed : (es : List Entry) (ks : ℕ) (e : Entry) → ks < 2 ^ length es
    → listed (es ++ (e ∷ [])) ks ≡ listed es ks ++ (entry e ∷ [])
append_listed [] ks e h = let none : ks ≡ 0 = omega arith in rw none refl
append_listed (x ∷ es) ks e h =
    ap (λ l. entry x ∷ marked (eqb (ks % 2) 1) l)
    (append_listed es (ks / 2) e (omega (arith, pow-suc 2 (length es))))
    ∙ by_test (λ b. entry x ∷ marked b (listed es (ks / 2) ++ (entry e ∷ []))
    ≡ (entry x ∷ marked b (listed es (ks / 2))) ++ (entry e ∷ [])) refl refl (eqb (ks % 2) 1)
