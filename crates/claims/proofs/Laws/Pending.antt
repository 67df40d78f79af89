-- Pending lists: their volatile stores and releases, which entries may commit, and the marks that part them.
use mathlib.Core.Path.{◌≡◌, refl, ap, sym, subst, ◌∙◌}
use mathlib.Core.Bool.{Bool, true, false, ◌||◌, cond, false≢true}
use mathlib.Core.List.{List, [], ◌∷◌, ◌++◌}
use mathlib.Core.Logic.{◌⊎◌, inl, inr}
use mathlib.Core.Option.{Option, none, some}
use Prim.Native.Nat.{ℕ, zero, suc, ◌≤◌, ◌<◌}
use native.Mathlib.Decide.{dec_lt}
use native.Mathlib.Omega.{arith}
use lib.Dec.{eqb}
use lib.ListN.{length, get_elem?, take, length-append}
use borrow.Author.Tests.{eqb-true}
use Rattle.laws.proofs.Bools.{or_right, or_false, or_swap, or_mono, by_test}
use Rattle.machine_spec.specs.Entries.{Entry, write, release, is_sync, any_sync, is_nil, newest, append_entry, without}
use Rattle.machine_spec.specs.declared.Machine.{Machine}
use Rattle.machine_spec.specs.declared.Machine.TheVariants.{Source, Target}
use Rattle.machine_spec.specs.declared.Model.TheVariants.{Tso, Pso}
use Rattle.machine_spec.specs.Marks.{mark_at, no_mark, after_ss, after_commit}
use Rattle.machine_spec.specs.Rules.{may_commit}
use Rattle.machine_spec.proofs.Laws.Marks.{none_before_oldest, ss_marks, commit_shifts, no_mark_at}

pub sync_snoc : (vol : ℕ → Bool) (es : List Entry) (e : Entry)
    → any_sync vol (es ++ (e ∷ [])) ≡ is_sync vol e || any_sync vol es
sync_snoc vol [] e = refl
sync_snoc vol (x ∷ es) e = rw (sync_snoc vol es e) (or_swap (is_sync vol x) (is_sync vol e) (any_sync vol es))

-- a list that lost an entry has no sync entry that it did not have before
pub sync_without : (vol : ℕ → Bool) (i : ℕ) (es : List Entry) → any_sync vol (without i es) ≡ true
    → any_sync vol es ≡ true
sync_without vol zero [] h = h
sync_without vol zero (x ∷ es) h = or_right (is_sync vol x) (any_sync vol es) h
sync_without vol (suc i) [] h = h
sync_without vol (suc i) (x ∷ es) h = or_mono (is_sync vol x) (sync_without vol i es) h

-- a list with no sync entry holds no value for a volatile location
pub newest_sync : (vol : ℕ → Bool) (x m : ℕ) (es : List Entry) → vol x ≡ true → any_sync vol es ≡ false
    → newest x m es ≡ m
newest_sync vol x m [] v h = refl
newest_sync vol x m (write y n ∷ es) v h =
    go (eqb y x) refl (newest_sync vol x m es v (or_false (vol y) (any_sync vol es) h).1)
  where
    go : (b : Bool) → eqb y x ≡ b → newest x m es ≡ m → newest x (cond (eqb y x) n m) es ≡ m
    go false k ih = rw k ih
    go true k ih =
        let same : y ≡ x = eqb-true y x k in
        let plain : vol y ≡ false = (or_false (vol y) (any_sync vol es) h).0 in
        cc
newest_sync vol x m (release l ∷ es) v h = cc

pub nil_sync : (vol : ℕ → Bool) (es : List Entry) → is_nil es ≡ true → any_sync vol es ≡ false
nil_sync vol [] h = refl
nil_sync vol (x ∷ es) h = cc

-- the oldest entry may commit on every machine
pub oldest_commits : (m : Machine) (vol : ℕ → Bool) (ks : ℕ) (older : List Entry) (e : Entry) → is_nil older ≡ true
    → may_commit m vol ks older e ≡ true
oldest_commits m vol ks (y ∷ older) e h = cc
oldest_commits (Target Tso) vol ks [] e h = refl
oldest_commits (Target Pso) vol ks [] e h = rw (none_before_oldest ks)
oldest_commits Source vol ks [] e h = by_test (λ b. cond b true true ≡ true) refl refl (is_sync vol e)

-- ## lists that get an entry, or lose one

pub length_append_entry : (es : List Entry) (x : Option Entry) → length (append_entry es x) ≤ suc (length es)
length_append_entry es none = omega arith
length_append_entry es (some e) = omega (arith, length-append es (e ∷ []))

pub length_without : (es : List Entry) (i : ℕ) (e : Entry) → get_elem? es i ≡ some e
    → length es ≡ suc (length (without i es))
length_without [] i e h = cc
length_without (x ∷ es) zero e h = refl
length_without (x ∷ es) (suc i) e h = ap suc (length_without es i e h)

without_before : (es : List Entry) (i j : ℕ) → j < i → get_elem? (without i es) j ≡ get_elem? es j
without_before [] zero j h = absurd (omega arith)
without_before [] (suc i) j h = refl
without_before (x ∷ es) zero j h = absurd (omega arith)
without_before (x ∷ es) (suc i) zero h = refl
without_before (x ∷ es) (suc i) (suc j) h = without_before es i j (omega arith)

without_after : (es : List Entry) (i j : ℕ) → i ≤ j → get_elem? (without i es) j ≡ get_elem? es (suc j)
without_after [] zero j h = refl
without_after [] (suc i) j h = refl
without_after (x ∷ es) zero j h = refl
without_after (x ∷ es) (suc i) zero h = absurd (omega arith)
without_after (x ∷ es) (suc i) (suc j) h = without_after es i j (omega arith)

-- ## marks

-- nothing, or a mark, stands right before an entry that is appended to n
abbrev pub sealed : ℕ → ℕ → Bool
sealed zero ks = true
sealed (suc n) ks = mark_at ks n

pub ss_seals : (n ks : ℕ) → sealed n (after_ss n ks) ≡ true
ss_seals zero ks = refl
ss_seals (suc n) ks = ss_marks n ks

pub commit_seals : (n ks : ℕ) → sealed (suc n) ks ≡ true → sealed n (after_commit ks) ≡ true
commit_seals zero ks h = refl
commit_seals (suc n) ks h = commit_shifts n ks ∙ h

-- a volatile store or release stands first, or right after a mark
abbrev pub Parted : (ℕ → Bool) → ℕ → List Entry → Type 0
Parted vol ks es = (j : ℕ) (e : Entry) → get_elem? es (suc j) ≡ some e → is_sync vol e ≡ true → mark_at ks j ≡ true

-- a commit keeps the rest parted
pub parted_without : (vol : ℕ → Bool) (ks : ℕ) (es : List Entry) (i : ℕ) → no_mark i ks ≡ true → Parted vol ks es
    → Parted vol (after_commit ks) (without i es)
parted_without vol ks es i h q j e k s = go (dec_lt (suc j) i)
  where
    go : Dec (suc j < i) → mark_at (after_commit ks) j ≡ true
    go (yes lt) =
        absurd (false≢true (sym (no_mark_at i j ks h (omega arith))
        ∙ q j e (sym (without_before es i (suc j) lt) ∙ k) s))
    go (no ge) = commit_shifts j ks ∙ q (suc j) e (sym (without_after es i (suc j) (omega arith)) ∙ k) s

-- one that no mark precedes, in a parted list, is the oldest
pub parted_oldest : (vol : ℕ → Bool) (ks : ℕ) (es : List Entry) (i : ℕ) (e : Entry) → no_mark i ks ≡ true
    → Parted vol ks es → get_elem? es i ≡ some e → is_sync vol e ≡ true → is_nil (take i es) ≡ true
parted_oldest vol ks es zero e h q k s = refl
parted_oldest vol ks es (suc i) e h q k s =
    absurd (false≢true (sym (no_mark_at (suc i) i ks h (omega arith)) ∙ q i e k s))

snoc_at : (es : List Entry) (x : Entry) (j : ℕ) (e : Entry) → get_elem? (es ++ (x ∷ [])) j ≡ some e
    → (get_elem? es j ≡ some e) ⊎ ((j ≡ length es) × (e ≡ x))
snoc_at [] x zero e h = inr (refl, cc)
snoc_at [] x (suc j) e h = inl h
snoc_at (y ∷ es) x zero e h = inl h
snoc_at (y ∷ es) x (suc j) e h = elim (snoc_at es x j e h) [ inl k ↦ inl k | inr k ↦ inr (ap suc k.0, k.1) ]

-- one that is appended right after a mark, or need not be
pub parted_snoc : (vol : ℕ → Bool) (ks : ℕ) (es : List Entry) (x : Entry)
    → (is_sync vol x ≡ true → sealed (length es) ks ≡ true) → Parted vol ks es → Parted vol ks (es ++ (x ∷ []))
parted_snoc vol ks es x h q j e k s = go (snoc_at es x (suc j) e k)
  where
    go : (get_elem? es (suc j) ≡ some e) ⊎ ((suc j ≡ length es) × (e ≡ x)) → mark_at ks j ≡ true
    go (inl w) = q j e w s
    go (inr w) = subst (λ (n : ℕ). sealed n ks ≡ true) (sym w.0) (h (rw w.1 at s))
