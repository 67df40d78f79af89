-- The held-set discipline of a lane at which the rule is nowhere broken, and that it takes its locks upward where no
-- LOCK descends, said of its operations.
use Prim.Native.Nat.{ℕ, zero, suc, ◌+◌, ◌-◌, ◌≤◌, ◌<◌, min}
use mathlib.Core.Path.{◌≡◌, refl, sym, ap, ◌∙◌}
use mathlib.Core.List.{List, [], ◌∷◌}
use mathlib.Core.Bool.{Bool, true, false, cond, true≢false, false≢true}
use mathlib.Core.Option.{some}
use lib.Dec.{ltb}
use lib.ListN.{get_or, get_elem?, length, take, get_or-eq_default}
use native.Mathlib.Omega.{arith}
use native.Mathlib.Decide.{dec_le}
use borrow.Author.Tests.{eq-eqb, ltb-true, not-false}
use Rattle.laws.proofs.Lists.{some_at, at_beyond}
use Rattle.file_format.specs.declared.accepted.Op.{Op}
use Rattle.file_format.specs.declared.accepted.Op.TheVariants.{Set, Add, Load, Store, Lock, Unlock, Skip}
use Rattle.file_format.specs.Search.{lowest}
use Rattle.file_format.specs.Held.{no_locks, same, held, held_from, jump_from, conflicts_by, conflict_below}
use Rattle.file_format.specs.Held.{conflict, misuse}
use Rattle.file_format.specs.Held.{fault_at, fault_position, record_at, lane_fault}
use Rattle.file_format.specs.Rising.{all_below, descent_at, descent_position, lane_descent}
use Rattle.file_format.specs.Lawful.{Bounded, Keeps}
use Rattle.file_format.proofs.Laws.Search.{nothing_found, all_at}
use Rattle.file_format.proofs.Laws.Held.{held_length}

-- a place of a lane whose records are none of them 0 names one of them, unless it is 0
named_none : (place : List Op → ℕ) → place [] ≡ 0 → (rs : List ℕ) (ops : List Op) → length rs ≡ length ops
    → ((p : ℕ) → p < length rs → 1 ≤ get_or rs p 0) → record_at rs (place ops) ≡ 0 → place ops ≡ 0
unfolding record_at
named_none place first [] [] len nonzero e = first
named_none place first [] (o ∷ ops) len nonzero e = absurd (omega arith)
named_none place first (r ∷ rs) ops len nonzero e = go (dec_le 1 (place ops))
  where
    inside : (i : ℕ) → 1 ≤ i → i ≤ length (r ∷ rs) → 1 ≤ get_or (0 ∷ r ∷ rs) i 0
    inside zero lo hi = absurd (omega arith)
    inside (suc i) lo hi = nonzero i (omega arith)

    go : Dec (1 ≤ place ops) → place ops ≡ 0
    go (no l) = omega arith
    go (yes l) =
        absurd (omega (arith, e, inside (min (place ops) (length (r ∷ rs))) (omega arith) (omega arith)))

pub unbroken : (rs : List ℕ) (ops : List Op) → length rs ≡ length ops
    → ((p : ℕ) → p < length rs → 1 ≤ get_or rs p 0) → lane_fault rs ops ≡ 0 → fault_position ops ≡ 0
unfolding fault_position lowest fault_at conflict_below held_from same
unbroken = named_none fault_position refl

module _ (rs : List ℕ) (ops : List Op) (len : length rs ≡ length ops)
    (nonzero : (p : ℕ) → p < length rs → 1 ≤ get_or rs p 0)
    (fine : lane_fault rs ops ≡ 0) where
  -- the rule holds at each position, and at the end
  unfaulted : (p : ℕ) → p ≤ length ops → fault_at ops p ≡ false
  unfolding fault_position
  unfaulted p h =
      let none = unbroken rs ops len nonzero fine in
      let back : p + 1 - 1 ≡ p = omega arith in
      ap (fault_at ops) (sym back)
      ∙ nothing_found (λ i. fault_at ops (i - 1)) 1 (length ops + 1) (p + 1) (omega arith) none (omega arith)
      (omega arith)

  neither : (a b : Bool) → cond a true b ≡ false → (a ≡ false) × (b ≡ false)
  neither true b e = absurd (true≢false e)
  neither false b e = (refl, e)

  split : (p : ℕ) → p ≤ length ops → (conflict ops p ≡ false) × (misuse (held ops p) (get_elem? ops p) ≡ false)
  unfolding fault_at
  split p h = neither (conflict ops p) (misuse (held ops p) (get_elem? ops p)) (unfaulted p h)

  -- each SKIP has the set of the position that it leads to, or leads elsewhere
  agreed : (n q p : ℕ) → conflict_below ops n q ≡ false → p < n
      → conflicts_by (jump_from (get_elem? ops p)) q (held ops p) (held ops q) ≡ false
  unfolding conflict_below
  agreed zero q p e h = absurd (omega arith)
  agreed (suc n) q p e h =
      go (dec_le (suc p) n)
      (neither (conflicts_by (jump_from (get_elem? ops n)) q (held ops n) (held ops q)) (conflict_below ops n q) e)
      (agreed n q p)
    where
      Agrees : ℕ → Type 0
      Agrees p = conflicts_by (jump_from (get_elem? ops p)) q (held ops p) (held ops q) ≡ false

      go : Dec (suc p ≤ n) → Agrees n × (conflict_below ops n q ≡ false)
          → (conflict_below ops n q ≡ false → p < n → Agrees p)
          → Agrees p
      go (yes l) both ih = ih both.1 l
      go (no l) both ih =
          let last : p ≡ n = omega arith in
          rw last both.0

  skip_agrees : (a q p : ℕ) → get_elem? ops p ≡ some (Skip a q) → p < length ops → q ≤ length ops
      → same (held ops p) (held ops q) ≡ true
  skip_agrees a q p e inside hi =
      let parts = rw (e, eq-eqb q q refl) at (agreed (length ops) q p (split q hi).0 inside) in
      not-false (same (held ops p) (held ops q)) parts

  pub keeps : (ls ks p : ℕ) (o : Op) → get_elem? ops p ≡ some o → Bounded ls ks (length ops) p o → Keeps ops p o
  keeps ls ks p (Set a c) e b = tt
  keeps ls ks p (Add a c) e b = tt
  keeps ls ks p (Load a c) e b = tt
  keeps ls ks p (Store a c) e b = tt
  keeps ls ks p (Lock l) e b =
      let at = some_at ops p (Lock l) (Set 0 0) e in
      rw e at (split p (omega (arith, at.0))).1
  keeps ls ks p (Unlock l) e b =
      let at = some_at ops p (Unlock l) (Set 0 0) e in
      not-false _ (rw e at (split p (omega (arith, at.0))).1)
  keeps ls ks p (Skip a q) e b =
      let at = some_at ops p (Skip a q) (Set 0 0) e in
      skip_agrees a q p e at.0 b.2

  pub released : same (held ops (length ops)) no_locks ≡ true
  released = not-false _ (rw (at_beyond ops (length ops) (omega arith)) at (split (length ops) (omega arith)).1)

-- each lock of a set all of whose locks are below b
below_at : (h : List Bool) (b : ℕ) → length h ≡ 4 → all_below h b ≡ true → (l : ℕ) → get_or h l false ≡ true → l < b
unfolding all_below
below_at h b len e l has = go l has (ltb-true l b)
  where
    tests : List Bool
    tests =
        cond (get_or h 0 false) (ltb 0 b) true ∷ cond (get_or h 1 false) (ltb 1 b) true
        ∷ cond (get_or h 2 false) (ltb 2 b) true ∷ cond (get_or h 3 false) (ltb 3 b) true
        ∷ []

    go : (l : ℕ) → get_or h l false ≡ true → (ltb l b ≡ true → l < b) → l < b
    go zero has is = is (rw has at (all_at tests 0 e))
    go (suc zero) has is = is (rw has at (all_at tests 1 e))
    go (suc (suc zero)) has is = is (rw has at (all_at tests 2 e))
    go (suc (suc (suc zero))) has is = is (rw has at (all_at tests 3 e))
    go (suc (suc (suc (suc l)))) has is =
        absurd (false≢true (sym (get_or-eq_default h false {n = suc (suc (suc (suc l)))} (omega arith)) ∙ has))

-- where no LOCK descends, each finds the locks of its held set below its own
module _ (rs : List ℕ) (ops : List Op) (len : length rs ≡ length ops)
    (nonzero : (p : ℕ) → p < length rs → 1 ≤ get_or rs p 0) (fine : lane_descent rs ops ≡ 0) where
  pub undescended : descent_position ops ≡ 0
  unfolding descent_position lowest
  undescended = named_none descent_position refl rs ops len nonzero fine

  pub rising : (p b l : ℕ) → get_elem? ops p ≡ some (Lock b) → get_or (held ops p) l false ≡ true → l < b
  unfolding descent_position descent_at
  rising p b l e has =
      let at = some_at ops p (Lock b) (Set 0 0) e in
      let back : p + 1 - 1 ≡ p = omega arith in
      let up = rw (back, e) at
      (nothing_found (λ i. descent_at ops (i - 1)) 1 (length ops) (p + 1) (omega arith) undescended (omega arith)
      (omega (arith, at.0))) in
      below_at (held ops p) b (held_length no_locks (take p ops)) (not-false _ up) l has
