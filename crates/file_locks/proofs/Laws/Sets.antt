-- Laws of the loop that checks a lane's held sets.
use Prim.Native.Nat.{ℕ, zero, suc, ◌+◌, ◌-◌, ◌%◌, ◌≤◌, ◌<◌}
use mathlib.Core.Path.{◌≡◌, refl, ap, sym, subst, ◌∙◌}
use mathlib.Core.List.{List}
use mathlib.Core.Bool.{Bool, true, false, not, cond}
use mathlib.Core.Option.{Option, none, some}
use native.Mathlib.Omega.{arith}
use native.Mathlib.Decide.{dec_le}
use borrow.Author.Tests.{eq-eqb, ne_eqb, eqb-true, eqb-false}
use lib.Bits.{bit_or, or_lt}
use lib.Dec.{eqb}
use lib.ListN.{length, get_or, get_elem?, set, replicate, length-set, get_or-replicate}
use lib.Seq.{get_or-set_same, get_or-set_other}
use Rattle.laws.proofs.Lists.{at_some, at_beyond, getD-replicate-all, set_all}
use Rattle.file_format.specs.declared.accepted.Op.{Op}
use Rattle.file_format.specs.Held.{same, held, jump_from, conflicts_by, conflict_below, conflict, misuse, fault_at}
use Rattle.file_format.specs.Stored.{no_op}
use Rattle.file_locks.specs.Sets.{or_else, no_jump, jump_or, locks_in, meets, ways, differ, barred, wrong_at}
use Rattle.file_locks.specs.Lanes.{Onward}
use Rattle.file_locks.proofs.Laws.Locks.{locks_same, ways_small, led_more, led_none, wrong_is, wrong_end}

-- a jump that leads elsewhere than to x, and one that leads to q
conflicts_other : (j : Option ℕ) (x : ℕ) (h g : List Bool) → (x ≡ or_else no_jump j → ⊥) → conflicts_by j x h g ≡ false
conflicts_other none x h g n = refl
conflicts_other (some q) x h g n = rw (ne_eqb q x (λ e. n (sym e)))

conflicts_here : (j : Option ℕ) (q : ℕ) (h g : List Bool) → q ≡ or_else no_jump j → q ≤ 64
    → conflicts_by j q h g ≡ not (same h g)
conflicts_here none q h g e l = absurd (omega arith)
conflicts_here (some x) q h g e l = rw (eq-eqb x q (sym e))

-- an operation that leads elsewhere than to x brings nothing there
conflict_away : (ops : List Op) (p x : ℕ) → p < length ops → (x ≡ jump_or no_jump (some (get_or ops p no_op)) → ⊥)
    → conflict_below ops (suc p) x ≡ conflict_below ops p x
unfolding conflict_below
conflict_away ops p x inside n =
    rw (
      at_some ops p no_op inside,
      conflicts_other (jump_from (some (get_or ops p no_op))) x (held ops p) (held ops x) n,
    )

-- one that leads to q brings its set there
conflict_here : (ops : List Op) (p q : ℕ) → p < length ops → q ≡ jump_or no_jump (some (get_or ops p no_op)) → q ≤ 64
    → conflict_below ops (suc p) q ≡ cond (not (same (held ops p) (held ops q))) true (conflict_below ops p q)
unfolding conflict_below
conflict_here ops p q inside e small =
    rw (
      at_some ops p no_op inside,
      conflicts_here (jump_from (some (get_or ops p no_op))) q (held ops p) (held ops q) e small,
    )

-- where every operation leads on, whether two ways to p disagree is known from the operations before p
conflict_known : (ops : List Op) → Onward ops → (n p : ℕ) → n ≤ length ops → p ≤ n
    → conflict_below ops n p ≡ conflict_below ops p p
conflict_known ops on zero p small h =
    let none : p ≡ 0 = omega arith in
    rw none
conflict_known ops on (suc n) p small h = go (dec_le p n) (conflict_known ops on n p (omega arith))
  where
    go : Dec (p ≤ n) → (p ≤ n → conflict_below ops n p ≡ conflict_below ops p p)
        → conflict_below ops (suc n) p ≡ conflict_below ops p p
    go (yes l) ih = conflict_away ops n p small (λ e. omega (arith, on n small)) ∙ ih l
    go (no l) ih =
        let last : p ≡ suc n = omega arith in
        rw last

-- The loop, after n operations: with the set of a position, what SKIPs led there says whether they part from it.
pub record LedTo (ops : List Op) (n : ℕ) (led : List ℕ) : Type 0 where
  pub room : length led ≡ 65
  pub bytes : (x : ℕ) → get_or led x 0 < 256
  pub each : (x h : ℕ) → x ≤ length ops → h < 16 → locks_in h ≡ held ops x
      → differ (bit_or (ways h) (get_or led x 0)) ≡ conflict_below ops n x

pub led_start : (ops : List Op) → length ops ≤ 64 → LedTo ops 0 (replicate 65 0)
unfolding conflict_below
led_start ops short = record {
  room = refl;
  bytes = getD-replicate-all (λ x. x < 256) 65 0 0 (omega arith) (omega arith);
  each = λ x h l few e. ap (λ y. differ (bit_or (ways h) y)) (get_or-replicate {A = ℕ} 65 x 0 0 (omega arith))
      ∙ led_none h few;
}

module _ (ops : List Op) (p : ℕ) (led : List ℕ) (at : LedTo ops p led) (inside : p < length ops)
    {q : ℕ} (leads : q ≡ jump_or no_jump (some (get_or ops p no_op))) where
  one : p + 1 ≡ suc p
  one = omega arith

  away : (x : ℕ) → (x ≡ q → ⊥) → conflict_below ops (p + 1) x ≡ conflict_below ops p x
  away x n = rw one (conflict_away ops p x inside (λ e. n (e ∙ sym leads)))

  pub led_past : length ops < q → LedTo ops (p + 1) led
  led_past far = record {
    room = at.room;
    bytes = at.bytes;
    each = λ x h l few e. at.each x h l few e ∙ sym (away x (λ z. omega arith));
  }

  pub led_put : {g v : ℕ} → q ≤ length ops → length ops ≤ 64 → g < 16 → locks_in g ≡ held ops p
      → v ≡ bit_or (get_or led q 0) (ways g) → LedTo ops (p + 1) (set led q v)
  led_put {g} {v} near short fewer eg ev = record {
    room = length-set led q v ∙ at.room;
    bytes = set_all (λ i x. x < 256) 0 led q v at.bytes
        (subst (λ x. x < 256) (sym ev) (or_lt 8 (get_or led q 0) (ways g) (at.bytes q) (ways_small g fewer)));
    each = λ x h l few e. go x h l few e (eqb x q) refl;
  }
    where
      go : (x h : ℕ) → x ≤ length ops → h < 16 → locks_in h ≡ held ops x → (b : Bool) → eqb x q ≡ b
          → differ (bit_or (ways h) (get_or (set led q v) x 0)) ≡ conflict_below ops (p + 1) x
      go x h l few e false b =
          let n = eqb-false x q b in
          ap (λ y. differ (bit_or (ways h) y)) (get_or-set_other led q x v 0 n)
          ∙ at.each x h l few e ∙ sym (away x n)
      go x h l few e true b =
          let here = eqb-true x q b in
          let there : locks_in h ≡ held ops q = e ∙ ap (held ops) here in
          let alike : same (held ops p) (held ops q) ≡ eqb g h =
          (λ i. same (sym eg i) (sym there i)) ∙ locks_same g h fewer few in
          ap (λ y. differ (bit_or (ways h) y))
          (ap (λ y. get_or (set led q v) y 0) here ∙ get_or-set_same led q v 0 (omega (arith, at.room)) ∙ ev)
          ∙ led_more h (get_or led q 0) few (at.bytes q) g fewer
          ∙ ap (cond (not (eqb g h)) true) (at.each q h near few there)
          ∙ sym (rw (here, one, conflict_here ops p q inside leads (omega arith), alike))

-- what the loop knows at a position, and at the end
module _ (ops : List Op) (on : Onward ops) (p h : ℕ) (led : List ℕ) (at : LedTo ops p led) (few : h < 16)
    (set_is : locks_in h ≡ held ops p) where
  abbrev here : ℕ
  here = bit_or (ways h) (get_or led p 0)

  known : p ≤ length ops → differ here ≡ conflict ops p
  known l = at.each p h l few set_is ∙ sym (conflict_known ops on (length ops) p (omega arith) l)

  back : p + 1 - 1 ≡ p
  back = omega arith

  -- the rule is broken at the position, as the test found
  pub fault_inside : (code bit : ℕ) → p < length ops
      → meets (barred (ways h) code) bit ≡ misuse (locks_in h) (some (get_or ops p no_op))
      → fault_at ops (p + 1 - 1) ≡ wrong_at here code bit
  unfolding fault_at
  fault_inside code bit inside e =
      rw (back, at_some ops p no_op inside, ← set_is, ← known (omega arith))
      (sym (wrong_is h (get_or led p 0) few (at.bytes p) code bit e))

  pub fault_end : p ≡ length ops → fault_at ops (p + 1 - 1) ≡ not (eqb (here % 16) 0)
  unfolding fault_at
  fault_end e =
      let last : get_elem? ops p ≡ none = at_beyond ops p (omega arith) in
      rw (back, last, ← set_is, locks_same h 0 few (omega arith), ← known (omega arith))
      (sym (wrong_end h (get_or led p 0) few (at.bytes p)))
