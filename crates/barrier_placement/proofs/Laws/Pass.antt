-- The pass in push form. What arrives at a position comes from the one before it or by jumps, and what jumps bring is
-- gathered on the way. A jump to a position that the pass has left brings nothing to the positions ahead.
use Prim.Native.Nat.{ℕ, zero, suc, ◌+◌, ◌*◌, ◌<◌, ◌≤◌}
use native.Mathlib.Numerals.{add-one}
use native.Mathlib.Omega.{arith}
use mathlib.Core.Path.{◌≡◌, refl, sym, ◌∙◌, ap, ap₂, subst, fun_ext}
use mathlib.Core.Bool.{Bool, true, false, not, ◌&&◌, ◌||◌, cond}
use mathlib.Core.List.{List}
use mathlib.Core.Logic.{◌⊎◌, inl, inr}
use lib.Bits.{bit_or}
use lib.Dec.{eqb, leb}
use lib.ListN.{length, get_or, set, replicate, length-set}
use lib.Seq.{get_or-set_same, get_or-set_other}
use borrow.Author.Tests.{eq-eqb, ne_eqb, eqb-true, eqb-false, leb-false}
use Rattle.laws.proofs.Bools.{or_absorbs}
use Rattle.laws.proofs.Lists.{getD-replicate-all}
use Rattle.barrier_placement.specs.Cookbook.{Class, Barrier, number_of}
use Rattle.barrier_placement.specs.Chain.{Step, Access, Skip, Other, Chain, at}
use Rattle.barrier_placement.specs.Place.{has, no_classes, stands_at, raises, after, jumps, arrives, due_after, due}
use Rattle.barrier_placement.specs.Place.{stands}
use Rattle.barrier_placement.specs.Placed.{bit_of, due_in, landing}
use Rattle.barrier_placement.proofs.Laws.Bits.{bit_or_lem, bit_zero}
use Rattle.barrier_placement.proofs.Laws.Bytes.{landing_small}
use Rattle.barrier_placement.proofs.Laws.DueAfter.{due_after_has}

-- a step jumps to a position ahead exactly where its landing is that position
landing_jumps : (x : Step) (q : ℕ) → 0 < q → q ≤ 64 → jumps x q ≡ eqb (landing x) q
landing_jumps (Access c) q h k = sym (ne_eqb 0 q (λ e. omega arith))
landing_jumps (Skip t) q h k = go (leb t 64) refl
  where
    go : (u : Bool) → leb t 64 ≡ u → eqb t q ≡ eqb (cond u t 0) q
    go true l = refl
    go false l = ne_eqb t q (λ e. omega (arith, leb-false t 64 l)) ∙ sym (ne_eqb 0 q (λ e. omega arith))
landing_jumps Other q h k = sym (ne_eqb 0 q (λ e. omega arith))

module _ (s : Chain) (b : Barrier) where
  -- what is due after position q
  abbrev pub left : ℕ → Class → Bool
  left q = after b (at s q) (due s b q)

  -- what is due on arrival at p from the position before it
  abbrev pub passed : ℕ → Class → Bool
  passed zero d = false
  passed (suc q) d = left q d

  -- what jumps from the positions below k bring to x
  abbrev pub jumped : ℕ → ℕ → Class → Bool
  jumped zero x d = false
  jumped (suc q) x d = (jumps (at s q) x && left q d) || jumped q x d

  -- from below the position before p only jumps lead to p
  arrives_jumped : (p k : ℕ) (d : Class) → k < p → arrives s (due_after s b p) k p d ≡ jumped k p d
  arrives_jumped p zero d h = refl
  arrives_jumped p (suc q) d h =
      let far : eqb p (suc q) ≡ false = ne_eqb p (suc q) (λ e. absurd (omega arith)) in
      ap₂ (λ (t u : Bool). ((t || jumps (at s q) p) && has (get_or (due_after s b p) q no_classes) d) || u)
      far (arrives_jumped p q d (omega arith))
      ∙ ap (λ (r : Bool). (jumps (at s q) p && r) || jumped q p d) (due_after_has s b p q d (omega arith))

  -- what is due at p comes from the position before it, or was brought by jumps
  due_by : (p : ℕ) (d : Class) → due s b p d ≡ (passed p d || jumped p p d)
  unfolding due
  due_by zero d = refl
  due_by (suc q) d =
      ap₂ (λ (t u : Bool). ((t || jumps (at s q) (suc q)) && has (get_or (due_after s b (suc q)) q no_classes) d) || u)
      (eq-eqb (suc q) (suc q) refl) (arrives_jumped (suc q) q d (omega arith))
      ∙ ap (λ (r : Bool). r || jumped q (suc q) d) (due_after_has s b (suc q) q d (omega arith))
      ∙ or_absorbs (left q d) (jumped q (suc q) d) (jumps (at s q) (suc q))

  -- what jumps from below p bring to each position from p on, gathered in a list of sets
  pub record Gathered (l : List ℕ) (p : ℕ) : Type 0 where
    pub long : length l ≡ 65
    pub ahead : (x : ℕ) → p ≤ x → x ≤ 64 → (d : Class) → due_in (get_or l x 0) b d ≡ jumped p x d

  gathered_none : Gathered (replicate 65 0) 0
  gathered_none = record {
    long = refl;
    ahead = λ x h k d.
        let none = bit_zero (4 * number_of d + bit_of b) in
        getD-replicate-all (λ n. due_in n b d ≡ false) 65 0 0 none none x;
  }

  -- one position more, at a step that does not jump to x, or does
  jumped_by : (p x : ℕ) (u : Bool) (d : Class) → p < x → x ≤ 64 → eqb (landing (at s p)) x ≡ u
      → jumped (p + 1) x d ≡ ((u && left p d) || jumped p x d)
  jumped_by p x u d h k e =
      let j : jumps (at s p) x ≡ u = landing_jumps (at s p) x (omega arith) k ∙ e in
      ap (λ (q : ℕ). jumped q x d) (add-one p) ∙ ap (λ (t : Bool). (t && left p d) || jumped p x d) j

  gathered_on : {l : List ℕ} {p : ℕ} → Gathered l p → landing (at s p) ≤ p → Gathered l (p + 1)
  gathered_on {l} {p} g h = record {
    long = g.long;
    ahead = λ x i k d.
        let past = ne_eqb (landing (at s p)) x (λ e. omega arith) in
        g.ahead x (omega arith) k d ∙ sym (jumped_by p x false d (omega arith) k past);
  }

  gathered_push : {l : List ℕ} {p t : ℕ} (new : ℕ) → Gathered l p → landing (at s p) ≡ t → p < t
      → ((d : Class) → due_in new b d ≡ (left p d || due_in (get_or l t 0) b d)) → Gathered (set l t new) (p + 1)
  gathered_push {l} {p} {t} new g e h v = record {
    long = length-set l t new ∙ g.long;
    ahead = λ x i k. go x (omega arith) k (eqb t x) refl;
  }
    where
      t≤64 : t ≤ 64
      t≤64 = omega (arith, landing_small (at s p))

      there : (x : ℕ) (u : Bool) → eqb t x ≡ u → eqb (landing (at s p)) x ≡ u
      there x u w = ap (λ (y : ℕ). eqb y x) e ∙ w

      go : (x : ℕ) → p < x → x ≤ 64 → (u : Bool) → eqb t x ≡ u → (d : Class)
          → due_in (get_or (set l t new) x 0) b d ≡ jumped (p + 1) x d
      go x i k true w d =
          subst (λ (y : ℕ). due_in (get_or (set l t new) y 0) b d ≡ jumped (p + 1) y d) (eqb-true t x w)
          (ap (λ (n : ℕ). due_in n b d) (get_or-set_same l t new 0 (omega (arith, t≤64, g.long)))
          ∙ v d
          ∙ ap (λ (u : Bool). left p d || u) (g.ahead t (omega arith) t≤64 d)
          ∙ sym (jumped_by p t true d h t≤64 (there t true (eq-eqb t t refl))))
      go x i k false w d =
          ap (λ (n : ℕ). due_in n b d) (get_or-set_other l t x new 0 (λ y. eqb-false t x w (sym y)))
          ∙ g.ahead x (omega arith) k d
          ∙ sym (jumped_by p x false d i k (there x false w))

  -- what is known before position p: what is due, and what jumps have brought
  pub record Reached (d : ℕ) (l : List ℕ) (p : ℕ) : Type 0 where
    pub due_here : (c : Class) → due_in d b c ≡ passed p c
    pub gathered : Gathered l p

  pub reached_none : Reached 0 (replicate 65 0) 0
  reached_none = record { due_here = λ c. bit_zero (4 * number_of c + bit_of b); gathered = gathered_none }

  module _ {d here p : ℕ} {l : List ℕ} (r : Reached d l p) (h : p < 64) (eh : here ≡ bit_or d (get_or l p 0)) where
    here_is : (c : Class) → due_in here b c ≡ due s b p c
    here_is c =
        ap (λ (n : ℕ). due_in n b c) eh
        ∙ bit_or_lem d (get_or l p 0) (4 * number_of c + bit_of b)
        ∙ ap₂ (λ (t u : Bool). t || u) (r.due_here c) (r.gathered.ahead p (omega arith) (omega arith) c)
        ∙ sym (due_by p c)

    -- what stands at p, of what is due there
    pub stands_here : stands_at (at s p) (due_in here b) ≡ stands s b p
    unfolding stands
    stands_here = ap (stands_at (at s p)) (fun_ext here_is)

    -- a turn of the pass, at a step that lands at t; l' is the list of what jumps bring after it
    pub turn : {next t : ℕ} {l' : List ℕ} {stood : Bool} (new : ℕ)
        → stood ≡ stands s b p
        → ((c : Class) → due_in new b c ≡ raises b (at s p) c)
        → ((c : Class) → due_in next b c ≡ ((not stood && due_in here b c) || due_in new b c))
        → t ≡ landing (at s p)
        → ((p < t) × (l' ≡ set l t (bit_or next (get_or l t 0)))) ⊎ ((t ≤ p) × (l' ≡ l))
        → Reached next l' (p + 1)
    unfolding stands
    turn {next} {t} {l'} {stood} new es en el et w = record {
      due_here = λ c. next_is c ∙ ap (λ (k : ℕ). passed k c) (sym (add-one p));
      gathered = go w;
    }
      where
        next_is : (c : Class) → due_in next b c ≡ left p c
        next_is c = el c ∙ (λ i. (not (es i) && here_is c i) || en c i)

        go : ((p < t) × (l' ≡ set l t (bit_or next (get_or l t 0)))) ⊎ ((t ≤ p) × (l' ≡ l)) → Gathered l' (p + 1)
        go (inl (k, f)) =
            rw f (gathered_push (bit_or next (get_or l t 0)) r.gathered (sym et) k (λ c.
            bit_or_lem next (get_or l t 0) (4 * number_of c + bit_of b)
            ∙ ap (λ (u : Bool). u || due_in (get_or l t 0) b c) (next_is c)))
        go (inr (k, f)) = rw f (gathered_on r.gathered (omega (arith, et)))
