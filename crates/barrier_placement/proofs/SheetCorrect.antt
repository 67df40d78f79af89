-- Demand 2 on the placed lane itself: on every path from one access to another whose cell is b there is a b between
-- them, or an operation before which one is left out, and each b is the only one on some such path, those left out
-- counted too. place is any placement that has the paper's sentence; keeps says which barriers a level writes, and
-- before which operation.
use Prim.Native.Nat.{ℕ, suc, ◌+◌, ◌<◌}
use native.Mathlib.Nat.{le_refl, le_of_lt}
use native.Mathlib.Omega.{arith}
use mathlib.Core.Path.{◌≡◌, refl, sym, ◌∙◌, ap, ap₂, subst}
use mathlib.Core.Bool.{Bool, true, false, ◌&&◌, true≢false}
use mathlib.Core.List.{List, map}
use mathlib.Core.Option.{some}
use mathlib.Core.Logic.{inl, inr}
use lib.ListN.{length, get_or}
use Rattle.laws.proofs.Bools.{and_true, both_true}
use Rattle.barrier_placement.specs.Cookbook.{Class, Barrier, LL, cell}
use Rattle.barrier_placement.specs.Chain.{Step, Chain, Access, at, Next, Path, Between}
use Rattle.barrier_placement.specs.Sentence.{Along, Pair, Sentence}
use Rattle.barrier_placement.specs.Layout.{Placed, operations, barriers_at, start, op_at}
use Rattle.barrier_placement.specs.Sheet.{Item, bar, op, item, NextItem, aim, items_of}
use Rattle.barrier_placement.specs.Sheet.{written, ItemPair, LeftOut, Meets, Needed}
use Rattle.barrier_placement.proofs.Laws.Chosen.{Holds, Once, chosen_has, chosen_only, chosen_once}
use Rattle.barrier_placement.proofs.Laws.Place.{access_inside}
use Rattle.barrier_placement.proofs.Laws.Layout.{start_suc, place_once, place_within, inside_chain}
use Rattle.barrier_placement.proofs.Laws.Layout.{locate}
use Rattle.barrier_placement.proofs.Laws.Items.{chain_length, item_bar, item_op, access_at, bar_at, inside_lane}
use Rattle.barrier_placement.proofs.Laws.Traces.{OnWay, Trace, trace, Followed, follow, pass}
use Rattle.barrier_placement.proofs.Covered.{covered}
use Rattle.barrier_placement.proofs.Needed.{alone}

module _ {A : Type 0} (step : A → Step) (ps : List (Placed A)) (place : Barrier → ℕ → Bool)
    (sentence : (b : Barrier) → Sentence (map step (operations ps)) b (place b)) (keeps : Barrier → ℕ → Bool)
    (stand : (k : ℕ) → k < length ps → barriers_at ps k ≡ written place keeps k) where
  abbrev s : Chain
  s = map step (operations ps)

  abbrev t : List Item
  t = items_of step ps

  abbrev put : A → Item
  put a = op (aim (start ps) (step a))

  abbrev pre : ℕ → List Barrier
  pre = barriers_at ps

  access_inside_lane : (m : ℕ) (c : Class) → item t m ≡ op (Access c) → m < length t
  access_inside_lane m c h = inside_lane step ps m (λ e. let z : ◌≡◌ {A = ℕ} 0 1 = cc in omega arith)

  access_placed : (k : ℕ) (c : Class) → at s k ≡ Access c → k < length ps
  access_placed k c h = omega (arith, access_inside s k c h, chain_length step ps)

  placed_inside : (b : Barrier) (k : ℕ) → place b k ≡ true → k < length ps
  placed_inside b k h = let o = (sentence b k).0 h in access_placed k o.pair.second o.pair.later

  written_so : (b : Barrier) (k o : ℕ) → k < length ps → o < length (pre k) → get_or (pre k) o LL ≡ b
      → (keeps b k ≡ true) × (place b k ≡ true)
  written_so b k o k<n l e =
      let Both : Barrier → Type 0 = λ x. (keeps x k ≡ true) × (place x k ≡ true) in
      subst Both e
      (subst (λ (bs : List Barrier). (o : ℕ) → o < length bs → Both (get_or bs o LL)) (sym (stand k k<n))
      (λ o l. and_true (keeps _ k) (place _ k) (chosen_only (λ x. keeps x k && place x k) o l)) o l)

  access_item : (k : ℕ) (c : Class) → at s k ≡ Access c → item t (op_at ps k) ≡ op (Access c)
  access_item k c h = item_op step ps k (access_placed k c h) ∙ ap (λ (x : Step). op (aim (start ps) x)) h

  meets_from : (b : Barrier) (i m : ℕ) (π : Path (NextItem t) (op_at ps i) m) (c d : Class) → i < length ps
      → at s i ≡ Access c → item t m ≡ op (Access d) → cell c d ≡ some b → Meets step ps place keeps b π
  meets_from b i m π c d i<n e h calls = go (covered s b (place b) (sentence b) i r.reached r.path pair)
    where
      r : Trace step ps i π
      r = trace step ps i π i<n

      k<n : r.reached < length ps
      k<n =
          inside_chain bar put ps r.reached r.offset
          (subst (λ (x : ℕ). x < length t) r.place (access_inside_lane m d h))

      end : (r.offset ≡ length (pre r.reached)) × (at s r.reached ≡ Access d)
      end = access_at step ps r.reached r.offset d k<n r.inside (ap (item t) (sym r.place) ∙ h)

      pair : Pair s b i r.reached
      pair = record { first = c; second = d; earlier = e; later = end.1; calls = calls }

      go : (k : ℕ) × Along r.path k × (place b k ≡ true) → Meets step ps place keeps b π
      go f = by (keeps b f.0) refl
        where
          passes : Along r.path f.0 → Along π (op_at ps f.0)
          passes (inl w) = inl (r.passed f.0 w (length (pre f.0)) (le_refl (length (pre f.0))))
          passes (inr w) =
              inr (ap (op_at ps) w ∙ ap (λ (x : ℕ). start ps r.reached + x) (sym end.0) ∙ sym r.place)

          before_step : (o : ℕ) → o < length (pre f.0) → Along r.path f.0 → Between π (start ps f.0 + o)
          before_step o l (inl w) = r.passed f.0 w o (le_of_lt l)
          before_step o l (inr w) =
              subst (λ (x : ℕ). Between π (start ps x + o)) (sym w)
              (r.here o (rw end.0 (subst (λ (x : ℕ). o < length (pre x)) w l)))

          written_there : keeps b f.0 ≡ true → (x : ℕ) × Between π x × (item t x ≡ bar b)
          written_there v =
              let c = subst (λ (bs : List Barrier). Holds bs b) (sym (stand f.0 (placed_inside b f.0 f.2)))
              (chosen_has (λ a. keeps a f.0 && place a f.0) b (both_true _ _ v f.2)) in (
                start ps f.0 + c.0,
                before_step c.0 c.1 f.1,
                item_bar step ps f.0 c.0 c.1 ∙ ap bar c.2,
              )

          by : (v : Bool) → keeps b f.0 ≡ v → Meets step ps place keeps b π
          by true e = inl (written_there e)
          by false e = inr (op_at ps f.0, passes f.1, (f.0, placed_inside b f.0 f.2, refl, f.2, e))

  pub items_meet : (b : Barrier) (m m' : ℕ) (π : Path (NextItem t) m m') → ItemPair t b m m'
      → Meets step ps place keeps b π
  items_meet b m m' π p =
      let a = locate bar put ps m (access_inside_lane m p.first p.earlier) in
      let e = access_at step ps a.0 a.1 p.first a.2 a.3 (ap (item t) (sym a.4) ∙ p.earlier) in
      subst (λ (x : ℕ). (π' : Path (NextItem t) x m') → Meets step ps place keeps b π')
      (sym (a.4 ∙ ap (λ (x : ℕ). start ps a.0 + x) e.0))
      (λ π'. meets_from b a.0 m' π' p.first p.second a.2 e.1 p.later p.calls) π

  bar_inside : (b : Barrier) (m : ℕ) → item t m ≡ bar b → m < length t
  bar_inside b m h = inside_lane step ps m (λ e. let z : ◌≡◌ {A = ℕ} 0 1 = cc in omega arith)

  -- where a barrier of the lane stands
  bar_found : (b : Barrier) (m : ℕ) → item t m ≡ bar b → (k : ℕ) × (o : ℕ) × (k < length ps) × (o < length (pre k))
      × (get_or (pre k) o LL ≡ b) × (m ≡ start ps k + o)
  bar_found b m h =
      let f = locate bar put ps m (bar_inside b m h) in
      let v = bar_at step ps f.0 f.1 b f.2 f.3 (ap (item t) (sym f.4) ∙ h) in
      (f.0, f.1, f.2, v.0, v.1, f.4)

  -- the level keeps it before some operation
  pub items_kept : (b : Barrier) (m : ℕ) → item t m ≡ bar b → (k : ℕ) × (keeps b k ≡ true)
  items_kept b m h =
      let f = bar_found b m h in
      (f.0, (written_so b f.0 f.1 f.2 f.3 f.4).0)

  -- and it cannot be dropped
  pub items_needed : (b : Barrier) (m : ℕ) → item t m ≡ bar b → Needed step ps place keeps b m
  items_needed b m h = go (alone s b (place b) (sentence b) k there.1)
    where
      found : (k : ℕ) × (o : ℕ) × (k < length ps) × (o < length (pre k)) × (get_or (pre k) o LL ≡ b)
          × (m ≡ start ps k + o)
      found = bar_found b m h

      k : ℕ
      k = found.0

      o : ℕ
      o = found.1

      there : (keeps b k ≡ true) × (place b k ≡ true)
      there = written_so b k o found.2 found.3 found.4

      go : (i : ℕ) × (ρ : Path (Next s) i k) × Pair s b i k × ((k' : ℕ) → Along ρ k' → place b k' ≡ true → k' ≡ k)
          → Needed step ps place keeps b m
      go a = (
        record {
          from = op_at ps a.0;
          to = op_at ps k;
          pair = record {
            first = a.2.first;
            second = a.2.second;
            earlier = access_item a.0 a.2.first a.2.earlier;
            later = access_item k a.2.second a.2.later;
            calls = a.2.calls;
          };
          path = f.path;
          on = subst (λ (x : ℕ). Between f.path x) (sym found.5) (f.here o found.3);
          only = λ x w e. once x e (f.along x w);
        },
        none_left,
      )
        where
          f : Followed step ps a.1 (length (pre k)) (op_at ps k)
          f = pass step ps a.1 (follow step ps a.1 (start ps k) refl)

          once : (x : ℕ) → item t x ≡ bar b → OnWay step ps a.1 x → x ≡ m
          once x e g =
              let below = subst (λ (y : ℕ). y < length t) g.4 (bar_inside b x e) in
              let k<n = inside_chain bar put ps g.0 g.1 below in
              let v = bar_at step ps g.0 g.1 b k<n g.3 (ap (item t) (sym g.4) ∙ e) in
              let q : g.0 ≡ k = a.3 g.0 g.2 (written_so b g.0 g.1 k<n v.0 v.1).1 in
              let l : g.1 < length (pre k) = subst (λ (y : ℕ). g.1 < length (pre y)) q v.0 in
              let w : get_or (pre k) g.1 LL ≡ b = subst (λ (y : ℕ). get_or (pre y) g.1 LL ≡ b) q v.1 in
              let u : g.1 ≡ o =
              subst Once (sym (stand k found.2)) (chosen_once (λ y. keeps y k && place y k))
              g.1 o l found.3 (w ∙ sym found.4) in
              g.4 ∙ ap₂ (λ (y z : ℕ). start ps y + z) q u ∙ sym found.5

          -- an operation on the way before which b is placed is the one behind m, and there it is kept
          none_left : (x : ℕ) → Along f.path x → LeftOut ps place keeps b x → ⊥
          none_left x w (p, inside, here, placed, dropped) =
              true≢false (sym there.0 ∙ ap (keeps b) (sym (same w)) ∙ dropped)
            where
              same : Along f.path x → p ≡ k
              same (inr e) =
                  place_once ps p k (length (pre p)) (length (pre k)) inside found.2
                  (le_refl (length (pre p))) (le_refl (length (pre k))) (sym here ∙ e)
              same (inl w) =
                  let y = f.along x w in
                  let next = start_suc ps p inside in
                  let within = place_within bar put ps (suc p) 0 (omega arith) in
                  let k<n = inside_chain bar put ps y.0 y.1 (omega (arith, y.4, here, next, within)) in
                  let q = place_once ps y.0 p y.1 (length (pre p)) k<n inside y.3
                  (le_refl (length (pre p))) (sym y.4 ∙ here) in
                  a.3 p (subst (Along a.1) q y.2) placed
