-- The items of a placed lane: what stands at each position, and where it leads.
use Prim.Native.Nat.{ℕ, suc, ◌+◌, ◌<◌, ◌≤◌}
use native.Mathlib.Nat.{eq-or-lt_of_le}
use native.Mathlib.Omega.{arith}
use mathlib.Core.Path.{◌≡◌, refl, sym, ◌∙◌, ap}
use mathlib.Core.List.{List, map, map-map}
use mathlib.Core.Logic.{◌⊎◌, inl, inr}
use lib.ListN.{length, get_or, get_elem?, length-map, get_or-map, get_or-eq_default}
use Rattle.laws.proofs.Lists.{some_at, at_some}
use Rattle.laws.proofs.Numbers.{lt_or_le}
use Rattle.barrier_placement.specs.Cookbook.{Class, Barrier, LL}
use Rattle.barrier_placement.specs.Chain.{Step, Access, Skip, Other, Chain, at, Next}
use Rattle.barrier_placement.specs.Layout.{Placed, operations, barriers_at, start, op_at}
use Rattle.barrier_placement.specs.Sheet.{Item, bar, op, item, NextItem, aim, items_of}
use Rattle.barrier_placement.proofs.Laws.Layout.{start_suc, place_within, at_barrier, at_op}

module _ {A : Type 0} (step : A → Step) (ps : List (Placed A)) where
  abbrev s : Chain
  s = map step (operations ps)

  abbrev t : List Item
  t = items_of step ps

  abbrev put : A → Item
  put a = op (aim (start ps) (step a))

  pub chain_length : length s ≡ length ps
  chain_length = length-map (operations ps) step ∙ length-map ps (λ x. x.oper)

  pub item_bar : (k o : ℕ) → o < length (barriers_at ps k)
      → item t (start ps k + o) ≡ bar (get_or (barriers_at ps k) o LL)
  item_bar k o h = (some_at t (start ps k + o) _ (op Other) (at_barrier bar put ps k o h)).1

  pub item_op : (k : ℕ) → k < length ps → item t (op_at ps k) ≡ op (aim (start ps) (at s k))
  item_op k h =
      let aimed : Step → Item = λ x. op (aim (start ps) x) in
      let there = at_op bar put ps k ∙ ap (λ l. get_elem? l k) (sym (map-map aimed step (operations ps)))
      ∙ at_some (map aimed s) k (op Other) (omega (arith, length-map s aimed, chain_length)) in
      (some_at t (op_at ps k) _ (op Other) there).1 ∙ get_or-map aimed s k Other

  -- a step that is aimed and is a SKIP was a SKIP
  aimed : (x : Step) (m : ℕ) → op (aim (start ps) x) ≡ op (Skip m) → (k : ℕ) × (x ≡ Skip k) × (start ps k ≡ m)
  aimed (Access c) m h = let z : ◌≡◌ {A = ℕ} 0 1 = cc in absurd (omega arith)
  aimed (Skip k) m h = (k, refl, cc)
  aimed Other m h = let z : ◌≡◌ {A = ℕ} 0 1 = cc in absurd (omega arith)

  -- from a step of the chain the lane goes on to the first barrier of a next one
  pub from_op : (k m : ℕ) → k < length ps → NextItem t (op_at ps k) m → (k' : ℕ) × Next s k k' × (m ≡ start ps k')
  from_op k m h e = go e.1
    where
      inside : k < length s
      inside = omega (arith, chain_length)

      go : (m ≡ suc (op_at ps k)) ⊎ (item t (op_at ps k) ≡ op (Skip m)) → (k' : ℕ) × Next s k k' × (m ≡ start ps k')
      go (inl w) = (suc k, (inside, inl refl), w ∙ sym (start_suc ps k h))
      go (inr w) = let r = aimed (at s k) m (sym (item_op k h) ∙ w) in (r.0, (inside, inr r.1), sym r.2)

  -- and from a barrier to what stands after it
  pub from_bar : (k o m : ℕ) → o < length (barriers_at ps k) → NextItem t (start ps k + o) m → m ≡ start ps k + suc o
  from_bar k o m l e = go e.1
    where
      go : (m ≡ suc (start ps k + o)) ⊎ (item t (start ps k + o) ≡ op (Skip m)) → m ≡ start ps k + suc o
      go (inl w) = omega arith
      go (inr w) = let z : ◌≡◌ {A = ℕ} 0 1 = cc (item_bar k o l) in absurd (omega arith)

  pub to_next : (k k' m : ℕ) → Next s k k' → m ≡ start ps k' → NextItem t (op_at ps k) m
  to_next k k' m e h =
      (omega (arith, start_suc ps k inside, place_within bar put ps (suc k) 0 (omega arith)), go e.1)
    where
      inside : k < length ps
      inside = omega (arith, chain_length, e.0)

      go : (k' ≡ suc k) ⊎ (at s k ≡ Skip k') → (m ≡ suc (op_at ps k)) ⊎ (item t (op_at ps k) ≡ op (Skip m))
      go (inl w) = inl (h ∙ ap (start ps) w ∙ start_suc ps k inside)
      go (inr w) =
          inr (item_op k inside ∙ ap (λ (x : Step). op (aim (start ps) x)) w ∙ ap (λ (x : ℕ). op (Skip x)) (sym h))

  -- an item of the lane, by its operation and its place before it
  pub access_at : (k o : ℕ) (c : Class) → k < length ps → o ≤ length (barriers_at ps k)
      → item t (start ps k + o) ≡ op (Access c) → (o ≡ length (barriers_at ps k)) × (at s k ≡ Access c)
  access_at k o c h l e = go (eq-or-lt_of_le l)
    where
      same : (x : Step) → op (aim (start ps) x) ≡ op (Access c) → x ≡ Access c
      same (Access d) w = cc
      same (Skip u) w = let z : ◌≡◌ {A = ℕ} 0 1 = cc in absurd (omega arith)
      same Other w = let z : ◌≡◌ {A = ℕ} 0 1 = cc in absurd (omega arith)

      go : (o ≡ length (barriers_at ps k)) ⊎ (o < length (barriers_at ps k))
          → (o ≡ length (barriers_at ps k)) × (at s k ≡ Access c)
      go (inl w) =
          let here = ap (λ (x : ℕ). item t (start ps k + x)) (sym w) in
          (w, same (at s k) (sym (item_op k h) ∙ here ∙ e))
      go (inr w) = let z : ◌≡◌ {A = ℕ} 0 1 = cc (item_bar k o w) in absurd (omega arith)

  pub bar_at : (k o : ℕ) (b : Barrier) → k < length ps → o ≤ length (barriers_at ps k)
      → item t (start ps k + o) ≡ bar b → (o < length (barriers_at ps k)) × (get_or (barriers_at ps k) o LL ≡ b)
  bar_at k o b h l e = go (eq-or-lt_of_le l)
    where
      go : (o ≡ length (barriers_at ps k)) ⊎ (o < length (barriers_at ps k))
          → (o < length (barriers_at ps k)) × (get_or (barriers_at ps k) o LL ≡ b)
      go (inl w) =
          let here = ap (λ (x : ℕ). item t (start ps k + x)) w in
          let z : ◌≡◌ {A = ℕ} 0 1 = cc (item_op k h, here) in absurd (omega arith)
      go (inr w) = (w, cc (item_bar k o w))

  -- an access or a barrier stands inside the lane
  pub inside_lane : (m : ℕ) → ¬ (item t m ≡ op Other) → m < length t
  inside_lane m h = elim (lt_or_le m (length t)) [
    | inl l ↦ l
    | inr l ↦ absurd (h (get_or-eq_default t (op Other) l))
  ]
