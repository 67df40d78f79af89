-- Laws of chains and of walks along them.
use Prim.Native.Nat.{ℕ, zero, suc, ◌+◌, ◌-◌, ◌≤◌, ◌<◌}
use mathlib.Core.Path.{◌≡◌, refl, sym, ap, ◌∙◌}
use mathlib.Core.List.{List, [], ◌∷◌}
use mathlib.Core.Bool.{Bool, true, false, not}
use native.Mathlib.Omega.{arith}
use native.Mathlib.Numerals.{add-one}
use native.Mathlib.Decide.{dec_le}
use borrow.Author.Tests.{eq-eqb, ne_eqb}
use lib.ListN.{get_or, set, length, take, drop}
use lib.Dec.{eqb}
use Rattle.file_format.specs.Fields.{record_count, next}
use Rattle.file_format.specs.Search.{lowest}
use Rattle.file_format.specs.Linkage.{chain, walked, walk_of, walk_lane, linkage_from}

pub chain_suc : (s : List ℕ) (k r : ℕ) → (r ≡ 0 → ⊥) → chain s (suc k) r ≡ r ∷ chain s k (next s r)
unfolding chain
chain_suc s k r n = rw (ne_eqb r 0 n, chain)

pub chain_stop : (s : List ℕ) (k r : ℕ) → r ≡ 0 → chain s k r ≡ []
unfolding chain
chain_stop s zero r h = refl
chain_stop s (suc k) r h = rw (eq-eqb r 0 h, chain)

pub chain_step : (s : List ℕ) (k r : ℕ) → 0 < k → (r ≡ 0 → ⊥) → chain s k r ≡ r ∷ chain s (k - 1) (next s r)
chain_step s zero r h n = absurd (omega arith)
chain_step s (suc k) r h n =
    let q : suc k - 1 ≡ k = omega arith in
    rw q (chain_suc s k r n)

pub chain_length : (s : List ℕ) (k r : ℕ) → length (chain s k r) ≤ k
unfolding chain
chain_length s zero r = omega arith
chain_length s (suc k) r = go (dec_le 1 r) (chain_length s k (next s r))
  where
    go : Dec (1 ≤ r) → length (chain s k (next s r)) ≤ k → length (chain s (suc k) r) ≤ suc k
    go (no l) ih = omega (arith, ap length (chain_stop s (suc k) r (omega arith)))
    go (yes l) ih = omega (arith, ap length (chain_suc s k r (λ z. omega arith)))

-- a shorter chain is the front of a longer one
pub chain_front : (s : List ℕ) (m k r : ℕ) → m ≤ k → take m (chain s k r) ≡ chain s m r
unfolding chain
chain_front s zero k r h = refl
chain_front s (suc m) zero r h = absurd (omega arith)
chain_front s (suc m) (suc k) r h = go (dec_le 1 r) (chain_front s m k (next s r) (omega arith))
  where
    go : Dec (1 ≤ r) → take m (chain s k (next s r)) ≡ chain s m (next s r)
        → take (suc m) (chain s (suc k) r) ≡ chain s (suc m) r
    go (no l) ih =
        let none : r ≡ 0 = omega arith in
        ap (take (suc m)) (chain_stop s (suc k) r none) ∙ sym (chain_stop s (suc m) r none)
    go (yes l) ih =
        let some : r ≡ 0 → ⊥ = λ z. omega arith in
        ap (take (suc m)) (chain_suc s k r some) ∙ ap (λ x. r ∷ x) ih ∙ sym (chain_suc s m r some)

-- behind record p of a chain stands the chain of the record that follows it
pub chain_behind : (s : List ℕ) (k r p : ℕ) → p < length (chain s k r)
    → drop (suc p) (chain s k r) ≡ chain s (k - suc p) (next s (get_or (chain s k r) p 0))
unfolding chain
chain_behind s zero r p h = absurd (omega arith)
chain_behind s (suc k) r p h = go (dec_le 1 r) p h (chain_behind s k (next s r))
  where
    go : Dec (1 ≤ r) → (p : ℕ) → p < length (chain s (suc k) r)
        → ((p : ℕ) → p < length (chain s k (next s r))
        → drop (suc p) (chain s k (next s r)) ≡ chain s (k - suc p) (next s (get_or (chain s k (next s r)) p 0)))
        → drop (suc p) (chain s (suc k) r) ≡ chain s (suc k - suc p) (next s (get_or (chain s (suc k) r) p 0))
    go (no l) p h ih = absurd (omega (arith, ap length (chain_stop s (suc k) r (omega arith))))
    go (yes l) zero h ih =
        let more = chain_suc s k r (λ z. omega arith) in
        let less : suc k - 1 ≡ k = omega arith in
        rw (more, less) refl
    go (yes l) (suc p) h ih =
        let more = chain_suc s k r (λ z. omega arith) in
        let less : suc k - suc (suc p) ≡ k - suc p = omega arith in
        rw (more, less) (ih p (omega (arith, ap length more)))

-- A loop that walks a chain holds, at record r with k records ahead: F (chain s k r) is the answer. It ends at record
-- 0, and else goes on from r to the record r' that follows it.
module _ {ℓ} {B : Type ℓ} (F : List ℕ → B) (s : List ℕ) (k r : ℕ) {a : B} where
  pub walk_stop : r ≡ 0 → F (chain s k r) ≡ a → F [] ≡ a
  walk_stop h inv = sym (ap F (chain_stop s k r h)) ∙ inv

  pub walk_on : {r' : ℕ} → 0 < k → (r ≡ 0 → ⊥) → r' ≡ next s r → F (chain s k r) ≡ a → F (r ∷ chain s (k - 1) r') ≡ a
  walk_on h n e inv = ap (λ q. F (r ∷ chain s (k - 1) q)) e ∙ sym (ap F (chain_step s k r h n)) ∙ inv

pub last_one : (s : List ℕ) (r : ℕ) → r ≡ get_or (chain s 1 r) 0 0
last_one s zero = sym (ap (λ l. get_or l 0 0) (chain_stop s 1 0 refl))
last_one s (suc r) = sym (ap (λ l. get_or l 0 0) (chain_suc s 0 (suc r) (λ h. omega arith)))

-- one record of a walk
pub walk_of_here : (met : List Bool) (r : ℕ) (rs : List ℕ) → get_or met r false ≡ true
    → walk_of met (r ∷ rs) ≡ walked met r
unfolding walk_of
walk_of_here met r rs h = rw (h, walk_of)

pub walk_of_on : (met : List Bool) (r : ℕ) (rs : List ℕ) → get_or met r false ≡ false
    → walk_of met (r ∷ rs) ≡ walk_of (set met r true) rs
unfolding walk_of
walk_of_on met r rs h = rw (h, walk_of)

-- lane t of a walk along the lanes
linkage_here : (s : List ℕ) (met : List Bool) (t k : ℕ) → eqb (walk_lane s met t).twice 0 ≡ false
    → linkage_from s met t (suc k) ≡ (walk_lane s met t).twice
unfolding linkage_from
linkage_here s met t k h = rw (h, linkage_from)

linkage_next : (s : List ℕ) (met : List Bool) (t k : ℕ) → eqb (walk_lane s met t).twice 0 ≡ true
    → linkage_from s met t (suc k) ≡ linkage_from s (walk_lane s met t).met (suc t) k
unfolding linkage_from
linkage_next s met t k h = rw (h, linkage_from)

-- the loop over the lanes holds: linkage_from s met t (e - t) is the answer; lane t was walked, and left these flags
module _ (s : List ℕ) (met : List Bool) (t e : ℕ) {a : ℕ} where
  pub linkage_found : {flags : List Bool} {r : ℕ} → t < e → walked flags r ≡ walk_lane s met t → (r ≡ 0 → ⊥)
      → linkage_from s met t (e - t) ≡ a → r ≡ a
  linkage_found h w p inv =
      let q : e - t ≡ suc (e - suc t) = omega arith in
      let v = ap (λ x. x.twice) w in
      v ∙ sym (linkage_here s met t (e - suc t) (ne_eqb _ _ (λ z. p (v ∙ z)))) ∙ (rw q at inv)

  pub linkage_on : {flags : List Bool} {r : ℕ} → t < e → walked flags r ≡ walk_lane s met t → r ≡ 0
      → linkage_from s met t (e - t) ≡ a → linkage_from s flags (t + 1) (e - (t + 1)) ≡ a
  linkage_on h w p inv =
      let q : e - t ≡ suc (e - suc t) = omega arith in
      let flags-are = ap (λ x. x.met) w in
      rw (add-one, flags-are)
      (sym (linkage_next s met t (e - suc t) (eq-eqb _ _ (sym (ap (λ x. x.twice) w) ∙ p))) ∙ (rw q at inv))

  pub linkage_end : e ≤ t → linkage_from s met t (e - t) ≡ a
      → lowest (λ i. not (get_or met i false)) 1 (record_count s) ≡ a
  unfolding linkage_from
  linkage_end h inv =
      let q : e - t ≡ 0 = omega arith in
      rw q at inv

-- a chain that ends within k records is the same with more room
pub chain_room : (s : List ℕ) (k r j : ℕ) → get_or (chain s (suc k) r) k 0 ≡ 0 → chain s (k + j) r ≡ chain s k r
chain_room s zero r j e =
    let z : r ≡ 0 = last_one s r ∙ e in
    chain_stop s (0 + j) r z ∙ sym (chain_stop s 0 r z)
chain_room s (suc k) r j e = go (dec_le 1 r) (chain_room s k (next s r) j)
  where
    go : Dec (1 ≤ r) → (get_or (chain s (suc k) (next s r)) k 0 ≡ 0 → chain s (k + j) (next s r) ≡ chain s k (next s r))
        → chain s (suc k + j) r ≡ chain s (suc k) r
    go (no l) ih =
        let z : r ≡ 0 = omega arith in
        chain_stop s (suc k + j) r z ∙ sym (chain_stop s (suc k) r z)
    go (yes l) ih =
        let n : r ≡ 0 → ⊥ = λ z. omega arith in
        let q : suc k + j ≡ suc (k + j) = omega arith in
        rw q
        (chain_suc s (k + j) r n
        ∙ ap (λ l. r ∷ l) (ih (sym (ap (λ l. get_or l (suc k) 0) (chain_suc s (suc k) r n)) ∙ e))
        ∙ sym (chain_suc s k r n))
