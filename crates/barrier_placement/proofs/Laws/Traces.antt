-- Paths of a placed lane are paths of the chain that pass every barrier on their way.
use Prim.Native.Nat.{ℕ, zero, suc, ◌+◌, ◌<◌, ◌≤◌}
use native.Mathlib.Nat.{not-suc-le-zero, le_of_suc-le-suc, eq-or-lt_of_le, le_refl}
use native.Mathlib.Omega.{arith}
use mathlib.Core.Path.{◌≡◌, refl, sym, ◌∙◌, ap, subst}
use mathlib.Core.List.{List, map}
use mathlib.Core.Logic.{◌⊎◌, inl, inr}
use lib.ListN.{length}
use Rattle.barrier_placement.specs.Chain.{Step, Chain, Next, Path, edge, more, Between}
use Rattle.barrier_placement.specs.Sentence.{Along}
use Rattle.barrier_placement.specs.Layout.{Placed, operations, barriers_at, start, op_at}
use Rattle.barrier_placement.specs.Sheet.{Item, bar, op, NextItem, aim, items_of}
use Rattle.barrier_placement.proofs.Laws.Layout.{place_within, inside_chain}
use Rattle.barrier_placement.proofs.Laws.Items.{from_op, from_bar, to_next}

module _ {A : Type 0} (step : A → Step) (ps : List (Placed A)) where
  abbrev s : Chain
  s = map step (operations ps)

  abbrev t : List Item
  t = items_of step ps

  abbrev put : A → Item
  put a = op (aim (start ps) (step a))

  -- m is the position of a step along the path of the chain, or of a barrier before it
  abbrev pub OnWay : {i k : ℕ} → Path (Next s) i k → ℕ → Type 0
  OnWay ρ m = (k : ℕ) × (o : ℕ) × Along ρ k × (o ≤ length (barriers_at ps k)) × (m ≡ start ps k + o)

  -- where a path of the lane has come to: a path of the chain that it follows, all of whose steps and barriers
  -- it has passed
  pub record Trace (i : ℕ) {m : ℕ} (π : Path (NextItem t) (op_at ps i) m) : Type 0 where
    pub reached : ℕ
    pub offset : ℕ
    pub place : m ≡ start ps reached + offset
    pub inside : offset ≤ length (barriers_at ps reached)
    pub path : Path (Next s) i reached
    pub passed : (k : ℕ) → Between path k → (o : ℕ) → o ≤ length (barriers_at ps k) → Between π (start ps k + o)
    pub here : (o : ℕ) → o < offset → Between π (start ps reached + o)

  onward : (i : ℕ) {q m : ℕ} (π : Path (NextItem t) (op_at ps i) q) (e : NextItem t q m)
      → Trace i π → Trace i (more π e)
  onward i {q} {m} π e r = go (eq-or-lt_of_le r.inside)
    where
      k<n : r.reached < length ps
      k<n = inside_chain bar put ps r.reached r.offset (omega (arith, e.0, r.place))

      from : (o : ℕ) → r.offset ≡ o → NextItem t (start ps r.reached + o) m
      from o w =
          subst (λ (x : ℕ). NextItem t x m) (r.place ∙ ap (λ (x : ℕ). start ps r.reached + x) w) e

      -- the last barriers up to where the path stood
      last : (o : ℕ) → o ≤ r.offset → Between (more π e) (start ps r.reached + o)
      last o l = elim (eq-or-lt_of_le l) [
        | inl v ↦ inr (ap (λ (x : ℕ). start ps r.reached + x) v ∙ sym r.place)
        | inr v ↦ inl (r.here o v)
      ]

      go : (r.offset ≡ length (barriers_at ps r.reached)) ⊎ (r.offset < length (barriers_at ps r.reached))
          → Trace i (more π e)
      go (inl w) =
          let f = from_op step ps r.reached m k<n (from (length (barriers_at ps r.reached)) w) in
          record {
            reached = f.0;
            offset = 0;
            place = f.2 ∙ omega arith;
            inside = omega arith;
            path = more r.path f.1;
            passed = λ k v o l. elim v [
              | inl b ↦ inl (r.passed k b o l)
              | inr b ↦ subst (λ (x : ℕ). Between (more π e) (start ps x + o)) (sym b)
                  (last o (rw w (subst (λ (x : ℕ). o ≤ length (barriers_at ps x)) b l)))
            ];
            here = λ o l. absurd (not-suc-le-zero l);
          }
      go (inr w) = record {
        reached = r.reached;
        offset = suc r.offset;
        place = from_bar step ps r.reached r.offset m w (from r.offset refl);
        inside = w;
        path = r.path;
        passed = λ k v o l. inl (r.passed k v o l);
        here = λ o l. last o (le_of_suc-le-suc l);
      }

  pub trace : (i : ℕ) {m : ℕ} (π : Path (NextItem t) (op_at ps i) m) → i < length ps → Trace i π
  trace i {m} (edge e) h =
      let r = from_op step ps i m h e in
      record {
        reached = r.0;
        offset = 0;
        place = r.2 ∙ omega arith;
        inside = omega arith;
        path = edge r.1;
        passed = λ k w. absurd w;
        here = λ o l. absurd (not-suc-le-zero l);
      }
  trace i {m} (more {q = q} π e) h = onward i π e (trace i π h)

  -- a path of the chain, followed in the lane up to the item at offset o of its last step
  pub record Followed {i k : ℕ} (ρ : Path (Next s) i k) (o m : ℕ) : Type 0 where
    pub path : Path (NextItem t) (op_at ps i) m
    pub along : (m' : ℕ) → Between path m' → OnWay ρ m'
    pub here : (o' : ℕ) → o' < o → Between path (start ps k + o')

  -- on through the barriers before the last step
  through : {i k : ℕ} (ρ : Path (Next s) i k) → Followed ρ 0 (start ps k) → (o m : ℕ)
      → o ≤ length (barriers_at ps k) → m ≡ start ps k + o → Followed ρ o m
  through {i} {k} ρ f zero m l e =
      let w : start ps k ≡ m = omega arith in subst (λ (x : ℕ). Followed ρ 0 x) w f
  through {i} {k} ρ f (suc o) m l e =
      let r = through ρ f o (start ps k + o) (omega arith) refl in
      let inside : start ps k + o < length t = omega (arith, place_within bar put ps k (suc o) l) in
      record {
        path = more {p = m} r.path (inside, inl (omega arith));
        along = λ m' w. elim w [ inl v ↦ r.along m' v | inr v ↦ (k, o, inr refl, omega arith, v) ];
        here = λ o' l'. elim (eq-or-lt_of_le (le_of_suc-le-suc l')) [
          | inl v ↦ inr (ap (λ (x : ℕ). start ps k + x) v)
          | inr v ↦ inl (r.here o' v)
        ];
      }

  -- and to the step itself
  pub pass : {i k : ℕ} (ρ : Path (Next s) i k) → Followed ρ 0 (start ps k)
      → Followed ρ (length (barriers_at ps k)) (op_at ps k)
  pass {k = k} ρ f = through ρ f (length (barriers_at ps k)) (op_at ps k) (le_refl (length (barriers_at ps k))) refl

  pub follow : {i k : ℕ} (ρ : Path (Next s) i k) (m : ℕ) → m ≡ start ps k → Followed ρ 0 m
  follow {i} {k} (edge e) m h = record {
    path = edge (to_next step ps i k m e h);
    along = λ m' w. absurd w;
    here = λ o l. absurd (not-suc-le-zero l);
  }
  follow {i} {k} (more {q = q} ρ e) m h =
      let f = pass ρ (follow ρ (start ps q) refl) in
      record {
        path = more f.path (to_next step ps q k m e h);
        along = λ m' w. elim w [
          | inl v ↦ let r = f.along m' v in (r.0, r.1, inl r.2, r.3, r.4)
          | inr v ↦ (q, length (barriers_at ps q), inl (inr refl), le_refl (length (barriers_at ps q)), v)
        ];
        here = λ o l. absurd (not-suc-le-zero l);
      }
