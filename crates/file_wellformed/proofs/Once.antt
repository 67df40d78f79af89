-- Each record of an accepted file stands in exactly one lane, at one place of it: `entry_range`, `record_placed` and
-- `record_once`.
use Prim.Native.Nat.{ℕ, zero, suc, ◌+◌, ◌≤◌, ◌<◌}
use mathlib.Core.Path.{◌≡◌, refl, sym, ◌∙◌, subst}
use mathlib.Core.List.{List, []}
use mathlib.Core.Bool.{Bool, true, false, not, true≢false, false≢true}
use mathlib.Core.Logic.{◌⊎◌, inl, inr}
use lib.ListN.{get_or, length, take, replicate, length-replicate, length-map, length-take, get_or-replicate}
use lib.ListN.{get_or-eq_default}
use lib.Dec.{eqb}
use native.Mathlib.Omega.{arith}
use native.Mathlib.Decide.{ℕ_discrete, dec_lt}
use borrow.Author.Tests.{eqb-true, eqb-false, not-false}
use Rattle.laws.proofs.Lists.{some_at}
use Rattle.file_format.specs.Fields.{lane_count, record_count, head, heads}
use Rattle.file_format.specs.Linkage.{chain, walk_lane, linkage_from, bad_linkage, chain_too_long}
use Rattle.file_format.specs.Structured.{Structured}
use Rattle.file_format.specs.Accepted.{Program, records_at, program_of}
use Rattle.file_format.proofs.Laws.Search.{nothing_found, nothing_named}
use Rattle.file_format.proofs.Laws.Rules.{few_records, head_range}
use Rattle.file_format.proofs.Laws.Linkage.{chain_room}
use Rattle.file_format.proofs.Laws.Lanes.{lane_records}
use Rattle.file_format.proofs.Bounded.{chain_range}
use Rattle.file_verdict.specs.Verdict.{accepted, verdict}
use Rattle.file_verdict.proofs.Laws.Verdict.{sound, accepted_as}
use Rattle.file_wellformed.proofs.Walks.{At, Walk, Flagged, none_at, walk}

-- ## the walk along the lanes

module _ (s : List ℕ) (ok : Structured s) where
  abbrev lane_of : ℕ → List ℕ
  lane_of t = chain s 257 (head s t)

  abbrev Numbered : ℕ → Type 0
  Numbered i = (1 ≤ i) × (i ≤ record_count s)

  in_range : (t p i : ℕ) → t < 4 → At (lane_of t) p i → Numbered i
  in_range t p i h e =
      let x = some_at (lane_of t) p i 0 e in
      subst Numbered x.1
      (chain_range s ok.fields.records 257 (head s t) p (head_range s ok.fields.header t h) x.0)

  -- what the lanes from t up to 3 say, where met are the flags before them
  record Lanes (met : List Bool) (t : ℕ) : Type 0 where
    fresh : (u p i : ℕ) → t ≤ u → u < 4 → At (lane_of u) p i → get_or met i false ≡ false
    once : (u v p q i : ℕ) → t ≤ u → u < 4 → t ≤ v → v < 4 → At (lane_of u) p i → At (lane_of v) q i → (u ≡ v) × (p ≡ q)
    found : (i : ℕ) → Numbered i
        → (get_or met i false ≡ true) ⊎ ((u : ℕ) × (p : ℕ) × (u < 4) × At (lane_of u) p i)

  module _ (met after : List Bool) (t : ℕ) (small : t < 4) (w : Walk met after (lane_of t)) (ls : Lanes after (suc t))
    where
      -- a record of lane t is in no later one
      apart : (v p q i : ℕ) → suc t ≤ v → v < 4 → At (lane_of t) p i → At (lane_of v) q i → ⊥
      apart v p q i lo hi e f = true≢false (sym (w.marked p i e) ∙ ls.fresh v q i lo hi f)

      lanes_suc : Lanes met t
      lanes_suc = record { fresh = news; once = ones; found = λ i n. back i (ls.found i n) }
        where
          unmet : (i : ℕ) (b : Bool) → get_or met i false ≡ b → get_or after i false ≡ false → b ≡ false
          unmet i false e h = refl
          unmet i true e h = absurd (true≢false (sym (w.kept i e) ∙ h))

          news : (u p i : ℕ) → t ≤ u → u < 4 → At (lane_of u) p i → get_or met i false ≡ false
          news u p i lo hi e = at (ℕ_discrete u t)
            where
              at : Dec (u ≡ t) → get_or met i false ≡ false
              at (yes z) = w.fresh p i (subst (λ x. At (lane_of x) p i) z e)
              at (no n) = unmet i (get_or met i false) refl (ls.fresh u p i (omega arith) hi e)

          ones : (u v p q i : ℕ) → t ≤ u → u < 4 → t ≤ v → v < 4 → At (lane_of u) p i → At (lane_of v) q i
              → (u ≡ v) × (p ≡ q)
          ones u v p q i lu hu lv hv e f = at (ℕ_discrete u t) (ℕ_discrete v t)
            where
              at : Dec (u ≡ t) → Dec (v ≡ t) → (u ≡ v) × (p ≡ q)
              at (yes y) (yes z) = (
                y ∙ sym z,
                w.once p q i (subst (λ x. At (lane_of x) p i) y e) (subst (λ x. At (lane_of x) q i) z f),
              )
              at (yes y) (no n) = absurd (apart v p q i (omega arith) hv (subst (λ x. At (lane_of x) p i) y e) f)
              at (no n) (yes z) = absurd (apart u q p i (omega arith) hu (subst (λ x. At (lane_of x) q i) z f) e)
              at (no m) (no n) = ls.once u v p q i (omega arith) hu (omega arith) hv e f

          back : (i : ℕ) → (get_or after i false ≡ true) ⊎ ((u : ℕ) × (p : ℕ) × (u < 4) × At (lane_of u) p i)
              → (get_or met i false ≡ true) ⊎ ((u : ℕ) × (p : ℕ) × (u < 4) × At (lane_of u) p i)
          back i (inr x) = inr x
          back i (inl h) = at (w.flags i h)
            where
              at : (get_or met i false ≡ true) ⊎ ((p : ℕ) × At (lane_of t) p i)
                  → (get_or met i false ≡ true) ⊎ ((u : ℕ) × (p : ℕ) × (u < 4) × At (lane_of u) p i)
              at (inl f) = inl f
              at (inr f) = inr (t, f.0, small, f.1)

  lanes : (met : List Bool) (t k : ℕ) → t + k ≡ 4 → length met ≡ 257 → linkage_from s met t k ≡ 0 → Lanes met t
  unfolding linkage_from
  lanes met t zero all room e = record {
    fresh = λ u p i lo hi f. absurd (omega arith);
    once = λ u v p q i lu hu lv hv f g. absurd (omega arith);
    found = λ i n. inl (not-false (get_or met i false)
        (nothing_found (λ j. not (get_or met j false)) 1 (record_count s) i (omega arith) e n.0 (omega (arith, n.1))));
  }
  lanes met t (suc k) all room e = go (eqb (walk_lane s met t).twice 0) refl e (lanes (walk_lane s met t).met (suc t) k)
    where
      small : t < 4
      small = omega arith

      go : (b : Bool) → eqb (walk_lane s met t).twice 0 ≡ b
          → ◌≡◌ {A = ℕ} (elim b [
            | true ↦ linkage_from s (walk_lane s met t).met (suc t) k
            | false ↦ (walk_lane s met t).twice
          ]) 0
          → (suc t + k ≡ 4 → length (walk_lane s met t).met ≡ 257
          → linkage_from s (walk_lane s met t).met (suc t) k ≡ 0 → Lanes (walk_lane s met t).met (suc t))
          → Lanes met t
      go false b e ih = absurd (eqb-false (walk_lane s met t).twice 0 b e)
      go true b e ih =
          let range : Flagged met (lane_of t) = λ p i f.
          let x = in_range t p i small f in
          (x.0, omega (arith, x.1, room, few_records s ok.fields.header)) in
          let w = walk met (lane_of t) range (eqb-true (walk_lane s met t).twice 0 b) in
          lanes_suc met (walk_lane s met t).met t small w (ih (omega arith) (w.size ∙ room) e)

  all_lanes : Lanes (replicate 257 false) 0
  unfolding bad_linkage
  all_lanes = lanes (replicate 257 false) 0 4 refl (length-replicate 257 false) ok.linkage

  -- ## the lanes of the kernel

  -- lane t ends within 64 records, so that the walk went along all of it
  lane_whole : (t : ℕ) → t < 4 → get_or (program_of s).records t [] ≡ lane_of t
  unfolding chain_too_long
  lane_whole t h =
      let ends : get_or (chain s 65 (head s t)) 64 0 ≡ 0 =
      nothing_named (λ n. get_or (chain s 65 (head s n)) 64 0) 0 4 t ok.chains (omega arith) (omega arith) in
      lane_records s ok.fields.header t h
      ∙ sym (chain_room s 64 (head s t) 193 ends)

  abbrev RecordAt : ℕ → ℕ → ℕ → Type 0
  RecordAt t p i = At (get_or (program_of s).records t []) p i

  whole_at : (t p i : ℕ) → RecordAt t p i → (t < 4) × At (lane_of t) p i
  whole_at t p i e = go (dec_lt t 4)
    where
      go : Dec (t < 4) → (t < 4) × At (lane_of t) p i
      go (yes h) = (h, subst (λ l. At l p i) (lane_whole t h) e)
      go (no h) =
          none_at p i (subst (λ l. At l p i)
          (get_or-eq_default (program_of s).records [] {n = t}
          (omega (
            arith,
            length-map (take (lane_count s) (heads s)) (records_at s),
            length-take (lane_count s) (heads s),
          ))) e)

  own_range : (t p i : ℕ) → RecordAt t p i → Numbered i
  own_range t p i e = let x = whole_at t p i e in in_range t p i x.0 x.1

  own_placed : (i : ℕ) → Numbered i → (t : ℕ) × (p : ℕ) × RecordAt t p i
  own_placed i n = go (all_lanes.found i n)
    where
      small : i < 257
      small = omega (arith, n.1, few_records s ok.fields.header)

      go : (get_or (replicate 257 false) i false ≡ true) ⊎ ((u : ℕ) × (p : ℕ) × (u < 4) × At (lane_of u) p i)
          → (t : ℕ) × (p : ℕ) × RecordAt t p i
      go (inl h) = absurd (false≢true (sym (get_or-replicate 257 i false false small) ∙ h))
      go (inr x) = (x.0, x.1, subst (λ l. At l x.1 i) (sym (lane_whole x.0 x.2)) x.3)

  own_once : (t u p q i : ℕ) → RecordAt t p i → RecordAt u q i → (t ≡ u) × (p ≡ q)
  own_once t u p q i e f =
      let x = whole_at t p i e in
      let y = whole_at u q i f in
      all_lanes.once t u p q i (omega arith) x.0 (omega arith) y.0 x.1 y.1

-- ## of every accepted kernel

module _ (s : List ℕ) (k : Program) (e : verdict s ≡ accepted k) where
  ok : Structured s
  ok = (sound s (accepted_as s k e).0).0

  same : program_of s ≡ k
  same = (accepted_as s k e).1

  -- every entry of a lane is a record of the file
  pub entry_range : (t p i : ℕ) → At (get_or k.records t []) p i → (1 ≤ i) × (i ≤ record_count s)
  entry_range =
      subst (λ k. (t p i : ℕ) → At (get_or k.records t []) p i → (1 ≤ i) × (i ≤ record_count s)) same (own_range s ok)

  -- each record stands in some lane
  pub record_placed : (i : ℕ) → 1 ≤ i → i ≤ record_count s → (t : ℕ) × (p : ℕ) × At (get_or k.records t []) p i
  record_placed i lo hi =
      subst (λ k. (t : ℕ) × (p : ℕ) × At (get_or k.records t []) p i) same (own_placed s ok i (lo, hi))

  -- and at no second place
  pub record_once : (t u p q i : ℕ) → At (get_or k.records t []) p i → At (get_or k.records u []) q i
      → (t ≡ u) × (p ≡ q)
  record_once =
      subst (λ k. (t u p q i : ℕ) → At (get_or k.records t []) p i → At (get_or k.records u []) q i
      → (t ≡ u) × (p ≡ q)) same (own_once s ok)
