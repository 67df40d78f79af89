-- Laws of the walk along a lane: each record goes behind those that the order has.
use Prim.Native.Nat.{ℕ, suc, ◌+◌, ◌-◌, ◌≤◌, ◌<◌}
use mathlib.Core.Path.{◌≡◌, refl, sym, ap, subst, ◌∙◌}
use mathlib.Core.List.{List, [], ◌∷◌, ◌++◌, append-nil}
use native.Mathlib.Omega.{arith}
use native.Mathlib.Numerals.{add-one}
use native.Mathlib.Decide.{dec_le, ℕ_discrete}
use lib.ListN.{length, get_or, take, set, length-set}
use lib.Seq.{get_or-set_same, get_or-set_other, take-suc-set, append_snoc}
use Rattle.file_format.specs.Fields.{record_count, next}
use Rattle.file_format.specs.Rules.{bad_record}
use Rattle.file_format.specs.Linkage.{chain, walk_of}
use Rattle.file_format.proofs.Laws.Rules.{next_small}
use Rattle.file_format.proofs.Laws.Linkage.{walk_of_here, walk_of_on, walk_stop, walk_on}
use Rattle.file_chains.specs.Walks.{met, tally, Filling, LaneWalked}
use Rattle.file_chains.proofs.Laws.Tally.{tally_le, tally_up, met_length, met_up, met_down, met_set}

module _ (s order place : List ℕ) (n : ℕ) (f : Filling s order place n) where
  -- the order has at most the file's records
  pub filling_count : n ≤ record_count s
  filling_count = omega (arith, f.counted, tally_le (met place) 1 (record_count s))

  -- a record r that has no place yet
  module _ (r : ℕ) (few : record_count s ≤ 256) (lo : 1 ≤ r) (hi : r ≤ record_count s) (none : get_or place r 0
      ≡ 0) where
    counted_on : tally (met (set place r (n + 1))) 1 (record_count s) ≡ n + 1
    counted_on =
        let below : r < 257 = omega arith in
        ap (λ l. tally l 1 (record_count s)) (met_set place r below (n + 1) (omega (arith, f.place_room)) (omega arith))
        ∙ tally_up (met place) r (omega (arith, met_length place)) (met_down place r below none)
        1 (record_count s) lo (omega arith)
        ∙ ap suc f.counted ∙ sym (add-one n)

    pub filling_less : n < record_count s
    filling_less = omega (arith, counted_on, tally_le (met (set place r (n + 1))) 1 (record_count s))

    put : get_or (set order n r) n 0 ≡ r
    put = get_or-set_same order n r 0 (omega (arith, f.order_room, filling_less))

    kept : (j : ℕ) → j < n → get_or (set order n r) j 0 ≡ get_or order j 0
    kept j h = get_or-set_other order n j r 0 (λ e. omega arith)

    named_on : (j : ℕ) → j < n + 1 → (1 ≤ get_or (set order n r) j 0) × (get_or (set order n r) j 0 ≤ record_count s)
    named_on j h = go (dec_le n j)
      where
        go : Dec (n ≤ j) → (1 ≤ get_or (set order n r) j 0) × (get_or (set order n r) j 0 ≤ record_count s)
        go (yes l) =
            let same : j ≡ n = omega arith in
            rw (same, put) (lo, hi)
        go (no l) = rw (kept j (omega arith)) (f.named j (omega arith))

    placed_on : (j : ℕ) → j < n + 1 → get_or (set place r (n + 1)) (get_or (set order n r) j 0) 0 ≡ j + 1
    placed_on j h = go (dec_le n j)
      where
        go : Dec (n ≤ j) → get_or (set place r (n + 1)) (get_or (set order n r) j 0) 0 ≡ j + 1
        go (yes l) =
            let same : j ≡ n = omega arith in
            rw (same, put) (get_or-set_same place r (n + 1) 0 (omega (arith, f.place_room)))
        go (no l) =
            let was = f.placed j (omega arith) in
            let apart : get_or order j 0 ≡ r → ⊥ = λ e. omega (arith, was, ap (λ x. get_or place x 0) e) in
            rw (kept j (omega arith)) (get_or-set_other place r (get_or order j 0) (n + 1) 0 apart ∙ was)

    every_on : (i : ℕ) → 1 ≤ get_or (set place r (n + 1)) i 0
        → (get_or (set place r (n + 1)) i 0 ≤ n + 1)
        × (get_or (set order n r) (get_or (set place r (n + 1)) i 0 - 1) 0 ≡ i)
    every_on i up = go (ℕ_discrete i r)
      where
        go : Dec (i ≡ r) → (get_or (set place r (n + 1)) i 0 ≤ n + 1)
            × (get_or (set order n r) (get_or (set place r (n + 1)) i 0 - 1) 0 ≡ i)
        go (yes same) =
            let last : n + 1 - 1 ≡ n = omega arith in
            rw (same, get_or-set_same place r (n + 1) 0 (omega (arith, f.place_room))) (omega arith, rw last put)
        go (no apart) =
            let was : get_or (set place r (n + 1)) i 0 ≡ get_or place i 0 =
            get_or-set_other place r i (n + 1) 0 apart in
            let old = f.every i (omega arith) in
            rw was (omega (arith, old.0), kept (get_or place i 0 - 1) (omega (arith, old.0)) ∙ old.1)

    pub filling_on : Filling s (set order n r) (set place r (n + 1)) (n + 1)
    filling_on =
        record {
          order_room = omega (arith, length-set order n r, f.order_room);
          place_room = omega (arith, length-set place r (n + 1), f.place_room);
          counted = counted_on;
          named = named_on;
          placed = placed_on;
          every = every_on;
        }

-- The walk from record h on, which found k records in the order, is at record r and has n there: the rest of the walk
-- is the whole walk.
pub record Walking (s : List ℕ) (h k : ℕ) (order₀ place₀ order place : List ℕ) (r n : ℕ) : Type 0 where
  pub small : r ≤ record_count s
  pub few : record_count s ≤ 256
  pub keeps : bad_record s ≡ 0
  pub filling : Filling s order place n
  pub order_kept : length order ≡ length order₀
  pub place_kept : length place ≡ length place₀
  pub more : k ≤ n
  pub rest : walk_of (met place) (chain s (257 - (n - k)) r) ≡ walk_of (met place₀) (chain s 257 h)
  pub records : take n order ++ chain s (257 - (n - k)) r ≡ take k order₀ ++ chain s 257 h

pub walking_start : (s : List ℕ) (h k : ℕ) (order place : List ℕ) → h ≤ record_count s → record_count s ≤ 256
    → bad_record s ≡ 0 → Filling s order place k → Walking s h k order place order place h k
walking_start s h k order place hi few keeps f =
    let whole : 257 - (k - k) ≡ 257 = omega arith in
    record {
      small = hi;
      few = few;
      keeps = keeps;
      filling = f;
      order_kept = refl;
      place_kept = refl;
      more = omega arith;
      rest = rw whole refl;
      records = rw whole refl;
    }

module _ {s : List ℕ} {h k : ℕ} {order₀ place₀ order place : List ℕ} {r n : ℕ}
    (w : Walking s h k order₀ place₀ order place r n) where
  pub walking_count : n ≤ 256
  walking_count = omega (arith, w.few, filling_count s order place n w.filling)

  pub walking_stop : r ≡ 0 → LaneWalked s h k order₀ place₀ 0 n order place
  unfolding walk_of
  walking_stop z =
      record {
        flags = walk_stop (walk_of (met place)) s (257 - (n - k)) r z w.rest;
        filling = w.filling;
        behind = λ e. sym (append-nil (take n order))
            ∙ walk_stop (λ l. take n order ++ l) s (257 - (n - k)) r z w.records;
      }

  module _ (some : r ≡ 0 → ⊥) where
    pub walking_twice : (get_or place r 0 ≡ 0 → ⊥) → LaneWalked s h k order₀ place₀ r n order place
    walking_twice given =
        record {
          flags = sym (walk_of_here (met place) r _ (met_up place r (omega (arith, w.small, w.few)) given))
              ∙ walk_on (walk_of (met place)) s (257 - (n - k)) r (omega (arith, walking_count)) some refl w.rest;
          filling = w.filling;
          behind = λ e. absurd (some e);
        }

    module _ (none : get_or place r 0 ≡ 0) where
      pub walking_room : n < record_count s
      walking_room = filling_less s order place n w.filling r w.few (omega arith) w.small none

      pub walking_on : {r' : ℕ} → r' ≡ next s r
          → Walking s h k order₀ place₀ (set order n r) (set place r (n + 1)) r' (n + 1)
      walking_on {r'} e =
          let fuel : 0 < 257 - (n - k) = omega (arith, walking_count) in
          let less : 257 - (n + 1 - k) ≡ 257 - (n - k) - 1 = omega (arith, w.more, walking_count) in
          let lo : 1 ≤ r = omega arith in
          let below : r < 257 = omega (arith, w.small, w.few) in
          let flag = met_set place r below (n + 1) (omega (arith, w.filling.place_room, w.small)) (omega arith) in
          let one : n + 1 ≡ suc n = omega arith in
          let longer : take (n + 1) (set order n r) ≡ take n order ++ (r ∷ []) =
          ap (λ m. take m (set order n r)) one
          ∙ take-suc-set order n r (omega (arith, w.filling.order_room, walking_room)) in
          record {
            small = omega (arith, e, next_small s w.keeps r lo w.small);
            few = w.few;
            keeps = w.keeps;
            filling = filling_on s order place n w.filling r w.few lo w.small none;
            order_kept = length-set order n r ∙ w.order_kept;
            place_kept = length-set place r (n + 1) ∙ w.place_kept;
            more = omega (arith, w.more);
            rest = ap (λ m. walk_of (met (set place r (n + 1))) (chain s m r')) less
                ∙ ap (λ l. walk_of l (chain s (257 - (n - k) - 1) r')) flag
                ∙ sym (walk_of_on (met place) r _ (met_down place r below none))
                ∙ walk_on (walk_of (met place)) s (257 - (n - k)) r fuel some e w.rest;
            records = ap (λ m. take (n + 1) (set order n r) ++ chain s m r') less
                ∙ ap (λ l. l ++ chain s (257 - (n - k) - 1) r') longer
                ∙ append_snoc (take n order) r (chain s (257 - (n - k) - 1) r')
                ∙ walk_on (λ l. take n order ++ l) s (257 - (n - k)) r fuel some e w.records;
          }

-- the same walk, from a record that is h
pub lane_as : {s : List ℕ} {h h' k : ℕ} {order place : List ℕ} {twice n : ℕ} {order' place' : List ℕ} → h ≡ h'
    → LaneWalked s h k order place twice n order' place' → LaneWalked s h' k order place twice n order' place'
lane_as {s} {h} {h'} {k} {order} {place} {twice} {n} {order'} {place'} e w =
    subst (λ x. LaneWalked s x k order place twice n order' place') e w
