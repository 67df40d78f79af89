-- Laws of the walk along the lanes: their chains stand in the order one behind the other.
use Prim.Native.Nat.{ℕ, zero, suc, ◌+◌, ◌-◌, ◌≤◌, ◌<◌, min}
use mathlib.Core.Path.{◌≡◌, refl, sym, ap, ◌∙◌}
use mathlib.Core.Bool.{Bool, false, not}
use mathlib.Core.List.{List, ◌++◌, append_assoc}
use native.Mathlib.Omega.{arith}
use native.Mathlib.Numerals.{add-one}
use native.Mathlib.Decide.{dec_le}
use lib.ListN.{length, get_or, take, drop, set, replicate, length-append, length-set, length-take, take-append-drop}
use lib.Seq.{get_or-set_same, get_or-set_other, take-append_seam, drop-append_seam}
use Rattle.laws.proofs.Lists.{getD-replicate-all}
use Rattle.file_format.specs.Fields.{record_count, head}
use Rattle.file_format.specs.Search.{lowest}
use Rattle.file_format.specs.Linkage.{chain, linkage_from, bad_linkage}
use Rattle.file_format.proofs.Laws.Linkage.{linkage_on, linkage_end}
use Rattle.file_chains.specs.Ordered.{begin_of, records_in, Ordered}
use Rattle.file_chains.specs.Walks.{met, fronts, Filling, LaneWalked}
use Rattle.file_chains.proofs.Laws.Tally.{tally_none, up_at, none_down, all_up, met_none, met_given}
use Rattle.file_chains.proofs.Laws.Walks.{filling_count}

-- t lanes were walked, and left k records in the order
pub record Linking (s order place ends : List ℕ) (k t : ℕ) : Type 0 where
  pub filling : Filling s order place k
  pub few : record_count s ≤ 256
  pub four : length ends ≡ 4
  pub upto : t ≤ 4
  pub front : take k order ≡ fronts s t
  pub end_at : (u : ℕ) → u < t → get_or ends u 0 ≡ length (fronts s (suc u))
  pub answer : linkage_from s (met place) t (4 - t) ≡ bad_linkage s

pub linking_start : (s order place : List ℕ) → record_count s ≤ 256 → record_count s ≤ length order
    → record_count s < length place → place ≡ replicate (length place) 0
    → Linking s order place (replicate 4 0) 0 0
unfolding fronts bad_linkage
linking_start s order place few room room' blank =
    record {
      filling = record {
        order_room = room;
        place_room = room';
        counted = tally_none (met place) 1 (record_count s) (λ j. ap (λ l. get_or l j false) down
            ∙ getD-replicate-all {A = Bool} (λ b. b ≡ false) 257 false false refl refl j);
        named = λ j h. absurd (omega arith);
        placed = λ j h. absurd (omega arith);
        every = λ i up. absurd (omega (arith, none i));
      };
      few = few;
      four = refl;
      upto = omega arith;
      front = refl;
      end_at = λ u h. absurd (omega arith);
      answer = ap (λ l. linkage_from s l 0 4) down;
    }
  where
    none : (i : ℕ) → get_or place i 0 ≡ 0
    none i =
        ap (λ l. get_or l i 0) blank
        ∙ getD-replicate-all {A = ℕ} (λ n. n ≡ 0) (length place) 0 0 refl refl i

    down : met place ≡ replicate 257 false
    down = met_none place none

module _ {s order place ends : List ℕ} {k t : ℕ} (l : Linking s order place ends k t) where
  -- lane t was walked
  pub linking_on : {order' place' : List ℕ} {twice n : ℕ} → t < 4
      → LaneWalked s (head s t) k order place twice n order' place' → twice ≡ 0
      → Linking s order' place' (set ends t n) n (t + 1)
  unfolding fronts
  linking_on {order'} {place'} {twice} {n} more w once =
      let front : take n order' ≡ fronts s (suc t) =
      w.behind once ∙ ap (λ x. x ++ chain s 257 (head s t)) l.front in
      record {
        filling = w.filling;
        few = l.few;
        four = length-set ends t n ∙ l.four;
        upto = omega arith;
        front = rw add-one front;
        end_at = λ u h. end_on front u (dec_le t u) (omega arith);
        answer = linkage_on s (met place) t 4 more w.flags once l.answer;
      }
    where
      end_on : take n order' ≡ fronts s (suc t) → (u : ℕ) → Dec (t ≤ u) → u ≤ t
          → get_or (set ends t n) u 0 ≡ length (fronts s (suc u))
      end_on front u (yes a) b =
          let same : u ≡ t = omega arith in
          let inside = filling_count s order' place' n w.filling in
          rw (same, get_or-set_same ends t n 0 (omega (arith, l.four)), ← front)
          (omega (arith, length-take n order', w.filling.order_room, inside, l.few))
      end_on front u (no a) b =
          get_or-set_other ends t u n 0 (λ e. omega arith) ∙ l.end_at u (omega arith)

-- what stands in a list where lane u does
abbrev part : List ℕ → ℕ → List ℕ → List ℕ
part s u l = take (length (fronts s (suc u)) - length (fronts s u)) (drop (length (fronts s u)) l)

-- the chain of lane u among the chains of t lanes
lane_among : (s : List ℕ) (t u : ℕ) (rest : List ℕ) → u < t
    → part s u (fronts s t ++ rest) ≡ chain s 257 (head s u)
unfolding fronts
lane_among s zero u rest h = absurd (omega arith)
lane_among s (suc t) u rest h = go (dec_le t u) (lane_among s t u (chain s 257 (head s t) ++ rest))
  where
    go : Dec (t ≤ u) → (u < t → part s u (fronts s t ++ (chain s 257 (head s t) ++ rest)) ≡ chain s 257 (head s u))
        → part s u (fronts s (suc t) ++ rest) ≡ chain s 257 (head s u)
    go (no a) ih = ap (part s u) (append_assoc (fronts s t) (chain s 257 (head s t)) rest) ∙ ih (omega arith)
    go (yes a) ih =
        let same : t ≡ u = omega arith in
        let own : length (fronts s u ++ chain s 257 (head s u)) - length (fronts s u)
        ≡ length (chain s 257 (head s u)) =
        omega (arith, length-append (fronts s u) (chain s 257 (head s u))) in
        rw (
          same,
          append_assoc (fronts s u) (chain s 257 (head s u)) rest,
          own,
          drop-append_seam (fronts s u) (chain s 257 (head s u) ++ rest),
        )
        (take-append_seam (chain s 257 (head s u)) rest)

-- all four lanes were walked
module _ {s order place ends : List ℕ} {k t : ℕ} (l : Linking s order place ends k t) (all : 4 ≤ t) where
  pub linking_end : lowest (λ i. not (get_or (met place) i false)) 1 (record_count s) ≡ bad_linkage s
  linking_end = linkage_end s (met place) t 4 all l.answer

  -- as many records as the file has
  pub linking_full : k ≡ record_count s → 0 ≡ bad_linkage s
  linking_full e = sym (all_up (met place) 1 (record_count s) (l.filling.counted ∙ e)) ∙ linking_end

-- and no record is left over
module _ {s order place ends : List ℕ} {k t : ℕ} (l : Linking s order place ends k t) (all : 4 ≤ t)
    (fine : bad_linkage s ≡ 0) where
  none : lowest (λ i. not (get_or (met place) i false)) 1 (record_count s) ≡ 0
  none = linking_end l all ∙ fine

  four_walked : t ≡ 4
  four_walked = omega (arith, l.upto)

  whole : k ≡ record_count s
  whole = sym l.filling.counted ∙ none_down (met place) (record_count s) none

  end_of : (u : ℕ) → u < 4 → get_or ends u 0 ≡ length (fronts s (suc u))
  end_of u h = l.end_at u (omega (arith, four_walked))

  begin_of_lem : (u : ℕ) → u < 4 → begin_of ends u ≡ length (fronts s u)
  unfolding fronts
  begin_of_lem zero h = refl
  begin_of_lem (suc u) h = end_of u (omega arith)

  split : order ≡ fronts s 4 ++ drop k order
  split =
      sym (take-append-drop k order)
      ∙ ap (λ x. x ++ drop k order) (l.front ∙ ap (fronts s) four_walked)

  lane_of : (u : ℕ) → u < 4 → records_in order ends u ≡ chain s 257 (head s u)
  lane_of u h =
      rw (end_of u h, begin_of_lem u h)
      (ap (part s u) split ∙ lane_among s 4 u (drop k order) h)

  rising_of : (u : ℕ) → u < 4 → begin_of ends u ≤ get_or ends u 0
  unfolding fronts
  rising_of u h = omega (arith, begin_of_lem u h, end_of u h, length-append (fronts s u) (chain s 257 (head s u)))

  every_of : (i : ℕ) → 1 ≤ i → i ≤ record_count s
      → (1 ≤ get_or place i 0) × (get_or place i 0 ≤ record_count s) × (get_or order (get_or place i 0 - 1) 0 ≡ i)
  every_of i lo hi =
      let up : 1 ≤ get_or place i 0 =
      met_given place i (omega (arith, l.few)) (up_at (met place) (record_count s) none i lo (omega arith)) in
      let at = l.filling.every i up in
      (up, omega (arith, at.0, whole), at.1)

  pub linked : Ordered s order place ends
  linked =
      record {
        order_room = l.filling.order_room;
        place_room = l.filling.place_room;
        four = l.four;
        rising = rising_of;
        all = end_of 3 (omega arith) ∙ sym (ap length (l.front ∙ ap (fronts s) four_walked))
            ∙ length-take k order ∙ sizes;
        lanes = lane_of;
        named = λ j h. l.filling.named j (omega (arith, whole));
        placed = λ j h. l.filling.placed j (omega (arith, whole));
        every = every_of;
      }
    where
      sizes : min k (length order) ≡ record_count s
      sizes = omega (arith, l.filling.order_room, whole, l.few)
