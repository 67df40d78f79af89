-- Which targets a record reaches, told by its place and theirs.
use Prim.Native.Nat.{ℕ, ◌+◌, ◌-◌, ◌≤◌, ◌<◌}
use mathlib.Core.Path.{◌≡◌, refl, sym, ap, ◌∙◌}
use mathlib.Core.Bool.{Bool, true, false, not, false≢true}
use mathlib.Core.List.{List}
use native.Mathlib.Omega.{arith}
use native.Mathlib.Decide.{dec_le}
use borrow.Author.Tests.{le-leb, lt-leb, ne_eqb}
use lib.ListN.{length, get_or}
use Rattle.file_format.specs.Fields.{record_count, target, next}
use Rattle.file_format.specs.Linkage.{chain, chain_too_long}
use Rattle.file_format.specs.Targets.{member, unreachable_target}
use Rattle.file_format.proofs.Laws.Targets.{member_position, at_member}
use Rattle.file_chains.specs.Ordered.{begin_of, count_of, records_in, Ordered}
use Rattle.file_chains.specs.Reach.{end_of, reached}
use Rattle.file_chains.proofs.Laws.Places.{behind, behind_length, behind_at, lane_at_lem, lane_behind, found_place}

module _ {s order place ends : List ℕ} (o : Ordered s order place ends) where
  -- the lane of place j
  in_lane : (j : ℕ) → 1 ≤ j → j ≤ record_count s
      → (t : ℕ) × (t < 4) × (begin_of ends t < j) × (j ≤ get_or ends t 0) × (end_of ends j ≡ get_or ends t 0)
  in_lane j lo hi = go (dec_le j (get_or ends 0 0)) (dec_le j (get_or ends 1 0)) (dec_le j (get_or ends 2 0))
    where
      go : Dec (j ≤ get_or ends 0 0) → Dec (j ≤ get_or ends 1 0) → Dec (j ≤ get_or ends 2 0)
          → (t : ℕ) × (t < 4) × (begin_of ends t < j) × (j ≤ get_or ends t 0) × (end_of ends j ≡ get_or ends t 0)
      go (yes a) b c = (0, omega arith, omega arith, a, rw (le-leb j (get_or ends 0 0) a) refl)
      go (no a) (yes b) c =
          let past = lt-leb j (get_or ends 0 0) (omega arith) in
          (1, omega arith, omega arith, b, rw (past, le-leb j (get_or ends 1 0) b) refl)
      go (no a) (no b) (yes c) =
          let past = lt-leb j (get_or ends 0 0) (omega arith) in
          let past' = lt-leb j (get_or ends 1 0) (omega arith) in
          (2, omega arith, omega arith, c, rw (past, past', le-leb j (get_or ends 2 0) c) refl)
      go (no a) (no b) (no c) =
          let past = lt-leb j (get_or ends 0 0) (omega arith) in
          let past' = lt-leb j (get_or ends 1 0) (omega arith) in
          let past'' = lt-leb j (get_or ends 2 0) (omega arith) in
          (3, omega arith, omega arith, omega (arith, o.all), rw (past, past', past'') refl)

  module _ (short : chain_too_long s ≡ 0) (i x : ℕ) (lo : 1 ≤ i) (hi : i ≤ record_count s) (lo' : 1 ≤ x)
      (hi' : x ≤ record_count s) where
    module _ (t p : ℕ) (below : t < 4) (inside : p < count_of ends t) (spot : get_or place i 0
        ≡ begin_of ends t + p + 1)
        (end : end_of ends (get_or place i 0) ≡ get_or ends t 0) where
      here : get_or (records_in order ends t) p 0 ≡ i
      here =
          let back : begin_of ends t + p ≡ get_or place i 0 - 1 = omega arith in
          lane_at_lem o t below p inside ∙ ap (λ n. get_or order n 0) back ∙ (o.every i lo hi).2

      rest : behind order ends t p ≡ chain s 64 (next s i)
      rest = lane_behind o short t below p inside ∙ ap (λ r. chain s 64 (next s r)) here

      -- a place of the lane behind record i has a record that is behind it
      behind_by : get_or place i 0 < get_or place x 0 → get_or place x 0 ≤ get_or ends t 0
          → member x (behind order ends t p) ≡ true
      behind_by more less =
          at_member x (behind order ends t p) q inside'
          (behind_at o short t below p inside q inside' ∙ ap (λ n. get_or order n 0) back ∙ (o.every x lo' hi').2)
        where
          q : ℕ
          q = get_or place x 0 - 1 - begin_of ends t - (p + 1)

          inside' : q < length (behind order ends t p)
          inside' = omega (arith, behind_length o short t below p inside)

          back : begin_of ends t + (p + 1 + q) ≡ get_or place x 0 - 1
          back = omega arith

      reached_by : (b : Bool) → member x (behind order ends t p) ≡ b → Dec (get_or place x 0 ≤ get_or place i 0)
          → Dec (get_or place x 0 ≤ get_or ends t 0) → reached ends (get_or place i 0) (get_or place x 0) ≡ b
      reached_by true e d d' =
          let at = found_place o short t below p inside x (member_position x (behind order ends t p) e) in
          let first = member_position x (behind order ends t p) e in
          rw (lt-leb (get_or place x 0) (get_or place i 0) (omega arith), end)
          (le-leb (get_or place x 0) (get_or ends t 0) (omega (arith, behind_length o short t below p inside)))
      reached_by false e (yes l) d' = rw (le-leb (get_or place x 0) (get_or place i 0) l) refl
      reached_by false e (no l) (no l') =
          rw (lt-leb (get_or place x 0) (get_or place i 0) (omega arith), end)
          (lt-leb (get_or place x 0) (get_or ends t 0) (omega arith))
      reached_by false e (no l) (yes l') = absurd (false≢true (sym e ∙ behind_by (omega arith) l'))

      reached_in : reached ends (get_or place i 0) (get_or place x 0) ≡ member x (chain s 64 (next s i))
      reached_in =
          reached_by (member x (behind order ends t p)) refl (dec_le (get_or place x 0) (get_or place i 0))
          (dec_le (get_or place x 0) (get_or ends t 0))
          ∙ ap (member x) rest

    reached_as : reached ends (get_or place i 0) (get_or place x 0) ≡ member x (chain s 64 (next s i))
    reached_as =
        let at = o.every i lo hi in
        let lane = in_lane (get_or place i 0) at.0 at.1 in
        reached_in lane.0 (get_or place i 0 - 1 - begin_of ends lane.0) lane.1
        (omega (arith, lane.2, lane.3)) (omega (arith, lane.2)) lane.4

  -- the test of a target that is not zero
  pub strays_as : chain_too_long s ≡ 0 → (i : ℕ) → 1 ≤ i → i ≤ record_count s → (target s i ≡ 0 → ⊥)
      → target s i ≤ record_count s
      → not (reached ends (get_or place i 0) (get_or place (target s i) 0)) ≡ unreachable_target s i
  unfolding unreachable_target
  strays_as short i lo hi some hi' =
      rw (ne_eqb (target s i) 0 some)
      (ap not (reached_as short i (target s i) lo hi (omega arith) hi'))
