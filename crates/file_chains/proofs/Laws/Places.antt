-- What the order says of a lane: its records, and where its SKIPs lead.
use Prim.Native.Nat.{ℕ, zero, suc, ◌+◌, ◌-◌, ◌≤◌, ◌<◌}
use mathlib.Core.Path.{◌≡◌, refl, sym, ap, ◌∙◌}
use mathlib.Core.Bool.{Bool, true, false, cond}
use mathlib.Core.List.{List}
use mathlib.Core.Logic.{inr}
use native.Mathlib.Omega.{arith}
use native.Mathlib.Decide.{dec_le}
use borrow.Author.Tests.{eqb-true, not-false}
use lib.Dec.{eqb}
use lib.ListN.{length, get_or, take, drop, length-take, length-drop, get_or-eq_default}
use lib.Seq.{take_all, get_or-take, get_or-drop}
use Rattle.file_format.specs.Fields.{record_count, head, target, next}
use Rattle.file_format.specs.Linkage.{chain, chain_too_long}
use Rattle.file_format.specs.Targets.{member, unreachable_target, bad_target, position}
use Rattle.file_format.specs.Accepted.{records_at}
use Rattle.file_format.proofs.Laws.Search.{nothing_found, nothing_named}
use Rattle.file_format.proofs.Laws.Linkage.{chain_front, chain_behind}
use Rattle.file_format.proofs.Laws.Targets.{position_le, member_position, position_at}
use Rattle.file_chains.specs.Ordered.{begin_of, count_of, records_in, Ordered, landing_in}

-- the records behind record p of lane t
abbrev pub behind : List ℕ → List ℕ → ℕ → ℕ → List ℕ
behind order ends t p = drop (p + 1) (records_in order ends t)

-- a target that is not zero, of a record whose target is reached
reached_by : (s : List ℕ) (r : ℕ) → unreachable_target s r ≡ false → eqb (target s r) 0 ≡ false
    → member (target s r) (chain s 64 (next s r)) ≡ true
unfolding unreachable_target
reached_by s r fine some = not-false (member (target s r) (chain s 64 (next s r))) (rw some at fine)

module _ {s order place ends : List ℕ} (o : Ordered s order place ends) where
  -- no lane ends behind the last record
  pub end_inside : (t : ℕ) → t < 4 → get_or ends t 0 ≤ record_count s
  end_inside zero h =
      omega (arith, o.rising 1 (omega arith), o.rising 2 (omega arith), o.rising 3 (omega arith), o.all)
  end_inside (suc zero) h = omega (arith, o.rising 2 (omega arith), o.rising 3 (omega arith), o.all)
  end_inside (suc (suc zero)) h = omega (arith, o.rising 3 (omega arith), o.all)
  end_inside (suc (suc (suc zero))) h = omega (arith, o.all)
  end_inside (suc (suc (suc (suc t)))) h = absurd (omega arith)

  -- and the order has room for it
  pub end_fits : (t : ℕ) → get_or ends t 0 ≤ length order
  end_fits t = go (dec_le 4 t)
    where
      go : Dec (4 ≤ t) → get_or ends t 0 ≤ length order
      go (yes l) = omega (arith, get_or-eq_default ends 0 {n = t} (omega (arith, o.four)))
      go (no l) = omega (arith, end_inside t (omega arith), o.order_room)

  module _ (t : ℕ) (below : t < 4) where
    pub lane_length_lem : length (records_in order ends t) ≡ count_of ends t
    lane_length_lem =
        omega (
          arith,
          length-take (count_of ends t) (drop (begin_of ends t) order),
          length-drop (begin_of ends t) order,
          o.order_room,
          o.rising t below,
          end_inside t below,
        )

    -- record p of the lane stands p places behind its first
    pub lane_at_lem : (p : ℕ) → p < count_of ends t
        → get_or (records_in order ends t) p 0 ≡ get_or order (begin_of ends t + p) 0
    lane_at_lem p h =
        get_or-take (count_of ends t) (drop (begin_of ends t) order) p 0 h ∙ get_or-drop (begin_of ends t) order p 0

    lane_named : (p : ℕ) → p < count_of ends t
        → (1 ≤ get_or order (begin_of ends t + p) 0) × (get_or order (begin_of ends t + p) 0 ≤ record_count s)
    lane_named p h = o.named (begin_of ends t + p) (omega (arith, end_inside t below))

    -- the 65th record of the lane
    last_allowed : get_or (chain s 65 (head s t)) 64 0 ≡ get_or (records_in order ends t) 64 0
    last_allowed =
        ap (λ l. get_or l 64 0) (sym (chain_front s 65 257 (head s t) (omega arith)))
        ∙ get_or-take 65 (chain s 257 (head s t)) 64 0 (omega arith)
        ∙ ap (λ l. get_or l 64 0) (sym (o.lanes t below))

    pub none_over : get_or ends t 0 ≤ begin_of ends t + 64 → 0 ≡ get_or (chain s 65 (head s t)) 64 0
    none_over h =
        sym (last_allowed ∙ get_or-eq_default (records_in order ends t) 0 {n = 64} (omega (arith, lane_length_lem)))

    pub one_over : begin_of ends t + 64 < get_or ends t 0
        → (get_or order (begin_of ends t + 64) 0 ≡ get_or (chain s 65 (head s t)) 64 0)
        × (1 ≤ get_or order (begin_of ends t + 64) 0)
    one_over h = (sym (last_allowed ∙ lane_at_lem 64 (omega arith)), (lane_named 64 (omega arith)).0)

  module _ (short : chain_too_long s ≡ 0) (t : ℕ) (below : t < 4) where
    pub lane_short : count_of ends t ≤ 64
    unfolding chain_too_long
    lane_short = go (dec_le (count_of ends t) 64)
      where
        go : Dec (count_of ends t ≤ 64) → count_of ends t ≤ 64
        go (yes l) = l
        go (no l) =
            let over = one_over t below (omega arith) in
            absurd
            (omega (
              arith,
              over.0,
              over.1,
              nothing_named (λ n. get_or (chain s 65 (head s n)) 64 0) 0 4 t short (omega arith) (omega arith),
            ))

    -- the records of the lane
    pub lane_records : records_in order ends t ≡ records_at s (head s t)
    lane_records =
        sym (take_all 64 (records_in order ends t) (omega (arith, lane_length_lem t below, lane_short)))
        ∙ ap (take 64) (o.lanes t below) ∙ chain_front s 64 257 (head s t) (omega arith)

    module _ (p : ℕ) (inside : p < count_of ends t) where
      -- the records behind record p of the lane
      pub lane_behind : behind order ends t p ≡ chain s 64 (next s (get_or (records_in order ends t) p 0))
      lane_behind =
          let one : p + 1 ≡ suc p = omega arith in
          let lane = o.lanes t below in
          let long = lane_length_lem t below in
          let rest : behind order ends t p ≡ chain s (257 - suc p) (next s (get_or (records_in order ends t) p 0)) =
          rw (one, lane) (chain_behind s 257 (head s t) p (omega (arith, ap length lane))) in
          sym (take_all 64 (behind order ends t p)
          (omega (arith, length-drop (p + 1) (records_in order ends t), long, lane_short)))
          ∙ ap (take 64) rest
          ∙ chain_front s 64 (257 - suc p) (next s (get_or (records_in order ends t) p 0)) (omega (arith, lane_short))

      pub behind_length : p + 1 + length (behind order ends t p) ≡ count_of ends t
      behind_length = omega (arith, length-drop (p + 1) (records_in order ends t), lane_length_lem t below)

      -- a record that stands behind record p
      pub behind_at : (q : ℕ) → q < length (behind order ends t p)
          → get_or (behind order ends t p) q 0 ≡ get_or order (begin_of ends t + (p + 1 + q)) 0
      behind_at q h =
          get_or-drop (p + 1) (records_in order ends t) q 0 ∙ lane_at_lem t below (p + 1 + q) (omega (
            arith,
            behind_length,
          ))

      module _ (x : ℕ) (h : position x (behind order ends t p) < length (behind order ends t p)) where
        found_at : get_or order (begin_of ends t + (p + 1 + position x (behind order ends t p))) 0 ≡ x
        found_at =
            sym (behind_at (position x (behind order ends t p)) h)
            ∙ position_at x (behind order ends t p) (inr h)

        pub found_place : get_or place x 0 ≡ begin_of ends t + (p + 1 + position x (behind order ends t p)) + 1
        found_place =
            ap (λ r. get_or place r 0) (sym found_at)
            ∙ o.placed (begin_of ends t + (p + 1 + position x (behind order ends t p)))
            (omega (arith, behind_length, end_inside t below))

        found_some : 1 ≤ x
        found_some =
            omega (
              arith,
              found_at,
              (lane_named t below (p + 1 + position x (behind order ends t p)) (omega (arith, behind_length))).0,
            )

      -- a target that is zero, or that stands behind record p, is landed at by its place
      lands : (x : ℕ) → (b : Bool) → eqb x 0 ≡ b
          → (b ≡ false → position x (behind order ends t p) < length (behind order ends t p))
          → p + 1 + position x (behind order ends t p)
          ≡ cond b (count_of ends t) (get_or place x 0 - 1 - begin_of ends t)
      lands x false e found = omega (arith, found_place x (found refl))
      lands x true e found = go (dec_le (length (behind order ends t p)) (position x (behind order ends t p)))
        where
          go : Dec (length (behind order ends t p) ≤ position x (behind order ends t p))
              → p + 1 + position x (behind order ends t p) ≡ count_of ends t
          go (yes l) = omega (arith, position_le x (behind order ends t p), behind_length)
          go (no l) = absurd (omega (arith, found_some x (omega arith), eqb-true x 0 e))

  -- where the target of record p leads
  pub target_lands : chain_too_long s ≡ 0 → bad_target s ≡ 0 → (t p : ℕ) → t < 4 → p < count_of ends t
      → p + 1 + position (target s (get_or (records_in order ends t) p 0)) (behind order ends t p)
      ≡ landing_in place (begin_of ends t) (count_of ends t) (target s (get_or (records_in order ends t) p 0))
  unfolding bad_target
  target_lands short fine t p below inside =
      lands short t below p inside (target s r) (eqb (target s r) 0) refl
      (λ some. member_position (target s r) (behind order ends t p)
      (ap (member (target s r)) (lane_behind short t below p inside) ∙ reached_by s r reaches some))
    where
      r : ℕ
      r = get_or (records_in order ends t) p 0

      range : (1 ≤ r) × (r ≤ record_count s)
      range = rw (lane_at_lem t below p inside) (lane_named t below p inside)

      reaches : unreachable_target s r ≡ false
      reaches =
          nothing_found (unreachable_target s) 1 (record_count s) r (omega arith) fine range.0
          (omega (arith, range.1))
