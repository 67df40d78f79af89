-- Laws of a lane's records in the order of a structured file: how many they are, and the row of each.
use Prim.Native.Nat.{ℕ, ◌+◌, ◌-◌, ◌≤◌, ◌<◌}
use mathlib.Core.Path.{◌≡◌, sym, ap, subst, ◌∙◌}
use mathlib.Core.Bool.{true}
use mathlib.Core.List.{List}
use native.Mathlib.Omega.{arith}
use borrow.Author.Tests.{ne_eqb}
use lib.ListN.{length, get_or, take, drop, length-drop}
use Rattle.file_format.specs.Fields.{byte, record_count, head, target}
use Rattle.file_format.specs.Rules.{record_rule}
use Rattle.file_format.specs.Structured.{Structured}
use Rattle.file_format.specs.Accepted.{op_of, ops_of, ops_at}
use Rattle.file_format.specs.Stored.{no_op}
use Rattle.file_format.specs.Targets.{position}
use Rattle.file_format.proofs.Laws.Rules.{few_records, record_rule_lem, target_small}
use Rattle.file_format.proofs.Laws.Targets.{position_le}
use Rattle.file_format.proofs.Laws.Accepted.{ops_of_at}
use Rattle.file_format.proofs.Laws.Stored.{ops_from_length}
use Rattle.file_chains.specs.Ordered.{begin_of, count_of, records_in, landing_in, Ordered}
use Rattle.file_chains.proofs.Laws.Places.{end_inside, lane_length_lem, lane_at_lem, lane_short, lane_records}
use Rattle.file_chains.proofs.Laws.Places.{target_lands}
use Rattle.sheet_format.specs.Bytes.{op_bytes}
use Rattle.file_rows.specs.Records.{record_row, RecordIn, LaneIn}
use Rattle.file_rows.proofs.Laws.Row.{record_row_lem}

module _ {s order place ends : List ℕ} (st : Structured s) (o : Ordered s order place ends) where
  pub few : record_count s ≤ 256
  few = few_records s st.fields.header

  module _ (t : ℕ) (h : t < 4) where
    abbrev begin : ℕ
    begin = begin_of ends t

    abbrev n : ℕ
    n = count_of ends t

    abbrev rs : List ℕ
    rs = records_in order ends t

    lane_ops_are : ops_of s rs ≡ ops_at s (head s t)
    lane_ops_are = ap (ops_of s) (lane_records o st.chains t h)

    counted : length rs ≡ n
    counted = lane_length_lem o t h

    pub lane_count_is : n ≡ length (ops_at s (head s t))
    lane_count_is = sym counted ∙ sym (ops_from_length s 0 rs) ∙ ap length lane_ops_are

    module _ (p : ℕ) (below : p < n) where
      abbrev r : ℕ
      r = get_or order (begin + p) 0

      record_is : get_or rs p 0 ≡ r
      record_is = lane_at_lem o t h p below

      numbered : (1 ≤ r) × (r ≤ record_count s)
      numbered = o.named (begin + p) (omega (arith, end_inside o t h))

      holds : record_rule s r ≡ true
      holds = record_rule_lem s st.fields.records r numbered.0 numbered.1

      lands : p + 1 + position (target s r) (drop (p + 1) rs) ≡ landing_in place begin n (target s r)
      lands =
          subst (λ x. p + 1 + position (target s x) (drop (p + 1) rs) ≡ landing_in place begin n (target s x)) record_is
          (target_lands o st.chains st.targets t p h below)

      landed : landing_in place begin n (target s r) ≤ 64
      landed =
          omega (
            arith,
            lands,
            position_le (target s r) (drop (p + 1) rs),
            length-drop (p + 1) rs,
            counted,
            lane_short o st.chains t h,
          )

      lane_record_lem : RecordIn s place begin n r
      lane_record_lem = record {
        whole = omega (arith, numbered.1, st.fields.sized);
        aimed = omega (arith, target_small s st.fields.records r numbered.0 numbered.1, o.place_room);
        later =
            λ some. let on : p + 1 ≤ get_or place (target s r) 0 - 1 - begin =
            rw (ne_eqb (target s r) 0 some) at (subst (λ x. p + 1 ≤ x) lands (omega arith)) in
            omega arith;
        landed = omega (arith, landed);
      }

      lane_row : ((i : ℕ) → byte s i < 256)
          → op_bytes (get_or (ops_of s rs) p no_op) ≡ record_row s r (landing_in place begin n (target s r))
      lane_row small =
          ap op_bytes (ops_of_at s rs p no_op (omega (arith, counted))
          ∙ ap (op_of s p (drop (p + 1) rs)) record_is)
          ∙ record_row_lem s small r holds p (drop (p + 1) rs) lands (omega (arith, landed))

-- the same by where the lane begins and ends
module _ {s order place : List ℕ} {begin end : ℕ} (l : LaneIn s order place begin end) where
  -- what holds of the lane's begin and count
  by_lane : (F : ℕ → ℕ → Type 0) → F (begin_of l.ends l.lane) (count_of l.ends l.lane)
      → F begin (end - begin)
  by_lane F x =
      let count : count_of l.ends l.lane ≡ end - begin = omega (arith, l.from, l.to) in
      subst (λ b. F b (end - begin)) (sym l.from) (subst (F (begin_of l.ends l.lane)) count x)

  pub in_order : begin ≤ end
  in_order = omega (arith, l.from, l.to, l.ordered.rising l.lane l.below)

  pub in_file : end ≤ 256
  in_file = omega (arith, l.to, end_inside l.ordered l.lane l.below, few l.structured l.ordered)

  pub in_room : end ≤ length order
  in_room = omega (arith, l.to, end_inside l.ordered l.lane l.below, l.ordered.order_room)

  pub counted_in : length (take (end - begin) (drop begin order)) ≡ end - begin
  counted_in =
      by_lane (λ b k. length (take k (drop b order)) ≡ k) (counted l.structured l.ordered l.lane l.below)

  pub ops_in : ops_of s (take (end - begin) (drop begin order)) ≡ ops_at s (head s l.lane)
  ops_in =
      by_lane (λ b k. ops_of s (take k (drop b order)) ≡ ops_at s (head s l.lane))
      (lane_ops_are l.structured l.ordered l.lane l.below)

  pub record_in_lem : (p : ℕ) → p < end - begin → RecordIn s place begin (end - begin) (get_or order (begin + p) 0)
  record_in_lem =
      by_lane (λ b k. (p : ℕ) → p < k → RecordIn s place b k (get_or order (b + p) 0))
      (lane_record_lem l.structured l.ordered l.lane l.below)

  pub row_in : ((i : ℕ) → byte s i < 256) → (p : ℕ) → p < end - begin
      → op_bytes (get_or (ops_of s (take (end - begin) (drop begin order))) p no_op)
      ≡ record_row s (get_or order (begin + p) 0)
      (landing_in place begin (end - begin) (target s (get_or order (begin + p) 0)))
  row_in small =
      by_lane
      (λ b k. (p : ℕ) → p < k → op_bytes (get_or (ops_of s (take k (drop b order))) p no_op)
      ≡ record_row s (get_or order (b + p) 0) (landing_in place b k (target s (get_or order (b + p) 0))))
      (λ p h. lane_row l.structured l.ordered l.lane l.below p h small)
