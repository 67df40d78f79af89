-- Laws of the order of a structured file: its front is the records of its kernel, lane after lane.
use Prim.Native.Nat.{ℕ, zero, suc, ◌+◌, ◌≤◌}
use mathlib.Core.Path.{◌≡◌, refl, sym, ap, ◌∙◌}
use mathlib.Core.List.{List, [], ◌++◌, map-id}
use native.Mathlib.Omega.{arith}
use lib.ListN.{length, get_or, take}
use lib.Seq.{take-add}
use Rattle.file_format.specs.Fields.{record_count}
use Rattle.file_format.specs.Structured.{Structured}
use Rattle.file_format.specs.Accepted.{program_of}
use Rattle.file_format.proofs.Laws.Lanes.{lane_records as own_lane}
use Rattle.file_format.proofs.Laws.Rules.{four_lanes_lem}
use Rattle.file_format.proofs.Laws.Stored.{lane_count_lem, lanes_paired}
use Rattle.file_chains.specs.Ordered.{begin_of, count_of, records_in, Ordered}
use Rattle.file_chains.proofs.Laws.Places.{lane_records}
use Rattle.sheet_format.specs.Bytes.{joined}
use Rattle.sheet_format.specs.Put.{in_turn}
use Rattle.sheet_format.proofs.Laws.Turn.{turn_same, turn_all}
use Rattle.file_accept.specs.Order.{lane_order}

module _ {s order place ends : List ℕ} (st : Structured s) (o : Ordered s order place ends) where
  -- what stands before lane t
  front_in_turn : (t : ℕ) → t ≤ 4 → take (begin_of ends t) order ≡ in_turn (records_in order ends) t
  unfolding in_turn
  front_in_turn zero h = refl
  front_in_turn (suc t) h =
      let end : get_or ends t 0 ≡ begin_of ends t + count_of ends t = omega (arith, o.rising t (omega arith)) in
      ap (λ n. take n order) end
      ∙ take-add (begin_of ends t) (count_of ends t) order
      ∙ ap (λ x. x ++ records_in order ends t) (front_in_turn t (omega arith))

  few : length (program_of s).records ≤ 4
  few =
      let four = four_lanes_lem s st.fields.header in
      omega (arith, lane_count_lem s four, lanes_paired s)

  pub front_is_lane_order : take (record_count s) order ≡ lane_order (program_of s)
  front_is_lane_order =
      let lanes = (program_of s).records in
      ap (λ n. take n order) (sym o.all)
      ∙ front_in_turn 4 (omega arith)
      ∙ turn_same (records_in order ends) (λ t. get_or lanes t []) 4
      (λ t h. lane_records o st.chains t h ∙ sym (own_lane s st.fields.header t h))
      ∙ turn_all (λ x. x) [] refl lanes 4 few
      ∙ ap joined (map-id lanes)
