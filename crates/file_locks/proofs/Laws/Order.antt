-- Laws of the lanes of a file whose records stand in the order of its lanes, as the check finds them in order and rows.
use Prim.Native.Nat.{ℕ, zero, suc, ◌+◌, ◌-◌, ◌*◌, ◌≤◌, ◌<◌}
use mathlib.Core.Path.{◌≡◌, refl, sym, ap, subst, ◌∙◌}
use mathlib.Core.List.{List, []}
use mathlib.Core.Option.{some}
use Rattle.std.specs.Prelude.{Option, Some, None, Result, Ok, Err}
use native.Mathlib.Omega.{arith}
use lib.ListN.{length, get_or, take, drop, length-drop, length-append}
use Rattle.file_format.specs.declared.accepted.Op.{Op}
use Rattle.file_format.specs.declared.accepted.Op.TheVariants.{Set, Add, Load, Store, Lock, Unlock, Skip}
use Rattle.file_format.specs.Fields.{locations, locks, record_count, head}
use Rattle.file_format.specs.Accepted.{records_at, ops_at, program_of}
use Rattle.file_format.specs.Held.{fault_position, record_at, lane_fault, lock_fault}
use Rattle.file_format.specs.Rising.{descent_position, lane_descent, lock_order}
use Rattle.file_format.specs.Lawful.{Bounded}
use Rattle.file_format.specs.Search.{first_of}
use Rattle.file_format.specs.Structured.{Structured}
use Rattle.file_format.specs.Stored.{no_op}
use Rattle.file_format.proofs.Bounded.{chain_range, lane_bounded}
use Rattle.file_format.proofs.Disciplined.{unbroken, undescended}
use Rattle.file_format.proofs.Laws.Lanes.{lane_records as own_lane, lane_ops}
use Rattle.file_format.proofs.Laws.Rules.{few_locks, few_records, head_range}
use Rattle.file_format.proofs.Laws.Stored.{ops_from_length}
use Rattle.file_chains.specs.Ordered.{begin_of, count_of, records_in, Ordered}
use Rattle.file_chains.proofs.Laws.Places.{end_inside, lane_length_lem, lane_records}
use Rattle.sheet_format.specs.declared.Level.TheVariants.{Level0}
use Rattle.sheet_format.specs.Bytes.{over, sheet_bytes}
use Rattle.sheet_rows.specs.Lanes.{fields_of}
use Rattle.file_rows.proofs.Laws.Holds.{many, before, many_small, lane_holds}
use Rattle.file_locks.specs.Sets.{no_jump, jump_or}
use Rattle.file_locks.specs.Lanes.{Named, LaneIn, Told, Finds, RecordsOf}
use Rattle.file_locks.proofs.Laws.Held.{record_none}

-- the fault of lane t, and its first descent
abbrev pub fault : List ℕ → ℕ → ℕ
fault s t = lane_fault (get_or (program_of s).records t []) (get_or (program_of s).lanes t [])

abbrev pub descent : List ℕ → ℕ → ℕ
descent s t = lane_descent (get_or (program_of s).records t []) (get_or (program_of s).lanes t [])

-- f is what is found in the lane from `from` to `end` of the order
abbrev pub FoundIn : List ℕ → List ℕ → ℕ → ℕ → Result (Option ℕ) ℕ → Type 0
FoundIn rows order from end f =
    (ops : List Op) → LaneIn (drop (16 + 8 * from) rows) (end - from) ops
    → RecordsOf (take (end - from) (drop from order)) ops f

-- among records none of which is 0, the record at a position is 0 where the position is
told_by : (f : ℕ → ℕ) (x : ℕ) → (f x ≡ 0 → x ≡ 0) → (x ≡ 0 → f x ≡ 0) → (o : Option ℕ) → Told f x o
    → Told (λ y. y) (f x) o
told_by f x back on None told = on told
told_by f x back on (Some y) told = (told.0, λ z. told.1 (back z))

finds_by : (rs : List ℕ) (ops : List Op) → length rs ≡ length ops → ((p : ℕ) → p < length rs → 1 ≤ get_or rs p 0)
    → (r : Result (Option ℕ) ℕ) → RecordsOf rs ops r → Finds (λ y. y) (lane_fault rs ops) (lane_descent rs ops) r
finds_by rs ops len nonzero (Ok o) is = (
  record_none rs (fault_position ops) is.0,
  told_by (record_at rs) (descent_position ops) (undescended rs ops len nonzero)
      (record_none rs (descent_position ops)) o is.1,
)
finds_by rs ops len nonzero (Err y) is = (is.0, λ z. is.1 (unbroken rs ops len nonzero z))

-- a bounded SKIP goes on, at most to the end, and a bounded LOCK or UNLOCK names one of the four locks
leads : (ls ks n p : ℕ) (o : Op) → n ≤ 64 → ks ≤ 4 → p < n → Bounded ls ks n p o
    → (p < jump_or no_jump (some o)) × ((fields_of o).code ≡ 7 → (fields_of o).word ≤ n) × Named o
leads ls ks n p (Set a c) h k l b = (omega arith, λ e. absurd (omega arith), λ e. omega arith)
leads ls ks n p (Add a x) h k l b = (omega arith, λ e. omega arith, λ e. omega arith)
leads ls ks n p (Load a x) h k l b = (omega arith, λ e. omega arith, λ e. omega arith)
leads ls ks n p (Store a x) h k l b = (omega arith, λ e. omega arith, λ e. omega arith)
leads ls ks n p (Lock x) h k l b = (omega arith, λ e. omega arith, λ e. omega arith)
leads ls ks n p (Unlock x) h k l b = (omega arith, λ e. omega arith, λ e. omega arith)
leads ls ks n p (Skip a q) h k l b = (b.1, λ e. b.2, λ e. omega arith)

-- a buffer that begins with other bytes is no shorter than it was
rows_room : (rows own bytes : List ℕ) → rows ≡ over bytes own → length own ≤ length rows
rows_room rows own bytes e =
    omega (arith, ap length e, length-append bytes (drop (length bytes) own), length-drop (length bytes) own)

module _ (s order place ends : List ℕ) (st : Structured s) (ordered : Ordered s order place ends) where
  abbrev end : ℕ → ℕ
  end t = get_or ends t 0

  own_records : (t : ℕ) → t < 4 → records_in order ends t ≡ records_at s (head s t)
  own_records t h = lane_records ordered st.chains t h

  count_is : (t : ℕ) → t < 4 → count_of ends t ≡ many s t
  count_is t h =
      sym (lane_length_lem ordered t h) ∙ ap length (own_records t h) ∙ sym
      (ops_from_length s 0 (records_at s (head s t)))

  begin_is : (t : ℕ) → t < 4 → begin_of ends t ≡ before s t
  begin_is zero h = refl
  begin_is (suc t) h =
      omega (arith, begin_is t (omega arith), count_is t (omega arith), ordered.rising t (omega arith))

  module _
      (rows own : List ℕ) (front : rows ≡ over (sheet_bytes Level0 (program_of s)) own)
      (room : 16 + 8 * record_count s ≤ length own) (t : ℕ) (below : t < 4)
    where
      lane_in_lem : LaneIn (drop (16 + 8 * before s t) rows) (many s t) (ops_at s (head s t))
      lane_in_lem = record {
        held = lane_holds s st.fields.header rows own front st.fields.records t below;
        onward = λ p l. (led p l).0;
        within = λ p l. (led p l).1;
        named = λ p l. (led p l).2;
      }
        where
          led : (p : ℕ) → p < many s t
              → (p < jump_or no_jump (some (get_or (ops_at s (head s t)) p no_op)))
              × ((fields_of (get_or (ops_at s (head s t)) p no_op)).code ≡ 7
              → (fields_of (get_or (ops_at s (head s t)) p no_op)).word ≤ many s t)
              × Named (get_or (ops_at s (head s t)) p no_op)
          led p l =
              let len = ops_from_length s 0 (records_at s (head s t)) in
              leads (locations s) (locks s) (many s t) p (get_or (ops_at s (head s t)) p no_op) (many_small s t)
              (few_locks s st.fields.header) l
              (rw len
              (lane_bounded s st.fields.records (head s t) (head_range s st.fields.header t below) p no_op
              (omega (arith, len))))

      -- lane t of the order fits the check
      pub lane_fits : {from : ℕ} → from ≡ begin_of ends t
          → (from ≤ end t) × (end t ≤ 256) × (end t - from ≤ 64) × (16 + 8 * end t ≤ length rows)
          × (end t ≤ length order)
      lane_fits ef =
          let inside = end_inside ordered t below in (
            omega (arith, ordered.rising t below),
            omega (arith, inside, few_records s st.fields.header),
            omega (arith, count_is t below, many_small s t),
            omega (arith, inside, rows_room rows own (sheet_bytes Level0 (program_of s)) front, room),
            omega (arith, inside, ordered.order_room),
          )

      nonzero : (p : ℕ) → p < length (records_at s (head s t)) → 1 ≤ get_or (records_at s (head s t)) p 0
      nonzero p l =
          (chain_range s st.fields.records 64 (head s t) p (head_range s st.fields.header t below) l).0

      -- what is found in lane t of the order is the fault of lane t, and where it has none, its first descent
      pub found_is : {from : ℕ} (f : Result (Option ℕ) ℕ) → from ≡ begin_of ends t
          → FoundIn rows order from (end t) f → Finds (λ y. y) (fault s t) (descent s t) f
      found_is {from} f ef found =
          let begin = begin_is t below in
          let count = count_is t below in
          let lane : LaneIn (drop (16 + 8 * begin_of ends t) rows) (count_of ends t) (ops_at s (head s t)) =
          rw (count, begin) lane_in_lem in
          let is = subst (λ rs. RecordsOf rs (ops_at s (head s t)) f) (own_records t below)
          (subst (λ x. FoundIn rows order x (end t) f) ef found (ops_at s (head s t)) lane) in
          let len = ops_from_length s 0 (records_at s (head s t)) in
          rw (own_lane s st.fields.header t below, lane_ops s st.fields.header t below)
          (finds_by (records_at s (head s t)) (ops_at s (head s t)) (sym len) nonzero f is)

pub fault_first : (s : List ℕ) → first_of (fault s) 0 4 ≡ lock_fault (program_of s)
unfolding lock_fault
fault_first s = refl

pub descent_first : (s : List ℕ) → first_of (descent s) 0 4 ≡ lock_order (program_of s)
unfolding lock_order
descent_first s = refl
