-- Laws of a buffer that begins with a file's chains: each lane's operations begin where those of the lanes before it
-- end, and the header's counts say where.
use Prim.Native.Nat.{ℕ, zero, suc, ◌+◌, ◌-◌, ◌*◌, ◌^◌, ◌≤◌, ◌<◌}
use mathlib.Core.Path.{◌≡◌, refl, sym, ap, ◌∙◌}
use mathlib.Core.Bool.{true}
use mathlib.Core.List.{List, [], ◌++◌, map, map-map, append_assoc}
use mathlib.Core.Option.{some}
use native.Mathlib.Omega.{arith}
use native.Mathlib.Decide.{dec_lt}
use lib.ListN.{length, get_or, take, drop, get_elem?, length-append, length-map, get_or-map}
use lib.Seq.{take_at, drop_at, drop-drop}
use Rattle.laws.proofs.Bytes.{word_back}
use Rattle.laws.proofs.Lists.{some_at}
use Rattle.laws.proofs.Numbers.{below_four}
use Rattle.file_format.specs.declared.accepted.Op.{Op}
use Rattle.file_format.specs.declared.accepted.Op.TheVariants.{Set, Add, Load, Store, Lock, Unlock, Skip}
use Rattle.file_format.specs.Fields.{lane_count, locations, locks, head, word}
use Rattle.file_format.specs.Rules.{header_rule, bad_record}
use Rattle.file_format.specs.Accepted.{records_at, ops_of, ops_at, program_of}
use Rattle.file_format.specs.Lawful.{Bounded}
use Rattle.file_format.specs.Stored.{no_op}
use Rattle.file_format.proofs.Bounded.{lane_bounded}
use Rattle.file_format.proofs.Laws.Lanes.{lane_ops}
use Rattle.file_format.proofs.Laws.Linkage.{chain_stop, chain_length}
use Rattle.file_format.proofs.Laws.Rules.{four_lanes_lem, head_range, head_none}
use Rattle.file_format.proofs.Laws.Stored.{ops_from_length, lane_count_lem}
use Rattle.file_verdict.specs.Verdict.{verdict, accepted}
use Rattle.file_format.specs.Structured.{Fielded}
use Rattle.file_verdict.proofs.Laws.Verdict.{sound, accepted_as}
use Rattle.sheet_format.specs.Layout.{op}
use Rattle.sheet_format.specs.declared.Level.TheVariants.{Level0}
use Rattle.sheet_format.specs.Levels.{sheet_lanes}
use Rattle.sheet_format.specs.Bytes.{joined, lane_bytes, over, sheet_bytes}
use Rattle.sheet_format.specs.Put.{in_turn}
use Rattle.sheet_format.proofs.Level0.{file_lanes0}
use Rattle.sheet_format.proofs.Laws.Turn.{turn_same, turn_all}
use Rattle.sheet_rows.specs.Rows.{count_at, parts_in}
use Rattle.sheet_rows.specs.Lanes.{op_rows, fields_of, Holds}
use Rattle.sheet_rows.proofs.Laws.Lanes.{rows_length}
use Rattle.sheet_rows.proofs.Laws.Parts.{count_in_lem, count_none, many as parts-many}
use Rattle.file_rows.specs.Chains.{chain_at}

-- how many operations lane t has, and how many the lanes before it have
abbrev pub many : List ℕ → ℕ → ℕ
many s t = length (ops_at s (head s t))

abbrev pub before : List ℕ → ℕ → ℕ
before s zero = 0
before s (suc t) = before s t + many s t

pub many_small : (s : List ℕ) (t : ℕ) → many s t ≤ 64
many_small s t = omega (arith, ops_from_length s 0 (records_at s (head s t)), chain_length s 64 (head s t))

-- ## texts in turn, the one at t

-- what follows text t
abbrev behind : (ℕ → List ℕ) → ℕ → ℕ → List ℕ → List ℕ
behind f t zero rest = rest
behind f t (suc n) rest = behind f t n (f (t + suc n) ++ rest)

turn_at : (f : ℕ → List ℕ) (t n : ℕ) (rest : List ℕ)
    → in_turn f (t + suc n) ++ rest ≡ in_turn f t ++ (f t ++ behind f t n rest)
unfolding in_turn
turn_at f t zero rest =
    let e : t + 1 ≡ suc t = omega arith in
    ap (λ k. in_turn f k ++ rest) e ∙ append_assoc (in_turn f t) (f t) rest
turn_at f t (suc n) rest =
    let e : t + suc (suc n) ≡ suc (t + suc n) = omega arith in
    ap (λ k. in_turn f k ++ rest) e ∙ append_assoc (in_turn f (t + suc n)) (f (t + suc n)) rest
    ∙ turn_at f t n (f (t + suc n) ++ rest)

turn_rows : (s : List ℕ) (t : ℕ) → length (in_turn (chain_at s) t) ≡ 8 * before s t
unfolding in_turn
turn_rows s zero = refl
turn_rows s (suc t) =
    omega (
      arith,
      length-append (in_turn (chain_at s) t) (chain_at s t),
      rows_length (ops_at s (head s t)),
      turn_rows s t,
    )

-- ## constants and targets have 32 bits

word_small : (ls ks n p : ℕ) (o : Op) → n ≤ 64 → Bounded ls ks n p o → (fields_of o).word < 2 ^ 32
word_small ls ks n p (Set a c) h b = b.1
word_small ls ks n p (Add a x) h b = omega arith
word_small ls ks n p (Load a x) h b = omega arith
word_small ls ks n p (Store a x) h b = omega arith
word_small ls ks n p (Lock l) h b = omega arith
word_small ls ks n p (Unlock l) h b = omega arith
word_small ls ks n p (Skip a q) h b = omega (arith, b.2)

module _ (s : List ℕ) (header : header_rule s ≡ true) where
  module _ (records : bad_record s ≡ 0) (t : ℕ) (below : t < 4) where
    pub words_small : (p : ℕ) (o : Op) → get_elem? (ops_at s (head s t)) p ≡ some o → (fields_of o).word < 2 ^ 32
    words_small p o e =
        let rs = records_at s (head s t) in
        let x = some_at (ops_of s rs) p o no_op e in
        let inside : p < length rs = omega (arith, x.0, ops_from_length s 0 rs) in
        word_small (locations s) (locks s) (length rs) p o (chain_length s 64 (head s t))
        (rw x.1 at (lane_bounded s records (head s t) (head_range s header t below) p no_op inside))

  -- ## the lanes behind the header

  few : lane_count s ≤ 4
  few = four_lanes_lem s header

  lanes_in_turn : joined (map (lane_bytes Level0) (sheet_lanes Level0 (program_of s))) ≡ in_turn (chain_at s) 4
  lanes_in_turn =
      let os = (program_of s).lanes in
      ap (λ x. joined (map (lane_bytes Level0) x)) (file_lanes0 s)
      ∙ ap joined (map-map (lane_bytes Level0) (map op) os)
      ∙ sym (turn_all op_rows [] refl os 4 (omega (arith, lane_count_lem s few, few)))
      ∙ turn_same (λ t. op_rows (get_or os t [])) (chain_at s) 4 (λ t h. ap op_rows (lane_ops s header t h))

  module _ (rows own : List ℕ) (front : rows ≡ over (sheet_bytes Level0 (program_of s)) own) where
    abbrev rest : List ℕ
    rest = drop (length (sheet_bytes Level0 (program_of s))) own

    body : drop 16 rows ≡ in_turn (chain_at s) 4 ++ rest
    unfolding sheet_bytes
    body = ap (drop 16) front ∙ ap (λ x. x ++ drop (length (sheet_bytes Level0 (program_of s))) own) lanes_in_turn

    -- lane t, and what follows it
    lane_front : (t : ℕ) → t < 4
        → drop (16 + 8 * before s t) rows ≡ chain_at s t ++ behind (chain_at s) t (3 - t) rest
    lane_front t h =
        let n : 4 ≡ t + suc (3 - t) = omega arith in
        sym (drop-drop (8 * before s t) 16 rows)
        ∙ ap (drop (8 * before s t))
        (body ∙ ap (λ k. in_turn (chain_at s) k ++ rest) n ∙ turn_at (chain_at s) t (3 - t) rest)
        ∙ drop_at (in_turn (chain_at s) t) (chain_at s t ++ behind (chain_at s) t (3 - t) rest) (8 * before s t)
        (turn_rows s t)

    -- ## the counts of the header

    counted : (t : ℕ) → t < 4 → length (get_or (sheet_lanes Level0 (program_of s)) t []) ≡ many s t
    counted t h =
        ap (λ x. length (get_or x t [])) (file_lanes0 s)
        ∙ ap length (get_or-map (map op) (program_of s).lanes t [])
        ∙ length-map (get_or (program_of s).lanes t []) op
        ∙ ap length (lane_ops s header t h)

    in_header : (t : ℕ) → t < 4 → word rows (8 + 2 * t) ≡ many s t
    unfolding sheet_bytes
    in_header t h =
        ap (λ x. word x (8 + 2 * t)) front ∙ go t h (omega (arith, counted t h, many_small s t)) ∙ counted t h
      where
        go : (t : ℕ) → t < 4 → length (get_or (sheet_lanes Level0 (program_of s)) t []) < 65536
            → word (over (sheet_bytes Level0 (program_of s)) own) (8 + 2 * t)
            ≡ length (get_or (sheet_lanes Level0 (program_of s)) t [])
        go =
            below_four
            (λ t. length (get_or (sheet_lanes Level0 (program_of s)) t []) < 65536
            → word (over (sheet_bytes Level0 (program_of s)) own) (8 + 2 * t)
            ≡ length (get_or (sheet_lanes Level0 (program_of s)) t []))
            (word_back _) (word_back _) (word_back _) (word_back _)

    lanes_byte : get_or rows 0 0 ≡ lane_count s
    unfolding sheet_bytes
    lanes_byte = ap (λ x. get_or x 0 0) front ∙ lane_count_lem s few

    count_is : (t : ℕ) → t < 4 → count_at rows t ≡ many s t
    count_is t h = go (dec_lt t (lane_count s))
      where
        go : Dec (t < lane_count s) → count_at rows t ≡ many s t
        go (yes l) = sym (count_in_lem rows t h (omega (arith, lanes_byte))) ∙ in_header t h
        go (no l) =
            let none = ap length (chain_stop s 64 (head s t) (head_none s header t h (omega arith))) in
            omega (
              arith,
              count_none rows t (omega (arith, lanes_byte)),
              ops_from_length s 0 (records_at s (head s t)),
              none,
            )

    pub part_count : (t : ℕ) → t < 4 → get_or (parts_in rows).count t 0 ≡ many s t
    part_count t h = parts-many rows t h ∙ count_is t h

    pub part_from : (t : ℕ) → t < 4 → get_or (parts_in rows).from t 0 ≡ 16 + 8 * before s t
    part_from =
        let one = count_is 0 (omega arith) in
        let two = count_is 1 (omega arith) in
        below_four (λ t. get_or (parts_in rows).from t 0 ≡ 16 + 8 * before s t) refl (omega (arith, one))
        (omega (arith, one, two)) (omega (arith, one, two, count_is 2 (omega arith)))

    -- ## lane t in the buffer

    module _ (records : bad_record s ≡ 0) (t : ℕ) (below : t < 4) where
      pub lane_holds : Holds (drop (16 + 8 * before s t) rows) (many s t) (ops_at s (head s t))
      lane_holds = record {
        count = refl;
        front =
            ap (take (8 * many s t)) (lane_front t below)
            ∙ take_at (chain_at s t) (behind (chain_at s) t (3 - t) rest) (8 * many s t)
            (rows_length (ops_at s (head s t)));
        small = words_small records t below;
      }

      pub parts_hold : Holds (drop (get_or (parts_in rows).from t 0) rows) (get_or (parts_in rows).count t 0)
          (ops_at s (head s t))
      parts_hold = rw (part_from t below, part_count t below) lane_holds

-- the same of an accepted file
module _ (s : List ℕ) (ok : verdict s ≡ accepted (program_of s)) (rows own : List ℕ)
    (front : rows ≡ over (sheet_bytes Level0 (program_of s)) own) (t : ℕ) (below : t < 4) where
  fields : Fielded s
  fields = (sound s (accepted_as s (program_of s) ok).0).0.fields

  pub accepted_parts_hold : Holds (drop (get_or (parts_in rows).from t 0) rows) (get_or (parts_in rows).count t 0)
      (ops_at s (head s t))
  accepted_parts_hold = parts_hold s fields.header rows own front fields.records t below
