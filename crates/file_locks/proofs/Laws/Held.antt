-- Laws of one operation of a lane: its row's fields, its effect on the held set, where it leads, and the record that
-- is named where it is refused.
use Prim.Native.Nat.{ℕ, zero, suc, ◌+◌, ◌-◌, ◌*◌, ◌/◌, ◌^◌, ◌≤◌, ◌<◌, min}
use mathlib.Core.Path.{◌≡◌, refl, ap, sym, ◌∙◌}
use mathlib.Core.List.{List, ◌∷◌}
use mathlib.Core.Bool.{Bool, false, cond}
use mathlib.Core.Option.{some}
use native.Mathlib.Omega.{arith}
use lib.Bits.{bit_xor}
use lib.Dec.{eqb}
use lib.ListN.{length, get_or, take, drop, length-take, length-drop}
use lib.Seq.{get_or-drop, get_or-take}
use Rattle.std.specs.Prelude.{None, Ok}
use Rattle.laws.proofs.Lists.{at_some}
use Rattle.file_format.specs.declared.accepted.Op.{Op}
use Rattle.file_format.specs.declared.accepted.Op.TheVariants.{Set, Add, Load, Store, Lock, Unlock, Skip}
use Rattle.file_format.specs.Held.{no_locks, after, misuse, held, record_at}
use Rattle.file_format.specs.Rising.{descends}
use Rattle.file_format.specs.Stored.{no_op}
use Rattle.file_format.proofs.Laws.Held.{held_next}
use Rattle.sheet_rows.specs.Rows.{row_in}
use Rattle.sheet_rows.specs.Lanes.{fields_of}
use Rattle.sheet_rows.proofs.Laws.Lanes.{held_fields}
use Rattle.file_locks.specs.Sets.{jump_or, no_jump, locks_in, meets, ways, lock_bit, barred, descends_at}
use Rattle.file_locks.specs.Lanes.{Named, LaneIn, Clean, RecordsOf}
use Rattle.file_locks.proofs.Laws.Locks.{other_wrong, other_next}
use Rattle.file_locks.proofs.Laws.Locks.{lock_wrong, lock_descends, lock_next, unlock_wrong, unlock_next}

-- ## the fields of row p

module _ {rows : List ℕ} {n : ℕ} {ops : List Op} (lane : LaneIn rows n ops) (p : ℕ) (below : p < n) where
  fields : row_in (drop (8 * p) rows) ≡ fields_of (get_or ops p no_op)
  fields = held_fields lane.held p below

  byte_at : (i : ℕ) → get_or rows (8 * p + i) 0 ≡ get_or (drop (8 * p) rows) i 0
  byte_at i = sym (get_or-drop (8 * p) rows i 0)

  pub row_code : get_or rows (8 * p) 0 ≡ (fields_of (get_or ops p no_op)).code
  row_code =
      let e : 8 * p ≡ 8 * p + 0 = omega arith in
      ap (λ i. get_or rows i 0) e ∙ byte_at 0 ∙ ap (λ r. r.code) fields

  pub row_b_lem : get_or rows (8 * p + 2) 0 ≡ (fields_of (get_or ops p no_op)).b
  row_b_lem = byte_at 2 ∙ ap (λ r. r.b) fields

  -- a target's lowest byte is the target
  pub row_target_lem : n ≤ 64 → 7 ≡ (fields_of (get_or ops p no_op)).code
      → get_or rows (8 * p + 4) 0 ≡ (fields_of (get_or ops p no_op)).word
  row_target_lem small e =
      let near = lane.within p (omega (arith, lane.held.count)) (sym e) in
      omega (arith, byte_at 4, ap (λ r. r.word) fields, near)

-- ## operations by their codes

-- where an operation leads: a SKIP to its target
pub jump_by : (o : Op) → cond (eqb (fields_of o).code 7) (fields_of o).word no_jump ≡ jump_or no_jump (some o)
jump_by (Set a c) = refl
jump_by (Add a b) = refl
jump_by (Load a b) = refl
jump_by (Store a b) = refl
jump_by (Lock b) = refl
jump_by (Unlock b) = refl
jump_by (Skip a q) = refl

-- whether an operation breaks the rule or descends, and the set after it, from its code and its operand b
module _ (h : ℕ) (few : h < 16) where
  pub row_wrong : (o : Op) → Named o
      → meets (barred (ways h) (fields_of o).code) (lock_bit (fields_of o).code (fields_of o).b)
      ≡ misuse (locks_in h) (some o)
  row_wrong (Set a c) near = other_wrong (ways h / 2 ^ 4) 0
  row_wrong (Add a b) near = other_wrong (ways h / 2 ^ 4) b
  row_wrong (Load a b) near = other_wrong (ways h / 2 ^ 4) b
  row_wrong (Store a b) near = other_wrong (ways h / 2 ^ 4) b
  row_wrong (Lock b) near = lock_wrong h b few (near (omega arith))
  row_wrong (Unlock b) near = unlock_wrong h b few (near (omega arith))
  row_wrong (Skip a q) near = other_wrong (ways h / 2 ^ 4) 0

  pub row_descends : (o : Op) → Named o
      → descends_at (ways h) (fields_of o).code (lock_bit (fields_of o).code (fields_of o).b)
      ≡ descends (locks_in h) (some o)
  row_descends (Set a c) near = refl
  row_descends (Add a b) near = refl
  row_descends (Load a b) near = refl
  row_descends (Store a b) near = refl
  row_descends (Lock b) near = lock_descends h b few (near (omega arith))
  row_descends (Unlock b) near = refl
  row_descends (Skip a q) near = refl

  pub row_next : (o : Op) → Named o → misuse (locks_in h) (some o) ≡ false
      → locks_in (bit_xor h (lock_bit (fields_of o).code (fields_of o).b)) ≡ after (locks_in h) o
  row_next (Set a c) near right = ap locks_in (other_next h 0)
  row_next (Add a b) near right = ap locks_in (other_next h b)
  row_next (Load a b) near right = ap locks_in (other_next h b)
  row_next (Store a b) near right = ap locks_in (other_next h b)
  row_next (Lock b) near right = lock_next h b few (near (omega arith)) right
  row_next (Unlock b) near right = unlock_next h b few (near (omega arith)) right
  row_next (Skip a q) near right = ap locks_in (other_next h 0)

pub held_on : (ops : List Op) (p : ℕ) {h g : List Bool} → p < length ops → h ≡ held ops p
    → g ≡ after h (get_or ops p no_op) → g ≡ held ops (p + 1)
held_on ops p {h} {g} l eh eg =
    let one : p + 1 ≡ suc p = omega arith in
    rw (one, eg, eh) (sym (held_next no_locks ops p (get_or ops p no_op) (at_some ops p no_op l)))

-- ## the record at a place i, counted from 1, of the part of the order that begins at `from`

pub record_is : (order : List ℕ) (from i : ℕ) → ¬ i ≡ 0
    → get_or order (from + i - 1) 0 ≡ get_or (0 ∷ drop from order) i 0
record_is order from zero h = absurd (h refl)
record_is order from (suc i) h =
    let place : from + suc i - 1 ≡ from + i = omega arith in
    ap (λ k. get_or order k 0) place ∙ sym (get_or-drop from order i 0)

-- position 0 names no record
pub record_none : (rs : List ℕ) (x : ℕ) → x ≡ 0 → record_at rs x ≡ 0
unfolding record_at
record_none rs x e =
    let place : min x (length rs) ≡ 0 = omega arith in
    ap (λ i. get_or (0 ∷ rs) i 0) place

-- in a lane that keeps both rules no record is named
pub clean_records : (rs : List ℕ) (ops : List Op) → Clean ops → RecordsOf rs ops (Ok None)
clean_records rs ops clean = clean

-- the place x cut to the n records of a lane that begins there
pub record_cut : (order : List ℕ) (from n x : ℕ) {i : ℕ} → from + n ≤ length order → i ≡ min x n
    → get_or (0 ∷ drop from order) i 0 ≡ record_at (take n (drop from order)) x
unfolding record_at
record_cut order from n x {i} room cut =
    rw (← cut_rs) (within i (omega arith))
  where
    cut_rs : i ≡ min x (length (take n (drop from order)))
    cut_rs = omega (arith, cut, length-take n (drop from order), length-drop from order)

    within : (i : ℕ) → i ≤ n → get_or (0 ∷ drop from order) i 0 ≡ get_or (0 ∷ take n (drop from order)) i 0
    within zero h = refl
    within (suc i) h = sym (get_or-take n (drop from order) i 0 h)
