-- Laws of a buffer that begins with a lane's operations: each row has its operation's bytes and fields.
use Prim.Native.Nat.{ℕ, zero, suc, ◌+◌, ◌*◌, ◌^◌, ◌<◌}
use mathlib.Core.Path.{◌≡◌, refl, sym, ap, ◌∙◌}
use mathlib.Core.List.{List, [], ◌∷◌, ◌++◌, map, append_assoc}
use native.Mathlib.Omega.{arith}
use lib.ListN.{length, get_or, take, drop, length-map, take-append-drop}
use lib.Seq.{drop-append-add, take-append_seam}
use Rattle.laws.proofs.Bytes.{quad_back}
use Rattle.laws.proofs.Lists.{at_some}
use Rattle.file_format.specs.declared.accepted.Op.{Op}
use Rattle.file_format.specs.declared.accepted.Op.TheVariants.{Set, Add, Load, Store, Lock, Unlock, Skip}
use Rattle.file_format.specs.Stored.{no_op}
use Rattle.sheet_format.specs.Layout.{op}
use Rattle.sheet_format.specs.declared.Level.TheVariants.{Level0}
use Rattle.sheet_format.specs.Bytes.{op_bytes}
use Rattle.sheet_format.proofs.Laws.Rows.{instr_length, lane_bytes_lem}
use Rattle.sheet_rows.specs.Rows.{row_in}
use Rattle.sheet_rows.specs.Lanes.{op_rows, fields_of, Holds}

pub rows_length : (ops : List Op) → length (op_rows ops) ≡ 8 * length ops
rows_length ops = lane_bytes_lem Level0 (map op ops) ∙ ap (λ n. 8 * n) (length-map ops op)

-- the fields of bytes that begin with an operation's row
fields_in_lem : (o : Op) (rest : List ℕ) → (fields_of o).word < 2 ^ 32 → row_in (op_bytes o ++ rest) ≡ fields_of o
fields_in_lem (Set a c) rest h = λ i. record { code = 1; a = a; b = 0; word = quad_back c h i }
fields_in_lem (Add a b) rest h = refl
fields_in_lem (Load a x) rest h = refl
fields_in_lem (Store a x) rest h = refl
fields_in_lem (Lock l) rest h = refl
fields_in_lem (Unlock l) rest h = refl
fields_in_lem (Skip a t) rest h = λ i. record { code = 7; a = a; b = 0; word = quad_back t h i }

-- the rows from row p on
drop_rows : (ops : List Op) (p : ℕ) (rest : List ℕ) → p < length ops
    → drop (8 * p) (op_rows ops ++ rest) ≡ op_bytes (get_or ops p no_op) ++ (op_rows (drop (suc p) ops) ++ rest)
drop_rows [] p rest h = absurd (omega arith)
drop_rows (o ∷ os) zero rest h = append_assoc (op_bytes o) (op_rows os) rest
drop_rows (o ∷ os) (suc p) rest h =
    let size : 8 * suc p ≡ length (op_bytes o) + 8 * p = omega (arith, instr_length Level0 (op o)) in
    ap (λ n. drop n (op_rows (o ∷ os) ++ rest)) size
    ∙ ap (drop (length (op_bytes o) + 8 * p)) (append_assoc (op_bytes o) (op_rows os) rest)
    ∙ drop-append-add (op_bytes o) (op_rows os ++ rest) (8 * p)
    ∙ drop_rows os p rest (omega arith)

module _ {rows : List ℕ} {n : ℕ} {ops : List Op} (h : Holds rows n ops) where
  split : rows ≡ op_rows ops ++ drop (8 * n) rows
  split = sym (take-append-drop (8 * n) rows) ∙ ap (λ x. x ++ drop (8 * n) rows) h.front

  module _ (p : ℕ) (below : p < n) where
    from_row : drop (8 * p) rows ≡ op_bytes (get_or ops p no_op) ++ (op_rows (drop (suc p) ops) ++ drop (8 * n) rows)
    from_row = ap (drop (8 * p)) split ∙ drop_rows ops p (drop (8 * n) rows) (omega (arith, h.count))

    -- the bytes of row p, and its fields
    pub held_bytes : take 8 (drop (8 * p) rows) ≡ op_bytes (get_or ops p no_op)
    held_bytes =
        ap (take 8) from_row
        ∙ ap (λ k. take k (op_bytes (get_or ops p no_op) ++ (op_rows (drop (suc p) ops) ++ drop (8 * n) rows)))
        (sym (instr_length Level0 (op (get_or ops p no_op))))
        ∙ take-append_seam (op_bytes (get_or ops p no_op)) _

    pub held_fields : row_in (drop (8 * p) rows) ≡ fields_of (get_or ops p no_op)
    held_fields =
        ap row_in from_row
        ∙ fields_in_lem (get_or ops p no_op) _ (h.small p (get_or ops p no_op) (at_some ops p no_op (omega (
          arith,
          h.count,
        ))))
