-- Laws of writing a lane's operations one after the other.
use Prim.Native.Nat.{ℕ, suc, ◌+◌, ◌*◌, ◌≤◌, ◌<◌}
use mathlib.Core.Path.{◌≡◌, sym, ap, ◌∙◌}
use mathlib.Core.List.{List, [], ◌∷◌, ◌++◌, map, append-nil, map-append}
use native.Mathlib.Omega.{arith}
use lib.ListN.{length, get_or, take}
use lib.Seq.{sets, take-suc, take_all}
use Rattle.file_format.specs.declared.accepted.Op.{Op}
use Rattle.file_format.specs.Stored.{no_op}
use Rattle.sheet_format.specs.Layout.{op}
use Rattle.sheet_format.specs.declared.Level.TheVariants.{Level0}
use Rattle.sheet_format.specs.Bytes.{op_bytes, lane_bytes}
use Rattle.sheet_format.specs.Put.{Puts}
use Rattle.sheet_format.proofs.Laws.Rows.{instr_length, bytes_append}
use Rattle.sheet_format.proofs.Laws.Put.{puts_on, puts_as}
use Rattle.sheet_rows.specs.Lanes.{op_rows}

module _ (ops : List Op) where
  rows_suc : (p : ℕ) → p < length ops → op_rows (take p ops) ++ op_bytes (get_or ops p no_op)
      ≡ op_rows (take (p + 1) ops)
  rows_suc p h =
      let one : p + 1 ≡ suc p = omega arith in
      let o = get_or ops p no_op in
      sym (ap (λ n. op_rows (take n ops)) one
      ∙ ap op_rows (take-suc ops p no_op h)
      ∙ ap (lane_bytes Level0) (map-append op (take p ops) (o ∷ []))
      ∙ bytes_append Level0 (map op (take p ops)) (op o ∷ [])
      ∙ ap (λ z. op_rows (take p ops) ++ z) (append-nil (op_bytes o)))

  -- one operation more
  pub row_put : (at p here : ℕ) {row buffer out out' : List ℕ} → Puts buffer at (op_rows (take p ops)) out (at + 8 * p)
      → p < length ops → here ≡ at + 8 * p → op_bytes (get_or ops p no_op) ≡ row → out' ≡ sets out here row
      → Puts buffer at (op_rows (take (p + 1) ops)) out' (at + 8 * (p + 1))
  row_put at p here {row} {buffer} {out} {out'} were h e same put =
      let size = instr_length Level0 (op (get_or ops p no_op)) in
      let next : Puts out (at + 8 * p) (op_bytes (get_or ops p no_op)) out' (at + 8 * (p + 1)) = record {
        bytes = put ∙ ap (λ k. sets out k row) e ∙ ap (sets out (at + 8 * p)) (sym same);
        behind = omega (arith, size);
      } in
      puts_as (rows_suc p h) (puts_on were next)

  pub rows_all : (p : ℕ) → length ops ≤ p → op_rows (take p ops) ≡ op_rows ops
  rows_all p h = ap op_rows (take_all p ops h)
