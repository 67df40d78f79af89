-- Laws of the programs of an accepted kernel in the bytes that a machine reads: what is read back of them, and how
-- long they are.
use Prim.Native.Nat.{ℕ, zero, suc, ◌+◌, ◌*◌, ◌≤◌, ◌<◌}
use mathlib.Core.Path.{◌≡◌, refl, sym, ap, ◌∙◌}
use mathlib.Core.List.{List, [], ◌++◌}
use native.Mathlib.Omega.{arith}
use lib.ListN.{length, get_or, drop, length-append, length-drop}
use Rattle.file_format.specs.Accepted.{Program}
use Rattle.file_format.specs.Lawful.{Lawful}
use Rattle.sheet_format.specs.Bytes.{over, sheet_bytes}
use Rattle.sheet_format.specs.Read.{read_rows, read_sheet}
use Rattle.sheet_format.proofs.Sizes.{lane_few}
use Rattle.sheet_format.proofs.ReadBack.{lawful_back}
use Rattle.machine_spec.proofs.Levels.{program_lanes, program_narrow}
use Rattle.machine_spec.specs.Run.{program_for, level_of}
use Rattle.sheet_rows.specs.Rows.{parts_in}
use Rattle.sheet_rows.proofs.Laws.Read.{rows_length}
use Rattle.sheet_rows.proofs.Laws.Parts.{lane_rows_lem}
use Rattle.machine_spec.specs.declared.Machine.{Machine}
use Rattle.machine_run.specs.Runs.{ProgramAt}

module _ (k : Program) where
  -- the header begins with the numbers of lanes, locations and locks
  pub header_read : (m : Machine) (rest : List ℕ)
      → (get_or (sheet_bytes (level_of m) k ++ rest) 0 0 ≡ length k.lanes)
      × (get_or (sheet_bytes (level_of m) k ++ rest) 1 0 ≡ k.locations)
      × (get_or (sheet_bytes (level_of m) k ++ rest) 2 0 ≡ k.locks)
  unfolding sheet_bytes
  header_read m rest = (refl, refl, refl)

  module _ (w : Lawful k) where
    -- what is read are the machine's programs
    pub programs_read : (m : Machine) (rest : List ℕ) → read_sheet (sheet_bytes (level_of m) k ++ rest)
        ≡ program_for m k
    programs_read m rest = lawful_back (level_of m) k rest w ∙ sym (program_lanes k w m)

    -- of at most 128 instructions
    programs_short : (m : Machine) (t : ℕ) → length (get_or (program_for m k) t []) ≤ 128
    programs_short m t =
        omega (
          arith,
          ap (λ x. length (get_or x t [])) (program_lanes k w m),
          lane_few (level_of m) k w t,
          program_narrow m,
        )

-- ## rows that begin with the bytes of the programs
module _ (k : Program) (w : Lawful k) (m : Machine) (own : List ℕ) (room : 4112 ≤ length own) where
  abbrev rows : List ℕ
  rows = over (sheet_bytes (level_of m) k) own

  abbrev rest : List ℕ
  rest = drop (length (sheet_bytes (level_of m) k)) own

  -- lane t's program is read where its part lies
  own_rows : (t : ℕ) → t < 4
      → get_or (program_for m k) t []
      ≡ read_rows (get_or (parts_in rows).count t 0) (drop (get_or (parts_in rows).from t 0) rows)
  own_rows t h = ap (λ x. get_or x t []) (sym (programs_read k w m rest)) ∙ lane_rows_lem rows t h

  few_rows : (t : ℕ) → t < 4 → get_or (parts_in rows).count t 0 ≤ 128
  few_rows t h =
      omega (
        arith,
        ap length (own_rows t h)
            ∙ rows_length (get_or (parts_in rows).count t 0) (drop (get_or (parts_in rows).from t 0) rows),
        programs_short k w m t,
      )

  long : 4112 ≤ length rows
  long =
      let bytes = sheet_bytes (level_of m) k in
      omega (arith, length-append bytes rest, length-drop (length bytes) own)

  -- four lanes of at most 128 rows behind 16 bytes
  inside : (t : ℕ) → t < 4 → get_or (parts_in rows).from t 0 + 8 * get_or (parts_in rows).count t 0 ≤ length rows
  inside t h = go t h (few_rows t h)
    where
      go : (t : ℕ) → t < 4 → get_or (parts_in rows).count t 0 ≤ 128
          → get_or (parts_in rows).from t 0 + 8 * get_or (parts_in rows).count t 0 ≤ length rows
      go zero h few = omega (arith, long)
      go (suc zero) h few = omega (arith, long, few_rows 0 (omega arith))
      go (suc (suc zero)) h few = omega (arith, long, few_rows 0 (omega arith), few_rows 1 (omega arith))
      go (suc (suc (suc zero))) h few =
          omega (arith, long, few_rows 0 (omega arith), few_rows 1 (omega arith), few_rows 2 (omega arith))
      go (suc (suc (suc (suc t)))) h few = absurd (omega arith)

  pub program_at : (t : ℕ) → t < length k.lanes
      → ProgramAt rows (get_or (parts_in rows).from t 0) (get_or (parts_in rows).count t 0)
      (get_or (program_for m k) t [])
  program_at t h =
      let below : t < 4 = omega (arith, w.few_lanes) in
      record { rows = own_rows t below; inside = inside t below }
