-- How long a sheet is: 16 bytes and 8 for each instruction; at most 2,064 bytes at level 0, 6,160 at level 1 and 4,112
-- at level 2.
use Prim.Native.Nat.{ℕ, ◌+◌, ◌*◌, ◌≤◌}
use native.Mathlib.Omega.{arith}
use mathlib.Core.Path.{◌≡◌, ap, ◌∙◌}
use mathlib.Core.List.{[]}
use lib.ListN.{length, get_or, length-map, get_or-map}
use Rattle.file_format.specs.Accepted.{Program}
use Rattle.file_format.specs.Lawful.{Lawful}
use Rattle.sheet_format.specs.Layout.{sheet}
use Rattle.sheet_format.specs.declared.Level.{Level}
use Rattle.sheet_format.specs.Levels.{widest, placed, placed_lanes, sheet_lanes, volatile_in}
use Rattle.sheet_format.specs.Bytes.{sheet_bytes}
use Rattle.sheet_format.proofs.Laws.Cells.{lane_length_lem}
use Rattle.sheet_format.proofs.Laws.Rows.{total, total_four, lanes_bytes}

pub sheet_size : (l : Level) (k : Program) → length (sheet_bytes l k) ≡ 16 + 8 * total (sheet_lanes l k)
unfolding sheet_bytes
sheet_size l k = omega (arith, lanes_bytes l (sheet_lanes l k))

module _ (l : Level) (k : Program) (w : Lawful k) where
  -- a lane has at most 64 operations
  pub lane_few : (t : ℕ) → length (get_or (sheet_lanes l k) t []) ≤ 64 * widest l
  lane_few t =
      omega (
        arith,
        ap length (get_or-map sheet (placed_lanes l k) t []
            ∙ ap sheet (get_or-map (placed l (volatile_in k)) k.lanes t [])),
        lane_length_lem l (volatile_in k) (get_or k.lanes t []) (w.lane t).short,
      )

  -- and there are at most four
  pub sheet_small : length (sheet_bytes l k) ≤ 16 + 2048 * widest l
  sheet_small =
      let four : length (sheet_lanes l k) ≤ 4 =
      omega (
        arith,
        w.few_lanes,
        length-map (placed_lanes l k) sheet,
        length-map k.lanes (placed l (volatile_in k)),
      ) in
      omega (
        arith,
        sheet_size l k,
        total_four (sheet_lanes l k) four,
        lane_few 0,
        lane_few 1,
        lane_few 2,
        lane_few 3,
      )
