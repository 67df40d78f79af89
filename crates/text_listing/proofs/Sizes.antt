-- How long a text is: at most 37 bytes of a refusal, and 26,187 of a lawful kernel's listing.
use Prim.Native.Nat.{ℕ, suc, ◌+◌, ◌*◌, ◌^◌, ◌≤◌, ◌<◌}
use mathlib.Core.List.{List, [], ◌∷◌}
use native.Mathlib.Omega.{arith}
use lib.ListN.{length, length-append, length-map}
use Rattle.laws.proofs.Numbers.{ones_few}
use Rattle.file_format.specs.declared.accepted.Op.TheVariants.{Set, Add, Load, Store, Lock, Unlock, Skip}
use Rattle.file_format.specs.Accepted.{Program}
use Rattle.file_format.specs.Lawful.{Lawful}
use Rattle.barrier_placement.specs.declared.cookbook.Barrier.TheVariants.{LL, LS, SS, SL}
use Rattle.sheet_format.specs.Layout.{Instr, op, barrier, sheet}
use Rattle.sheet_format.specs.declared.Level.TheVariants.{Level2}
use Rattle.sheet_format.specs.Levels.{placed, placed_lanes, sheet_lanes, volatile_in}
use Rattle.sheet_format.specs.Read.{instr_by}
use Rattle.sheet_format.proofs.Laws.Cells.{Each}
use Rattle.sheet_format.proofs.Laws.Rows.{total}
use Rattle.sheet_format.proofs.Fitting.{Fits, LaneFits, lanes_fit}
use Rattle.sheet_format.proofs.Sizes.{sheet_size, sheet_small}
use Rattle.text_listing.specs.Line.{line_of, first_line, refusal_line}
use Rattle.text_listing.specs.Ones.{ones}
use Rattle.text_listing.specs.Listing.{lane_lines, sheet_lines, listing}
use Rattle.text_put.proofs.Laws.Decimal.{decimal_few}
use Rattle.text_listing.proofs.Laws.Line.{line_few}

module _ (lane : ℕ) (few : lane < 2 ^ 32) where
  -- the line of an instruction that fits its bytes
  line_small : (p : ℕ) (i : Instr) → p < 2 ^ 32 → Fits i → length (line_of lane p i) ≤ 51
  line_small p i h = go i
    where
      by : (o a b c : ℕ) → a < 2 ^ 32 → b < 2 ^ 32 → c < 2 ^ 32 → length (line_of lane p (instr_by o a b c)) ≤ 51
      by o a b c = line_few lane p o a b c few h

      go : (i : Instr) → Fits i → length (line_of lane p i) ≤ 51
      go (op (Set a c)) w = by 1 a 0 c (omega arith) (omega arith) w.1
      go (op (Add a b)) w = by 2 a b 0 (omega arith) (omega arith) (omega arith)
      go (op (Load a x)) w = by 3 a x 0 (omega arith) (omega arith) (omega arith)
      go (op (Store a x)) w = by 4 a x 0 (omega arith) (omega arith) (omega arith)
      go (op (Lock x)) w = by 5 0 x 0 (omega arith) (omega arith) (omega arith)
      go (op (Unlock x)) w = by 6 0 x 0 (omega arith) (omega arith) (omega arith)
      go (op (Skip a t)) w = by 7 a 0 t (omega arith) (omega arith) w.1
      go (barrier LL) w = by 11 0 0 0 (omega arith) (omega arith) (omega arith)
      go (barrier LS) w = by 12 0 0 0 (omega arith) (omega arith) (omega arith)
      go (barrier SS) w = by 13 0 0 0 (omega arith) (omega arith) (omega arith)
      go (barrier SL) w = by 14 0 0 0 (omega arith) (omega arith) (omega arith)

  -- the lines of a lane
  lane_small : (p : ℕ) (is : List Instr) → p + length is ≤ 2 ^ 32 → Each Fits is
      → length (lane_lines lane p is) ≤ 51 * length is
  unfolding lane_lines
  lane_small p [] h w = omega arith
  lane_small p (i ∷ is) h w =
      omega (
        arith,
        length-append (line_of lane p i) (lane_lines lane (suc p) is),
        line_small p i (omega arith) w.0,
        lane_small (suc p) is (omega arith) w.1,
      )

-- lane after lane
lanes_small : (lane : ℕ) (xs : List (List Instr)) → lane + length xs ≤ 2 ^ 32 → Each LaneFits xs
    → length (sheet_lines lane xs) ≤ 51 * total xs
unfolding sheet_lines
lanes_small lane [] h w = omega arith
lanes_small lane (x ∷ xs) h w =
    omega (
      arith,
      length-append (lane_lines lane 0 x) (sheet_lines (suc lane) xs),
      lane_small lane (omega arith) 0 x (omega (arith, w.0.1)) w.0.0,
      lanes_small (suc lane) xs (omega arith) w.1,
    )

ones_small : (m : ℕ) → ones m ≤ 16
unfolding ones
ones_small m = ones_few 16 m

first_small : (t l v k : ℕ) → t < 2 ^ 32 → l < 2 ^ 32 → v < 2 ^ 32 → k < 2 ^ 32 → length (first_line t l v k) ≤ 75
unfolding first_line
first_small t l v k ht hl hv hk =
    simp length-append (omega (arith, decimal_few t ht, decimal_few l hl, decimal_few v hv, decimal_few k hk))

pub refusal_small : (n r : ℕ) → n < 2 ^ 32 → r < 2 ^ 32 → length (refusal_line n r) ≤ 37
unfolding refusal_line
refusal_small n r hn hr = simp length-append (omega (arith, decimal_few n hn, decimal_few r hr))

-- a first line of at most 75 bytes, and at most 512 lines of at most 51
pub listing_small : (k : Program) → Lawful k → length (listing k) ≤ 26187
unfolding listing
listing_small k w =
    let xs : List (List Instr) = sheet_lanes Level2 k in
    let four : length xs ≤ 4 =
    omega (arith, length-map (placed_lanes Level2 k) sheet, length-map k.lanes (placed Level2 (volatile_in k))) in
    omega (
      arith,
      length-append (first_line (length k.lanes) k.locations (ones k.mask) k.locks) (sheet_lines 0 xs),
      first_small (length k.lanes) k.locations (ones k.mask) k.locks (omega arith) (omega arith)
          (omega (arith, ones_small k.mask)) (omega arith),
      lanes_small 0 xs (omega arith) (lanes_fit Level2 k w),
      sheet_size Level2 k,
      sheet_small Level2 k w,
    )
