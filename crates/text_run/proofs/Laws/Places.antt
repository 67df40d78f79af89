-- Law of places: the rows of every lane begin near the front.
use Prim.Native.Nat.{ℕ, zero, suc, ◌+◌, ◌*◌, ◌^◌, ◌≤◌, ◌<◌}
use mathlib.Core.List.{List}
use native.Mathlib.Decide.{dec_le}
use native.Mathlib.Omega.{arith}
use lib.ListN.{get_or}
use Rattle.sheet_rows.specs.Rows.{count_at, parts_in}
use Rattle.sheet_rows.proofs.Laws.Parts.{count_in_lem, count_none}

module _ (s : List ℕ) (small : (i : ℕ) → get_or s i 0 < 256) where
  count_few : (t : ℕ) → t < 4 → count_at s t < 65536
  count_few t h = go (dec_le (suc t) (get_or s 0 0))
    where
      go : Dec (t < get_or s 0 0) → count_at s t < 65536
      go (yes l) = omega (arith, count_in_lem s t h l, small (8 + 2 * t), small (8 + 2 * t + 1))
      go (no l) = omega (arith, count_none s t (omega arith))

  pub from_few : (t : ℕ) → get_or (parts_in s).from t 0 < 2 ^ 24
  from_few zero = omega arith
  from_few (suc zero) = omega (arith, count_few 0 (omega arith))
  from_few (suc (suc zero)) = omega (arith, count_few 0 (omega arith), count_few 1 (omega arith))
  from_few (suc (suc (suc zero))) =
      omega (arith, count_few 0 (omega arith), count_few 1 (omega arith), count_few 2 (omega arith))
  from_few (suc (suc (suc (suc t)))) = omega arith
