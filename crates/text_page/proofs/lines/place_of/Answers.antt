-- `text_page::lines::place_of` meets its contract: position is what i leaves behind the rows of the lanes before.
use Prim.Native.Nat.{ℕ, zero, suc, ◌+◌, ◌*◌, ◌<◌}
use mathlib.Core.Path.{◌≡◌, ap}
use mathlib.Core.List.{List}
use native.Mathlib.Omega.{arith}
use lib.ListN.{get_or}
use Rattle.sheet_rows.specs.declared.parts.Parts.{Parts}
use Rattle.sheet_rows.specs.Rows.{parts_in}
use Rattle.text_page.proofs.lines.place_of.Goals as goal

-- the rows of a lane begin behind those of the lane before
next_from : (s : List ℕ) (t : ℕ) → t < 3
    → get_or (parts_in s).from (t + 1) 0 ≡ get_or (parts_in s).from t 0 + 8 * get_or (parts_in s).count t 0
next_from s zero h = omega arith
next_from s (suc zero) h = omega arith
next_from s (suc (suc zero)) h = omega arith
next_from s (suc (suc (suc t))) h = absurd (omega arith)

-- a lane's count by the parts
same_count : {parts : Parts} (s : List ℕ) (t : ℕ) → parts ≡ parts_in s
    → get_or parts.count t 0 ≡ get_or (parts_in s).count t 0
same_count s t e = ap (λ (p : Parts). get_or p.count t 0) e

pub loop-lane-preserved : goal.loop-lane-preserved
loop-lane-preserved c = (
  omega arith,
  λ s e. omega (
    arith,
    next_from s c.loop-lane.lane (omega arith),
    same_count s c.loop-lane.lane e,
    c.loop-lane.invariant.1 s e,
  ),
)
