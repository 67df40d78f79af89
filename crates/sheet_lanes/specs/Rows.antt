-- Each lane's rows in a buffer, their plans one behind the other in another, and the bytes that the code makes of them.
use Rattle.std.specs.Prelude.{ℕ, zero, suc, ◌+◌, ◌*◌, ◌≤◌, ◌<◌, ◌≡◌, Bool, List, length, get_or, drop}
use Rattle.file_format.specs.declared.accepted.Op.{Op}
use Rattle.file_format.specs.Accepted.{is_volatile}
use Rattle.sheet_format.specs.declared.Level.{Level}
use Rattle.sheet_rows.specs.Rows.{parts_in}
use Rattle.sheet_rows.specs.Lanes.{Holds}
use Rattle.barrier_pass.specs.Plan.{plan_number}
use Rattle.sheet_lanes.specs.Put.{lane_rows, SingleTo}

-- no lane has more than 64 rows, and each lies in the buffer
pub record Short (rows : List ℕ) : Type 0 where
  pub few : (t : ℕ) → t < 4 → get_or (parts_in rows).count t 0 ≤ 64
  pub inside : (t : ℕ) → t < 4 → get_or (parts_in rows).from t 0 + 8 * get_or (parts_in rows).count t 0 ≤ length rows

-- lane t's rows from the first on, and how many they are
abbrev pub lane_in : List ℕ → ℕ → List ℕ
lane_in rows t = drop (get_or (parts_in rows).from t 0) rows

abbrev pub count_in : List ℕ → ℕ → ℕ
count_in rows t = get_or (parts_in rows).count t 0

-- a plan has the numbers of a lane's positions and of its end
abbrev pub Planned : (ℕ → Bool) → List Op → List ℕ → Type 0
Planned vol ops plan = (p : ℕ) → p ≤ length ops → get_or plan p 0 ≡ plan_number vol ops p

-- the lane whose n rows are at the front has this plan
abbrev pub PlanFor : List ℕ → ℕ → ℕ → List ℕ → Type 0
PlanFor rows n mask plan = (ops : List Op) → Holds rows n ops → Planned (is_volatile mask) ops plan

-- the plan of lane t stands behind those of the lanes before it, each of which has a number for each row and one more
abbrev pub plan_from : List ℕ → ℕ → ℕ
plan_from rows zero = 0
plan_from rows (suc t) = plan_from rows t + count_in rows t + 1

abbrev pub plan_in : List ℕ → List ℕ → ℕ → List ℕ
plan_in rows plan t = drop (plan_from rows t) plan

-- the plans of the first n lanes, and the number that each has of its lane's end
pub record PlansTo (rows : List ℕ) (mask : ℕ) (plan ends : List ℕ) (n : ℕ) : Type 0 where
  pub planned : (t : ℕ) → t < n → PlanFor (lane_in rows t) (count_in rows t) mask (plan_in rows plan t)
  pub ended : (t : ℕ) → t < n → get_or ends t 0 ≡ get_or (plan_in rows plan t) (count_in rows t) 0

-- in the plans of the four lanes of LL and LS at most one stands, and of SS and SL
abbrev pub SingleIn : List ℕ → List ℕ → Type 0
SingleIn rows plan = (t : ℕ) → t < 4 → SingleTo (plan_in rows plan t) (count_in rows t)

-- lane t's bytes at a level
abbrev pub lane_text : Level → List ℕ → List ℕ → ℕ → List ℕ
lane_text l rows plan t = lane_rows l (plan_in rows plan t) (lane_in rows t) (count_in rows t)
