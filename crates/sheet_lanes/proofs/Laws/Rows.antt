-- Laws of each lane's rows in the buffer: where they and their plans lie, and what the code sees of them.
use Prim.Native.Nat.{ℕ, zero, suc, ◌+◌, ◌*◌, ◌≤◌, ◌<◌}
use mathlib.Core.Path.{◌≡◌, sym, ap, subst, ◌∙◌}
use mathlib.Core.List.{List}
use native.Mathlib.Numerals.{add-one}
use native.Mathlib.Omega.{arith}
use native.Mathlib.Decide.{dec_lt}
use lib.ListN.{length, get_or, set, drop}
use lib.Seq.{get_or-drop, get_or-set_same, get_or-set_other}
use Rattle.laws.proofs.Numbers.{below_more}
use Rattle.sheet_format.specs.declared.Level.{Level}
use Rattle.sheet_rows.specs.declared.parts.Parts.{Parts}
use Rattle.sheet_rows.specs.Rows.{parts_in}
use Rattle.sheet_lanes.specs.Put.{lane_rows}
use Rattle.sheet_lanes.specs.Rows.{Short, lane_in, count_in, PlanFor, plan_from, plan_in, PlansTo, lane_text}

-- a plan that has the same numbers up to that of the lane's end
pub plan_kept : (rows : List ℕ) (n m : ℕ) (plan plan' : List ℕ) → ((p : ℕ) → p ≤ n → get_or plan' p 0 ≡ get_or plan p 0)
    → PlanFor rows n m plan → PlanFor rows n m plan'
plan_kept rows n m plan plan' same known ops h p le = same p (omega (arith, h.count)) ∙ known ops h p le

-- the plans of lanes one behind the other
pub plan_next : (rows : List ℕ) (t : ℕ) → plan_from rows (t + 1) ≡ plan_from rows t + count_in rows t + 1
plan_next rows t = ap (plan_from rows) (add-one t)

pub plan_later : (rows : List ℕ) (t u : ℕ) → t < u → plan_from rows t + count_in rows t < plan_from rows u
plan_later rows t zero h = absurd (omega arith)
plan_later rows t (suc u) h = go (dec_lt t u) (plan_later rows t u)
  where
    go : Dec (t < u) → (t < u → plan_from rows t + count_in rows t < plan_from rows u)
        → plan_from rows t + count_in rows t < plan_from rows (suc u)
    go (yes l) below = omega (arith, below l)
    go (no l) below = let same : t ≡ u = omega arith in rw same (omega arith)

module _ (rows : List ℕ) (ok : Short rows) where
  -- lane t's rows, which begin at `from`
  module _ {p : Parts} (e : p ≡ parts_in rows) (t : ℕ) (h : t < 4) where
    abbrev from : ℕ
    from = get_or p.from t 0

    abbrev count : ℕ
    count = get_or p.count t 0

    pub part_few : count ≤ 64
    part_few = subst (λ (q : Parts). get_or q.count t 0 ≤ 64) (sym e) (ok.few t h)

    pub part_inside : from + 8 * count ≤ length rows
    part_inside =
        subst (λ (q : Parts). get_or q.from t 0 + 8 * get_or q.count t 0 ≤ length rows) (sym e) (ok.inside t h)

    pub part_count : count ≡ count_in rows t
    part_count = ap (λ (q : Parts). get_or q.count t 0) e

    pub part_plan : (m : ℕ) (plan : List ℕ) → PlanFor (drop from rows) count m plan
        → PlanFor (drop (get_or (parts_in rows).from t 0) rows) (count_in rows t) m plan
    part_plan m plan =
        subst (λ (q : Parts). PlanFor (drop (get_or q.from t 0) rows) (get_or q.count t 0) m plan) e

    pub part_text : (l : Level) (plan : List ℕ) → lane_rows l (plan_in rows plan t) (drop from rows) count
        ≡ lane_text l rows plan t
    part_text l plan =
        ap (λ (q : Parts). lane_rows l (plan_in rows plan t) (drop (get_or q.from t 0) rows) (get_or q.count t 0)) e

-- ## the plans while they are written

-- where the plan of lane t ends, there is room for those behind it
pub plan_room : (rows : List ℕ) (t : ℕ) {k : ℕ} → t < 4 → plan_from rows 4 ≤ k
    → plan_from rows t + count_in rows t < k
plan_room rows t h room = omega (arith, plan_later rows t 4 h)

pub plans_none : (rows : List ℕ) (mask : ℕ) (plan ends : List ℕ) → PlansTo rows mask plan ends 0
plans_none rows mask plan ends = record {
  planned = λ t h. absurd (omega arith);
  ended = λ t h. absurd (omega arith);
}

-- the plan of lane n more, from which on alone the numbers change
pub plans_on : (rows : List ℕ) (mask : ℕ) (plan plan' ends : List ℕ) (n end : ℕ) → PlansTo rows mask plan ends n
    → n < length ends
    → ((i : ℕ) → i < plan_from rows n → get_or plan' i 0 ≡ get_or plan i 0)
    → PlanFor (lane_in rows n) (count_in rows n) mask (plan_in rows plan' n)
    → end ≡ get_or (plan_in rows plan' n) (count_in rows n) 0
    → PlansTo rows mask plan' (set ends n end) (n + 1)
plans_on rows mask plan plan' ends n end known room same lane last = record {
  planned = below_more (λ t. PlanFor (lane_in rows t) (count_in rows t) mask (plan_in rows plan' t)) n
      (λ t h. plan_kept (lane_in rows t) (count_in rows t) mask (plan_in rows plan t) (plan_in rows plan' t)
      (λ p le. kept t h p le) (known.planned t h))
      lane;
  ended = below_more (λ t. get_or (set ends n end) t 0 ≡ get_or (plan_in rows plan' t) (count_in rows t) 0) n
      (λ t h. get_or-set_other ends n t end 0 (λ e. omega arith) ∙ known.ended t h
      ∙ sym (kept t h (count_in rows t) (omega arith)))
      (get_or-set_same ends n end 0 room ∙ last);
}
  where
    kept : (t : ℕ) → t < n → (p : ℕ) → p ≤ count_in rows t
        → get_or (plan_in rows plan' t) p 0 ≡ get_or (plan_in rows plan t) p 0
    kept t h p le =
        get_or-drop (plan_from rows t) plan' p 0
        ∙ same (plan_from rows t + p) (omega (arith, plan_later rows t n h))
        ∙ sym (get_or-drop (plan_from rows t) plan p 0)
