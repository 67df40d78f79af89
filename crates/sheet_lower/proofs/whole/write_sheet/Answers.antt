-- `sheet_lower::whole::write_sheet` meets its contract: the plans give the sizes, and header and lanes make the sheet.
use Prim.Native.Nat.{ℕ, ◌+◌, ◌*◌, ◌<◌}
use mathlib.Core.Path.{◌≡◌, sym, ap, ◌∙◌}
use mathlib.Core.List.{List}
use native.Mathlib.Omega.{arith}
use lib.ListN.{length, get_or}
use Rattle.file_format.specs.Fields.{mask}
use Rattle.file_format.specs.Accepted.{program_of}
use Rattle.sheet_format.specs.declared.Level.{Level}
use Rattle.sheet_format.proofs.Laws.Put.{laid_length}
use Rattle.sheet_format.proofs.Laws.Written.{short_untouched}
use Rattle.sheet_rows.specs.declared.parts.Parts.{Parts}
use Rattle.sheet_rows.specs.Rows.{parts_in}
use Rattle.barrier_pass.specs.Plan.{begin_in}
use Rattle.barrier_pass.proofs.Laws.Read.{begin_small}
use Rattle.sheet_lanes.specs.Rows.{count_in}
use Rattle.sheet_lower.specs.Sheet.{sheet_of}
use Rattle.sheet_lower.proofs.Laws.Sheet.{chains_short, plans_size, plans_single, size_by, room_by, sheet_put}
use Rattle.sheet_lower.proofs.whole.write_sheet.Goals as goal
use Rattle.sheet_lower.proofs.whole.write_sheet.Goals.{After-begin_in-d}

pub plan_lanes-ends-requires : goal.plan_lanes-ends-requires
plan_lanes-ends-requires c = (
  chains_short c.args.s.now c.requires.s_value c.requires.chains_of.0,
  c.parts_of-parts.ensures,
  omega (arith, plans_size c.args.s.now c.requires.s_value c.requires.chains_of.0, c.requires.chains_of.1),
)

-- ## behind the plans: the sizes of the lanes

abbrev file : After-begin_in-d → List ℕ
file s = s.args.s.now

abbrev rows : After-begin_in-d → List ℕ
rows s = s.args.rows.now

abbrev level : After-begin_in-d → Level
level s = s.args.level

abbrev ends : After-begin_in-d → List ℕ
ends s = s.plan_lanes-ends.result

parts : (s : After-begin_in-d) → s.parts_of-parts.result ≡ parts_in (rows s)
parts s = s.parts_of-parts.ensures

masked : (s : After-begin_in-d) → s.word_at-mask.result ≡ mask (file s)
masked s = s.word_at-mask.ensures.0

-- the size of lane t, of its end
sized : (s : After-begin_in-d) (t : ℕ) {n : ℕ}
    → n ≡ begin_in (level s) (get_or (ends s) t 0) (get_or s.parts_of-parts.result.count t 0)
    → n ≡ begin_in (level s) (get_or (ends s) t 0) (count_in (rows s) t)
sized s t e = e ∙ ap (λ (q : Parts). begin_in (level s) (get_or (ends s) t 0) (get_or q.count t 0)) (parts s)

small : (s : After-begin_in-d) (t : ℕ) {n : ℕ} → t < 4
    → n ≡ begin_in (level s) (get_or (ends s) t 0) (count_in (rows s) t) → n < 512
small s t h e =
    omega (
      arith,
      e,
      begin_small (level s) (get_or (ends s) t 0) (count_in (rows s) t)
          ((chains_short (file s) s.requires.s_value s.requires.chains_of.0).few t h),
    )

module _ (s : After-begin_in-d) where
  ea : s.begin_in-a.result ≡ begin_in (level s) (get_or (ends s) 0 0) (count_in (rows s) 0)
  ea = sized s 0 s.begin_in-a.ensures

  eb : s.begin_in-b.result ≡ begin_in (level s) (get_or (ends s) 1 0) (count_in (rows s) 1)
  eb = sized s 1 s.begin_in-b.ensures

  ec : s.begin_in-c.result ≡ begin_in (level s) (get_or (ends s) 2 0) (count_in (rows s) 2)
  ec = sized s 2 s.begin_in-c.ensures

  ed : s.begin_in-d.result ≡ begin_in (level s) (get_or (ends s) 3 0) (count_in (rows s) 3)
  ed = sized s 3 s.begin_in-d.ensures

  all_small : (s.begin_in-a.result < 512) × (s.begin_in-b.result < 512) × (s.begin_in-c.result < 512)
      × (s.begin_in-d.result < 512)
  all_small = (
    small s 0 (omega arith) ea,
    small s 1 (omega arith) eb,
    small s 2 (omega arith) ec,
    small s 3 (omega arith) ed,
  )

  size : 16 + 8 * (s.begin_in-a.result + (s.begin_in-b.result + (s.begin_in-c.result + s.begin_in-d.result)))
      ≡ length (sheet_of (level s) (file s))
  size =
      size_by (file s) s.requires.s_value s.requires.chains_of.0 (masked s) s.plan_lanes-ends.ensures (level s) ea eb
      ec ed

-- ## the goals

pub overflow_add-total : goal.overflow_add-total
overflow_add-total c = omega (arith, all_small (goal.at.overflow_add-total c).After-begin_in-d)

pub overflow_add-total-2 : goal.overflow_add-total-2
overflow_add-total-2 c = omega (arith, all_small (goal.at.overflow_add-total-2 c).After-begin_in-d)

pub overflow_add-total-3 : goal.overflow_add-total-3
overflow_add-total-3 c = omega (arith, all_small (goal.at.overflow_add-total-3 c).After-begin_in-d)

pub overflow_mul-total : goal.overflow_mul-total
overflow_mul-total c = omega (arith, all_small (goal.at.overflow_mul-total c).After-begin_in-d)

pub overflow_add-total-4 : goal.overflow_add-total-4
overflow_add-total-4 c = omega (arith, all_small (goal.at.overflow_add-total-4 c).After-begin_in-d)

pub returns-then-out-total : goal.returns-then-out-total
returns-then-out-total c =
    let s = (goal.at.returns-then-out-total c).After-begin_in-d in
    let short =
    short_untouched (sheet_of (level s) (file s)) c.args.out.now (omega (arith, size s, c.if-out-total.true)) in
    record {
      size = size s;
      wrote = ap (λ x. x.1) (sym short);
    }

pub write_lanes-requires : goal.write_lanes-requires
write_lanes-requires c =
    let s = (goal.at.write_lanes-requires c).After-begin_in-d in
    let ok = c.requires.s_value in
    let chains = c.requires.chains_of.0 in
    let plans = c.plan_lanes-ends.ensures in
    let room = room_by (file s) ok chains (masked s) plans (level s) (ea s) (eb s) (ec s) (ed s) in
    let first = laid_length _ _ _ c.put_first.ensures in
    let counts = laid_length _ _ _ c.put_counts.ensures in record {
      short = (
        chains_short (file s) ok chains,
        parts s,
        omega (arith, plans_size (file s) ok chains, c.requires.chains_of.1, c.plan_lanes-ends.auto.plan),
      );
      single_in = plans_single (file s) ok chains (masked s) plans;
      plan_in_bounds = omega (arith, size s, room, c.if-out-total.false, first, counts);
    }

pub returns : goal.returns
returns c =
    let s = (goal.at.returns c).After-begin_in-d in record {
      size = size s;
      wrote =
          sheet_put (file s) c.requires.s_value c.requires.chains_of.0 (masked s) c.plan_lanes-ends.ensures (level s)
          (ea s) (eb s) (ec s) (ed s) c.byte_at.ensures c.byte_at-2.ensures c.byte_at-3.ensures c.level_number.ensures
          (c.mask_at.ensures (program_of (file s)) (masked s)) c.args.out.now
          (omega (arith, size s, c.if-out-total.false)) c.put_first.ensures c.put_counts.ensures
          c.write_lanes.ensures;
    }
