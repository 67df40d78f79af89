-- `file_locks::find_positions` meets its contract. The lowest fault from p on is the lowest of all, and the first
-- descent is the one found, or else the lowest from p on.
use Prim.Native.Nat.{ℕ, ◌+◌, ◌*◌}
use lib.ListN.{length, get_or, length-set}
use mathlib.Core.List.{List}
use mathlib.Core.Path.{◌≡◌, refl, sym, ap, ◌∙◌}
use native.Mathlib.Omega.{arith}
use Rattle.file_format.specs.declared.accepted.Op.{Op}
use Rattle.file_locks.specs.Lanes.{LaneIn}
use Rattle.file_locks.proofs.Laws.Locks.{bit_small}
use Rattle.file_locks.proofs.Laws.Sets.{LedTo}
use Rattle.file_locks.proofs.Laws.Descents.{Sought, sought_start, sought_end}
use Rattle.file_locks.proofs.Laws.Pass.{Passed, pass_start, pass_found, pass_on, pass_sought, lead_skip}
use Rattle.file_locks.proofs.Laws.Pass.{lead_none, end_found, end_none}
use Rattle.file_locks.proofs.find_positions.Goals as goal
use Rattle.file_locks.proofs.find_positions.Goals.{After-after_row-w, then-code-eq7, else-code-eq7}

abbrev Row : Type 0
Row = After-after_row-w

abbrev Lane : Row → List Op → Type 0
Lane r ops = LaneIn r.args.rows.now r.args.n ops

-- behind a row whose rule is kept
on : (r : Row) (ops : List Op) → Lane r ops → {led : List ℕ} → LedTo ops (r.loop-p.p + 1) led
    → Passed ops r.args.n (r.loop-p.p + 1) r.after_row-w.result led
    × Sought ops r.args.n (r.loop-p.p + 1) r.or-descent.result
on r ops lane to =
    let l = r.loop-p in
    let was = l.invariant.1 ops lane in (
      pass_on lane r.requires.0 l.p l.w l.led was.0 r.loop-p-test.true r.lock_bit-bit.ensures
          r.wrong_at.ensures r.if-wrong_at.false r.after_row-w.ensures to,
      pass_sought lane r.requires.0 l.p l.w l.led was.0 r.loop-p-test.true r.lock_bit-bit.ensures
          r.wrong_at.ensures r.if-wrong_at.false l.descent r.descent_here-found.ensures
          r.or-descent.ensures was.1,
    )

pub loop-p-init : goal.loop-p-init
loop-p-init c = (
  refl,
  λ ops lane. (pass_start lane c.requires.0, sought_start ops _ lane.held.count),
)

pub returns-then-wrong_at : goal.returns-then-wrong_at
returns-then-wrong_at c =
    λ ops lane.
    let found = pass_found lane c.requires.0 c.loop-p.p c.loop-p.w c.loop-p.led (c.loop-p.invariant.1 ops lane).0
    c.loop-p-test.true c.lock_bit-bit.ensures c.wrong_at.ensures c.if-wrong_at.true in
    (found, λ z. omega (arith, found, z))

pub after_row-w-requires : goal.after_row-w-requires
after_row-w-requires c =
    omega (
      arith,
      c.lock_bit-bit.ensures,
      bit_small (get_or c.args.rows.now (8 * c.loop-p.p) 0)
          (get_or c.args.rows.now (8 * c.loop-p.p + 2) 0),
    )

pub loop-p-preserved : goal.loop-p-preserved
loop-p-preserved c =
    let r = (goal.at.loop-p-preserved c).After-after_row-w in
    let l = c.loop-p in
    let led-is
    : (length c.if-code-eq7.led ≡ 65) × ((ops : List Op) → Lane r ops → LedTo ops (l.p + 1) c.if-code-eq7.led) =
    elim c.if-code-eq7.branch [
      | then-code-eq7 w ↦ (
        ap length (w.led-is ∙ w.lead.ensures) ∙ length-set l.led _ _ ∙ l.invariant.0,
        λ ops lane. lead_skip lane c.requires.0 l.p l.w l.led (l.invariant.1 ops lane).0 c.loop-p-test.true
            c.lock_bit-bit.ensures c.wrong_at.ensures c.if-wrong_at.false c.after_row-w.ensures
            w.if-code-eq7.true (w.led-is ∙ w.lead.ensures),
      )
      | else-code-eq7 w ↦ (
        ap length w.led-is ∙ l.invariant.0,
        λ ops lane. lead_none lane c.requires.0 l.p l.w l.led (l.invariant.1 ops lane).0
            c.loop-p-test.true w.if-code-eq7.false w.led-is,
      )
    ] in
    (led-is.0, λ ops lane. on r ops lane (led-is.1 ops lane))

pub returns-then-w-led-ne0 : goal.returns-then-w-led-ne0
returns-then-w-led-ne0 c =
    λ ops lane.
    let found = end_found lane c.requires.0 c.loop-p.p c.loop-p.w c.loop-p.led (c.loop-p.invariant.1 ops lane).0
    c.loop-p-test.false (omega arith) c.if-w-led-ne0.true in
    (found, λ z. omega (arith, found, z))

pub returns : goal.returns
returns c =
    λ ops lane. (
      sym (end_none lane c.requires.0 c.loop-p.p c.loop-p.w c.loop-p.led (c.loop-p.invariant.1 ops lane).0
          c.loop-p-test.false (omega arith) c.if-w-led-ne0.false),
      sought_end ops _ c.loop-p.p c.loop-p.descent c.loop-p-test.false (c.loop-p.invariant.1 ops lane).1,
    )
