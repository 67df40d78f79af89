-- `file_locks::suspicious` meets its contract. No fault and no descent lies before p.
use Prim.Native.Nat.{ℕ, ◌+◌, ◌*◌}
use lib.ListN.{length, get_or, length-set}
use mathlib.Core.List.{List}
use mathlib.Core.Path.{◌≡◌, refl, sym, ap, ◌∙◌}
use native.Mathlib.Omega.{arith}
use borrow.Author.Tests.{eqb-true, not-false}
use Rattle.std.specs.Prelude.{None}
use Rattle.file_format.specs.declared.accepted.Op.{Op}
use Rattle.file_locks.specs.Lanes.{LaneIn}
use Rattle.file_locks.proofs.Laws.Locks.{bit_small}
use Rattle.file_locks.proofs.Laws.Sets.{LedTo}
use Rattle.file_locks.proofs.Laws.Descents.{Sought, sought_start, sought_end}
use Rattle.file_locks.proofs.Laws.Pass.{Passed, pass_start, pass_clear, pass_on, pass_sought, lead_skip}
use Rattle.file_locks.proofs.Laws.Pass.{lead_none, end_none}
use Rattle.file_locks.proofs.suspicious.Goals as goal
use Rattle.file_locks.proofs.suspicious.Goals.{After-after_row-w, then-code-eq7, else-code-eq7}

abbrev Row : Type 0
Row = After-after_row-w

abbrev Lane : Row → List Op → Type 0
Lane r ops = LaneIn r.args.rows.now r.args.n ops

-- behind a row that is not suspect, with what SKIPs have led where
on : (r : Row) (ops : List Op) → Lane r ops → {led : List ℕ} → LedTo ops (r.loop-p.p + 1) led
    → Passed ops r.args.n (r.loop-p.p + 1) r.after_row-w.result led × Sought ops r.args.n (r.loop-p.p + 1) None
on r ops lane to =
    let l = r.loop-p in
    let was = l.invariant.1 ops lane in
    let clear = pass_clear lane r.requires.0 l.p l.w l.led was.0 r.loop-p-test.true
    r.lock_bit-bit.ensures (sym r.suspect_at.ensures ∙ r.if-suspect_at.false) in (
      pass_on lane r.requires.0 l.p l.w l.led was.0 r.loop-p-test.true r.lock_bit-bit.ensures refl
          clear.0 r.after_row-w.ensures to,
      pass_sought lane r.requires.0 l.p l.w l.led was.0 r.loop-p-test.true r.lock_bit-bit.ensures
          refl clear.0 None {x = None} (rw clear.1 refl) refl was.1,
    )

pub loop-p-init : goal.loop-p-init
loop-p-init c = (
  refl,
  λ ops lane. (pass_start lane c.requires.0, sought_start ops _ lane.held.count),
)

pub suspect_at-requires : goal.suspect_at-requires
suspect_at-requires c =
    omega (
      arith,
      c.lock_bit-bit.ensures,
      bit_small (get_or c.args.rows.now (8 * c.loop-p.p) 0)
          (get_or c.args.rows.now (8 * c.loop-p.p + 2) 0),
    )

pub after_row-w-requires : goal.after_row-w-requires
after_row-w-requires c =
    omega (
      arith,
      c.lock_bit-bit.ensures,
      bit_small (get_or c.args.rows.now (8 * c.loop-p.p) 0)
          (get_or c.args.rows.now (8 * c.loop-p.p + 2) 0),
    )

pub loop-p-preserved : goal.loop-p-preserved
loop-p-preserved c =
    let r = (goal.at.loop-p-preserved c).After-after_row-w in
    let l = c.loop-p in
    let led-is
    : (length c.if-code-eq7.led ≡ 65) × ((ops : List Op) → Lane r ops → LedTo ops (l.p + 1) c.if-code-eq7.led) =
    elim c.if-code-eq7.branch [
      | then-code-eq7 w ↦ (
        ap length (w.led-is ∙ w.lead.ensures) ∙ length-set l.led _ _ ∙ l.invariant.0,
        λ ops lane.
            let was = (l.invariant.1 ops lane).0 in
            let clear = pass_clear lane c.requires.0 l.p l.w l.led was c.loop-p-test.true
            c.lock_bit-bit.ensures (sym c.suspect_at.ensures ∙ c.if-suspect_at.false) in
            lead_skip lane c.requires.0 l.p l.w l.led was c.loop-p-test.true c.lock_bit-bit.ensures refl
            clear.0 c.after_row-w.ensures w.if-code-eq7.true (w.led-is ∙ w.lead.ensures),
      )
      | else-code-eq7 w ↦ (
        ap length w.led-is ∙ l.invariant.0,
        λ ops lane. lead_none lane c.requires.0 l.p l.w l.led (l.invariant.1 ops lane).0
            c.loop-p-test.true w.if-code-eq7.false w.led-is,
      )
    ] in
    (led-is.0, λ ops lane. on r ops lane (led-is.1 ops lane))

pub returns : goal.returns
returns c =
    λ e ops lane. (
      sym (end_none lane c.requires.0 c.loop-p.p c.loop-p.w c.loop-p.led (c.loop-p.invariant.1 ops lane).0
          c.loop-p-test.false (omega arith) (eqb-true _ _ (not-false _ e))),
      sought_end ops _ c.loop-p.p None c.loop-p-test.false (c.loop-p.invariant.1 ops lane).1,
    )
