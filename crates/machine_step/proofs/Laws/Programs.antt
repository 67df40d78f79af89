-- Laws of a lane's program in the bytes of a sheet, and of a choice that the lane makes of it.
use Rattle.std.proofs.Common.{◌≡◌, ℕ, zero, suc, ◌-◌, ◌≤◌, Bool, List, sym, refl, subst, arith}
use mathlib.Core.Option.{Option, none, some}
use lib.ListN.{get_elem?}
use Rattle.laws.proofs.Lists.{at_beyond}
use Rattle.sheet_rows.proofs.Laws.Read.{rows_length}
use Rattle.sheet_format.specs.Layout.{Instr}
use Rattle.sheet_format.specs.Read.{read_rows}
use Rattle.machine_spec.specs.declared.Machine.{Machine}
use Rattle.machine_state.specs.declared.state.Moved.{Moved}
use Rattle.machine_state.specs.declared.state.Moved.TheVariants.{Waited}
use Rattle.machine_state.specs.Ready.{Ready, Movable}
use Rattle.machine_state.specs.States.{Blocks, lane_of, Sized}
use Rattle.machine_step.specs.Turns.{carries, commits, turns, Took}
use Rattle.machine_step.proofs.Laws.Turns.{took_wait}

pub row_past : (n : ℕ) (b : List ℕ) (p : ℕ) → n ≤ p → get_elem? (read_rows n b) p ≡ none
row_past n b p h = at_beyond (read_rows n b) p (omega (arith, rows_length n b))

pub ready_at : {r : Blocks} {t : ℕ} {prog : List Instr} {i : Instr} → Movable r t prog
    → get_elem? prog (lane_of r t).control.pos ≡ some i → Ready r t i
ready_at h e = record {
  lies = h.lies;
  position = h.ready.position;
  asked = h.ready.asked _ e;
}

-- ## a choice that is made: 0 at an instruction and at the end, and another
module _ (m : Machine) (f : ℕ → Bool) (prog : List Instr) (s : Blocks) (t : ℕ) where
  pub made_carry : {i : Option Instr} {q : Moved} {e : Blocks} → get_elem? prog (lane_of s t).control.pos ≡ i
      → Took s t (carries m f s t i) q e → Took s t (turns m f prog s t 0) q e
  made_carry {i} {q} {e} h k = subst (λ x. Took s t (carries m f s t x) q e) (sym h) k

  pub made_wait : get_elem? prog (lane_of s t).control.pos ≡ none → Sized s → Took s t (turns m f prog s t 0) Waited s
  made_wait h k = made_carry h (took_wait s t k)

  pub made_commit : (k : ℕ) {q : Moved} {e : Blocks} → (k ≡ 0 → ⊥) → Took s t (commits m f s t (k - 1)) q e
      → Took s t (turns m f prog s t k) q e
  made_commit zero h c = absurd (h refl)
  made_commit (suc k) {q} {e} h c =
      let back : suc k - 1 ≡ k = omega arith in
      subst (λ i. Took s t (commits m f s t i) q e) back c

  pub made_as : {k : ℕ} {q : Moved} {e : Blocks} → k ≡ 0 → Took s t (turns m f prog s t 0) q e → Took s t
      (turns m f prog s t k) q e
  made_as {k} {q} {e} h c = subst (λ x. Took s t (turns m f prog s t x) q e) (sym h) c
