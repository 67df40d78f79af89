-- Laws of the instruction of a sheet row, and of what is said of equal instructions.
use Rattle.std.proofs.Common.{◌≡◌, ℕ, Bool, sym, ap, subst, ◌∙◌}
use mathlib.Core.Logic.{◌⊎◌}
use Rattle.barrier_placement.specs.declared.cookbook.Barrier.{Barrier}
use Rattle.sheet_format.specs.Layout.{Instr, barrier}
use Rattle.sheet_rows.specs.declared.read.Row.{Row}
use Rattle.sheet_format.specs.Read.{instr_by}
use Rattle.sheet_format.specs.declared.code.Code.{Code}
use Rattle.sheet_format.specs.declared.code.Code.TheVariants as C
use Rattle.sheet_format.specs.Code.{barrier_kind, code_from, instr_named}
use Rattle.sheet_format.proofs.Laws.Codes.{of_kind, barrier_kinds}
use Rattle.machine_spec.specs.declared.Machine.{Machine}
use Rattle.machine_state.specs.declared.state.Moved.{Moved}
use Rattle.machine_state.specs.Ready.{Ready}
use Rattle.machine_state.specs.States.{Blocks}
use Rattle.machine_step.specs.Turns.{Carried}

-- the instruction of a row
pub of_row : {x y : Row} → x ≡ y → instr_by x.code x.a x.b x.word ≡ instr_by y.code y.a y.b y.word
of_row e = ap (λ (r : Row). instr_by r.code r.a r.b r.word) e

pub ready_as : {r : Blocks} {t : ℕ} {i j : Instr} → i ≡ j → Ready r t j → Ready r t i
ready_as {r} {t} e h = subst (Ready r t) (sym e) h

pub carried_as : (m : Machine) (f : ℕ → Bool) {i j : Instr} {t : ℕ} {s e : Blocks} {q : Moved} → i ≡ j
    → Carried m f i t s q e → Carried m f j t s q e
carried_as m f {t = t} {s} {e} {q} p h = subst (λ i. Carried m f i t s q e) p h

-- by the kind of the operation code o, read as p
pub carried_by : (m : Machine) (f : ℕ → Bool) (a b c : ℕ) {o p : ℕ} {r k : Code} {t : ℕ} {s e : Blocks} {q : Moved}
    → p ≡ o → r ≡ code_from p → r ≡ k → Carried m f (instr_named k a b c) t s q e
    → Carried m f (instr_by o a b c) t s q e
carried_by m f a b c {o} same from is h =
    carried_as m f (of_kind o a b c (from ∙ ap code_from same) is) h

-- by the barrier x of its kind r, which is a barrier's
pub carried_past : (m : Machine) (f : ℕ → Bool) (a b c : ℕ) {o p : ℕ} {r : Code} {x : Barrier} {t : ℕ} {s e : Blocks}
    {q : Moved} → p ≡ o → r ≡ code_from p → (r ≡ C.LL) ⊎ ((r ≡ C.LS) ⊎ ((r ≡ C.SS) ⊎ (r ≡ C.SL)))
    → ((k : Barrier) → r ≡ barrier_kind k → x ≡ k) → Carried m f (barrier x) t s q e
    → Carried m f (instr_by o a b c) t s q e
carried_past m f a b c {o} {t = t} {s} {e} {q} same from is one h =
    barrier_kinds (λ i. Carried m f i t s q e) o a b c (from ∙ ap code_from same) is
    (λ k n. subst (λ y. Carried m f (barrier y) t s q e) (one k n) h)
