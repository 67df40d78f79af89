-- A lane with nothing pending: where a target waits, so does the source machine; and which moves pass a barrier.
use mathlib.Core.Path.{◌≡◌, refl, ap, ◌∙◌, sym, subst}
use mathlib.Core.Bool.{Bool, true, false, not, cond, false≢true}
use mathlib.Core.List.{List, [], ◌∷◌, map}
use mathlib.Core.Option.{Option, none, some}
use Prim.Native.Nat.{ℕ, zero, suc}
use native.Mathlib.Omega.{arith}
use lib.ListN.{get_elem?, drop}
use Rattle.laws.proofs.Lists.{getElem?-map}
use Rattle.file_format.specs.declared.accepted.Op.{Op}
use Rattle.barrier_placement.specs.declared.cookbook.Barrier.{Barrier}
use Rattle.barrier_placement.specs.declared.cookbook.Barrier.TheVariants.{LL, LS, SS, SL}
use Rattle.barrier_placement.specs.Layout.{Placed, operations, start}
use Rattle.sheet_format.specs.Layout.{Instr, op, barrier, aim, sheet}
use Rattle.sheet_format.proofs.Laws.Aim.{aim_blind}
use Rattle.machine_spec.specs.Entries.{Entry, is_nil}
use Rattle.machine_spec.specs.declared.Machine.TheVariants.{Source, Target}
use Rattle.machine_spec.specs.declared.Model.{Model}
use Rattle.machine_spec.specs.Rules.{may_commit}
use Rattle.machine_spec.specs.Step.{Control, Core, Turn, waits, refuses, passes, does, permits, holds, effect}
use Rattle.machine_spec.specs.Step.{passed, execute, commit}
use Rattle.claims.specs.Schedules.{leading}
use Rattle.claims.specs.Stuck.{halted}
use Rattle.claims.proofs.Laws.Sheets.{Here, end, ahead, meet, here}
use Rattle.claims.proofs.Laws.Pending.{oldest_commits}
use Rattle.claims.proofs.Stuck.{free_permits, waits_permits}
use Rattle.claims.proofs.Stands.{Stands}

op_back : (m : Model) (vol : ℕ → Bool) (w : ℕ) (k i : Control) (c : Core) (r : ℕ → ℕ) → c.pending ≡ [] → (o : Op)
    → execute (Target m) vol w k c (some (op (aim r o))) ≡ waits → execute Source vol w i c (some (op o)) ≡ waits
op_back m vol w k i c r nil o e =
    let f : permits Source vol c o ≡ false =
    free_permits Source vol c nil o
    ∙ ap not (sym (aim_blind (λ o. halted c.locks (some (op o))) (λ a t u. refl) r o))
    ∙ sym (free_permits (Target m) vol c nil (aim r o)) ∙ waits_permits (Target m) vol w k c (aim r o) e in
    rw f

pub fetch_barrier : (l : List Instr) (q n : ℕ) → leading (drop q l) ≡ suc n → (b : Barrier)
    × (get_elem? l q ≡ some (barrier b)) × (leading (drop (suc q) l) ≡ n)
fetch_barrier [] zero n e = absurd (omega arith)
fetch_barrier [] (suc q) n e = absurd (omega arith)
fetch_barrier (op o ∷ l) zero n e = absurd (omega arith)
fetch_barrier (barrier b ∷ l) zero n e = (b, refl, omega arith)
fetch_barrier (i ∷ l) (suc q) n e = fetch_barrier l q n e

pub no_barrier : (l : List Instr) (q : ℕ) (b : Barrier) → leading (drop q l) ≡ 0 → get_elem? l q ≡ some (barrier b) → ⊥
no_barrier [] q b e k = let z : ◌≡◌ {A = ℕ} 0 1 = cc in omega arith
no_barrier (op o ∷ l) zero b e k = let z : ◌≡◌ {A = ℕ} 0 1 = cc in omega arith
no_barrier (barrier d ∷ l) zero b e k = omega arith
no_barrier (i ∷ l) (suc q) b e k = no_barrier l q b e k

pub execute_back : (m : Model) (vol : ℕ → Bool) (ps : List (Placed Op)) (w : ℕ) (i k : Control) (c : Core)
    → c.pending ≡ [] → Stands m vol ps i.pos k c.pending → leading (drop k.pos (sheet ps)) ≡ 0
    → execute (Target m) vol w k c (get_elem? (sheet ps) k.pos) ≡ waits
    → execute Source vol w i c (get_elem? (map op (operations ps)) i.pos) ≡ waits
execute_back m vol ps w i k c nil st e x =
    go _ _ (here ps i.pos st.passed st.within) (ap (get_elem? (sheet ps)) st.place) refl
    (subst (λ z. execute (Target m) vol w k c (get_elem? (sheet ps) z) ≡ waits) st.place x)
  where
    go : (a : Option Instr) (o : Option Op) → Here (start ps) a o → get_elem? (sheet ps) k.pos ≡ a
        → get_elem? (operations ps) i.pos ≡ o → execute (Target m) vol w k c a ≡ waits
        → execute Source vol w i c (get_elem? (map op (operations ps)) i.pos) ≡ waits
    go a o end h j x = rw (getElem?-map op (operations ps) i.pos, j)
    go a o ahead h j x = absurd (no_barrier (sheet ps) k.pos _ e h)
    go a o (meet {o = o'}) h j x =
        rw (getElem?-map op (operations ps) i.pos, j) (op_back m vol w k i c (start ps) nil o' x)

-- the oldest entry never waits
pub commit_back : (m : Model) (vol : ℕ → Bool) (k i : Control) (c : Core) (e : Option Entry)
    → commit (Target m) vol k c 0 e ≡ waits → commit Source vol i c 0 e ≡ waits
commit_back m vol k i c none x = refl
commit_back m vol k i c (some e) x = cc (oldest_commits (Target m) vol k.marks [] e refl)

unfoldable pub is_pass : Turn → Bool
is_pass waits = false
is_pass refuses = false
is_pass (passes k c) = true
is_pass (does k c v) = false

cond_not_pass : (b : Bool) (u u' : Turn) → is_pass u ≡ false → is_pass u' ≡ false → is_pass (cond b u u') ≡ false
cond_not_pass true u u' h h' = h
cond_not_pass false u u' h h' = h'

pub commit_not_pass : (m : Model) (vol : ℕ → Bool) (k : Control) (c : Core) (e : Option Entry)
    → is_pass (commit (Target m) vol k c 0 e) ≡ false
unfolding is_pass
commit_not_pass m vol k c none = refl
commit_not_pass m vol k c (some e) = cond_not_pass (may_commit (Target m) vol k.marks [] e) _ waits refl refl

-- an operation is no barrier
effect_not_pass : (m : Model) (vol : ℕ → Bool) (w : ℕ) (k : Control) (c : Core) (o : Op)
    → is_pass (effect (Target m) vol w k c o) ≡ false
unfolding is_pass
effect_not_pass m vol w k c o = cond_not_pass (holds w c o) _ refuses refl refl

pub passes_barrier : (m : Model) (vol : ℕ → Bool) (w : ℕ) (k : Control) (c : Core) (i : Option Instr)
    → is_pass (execute (Target m) vol w k c i) ≡ true → (b : Barrier) × (i ≡ some (barrier b))
unfolding is_pass
passes_barrier m vol w k c none e = absurd (false≢true e)
passes_barrier m vol w k c (some (op o)) e = let h =
    cond_not_pass (permits (Target m) vol c o) (effect (Target m) vol w k c o) waits (effect_not_pass m vol w k c o)
    refl in absurd (false≢true (sym h ∙ e))
passes_barrier m vol w k c (some (barrier b)) e = (b, refl)

-- with nothing pending each barrier is passed
pub drained_passes : (m : Model) (vol : ℕ → Bool) (w : ℕ) (k : Control) (c : Core) → c.pending ≡ [] → (b : Barrier)
    → execute (Target m) vol w k c (some (barrier b)) ≡ passes (passed (Target m) k c b) c
drained_passes m vol w k c nil LL = refl
drained_passes m vol w k c nil LS = refl
drained_passes m vol w k c nil SS = refl
drained_passes m vol w k c nil SL = let none_left : is_nil c.pending ≡ true = rw nil in rw none_left
