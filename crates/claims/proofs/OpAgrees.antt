-- An operation that a target carries out agrees with what the source machine does at the same place of the chain.
use mathlib.Core.Path.{◌≡◌, refl, ap}
use mathlib.Core.Bool.{Bool, true, false, not, cond}
use mathlib.Core.List.{List}
use mathlib.Core.Option.{Option, some}
use Prim.Native.Nat.{ℕ, suc}
use lib.Dec.{eqb}
use lib.ListN.{get_or, set as update}
use Rattle.laws.proofs.Bools.{and_true}
use Rattle.file_format.specs.declared.accepted.Op.{Op}
use Rattle.file_format.specs.declared.accepted.Op.TheVariants.{Set, Add, Load, Store, Lock, Unlock, Skip}
use Rattle.barrier_placement.specs.declared.cookbook.Barrier.TheVariants.{SL}
use Rattle.barrier_placement.specs.Layout.{Placed, start}
use Rattle.sheet_format.specs.Layout.{op, aim}
use Rattle.sheet_format.proofs.Laws.Aim.{aim_blind}
use Rattle.machine_spec.specs.Entries.{write, release, any_sync, is_nil, append_entry}
use Rattle.machine_spec.specs.declared.Machine.TheVariants.{Source, Target}
use Rattle.machine_spec.specs.declared.Model.{Model}
use Rattle.machine_spec.specs.declared.Model.TheVariants.{Tso, Pso}
use Rattle.machine_spec.specs.Step.{Control, Core, Turn, waits, refuses, passes, does, goto, reg, permits, holds}
use Rattle.machine_spec.specs.Step.{value_of}
use Rattle.machine_spec.specs.Step.{loads, next, emit, core_after, effect, execute}
use Rattle.claims.proofs.Fenced.{KeptAt, AllFenced}
use Rattle.claims.proofs.Laws.Pending.{newest_sync, nil_sync}
use Rattle.claims.proofs.Stands.{Stands, Reached, onwards, lands, locked_on, appended, parted}

-- a turn of the target and the source turn for it, with the core c before
pub data Agrees (m : Model) (vol : ℕ → Bool) (ps : List (Placed Op)) (p : ℕ) (c : Core) : Turn → Turn → Type 0 where
  wait : {u : Turn} → Agrees m vol ps p c waits u
  refuse : Agrees m vol ps p c refuses refuses
  passed_by : {k : Control} {u : Turn} → Stands m vol ps p k c.pending → Agrees m vol ps p c (passes k c) u
  act : {j j' : Control} {d : Core} {v : Option ℕ} → Stands m vol ps j.pos j' d.pending
      → Agrees m vol ps p c (does j' d v) (does j d v)

-- both are refused, or both act alike
both_act : {m : Model} {vol : ℕ → Bool} {ps : List (Placed Op)} {p : ℕ} {c : Core} (b : Bool) {b' : Bool}
    (j j' : Control) {d d' : Core} {v v' : Option ℕ} → b' ≡ b → d' ≡ d → v' ≡ v
    → Stands m vol ps j.pos j' d.pending
    → Agrees m vol ps p c (cond b' (does j' d' v') refuses) (cond b (does j d v) refuses)
both_act true j j' eb ed ev st = rw (eb, ed, ev) (act st)
both_act false j j' eb ed ev st = rw eb refuse

keeps_sl : (m : Model) → KeptAt m SL
keeps_sl Tso o flows = ap not flows
keeps_sl Pso o flows = ap not flows

module _ {m : Model} {vol : ℕ → Bool} {ps : List (Placed Op)} (f : AllFenced m vol ps) {i k : Control} {c : Core}
    {s : Placed Op} (r : Reached m vol ps i k c s) where
  -- the LOAD of a volatile location finds nothing exposed
  load_parted : (a x : ℕ) → s.oper ≡ Load a x → vol x ≡ true → any_sync vol c.pending ≡ false
  load_parted a x e v = parted r f SL (keeps_sl m) (rw e v)

  -- what the target permits, so does the source machine
  op_permits : (o : Op) → s.oper ≡ o → permits (Target m) vol c (aim (start ps) o) ≡ true
      → permits Source vol c o ≡ true
  op_permits (Set a n) e h = h
  op_permits (Add a b) e h = h
  op_permits (Load a x) e h = go (vol x) refl
    where
      go : (b : Bool) → vol x ≡ b → permits Source vol c (Load a x) ≡ true
      go false v = rw v
      go true v = rw (v, load_parted a x e v)
  op_permits (Store a x) e h = h
  op_permits (Lock l) e h =
      let p = and_true (is_nil c.pending) (eqb (get_or c.locks l 0) 0) h in
      rw (nil_sync vol c.pending p.0, p.1)
  op_permits (Unlock l) e h = h
  op_permits (Skip a t) e h = h

  -- and a LOAD takes the same value
  same_value : (a x : ℕ) → s.oper ≡ Load a x → value_of (Target m) vol c x ≡ value_of Source vol c x
  same_value a x e = go (vol x) refl
    where
      go : (b : Bool) → vol x ≡ b → value_of (Target m) vol c x ≡ value_of Source vol c x
      go false v = rw v
      go true v = rw (v, newest_sync vol x (get_or c.memory x 0) c.pending v (load_parted a x e v))

  same_loads : (o : Op) → s.oper ≡ o → loads (Target m) vol c (aim (start ps) o) ≡ loads Source vol c o
  same_loads (Set a n) e = refl
  same_loads (Add a b) e = refl
  same_loads (Load a x) e = ap some (same_value a x e)
  same_loads (Store a x) e = refl
  same_loads (Lock l) e = refl
  same_loads (Unlock l) e = refl
  same_loads (Skip a t) e = refl

  same_core : (w : ℕ) (o : Op) → s.oper ≡ o
      → core_after (Target m) vol w c (aim (start ps) o) ≡ core_after Source vol w c o
  same_core w (Set a n) e = refl
  same_core w (Add a b) e = refl
  same_core w (Load a x) e =
      ap (λ v. record { regs = update c.regs a v; pending = c.pending; memory = c.memory; locks = c.locks })
      (same_value a x e)
  same_core w (Store a x) e = refl
  same_core w (Lock l) e = refl
  same_core w (Unlock l) e = refl
  same_core w (Skip a t) e = refl

  -- where both lanes stand after the operation
  after_stands : (o : Op) → s.oper ≡ o → permits (Target m) vol c (aim (start ps) o) ≡ true
      → Stands m vol ps (next c o i.pos) (goto k (next c (aim (start ps) o) k.pos))
      (append_entry c.pending (emit c o))
  after_stands (Set a n) e h = onwards r (rw e)
  after_stands (Add a b) e h = onwards r (rw e)
  after_stands (Load a x) e h = onwards r (rw e)
  after_stands (Store a x) e h = appended r f (write x (reg c a)) (rw e) (rw e) (rw e)
  after_stands (Lock l) e h = locked_on r (and_true (is_nil c.pending) (eqb (get_or c.locks l 0) 0) h).0
  after_stands (Unlock l) e h = appended r f (release l) (rw e) (rw e) (rw e)
  after_stands (Skip a t) e h = go (eqb (reg c a) 0)
    where
      go : (b : Bool)
          → Stands m vol ps (cond b t (suc i.pos)) (goto k (cond b (start ps t) (suc k.pos))) c.pending
      go true = lands r a t e
      go false = onwards r (rw e)

  op_effect : (w : ℕ) (o : Op) → s.oper ≡ o → permits (Target m) vol c (aim (start ps) o) ≡ true
      → Agrees m vol ps i.pos c (effect (Target m) vol w k c (aim (start ps) o)) (effect Source vol w i c o)
  op_effect w o e h =
      both_act (holds w c o) (goto i (next c o i.pos)) (goto k (next c (aim (start ps) o) k.pos))
      (aim_blind (holds w c) (λ a t u. refl) (start ps) o) (same_core w o e) (same_loads o e) (after_stands o e h)

  pub op_agrees : (w : ℕ) (o : Op) → s.oper ≡ o
      → Agrees m vol ps i.pos c (execute (Target m) vol w k c (some (op (aim (start ps) o))))
      (execute Source vol w i c (some (op o)))
  op_agrees w o e = go (permits (Target m) vol c (aim (start ps) o)) refl
    where
      go : (b : Bool) → permits (Target m) vol c (aim (start ps) o) ≡ b
          → Agrees m vol ps i.pos c (execute (Target m) vol w k c (some (op (aim (start ps) o))))
          (execute Source vol w i c (some (op o)))
      go false h = rw h wait
      go true h = rw (h, op_permits o e h) (op_effect w o e h)
