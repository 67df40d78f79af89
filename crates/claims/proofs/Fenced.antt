-- The one fact on barriers that the matching needs: a barrier parts each pair that it has to part.
use mathlib.Core.Path.{◌≡◌}
use mathlib.Core.Bool.{Bool, true, false}
use mathlib.Core.List.{List, map}
use mathlib.Core.Option.{some}
use Prim.Native.Nat.{ℕ, suc}
use lib.ListN.{get_elem?}
use Rattle.file_format.specs.declared.accepted.Op.{Op}
use Rattle.file_format.specs.declared.accepted.Op.TheVariants.{Set, Add, Load, Store, Lock, Unlock, Skip}
use Rattle.barrier_placement.specs.declared.cookbook.Barrier.{Barrier}
use Rattle.barrier_placement.specs.declared.cookbook.Barrier.TheVariants.{LL, LS, SS, SL}
use Rattle.file_format.specs.Accepted.{jump}
use Rattle.barrier_placement.specs.Layout.{Placed, operations}
use Rattle.sheet_format.specs.Layout.{Instr, op, sheet, has}
use Rattle.sheet_format.specs.Levels.{drains, keeps}
use Rattle.machine_spec.specs.declared.Machine.TheVariants.{Target}
use Rattle.machine_spec.specs.declared.Model.{Model}
use Rattle.machine_spec.specs.Run.{level_of}
use Rattle.claims.specs.Direct.{appends}

-- the programs of the source machine and of a target, of lanes with their barriers
abbrev pub kernel_program : List (List (Placed Op)) → List (List Instr)
kernel_program = map (λ ps. map op (operations ps))

abbrev pub sheet_program : List (List (Placed Op)) → List (List Instr)
sheet_program = map sheet

-- volatile store or UNLOCK
abbrev pub publishes : (ℕ → Bool) → Op → Bool
publishes vol (Set a c) = false
publishes vol (Add a b) = false
publishes vol (Load a x) = false
publishes vol (Store a x) = vol x
publishes vol (Lock l) = false
publishes vol (Unlock l) = true
publishes vol (Skip a t) = false

-- volatile load
abbrev pub acquires : (ℕ → Bool) → Op → Bool
acquires vol (Set a c) = false
acquires vol (Add a b) = false
acquires vol (Load a x) = vol x
acquires vol (Store a x) = false
acquires vol (Lock l) = false
acquires vol (Unlock l) = false
acquires vol (Skip a t) = false

-- is the operation the earlier one of a pair that b parts
abbrev pub opens : Barrier → (ℕ → Bool) → Op → Bool
opens LL vol o = false
opens LS vol o = false
opens SS vol o = appends o
opens SL vol o = publishes vol o

-- is it the later one; LOCK, which drains, apart
abbrev pub needs : Barrier → (ℕ → Bool) → Op → Bool
needs LL vol o = false
needs LS vol o = false
needs SS vol o = publishes vol o
needs SL vol o = acquires vol o

-- a way of one step from position p
pub data Edge (ps : List (Placed Op)) : ℕ → ℕ → Type 0 where
  falls : {p : ℕ} → Edge ps p (suc p)
  jumps : {p t : ℕ} (s : Placed Op) → get_elem? ps p ≡ some s → jump s.oper ≡ some t → Edge ps p t

-- some path leads to p from an operation that opens b, with no b before an operation strictly between, and no LOCK
-- there
pub data Open (b : Barrier) (vol : ℕ → Bool) (ps : List (Placed Op)) : ℕ → Type 0 where
  starts : {i p : ℕ} (s : Placed Op) → get_elem? ps i ≡ some s → opens b vol s.oper ≡ true → Edge ps i p
      → Open b vol ps p
  goes_on : {i p : ℕ} (s : Placed Op) → Open b vol ps i → get_elem? ps i ≡ some s → has b s.before ≡ false
      → drains s.oper ≡ false → Edge ps i p → Open b vol ps p

-- b stands before each operation that needs it and that such a path leads to
abbrev pub Fenced : Barrier → (ℕ → Bool) → List (Placed Op) → Type 0
Fenced b vol ps =
    (p : ℕ) (s : Placed Op) → get_elem? ps p ≡ some s → needs b vol s.oper ≡ true → Open b vol ps p
    → has b s.before ≡ true

-- the level keeps b before every operation that does not drain
abbrev pub KeptAt : Model → Barrier → Type 0
KeptAt m b = (o : Op) → drains o ≡ false → keeps (level_of (Target m)) o b ≡ true

abbrev pub AllFenced : Model → (ℕ → Bool) → List (Placed Op) → Type 0
AllFenced m vol ps = (b : Barrier) → KeptAt m b → Fenced b vol ps
