-- The placement fences the lanes of each target: what the paper's sentence comes to for the matching.
use mathlib.Core.Path.{◌≡◌, refl, ap, ◌∙◌, sym, subst}
use mathlib.Core.Bool.{Bool, true, false, ◌&&◌, false≢true}
use mathlib.Core.List.{List}
use mathlib.Core.Logic.{inl, inr}
use mathlib.Core.Option.{some}
use Prim.Native.Nat.{ℕ, ◌<◌}
use lib.ListN.{get_elem?, length}
use Rattle.laws.proofs.Lists.{some_at, getElem?-map, map-some}
use Rattle.file_format.specs.declared.accepted.Op.{Op}
use Rattle.file_format.specs.declared.accepted.Op.TheVariants.{Set, Add, Load, Store, Lock, Unlock, Skip}
use Rattle.barrier_placement.specs.declared.cookbook.Class.{Class}
use Rattle.barrier_placement.specs.declared.cookbook.Class.TheVariants.{PS, VL, VS}
use Rattle.barrier_placement.specs.declared.cookbook.Barrier.{Barrier}
use Rattle.barrier_placement.specs.declared.cookbook.Barrier.TheVariants.{LL, LS, SS, SL}
use Rattle.barrier_placement.specs.declared.steps.Step.TheVariants.{Access, Other, Skip as SkipStep}
use Rattle.barrier_placement.specs.Cookbook.{cell}
use Rattle.barrier_placement.specs.Chain.{Chain, at, Next, Path, edge, more, Between, Forward}
use Rattle.file_format.specs.Accepted.{jump}
use Rattle.barrier_placement.specs.Steps.{class_of, step_of, steps}
use Rattle.barrier_placement.specs.Place.{stands}
use Rattle.barrier_placement.specs.Sentence.{Sentence}
use Rattle.barrier_placement.proofs.Correct.{correct}
use Rattle.barrier_placement.specs.Layout.{Placed, operations, before_of}
use Rattle.sheet_format.specs.Layout.{has}
use Rattle.sheet_format.specs.declared.Level.{Level}
use Rattle.sheet_format.specs.Levels.{drains, placed}
use Rattle.sheet_format.specs.Items.{operation_at, keeps_at}
use Rattle.sheet_format.proofs.PlacedLanes.{placed_operations}
use Rattle.sheet_format.proofs.Before.{has_chosen, placed_before}
use Rattle.machine_spec.specs.declared.Model.{Model}
use Rattle.machine_spec.specs.declared.Machine.TheVariants.{Target}
use Rattle.machine_spec.specs.Run.{level_of}
use Rattle.claims.specs.Direct.{appends}
use Rattle.claims.proofs.Fenced.{publishes, acquires, opens, needs, Edge, falls, jumps}
use Rattle.claims.proofs.Fenced.{Open, starts, goes_on, Fenced, AllFenced}

-- ## the paper's sentence

published : (vol : ℕ → Bool) (o : Op) → publishes vol o ≡ true → class_of vol o ≡ some VS
published vol (Set a c) h = absurd (false≢true h)
published vol (Add a b) h = absurd (false≢true h)
published vol (Load a x) h = absurd (false≢true h)
published vol (Store a x) h = rw h
published vol (Lock l) h = absurd (false≢true h)
published vol (Unlock l) h = refl
published vol (Skip a t) h = absurd (false≢true h)

-- a store, plain or volatile, or an UNLOCK
appended : (vol : ℕ → Bool) (o : Op) → appends o ≡ true
    → (c : Class) × (class_of vol o ≡ some c) × (cell c VS ≡ some SS)
appended vol (Set a c) h = absurd (false≢true h)
appended vol (Add a b) h = absurd (false≢true h)
appended vol (Load a x) h = absurd (false≢true h)
appended vol (Store a x) h = go (vol x) refl
  where
    go : (b : Bool) → vol x ≡ b → (c : Class) × (class_of vol (Store a x) ≡ some c) × (cell c VS ≡ some SS)
    go true v = (VS, rw v, refl)
    go false v = (PS, rw v, refl)
appended vol (Lock l) h = absurd (false≢true h)
appended vol (Unlock l) h = (VS, refl, refl)
appended vol (Skip a t) h = absurd (false≢true h)

acquired : (vol : ℕ → Bool) (o : Op) → acquires vol o ≡ true → class_of vol o ≡ some VL
acquired vol (Set a c) h = absurd (false≢true h)
acquired vol (Add a b) h = absurd (false≢true h)
acquired vol (Load a x) h = rw h
acquired vol (Store a x) h = absurd (false≢true h)
acquired vol (Lock l) h = refl
acquired vol (Unlock l) h = absurd (false≢true h)
acquired vol (Skip a t) h = absurd (false≢true h)

-- an operation that opens b and one that needs it are accesses whose cell is b
parted_pair : (b : Barrier) (vol : ℕ → Bool) (o o' : Op) → opens b vol o ≡ true → needs b vol o' ≡ true
    → (c : Class) × (d : Class) × (class_of vol o ≡ some c) × (class_of vol o' ≡ some d) × (cell c d ≡ some b)
parted_pair LL vol o o' h n = absurd (false≢true h)
parted_pair LS vol o o' h n = absurd (false≢true h)
parted_pair SS vol o o' h n = let f = appended vol o h in (f.0, VS, f.1, published vol o' n, f.2)
parted_pair SL vol o o' h n = (VS, VL, published vol o h, acquired vol o' n, refl)

-- what needs a barrier is no LOCK
flows_unless : (f : Op → Bool) → ((l : ℕ) → f (Lock l) ≡ false) → (o : Op) → f o ≡ true → drains o ≡ false
flows_unless f never (Set a c) h = refl
flows_unless f never (Add a b) h = refl
flows_unless f never (Load a x) h = refl
flows_unless f never (Store a x) h = refl
flows_unless f never (Lock l) h = absurd (false≢true (sym (never l) ∙ h))
flows_unless f never (Unlock l) h = refl
flows_unless f never (Skip a t) h = refl

needs_flows : (b : Barrier) (vol : ℕ → Bool) (o : Op) → needs b vol o ≡ true → drains o ≡ false
needs_flows LL vol o h = absurd (false≢true h)
needs_flows LS vol o h = absurd (false≢true h)
needs_flows SS vol o h = flows_unless (publishes vol) (λ l. refl) o h
needs_flows SL vol o h = flows_unless (acquires vol) (λ l. refl) o h

access_step : (vol : ℕ → Bool) (o : Op) (c : Class) → class_of vol o ≡ some c → step_of vol o ≡ Access c
access_step vol o c e = rw e

jump_step : (vol : ℕ → Bool) (o : Op) (t : ℕ) → jump o ≡ some t → step_of vol o ≡ SkipStep t
jump_step vol (Set a c) t e = cc
jump_step vol (Add a b) t e = cc
jump_step vol (Load a x) t e = cc
jump_step vol (Store a x) t e = cc
jump_step vol (Lock l) t e = cc
jump_step vol (Unlock l) t e = cc
jump_step vol (Skip a u) t e = cc

-- a placement that has the sentence fences
module _ (b : Barrier) (vol : ℕ → Bool) (ps : List (Placed Op)) (B : ℕ → Bool)
    (stand : (p : ℕ) (s : Placed Op) → get_elem? ps p ≡ some s → drains s.oper ≡ false → has b s.before ≡ B p)
    (sentence : Sentence (steps vol (operations ps)) b B) where
  abbrev chain : Chain
  chain = steps vol (operations ps)

  step_at : (i : ℕ) (s : Placed Op) → get_elem? ps i ≡ some s → (i < length chain) × (at chain i ≡ step_of vol s.oper)
  step_at i s e =
      some_at chain i (step_of vol s.oper) Other
      (rw (getElem?-map (step_of vol) (operations ps) i, getElem?-map (λ (z : Placed Op). z.oper) ps i, e))

  -- the way to an open position
  record Way (p : ℕ) : Type 0 where
    from : ℕ
    first : Op
    earlier : at chain from ≡ step_of vol first
    raises : opens b vol first ≡ true
    path : Path (Next chain) from p
    clear : (k : ℕ) → Between path k → B k ≡ false

  step : (i p : ℕ) (s : Placed Op) → get_elem? ps i ≡ some s → Edge ps i p → Next chain i p
  step i p s e falls = ((step_at i s e).0, inl refl)
  step i p s e (jumps s' e' j) = ((step_at i s e).0, inr ((step_at i s' e').1 ∙ jump_step vol s'.oper p j))

  way : (p : ℕ) → Open b vol ps p → Way p
  way p (starts {i = i} s e raised w) = record {
    from = i;
    first = s.oper;
    earlier = (step_at i s e).1;
    raises = raised;
    path = edge (step i p s e w);
    clear = λ k z. absurd z;
  }
  way p (goes_on {i = i} s rest e none_here nd w) = go (way i rest)
    where
      go : Way i → Way p
      go x = record {
        from = x.from;
        first = x.first;
        earlier = x.earlier;
        raises = x.raises;
        path = more x.path (step i p s e w);
        clear = λ k z. elim z [
          | inl z' ↦ x.clear k z'
          | inr z' ↦ subst (λ (n : ℕ). B n ≡ false) (sym z')
              (sym (stand i s e nd) ∙ none_here)
        ];
      }

  sentence_fenced : Fenced b vol ps
  sentence_fenced p s e need o =
      let x = way p o in
      let f = parted_pair b vol x.first s.oper x.raises need in
      stand p s e (needs_flows b vol s.oper need) ∙ (sentence p).1 (record {
        from = x.from;
        pair = record {
          first = f.0;
          second = f.1;
          earlier = x.earlier ∙ access_step vol x.first f.0 f.2;
          later = (step_at p s e).1 ∙ access_step vol s.oper f.1 f.3;
          calls = f.4;
        };
        path = x.path;
        clear = x.clear;
      })

-- the lanes of a target's level, on every chain whose skips go forward
pub placed_fenced : (m : Model) (vol : ℕ → Bool) (ops : List Op) → Forward (steps vol ops)
    → AllFenced m vol (placed (level_of (Target m)) vol ops)
placed_fenced m vol ops forward b v =
    sentence_fenced b vol (placed l vol ops) (stands (steps vol ops) b) stand
    (subst (λ (os : List Op). Sentence (steps vol os) b (stands (steps vol ops) b))
    (sym (placed_operations l (steps vol ops) 0 ops))
    (correct (steps vol ops) b forward))
  where
    l : Level
    l = level_of (Target m)

    stand : (p : ℕ) (x : Placed Op) → get_elem? (placed l vol ops) p ≡ some x → drains x.oper ≡ false
        → has b x.before ≡ stands (steps vol ops) b p
    stand p x e flows =
        ap (λ y. has b (before_of y)) (sym e) ∙ ap (has b) (placed_before l vol ops p)
        ∙ has_chosen (λ a. keeps_at l ops a p && stands (steps vol ops) a p) b ∙ rw (here, v x.oper flows)
      where
        here : operation_at ops p ≡ x.oper
        here =
            (some_at ops p x.oper (Set 0 0) (subst (λ os. get_elem? os p ≡ some x.oper)
            (placed_operations l (steps vol ops) 0 ops) (map-some (λ y. y.oper) (placed l vol ops) p x e))).1
