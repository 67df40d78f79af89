-- A placed lane as placement sees it: barriers and steps, each SKIP aimed at its target's first barrier.
use Rattle.std.specs.Prelude.{ℕ, suc, ◌<◌, ◌≡◌, refl, Bool, true, false, ◌&&◌, List, [], ◌∷◌, ◌⊎◌, length, get_or}
use Rattle.std.proofs.Math.Option.{some}
use Rattle.std.proofs.Common.{inl, inr, arith}
use Rattle.barrier_placement.specs.Cookbook.{Class, VL, VS, Barrier, LS, SS, SL, cell}
use Rattle.barrier_placement.specs.Chain.{Step, Access, Skip, Other, Path, edge, more, Between}
use Rattle.barrier_placement.specs.Sentence.{Along}
use Rattle.barrier_placement.specs.Place.{chosen}
use Rattle.barrier_placement.specs.Layout.{Placed, start, op_at, layout}

-- an instruction of a lane
pub data Item : Type 0 where
  bar : Barrier → Item
  op : Step → Item

abbrev pub item : List Item → ℕ → Item
item t m = get_or t m (op Other)

-- control can go from m to m' in one step of the lane
abbrev pub NextItem : List Item → ℕ → ℕ → Type 0
NextItem t m m' = (m < length t) × ((m' ≡ suc m) ⊎ (item t m ≡ op (Skip m')))

-- a step whose target is renumbered
abbrev pub aim : (ℕ → ℕ) → Step → Step
aim r (Access c) = Access c
aim r (Skip t) = Skip (r t)
aim r Other = Other

-- the items of a placed lane, `step` being what placement sees of an operation: a SKIP lands on its target's first
-- barrier
abbrev pub items_of : {A : Type 0} → (A → Step) → List (Placed A) → List Item
items_of step ps = layout bar (λ a. op (aim (start ps) (step a))) ps

-- the SKIP lands at 2, on the first of two barriers
example : items_of (λ x. x) (
    record { before = []; oper = Access VL } ∷ record { before = []; oper = Skip 2 }
    ∷ record { before = LS ∷ SS ∷ []; oper = Access VS } ∷ [])
    ≡ op (Access VL) ∷ op (Skip 2) ∷ bar LS ∷ bar SS ∷ op (Access VS) ∷ []
example = refl

-- the barriers before each step that a level writes: place says where each stands, keeps which of them the level keeps
abbrev pub written : (Barrier → ℕ → Bool) → (Barrier → ℕ → Bool) → ℕ → List Barrier
written place keeps k = chosen (λ b. keeps b k && place b k)

-- the items at m and m' are accesses whose cell is b
pub record ItemPair (t : List Item) (b : Barrier) (m m' : ℕ) : Type 0 where
  pub first : Class
  pub second : Class
  pub earlier : item t m ≡ op (Access first)
  pub later : item t m' ≡ op (Access second)
  pub calls : cell first second ≡ some b

-- the item at m is the only b on some path between two accesses whose cell is b
pub record Alone (t : List Item) (b : Barrier) (m : ℕ) : Type 0 where
  pub from : ℕ
  pub to : ℕ
  pub pair : ItemPair t b from to
  pub path : Path (NextItem t) from to
  pub on : Between path m
  pub only : (x : ℕ) → Between path x → item t x ≡ bar b → x ≡ m

-- SL between VS and VL is needed
needed_holds : Alone (op (Access VS) ∷ bar SL ∷ op (Access VL) ∷ []) SL 1
needed_holds = record {
  from = 0;
  to = 2;
  pair = record { first = VS; second = VL; earlier = refl; later = refl; calls = refl };
  path = more (edge (omega arith, inl refl)) (omega arith, inl refl);
  on = inr refl;
  only = λ x on e. last on;
}
  where
    last : {x : ℕ} → ⊥ ⊎ (x ≡ 1) → x ≡ 1
    last (inl never) = absurd never
    last (inr e) = e

-- x is the position of an operation before which place has a b that the level leaves out
abbrev pub LeftOut : {A : Type 0} (ps : List (Placed A)) (place keeps : Barrier → ℕ → Bool) (b : Barrier) → ℕ → Type 0
LeftOut ps place keeps b x =
    (k : ℕ) × (k < length ps) × (x ≡ op_at ps k) × (place b k ≡ true) × (keeps b k ≡ false)

-- a b stands on the path, or an operation before which one is left out, the path's end counted
abbrev pub Meets : {A : Type 0} (step : A → Step) (ps : List (Placed A)) (place keeps : Barrier → ℕ → Bool)
    (b : Barrier) {m m' : ℕ} → Path (NextItem (items_of step ps)) m m' → Type 0
Meets step ps place keeps b π =
    ((x : ℕ) × Between π x × (item (items_of step ps) x ≡ bar b))
    ⊎ ((x : ℕ) × Along π x × LeftOut ps place keeps b x)

-- the item at m is the only b on some path, those left out counted too
abbrev pub Needed : {A : Type 0} (step : A → Step) (ps : List (Placed A)) (place keeps : Barrier → ℕ → Bool)
    (b : Barrier) → ℕ → Type 0
Needed step ps place keeps b m =
    (a : Alone (items_of step ps) b m) × ((x : ℕ) → Along a.path x → LeftOut ps place keeps b x → ⊥)
