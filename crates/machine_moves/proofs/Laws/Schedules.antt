-- Laws of the first moves of a slice of move structs.
use Prim.Native.Nat.{ℕ, suc, ◌^◌, ◌<◌}
use mathlib.Core.Path.{◌≡◌, refl, sym, ap, subst, ◌∙◌}
use mathlib.Core.List.{List, [], ◌∷◌, ◌++◌}
use native.Mathlib.Omega.{arith}
use lib.ListN.{length, get_or, take, length-map, length-take}
use lib.Seq.{take-suc}
use Rattle.machine_spec.specs.Schedule.{Move, move}
use Rattle.machine_spec.specs.declared.Machine.{Machine}
use Rattle.machine_state.specs.States.{Blocks}
use Rattle.machine_course.specs.declared.moves.Move.{Move as Declared}
use Rattle.machine_course.specs.declared.course.Course.{Course}
use Rattle.machine_course.specs.Stands.{Stands, Standing}
use Rattle.machine_course.specs.Returned.{move_in, moves_of}
use Rattle.machine_moves.specs.Turns.{Fresh}

moves_of_snoc : (l : List Declared) (d : Declared) → moves_of (l ++ (d ∷ [])) ≡ moves_of l ++ (move_in d ∷ [])
moves_of_snoc [] d = refl
moves_of_snoc (x ∷ l) d = ap (λ r. move_in x ∷ r) (moves_of_snoc l d)

-- what the first i moves made of y and h
abbrev pub Made : List ℕ → List Declared → Course → Blocks → Course → Blocks → Type 0
Made rows ds y h x e = (s : List ℕ) (m : Machine) → Stands s m [] rows y h → Stands s m (moves_of ds) rows x e

-- what one move makes of x and e
abbrev pub Moves : List ℕ → Declared → Course → Blocks → Course → Blocks → Type 0
Moves rows d x e r z =
    (s : List ℕ) (m : Machine) (mvs : List Move) → Stands s m mvs rows x e
    → Stands s m (mvs ++ (move d.lane d.choice ∷ [])) rows r z

pub made_more : (rows : List ℕ) (ds : List Declared) (i : ℕ) (d : Declared) {y x r : Course} {h e z : Blocks}
    → i < length ds → Made rows (take i ds) y h x e → Moves rows (get_or ds i d) x e r z
    → Made rows (take (suc i) ds) y h r z
made_more rows ds i d {r = r} {z = z} l f g s m so =
    subst (λ mvs. Stands s m mvs rows r z) (sym (ap moves_of (take-suc ds i d l) ∙ moves_of_snoc (take i ds)
    (get_or ds i d)))
    (g s m (moves_of (take i ds)) (f s m so))

-- one more can be made
pub made_standing : (rows : List ℕ) (ds : List Declared) (i : ℕ) {y x : Course} {h e : Blocks} → i < 2 ^ 62
    → Fresh rows y h → Made rows (take i ds) y h x e → Standing rows x e
made_standing rows ds i l fresh f = record {
  file = fresh.file;
  machine = fresh.machine;
  moves = moves_of (take i ds);
  stands = f fresh.file fresh.machine fresh.stands;
  small = omega (arith, length-map (take i ds) move_in, length-take i ds);
}
