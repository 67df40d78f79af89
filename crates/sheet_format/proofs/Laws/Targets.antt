-- Every SKIP of a chain leads to a position of the chain, or to its end.
use Prim.Native.Nat.{ℕ, ◌+◌, ◌≤◌, ◌<◌}
use mathlib.Core.Path.{◌≡◌, refl, sym, ap, ◌∙◌}
use mathlib.Core.Bool.{Bool, true, false, cond}
use mathlib.Core.List.{List}
use mathlib.Core.Option.{none, some}
use native.Mathlib.Omega.{arith}
use lib.Dec.{eqb}
use lib.ListN.{length, get_or, get_elem?, drop, length-drop}
use Rattle.laws.proofs.Lists.{some_at}
use Rattle.file_format.specs.declared.accepted.Op.{Op}
use Rattle.file_format.specs.declared.accepted.Op.TheVariants.{Set, Add, Load, Store, Lock, Unlock, Skip}
use Rattle.file_format.specs.Fields.{operation, register_a, operand_b, constant, target}
use Rattle.file_format.specs.Targets.{position}
use Rattle.file_format.specs.Accepted.{op_by, op_of, ops_of, jump}
use Rattle.file_format.specs.Lawful.{LawfulLane}
use Rattle.file_format.specs.Stored.{no_op}
use Rattle.file_format.proofs.Laws.Accepted.{ops_of_at}
use Rattle.file_format.proofs.Laws.Stored.{ops_from_length}
use Rattle.file_format.proofs.Laws.Targets.{position_le}
use Rattle.sheet_format.specs.Items.{TargetsWithin}

-- of a lawful lane
pub targets_within : {ls ks : ℕ} {os : List Op} → LawfulLane ls ks os → TargetsWithin (length os) os
targets_within {ls} {ks} {os} w p o t e j = go o e j
  where
    go : (o : Op) → get_elem? os p ≡ some o → jump o ≡ some t → t ≤ length os
    go (Set a c) e j = let z : ◌≡◌ {A = ℕ} 0 1 = cc in absurd (omega arith)
    go (Add a b) e j = let z : ◌≡◌ {A = ℕ} 0 1 = cc in absurd (omega arith)
    go (Load a x) e j = let z : ◌≡◌ {A = ℕ} 0 1 = cc in absurd (omega arith)
    go (Store a x) e j = let z : ◌≡◌ {A = ℕ} 0 1 = cc in absurd (omega arith)
    go (Lock l) e j = let z : ◌≡◌ {A = ℕ} 0 1 = cc in absurd (omega arith)
    go (Unlock l) e j = let z : ◌≡◌ {A = ℕ} 0 1 = cc in absurd (omega arith)
    go (Skip a u) e j = let same : u ≡ t = cc in rw (← same) (w.bounded p (Skip a u) e).2

-- an operation that a test picks, of which the first jumps nowhere
past : (b : Bool) (x y : Op) {t : ℕ} → jump x ≡ none → jump (cond b x y) ≡ some t → jump y ≡ some t
past true x y n e = let z : ◌≡◌ {A = ℕ} 0 1 = cc in absurd (omega arith)
past false x y n e = e

-- the operation of a code jumps nowhere but to its target
jump_by : (op a b c q : ℕ) {t : ℕ} → jump (op_by op a b c q) ≡ some t → q ≡ t
jump_by op a b c q e =
    let e1 = past (eqb op 1) (Set a c) _ refl e in
    let e2 = past (eqb op 2) (Add a b) _ refl e1 in
    let e3 = past (eqb op 3) (Load a b) _ refl e2 in
    let e4 = past (eqb op 4) (Store a b) _ refl e3 in
    let e5 = past (eqb op 5) (Lock b) _ refl e4 in
    let e6 = past (eqb op 6) (Unlock b) (Skip a q) refl e5 in
    cc

-- of a file's records
pub targets_inside : (s rs : List ℕ) → TargetsWithin (length rs) (ops_of s rs)
unfolding op_of
targets_inside s rs p o t e j =
    let here = some_at (ops_of s rs) p o no_op e in
    let inside : p < length rs = omega (arith, here.0, ops_from_length s 0 rs) in
    let r = get_or rs p 0 in
    let rest = drop (p + 1) rs in
    let at : p + 1 + position (target s r) rest ≡ t =
    jump_by (operation s r) (register_a s r) (operand_b s r) (constant s r) (p + 1 + position (target s r) rest)
    (ap jump (sym (ops_of_at s rs p no_op inside) ∙ here.1) ∙ j) in
    omega (arith, at, position_le (target s r) rest, length-drop (p + 1) rs)
