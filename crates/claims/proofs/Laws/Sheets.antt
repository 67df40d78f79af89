-- Where things stand in a sheet: the barriers and the operation of each place of the chain.
use mathlib.Core.Path.{◌≡◌, refl, sym, ap, ◌∙◌, subst}
use mathlib.Core.List.{List, [], ◌∷◌, ◌++◌, map}
use mathlib.Core.Option.{Option, none, some}
use Prim.Native.Nat.{ℕ, zero, suc, ◌+◌, ◌≤◌, ◌<◌}
use native.Mathlib.Nat.{zero-add, suc-add, le_refl, not-suc-le-zero}
use native.Mathlib.Decide.{dec_lt}
use native.Mathlib.Omega.{arith}
use lib.ListN.{length, get_or, get_elem?, length-map}
use Rattle.laws.proofs.Bools.{or_false}
use Rattle.laws.proofs.Lists.{some_at, at_some, getElem?-map, map-some}
use Rattle.file_format.specs.declared.accepted.Op.{Op}
use Rattle.file_format.specs.declared.accepted.Op.TheVariants.{Set}
use Rattle.barrier_placement.specs.declared.cookbook.Barrier.{Barrier}
use Rattle.barrier_placement.specs.declared.cookbook.Barrier.TheVariants.{LL}
use Rattle.barrier_placement.specs.Cookbook.{same}
use Rattle.barrier_placement.specs.Layout.{Placed, operations, before_of, barriers_at, start, op_at}
use Rattle.barrier_placement.proofs.Laws.Layout.{start_suc, regroup, Located, locate, fetch_over, at_barrier, at_op}
use Rattle.barrier_placement.proofs.Laws.Layout.{at_end}
use Rattle.sheet_format.specs.Layout.{Instr, op, barrier, aim, cells, sheet, rank, has}
use Rattle.sheet_format.specs.Items.{operation_at}
use mathlib.Core.Bool.{false}
use Rattle.machine_spec.specs.View.{is_none}

pub has_snoc : (b : Barrier) (bs : List Barrier) (x : Barrier) → has b bs ≡ false → same b x ≡ false
    → has b (bs ++ (x ∷ [])) ≡ false
has_snoc b [] x h e = rw e
has_snoc b (y ∷ bs) x h e =
    let k = or_false (same b y) (has b bs) h in
    rw k.0 (has_snoc b bs x k.1 e)

rank_over : (bs : List Barrier) (o : Op) (is : List Instr) (n : ℕ)
    → rank (map barrier bs ++ op o ∷ is) (length bs + suc n) ≡ suc (rank is n)
rank_over [] o is n = rw zero-add
rank_over (b ∷ bs) o is n = rw suc-add (rank_over bs o is n)

rank_within : (bs : List Barrier) (o : Op) (is : List Instr) (j : ℕ) → j ≤ length bs
    → rank (map barrier bs ++ op o ∷ is) j ≡ 0
rank_within [] o is zero h = refl
rank_within [] o is (suc j) h = absurd (not-suc-le-zero h)
rank_within (b ∷ bs) o is zero h = refl
rank_within (b ∷ bs) o is (suc j) h = rank_within bs o is j (omega arith)

-- without barriers each position is counted
rank_chain : (os : List Op) (p : ℕ) → p ≤ length os → rank (map op os) p ≡ p
rank_chain [] p h = omega arith
rank_chain (o ∷ os) zero h = refl
rank_chain (o ∷ os) (suc p) h = ap suc (rank_chain os p (omega arith))

fetch_within : (bs : List Barrier) (o : Op) (is : List Instr) (j : ℕ) → j ≤ length bs
    → is_none (get_elem? (map barrier bs ++ op o ∷ is) j) ≡ false
fetch_within [] o is zero h = refl
fetch_within [] o is (suc j) h = absurd (not-suc-le-zero h)
fetch_within (b ∷ bs) o is zero h = refl
fetch_within (b ∷ bs) o is (suc j) h = fetch_within bs o is j (omega arith)

module _ (r : ℕ → ℕ) where
  -- positions with barriers not counted
  pub rank_cells : (ps : List (Placed Op)) (p j : ℕ) → j ≤ length (barriers_at ps p)
      → rank (cells r ps) (start ps p + j) ≡ rank (map op (operations ps)) p
  rank_cells [] p j h = refl
  rank_cells (s ∷ ss) zero j h = rw zero-add (rank_within s.before _ _ j h)
  rank_cells (s ∷ ss) (suc p) j h =
      rw (regroup (length s.before) (start ss p) j) (rank_over s.before _ _ _ ∙ ap suc (rank_cells ss p j h))

  pub rank_op : (ps : List (Placed Op)) (p : ℕ) → p < length ps → rank (cells r ps) (op_at ps p) ≡ p
  rank_op ps p h =
      rank_cells ps p (length (barriers_at ps p)) (le_refl _)
      ∙ rank_chain (operations ps) p (omega (arith, length-map ps (λ (x : Placed Op). x.oper)))

  pub ended_cells : (ps : List (Placed Op)) (p j : ℕ) → j ≤ length (barriers_at ps p)
      → is_none (get_elem? (cells r ps) (start ps p + j)) ≡ is_none (get_elem? (map op (operations ps)) p)
  ended_cells [] p j h = refl
  ended_cells (s ∷ ss) zero j h = rw zero-add (fetch_within s.before _ _ j h)
  ended_cells (s ∷ ss) (suc p) j h =
      rw (regroup (length s.before) (start ss p) j)
      (ap is_none (fetch_over barrier s.before _ _ _) ∙ ended_cells ss p j h)

-- an operation in the sheet of ps
abbrev put : List (Placed Op) → Op → Instr
put ps o = op (aim (start ps) o)

-- the p-th operation and the barriers before it
module _ (ps : List (Placed Op)) (p : ℕ) (s : Placed Op) (e : get_elem? ps p ≡ some s) where
  pub oper_at : get_elem? (operations ps) p ≡ some s.oper
  oper_at = map-some (λ x. x.oper) ps p s e

  pub chain_at_lem : get_elem? (map op (operations ps)) p ≡ some (op s.oper)
  chain_at_lem = map-some op (operations ps) p s.oper oper_at

  pub barrier_at : (j : ℕ) → j < length s.before
      → get_elem? (sheet ps) (start ps p + j) ≡ some (barrier (get_or s.before j LL))
  barrier_at j h =
      at_barrier barrier (put ps) ps p j (rw e h) ∙ ap (λ x. some (barrier (get_or (before_of x) j LL))) e

  pub op_at_lem : get_elem? (sheet ps) (start ps p + length s.before) ≡ some (op (aim (start ps) s.oper))
  op_at_lem =
      ap (λ x. get_elem? (sheet ps) (start ps p + length (before_of x))) (sym e)
      ∙ at_op barrier (put ps) ps p ∙ map-some (put ps) (operations ps) p s.oper oper_at

  pub next_begins : start ps (suc p) ≡ suc (start ps p + length s.before)
  next_begins = start_suc ps p (some_at ps p s s e).0 ∙ ap (λ x. suc (start ps p + length (before_of x))) e

module _ (ps : List (Placed Op)) where
  -- the p-th operation, by its place alone
  pub op_fetched : (p : ℕ) → p < length ps
      → get_elem? (sheet ps) (op_at ps p) ≡ some (op (aim (start ps) (operation_at (operations ps) p)))
  op_fetched p h =
      at_op barrier (put ps) ps p
      ∙ map-some (put ps) (operations ps) p (operation_at (operations ps) p)
      (at_some (operations ps) p (Set 0 0) (omega (arith, length-map ps (λ (x : Placed Op). x.oper))))

  -- each operation of the sheet stands at such a place
  pub op_located : (x : ℕ) (o : Op) → get_elem? (sheet ps) x ≡ some (op o)
      → (p : ℕ) × (p < length ps) × (x ≡ op_at ps p)
  op_located x o e = go (dec_lt f.1 (length (barriers_at ps f.0)))
    where
      f : Located ps x
      f = locate barrier (put ps) ps x (some_at (sheet ps) x (op o) (op o) e).0

      go : Dec (f.1 < length (barriers_at ps f.0)) → (p : ℕ) × (p < length ps) × (x ≡ op_at ps p)
      go (yes h) =
          let b = at_barrier barrier (put ps) ps f.0 f.1 h in
          let z : ◌≡◌ {A = ℕ} 0 1 = cc f.4 in
          absurd (omega arith)
      go (no h) = (f.0, f.2, omega (arith, f.3, f.4))

-- what stands in a sheet, and the operation of the chain that is next there
pub data Here (r : ℕ → ℕ) : Option Instr → Option Op → Type 0 where
  end : Here r none none
  ahead : {b : Barrier} {o : Option Op} → Here r (some (barrier b)) o
  meet : {o : Op} → Here r (some (op (aim r o))) (some o)

-- past j of the barriers before the p-th operation
pub here : (ps : List (Placed Op)) (p j : ℕ) → j ≤ length (barriers_at ps p)
    → Here (start ps) (get_elem? (sheet ps) (start ps p + j)) (get_elem? (operations ps) p)
here ps p j le = go (get_elem? ps p) refl
  where
    go : (s : Option (Placed Op)) → get_elem? ps p ≡ s
        → Here (start ps) (get_elem? (sheet ps) (start ps p + j)) (get_elem? (operations ps) p)
    go none k =
        rw (at_end barrier (put ps) ps p j k, getElem?-map (λ (x : Placed Op). x.oper) ps p, k) end
    go (some s) k = reach (dec_lt j (length s.before))
      where
        reach : Dec (j < length s.before)
            → Here (start ps) (get_elem? (sheet ps) (start ps p + j)) (get_elem? (operations ps) p)
        reach (yes h) = rw (barrier_at ps p s k j h) ahead
        reach (no h) =
            let all : j ≡ length s.before = omega (arith, subst (λ o. j ≤ length (before_of o)) k le) in
            rw (all, op_at_lem ps p s k, oper_at ps p s k) meet
