-- Where a lane of a target stands beside the source lane that it matches, and where both stand after an operation.
use mathlib.Core.Path.{◌≡◌, refl, ap, ◌∙◌, sym, subst}
use mathlib.Core.Bool.{Bool, true, false, ◌||◌, false≢true}
use mathlib.Core.List.{List, [], ◌∷◌, ◌++◌}
use mathlib.Core.Option.{some}
use Prim.Native.Nat.{ℕ, suc, ◌+◌, ◌≤◌}
use native.Mathlib.Nat.{add-zero}
use native.Mathlib.Omega.{arith}
use borrow.Author.Tests.{not-false}
use lib.ListN.{length, get_elem?, take}
use Rattle.laws.proofs.Bools.{or_right}
use Rattle.file_format.specs.declared.accepted.Op.{Op}
use Rattle.file_format.specs.declared.accepted.Op.TheVariants.{Skip}
use Rattle.barrier_placement.specs.declared.cookbook.Barrier.{Barrier}
use Rattle.barrier_placement.specs.declared.cookbook.Barrier.TheVariants.{SS}
use Rattle.barrier_placement.specs.Layout.{Placed, barriers_at, start}
use Rattle.sheet_format.specs.Layout.{has}
use Rattle.machine_spec.specs.Entries.{Entry, is_sync, is_nil}
use Rattle.machine_spec.specs.declared.Model.{Model}
use Rattle.machine_spec.specs.declared.Model.TheVariants.{Tso, Pso}
use Rattle.machine_spec.specs.Step.{Control, Core, goto}
use Rattle.claims.specs.Direct.{appends}
use Rattle.sheet_format.specs.Levels.{drains}
use Rattle.claims.proofs.Fenced.{publishes, opens, needs, KeptAt, Edge, falls, jumps, Open, starts}
use Rattle.claims.proofs.Fenced.{goes_on, AllFenced}
use Rattle.claims.proofs.Laws.Sheets.{next_begins}
use Rattle.claims.proofs.Laws.Pending.{sealed, parted_snoc}
use Rattle.claims.proofs.Exposed.{exposed, exposed_nil, exposed_snoc, Ordered}

-- while something is exposed for want of a b, p is open for b, and no b is among those passed
abbrev pub Safe : Model → (ℕ → Bool) → List (Placed Op) → ℕ → ℕ → List Entry → List Barrier → Type 0
Safe m vol ps p marks es bs =
    (b : Barrier) → KeptAt m b → exposed b vol marks es ≡ true → Open b vol ps p × (has b bs ≡ false)

-- a lane of the target m at k stands where a source lane at p does: past some of the barriers before p
pub record Stands (m : Model) (vol : ℕ → Bool) (ps : List (Placed Op)) (p : ℕ) (k : Control) (es : List Entry) : Type 0
  where
    pub passed : ℕ
    pub place : k.pos ≡ start ps p + passed
    pub within : passed ≤ length (barriers_at ps p)
    pub safe : Safe m vol ps p k.marks es (take passed (barriers_at ps p))
    pub ordered : Ordered m vol k.marks es

-- past all of them: at the operation of s, where the source lane stands at i
pub record Reached (m : Model) (vol : ℕ → Bool) (ps : List (Placed Op)) (i k : Control) (c : Core) (s : Placed Op)
    : Type 0 where
  pub here : get_elem? ps i.pos ≡ some s
  pub place : k.pos ≡ start ps i.pos + length s.before
  pub safe : Safe m vol ps i.pos k.marks c.pending s.before
  pub ordered : Ordered m vol k.marks c.pending

module _ {m : Model} {vol : ℕ → Bool} {ps : List (Placed Op)} where
  -- at the first barrier of p
  fresh : (p : ℕ) (k : Control) (es : List Entry) → k.pos ≡ start ps p
      → ((b : Barrier) → KeptAt m b → exposed b vol k.marks es ≡ true → Open b vol ps p)
      → Ordered m vol k.marks es → Stands m vol ps p k es
  fresh p k es at h q = record {
    passed = 0;
    place = at ∙ sym (add-zero (start ps p));
    within = omega arith;
    safe = λ b v e. (h b v e, refl);
    ordered = q;
  }

  module _ {i k : Control} {c : Core} {s : Placed Op} (r : Reached m vol ps i k c s) where
    -- what is exposed after the operation leaves each way on open
    leads : drains s.oper ≡ false → (p' : ℕ) → Edge ps i.pos p' → (b : Barrier) → KeptAt m b
        → opens b vol s.oper || exposed b vol k.marks c.pending ≡ true → Open b vol ps p'
    leads nd p' way b v e = go (opens b vol s.oper) refl
      where
        go : (x : Bool) → opens b vol s.oper ≡ x → Open b vol ps p'
        go true h = starts s r.here h way
        go false h =
            let old : exposed b vol k.marks c.pending ≡ true = rw h at e in
            goes_on s (r.safe b v old).0 r.here (r.safe b v old).1 nd way

    following : suc k.pos ≡ start ps (suc i.pos)
    following = ap suc r.place ∙ sym (next_begins ps i.pos s r.here)

    -- with the same entries pending
    pub onwards : drains s.oper ≡ false → Stands m vol ps (suc i.pos) (goto k (suc k.pos)) c.pending
    onwards nd =
        fresh (suc i.pos) (goto k (suc k.pos)) c.pending following
        (λ b v e. leads nd _ falls b v (or_right (opens b vol s.oper) _ e)) r.ordered

    pub lands : (a t : ℕ) → s.oper ≡ Skip a t → Stands m vol ps t (goto k (start ps t)) c.pending
    lands a t e =
        fresh t (goto k (start ps t)) c.pending refl
        (λ b v x. leads (rw e) t (jumps s r.here (rw e)) b v (or_right (opens b vol s.oper) _ x)) r.ordered

    -- after a LOCK nothing is exposed
    pub locked_on : is_nil c.pending ≡ true → Stands m vol ps (suc i.pos) (goto k (suc k.pos)) c.pending
    locked_on nil =
        fresh (suc i.pos) (goto k (suc k.pos)) c.pending following
        (λ b v e. absurd (false≢true (sym (exposed_nil b vol k.marks c.pending nil) ∙ e))) r.ordered

    -- what an operation needs parted from it is
    pub parted : AllFenced m vol ps → (b : Barrier) → KeptAt m b → needs b vol s.oper ≡ true
        → exposed b vol k.marks c.pending ≡ false
    parted f b v n = go (exposed b vol k.marks c.pending) refl
      where
        go : (x : Bool) → exposed b vol k.marks c.pending ≡ x → exposed b vol k.marks c.pending ≡ false
        go false h = h
        go true h = let g = r.safe b v h in absurd (false≢true (sym g.1 ∙ f b v i.pos s r.here n g.0))

    -- a volatile store or UNLOCK that is appended on pso follows a mark
    still_ordered : AllFenced m vol ps → (e : Entry) → is_sync vol e ≡ publishes vol s.oper → (m' : Model) → m' ≡ m
        → Ordered m' vol k.marks c.pending → Ordered m' vol k.marks (c.pending ++ (e ∷ []))
    still_ordered f e y Tso same q = tt
    still_ordered f e y Pso same q =
        let keeps : KeptAt m SS = subst (λ x. KeptAt x SS) same (λ o flows. refl) in
        parted_snoc vol k.marks c.pending e
        (λ x. not-false (sealed (length c.pending) k.marks) (parted f SS keeps (sym y ∙ x))) q

    -- with one more pending
    pub appended : AllFenced m vol ps → (e : Entry) → appends s.oper ≡ true → drains s.oper ≡ false
        → is_sync vol e ≡ publishes vol s.oper
        → Stands m vol ps (suc i.pos) (goto k (suc k.pos)) (c.pending ++ (e ∷ []))
    appended f e a nd y =
        fresh (suc i.pos) (goto k (suc k.pos)) _ following
        (λ b v x. leads nd _ falls b v (exposed_snoc b vol k.marks c.pending e s.oper a y x))
        (still_ordered f e y m refl r.ordered)
