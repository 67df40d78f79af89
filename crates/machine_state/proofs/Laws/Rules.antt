-- Laws of the rules: what is pending, what is older, and what a commit on Sparc PSO needs.
use Prim.Native.Nat.{ℕ, zero, suc, ◌<◌}
use mathlib.Core.Path.{◌≡◌, refl, ap, sym, ◌∙◌}
use mathlib.Core.Bool.{Bool, not, ◌&&◌}
use mathlib.Core.List.{List, [], ◌∷◌}
use native.Mathlib.Omega.{arith}
use borrow.Author.Tests.{ne_eqb}
use lib.Dec.{eqb}
use lib.ListN.{length, get_or, take, length-take}
use lib.Seq.{get_or-take}
use Rattle.machine_spec.specs.Entries.{Entry, is_nil, any_same}
use Rattle.machine_spec.specs.declared.Machine.TheVariants.{Target}
use Rattle.machine_spec.specs.declared.Model.TheVariants.{Pso}
use Rattle.machine_spec.specs.Marks.{no_mark}
use Rattle.machine_spec.specs.Rules.{may_commit}
use Rattle.machine_lane.specs.Lanes.{entry_of, entries_of, no_entry}
use Rattle.machine_state.specs.States.{Blocks, CELLS, VALUES, row_at, word_at, stored_in, lane_of}
use Rattle.machine_lane.proofs.Laws.Entries.{entries_at}

-- on Sparc PSO an entry that has i older ones commits with no mark before it and none of them for its location or lock
pub pso_may : (f : ℕ → Bool) (ks : ℕ) (es : List Entry) (i : ℕ) (e : Entry) {b : Bool} → i < length es
    → no_mark i ks ≡ b → (b && not (any_same e (take i es))) ≡ may_commit (Target Pso) f ks (take i es) e
pso_may f ks es i e h free =
    let few : length (take i es) ≡ i = omega (arith, length-take i es) in
    ap (λ b. b && not (any_same e (take i es))) (sym free)
    ∙ ap (λ n. no_mark n ks && not (any_same e (take i es))) (sym few)

-- what is pending at an index
pub pending_at : (s : Blocks) (t i : ℕ) → i < length (lane_of s t).pending
    → get_or (lane_of s t).pending i no_entry ≡ entry_of (word_at s t CELLS i) (word_at s t VALUES i)
pending_at s t i h =
    let n = (stored_in (get_or s t [])).len in
    let es = entries_of (row_at s t CELLS) (row_at s t VALUES) in
    get_or-take n es i no_entry (omega (arith, length-take n es))
    ∙ entries_at (row_at s t CELLS) (row_at s t VALUES) i no_entry (omega (arith, length-take n es))

-- nothing is pending exactly where the count is 0
pub none_pending : (es : List Entry) → eqb (length es) 0 ≡ is_nil es
none_pending [] = refl
none_pending (x ∷ es) = ne_eqb (suc (length es)) 0 (λ z. omega arith)

-- nothing is older exactly at index 0
pub none_older : (es : List Entry) (i : ℕ) → i < length es → eqb i 0 ≡ is_nil (take i es)
none_older es zero k = refl
none_older [] (suc i) k = absurd (omega arith)
none_older (x ∷ es) (suc i) k = ne_eqb (suc i) 0 (λ z. omega arith)
