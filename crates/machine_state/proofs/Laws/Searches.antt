-- Laws of a search of a pending list from place i on: whether one of its entries passes a test.
use Prim.Native.Nat.{ℕ, suc, ◌+◌, ◌≤◌, ◌<◌}
use mathlib.Core.Path.{◌≡◌, ap, sym, ◌∙◌}
use mathlib.Core.Bool.{Bool, true, false, ◌||◌}
use mathlib.Core.List.{List, [], ◌∷◌}
use native.Mathlib.Numerals.{add-one}
use native.Mathlib.Omega.{arith}
use lib.Dec.{eqb}
use lib.ListN.{length, get_or, take, drop, drop_of_length-le}
use lib.Seq.{drop-cons, get_or-take}
use Rattle.machine_spec.specs.Entries.{Entry, is_sync, same_target}
use Rattle.machine_lane.specs.Lanes.{entry_of, no_entry}
use Rattle.machine_state.specs.States.{Blocks, CELLS, VALUES, word_at, lane_of}
use Rattle.machine_lane.proofs.Laws.Searches.{same_cell}
use Rattle.machine_state.proofs.Laws.Rules.{pending_at}

module _ (test : Entry → Bool) (any : List Entry → Bool) (none : any [] ≡ false)
    (some : (e : Entry) (es : List Entry) → any (e ∷ es) ≡ (test e || any es)) (es : List Entry) (i : ℕ) where
  here : {b : Bool} → i < length es → test (get_or es i no_entry) ≡ b → any (drop i es) ≡ (b || any (drop (suc i) es))
  here h e = ap any (drop-cons es i no_entry h) ∙ some _ _ ∙ ap (λ b. b || any (drop (suc i) es)) e

  pub found : i < length es → test (get_or es i no_entry) ≡ true → any (drop i es) ≡ true
  found h e = here h e

  pub next : i < length es → test (get_or es i no_entry) ≡ false → any (drop i es) ≡ any (drop (i + 1) es)
  next h e = rw add-one (here h e)

  pub past : length es ≤ i → any (drop i es) ≡ false
  past h = ap any (drop_of_length-le es h) ∙ none

-- what the tests of the code say of the entry at i, whose cell is x
module _ (s : Blocks) (t i x : ℕ) (cell : x ≡ word_at s t CELLS i) where
  pub sync_at : (f : ℕ → Bool) (r b : Bool) → i < length (lane_of s t).pending
      → ((v : ℕ) → r ≡ is_sync f (entry_of x v)) → r ≡ b → is_sync f (get_or (lane_of s t).pending i no_entry) ≡ b
  sync_at f r b h told e =
      ap (is_sync f) (pending_at s t i h) ∙ ap (λ y. is_sync f (entry_of y (word_at s t VALUES i))) (sym cell)
      ∙ sym (told (word_at s t VALUES i)) ∙ e

  pub same_at : (c v n : ℕ) (b : Bool) → i < n → n ≤ length (lane_of s t).pending → eqb x c ≡ b
      → same_target (entry_of c v) (get_or (take n (lane_of s t).pending) i no_entry) ≡ b
  same_at c v n b h k e =
      ap (same_target (entry_of c v))
      (get_or-take n (lane_of s t).pending i no_entry h ∙ pending_at s t i (omega arith))
      ∙ same_cell c v (word_at s t CELLS i) (word_at s t VALUES i) ∙ ap (λ y. eqb y c) (sym cell) ∙ e
