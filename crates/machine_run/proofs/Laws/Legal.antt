-- Laws of legal schedules that are read from bytes: one move, and none left.
use Prim.Native.Nat.{ℕ, ◌+◌, ◌≤◌, ◌<◌}
use mathlib.Core.Path.{◌≡◌, refl, sym, ap}
use mathlib.Core.Bool.{Bool, true, false, ◌&&◌}
use mathlib.Core.List.{List, [], ◌∷◌}
use native.Mathlib.Omega.{arith}
use lib.Dec.{ltb, leb}
use lib.ListN.{length, get_or, drop, length-drop}
use Rattle.machine_spec.specs.Schedule.{legal}
use Rattle.machine_spec.specs.Moves.{moves_in}
use Rattle.machine_spec.proofs.Laws.Moves.{moves_on}

module _ (n limit : ℕ) (s : List ℕ) (i : ℕ) where
  pub legal_on : i + 1 < length s
      → legal n limit (moves_in (drop i s))
      ≡ (ltb (get_or s i 0) n && leb (get_or s (i + 1) 0) limit && legal n limit (moves_in (drop (i + 2) s)))
  legal_on h = ap (legal n limit) (moves_on s i h)

  -- the test so far, with that of one move more
  pub legal_more : (so : Bool) → i + 1 < length s
      → ((so && (ltb (get_or s i 0) n && leb (get_or s (i + 1) 0) limit)) && legal n limit (moves_in (drop (i + 2) s)))
      ≡ (so && legal n limit (moves_in (drop i s)))
  legal_more true h = sym (legal_on h)
  legal_more false h = refl

  legal_end : length s ≤ i + 1 → legal n limit (moves_in (drop i s)) ≡ true
  unfolding moves_in
  legal_end h = go (drop i s) (omega (arith, length-drop i s))
    where
      go : (r : List ℕ) → length r ≤ 1 → legal n limit (moves_in r) ≡ true
      go [] h = refl
      go (t ∷ []) h = refl
      go (t ∷ c ∷ r) h = absurd (omega arith)

  -- the test so far is that of all where no move is left
  pub legal_all : (so : Bool) → length s ≤ i + 1 → so ≡ (so && legal n limit (moves_in (drop i s)))
  legal_all true h = sym (legal_end h)
  legal_all false h = refl
