-- Laws of flags that are counted, and of the flags of a walk.
use Prim.Native.Nat.{ℕ, zero, suc, ◌+◌, ◌≤◌, ◌<◌}
use mathlib.Core.Path.{◌≡◌, refl, sym, ap, ◌∙◌}
use mathlib.Core.Bool.{Bool, true, false, not}
use mathlib.Core.List.{List, [], ◌∷◌, ◌++◌, map}
use native.Mathlib.Omega.{arith}
use native.Mathlib.Decide.{dec_le}
use borrow.Author.Tests.{eq-eqb, ne_eqb, eqb-false, not-true, not-false}
use lib.Dec.{eqb}
use lib.ListN.{length, get_or, take, set, replicate, length-append, length-take, length-map, length-replicate}
use lib.ListN.{get_or-replicate, get_or-map}
use lib.Seq.{get_or-set_same, get_or-set_other, get_or-take, set-append_left, take-set-lt, ext_get_or}
use Rattle.laws.proofs.Lists.{map_set, getD-replicate-all}
use Rattle.file_format.specs.Search.{lowest}
use Rattle.file_format.proofs.Laws.Search.{nothing_found}
use Rattle.file_chains.specs.Walks.{given, padded, met, bit, tally}

pub tally_le : (flags : List Bool) (i k : ℕ) → tally flags i k ≤ k
unfolding tally
tally_le flags i zero = omega arith
tally_le flags i (suc k) = go (get_or flags i false) (tally_le flags (suc i) k)
  where
    go : (b : Bool) → tally flags (suc i) k ≤ k → bit b + tally flags (suc i) k ≤ suc k
    go true ih = omega arith
    go false ih = omega arith

-- where none is up the count is 0, and where all are it is k
pub tally_none : (flags : List Bool) (i k : ℕ) → ((j : ℕ) → get_or flags j false ≡ false) → tally flags i k ≡ 0
unfolding tally
tally_none flags i zero down = refl
tally_none flags i (suc k) down =
    let here : bit (get_or flags i false) ≡ 0 = ap bit (down i) in
    omega (arith, tally_none flags (suc i) k down)

tally_all : (flags : List Bool) (i k : ℕ) → ((j : ℕ) → i ≤ j → j < i + k → get_or flags j false ≡ true)
    → tally flags i k ≡ k
unfolding tally
tally_all flags i zero up = refl
tally_all flags i (suc k) up =
    let here : bit (get_or flags i false) ≡ 1 = ap bit (up i (omega arith) (omega arith)) in
    omega (arith, tally_all flags (suc i) k (λ j lo hi. up j (omega arith) (omega arith)))

-- the search for a flag that is down finds none exactly where the count is k
pub up_at : (flags : List Bool) (k : ℕ) → lowest (λ j. not (get_or flags j false)) 1 k ≡ 0
    → (j : ℕ) → 1 ≤ j → j < 1 + k → get_or flags j false ≡ true
up_at flags k none j lo hi =
    not-false (get_or flags j false) (nothing_found (λ i. not (get_or flags i false)) 1 k j (omega arith) none lo hi)

pub none_down : (flags : List Bool) (k : ℕ) → lowest (λ j. not (get_or flags j false)) 1 k ≡ 0 → tally flags 1 k ≡ k
none_down flags k none = tally_all flags 1 k (up_at flags k none)

pub all_up : (flags : List Bool) (i k : ℕ) → tally flags i k ≡ k → lowest (λ j. not (get_or flags j false)) i k ≡ 0
unfolding tally lowest
all_up flags i zero e = refl
all_up flags i (suc k) e = go (get_or flags i false) refl (tally_le flags (suc i) k) (all_up flags (suc i) k)
  where
    go : (b : Bool) → get_or flags i false ≡ b → tally flags (suc i) k ≤ k
        → (tally flags (suc i) k ≡ k → lowest (λ j. not (get_or flags j false)) (suc i) k ≡ 0)
        → lowest (λ j. not (get_or flags j false)) i (suc k) ≡ 0
    go true h le ih =
        let here : bit (get_or flags i false) ≡ 1 = ap bit h in
        rw (h, lowest) (ih (omega arith))
    go false h le ih =
        let here : bit (get_or flags i false) ≡ 0 = ap bit h in
        absurd (omega arith)

-- one flag more
module _ (flags : List Bool) (r : ℕ) (room : r < length flags) (down : get_or flags r false ≡ false) where
  tally_past : (i k : ℕ) → r < i → tally (set flags r true) i k ≡ tally flags i k
  unfolding tally
  tally_past i zero h = refl
  tally_past i (suc k) h =
      let same : bit (get_or (set flags r true) i false) ≡ bit (get_or flags i false) =
      ap bit (get_or-set_other flags r i true false (λ e. omega arith)) in
      omega (arith, tally_past (suc i) k (omega arith))

  pub tally_up : (i k : ℕ) → i ≤ r → r < i + k → tally (set flags r true) i k ≡ suc (tally flags i k)
  unfolding tally
  tally_up i zero lo hi = absurd (omega arith)
  tally_up i (suc k) lo hi = go (dec_le r i) (tally_up (suc i) k)
    where
      go : Dec (r ≤ i)
          → (suc i ≤ r → r < suc i + k → tally (set flags r true) (suc i) k ≡ suc (tally flags (suc i) k))
          → tally (set flags r true) i (suc k) ≡ suc (tally flags i (suc k))
      go (yes l) ih =
          let same : i ≡ r = omega arith in
          let was : bit (get_or flags i false) ≡ 0 =
          ap (λ j. bit (get_or flags j false)) same ∙ ap bit down in
          let is : bit (get_or (set flags r true) i false) ≡ 1 =
          ap (λ j. bit (get_or (set flags r true) j false)) same
          ∙ ap bit (get_or-set_same flags r true false room) in
          omega (arith, tally_past (suc i) k (omega arith))
      go (no l) ih =
          let same : bit (get_or (set flags r true) i false) ≡ bit (get_or flags i false) =
          ap bit (get_or-set_other flags r i true false (λ e. omega arith)) in
          omega (arith, ih (omega arith) (omega arith))

-- ## the flags of a walk

pub met_length : (place : List ℕ) → length (met place) ≡ 257
unfolding met
met_length place =
    length-map (padded place) given
    ∙ omega (
      arith,
      length-take 257 (place ++ replicate 257 0),
      length-append place (replicate 257 0),
      length-replicate {A = ℕ} 257 0,
    )

padded_at : (place : List ℕ) (n i : ℕ) → get_or (place ++ replicate n 0) i 0 ≡ get_or place i 0
padded_at [] n i = getD-replicate-all {A = ℕ} (λ x. x ≡ 0) n 0 0 refl refl i
padded_at (x ∷ place) n zero = refl
padded_at (x ∷ place) n (suc i) = padded_at place n i

not_not : (b : Bool) → not (not b) ≡ b
not_not true = refl
not_not false = refl

-- the flag of a record is up exactly where the record has a place
module _ (place : List ℕ) (i : ℕ) (below : i < 257) where
  met_at : get_or (met place) i false ≡ given (get_or place i 0)
  unfolding met
  met_at =
      get_or-map given (padded place) i 0
      ∙ ap given (get_or-take 257 (place ++ replicate 257 0) i 0 below ∙ padded_at place 257 i)

  pub unmet : not (get_or (met place) i false) ≡ eqb (get_or place i 0) 0
  unmet = ap not met_at ∙ not_not (eqb (get_or place i 0) 0)

  pub met_up : (get_or place i 0 ≡ 0 → ⊥) → get_or (met place) i false ≡ true
  met_up h = met_at ∙ ap not (ne_eqb (get_or place i 0) 0 h)

  pub met_down : get_or place i 0 ≡ 0 → get_or (met place) i false ≡ false
  met_down h = met_at ∙ ap not (eq-eqb (get_or place i 0) 0 h)

  pub met_given : get_or (met place) i false ≡ true → 1 ≤ get_or place i 0
  met_given h = go (dec_le 1 (get_or place i 0))
    where
      go : Dec (1 ≤ get_or place i 0) → 1 ≤ get_or place i 0
      go (yes l) = l
      go (no l) =
          let some = not-true (eqb (get_or place i 0) 0) (sym met_at ∙ h) in
          absurd (eqb-false (get_or place i 0) 0 some (omega arith))

  -- one record more
  pub met_set : (v : ℕ) → i < length place → 1 ≤ v → met (set place i v) ≡ set (met place) i true
  unfolding met
  met_set v room h =
      ap (λ l. map given (take 257 l)) (sym (set-append_left place (replicate 257 0) i v room))
      ∙ ap (map given) (take-set-lt 257 (place ++ replicate 257 0) i v below)
      ∙ map_set given (padded place) i v
      ∙ ap (set (map given (padded place)) i) (ap not (ne_eqb v 0 (λ e. omega arith)))

-- where no record has a place
pub met_none : (place : List ℕ) → ((i : ℕ) → get_or place i 0 ≡ 0) → met place ≡ replicate 257 false
met_none place none =
    ext_get_or false (met place) (replicate 257 false) (met_length place ∙ sym (length-replicate {A = Bool} 257 false))
    (λ i h. let below : i < 257 = omega (arith, met_length place) in
    met_down place i below (none i) ∙ sym (get_or-replicate {A = Bool} 257 i false false below))
