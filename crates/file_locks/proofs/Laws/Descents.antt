-- Laws of the first LOCK that descends: what was found before, or else the first of what is ahead.
use Prim.Native.Nat.{ℕ, ◌+◌, ◌-◌, ◌≤◌, ◌<◌}
use mathlib.Core.Path.{◌≡◌, refl, sym, subst, ◌∙◌}
use mathlib.Core.Bool.{Bool, true, false, cond}
use mathlib.Core.List.{List}
use native.Mathlib.Omega.{arith}
use lib.ListN.{length}
use Rattle.std.specs.Prelude.{Option, Some, None, MatchOption}
use Rattle.std.specs.Option.{option_or}
use Rattle.file_format.specs.declared.accepted.Op.{Op}
use Rattle.file_format.specs.Rising.{descent_at, descent_position}
use Rattle.file_format.specs.Search.{lowest, first_of}
use Rattle.file_format.proofs.Laws.Search.{search_start, search_on, search_found, search_none}
use Rattle.file_format.proofs.Laws.Search.{first_on, first_found, first_none}
use Rattle.file_locks.specs.Lanes.{Told}

-- the first of all, 0 for none, is o, or where nothing was found, the first of the rest
abbrev pub Ahead : Option ℕ → ℕ → ℕ → Type 0
Ahead o rest all = MatchOption o (rest ≡ all) (λ y. (y ≡ all) × (¬ all ≡ 0))

-- nothing is ahead
told_end : (o : Option ℕ) {rest all : ℕ} → (rest ≡ all → 0 ≡ all) → Ahead o rest all → Told (λ x. x) all o
told_end None none at = sym (none at)
told_end (Some y) none at = at

-- ## along the rows of a lane

module _ (ops : List Op) (n : ℕ) where
  abbrev descended : ℕ → Bool
  descended j = descent_at ops (j - 1)

  -- before row p, with o found
  abbrev pub Sought : ℕ → Option ℕ → Type 0
  Sought p o = Ahead o (lowest descended (p + 1) (n + 1 - (p + 1))) (descent_position ops)

  pub sought_start : length ops ≡ n → Sought 0 None
  unfolding descent_position
  sought_start many = rw many (search_start descended 1 n)

  pub sought_on : (p : ℕ) (o : Option ℕ) {b : Bool} {v : Option ℕ} → p < n → descent_at ops (p + 1 - 1) ≡ b
      → v ≡ option_or o (cond b (Some (p + 1)) None) → Sought p o → Sought (p + 1) v
  sought_on p o {b} {v} below e ev at = subst (Sought (p + 1)) (sym ev) (go o b e at)
    where
      go : (o : Option ℕ) (b : Bool) → descent_at ops (p + 1 - 1) ≡ b → Sought p o
          → Sought (p + 1) (option_or o (cond b (Some (p + 1)) None))
      go (Some y) b e at = at
      go None true e at =
          let is : p + 1 ≡ descent_position ops = search_found descended (p + 1) (n + 1) (omega arith) e at in
          (is, λ z. omega (arith, is, z))
      go None false e at = search_on descended (p + 1) (n + 1) (omega arith) e at

  pub sought_end : (p : ℕ) (o : Option ℕ) → n ≤ p → Sought p o → Told (λ x. x) (descent_position ops) o
  sought_end p o last = told_end o (search_none descended (p + 1) (n + 1) (omega arith))

-- ## along the lanes

module _ (f : ℕ → ℕ) (t e a : ℕ) where
  pub named_on : (o v : Option ℕ) {w : Option ℕ} → t < e → Told (λ x. x) (f t) v → w ≡ option_or o v
      → Ahead o (first_of f t (e - t)) a → Ahead w (first_of f (t + 1) (e - (t + 1))) a
  named_on o v {w} below is ew at =
      subst (λ x. Ahead x (first_of f (t + 1) (e - (t + 1))) a) (sym ew) (go o v is at)
    where
      go : (o v : Option ℕ) → Told (λ x. x) (f t) v → Ahead o (first_of f t (e - t)) a
          → Ahead (option_or o v) (first_of f (t + 1) (e - (t + 1))) a
      go (Some y) v is at = at
      go None None is at = first_on f t e below refl is at
      go None (Some y) is at =
          let all : y ≡ a = first_found f t e below is.0 (λ z. is.1 (sym is.0 ∙ z)) at in
          (all, λ z. is.1 (sym is.0 ∙ all ∙ z))

  pub named_end : (o : Option ℕ) → e ≤ t → Ahead o (first_of f t (e - t)) a → Told (λ x. x) a o
  named_end o last = told_end o (first_none f t e last)
