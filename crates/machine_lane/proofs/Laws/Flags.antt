-- Laws of the flags of the volatile locations, made one after the other from the mask.
use Prim.Native.Nat.{ℕ, ◌+◌, ◌^◌, ◌≤◌, ◌<◌}
use mathlib.Core.Path.{◌≡◌, sym, ◌∙◌, fun_ext}
use mathlib.Core.Bool.{Bool, false}
use mathlib.Core.List.{List}
use native.Mathlib.Nat.{div-eq_of_lt}
use native.Mathlib.Omega.{arith}
use native.Mathlib.Decide.{dec_lt}
use lib.ListN.{length, get_or, set, get_or-eq_default}
use lib.Pow.{pow_mono}
use lib.Seq.{get_or-set_same, get_or-set_other}
use Rattle.file_format.specs.Accepted.{is_volatile}
use Rattle.machine_lane.specs.Lanes.{flags}

module _ (mask : ℕ) (fs : List Bool) where
  -- the first x flags are those of the mask
  abbrev pub Flagged : ℕ → Type 0
  Flagged x = (i : ℕ) → i < x → get_or fs i false ≡ is_volatile mask i

  -- of a mask of 16 bits, locations from 16 on are none
  pub flagged_all : Flagged 16 → length fs ≡ 16 → mask < 65536 → flags fs ≡ is_volatile mask
  flagged_all h long small = fun_ext (λ x. go x (dec_lt x 16))
    where
      go : (x : ℕ) → Dec (x < 16) → get_or fs x false ≡ is_volatile mask x
      go x (yes l) = h x l
      go x (no l) =
          let past : 16 ≤ x = omega arith in
          let wide : 2 ^ 16 ≤ 2 ^ x = pow_mono past in
          let none : mask < 2 ^ x = omega arith in
          get_or-eq_default fs false (omega arith) ∙ sym (rw (div-eq_of_lt none))

-- one flag more
pub flagged_on : (mask : ℕ) (fs : List Bool) (x : ℕ) → Flagged mask fs x → x < length fs
    → Flagged mask (set fs x (is_volatile mask x)) (x + 1)
flagged_on mask fs x h l i below = go (dec_lt i x)
  where
    go : Dec (i < x) → get_or (set fs x (is_volatile mask x)) i false ≡ is_volatile mask i
    go (yes k) = get_or-set_other fs x i (is_volatile mask x) false (λ e. omega arith) ∙ h i k
    go (no k) =
        let here : i ≡ x = omega arith in
        rw here (get_or-set_same fs x (is_volatile mask x) false l)
