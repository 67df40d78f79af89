-- Laws of how many lanes and operations a file has.
use Prim.Native.Nat.{ℕ, zero, suc, ◌≤◌}
use mathlib.Core.Path.{◌≡◌, refl, ap, sym, ◌∙◌}
use mathlib.Core.List.{List, [], ◌∷◌, map}
use native.Mathlib.Omega.{arith}
use lib.ListN.{length, get_or, take, length-map, length-take}
use Rattle.file_format.specs.Fields.{lane_count, heads}
use Rattle.file_format.specs.Accepted.{ops_from, records_at, ops_at, program_of}

pub ops_from_length : (s : List ℕ) (n : ℕ) (rs : List ℕ) → length (ops_from s n rs) ≡ length rs
unfolding ops_from
ops_from_length s n [] = refl
ops_from_length s n (r ∷ rs) = ap suc (ops_from_length s (suc n) rs)

pub lane_count_lem : (s : List ℕ) → lane_count s ≤ 4 → length (program_of s).lanes ≡ lane_count s
lane_count_lem s h =
    omega (arith, length-map (take (lane_count s) (heads s)) (ops_at s), length-take (lane_count s) (heads s))

-- each lane has as many operations as records
pub lanes_paired : (s : List ℕ) → length (program_of s).lanes ≡ length (program_of s).records
lanes_paired s =
    length-map (take (lane_count s) (heads s)) (ops_at s)
    ∙ sym (length-map (take (lane_count s) (heads s)) (records_at s))

pub lane_paired : (s : List ℕ) (t : ℕ)
    → length (get_or (program_of s).lanes t []) ≡ length (get_or (program_of s).records t [])
lane_paired s t = go (take (lane_count s) (heads s)) t
  where
    go : (hs : List ℕ) (t : ℕ) → length (get_or (map (ops_at s) hs) t []) ≡ length (get_or (map (records_at s) hs) t [])
    go [] t = refl
    go (h ∷ hs) zero = ops_from_length s 0 (records_at s h)
    go (h ∷ hs) (suc t) = go hs t
