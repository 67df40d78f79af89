-- The lanes of a file with a valid header: lane t is the chain from its head, and is empty from the lane count up.
use Prim.Native.Nat.{ℕ, ◌≤◌, ◌<◌}
use mathlib.Core.Path.{◌≡◌, refl, ap, ◌∙◌}
use mathlib.Core.Bool.{true}
use mathlib.Core.List.{List, []}
use native.Mathlib.Omega.{arith}
use lib.ListN.{get_or}
use Rattle.laws.proofs.Lists.{map_take_at}
use Rattle.laws.proofs.Numbers.{below_four}
use Rattle.file_format.specs.Fields.{lane_count, head, heads}
use Rattle.file_format.specs.Rules.{header_rule}
use Rattle.file_format.specs.Accepted.{ops_from, ops_of, records_at, ops_at, program_of}
use Rattle.file_format.proofs.Laws.Linkage.{chain_stop}
use Rattle.file_format.proofs.Laws.Rules.{head_none}

pub head_at : (s : List ℕ) (t : ℕ) → t < 4 → get_or (heads s) t 0 ≡ head s t
head_at s = below_four (λ t. get_or (heads s) t 0 ≡ head s t) refl refl refl refl

module _ (s : List ℕ) (ok : header_rule s ≡ true) (t : ℕ) (h : t < 4) where
  no_head : lane_count s ≤ t → get_or (heads s) t 0 ≡ 0
  no_head past = head_at s t h ∙ head_none s ok t h past

  pub lane_records : get_or (program_of s).records t [] ≡ records_at s (head s t)
  lane_records =
      map_take_at (records_at s) (heads s) (lane_count s) t (omega arith)
      (λ past. chain_stop s 64 (get_or (heads s) t 0) (no_head past))
      ∙ ap (records_at s) (head_at s t h)

  pub lane_ops : get_or (program_of s).lanes t [] ≡ ops_at s (head s t)
  unfolding ops_from
  lane_ops =
      map_take_at (ops_at s) (heads s) (lane_count s) t (omega arith)
      (λ past. ap (ops_of s) (chain_stop s 64 (get_or (heads s) t 0) (no_head past)))
      ∙ ap (ops_at s) (head_at s t h)
