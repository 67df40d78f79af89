-- Every operation of a lane whose records keep their rules keeps its bounds, and every SKIP goes on.
use Prim.Native.Nat.{ℕ, zero, suc, ◌+◌, ◌≤◌, ◌<◌}
use mathlib.Core.Path.{◌≡◌, ap}
use mathlib.Core.List.{List}
use lib.ListN.{get_or, length, drop, length-drop}
use native.Mathlib.Omega.{arith}
use native.Mathlib.Decide.{dec_le}
use borrow.Author.Tests.{ltb-true}
use Rattle.file_format.specs.declared.accepted.Op.{Op}
use Rattle.file_format.specs.Fields.{locations, locks, record_count, operation, target, next}
use Rattle.file_format.specs.Rules.{record_tests, record_rule, bad_record, limit_a, limit_b, limit_constant}
use Rattle.file_format.specs.Linkage.{chain}
use Rattle.file_format.specs.Accepted.{op_by, op_of, ops_of}
use Rattle.file_format.specs.Lawful.{Bounded}
use Rattle.file_format.proofs.Laws.Search.{all_at}
use Rattle.file_format.proofs.Laws.Rules.{record_rule_lem, next_small}
use Rattle.file_format.proofs.Laws.Linkage.{chain_stop, chain_suc}
use Rattle.file_format.proofs.Laws.Targets.{position_le}
use Rattle.file_format.proofs.Laws.Accepted.{ops_of_at}

-- the limits of a row say what the operation of that row needs
bounded_by : (ls ks len p op a b c q : ℕ) → a < limit_a op → b < limit_b ls ks op → c < limit_constant op → p < q
    → q ≤ len
    → Bounded ls ks len p (op_by op a b c q)
unfolding limit_a limit_b limit_constant
bounded_by ls ks len p zero a b c q ha hb hc lo hi = absurd (omega arith)
bounded_by ls ks len p (suc zero) a b c q ha hb hc lo hi = (ha, hc)
bounded_by ls ks len p (suc (suc zero)) a b c q ha hb hc lo hi = (ha, hb)
bounded_by ls ks len p (suc (suc (suc zero))) a b c q ha hb hc lo hi = (ha, hb)
bounded_by ls ks len p (suc (suc (suc (suc zero)))) a b c q ha hb hc lo hi = (ha, hb)
bounded_by ls ks len p (suc (suc (suc (suc (suc zero))))) a b c q ha hb hc lo hi = hb
bounded_by ls ks len p (suc (suc (suc (suc (suc (suc zero)))))) a b c q ha hb hc lo hi = hb
bounded_by ls ks len p (suc (suc (suc (suc (suc (suc (suc zero))))))) a b c q ha hb hc lo hi = (ha, lo, hi)
bounded_by ls ks len p (suc (suc (suc (suc (suc (suc (suc (suc op)))))))) a b c q ha hb hc lo hi = absurd (omega arith)

module _ (s : List ℕ) (ok : bad_record s ≡ 0) where
  -- a record of the file
  abbrev Numbered : ℕ → Type 0
  Numbered r = (1 ≤ r) × (r ≤ record_count s)

  -- every record of a chain is one of the file's
  pub chain_range : (k r p : ℕ) → r ≤ record_count s → p < length (chain s k r) → Numbered (get_or (chain s k r) p 0)
  unfolding chain
  chain_range zero r p hr h = absurd (omega arith)
  chain_range (suc k) r p hr h = go (dec_le 1 r) p h (chain_range k (next s r))
    where
      go : Dec (1 ≤ r) → (p : ℕ) → p < length (chain s (suc k) r)
          → ((p : ℕ) → next s r ≤ record_count s → p < length (chain s k (next s r))
          → Numbered (get_or (chain s k (next s r)) p 0))
          → Numbered (get_or (chain s (suc k) r) p 0)
      go (no n) p h ih = absurd (omega (arith, ap length (chain_stop s (suc k) r (omega arith))))
      go (yes l) zero h ih = rw (chain_suc s k r (λ z. omega arith)) (l, hr)
      go (yes l) (suc p) h ih =
          let more = chain_suc s k r (λ z. omega arith) in
          rw more (ih p (next_small s ok r l hr) (omega (arith, ap length more)))

  op_bounded : (i : ℕ) → Numbered i → (p : ℕ) (rest : List ℕ)
      → Bounded (locations s) (locks s) (p + 1 + length rest) p (op_of s p rest i)
  unfolding record_rule op_of
  op_bounded i range p rest =
      let holds = record_rule_lem s ok i range.0 range.1 in
      bounded_by (locations s) (locks s) (p + 1 + length rest) p (operation s i) _ _ _ _
      (ltb-true _ _ (all_at (record_tests s i) 0 holds)) (ltb-true _ _ (all_at (record_tests s i) 1 holds))
      (ltb-true _ _ (all_at (record_tests s i) 3 holds)) (omega arith) (omega (arith, position_le (target s i) rest))

  pub lane_bounded : (h : ℕ) → h ≤ record_count s → (p : ℕ) (d : Op) → p < length (chain s 64 h)
      → Bounded (locations s) (locks s) (length (chain s 64 h)) p (get_or (ops_of s (chain s 64 h)) p d)
  lane_bounded h hr p d inside =
      let rs = chain s 64 h in
      let rest : p + 1 + length (drop (p + 1) rs) ≡ length rs = omega (arith, length-drop (p + 1) rs) in
      rw (ops_of_at s rs p d inside)
      (rw rest at (op_bounded (get_or rs p 0) (chain_range 64 h p hr inside) p (drop (p + 1) rs)))
