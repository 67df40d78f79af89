-- Every accepted kernel is lawful: theorem `accepted_lawful`, which the layers above use.
use Prim.Native.Nat.{ℕ, ◌≤◌, ◌<◌}
use mathlib.Core.Path.{◌≡◌, refl, sym, subst}
use mathlib.Core.List.{List, [], map}
use mathlib.Core.Option.{some}
use lib.ListN.{get_or, get_elem?, length, take, length-take, length-map, get_or-eq_default}
use native.Mathlib.Omega.{arith}
use native.Mathlib.Decide.{dec_lt}
use Rattle.laws.proofs.Lists.{some_at}
use Rattle.file_format.specs.declared.accepted.Op.{Op}
use Rattle.file_format.specs.declared.accepted.Op.TheVariants.{Set}
use Rattle.std.specs.Prelude.{Ok}
use Rattle.file_format.specs.Fields.{lane_count, locations, locks, record_count, head, heads}
use Rattle.file_format.specs.Search.{first_of}
use Rattle.file_format.specs.Accepted.{Program, records_at, ops_at, program_of}
use Rattle.file_format.specs.Held.{held_from, same, lane_fault, lock_fault}
use Rattle.file_format.specs.Rising.{lane_descent, lock_order}
use Rattle.file_verdict.specs.Verdict.{accepted, verdict, refusal_of}
use Rattle.file_format.specs.Lawful.{Bounded, LawfulLane, Lawful}
use Rattle.file_format.proofs.Laws.Search.{nothing_named}
use Rattle.file_format.proofs.Laws.Rules.{some_lanes, four_lanes_lem, some_locations, few_locations, few_locks}
use Rattle.file_format.proofs.Laws.Rules.{small_mask}
use Rattle.file_format.proofs.Laws.Rules.{few_records, head_range}
use Rattle.file_format.proofs.Laws.Linkage.{chain_length}
use Rattle.file_format.proofs.Laws.Lanes.{lane_records, lane_ops}
use Rattle.file_format.proofs.Laws.Stored.{ops_from_length, lane_count_lem, lanes_paired, lane_paired}
use Rattle.file_format.specs.Structured.{Fielded}
use Rattle.file_verdict.proofs.Laws.Verdict.{sound, accepted_as}
use Rattle.file_format.proofs.Bounded.{chain_range, lane_bounded}
use Rattle.file_format.proofs.Disciplined.{keeps, released, rising}

no_lane : (ls ks : ℕ) → LawfulLane ls ks []
unfolding held_from same
no_lane ls ks = record {
  short = omega arith;
  bounded = λ p o e. let z : ◌≡◌ {A = ℕ} 0 1 = cc in absurd (omega arith);
  disciplined = λ p o e. let z : ◌≡◌ {A = ℕ} 0 1 = cc in absurd (omega arith);
  released = refl;
  rising = λ p b l e has. let z : ◌≡◌ {A = ℕ} 0 1 = cc in absurd (omega arith);
}

module _ (s : List ℕ) (e : refusal_of s ≡ Ok tt) where
  fields : Fielded s
  fields = (sound s e).0.fields

  -- the lane whose first record is h, where it breaks no rule
  lane_lawful : (h : ℕ) → h ≤ record_count s → lane_fault (records_at s h) (ops_at s h) ≡ 0
      → lane_descent (records_at s h) (ops_at s h) ≡ 0 → LawfulLane (locations s) (locks s) (ops_at s h)
  lane_lawful h hr fine upward = record {
    short = omega (arith, len, chain_length s 64 h);
    bounded = bounds;
    disciplined =
        λ p o g. keeps (records_at s h) (ops_at s h) (sym len) nonzero fine (locations s) (locks s) p o g
        (bounds p o g);
    released = released (records_at s h) (ops_at s h) (sym len) nonzero fine;
    rising = rising (records_at s h) (ops_at s h) (sym len) nonzero upward;
  }
    where
      len : length (ops_at s h) ≡ length (records_at s h)
      len = ops_from_length s 0 (records_at s h)

      nonzero : (p : ℕ) → p < length (records_at s h) → 1 ≤ get_or (records_at s h) p 0
      nonzero p l = (chain_range s fields.records 64 h p hr l).0

      bounds : (p : ℕ) (o : Op) → get_elem? (ops_at s h) p ≡ some o
          → Bounded (locations s) (locks s) (length (ops_at s h)) p o
      bounds p o g =
          let x = some_at (ops_at s h) p o (Set 0 0) g in
          rw (len, ← x.1) (lane_bounded s fields.records h hr p (Set 0 0) (omega (arith, x.0, len)))

  few : lane_count s ≤ 4
  few = four_lanes_lem s fields.header

  -- there is no lane from 4 up
  past : {A : Type 0} (f : ℕ → List A) (t : ℕ) → 4 ≤ t → get_or (map f (take (lane_count s) (heads s))) t [] ≡ []
  past f t h =
      get_or-eq_default (map f (take (lane_count s) (heads s))) [] {n = t}
      (omega (arith, length-map (take (lane_count s) (heads s)) f, length-take (lane_count s) (heads s)))

  lane : (t : ℕ) → LawfulLane (locations s) (locks s) (get_or (program_of s).lanes t [])
  unfolding lock_fault lock_order
  lane t = go (dec_lt t 4)
    where
      -- a check that named no record of any lane named none of lane t
      passed : (f : List ℕ → List Op → ℕ)
          → first_of (λ t. f (get_or (program_of s).records t []) (get_or (program_of s).lanes t [])) 0 4 ≡ 0 → t < 4
          → f (records_at s (head s t)) (ops_at s (head s t)) ≡ 0
      passed f e h =
          rw (lane_ops s fields.header t h, lane_records s fields.header t h) at
          (nothing_named (λ t. f (get_or (program_of s).records t []) (get_or (program_of s).lanes t [])) 0 4 t e
          (omega arith) (omega arith))

      go : Dec (t < 4) → LawfulLane (locations s) (locks s) (get_or (program_of s).lanes t [])
      go (yes h) =
          rw (lane_ops s fields.header t h)
          (lane_lawful (head s t) (head_range s fields.header t h) (passed lane_fault (sound s e).1 h)
          (passed lane_descent (sound s e).2 h))
      go (no h) = rw (past (ops_at s) t (omega arith)) (no_lane (locations s) (locks s))

  records_small : (t p : ℕ) → get_or (get_or (program_of s).records t []) p 0 ≤ 256
  records_small t p = go (dec_lt t 4)
    where
      inside : (h : ℕ) → h ≤ record_count s → Dec (p < length (records_at s h)) → get_or (records_at s h) p 0 ≤ 256
      inside h hr (yes l) =
          omega (arith, (chain_range s fields.records 64 h p hr l).1, few_records s fields.header)
      inside h hr (no l) = omega (arith, get_or-eq_default (records_at s h) 0 {n = p} (omega arith))

      go : Dec (t < 4) → get_or (get_or (program_of s).records t []) p 0 ≤ 256
      go (yes h) =
          rw (lane_records s fields.header t h)
          (inside (head s t) (head_range s fields.header t h) (dec_lt p (length (records_at s (head s t)))))
      go (no h) = rw (past (records_at s) t (omega arith)) (omega arith)

  pub lawful : Lawful (program_of s)
  lawful = record {
    some_lanes = omega (arith, lane_count_lem s few, some_lanes s fields.header);
    few_lanes = omega (arith, lane_count_lem s few, few);
    some_locations = some_locations s fields.header;
    few_locations = few_locations s fields.header;
    few_locks = few_locks s fields.header;
    small_mask = small_mask s fields.header;
    same_lanes = sym (lanes_paired s);
    same_length = λ t. sym (lane_paired s t);
    records_small = records_small;
    lane = lane;
  }

pub accepted_lawful : (s : List ℕ) (k : Program) → verdict s ≡ accepted k → Lawful k
accepted_lawful s k e = let a = accepted_as s k e in subst Lawful a.1 (lawful s a.0)
