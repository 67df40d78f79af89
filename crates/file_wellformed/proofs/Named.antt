-- What the refusal of a file names: a number up to 12, but for 9 to 11, and a record of the file, or 0.
use Prim.Native.Nat.{ℕ, zero, suc, ◌+◌, ◌*◌, ◌≤◌, ◌<◌, min}
use mathlib.Core.Path.{◌≡◌, refl, subst}
use mathlib.Core.List.{List, [], ◌∷◌, map}
use mathlib.Core.Bool.{Bool, true, false, not, cond}
use mathlib.Core.Logic.{◌≢◌}
use native.Mathlib.Omega.{arith}
use native.Mathlib.Decide.{dec_lt}
use borrow.Author.Tests.{eqb-true, ltb-true, not-false}
use lib.ListN.{get_or, set, length, take, get_or-eq_default}
use lib.Dec.{ltb, eqb}
use Rattle.std.specs.Prelude.{Ok, Err}
use Rattle.file_verdict.specs.declared.refusal.Refusal.{Refusal}
use Rattle.file_verdict.specs.declared.refusal.Refusal.TheVariants.{TruncatedHeader, BadHeader, BadLength}
use Rattle.file_verdict.specs.declared.refusal.Refusal.TheVariants.{BadRecord, BadLinkage, ChainTooLong, BadTarget}
use Rattle.file_verdict.specs.declared.refusal.Refusal.TheVariants.{LockFault, LockOrder}
use Rattle.file_format.specs.Fields.{lane_count, record_count, head, heads}
use Rattle.file_format.specs.Search.{lowest, first_of}
use Rattle.file_format.specs.Rules.{header_rule, bad_record}
use Rattle.file_format.specs.Linkage.{chain, Walked, walk_of, walk_lane, linkage_from, bad_linkage, chain_too_long}
use Rattle.file_format.specs.Targets.{bad_target}
use Rattle.file_format.specs.Accepted.{records_at, program_of}
use Rattle.file_format.specs.Held.{record_at, lock_fault}
use Rattle.file_format.specs.Rising.{lock_order}
use Rattle.file_verdict.specs.Verdict.{Checked, unless, refused_if, fields_then, structure_then, refusal_of}
use Rattle.file_verdict.specs.Verdict.{number_of, record_of}
use Rattle.file_format.proofs.Laws.Rules.{few_records, head_range}
use Rattle.file_format.proofs.Bounded.{chain_range}

-- the numbers of a file's refusals: 9 is of a buffer, 10 of a schedule, 11 of a run
abbrev pub OfFile : ℕ → Type 0
OfFile x = (x ≤ 12) × (x ≢ 9) × (x ≢ 10) × (x ≢ 11)

module _ (n : ℕ) where
  -- what a search among numbers up to n gives is up to n
  either : {A : Type 0} (f : A → ℕ) (b : Bool) {x y : A} → f x ≤ n → f y ≤ n → f (elim b [ true ↦ x | false ↦ y ]) ≤ n
  either f true h g = h
  either f false h g = g

  lowest_small : (test : ℕ → Bool) (i k : ℕ) → i + k ≤ n → lowest test (suc i) k ≤ n
  unfolding lowest
  lowest_small test i zero h = omega arith
  lowest_small test i (suc k) h =
      either (λ x. x) (test (suc i)) (omega arith) (lowest_small test (suc i) k (omega arith))

  first_small : (f : ℕ → ℕ) (i k : ℕ) → ((j : ℕ) → j < i + k → f j ≤ n) → first_of f i k ≤ n
  unfolding first_of
  first_small f i zero h = omega arith
  first_small f i (suc k) h =
      either (λ x. x) (eqb (f i) 0) (first_small f (suc i) k (λ j l. h j (omega arith))) (h i (omega arith))

  -- every record of a list is up to n
  abbrev Small : List ℕ → Type 0
  Small rs = (p : ℕ) → get_or rs p 0 ≤ n

  walk_small : (met : List Bool) (rs : List ℕ) → Small rs → (walk_of met rs).twice ≤ n
  unfolding walk_of
  walk_small met [] h = omega arith
  walk_small met (r ∷ rs) h =
      either {A = Walked} (λ w. w.twice) (get_or met r false) (h 0) (walk_small (set met r true) rs (λ p. h (suc p)))

  at_small : (rs : List ℕ) (i : ℕ) → Small rs → record_at rs i ≤ n
  unfolding record_at
  at_small rs i h = go (min i (length rs))
    where
      go : (i : ℕ) → get_or (0 ∷ rs) i 0 ≤ n
      go zero = omega arith
      go (suc p) = h p

  -- the records that a file names whose header and records keep their rules
  module _ (s : List ℕ) (few : record_count s ≤ n) (header : header_rule s ≡ true) (records : bad_record s ≡ 0) where
    chain_small : (k h : ℕ) → h ≤ record_count s → Small (chain s k h)
    chain_small k h hr p = go (dec_lt p (length (chain s k h)))
      where
        go : Dec (p < length (chain s k h)) → get_or (chain s k h) p 0 ≤ n
        go (yes l) = omega (arith, (chain_range s records k h p hr l).1)
        go (no l) = omega (arith, get_or-eq_default (chain s k h) 0 {n = p} (omega arith))

    lane_small : (k t : ℕ) → t < 4 → Small (chain s k (head s t))
    lane_small k t h = chain_small k (head s t) (head_range s header t h)

    linkage_small : (met : List Bool) (t k : ℕ) → t + k ≤ 4 → linkage_from s met t k ≤ n
    unfolding linkage_from
    linkage_small met t zero h = lowest_small _ 0 (record_count s) (omega arith)
    linkage_small met t (suc k) h =
        either (λ x. x) (eqb (walk_lane s met t).twice 0)
        (linkage_small (walk_lane s met t).met (suc t) k (omega arith))
        (walk_small met (chain s 257 (head s t)) (lane_small 257 t (omega arith)))

    heads_small : (t : ℕ) → get_or (heads s) t 0 ≤ record_count s
    heads_small zero = head_range s header 0 (omega arith)
    heads_small (suc zero) = head_range s header 1 (omega arith)
    heads_small (suc (suc zero)) = head_range s header 2 (omega arith)
    heads_small (suc (suc (suc zero))) = head_range s header 3 (omega arith)
    heads_small (suc (suc (suc (suc t)))) = omega arith

    lanes_small : (k : ℕ) (hs : List ℕ) → ((t : ℕ) → get_or hs t 0 ≤ record_count s)
        → (t : ℕ) → Small (get_or (map (records_at s) (take k hs)) t [])
    lanes_small zero hs h t = λ p. omega arith
    lanes_small (suc k) [] h t = λ p. omega arith
    lanes_small (suc k) (r ∷ hs) h zero = chain_small 64 r (h 0)
    lanes_small (suc k) (r ∷ hs) h (suc t) = lanes_small k hs (λ p. h (suc p)) t

    -- the first of a place in each lane
    locks_small : (f : ℕ → ℕ) → first_of (λ t. record_at (get_or (program_of s).records t []) (f t)) 0 4 ≤ n
    locks_small f =
        first_small _ 0 4 (λ t h. at_small (get_or (program_of s).records t []) (f t)
        (lanes_small (lane_count s) (heads s) heads_small t))

  -- a refusal has a number of a file's, and names a record up to n
  abbrev Named : Checked → Type 0
  Named (Ok u) = Unit {0}
  Named (Err r) = OfFile (number_of r) × (record_of r ≤ n)

  -- where a check's refusal is such, and what comes after it once it passed
  refuse_if : (b : Bool) (r : Refusal) (a : Checked) → Named (Err r) → (b ≡ false → Named a) → Named (refused_if b r a)
  refuse_if true r a h g = h
  refuse_if false r a h g = g refl

  refuse_unless : (x : ℕ) (f : ℕ → Refusal) (a : Checked) → Named (Err (f x)) → (x ≡ 0 → Named a) → Named (unless x f a)
  refuse_unless x f a h g = go (eqb x 0) refl
    where
      go : (b : Bool) → eqb x 0 ≡ b → Named (cond b a (Err (f x)))
      go true e = g (eqb-true x 0 e)
      go false e = h

  of_file : (x : ℕ) → ltb x 9 ≡ true → OfFile x
  of_file x h =
      let l : x < 9 = ltb-true x 9 h in
      (omega arith, λ e. omega arith, λ e. omega arith, λ e. omega arith)

  -- the checks in their order, where n is at least the count of a header that keeps its rule
  named : (s : List ℕ) → (header_rule s ≡ true → record_count s ≤ n) → Named (refusal_of s)
  unfolding refusal_of structure_then fields_then bad_record bad_linkage chain_too_long bad_target lock_fault lock_order
  named s most =
      refuse_if (ltb (length s) 16) TruncatedHeader _ (of_file 1 refl, omega arith) (λ _.
      refuse_if (not (header_rule s)) BadHeader _ (of_file 2 refl, omega arith) (λ bad.
      let header = not-false (header_rule s) bad in
      let few : record_count s ≤ n = most header in
      refuse_if (not (eqb (length s) (16 + 12 * record_count s))) BadLength _ (of_file 3 refl, omega arith) (λ _.
      refuse_unless (bad_record s) BadRecord _ (of_file 4 refl, lowest_small _ 0 (record_count s) (omega arith))
      (λ records.
      refuse_unless (bad_linkage s) BadLinkage _
      (of_file 5 refl, linkage_small s few header records _ 0 4 (omega arith)) (λ _.
      refuse_unless (chain_too_long s) ChainTooLong _
      (of_file 6 refl, first_small _ 0 4 (λ t h. lane_small s few header records 65 t h 64)) (λ _.
      refuse_unless (bad_target s) BadTarget _ (of_file 7 refl, lowest_small _ 0 (record_count s) (omega arith))
      (λ _.
      refuse_unless (lock_fault (program_of s)) LockFault _ (of_file 8 refl, locks_small s few header records _) (λ _.
      refuse_unless (lock_order (program_of s)) LockOrder (Ok tt)
      ((omega arith, λ e. omega arith, λ e. omega arith, λ e. omega arith), locks_small s few header records _)
      (λ _. tt)))))))))

pub number_small : (s : List ℕ) (r : Refusal) → refusal_of s ≡ Err r → OfFile (number_of r)
number_small s r e = (subst (Named 256) e (named 256 s (few_records s))).0

-- the record is one of the file's, or 0
pub record_counted : (s : List ℕ) (r : Refusal) → refusal_of s ≡ Err r → record_of r ≤ record_count s
record_counted s r e = (subst (Named (record_count s)) e (named (record_count s) s (λ _. omega arith))).1

pub record_named : (s : List ℕ) (r : Refusal) → refusal_of s ≡ Err r → record_of r ≤ 256
record_named s r e = (subst (Named 256) e (named 256 s (few_records s))).1
