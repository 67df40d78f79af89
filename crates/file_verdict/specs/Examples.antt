-- Verdicts computed from bytes: rows for the refusals, for faults that come together, and for what is accepted. The
-- rows on the length of a chain alone stand in the crate `file_wellformed` (Longest).
use Rattle.std.specs.Prelude.{ℕ, zero, suc, ◌≡◌, refl, List, [], ◌∷◌, ◌++◌, map, replicate, Ok, Err}
use Rattle.file_verdict.specs.declared.refusal.Refusal.{Refusal}
use Rattle.file_verdict.specs.declared.refusal.Refusal.TheVariants.{TruncatedHeader, BadHeader}
use Rattle.file_verdict.specs.declared.refusal.Refusal.TheVariants.{BadLength}
use Rattle.file_verdict.specs.declared.refusal.Refusal.TheVariants.{BadRecord, BadLinkage, ChainTooLong}
use Rattle.file_verdict.specs.declared.refusal.Refusal.TheVariants.{BadTarget}
use Rattle.file_verdict.specs.declared.refusal.Refusal.TheVariants.{LockFault, LockOrder}
use Rattle.file_verdict.specs.declared.refusal.Refusal.TheVariants.{ShortBuffer, IllegalMove, ReleaseNotHeld}
use Rattle.file_format.specs.Search.{lowest, first_of}
use Rattle.file_format.specs.Rules.{header_rule, head_rule, bad_record, record_rule}
use Rattle.file_format.specs.Rules.{limit_a, limit_b, limit_constant, limit_target}
use Rattle.file_format.specs.Linkage.{chain, walk_of, bad_linkage, linkage_from, chain_too_long}
use Rattle.file_format.specs.Targets.{member, bad_target, unreachable_target, position}
use Rattle.file_format.specs.Accepted.{Program, op_of, ops_from}
use Rattle.file_format.specs.Held.{held_from, same, conflict_below, fault_at, fault_position, record_at, lock_fault}
use Rattle.file_format.specs.Rising.{all_below, descent_at, descent_position, lock_order}
use Rattle.file_verdict.specs.Verdict.{Checked, fields_then, structure_then, refusal_of, number_of, record_of}
use Rattle.file_verdict.specs.Verdict.{refused, accepted, verdict_from}

-- a header of one lane, with its counts of locations, locks and records, and the head of lane 0
unfoldable pub header : ℕ → ℕ → ℕ → ℕ → List ℕ
header ls ks n h = 1 ∷ ls ∷ ks ∷ 0 ∷ 0 ∷ 0 ∷ n ∷ 0 ∷ h ∷ 0 ∷ 0 ∷ 0 ∷ 0 ∷ 0 ∷ 0 ∷ 0 ∷ []

-- the same of two lanes, with both heads
header2 : ℕ → ℕ → ℕ → ℕ → ℕ → List ℕ
header2 ls ks n h g = 2 ∷ ls ∷ ks ∷ 0 ∷ 0 ∷ 0 ∷ n ∷ 0 ∷ h ∷ 0 ∷ g ∷ 0 ∷ 0 ∷ 0 ∷ 0 ∷ 0 ∷ []

-- a record of an operation, register, operand and next, with all else zero
unfoldable pub entry : ℕ → ℕ → ℕ → ℕ → List ℕ
entry op a b n = op ∷ a ∷ b ∷ 0 ∷ 0 ∷ 0 ∷ 0 ∷ 0 ∷ 0 ∷ 0 ∷ n ∷ 0 ∷ []

-- a SKIP on a register, with its target and next
skip : ℕ → ℕ → ℕ → List ℕ
skip a t n = 7 ∷ a ∷ 0 ∷ 0 ∷ 0 ∷ 0 ∷ 0 ∷ 0 ∷ t ∷ 0 ∷ n ∷ 0 ∷ []

-- records i, .., i + k - 1 that SET register 0 to 0, each followed by the next one, and the last by none
unfoldable pub sets : ℕ → ℕ → List ℕ
sets i zero = []
sets i (suc zero) = entry 1 0 0 0
sets i (suc (suc k)) = entry 1 0 0 (suc i) ++ sets (suc i) (suc k)

-- bytes, and the refusal that they get
table : List (List ℕ × Checked)
table =
    ([], Err TruncatedHeader)
    ∷ (replicate 15 0, Err TruncatedHeader)
    ∷ (5 ∷ 1 ∷ replicate 14 0, Err BadHeader)
    -- a head in a lane from T up
    ∷ (header 1 0 1 1 ++ entry 1 0 0 0, Ok tt)
    ∷ (1 ∷ 1 ∷ 0 ∷ 0 ∷ 0 ∷ 0 ∷ 1 ∷ 0 ∷ 1 ∷ 0 ∷ 1 ∷ 0 ∷ 0 ∷ 0 ∷ 0 ∷ 0 ∷ entry 1 0 0 0, Err BadHeader)
    -- nine records and length 123
    ∷ (header 1 0 9 1 ++ replicate 107 0, Err BadLength)
    ∷ (header 1 0 2 1 ++ entry 1 0 0 2 ++ entry 3 0 1 0, Err (BadRecord 2))
    -- byte 3 of a record, and a target in another operation than SKIP
    ∷ (header 1 0 1 1 ++ 1 ∷ 0 ∷ 0 ∷ 1 ∷ replicate 8 0, Err (BadRecord 1))
    ∷ (header 1 0 1 1 ++ 1 ∷ 0 ∷ 0 ∷ 0 ∷ 0 ∷ 0 ∷ 0 ∷ 0 ∷ 1 ∷ 0 ∷ 0 ∷ 0 ∷ [], Err (BadRecord 1))
    -- a record chained to itself; one in no lane; one in two lanes
    ∷ (header 1 0 1 1 ++ entry 1 0 0 1, Err (BadLinkage 1))
    ∷ (header 1 0 2 1 ++ entry 1 0 0 0 ++ entry 1 0 0 0, Err (BadLinkage 2))
    ∷ (header2 1 0 2 1 2 ++ entry 1 0 0 2 ++ entry 1 0 0 0, Err (BadLinkage 2))
    -- the lowest left over; a record met twice comes before it
    ∷ (header 1 0 3 2 ++ entry 1 0 0 0 ++ entry 1 0 0 0 ++ entry 1 0 0 0, Err (BadLinkage 1))
    ∷ (header 1 0 3 3 ++ entry 1 0 0 0 ++ entry 1 0 0 3 ++ entry 1 0 0 2, Err (BadLinkage 3))
    -- lane 0 is record 66; the chain of lane 1 is 65, 1, 2, .., and record 64 is its 65th
    ∷ (header2 1 0 66 66 65 ++ sets 1 64 ++ entry 1 0 0 1 ++ entry 1 0 0 0, Err (ChainTooLong 64))
    -- a target that stands earlier, and one in another lane
    ∷ (header 1 0 2 1 ++ entry 1 0 0 2 ++ skip 0 1 0, Err (BadTarget 2))
    ∷ (header2 1 0 2 1 2 ++ skip 0 2 0 ++ entry 1 0 0 0, Err (BadTarget 1))
    -- two SKIPs to themselves, the higher one first in the chain; a target that follows directly, and the end
    ∷ (header 1 0 2 2 ++ skip 0 1 0 ++ skip 0 2 1, Err (BadTarget 1))
    ∷ (header 1 0 2 2 ++ skip 0 0 0 ++ skip 0 1 1, Ok tt)
    -- LOCK twice; UNLOCK of a free lock; the end with a lock held, also by a SKIP
    ∷ (header 1 1 2 1 ++ entry 5 0 0 2 ++ entry 5 0 0 0, Err (LockFault 2))
    ∷ (header 1 1 1 1 ++ entry 6 0 0 0, Err (LockFault 1))
    ∷ (header 1 1 1 1 ++ entry 5 0 0 0, Err (LockFault 1))
    ∷ (header 1 1 3 1 ++ entry 5 0 0 2 ++ skip 0 0 3 ++ entry 6 0 0 0, Err (LockFault 3))
    -- two ways disagree: at the record where they meet
    ∷ (header 1 1 4 1 ++ skip 0 3 2 ++ entry 5 0 0 3 ++ entry 1 0 0 4 ++ entry 6 0 0 0, Err (LockFault 3))
    -- a SKIP past both LOCK and UNLOCK; two locks held at once; UNLOCK of another lock than the one held
    ∷ (header 1 1 4 1 ++ skip 0 4 2 ++ entry 5 0 0 3 ++ entry 6 0 0 4 ++ entry 1 0 0 0, Ok tt)
    ∷ (header 1 2 4 1 ++ entry 5 0 0 2 ++ entry 5 0 1 3 ++ entry 6 0 0 4 ++ entry 6 0 1 0, Ok tt)
    ∷ (header 1 2 2 1 ++ entry 5 0 0 2 ++ entry 6 0 1 0, Err (LockFault 2))
    -- the end of lane 0 comes before the records of lane 1
    ∷ (header2 1 1 2 1 2 ++ entry 5 0 0 0 ++ entry 6 0 0 0, Err (LockFault 1))
    -- locks 0 then 1, in either order of release; 1 then 0; 0 again, and 0 once 1 is released
    ∷ (header 1 2 4 1 ++ entry 5 0 0 2 ++ entry 5 0 1 3 ++ entry 6 0 1 4 ++ entry 6 0 0 0, Ok tt)
    ∷ (header 1 2 4 1 ++ entry 5 0 1 2 ++ entry 5 0 0 3 ++ entry 6 0 0 4 ++ entry 6 0 1 0, Err (LockOrder 2))
    ∷ (header 1 2 4 1 ++ entry 5 0 1 2 ++ entry 6 0 1 3 ++ entry 5 0 0 4 ++ entry 6 0 0 0, Ok tt)
    -- one lower lock held and one higher; the LOCK is named in chain order, not the held lock and not the lowest record
    ∷ (
      header 1 3 6 1 ++ entry 5 0 0 2 ++ entry 5 0 2 3 ++ entry 5 0 1 4 ++ entry 6 0 1 5 ++ entry 6 0 2 6
          ++ entry 6 0 0 0,
      Err (LockOrder 3),
    )
    ∷ (
      header 1 3 6 3 ++ entry 5 0 0 5 ++ entry 6 0 0 0 ++ entry 5 0 2 4 ++ entry 5 0 1 1 ++ entry 6 0 1 6
          ++ entry 6 0 2 2,
      Err (LockOrder 4),
    )
    -- behind a SKIP past LOCK and UNLOCK; in lane 1 alone, and in both lanes
    ∷ (header 1 2 5 1 ++ entry 5 0 0 2 ++ skip 0 5 3 ++ entry 5 0 1 4 ++ entry 6 0 1 5 ++ entry 6 0 0 0, Ok tt)
    ∷ (
      header2 1 2 5 1 2 ++ entry 1 0 0 0 ++ entry 5 0 1 3 ++ entry 5 0 0 4 ++ entry 6 0 1 5 ++ entry 6 0 0 0,
      Err (LockOrder 3),
    )
    ∷ (
      header2 1 2 8 5 1 ++ entry 5 0 1 2 ++ entry 5 0 0 3 ++ entry 6 0 1 4 ++ entry 6 0 0 0 ++ entry 5 0 1 6
          ++ entry 5 0 0 7 ++ entry 6 0 1 8 ++ entry 6 0 0 0,
      Err (LockOrder 6),
    )
    -- a lock fault in lane 1 comes before the order in lane 0
    ∷ (
      header2 1 2 5 1 5 ++ entry 5 0 1 2 ++ entry 5 0 0 3 ++ entry 6 0 1 4 ++ entry 6 0 0 0 ++ entry 6 0 0 0,
      Err (LockFault 5),
    )
    -- two faults at once, of each check and the next: the order of the table decides. Rows above have 1 and 2, 3 and 4
    -- (records of no operation), and 5 and 6 (a record chained to itself)
    ∷ (5 ∷ 1 ∷ replicate 15 0, Err BadHeader)
    ∷ (header 1 0 1 1 ++ entry 8 0 0 1, Err (BadRecord 1))
    ∷ (header 1 0 65 1 ++ skip 0 1 2 ++ sets 2 64, Err (ChainTooLong 65))
    ∷ (header 1 1 2 1 ++ entry 5 0 0 2 ++ skip 0 1 2, Err (BadLinkage 2))
    ∷ (header 1 1 2 1 ++ entry 5 0 0 2 ++ skip 0 1 0, Err (BadTarget 2))
    ∷ (1 ∷ 1 ∷ replicate 14 0, Ok tt)
    ∷ []

examples : map (λ e. refusal_of e.0) table ≡ map (λ e. e.1) table
unfolding refusal_of structure_then fields_then header_rule head_rule bad_record record_rule limit_a limit_b
    limit_constant
    limit_target lowest first_of bad_linkage linkage_from chain member walk_of chain_too_long bad_target
    unreachable_target
    lock_fault
    lock_order all_below descent_at descent_position position
    op_of ops_from record_at fault_position fault_at conflict_below held_from same header header2 entry skip sets table
examples = refl

-- the paper's number of each, and the record that it names
every : List Refusal
every =
    TruncatedHeader ∷ BadHeader ∷ BadLength ∷ BadRecord 91 ∷ BadLinkage 92 ∷ ChainTooLong 93 ∷ BadTarget 94
    ∷ LockFault 95 ∷ ShortBuffer ∷ IllegalMove ∷ ReleaseNotHeld 97 ∷ LockOrder 96 ∷ []

numbers_hold : map number_of every ≡ 1 ∷ 2 ∷ 3 ∷ 4 ∷ 5 ∷ 6 ∷ 7 ∷ 8 ∷ 9 ∷ 10 ∷ 11 ∷ 12 ∷ []
unfolding every
numbers_hold = refl

records_hold : map record_of every ≡ 0 ∷ 0 ∷ 0 ∷ 91 ∷ 92 ∷ 93 ∷ 94 ∷ 95 ∷ 0 ∷ 0 ∷ 97 ∷ 96 ∷ []
unfolding every
records_hold = refl

-- the verdict of what the checks come to, whatever the kernel
verdicts_hold : (k : Program) → map (λ c. verdict_from c k) (Ok tt ∷ map Err every) ≡ accepted k ∷ map refused every
unfolding every
verdicts_hold k = refl
