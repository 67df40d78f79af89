-- The verdict on a kernel file of whatever bytes: refused, or the accepted kernel.
use Rattle.std.specs.Prelude.{ℕ, ◌+◌, ◌*◌, Bool, List, not, cond, length, ltb, eqb, Result, Ok, Err}
use Rattle.file_verdict.specs.declared.refusal.Refusal.{Refusal}
use Rattle.file_verdict.specs.declared.refusal.Refusal.TheVariants.{TruncatedHeader, BadHeader, BadLength}
use Rattle.file_verdict.specs.declared.refusal.Refusal.TheVariants.{BadRecord, BadLinkage, ChainTooLong}
use Rattle.file_verdict.specs.declared.refusal.Refusal.TheVariants.{BadTarget}
use Rattle.file_verdict.specs.declared.refusal.Refusal.TheVariants.{LockFault, LockOrder}
use Rattle.file_verdict.specs.declared.refusal.Refusal.TheVariants.{ShortBuffer, IllegalMove, ReleaseNotHeld}
use Rattle.file_format.specs.Fields.{record_count}
use Rattle.file_format.specs.Rules.{header_rule, bad_record}
use Rattle.file_format.specs.Linkage.{bad_linkage, chain_too_long}
use Rattle.file_format.specs.Targets.{bad_target}
use Rattle.file_format.specs.Accepted.{Program, program_of}
use Rattle.file_format.specs.Held.{lock_fault}
use Rattle.file_format.specs.Rising.{lock_order}

-- what the checks come to: the file passes, or is refused
abbrev pub Checked : Type 0
Checked = Result Unit Refusal

-- refused, if the test is true
abbrev pub refused_if : Bool → Refusal → Checked → Checked
refused_if b refusal rest = cond b (Err refusal) rest

-- refused with the record, unless it is 0
abbrev pub unless : ℕ → (ℕ → Refusal) → Checked → Checked
unless r refusal rest = cond (eqb r 0) rest (Err (refusal r))

-- checks 1 to 4 of the paper's table in their order, and where none refuses, the rest
unfoldable pub fields_then : List ℕ → Checked → Checked
fields_then s rest =
    refused_if (ltb (length s) 16) TruncatedHeader
    (refused_if (not (header_rule s)) BadHeader
    (refused_if (not (eqb (length s) (16 + 12 * record_count s))) BadLength
    (unless (bad_record s) BadRecord
    rest)))

-- checks 5 to 7, likewise
abbrev pub linkage_then : List ℕ → Checked → Checked
linkage_then s rest =
    unless (bad_linkage s) BadLinkage
    (unless (chain_too_long s) ChainTooLong
    (unless (bad_target s) BadTarget
    rest))

unfoldable pub structure_then : List ℕ → Checked → Checked
structure_then s rest = fields_then s (linkage_then s rest)

-- checks 8 and 12, on lanes whose structure is sound
abbrev pub lock_refusal : Program → Checked
lock_refusal k =
    unless (lock_fault k) LockFault
    (unless (lock_order k) LockOrder
    (Ok tt))

unfoldable pub refusal_of : List ℕ → Checked
refusal_of s = structure_then s (lock_refusal (program_of s))

-- the paper's number of a refusal, and the record that it names
abbrev pub number_of : Refusal → ℕ
number_of TruncatedHeader = 1
number_of BadHeader = 2
number_of BadLength = 3
number_of (BadRecord r) = 4
number_of (BadLinkage r) = 5
number_of (ChainTooLong r) = 6
number_of (BadTarget r) = 7
number_of (LockFault r) = 8
number_of ShortBuffer = 9
number_of IllegalMove = 10
number_of (ReleaseNotHeld r) = 11
number_of (LockOrder r) = 12

abbrev pub record_of : Refusal → ℕ
record_of TruncatedHeader = 0
record_of BadHeader = 0
record_of BadLength = 0
record_of (BadRecord r) = r
record_of (BadLinkage r) = r
record_of (ChainTooLong r) = r
record_of (BadTarget r) = r
record_of (LockFault r) = r
record_of ShortBuffer = 0
record_of IllegalMove = 0
record_of (ReleaseNotHeld r) = r
record_of (LockOrder r) = r

pub data Verdict : Type 0 where
  refused : Refusal → Verdict
  accepted : Program → Verdict

abbrev pub verdict_from : Checked → Program → Verdict
verdict_from (Ok u) k = accepted k
verdict_from (Err r) k = refused r

abbrev pub verdict : List ℕ → Verdict
verdict s = verdict_from (refusal_of s) (program_of s)
