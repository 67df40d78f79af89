-- What is enough to print a kernel file of whatever bytes: its first 3,089 bytes, and a buffer of 65,536, for the pages
-- of 17,226.
use Prim.Native.Nat.{ℕ, ◌≤◌}
use mathlib.Core.Path.{◌≡◌, refl, ap}
use mathlib.Core.Bool.{Bool, true, false, cond}
use mathlib.Core.List.{List}
use native.Mathlib.Omega.{arith}
use lib.Dec.{eqb}
use lib.ListN.{length, take}
use Rattle.file_format.specs.Accepted.{Program, program_of}
use Rattle.file_format.specs.Lawful.{Lawful}
use Rattle.file_verdict.specs.Verdict.{Verdict, refused, accepted, verdict, number_of, record_of}
use Rattle.file_wellformed.proofs.Front.{front_verdict}
use Rattle.file_wellformed.proofs.Lawful.{accepted_lawful}
use Rattle.file_wellformed.proofs.Named.{number_small, record_named}
use Rattle.std.specs.Prelude.{Ok}
use Rattle.file_verdict.proofs.Laws.Verdict.{refused_as}
use Rattle.sheet_format.specs.Bytes.{over, write_into}
use Rattle.sheet_format.proofs.Laws.Written.{written_all}
use Rattle.text_listing.specs.Listing.{listing, printed, printed_by}
use Rattle.text_listing.proofs.Sizes.{refusal_small, listing_small}
use Rattle.text_page.specs.Pages.{page_text}
use Rattle.text_page.proofs.Theorem.{lawful_pages}
use Rattle.text_kernel.specs.Printed.{printed_pages}

-- of a longer file the first 3,089 bytes print as the whole
front_by : (text : Program → List ℕ) (s : List ℕ)
    → printed_by text (verdict (take 3089 s)) ≡ printed_by text (verdict s)
front_by text s = ap (printed_by text) (front_verdict s)

pub front_printed : (s : List ℕ) → printed (take 3089 s) ≡ printed s
front_printed = front_by listing

pub front_pages : (s : List ℕ) → printed_pages (take 3089 s) ≡ printed_pages s
front_pages = front_by page_text

-- a text that no accepted kernel has longer is printed in as many bytes, and the line of a refusal too
module _
    (text : Program → List ℕ) (size : ℕ) (line : 37 ≤ size) (few : (k : Program) → Lawful k → length (text k) ≤ size)
    (s : List ℕ) where
  printed_few : length (printed_by text (verdict s)) ≤ size
  printed_few = go (verdict s) refl
    where
      go : (v : Verdict) → verdict s ≡ v → length (printed_by text v) ≤ size
      go (accepted k) e = few k (accepted_lawful s k e)
      go (refused r) e =
          let of = refused_as s r e in
          let small = number_small s r of in
          let named = record_named s r of in
          omega (arith, refusal_small (number_of r) (record_of r) (omega (arith, small.0)) (omega (arith, named)))

pub printed_small : (s : List ℕ) → length (printed s) ≤ 65536
printed_small = printed_few listing 65536 (omega arith) (λ k w. omega (arith, listing_small k w))

pub pages_small : (s : List ℕ) → length (printed_pages s) ≤ 17226
pages_small = printed_few page_text 17226 (omega arith) (λ k w. (lawful_pages k w).small)

-- so the answer on such a buffer is never 9
pub prints : (s out : List ℕ) → 65536 ≤ length out
    → write_into (printed s) out ≡ (Ok (length (printed s)), over (printed s) out)
prints s out h = written_all (printed s) out (omega (arith, printed_small s))

pub prints_pages : (s out : List ℕ) → 17226 ≤ length out
    → write_into (printed_pages s) out ≡ (Ok (length (printed_pages s)), over (printed_pages s) out)
prints_pages s out h = written_all (printed_pages s) out (omega (arith, pages_small s))
