-- The text of a buffer that begins with a lawful kernel's level 2 sheet, with the kernel's mask, is the kernel's
-- listing: theorem `lawful_text`. So it is of every accepted kernel file: `accepted_text`.
use Prim.Native.Nat.{ℕ}
use mathlib.Core.Path.{◌≡◌, ap}
use mathlib.Core.List.{List, ◌++◌}
use lib.ListN.{length}
use Rattle.file_format.specs.Accepted.{Program}
use Rattle.file_format.specs.Lawful.{Lawful}
use Rattle.file_verdict.specs.Verdict.{accepted, verdict}
use Rattle.file_wellformed.proofs.Lawful.{accepted_lawful}
use Rattle.sheet_format.specs.declared.Level.TheVariants.{Level2}
use Rattle.sheet_format.specs.Bytes.{sheet_bytes}
use Rattle.sheet_format.proofs.ReadBack.{lawful_back}
use Rattle.text_listing.specs.Line.{first_line}
use Rattle.text_listing.specs.Ones.{ones}
use Rattle.text_listing.specs.Listing.{sheet_lines, listing, sheet_text}

pub lawful_text : (k : Program) (rest : List ℕ) → Lawful k
    → sheet_text (sheet_bytes Level2 k ++ rest) k.mask ≡ listing k
unfolding sheet_text sheet_bytes listing
lawful_text k rest w =
    ap (λ lanes. first_line (length k.lanes) k.locations (ones k.mask) k.locks ++ sheet_lines 0 lanes)
    (lawful_back Level2 k rest w)

pub accepted_text : (s : List ℕ) (k : Program) (rest : List ℕ) → verdict s ≡ accepted k
    → sheet_text (sheet_bytes Level2 k ++ rest) k.mask ≡ listing k
accepted_text s k rest e = lawful_text k rest (accepted_lawful s k e)
