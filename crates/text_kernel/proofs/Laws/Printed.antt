-- Laws of what is printed: a refusal's line is the file's, and so are the text of its level 2 sheet and its pages.
use Prim.Native.Nat.{ℕ, ◌≤◌}
use mathlib.Core.Path.{◌≡◌, sym, ap, ap₂, ◌∙◌}
use mathlib.Core.List.{List}
use native.Mathlib.Omega.{arith}
use lib.ListN.{length, drop}
use Rattle.file_format.specs.Fields.{mask}
use Rattle.file_format.specs.Accepted.{Program}
use Rattle.std.specs.Prelude.{Ok, Err}
use Rattle.file_verdict.specs.declared.refusal.Refusal.{Refusal}
use Rattle.file_verdict.specs.declared.refusal.Refusal.TheVariants.{ShortBuffer}
use Rattle.file_verdict.specs.Verdict.{accepted, verdict, number_of, record_of}
use Rattle.file_verdict.proofs.Laws.Verdict.{accepted_as}
use Rattle.sheet_format.specs.declared.Level.TheVariants.{Level2}
use Rattle.sheet_format.specs.Bytes.{WriteResult, sheet_bytes, lower2, answer_by, write_into}
use Rattle.sheet_format.proofs.Answers.{refuses_as, wrote_as, wrote_any, refuses_any, short_any}
use Rattle.text_listing.specs.Line.{refusal_line}
use Rattle.text_listing.specs.Listing.{listing, printed, printed_by, sheet_text}
use Rattle.text_listing.proofs.SheetListing.{accepted_text}

module _ (s own : List ℕ) (big : 4112 ≤ length own) where
  pub refusal_printed : {r : Refusal} {after : List ℕ} → (Err r, after) ≡ lower2 s own
      → refusal_line (number_of r) (record_of r) ≡ printed s
  refusal_printed p = ap (printed_by listing) (sym (refuses_as Level2 s own (omega arith) p))

  pub sheet_printed : {n : ℕ} {after : List ℕ} → (Ok n, after) ≡ lower2 s own → sheet_text after (mask s) ≡ printed s
  sheet_printed p =
      let w = wrote_as Level2 s own (omega arith) p in
      let rest = drop (length (sheet_bytes Level2 w.kernel)) own in
      let same = ap (λ (k : Program). k.mask) (accepted_as s w.kernel w.accepts).1 in
      ap₂ sheet_text w.front same
      ∙ accepted_text s w.kernel rest w.accepts
      ∙ ap (printed_by listing) (sym w.accepts)

-- ## a text that was written at once, if the file is accepted and the text fits

module _ (text : Program → List ℕ) (s own : List ℕ) where
  -- an accepted file is answered as its text is written
  accepted_printed : {a : WriteResult × List ℕ} (k : Program) → verdict s ≡ accepted k
      → a ≡ answer_by text (verdict s) own → a ≡ write_into (printed_by text (verdict s)) own
  accepted_printed k e p = p ∙ ap (λ v. answer_by text v own) e ∙ sym (ap (λ v. write_into (printed_by text v) own) e)

  pub wrote_printed : {n : ℕ} {after : List ℕ} → (Ok n, after) ≡ answer_by text (verdict s) own
      → (Ok n, after) ≡ write_into (printed_by text (verdict s)) own
  wrote_printed p =
      let w = wrote_any text s own p in
      accepted_printed w.kernel w.accepts p

  pub short_printed : {after : List ℕ} → (Err ShortBuffer, after) ≡ answer_by text (verdict s) own
      → (Err ShortBuffer, after) ≡ write_into (printed_by text (verdict s)) own
  short_printed p =
      let w = short_any text s own p in
      accepted_printed w.0 w.1 p

  pub refused_printed : {r : Refusal} {after : List ℕ} → ¬ r ≡ ShortBuffer
      → (Err r, after) ≡ answer_by text (verdict s) own
      → (after ≡ own) × (refusal_line (number_of r) (record_of r) ≡ printed_by text (verdict s))
  refused_printed other p =
      let e = refuses_any text s own other p in (
        ap (λ (z : WriteResult × List ℕ). z.1) (p ∙ ap (λ v. answer_by text v own) e),
        ap (printed_by text) (sym e),
      )
