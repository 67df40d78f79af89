-- Laws of the pages written into an output buffer, from what the page writer is given.
use Prim.Native.Nat.{ℕ, ◌+◌, ◌*◌, ◌-◌, ◌/◌, ◌≤◌, ◌<◌}
use mathlib.Core.Path.{◌≡◌, sym, ap, ◌∙◌}
use mathlib.Core.List.{List, ◌++◌}
use native.Mathlib.Omega.{arith}
use lib.ListN.{length, take, drop, take-append-drop}
use Rattle.file_format.specs.Fields.{record_count}
use Rattle.file_format.specs.Accepted.{Program, program_of}
use Rattle.file_format.specs.Lawful.{Lawful}
use Rattle.file_verdict.specs.Verdict.{verdict, accepted}
use Rattle.file_verdict.proofs.Laws.Verdict.{accepted_as}
use Rattle.file_wellformed.proofs.Lawful.{accepted_lawful}
use Rattle.file_accept.specs.Order.{lane_order}
use Rattle.sheet_format.specs.declared.Level.TheVariants.{Level2}
use Rattle.std.specs.Prelude.{Ok, Err}
use Rattle.file_verdict.specs.declared.refusal.Refusal.{Refusal}
use Rattle.file_verdict.specs.declared.refusal.Refusal.TheVariants.{ShortBuffer}
use Rattle.sheet_format.specs.Bytes.{WriteResult, sheet_bytes, over, write_into, answer_by, lower_by}
use Rattle.sheet_format.specs.Put.{Puts}
use Rattle.sheet_format.proofs.Laws.Put.{puts_as, measured_whole}
use Rattle.sheet_format.proofs.Laws.Written.{short_untouched, written_all}
use Rattle.sheet_format.proofs.Answers.{refuses_as, wrote_as}
use Rattle.sheet_format.proofs.Sizes.{sheet_size, sheet_small}
use Rattle.text_page.specs.Lines.{page_lines}
use Rattle.text_page.specs.Pages.{heading_line, page_count, page_text, write_page}
use Rattle.text_page.specs.Given.{paged, Given}
use Rattle.text_page.proofs.Laws.Columns.{instruction_length}
use Rattle.text_page.proofs.Laws.Pages.{pages_paged, pages_none, pages_length}
use Rattle.text_page.proofs.Laws.Lines.{lines_length, lines_each}

module _ {k : Program} {sheet order : List ℕ} {n : ℕ} (g : Given k sheet order n) where
  text_length : length (page_text k) ≡ 33 * (n + page_count n)
  unfolding page_text
  text_length =
      pages_length (page_lines k) (lines_each (λ l. length l ≡ 33) instruction_length k)
      ∙ ap (λ m. 33 * (m + page_count m)) (sym g.counted)

  module _ {size : ℕ} {buffer : List ℕ} (measured : size ≡ 33 * (n + page_count n)) where
    pub short_given : length buffer < size → (Err ShortBuffer, buffer) ≡ write_into (page_text k) buffer
    short_given h = sym (short_untouched (page_text k) buffer (omega (arith, text_length)))

    module _ (fits : size ≤ length buffer) {after : List ℕ} {end : ℕ} where
      whole_given : Puts buffer 0 (page_text k) after end → (Ok size, after) ≡ write_into (page_text k) buffer
      whole_given p =
          let is : end ≡ size = omega (arith, p.behind, text_length) in
          ap (λ m. (Ok m, after)) (sym is) ∙ measured_whole p (omega arith) p

      -- a heading alone, and lines
      pub alone_given : n ≡ 0 → Puts buffer 0 (heading_line 1) after end
          → (Ok size, after) ≡ write_into (page_text k) buffer
      unfolding page_text
      alone_given z p = whole_given (puts_as (sym (pages_none (page_lines k) (sym g.counted ∙ z))) p)

      pub laid_given : ¬ n ≡ 0 → Puts buffer 0 (paged 0 (page_lines k)) after end
          → (Ok size, after) ≡ write_into (page_text k) buffer
      unfolding page_text
      laid_given some p = whole_given (puts_as (sym (pages_paged (page_lines k) (omega (arith, g.counted)))) p)

-- ## what lowering leaves in a buffer that takes every level 2 sheet

module _ (s own : List ℕ) (big : 4112 ≤ length own) where
  pub refused_page : {r : Refusal} {after : List ℕ} → (Err r, after) ≡ lower_by Level2 (verdict s) own
      → (out : List ℕ) → (Err r, out) ≡ write_page s out
  refused_page p out = sym (ap (λ v. answer_by page_text v out) (refuses_as Level2 s own (omega arith) p))

  module _ {n : ℕ} {after : List ℕ} (p : (Ok n, after) ≡ lower_by Level2 (verdict s) own) where
    pub accepted_page : verdict s ≡ accepted (program_of s)
    accepted_page =
        let w = wrote_as Level2 s own (omega arith) p in
        w.accepts ∙ ap accepted (sym (accepted_as s w.kernel w.accepts).1)

    lawful_page : Lawful (program_of s)
    lawful_page = accepted_lawful s (program_of s) accepted_page

    written_page : ◌≡◌ {A = WriteResult × List ℕ} (Ok n, after)
        (Ok (length (sheet_bytes Level2 (program_of s))), over (sheet_bytes Level2 (program_of s)) own)
    written_page =
        let small = sheet_small Level2 (program_of s) lawful_page in
        p ∙ ap (λ v. lower_by Level2 v own) accepted_page
        ∙ written_all (sheet_bytes Level2 (program_of s)) own (omega (arith, small))

    pub sized_page : n ≡ 16 + 8 * length (page_lines (program_of s))
    sized_page =
        let whole : ◌≡◌ {A = WriteResult} (Ok n) (Ok (length (sheet_bytes Level2 (program_of s)))) =
        ap (λ (z : WriteResult × List ℕ). z.0) written_page in
        let size : n ≡ length (sheet_bytes Level2 (program_of s)) = cc in
        omega (arith, sheet_size Level2 (program_of s), lines_length (program_of s))

    -- and the records in the order of the lanes
    pub given_page : {order : List ℕ}
        → (verdict s ≡ accepted (program_of s) → take (record_count s) order ≡ lane_order (program_of s))
        → Given (program_of s) after order ((n - 16) / 8)
    given_page {order} ordered = record {
      lawful = lawful_page;
      behind = drop (length (sheet_bytes Level2 (program_of s))) own;
      front = ap (λ (z : WriteResult × List ℕ). z.1) written_page;
      others = drop (record_count s) order;
      ordered =
          sym (take-append-drop (record_count s) order)
          ∙ ap (λ x. x ++ drop (record_count s) order) (ordered accepted_page);
      counted = omega (arith, sized_page);
    }
