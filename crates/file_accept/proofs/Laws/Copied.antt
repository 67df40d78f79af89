-- Laws of rows that are copied: how many bytes they take, and the answer.
use Prim.Native.Nat.{ℕ, ◌≤◌, ◌<◌}
use mathlib.Core.Path.{◌≡◌, refl, sym, ap, ◌∙◌}
use mathlib.Core.List.{List, ◌++◌}
use native.Mathlib.Omega.{arith}
use lib.ListN.{length, take, drop, length-append, length-drop}
use lib.Seq.{length-take-le, take_at, take_all}
use Rattle.file_format.specs.Accepted.{program_of}
use Rattle.file_verdict.specs.Verdict.{verdict, accepted}
use Rattle.file_wellformed.proofs.Lawful.{accepted_lawful}
use Rattle.std.specs.Prelude.{Ok, Err}
use Rattle.file_verdict.specs.declared.refusal.Refusal.TheVariants.{ShortBuffer}
use Rattle.sheet_format.specs.declared.Level.TheVariants.{Level0}
use Rattle.sheet_format.specs.Bytes.{over, sheet_bytes, lower_by}
use Rattle.sheet_format.proofs.Laws.Loaded.{header_by_lem, answered_by}
use Rattle.sheet_format.proofs.Laws.Written.{written_all, short_untouched}
use Rattle.sheet_format.proofs.Sizes.{sheet_small}
use Rattle.file_rows.proofs.Laws.Holds.{part_from, part_count}
use Rattle.file_rows.proofs.Laws.Whole.{chains_size}
use Rattle.file_accept.specs.Size.{size_in}

-- rows that begin with an accepted file's chains
module _
    (s : List ℕ) (ok : verdict s ≡ accepted (program_of s)) (rows own : List ℕ)
    (front : rows ≡ over (sheet_bytes Level0 (program_of s)) own)
  where
    size_is : size_in rows ≡ length (sheet_bytes Level0 (program_of s))
    size_is =
        omega (
          arith,
          part_from s (header_by_lem s ok) rows own front 3 (omega arith),
          part_count s (header_by_lem s ok) rows own front 3 (omega arith),
          chains_size s (header_by_lem s ok) refl refl refl refl,
        )

    pub size_small : size_in rows ≤ 2064
    size_small = omega (arith, size_is, sheet_small Level0 (program_of s) (accepted_lawful s (program_of s) ok))

    -- the rows have their own length
    pub rows_room : length own ≡ 2064 → length rows ≡ 2064
    rows_room h =
        let bytes = sheet_bytes Level0 (program_of s) in
        ap length front
        ∙ omega (
          arith,
          length-append bytes (drop (length bytes) own),
          length-drop (length bytes) own,
          size_is,
          size_small,
        )

    module _ {size : ℕ} (e : size ≡ size_in rows) where
      pub part_counted : length own ≡ 2064 → size ≡ length (take size rows)
      part_counted h = sym (length-take-le size rows (omega (arith, rows_room h, size_small)))

      pub answer_short : (buffer : List ℕ) → length buffer < size
          → (Err ShortBuffer, buffer) ≡ lower_by Level0 (verdict s) buffer
      answer_short buffer h =
          sym (short_untouched (sheet_bytes Level0 (program_of s)) buffer (omega (arith, size_is)))
          ∙ answered_by s ok (sheet_bytes Level0) buffer

      pub answer_copied : (buffer : List ℕ) {after : List ℕ} → size ≤ length buffer
          → after ≡ take (length (take size rows)) (take size rows) ++ drop (length (take size rows)) buffer
          → (Ok size, after) ≡ lower_by Level0 (verdict s) buffer
      answer_copied buffer {after} room copied =
          let bytes = sheet_bytes Level0 (program_of s) in
          let whole : size ≡ length bytes = e ∙ size_is in
          let part : take size rows ≡ bytes =
          ap (take size) front ∙ take_at bytes (drop (length bytes) own) size (sym whole) in
          let same : after ≡ over bytes buffer =
          copied ∙ ap (λ x. take (length x) x ++ drop (length x) buffer) part
          ∙ ap (λ x. x ++ drop (length bytes) buffer) (take_all (length bytes) bytes (omega arith)) in
          (λ i. (Ok (whole i), same i))
          ∙ sym (written_all bytes buffer (omega arith))
          ∙ answered_by s ok (sheet_bytes Level0) buffer
