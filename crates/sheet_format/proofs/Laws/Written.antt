-- Laws of writing into the output buffer: what is in front, what lies behind, and that its length stays.
use Prim.Native.Nat.{ℕ, ◌≤◌, ◌<◌}
use native.Mathlib.Omega.{arith}
use mathlib.Core.Path.{◌≡◌, refl, sym, ap, ◌∙◌}
use mathlib.Core.Bool.{Bool, true, false}
use mathlib.Core.List.{List}
use lib.Dec.{ltb}
use lib.ListN.{length, drop, length-append, length-drop}
use borrow.Author.Tests.{ltb-false, le-ltb, lt-ltb}
use Rattle.std.specs.Prelude.{Ok, Err}
use Rattle.file_verdict.specs.declared.refusal.Refusal.TheVariants.{ShortBuffer}
use Rattle.sheet_format.specs.Bytes.{over, write_into}

-- a success writes the bytes at the front and leaves the rest; else the buffer is as it was
module _ (bytes buffer : List ℕ) where
  pub written_all : length bytes ≤ length buffer
      → write_into bytes buffer ≡ (Ok (length bytes), over bytes buffer)
  written_all h = rw (le-ltb (length buffer) (length bytes) h)

  pub short_untouched : length buffer < length bytes → write_into bytes buffer ≡ (Err ShortBuffer, buffer)
  short_untouched h = rw (lt-ltb (length buffer) (length bytes) h)

  pub written_length : length (write_into bytes buffer).1 ≡ length buffer
  written_length = go (ltb (length buffer) (length bytes)) refl
    where
      go : (b : Bool) → ltb (length buffer) (length bytes) ≡ b → length (write_into bytes buffer).1 ≡ length buffer
      go true h = rw h
      go false h =
          rw h
          (omega (
            arith,
            ltb-false (length buffer) (length bytes) h,
            length-append bytes (drop (length bytes) buffer),
            length-drop (length bytes) buffer,
          ))

-- the answer where the bytes do not fit, and where they do
module _ (bytes buffer : List ℕ) {last : List ℕ} (e : last ≡ (write_into bytes buffer).1) where
  pub answer_short : length buffer < length bytes → (Err ShortBuffer, last) ≡ write_into bytes buffer
  answer_short h =
      let short = short_untouched bytes buffer h in
      (λ i. (Err ShortBuffer, (e ∙ ap (λ x. x.1) short) i)) ∙ sym short

  pub answer_full : {size : ℕ} → size ≡ length bytes → length bytes ≤ length buffer
      → (Ok size, last) ≡ write_into bytes buffer
  answer_full n h =
      let full = written_all bytes buffer h in
      (λ i. (Ok (n i), (e ∙ ap (λ x. x.1) full) i)) ∙ sym full
