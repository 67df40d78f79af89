-- Laws of what reading answers: a malformed line, too many moves, all moves.
use Prim.Native.Nat.{ℕ, ◌≤◌, ◌<◌}
use mathlib.Core.Path.{◌≡◌, refl, sym, ap, ap₂, ◌∙◌}
use mathlib.Core.Bool.{Bool, true, false}
use mathlib.Core.List.{List}
use native.Mathlib.Omega.{arith}
use borrow.Author.Tests.{lt-ltb, le-ltb}
use lib.Dec.{ltb}
use lib.ListN.{length, take, drop, length-append}
use lib.Seq.{take_at}
use Rattle.std.specs.Prelude.{Option, Some, None, Result, Ok, Err}
use Rattle.sheet_format.specs.Bytes.{over}
use Rattle.sheet_format.specs.Put.{Puts}
use Rattle.sheet_format.proofs.Laws.Put.{puts_front}
use Rattle.text_schedule.specs.declared.place.Place.TheVariants.{Blank}
use Rattle.text_schedule.specs.declared.whole.ScheduleError.{ScheduleError}
use Rattle.text_schedule.specs.declared.whole.ScheduleError.TheVariants.{Malformed, TooLong}
use Rattle.text_schedule.specs.Text.{malformed_from, moves_of, read_by, read_into}

module _ (text buffer : List ℕ) where
  pub read_malformed : {line : ℕ} → Some line ≡ malformed_from 1 Blank text
      → (Err (Malformed line), buffer) ≡ read_into text buffer
  read_malformed e = ap (λ first. read_by first text buffer) e

  -- the moves are measured by laying them into another buffer
  module _ (e : None ≡ malformed_from 1 Blank text) {l m : List ℕ} {size : ℕ} (p : Puts l 0 (moves_of text) m size)
    where
      pub read_long : length buffer < size → (Err TooLong, buffer) ≡ read_into text buffer
      read_long h =
          let more : length buffer < length (moves_of text) = omega (arith, p.behind) in
          let short : ltb (length buffer) (length (moves_of text)) ≡ true = lt-ltb _ _ more in
          rw (← e, short) refl

      pub read_moves : {after : List ℕ} {end : ℕ} → size ≤ length buffer → Puts buffer 0 (moves_of text) after end
          → (Ok end, after) ≡ read_into text buffer
      read_moves {after} {end} h q =
          let fits : length (moves_of text) ≤ length buffer = omega (arith, p.behind) in
          let room : ltb (length buffer) (length (moves_of text)) ≡ false = le-ltb _ _ fits in
          let whole : end ≡ length (moves_of text) = omega (arith, q.behind) in
          let laid : after ≡ over (moves_of text) buffer = puts_front fits q in
          rw (← e, room) (λ i. (Ok (whole i), laid i))

-- moves that are read are those of the text, at the front of the buffer
abbrev Front : List ℕ → List ℕ → ℕ → Type 0
Front text after size = (size ≤ length after) × (take size after ≡ moves_of text)

-- the size that is answered, 0 where there is none
abbrev size_in : Result ℕ ScheduleError × List ℕ → ℕ
size_in (Ok n, l) = n
size_in (Err e, l) = 0

-- which of the two is answered
abbrev kind_in : Result ℕ ScheduleError × List ℕ → ℕ
kind_in (Ok n, l) = 0
kind_in (Err e, l) = 1

module _ (text buffer : List ℕ) {after : List ℕ} {size : ℕ} where
  front_by : (first : Option ℕ) (u : Bool) → ltb (length buffer) (length (moves_of text)) ≡ u
      → (Ok size, after) ≡ read_by first text buffer → Front text after size
  front_by (Some line) u e p = let z : ◌≡◌ {A = ℕ} 0 1 = ap kind_in p in absurd (omega arith)
  front_by None true e p = let z : ◌≡◌ {A = ℕ} 0 1 = ap kind_in (rw e at p) in absurd (omega arith)
  front_by None false e p =
      let m : List ℕ = moves_of text in
      let q = rw e at p in
      let n : size ≡ length m = ap size_in q in
      let is : after ≡ over m buffer = ap (λ x. x.1) q in (
        omega (arith, ap length is, length-append m (drop (length m) buffer)),
        ap₂ (λ x y. take x y) n is ∙ take_at m (drop (length m) buffer) (length m) refl,
      )

  pub read_front : {r : Result ℕ ScheduleError} → r ≡ Ok size → (r, after) ≡ read_into text buffer
      → Front text after size
  read_front e p =
      front_by (malformed_from 1 Blank text) (ltb (length buffer) (length (moves_of text))) refl
      ((λ i. (sym e i, after)) ∙ p)
