-- Laws of the end of a run, told from the answer of `run_file`.
use Prim.Native.Nat.{ℕ, ◌^◌, ◌≤◌, ◌<◌}
use mathlib.Core.Path.{◌≡◌, refl, sym, ap, ◌∙◌}
use mathlib.Core.Bool.{Bool, true, false, cond}
use mathlib.Core.List.{List, append-nil, ◌++◌}
use native.Mathlib.Omega.{arith}
use lib.ListN.{length, drop_of_length-le}
use lib.Seq.{sets}
use borrow.Author.Tests.{le-ltb}
use Rattle.file_format.specs.Fields.{byte}
use Rattle.file_format.specs.Accepted.{Program}
use Rattle.file_format.proofs.Laws.Rules.{four_lanes_lem}
use Rattle.file_format.proofs.Laws.Stored.{lane_count_lem}
use Rattle.file_verdict.specs.Verdict.{Verdict, refused, accepted, verdict}
use Rattle.file_verdict.proofs.Laws.Verdict.{sound, accepted_as}
use Rattle.std.specs.Prelude.{Option, Some, None, Ok, Err}
use Rattle.file_verdict.specs.declared.refusal.Refusal.{Refusal}
use Rattle.file_verdict.specs.declared.refusal.Refusal.TheVariants.{IllegalMove}
use Rattle.sheet_format.specs.Bytes.{WriteResult, over, unless_refused}
use Rattle.sheet_format.specs.Put.{Puts}
use Rattle.sheet_format.proofs.Laws.Put.{puts_as}
use Rattle.machine_spec.specs.declared.Machine.{Machine}
use Rattle.machine_spec.specs.Moves.{odd_bytes, moves_in}
use Rattle.machine_spec.proofs.Laws.Moves.{moves_length}
use Rattle.machine_spec.specs.Run.{Answer, run_program, run_by}
use Rattle.machine_record.specs.Record.{state_bytes}
use Rattle.machine_record.proofs.Sizes.{record_length}
use Rattle.machine_course.specs.Stands.{answer_by}
use Rattle.lanes_answers.specs.Calls.{run_file_by}
use Rattle.text_run.specs.States.{state_text, answer_text}
use Rattle.text_run.specs.Runs.{tell_end_by}
use Rattle.text_run.proofs.Runs.{end_told}

-- a state record over as many bytes
pub record_over : (a : Answer) (b : List ℕ) → length b ≤ 2280 → over (state_bytes a) b ≡ state_bytes a
record_over a b h =
    let size = record_length a.finished a.done a.waited a.state in
    ap (λ x. state_bytes a ++ x) (drop_of_length-le b {i = length (state_bytes a)} (omega arith))
    ∙ append-nil (state_bytes a)

-- the header of an accepted file
counts_of : (s : List ℕ) (k : Program) → verdict s ≡ accepted k
    → (byte s 0 ≡ length k.lanes) × (byte s 1 ≡ k.locations) × (byte s 2 ≡ k.locks)
counts_of s k v =
    let is = accepted_as s k v in
    let few = four_lanes_lem s (sound s is.0).0.fields.header in (
      sym (lane_count_lem s few) ∙ ap (λ (x : Program). length x.lanes) is.1,
      ap (λ (x : Program). x.locations) is.1,
      ap (λ (x : Program). x.locks) is.1,
    )

module _ (m : Machine) (s moves : List ℕ) where
  abbrev answer : Program → Answer
  answer k = run_program m k (moves_in moves)

  -- what is answered on a verdict, and the buffer after: w says what is written of a run that takes place
  abbrev answered : (Program → ℕ × List ℕ) → List ℕ → Verdict → WriteResult × List ℕ
  answered w buffer (refused r) = (Err r, buffer)
  answered w buffer (accepted k) =
      cond (odd_bytes moves) (Err IllegalMove, buffer) (unless_refused (answer k).refusal (w k).0 (w k).1 buffer)

  record Ran (w : Program → ℕ × List ℕ) (after : List ℕ) : Type 0 where
    kernel : Program
    accepts : verdict s ≡ accepted kernel
    even : odd_bytes moves ≡ false
    none : (answer kernel).refusal ≡ None
    written : after ≡ (w kernel).1

  module _ (w : Program → ℕ × List ℕ) (buffer : List ℕ) {after : List ℕ} where
    -- something is written only of a run that takes place
    takes_place : {n : ℕ} → (Ok n, after) ≡ answered w buffer (verdict s) → Ran w after
    takes_place {n} = go (verdict s) refl
      where
        by : (k : Program) → verdict s ≡ accepted k → (t : Bool) (o : Option Refusal) → odd_bytes moves ≡ t
            → (answer k).refusal ≡ o
            → ◌≡◌ {A = WriteResult × List ℕ} (Ok n, after)
            (cond t (Err IllegalMove, buffer) (unless_refused o (w k).0 (w k).1 buffer))
            → Ran w after
        by k e true o te oe p = let z : ◌≡◌ {A = ℕ} 0 1 = cc (ap (λ x. x.0) p) in absurd (omega arith)
        by k e false None te oe p =
            record { kernel = k; accepts = e; even = te; none = oe; written = ap (λ x. x.1) p }
        by k e false (Some r) te oe p = let z : ◌≡◌ {A = ℕ} 0 1 = cc (ap (λ x. x.0) p) in absurd (omega arith)

        go : (v : Verdict) → verdict s ≡ v → (Ok n, after) ≡ answered w buffer v → Ran w after
        go (refused r) e p = let z : ◌≡◌ {A = ℕ} 0 1 = cc (ap (λ x. x.0) p) in absurd (omega arith)
        go (accepted k) e p = by k e (odd_bytes moves) (answer k).refusal refl refl p

    -- a refusal is the same whatever would be written
    refused_alike : {r : Refusal} (w' : Program → ℕ × List ℕ) (out : List ℕ) (v : Verdict)
        → (Err r, after) ≡ answered w buffer v → (Err r, out) ≡ answered w' out v
    refused_alike w' out (refused q) e = λ i. ((e i).0, out)
    refused_alike {r} w' out (accepted k) e = by (odd_bytes moves) (answer k).refusal e
      where
        by : (t : Bool) (o : Option Refusal)
            → ◌≡◌ {A = WriteResult × List ℕ} (Err r, after)
            (cond t (Err IllegalMove, buffer) (unless_refused o (w k).0 (w k).1 buffer))
            → ◌≡◌ {A = WriteResult × List ℕ} (Err r, out)
            (cond t (Err IllegalMove, out) (unless_refused o (w' k).0 (w' k).1 out))
        by true o e = λ i. ((e i).0, out)
        by false None e = let z : ◌≡◌ {A = ℕ} 0 1 = cc (ap (λ x. x.0) e) in absurd (omega arith)
        by false (Some q) e = λ i. ((e i).0, out)

  -- ## the code's answers

  abbrev records : List ℕ → Program → ℕ × List ℕ
  records buffer k = (2280, over (state_bytes (answer k)) buffer)

  abbrev texts : List ℕ → Program → ℕ × List ℕ
  texts out k = (length (answer_text (answer k)), sets out 0 (answer_text (answer k)))

  tells : (out : List ℕ) (v : Verdict) → tell_end_by m v moves out ≡ answered (texts out) out v
  tells out (refused r) = refl
  tells out (accepted k) = refl

  -- `run_file` on a buffer that takes a record
  module _ (buffer : List ℕ) (room : length buffer ≡ 2280) where
    answers : (v : Verdict) → run_file_by m v moves buffer ≡ answered (records buffer) buffer v
    answers (refused r) = refl
    answers (accepted k) = rw (le-ltb (length buffer) 2280 (omega arith)) refl

    pub end_refused : {r : Refusal} {after : List ℕ} (out : List ℕ)
        → (Err r, after) ≡ run_file_by m (verdict s) moves buffer
        → (Err r, out) ≡ tell_end_by m (verdict s) moves out
    end_refused out p =
        refused_alike (records buffer) buffer (texts out) out (verdict s) (p ∙ answers (verdict s))
        ∙ sym (tells out (verdict s))

    module _ (few : length moves < 2 ^ 32) (out : List ℕ) {n size : ℕ} {end after : List ℕ}
        (p : (Ok n, end) ≡ run_file_by m (verdict s) moves buffer)
        (q : Puts out 0 (state_text end (byte s 0) (byte s 1) (byte s 2)) after size) where
      ran : Ran (records buffer) end
      ran = takes_place (records buffer) buffer (p ∙ answers (verdict s))

      abbrev k : Program
      k = ran.kernel

      is : answer_by m s (moves_in moves) ≡ answer k
      is = ap (λ v. run_by m s v (moves_in moves)) ran.accepts

      text : state_text end (byte s 0) (byte s 1) (byte s 2) ≡ answer_text (answer k)
      text =
          let counts = counts_of s k ran.accepts in
          let bytes : end ≡ state_bytes (answer_by m s (moves_in moves)) =
          ran.written ∙ record_over (answer k) buffer (omega arith) ∙ ap state_bytes (sym is) in
          (λ i. state_text (bytes i) (counts.0 i) (counts.1 i) (counts.2 i))
          ∙ end_told s k ran.accepts m (moves_in moves) (omega (arith, moves_length moves)) ∙ ap answer_text is

      pub end_wrote : (Ok size, after) ≡ tell_end_by m (verdict s) moves out
      end_wrote =
          let laid = puts_as text q in
          let whole : size ≡ length (answer_text (answer k)) = omega (arith, laid.behind) in
          (λ i. (Ok (whole i), laid.bytes i))
          ∙ sym (ap (λ v. tell_end_by m v moves out) ran.accepts ∙ rw (ran.even, ran.none) refl)

  -- text that is told is of a run that took place
  pub told_ran : (out : List ℕ) {n : ℕ} {after : List ℕ} → (Ok n, after) ≡ tell_end_by m (verdict s) moves out
      → (answer_by m s (moves_in moves)).refusal ≡ None
  told_ran out p =
      let r = takes_place (texts out) out (p ∙ tells out (verdict s)) in
      ap (λ v. (run_by m s v (moves_in moves)).refusal) r.accepts ∙ r.none
