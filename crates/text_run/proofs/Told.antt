-- What is told of a state record is told of the run: theorem `state_told`.
use Prim.Native.Nat.{ℕ, ◌≤◌, ◌<◌}
use mathlib.Core.Path.{◌≡◌, ap, ap₂, ◌∙◌}
use mathlib.Core.Bool.{cond}
use mathlib.Core.List.{List, [], ◌∷◌, ◌++◌}
use native.Mathlib.Omega.{arith}
use lib.ListN.{length}
use Rattle.sheet_format.specs.Put.{in_turn}
use Rattle.sheet_format.proofs.Laws.Turn.{turn_same}
use Rattle.machine_spec.specs.Run.{Answer}
use Rattle.machine_record.specs.Record.{state_bytes}
use Rattle.machine_record.specs.Fields.{Fields, Same, Fits}
use Rattle.machine_record.proofs.ReadBack.{read_back}
use Rattle.text_put.specs.Decimal.{decimal}
use Rattle.text_put.specs.Words.{space, newline, named}
use Rattle.text_run.specs.Words.{lane_start, position_word, registers_word, pending_word}
use Rattle.text_run.specs.Words.{done_count, waited_count, finished_yes, finished_no, memory_word, locks_word}
use Rattle.text_run.specs.Lanes.{numbers_line, entry_text, mark_text, pending_line, lane_text}
use Rattle.text_run.specs.States.{text_by, state_text, answer_text}

numbers_same : (w : List ℕ) (f g : ℕ → ℕ) (n : ℕ) → ((i : ℕ) → i < n → f i ≡ g i)
    → numbers_line w f n ≡ numbers_line w g n
numbers_same w f g n h =
    ap (λ x. w ++ x ++ newline ∷ [])
    (turn_same (λ i. space ∷ decimal (f i)) (λ i. space ∷ decimal (g i)) n
    (λ i l. ap (λ v. space ∷ decimal v) (h i l)))

-- the same text wherever a record has room
module _ {f g : Fields} (same : Same f g) where
  lane_same : (t : ℕ) → t < 4 → lane_text f t ≡ lane_text g t
  unfolding lane_text
  lane_same t h =
      ap₂ (λ x y. x ++ y)
      (ap₂ (λ p x. named lane_start t ++ named position_word p ++ x) (same.position t h)
      (numbers_same registers_word (f.register t) (g.register t) 8 (λ r l. same.register t r h l)))
      (ap (in_turn (pending_line f t)) (same.count t h)
      ∙ turn_same (pending_line f t) (pending_line g t) (g.count t)
      (λ i l. ap₂ (λ e b. named lane_start t ++ pending_word ++ entry_text e ++ newline ∷ [] ++ mark_text b t)
      (same.entry t i h l) (same.mark t i h l)))

  text_same : (n ls ks : ℕ) → n ≤ 4 → ls ≤ 16 → ks ≤ 4 → text_by f n ls ks ≡ text_by g n ls ks
  unfolding text_by
  text_same n ls ks hn hl hk =
      ap₂ (λ x y. x ++ y)
      (ap₂ (λ x y. x ++ y)
      (ap₂ (λ x y. x ++ y)
      (ap₂ (λ x y. x ++ y)
      (ap₂ (λ d w. named done_count d ++ named waited_count w ++ newline ∷ []) same.done same.waited)
      (ap (λ b. cond b finished_yes finished_no ++ newline ∷ []) same.finished))
      (numbers_same memory_word f.memory g.memory ls (λ x l. same.memory x (omega arith))))
      (numbers_same locks_word f.lock g.lock ks (λ x l. same.lock x (omega arith))))
      (turn_same (lane_text f) (lane_text g) n (λ t l. lane_same t (omega arith)))

pub state_told : (a : Answer) → Fits a
    → state_text (state_bytes a) (length a.state.lanes) (length a.state.memory) (length a.state.locks)
    ≡ answer_text a
state_told a fits = text_same (read_back a fits) _ _ _ fits.lanes fits.locations fits.locks
