-- Laws of the code's writes to a lane: position, marks, register, pending list, newest entry.
use Prim.Native.Nat.{ℕ, zero, suc, ◌+◌, ◌*◌, ◌^◌, ◌<◌, ◌≤◌}
use mathlib.Core.Path.{◌≡◌, refl, ap, ap₂, sym, ◌∙◌}
use mathlib.Core.List.{List, [], ◌∷◌, ◌++◌}
use mathlib.Core.Option.{some}
use native.Mathlib.Omega.{arith}
use lib.ListN.{length, get_or, take, set, length-set, length-take}
use lib.Seq.{get_or-set_same, get_or-set_other, set-set, set-get_or, set_out, take-set-le, take-suc-set}
use Rattle.laws.proofs.Parts.{take_set}
use Rattle.machine_spec.specs.Entries.{Entry, append_entry}
use Rattle.machine_lane.specs.declared.lane.Lane.{Lane as Stored}
use Rattle.machine_lane.specs.Lanes.{entry_of, entries_of, lane_in, placed_at, with_marks, with_pending, with_register}
use Rattle.machine_lane.proofs.Laws.Entries.{entries_length, entries_set}
use Rattle.machine_lane.proofs.Laws.Lanes.{lane_eq}
use Rattle.machine_state.specs.States.{HEAD, CELLS, VALUES, POSITION, LENGTH, MARKS, HIGHMARKS, firsts}
use Rattle.machine_state.specs.States.{Blocks, row_at, with_word, stored_in, lane_of, Block, Lies, Became}
use Rattle.machine_state.proofs.Laws.States.{block_set, word_set}
use Rattle.machine_state.proofs.Laws.States.{own, block_became, again, became, came}

-- the first n words of a list
pub first_words : (n : ℕ) (l : List ℕ) → n ≤ length l → firsts n (λ i. get_or l i 0) ≡ take n l
first_words zero l h = refl
first_words (suc n) [] h = absurd (omega arith)
first_words (suc n) (x ∷ l) h = ap (λ r. x ∷ r) (first_words n l (omega arith))

-- the marks in a lane's head; a write before them leaves them
abbrev marks_in : List ℕ → ℕ
marks_in r = get_or r MARKS 0 + 2 ^ 32 * get_or r HIGHMARKS 0

same_marks : (r : List ℕ) (i x : ℕ) → i < MARKS → marks_in (set r i x) ≡ marks_in r
same_marks r i x h =
    ap₂ (λ m n. m + 2 ^ 32 * n) (get_or-set_other r i MARKS x 0 (λ e. omega arith))
    (get_or-set_other r i HIGHMARKS x 0 (λ e. omega arith))

-- the lane of a block whose head is written, and of one whose three rows are
abbrev headed : List (List ℕ) → List ℕ → Stored
headed b r = record {
  at = get_or r POSITION 0;
  registers = take 8 r;
  cells = get_or b CELLS [];
  values = get_or b VALUES [];
  len = get_or r LENGTH 0;
  low = get_or r MARKS 0;
  high = get_or r HIGHMARKS 0;
}

head_lane : (b : List (List ℕ)) (r : List ℕ) → length b ≡ 3 → stored_in (set b HEAD r) ≡ headed b r
head_lane [] r e = absurd (omega arith)
head_lane (x ∷ b) r e = refl

list_lane : (b : List (List ℕ)) (c v : List ℕ) (n : ℕ) → Block b
    → stored_in (set (set (set b CELLS c) VALUES v) HEAD (set (get_or (set (set b CELLS c) VALUES v) HEAD []) LENGTH n))
    ≡ record {
      at = (stored_in b).at;
      registers = (stored_in b).registers;
      cells = c;
      values = v;
      len = n;
      low = (stored_in b).low;
      high = (stored_in b).high;
    }
list_lane [] c v n h = let z = h.rows in absurd (omega arith)
list_lane (x ∷ []) c v n h = let z = h.rows in absurd (omega arith)
list_lane (x ∷ y ∷ []) c v n h = let z = h.rows in absurd (omega arith)
list_lane (x ∷ y ∷ w ∷ b) c v n h =
    let p = get_or-set_other x LENGTH POSITION n 0 (λ e. omega arith) in
    let q = take-set-le 8 x LENGTH n (omega arith) in
    let r = get_or-set_same x LENGTH n 0 (omega (arith, h.words HEAD (omega arith))) in
    let low = get_or-set_other x LENGTH MARKS n 0 (λ e. omega arith) in
    let high = get_or-set_other x LENGTH HIGHMARKS n 0 (λ e. omega arith) in
    λ i. record { at = p i; registers = q i; cells = c; values = v; len = r i; low = low i; high = high i }

module _ (s : Blocks) (t : ℕ) (h : Lies s t) where
  pub stays : Became s t (lane_of s t) s
  stays = came (sym (set-get_or s t [])) (block_became s t h (get_or s t []) (own s t h))

  head_became : (r : List ℕ) → length r ≡ 64
      → Became s t (lane_in (headed (get_or s t []) r)) (set s t (set (get_or s t []) HEAD r))
  head_became r e =
      became (ap lane_in (head_lane (get_or s t []) r (own s t h).rows))
      (block_became s t h _ (block_set (get_or s t []) HEAD r (own s t h) (omega arith) e))

  long : length (row_at s t HEAD) ≡ 64
  long = (own s t h).words HEAD (omega arith)

  abbrev first : ℕ → List Entry
  first n = take n (entries_of (row_at s t CELLS) (row_at s t VALUES))

  pub position_set : (p : ℕ) → Became s t (placed_at (lane_of s t) p) (with_word s t HEAD POSITION p)
  position_set p =
      let w = row_at s t HEAD in
      became (lane_eq (get_or-set_same w POSITION p 0 (omega (arith, long))) (same_marks w POSITION p (omega arith))
      (take-set-le 8 w POSITION p (omega arith)) (ap first (get_or-set_other w POSITION LENGTH p 0 (λ e. omega arith))))
      (head_became (set w POSITION p) (length-set w POSITION p ∙ long))

  -- both halves of the marks
  pub marks_set : (x y ks : ℕ) → x + 2 ^ 32 * y ≡ ks
      → Became s t (with_marks (lane_of s t) ks) (with_word (with_word s t HEAD MARKS x) t HEAD HIGHMARKS y)
  marks_set x y ks e =
      let w = row_at s t HEAD in
      let b = get_or s t [] in
      let u = set w MARKS x in
      let v = set u HIGHMARKS y in
      let z = length-set u HIGHMARKS y ∙ length-set w MARKS x ∙ long in
      let kept : (i : ℕ) → i < MARKS → get_or v i 0 ≡ get_or w i 0 =
      λ i k. get_or-set_other u HIGHMARKS i y 0 (λ q. omega arith)
      ∙ get_or-set_other w MARKS i x 0 (λ q. omega arith) in
      let low : get_or v MARKS 0 ≡ x = get_or-set_other u HIGHMARKS MARKS y 0 (λ q. omega arith)
      ∙ get_or-set_same w MARKS x 0 (omega (arith, long)) in
      let high : get_or v HIGHMARKS 0 ≡ y =
      get_or-set_same u HIGHMARKS y 0 (omega (arith, length-set w MARKS x, long)) in
      came (again s t h (set b HEAD u) (λ c. set c HEAD (set (get_or c HEAD []) HIGHMARKS y))
      ∙ ap (λ r. set s t (set (set b HEAD u) HEAD (set r HIGHMARKS y)))
      (get_or-set_same b HEAD u [] (omega (arith, (own s t h).rows))) ∙ ap (set s t) (set-set b HEAD u v))
      (became (lane_eq (kept POSITION (omega arith)) (ap₂ (λ m n. m + 2 ^ 32 * n) low high ∙ e)
      (take-set-le 8 u HIGHMARKS y (omega arith) ∙ take-set-le 8 w MARKS x (omega arith))
      (ap first (kept LENGTH (omega arith))))
      (head_became v z))

  pub register_set : (a v : ℕ) → a < 8 → Became s t (with_register (lane_of s t) a v) (with_word s t HEAD a v)
  register_set a v k =
      let w = row_at s t HEAD in
      became (lane_eq (get_or-set_other w a POSITION v 0 (λ e. omega arith)) (same_marks w a v (omega arith))
      (take_set 8 w a v) (ap first (get_or-set_other w a LENGTH v 0 (λ e. omega arith))))
      (head_became (set w a v) (length-set w a v ∙ long))

  -- no such register
  pub register_past : (a v : ℕ) → 8 ≤ a → Became s t (with_register (lane_of s t) a v) s
  register_past a v k =
      let few : length (take 8 (row_at s t HEAD)) ≤ a = omega (arith, length-take 8 (row_at s t HEAD)) in
      became (lane_eq refl refl (sym (set_out (take 8 (row_at s t HEAD)) a v few)) refl) stays

  -- the cells and values are rows c and v, and then n entries are pending
  pub list_set : (e : Blocks) (c v : List ℕ) (n : ℕ) → length c ≡ 64 → length v ≡ 64
      → e ≡ set s t (set (set (get_or s t []) CELLS c) VALUES v)
      → Became s t (with_pending (lane_of s t) (take n (entries_of c v))) (with_word e t HEAD LENGTH n)
  list_set e c v n full whole q =
      let f : List (List ℕ) → List (List ℕ) = λ b. set b HEAD (set (get_or b HEAD []) LENGTH n) in
      let b = set (set (get_or s t []) CELLS c) VALUES v in
      let k : Block b =
      block_set _ VALUES v (block_set _ CELLS c (own s t h) (omega arith) full) (omega arith) whole in
      came (ap (λ z. set z t (f (get_or z t []))) q ∙ again s t h b f)
      (became (ap lane_in (list_lane (get_or s t []) c v n (own s t h)))
      (block_became s t h (f b) (word_set b HEAD LENGTH n k (omega arith))))

  -- an entry after the last of n, which are then m
  pub entry_set : (n m c v : ℕ) → n ≡ (stored_in (get_or s t [])).len → m ≡ suc n → n < 64
      → Became s t (with_pending (lane_of s t) (append_entry (lane_of s t).pending (some (entry_of c v))))
      (with_word (with_word (with_word s t CELLS n c) t VALUES n v) t HEAD LENGTH m)
  entry_set n m c v e more k =
      let cells = row_at s t CELLS in
      let values = row_at s t VALUES in
      let b = set (get_or s t []) CELLS (set cells n c) in
      let full = (own s t h).words CELLS (omega arith) in
      let whole = (own s t h).words VALUES (omega arith) in
      let es = entries_of cells values in
      let written = again s t h b (λ x. set x VALUES (set (get_or x VALUES []) n v))
      ∙ ap (λ r. set s t (set b VALUES (set r n v)))
      (get_or-set_other (get_or s t []) CELLS VALUES (set cells n c) [] (λ e. omega arith)) in
      became (ap (with_pending (lane_of s t)) (rw (more, entries_set cells values n c v)
      (take-suc-set es n (entry_of c v) (omega (arith, entries_length 64 cells values full whole))
      ∙ ap (λ m. take m es ++ (entry_of c v ∷ [])) e)))
      (list_set _ (set cells n c) (set values n v) m (length-set cells n c ∙ full)
      (length-set values n v ∙ whole) written)
