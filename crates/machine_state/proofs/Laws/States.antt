-- Laws of the borrowed array: its sizes, a block that is written, one write after another.
use Prim.Native.Nat.{ℕ, min, ◌<◌, ◌≤◌}
use mathlib.Core.Path.{◌≡◌, ap, sym, subst, ◌∙◌}
use mathlib.Core.List.{List, [], map}
use native.Mathlib.Omega.{arith}
use lib.ListN.{length, get_or, take, set, length-set, length-take}
use lib.Seq.{get_or-set_same, get_or-set_other, set-set, set-get_or, set_out, take-set-le}
use Rattle.laws.proofs.Lists.{map_set, set_all}
use Rattle.laws.proofs.Parts.{take_set}
use Rattle.machine_spec.specs.State.{Lane}
use Rattle.machine_lane.specs.Lanes.{entries_of, lane_in}
use Rattle.machine_lane.proofs.Laws.Entries.{entries_length}
use Rattle.machine_state.specs.States.{CELLS, VALUES, SHARED, MEMORY, LOCKWORDS, COUNTS}
use Rattle.machine_state.specs.States.{LANES, LOCATIONS, LOCKS}
use Rattle.machine_state.specs.States.{Blocks, row_at, with_word, stored_in, lane_of, count_of, state_in}
use Rattle.machine_state.specs.States.{Block, Sized, Lies, with_lane, Became, Shared}

-- ## sizes

pub block_set : (b : List (List ℕ)) (j : ℕ) (r : List ℕ) → Block b → j < 3 → length r ≡ 64 → Block (set b j r)
block_set b j r h k e = record {
  rows = length-set b j r ∙ h.rows;
  words = set_all (λ i x. i < 3 → length x ≡ 64) [] b j r h.words (λ l. e);
}

pub word_set : (b : List (List ℕ)) (j i x : ℕ) → Block b → j < 3 → Block (set b j (set (get_or b j []) i x))
word_set b j i x h k = block_set b j _ h k (length-set (get_or b j []) i x ∙ h.words j k)

sized_set : (s : Blocks) (t : ℕ) (b : List (List ℕ)) → Sized s → t < 5 → Block b → Sized (set s t b)
sized_set s t b h k e = record {
  blocks = length-set s t b ∙ h.blocks;
  each = set_all (λ i x. i < 5 → Block x) [] s t b h.each (λ l. e);
}

-- past a row's end nothing is written
pub word_past : (s : Blocks) (t j i x : ℕ) → length (row_at s t j) ≤ i → with_word s t j i x ≡ s
word_past s t j i x h =
    ap (λ r. set s t (set (get_or s t []) j r)) (set_out (row_at s t j) i x h)
    ∙ ap (set s t) (set-get_or (get_or s t []) j [])
    ∙ set-get_or s t []

-- ## a lane's block is written

module _ (s : Blocks) (t : ℕ) (h : Lies s t) where
  inside : t < length s
  inside = omega (arith, h.lane, h.sized.blocks)

  pub own : Block (get_or s t [])
  own = h.sized.each t (omega (arith, h.lane))

  pub block_became : (b : List (List ℕ)) → Block b → Became s t (lane_in (stored_in b)) (set s t b)
  block_became b k =
      let f : List (List ℕ) → Lane = λ x. lane_in (stored_in x) in
      let other : get_or (set s t b) SHARED [] ≡ get_or s SHARED [] =
      get_or-set_other s t SHARED b [] (λ e. omega (arith, h.lane)) in
      let n = count_of s LANES in
      let put : take n (map f (take 4 (set s t b))) ≡ set (take n (map f (take 4 s))) t (f b) =
      ap (λ l. take n (map f l)) (take_set 4 s t b) ∙ ap (take n) (map_set f (take 4 s) t b)
      ∙ take_set n (map f (take 4 s)) t (f b) in
      let lanes : (state_in (set s t b)).lanes ≡ set (take n (map f (take 4 s))) t (f b) =
      ap (λ c. take (get_or (get_or c COUNTS []) LANES 0) (map f (take 4 (set s t b)))) other ∙ put in
      record {
        sized = sized_set s t b h.sized (omega (arith, h.lane)) k;
        lane = ap f (get_or-set_same s t b [] inside);
        lanes = ap (λ c. get_or (get_or c COUNTS []) LANES 0) other;
        state = λ i. record {
          lanes = lanes i;
          memory = take (get_or (get_or (other i) COUNTS []) LOCATIONS 0) (get_or (other i) MEMORY []);
          locks = take (get_or (get_or (other i) COUNTS []) LOCKS 0) (get_or (other i) LOCKWORDS []);
        };
      }

  -- a second write to the block
  pub again : (b : List (List ℕ)) (f : List (List ℕ) → List (List ℕ))
      → set (set s t b) t (f (get_or (set s t b) t [])) ≡ set s t (f b)
  again b f = ap (λ x. set (set s t b) t (f x)) (get_or-set_same s t b [] inside) ∙ set-set s t b (f b)

  -- the number of entries pending
  pub pending_count_lem : length (lane_of s t).pending ≡ min (stored_in (get_or s t [])).len 64
  pending_count_lem =
      length-take (stored_in (get_or s t [])).len (entries_of (row_at s t CELLS) (row_at s t VALUES))
      ∙ ap (min (stored_in (get_or s t [])).len) (entries_length 64 (row_at s t CELLS) (row_at s t VALUES)
      (own.words CELLS (omega arith)) (own.words VALUES (omega arith)))

  pub pending_low : (i : ℕ) → i < length (lane_of s t).pending → i < 64
  pending_low i k = omega (arith, pending_count_lem, k)

-- a lane that came out equal, an array that came out equal, one write after another
pub became : {s e : Blocks} {t : ℕ} {l k : Lane} → l ≡ k → Became s t l e → Became s t k e
became {s} {e} {t} q b = subst (λ l. Became s t l e) q b

pub came : {s e f : Blocks} {t : ℕ} {l : Lane} → e ≡ f → Became s t l f → Became s t l e
came {s} {t = t} {l} q b = subst (Became s t l) (sym q) b

pub then_became : {s e f : Blocks} {t : ℕ} {l k : Lane} → Became s t l e → Became e t k f → Became s t k f
then_became {s} {t = t} {l} {k} b c = record {
  sized = c.sized;
  lane = c.lane;
  lanes = c.lanes ∙ b.lanes;
  state = c.state ∙ ap (λ x. with_lane x t k) b.state
      ∙ λ i. record {
        lanes = set-set (state_in s).lanes t l k i;
        memory = (state_in s).memory;
        locks = (state_in s).locks;
      };
}

-- ## a word of memory or a lock word is written

-- equal memory and lock words
pub shared : {s e : Blocks} {m n l k : List ℕ} → m ≡ n → l ≡ k → Shared s m l e → Shared s n k e
shared {s} {e} {m} {n} {l} {k} p q x = subst (λ a. Shared s a k e) p (subst (λ a. Shared s m a e) q x)

module _ (s : Blocks) (h : Sized s) where
  block : Block (get_or s SHARED [])
  block = h.each SHARED (omega arith)

  block_shared : (b : List (List ℕ)) → Block b → get_or b COUNTS [] ≡ row_at s SHARED COUNTS
      → Shared s (take (count_of s LOCATIONS) (get_or b MEMORY [])) (take (count_of s LOCKS) (get_or b LOCKWORDS []))
      (set s SHARED b)
  block_shared b k same =
      let now-is = get_or-set_same s SHARED b [] (omega (arith, h.blocks)) in
      let counts : row_at (set s SHARED b) SHARED COUNTS ≡ row_at s SHARED COUNTS =
      ap (λ x. get_or x COUNTS []) now-is ∙ same in
      record {
        sized = sized_set s SHARED b h (omega arith) k;
        each = λ t l. get_or-set_other s SHARED t b [] (λ e. omega arith);
        lanes = ap (λ r. get_or r LANES 0) counts;
        state = λ i. record {
          lanes = take (get_or (counts i) LANES 0)
              (map (λ x. lane_in (stored_in x)) (take-set-le 4 s SHARED b (omega arith) i));
          memory = take (get_or (counts i) LOCATIONS 0) (get_or (now-is i) MEMORY []);
          locks = take (get_or (counts i) LOCKS 0) (get_or (now-is i) LOCKWORDS []);
        };
      }

  module _ (i x : ℕ) where
    same_row : (j k : ℕ) → (k ≡ j → ⊥)
        → get_or (set (get_or s SHARED []) j (set (row_at s SHARED j) i x)) k [] ≡ row_at s SHARED k
    same_row j k n = get_or-set_other (get_or s SHARED []) j k _ [] n

    new_row : (j n : ℕ) → j < 3
        → take n (get_or (set (get_or s SHARED []) j (set (row_at s SHARED j) i x)) j [])
        ≡ set (take n (row_at s SHARED j)) i x
    new_row j n k =
        ap (take n) (get_or-set_same (get_or s SHARED []) j _ [] (omega (arith, block.rows)))
        ∙ take_set n (row_at s SHARED j) i x

    pub memory_set : Shared s (set (state_in s).memory i x) (state_in s).locks (with_word s SHARED MEMORY i x)
    memory_set = shared
        (new_row MEMORY (count_of s LOCATIONS) (omega arith))
        (ap (take (count_of s LOCKS)) (same_row MEMORY LOCKWORDS (λ e. omega arith)))
        (block_shared _ (word_set _ MEMORY i x block (omega arith)) (same_row MEMORY COUNTS (λ e. omega arith)))

    pub lock_set : Shared s (state_in s).memory (set (state_in s).locks i x) (with_word s SHARED LOCKWORDS i x)
    lock_set = shared
        (ap (take (count_of s LOCATIONS)) (same_row LOCKWORDS MEMORY (λ e. omega arith)))
        (new_row LOCKWORDS (count_of s LOCKS) (omega arith))
        (block_shared _ (word_set _ LOCKWORDS i x block (omega arith))
        (same_row LOCKWORDS COUNTS (λ e. omega arith)))
