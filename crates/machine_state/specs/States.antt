-- The state of the text that the borrowed array holds, and what a write to it makes of it.
use Rattle.std.specs.Prelude.{ℕ, zero, suc, ◌<◌, ◌≡◌, List, [], ◌∷◌, map, length, get_or, take, set as update}
use Rattle.machine_spec.specs.Step.{Core}
use Rattle.machine_spec.specs.State.{Lane, State}
use Rattle.machine_lane.specs.declared.lane.Lane.{Lane as Stored}
use Rattle.machine_lane.specs.Lanes.{lane_in}

-- ## the layout: blocks of rows of words, four lanes and what they share. Names as in src/state.rt

abbrev pub Blocks : Type 0
Blocks = List (List (List ℕ))

-- the rows of a lane
abbrev pub HEAD : ℕ
HEAD = 0

abbrev pub CELLS : ℕ
CELLS = 1

abbrev pub VALUES : ℕ
VALUES = 2

-- the words of a lane's head after its eight registers
abbrev pub POSITION : ℕ
POSITION = 8

abbrev pub LENGTH : ℕ
LENGTH = 9

-- the low and the high half of the marks
abbrev pub MARKS : ℕ
MARKS = 10

abbrev pub HIGHMARKS : ℕ
HIGHMARKS = 11

-- the shared block, and its rows
abbrev pub SHARED : ℕ
SHARED = 4

abbrev pub MEMORY : ℕ
MEMORY = 0

abbrev pub LOCKWORDS : ℕ
LOCKWORDS = 1

abbrev pub COUNTS : ℕ
COUNTS = 2

-- the words of the counts
abbrev pub LANES : ℕ
LANES = 0

abbrev pub LOCATIONS : ℕ
LOCATIONS = 1

abbrev pub LOCKS : ℕ
LOCKS = 2

abbrev pub row_at : Blocks → ℕ → ℕ → List ℕ
row_at s t j = get_or (get_or s t []) j []

abbrev pub word_at : Blocks → ℕ → ℕ → ℕ → ℕ
word_at s t j i = get_or (row_at s t j) i 0

-- the first n values of f
abbrev pub firsts : ℕ → (ℕ → ℕ) → List ℕ
firsts zero f = []
firsts (suc n) f = f 0 ∷ firsts n (λ i. f (suc i))

-- with another word
abbrev pub with_word : Blocks → ℕ → ℕ → ℕ → ℕ → Blocks
with_word s t j i x = update s t (update (get_or s t []) j (update (row_at s t j) i x))

-- ## what it holds

-- the lane of a block
abbrev pub stored_in : List (List ℕ) → Stored
stored_in b =
    record {
      at = get_or (get_or b HEAD []) POSITION 0;
      registers = take 8 (get_or b HEAD []);
      cells = get_or b CELLS [];
      values = get_or b VALUES [];
      len = get_or (get_or b HEAD []) LENGTH 0;
      low = get_or (get_or b HEAD []) MARKS 0;
      high = get_or (get_or b HEAD []) HIGHMARKS 0;
    }

abbrev pub lane_of : Blocks → ℕ → Lane
lane_of s t = lane_in (stored_in (get_or s t []))

-- how many lanes, locations or locks there are
abbrev pub count_of : Blocks → ℕ → ℕ
count_of s j = word_at s SHARED COUNTS j

abbrev pub state_in : Blocks → State
state_in s =
    record {
      lanes = take (count_of s LANES) (map (λ b. lane_in (stored_in b)) (take 4 s));
      memory = take (count_of s LOCATIONS) (row_at s SHARED MEMORY);
      locks = take (count_of s LOCKS) (row_at s SHARED LOCKWORDS);
    }

abbrev pub core_in : Blocks → ℕ → Core
core_in s t =
    record {
      regs = (lane_of s t).regs;
      pending = (lane_of s t).pending;
      memory = (state_in s).memory;
      locks = (state_in s).locks;
    }

-- ## sizes, as the array's type has them

pub record Block (b : List (List ℕ)) : Type 0 where
  pub rows : length b ≡ 3
  pub words : (j : ℕ) → j < 3 → length (get_or b j []) ≡ 64

pub record Sized (s : Blocks) : Type 0 where
  pub blocks : length s ≡ 5
  pub each : (t : ℕ) → t < 5 → Block (get_or s t [])

-- lane t of four
pub record Lies (s : Blocks) (t : ℕ) : Type 0 where
  pub lane : t < 4
  pub sized : Sized s

-- ## writes

abbrev pub with_lane : State → ℕ → Lane → State
with_lane s t l = record { lanes = update s.lanes t l; memory = s.memory; locks = s.locks }

-- s became e: the same but for lane t, which is l
pub record Became (s : Blocks) (t : ℕ) (l : Lane) (e : Blocks) : Type 0 where
  pub sized : Sized e
  pub lane : lane_of e t ≡ l
  pub lanes : count_of e LANES ≡ count_of s LANES
  pub state : state_in e ≡ with_lane (state_in s) t l

-- s became e: the same but for memory and the lock words
pub record Shared (s : Blocks) (memory locks : List ℕ) (e : Blocks) : Type 0 where
  pub sized : Sized e
  pub each : (t : ℕ) → t < 4 → get_or e t [] ≡ get_or s t []
  pub lanes : count_of e LANES ≡ count_of s LANES
  pub state : state_in e ≡ record { lanes = (state_in s).lanes; memory = memory; locks = locks }
