-- What a state record says: read from its bytes, and of the answer that it was written from.
use Rattle.std.specs.Prelude.{ℕ, ◌+◌, ◌^◌, ◌<◌, ◌≤◌, ◌≡◌, Bool, cond, List, eqb, length, get_or}
use Rattle.file_format.specs.Fields.{byte, word, quad}
use Rattle.machine_spec.specs.Entries.{Entry, write, release}
use Rattle.machine_spec.specs.Marks.{mark_at}
use Rattle.machine_spec.specs.State.{lane_at, pos_at}
use Rattle.machine_spec.specs.Run.{Answer}
use Rattle.machine_lane.specs.Lanes.{no_entry}
use Rattle.machine_record.specs.Places.{finished_from, lock_from, done_from, waited_from, memory_from}
use Rattle.machine_record.specs.Places.{position_from, count_from, register_from, entry_from}
use Rattle.machine_record.specs.SmallStates.{SmallEntries}

-- of the whole run, then of lane t
pub record Fields : Type 0 where
  pub finished : Bool
  pub done : ℕ
  pub waited : ℕ
  pub lock : (l : ℕ) → ℕ
  pub memory : (x : ℕ) → ℕ
  pub position : (t : ℕ) → ℕ
  pub count : (t : ℕ) → ℕ
  pub register : (t r : ℕ) → ℕ
  pub entry : (t i : ℕ) → Entry
  pub mark : (t i : ℕ) → Bool

-- the entry whose bytes begin at `from`: kind 1 is a store
abbrev pub entry_in : List ℕ → ℕ → Entry
entry_in s from =
    cond (eqb (byte s from) 1) (write (byte s (from + 1)) (quad s (from + 4))) (release (byte s (from + 1)))

-- from the bytes of a record; of the counts of moves the low halves
abbrev pub fields_in : List ℕ → Fields
fields_in s = record {
  finished = eqb (byte s finished_from) 1;
  done = quad s done_from;
  waited = quad s waited_from;
  lock = λ l. byte s (lock_from l);
  memory = λ x. quad s (memory_from x);
  position = λ t. word s (position_from t);
  count = λ t. word s (count_from t);
  register = λ t r. quad s (register_from t r);
  entry = λ t i. entry_in s (entry_from t i);
  mark = λ t i. eqb (byte s (entry_from t i + 2)) 1;
}

-- of an answer
abbrev pub fields_of : Answer → Fields
fields_of a = record {
  finished = a.finished;
  done = a.done;
  waited = a.waited;
  lock = λ l. get_or a.state.locks l 0;
  memory = λ x. get_or a.state.memory x 0;
  position = λ t. pos_at a.state t;
  count = λ t. length (lane_at a.state t).pending;
  register = λ t r. get_or (lane_at a.state t).regs r 0;
  entry = λ t i. get_or (lane_at a.state t).pending i no_entry;
  mark = λ t i. mark_at (lane_at a.state t).control.marks i;
}

-- the same wherever a record has room for it
pub record Same (f g : Fields) : Type 0 where
  pub finished : f.finished ≡ g.finished
  pub done : f.done ≡ g.done
  pub waited : f.waited ≡ g.waited
  pub lock : (l : ℕ) → l < 4 → f.lock l ≡ g.lock l
  pub memory : (x : ℕ) → x < 16 → f.memory x ≡ g.memory x
  pub position : (t : ℕ) → t < 4 → f.position t ≡ g.position t
  pub count : (t : ℕ) → t < 4 → f.count t ≡ g.count t
  pub register : (t r : ℕ) → t < 4 → r < 8 → f.register t r ≡ g.register t r
  pub entry : (t i : ℕ) → t < 4 → i < g.count t → f.entry t i ≡ g.entry t i
  pub mark : (t i : ℕ) → t < 4 → i < g.count t → f.mark t i ≡ g.mark t i

-- an answer that a record tells in full
pub record Fits (a : Answer) : Type 0 where
  pub lanes : length a.state.lanes ≤ 4
  pub locations : length a.state.memory ≤ 16
  pub locks : length a.state.locks ≤ 4
  pub done : a.done < 2 ^ 32
  pub waited : a.waited < 2 ^ 32
  pub memory : (x : ℕ) → get_or a.state.memory x 0 < 2 ^ 32
  pub position : (t : ℕ) → pos_at a.state t < 2 ^ 16
  pub pending : (t : ℕ) → length (lane_at a.state t).pending ≤ 64
  pub registers : (t r : ℕ) → get_or (lane_at a.state t).regs r 0 < 2 ^ 32
  pub entries : SmallEntries a.state
