-- What the code can write: lock words that fit a byte each, and entries that name 16 locations and four locks.
use Rattle.std.specs.Prelude.{ℕ, ◌<◌, List, get_or}
use Rattle.machine_spec.specs.State.{State, lane_at}
use Rattle.machine_spec.specs.Shape.{AllSmall}

-- each lock word fits a byte
abbrev pub SmallLocks : List ℕ → Type 0
SmallLocks locks = (i : ℕ) → get_or locks i 0 < 256

-- each entry names one of 16 locations or one of four locks
abbrev pub SmallEntries : State → Type 0
SmallEntries s = (t : ℕ) → AllSmall 16 4 (lane_at s t).pending

pub record Small (s : State) : Type 0 where
  pub locks : SmallLocks s.locks
  pub entries : SmallEntries s
