-- Where the fields of the state record lie, as docs/FORMATS.md lays them out. Numbers are little-endian.
use Rattle.std.specs.Prelude.{ℕ, ◌+◌, ◌*◌}

-- one byte
abbrev pub finished_from : ℕ
finished_from = 0

-- the word of lock l, one byte
abbrev pub lock_from : ℕ → ℕ
lock_from l = 4 + l

-- the counts of moves, eight bytes each
abbrev pub done_from : ℕ
done_from = 8

abbrev pub waited_from : ℕ
waited_from = 16

-- the value at location x, four bytes
abbrev pub memory_from : ℕ → ℕ
memory_from x = 24 + 4 * x

-- lane t of four; behind the fourth the record ends
abbrev pub lane_size : ℕ
lane_size = 548

abbrev pub lane_from : ℕ → ℕ
lane_from t = 88 + lane_size * t

-- its position, and how many entries are pending, two bytes each
abbrev pub position_from : ℕ → ℕ
position_from t = lane_from t

abbrev pub count_from : ℕ → ℕ
count_from t = lane_from t + 2

-- its register r, four bytes
abbrev pub register_from : ℕ → ℕ → ℕ
register_from t r = lane_from t + 4 + 4 * r

-- the entry that has i older ones, eight bytes
abbrev pub entry_from : ℕ → ℕ → ℕ
entry_from t i = lane_from t + 36 + 8 * i
