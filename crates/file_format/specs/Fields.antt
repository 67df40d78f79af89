-- The fields of a kernel file, read from its bytes. Past the end every byte reads as 0.
use Rattle.std.specs.Prelude.{ℕ, ◌+◌, ◌*◌, List, [], ◌∷◌, get_or}

abbrev pub byte : List ℕ → ℕ → ℕ
byte s i = get_or s i 0

-- a 16-bit field, and a 32-bit one
abbrev pub word : List ℕ → ℕ → ℕ
word s i = get_or s i 0 + 256 * get_or s (i + 1) 0

abbrev pub quad : List ℕ → ℕ → ℕ
quad s i = word s i + 65536 * word s (i + 2)

-- the header
abbrev pub lane_count : List ℕ → ℕ
lane_count s = byte s 0

abbrev pub locations : List ℕ → ℕ
locations s = byte s 1

abbrev pub locks : List ℕ → ℕ
locks s = byte s 2

abbrev pub mask : List ℕ → ℕ
mask s = word s 4

abbrev pub record_count : List ℕ → ℕ
record_count s = word s 6

abbrev pub head : List ℕ → ℕ → ℕ
head s t = word s (8 + 2 * t)

abbrev pub heads : List ℕ → List ℕ
heads s = head s 0 ∷ head s 1 ∷ head s 2 ∷ head s 3 ∷ []

-- where record i, counted from 1, starts: at 16 + 12 × (i − 1)
abbrev pub start : ℕ → ℕ
start i = 4 + 12 * i

-- record i
abbrev pub operation : List ℕ → ℕ → ℕ
operation s i = byte s (start i)

abbrev pub register_a : List ℕ → ℕ → ℕ
register_a s i = byte s (start i + 1)

abbrev pub operand_b : List ℕ → ℕ → ℕ
operand_b s i = byte s (start i + 2)

abbrev pub reserved : List ℕ → ℕ → ℕ
reserved s i = byte s (start i + 3)

abbrev pub constant : List ℕ → ℕ → ℕ
constant s i = quad s (start i + 4)

abbrev pub target : List ℕ → ℕ → ℕ
target s i = word s (start i + 8)

abbrev pub next : List ℕ → ℕ → ℕ
next s i = word s (start i + 10)
