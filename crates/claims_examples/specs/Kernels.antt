-- The bytes of the kernel files that the examples speak of.
use Rattle.std.specs.Prelude.{ℕ, suc, ◌+◌, List, [], ◌∷◌, ◌++◌, length, replicate}

-- a record without its next: operation, register a, operand b, constant, target; here each below 256
pub record Rec : Type 0 where
  pub code : ℕ
  pub a : ℕ
  pub b : ℕ
  pub constant : ℕ
  pub target : ℕ

abbrev pub rec : ℕ → ℕ → ℕ → Rec
rec o a b = record { code = o; a = a; b = b; constant = 0; target = 0 }

-- a record followed by record n
abbrev pub rec_bytes : Rec → ℕ → List ℕ
rec_bytes r n = r.code ∷ r.a ∷ r.b ∷ 0 ∷ r.constant ∷ 0 ∷ 0 ∷ 0 ∷ r.target ∷ 0 ∷ n ∷ 0 ∷ []

-- records i, i + 1, .., each followed by the next one, and the last by none
abbrev pub linked : ℕ → List Rec → List ℕ
linked i [] = []
linked i (r ∷ []) = rec_bytes r 0
linked i (r ∷ q ∷ rs) = rec_bytes r (suc i) ++ linked (suc i) (q ∷ rs)

-- the head of a lane whose records begin at i
abbrev pub head_of : ℕ → List Rec → ℕ
head_of i [] = 0
head_of i (r ∷ rs) = i

-- t lanes, ls locations, ks locks, a mask of 8 bits, n records, the heads of the first two lanes
abbrev pub file_header : ℕ → ℕ → ℕ → ℕ → ℕ → ℕ → ℕ → List ℕ
file_header t ls ks mask n g h = t ∷ ls ∷ ks ∷ 0 ∷ mask ∷ 0 ∷ n ∷ 0 ∷ g ∷ 0 ∷ h ∷ 0 ∷ 0 ∷ 0 ∷ 0 ∷ 0 ∷ []

-- a file of one lane, and of two
abbrev pub single : ℕ → ℕ → ℕ → List Rec → List ℕ
single ls ks mask rs = file_header 1 ls ks mask (length rs) (head_of 1 rs) 0 ++ linked 1 rs

abbrev pub double : ℕ → ℕ → ℕ → List Rec → List Rec → List ℕ
double ls ks mask rs qs =
    file_header 2 ls ks mask (length rs + length qs) (head_of 1 rs) (head_of (suc (length rs)) qs)
    ++ linked 1 rs ++ linked (suc (length rs)) qs

-- SET register 0 to 1
abbrev set1 : Rec
set1 = record { code = 1; a = 0; b = 0; constant = 1; target = 0 }

-- lane 0 is SET 0 to 1, STORE 0 to location 0, LOAD 1 from location 1; lane 1 is the mirror
abbrev pub store_buffering : ℕ → List ℕ
store_buffering mask = double 2 0 mask (set1 ∷ rec 4 0 0 ∷ rec 3 1 1 ∷ []) (set1 ∷ rec 4 0 1 ∷ rec 3 1 0 ∷ [])

-- one lane over a plain location 0, a volatile location 1 and one lock
abbrev pub lane : List Rec → List ℕ
lane = single 2 1 2

abbrev pub PL : Rec
PL = rec 3 0 0

abbrev pub PS : Rec
PS = rec 4 0 0

abbrev pub VL : Rec
VL = rec 3 0 1

abbrev pub VS : Rec
VS = rec 4 0 1

abbrev pub LOCK : Rec
LOCK = rec 5 0 0

abbrev pub UNLOCK : Rec
UNLOCK = rec 6 0 0

-- locks a, then b, released in the other order
abbrev pub nested : ℕ → ℕ → List Rec
nested a b = rec 5 0 a ∷ rec 5 0 b ∷ rec 6 0 b ∷ rec 6 0 a ∷ []

-- two lanes over two locks
abbrev pub locking : List Rec → List Rec → List ℕ
locking = double 1 2 0

-- a SKIP to record t
abbrev pub skip_to : ℕ → Rec
skip_to t = record { code = 7; a = 0; b = 0; constant = 0; target = t }

abbrev pub sets : ℕ → List Rec
sets n = replicate n (rec 1 0 0)
