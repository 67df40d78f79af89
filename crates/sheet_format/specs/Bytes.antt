-- The bytes of a sheet, and what lowering answers and leaves in the output buffer.
use Rattle.std.specs.Prelude.{ℕ, ◌/◌, ◌%◌, cond, List, [], ◌∷◌, ◌++◌, map, ltb, length, get_or, drop}
use Rattle.std.specs.Prelude.{Option, Some, None, Result, Ok, Err}
use Rattle.file_format.specs.declared.accepted.Op.{Op}
use Rattle.file_format.specs.declared.accepted.Op.TheVariants.{Set, Add, Load, Store, Lock, Unlock, Skip}
use Rattle.file_format.specs.Accepted.{Program}
use Rattle.file_verdict.specs.Verdict.{Verdict, refused, accepted, verdict}
use Rattle.barrier_placement.specs.declared.cookbook.Barrier.{Barrier}
use Rattle.barrier_placement.specs.declared.cookbook.Barrier.TheVariants.{LL, LS, SS, SL}
use Rattle.barrier_placement.specs.Cookbook.{code_of}
use Rattle.file_verdict.specs.declared.refusal.Refusal.{Refusal}
use Rattle.file_verdict.specs.declared.refusal.Refusal.TheVariants.{ShortBuffer}
use Rattle.sheet_format.specs.Layout.{Instr, op, barrier}
use Rattle.sheet_format.specs.declared.Level.{Level}
use Rattle.sheet_format.specs.declared.Level.TheVariants.{Level0, Level1, Level2, Level3}
use Rattle.sheet_format.specs.Levels.{sheet_lanes}

-- little-endian, of 16 and of 32 bits
abbrev pub word_bytes : ℕ → List ℕ
word_bytes n = n % 256 ∷ n / 256 % 256 ∷ []

abbrev pub quad_bytes : ℕ → List ℕ
quad_bytes n = word_bytes n ++ word_bytes (n / 65536)

-- operation, a, b, zero, then the constant, or for SKIP the target's position
abbrev pub row : ℕ → ℕ → ℕ → ℕ → List ℕ
row o a b c = o ∷ a ∷ b ∷ 0 ∷ quad_bytes c

abbrev pub op_bytes : Op → List ℕ
op_bytes (Set a c) = row 1 a 0 c
op_bytes (Add a b) = row 2 a b 0
op_bytes (Load a x) = row 3 a x 0
op_bytes (Store a x) = row 4 a x 0
op_bytes (Lock l) = row 5 0 l 0
op_bytes (Unlock l) = row 6 0 l 0
op_bytes (Skip a t) = row 7 a 0 t

-- level 2 writes 14, SL, as 15, MFENCE; level 3 writes 13 and 14 as level 1 does
abbrev pub barrier_code : Level → Barrier → ℕ
barrier_code Level0 b = code_of b
barrier_code Level1 b = code_of b
barrier_code Level2 LL = 11
barrier_code Level2 LS = 12
barrier_code Level2 SS = 13
barrier_code Level2 SL = 15
barrier_code Level3 b = code_of b

abbrev pub instr_bytes : Level → Instr → List ℕ
instr_bytes l (op o) = op_bytes o
instr_bytes l (barrier b) = row (barrier_code l b) 0 0 0

abbrev pub joined : List (List ℕ) → List ℕ
joined [] = []
joined (x ∷ xs) = x ++ joined xs

abbrev pub lane_bytes : Level → List Instr → List ℕ
lane_bytes l is = joined (map (instr_bytes l) is)

abbrev pub level_number : Level → ℕ
level_number Level0 = 0
level_number Level1 = 1
level_number Level2 = 2
level_number Level3 = 3

-- the mask is zero at the levels of the targets
abbrev pub mask_at : Level → Program → ℕ
mask_at Level0 k = k.mask
mask_at Level1 k = k.mask
mask_at Level2 k = 0
mask_at Level3 k = 0

-- a lane's instruction count in two bytes, zero for lanes that are not there
abbrev pub count_bytes : List (List Instr) → ℕ → List ℕ
count_bytes lanes t = word_bytes (length (get_or lanes t []))

-- T, L, K, level, mask, two zero bytes, four counts
abbrev pub header_by : ℕ → ℕ → ℕ → ℕ → ℕ → List (List Instr) → List ℕ
header_by t ls ks level mask lanes =
    t ∷ ls ∷ ks ∷ level ∷ word_bytes mask ++ 0 ∷ 0 ∷ joined (map (count_bytes lanes) (0 ∷ 1 ∷ 2 ∷ 3 ∷ []))

abbrev pub header : Level → Program → List (List Instr) → List ℕ
header l k = header_by (length k.lanes) k.locations k.locks (level_number l) (mask_at l k)

unfoldable pub sheet_bytes : Level → Program → List ℕ
sheet_bytes l k = header l k (sheet_lanes l k) ++ joined (map (lane_bytes l) (sheet_lanes l k))

-- what is written from the front, and behind it what was there
abbrev pub over : List ℕ → List ℕ → List ℕ
over bytes buffer = bytes ++ drop (length bytes) buffer

-- the answer of what writes into an output buffer: the bytes written, or the refusal
abbrev pub WriteResult : Type 0
WriteResult = Result ℕ Refusal

-- the answer, and the output buffer after; 9 where it is shorter than the bytes
abbrev pub write_into : List ℕ → List ℕ → WriteResult × List ℕ
write_into bytes buffer =
    cond (ltb (length buffer) (length bytes)) (Err ShortBuffer, buffer)
    (Ok (length bytes), over bytes buffer)

-- where nothing refuses, so many bytes that leave the buffer like this; else the buffer as it was
abbrev pub unless_refused : Option Refusal → ℕ → List ℕ → List ℕ → WriteResult × List ℕ
unless_refused None n after buffer = (Ok n, after)
unless_refused (Some r) n after buffer = (Err r, buffer)

-- a file's refusal, or the bytes of an accepted kernel
abbrev pub answer_by : (Program → List ℕ) → Verdict → List ℕ → WriteResult × List ℕ
answer_by bytes (refused r) buffer = (Err r, buffer)
answer_by bytes (accepted k) buffer = write_into (bytes k) buffer

abbrev pub lower_by : Level → Verdict → List ℕ → WriteResult × List ℕ
lower_by l = answer_by (sheet_bytes l)

abbrev pub lower1 : List ℕ → List ℕ → WriteResult × List ℕ
lower1 s = lower_by Level1 (verdict s)

abbrev pub lower2 : List ℕ → List ℕ → WriteResult × List ℕ
lower2 s = lower_by Level2 (verdict s)

abbrev pub lower3 : List ℕ → List ℕ → WriteResult × List ℕ
lower3 s = lower_by Level3 (verdict s)
