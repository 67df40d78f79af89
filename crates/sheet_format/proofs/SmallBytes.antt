-- Every byte of a lawful kernel's sheet is below 256: theorem `sheet_bytes_small`.
use Prim.Native.Nat.{ℕ, zero, suc, ◌%◌, ◌/◌, ◌<◌}
use native.Mathlib.Omega.{arith}
use mathlib.Core.List.{List, [], ◌∷◌, ◌++◌, map}
use lib.ListN.{length, get_or}
use Rattle.file_format.specs.declared.accepted.Op.TheVariants.{Set, Add, Load, Store, Lock, Unlock, Skip}
use Rattle.file_format.specs.Accepted.{Program}
use Rattle.file_format.specs.Lawful.{Lawful}
use Rattle.barrier_placement.specs.declared.cookbook.Barrier.{Barrier}
use Rattle.barrier_placement.specs.declared.cookbook.Barrier.TheVariants.{LL, LS, SS, SL}
use Rattle.barrier_placement.specs.Cookbook.{code_of}
use Rattle.sheet_format.specs.Layout.{Instr, op, barrier}
use Rattle.sheet_format.specs.declared.Level.{Level}
use Rattle.sheet_format.specs.declared.Level.TheVariants.{Level0, Level1, Level2, Level3}
use Rattle.sheet_format.specs.Levels.{sheet_lanes}
use Rattle.sheet_format.specs.Bytes.{word_bytes, quad_bytes, row, instr_bytes, joined, lane_bytes, header, sheet_bytes}
use Rattle.sheet_format.specs.Bytes.{barrier_code, level_number, mask_at, count_bytes}
use Rattle.sheet_format.proofs.Laws.Cells.{Each}
use Rattle.sheet_format.proofs.Fitting.{Fits, LaneFits, lanes_fit}

-- each is a byte
infixr 20 ◌▸◌
pub data Small : List ℕ → Type 0 where
  none : Small []
  ◌▸◌ : {x : ℕ} {xs : List ℕ} → x < 256 → Small xs → Small (x ∷ xs)

pub small_append : {xs ys : List ℕ} → Small xs → Small ys → Small (xs ++ ys)
small_append none g = g
small_append (x ▸ h) g = x ▸ small_append h g

pub small_at : {xs : List ℕ} → Small xs → (i : ℕ) → get_or xs i 0 < 256
small_at none i = omega arith
small_at (x ▸ h) zero = x
small_at (x ▸ h) (suc i) = small_at h i

low : (n : ℕ) → n % 256 < 256
low n = omega arith

pub word_small : (n : ℕ) → Small (word_bytes n)
word_small n = low n ▸ low (n / 256) ▸ none

pub quad_small : (n : ℕ) → Small (quad_bytes n)
quad_small n = small_append (word_small n) (word_small (n / 65536))

pub zero_small : 0 < 256
zero_small = omega arith

row_small : (o a b c : ℕ) → o < 256 → a < 256 → b < 256 → Small (row o a b c)
row_small o a b c ho ha hb = ho ▸ ha ▸ hb ▸ zero_small ▸ quad_small c

own_small : (b : Barrier) → code_of b < 256
own_small LL = omega arith
own_small LS = omega arith
own_small SS = omega arith
own_small SL = omega arith

code_small : (l : Level) (b : Barrier) → barrier_code l b < 256
code_small Level0 b = own_small b
code_small Level1 b = own_small b
code_small Level2 LL = omega arith
code_small Level2 LS = omega arith
code_small Level2 SS = omega arith
code_small Level2 SL = omega arith
code_small Level3 b = own_small b

instr_small : (l : Level) (i : Instr) → Fits i → Small (instr_bytes l i)
instr_small l (op (Set a c)) h = row_small 1 a 0 c (omega arith) h.0 (omega arith)
instr_small l (op (Add a b)) h = row_small 2 a b 0 (omega arith) h.0 h.1
instr_small l (op (Load a x)) h = row_small 3 a x 0 (omega arith) h.0 h.1
instr_small l (op (Store a x)) h = row_small 4 a x 0 (omega arith) h.0 h.1
instr_small l (op (Lock x)) h = row_small 5 0 x 0 (omega arith) (omega arith) h
instr_small l (op (Unlock x)) h = row_small 6 0 x 0 (omega arith) (omega arith) h
instr_small l (op (Skip a t)) h = row_small 7 a 0 t (omega arith) h.0 (omega arith)
instr_small l (barrier b) h = row_small (barrier_code l b) 0 0 0 (code_small l b) (omega arith) (omega arith)

-- pieces of small bytes, joined
joined_small : {A : Type 0} (f : A → List ℕ) (P : A → Type 0) → ((x : A) → P x → Small (f x)) → (xs : List A)
    → Each P xs → Small (joined (map f xs))
joined_small f P w [] h = none
joined_small f P w (x ∷ xs) h = small_append (w x h.0) (joined_small f P w xs h.1)

lane_small : (l : Level) (is : List Instr) → LaneFits is → Small (lane_bytes l is)
lane_small l is h = joined_small (instr_bytes l) Fits (instr_small l) is h.0

level_small : (l : Level) → level_number l < 256
level_small Level0 = omega arith
level_small Level1 = omega arith
level_small Level2 = omega arith
level_small Level3 = omega arith

header_small : (l : Level) (k : Program) (xs : List (List Instr)) → Lawful k → Small (header l k xs)
header_small l k xs w =
    lanes_small ▸ locations_small ▸ locks_small ▸ level_small l
    ▸ small_append (word_small (mask_at l k)) (zero_small ▸ zero_small ▸ counts_small)
  where
    lanes_small : length k.lanes < 256
    lanes_small = omega (arith, w.few_lanes)

    locations_small : k.locations < 256
    locations_small = omega (arith, w.few_locations)

    locks_small : k.locks < 256
    locks_small = omega (arith, w.few_locks)

    count_small : (t : ℕ) → Unit {0} → Small (count_bytes xs t)
    count_small t h = word_small (length (get_or xs t []))

    counts_small : Small (joined (map (count_bytes xs) (0 ∷ 1 ∷ 2 ∷ 3 ∷ [])))
    counts_small =
        joined_small (count_bytes xs) (λ t. Unit {0}) count_small (0 ∷ 1 ∷ 2 ∷ 3 ∷ []) (tt, (tt, (tt, (tt, tt))))

pub all_small : (l : Level) (k : Program) → Lawful k → Small (sheet_bytes l k)
unfolding sheet_bytes
all_small l k w =
    small_append (header_small l k (sheet_lanes l k) w)
    (joined_small (lane_bytes l) LaneFits (lane_small l) (sheet_lanes l k) (lanes_fit l k w))

pub sheet_bytes_small : (l : Level) (k : Program) → Lawful k → (i : ℕ) → get_or (sheet_bytes l k) i 0 < 256
sheet_bytes_small l k w = small_at (all_small l k w)
