-- Reading a lawful kernel's sheet gives back its lanes: theorem `lawful_back`.
use Prim.Native.Nat.{ℕ, ◌+◌, ◌*◌, ◌/◌, ◌%◌, ◌≤◌}
use native.Mathlib.Omega.{arith}
use mathlib.Core.Path.{◌≡◌, refl, sym, ap, ap₂, ◌∙◌}
use mathlib.Core.List.{List, [], ◌∷◌, ◌++◌, map, append_assoc, append-nil}
use lib.ListN.{length, get_or, take, drop, length-map}
use Rattle.laws.proofs.Bytes.{word_back, quad_back}
use Rattle.file_format.specs.declared.accepted.Op.TheVariants.{Set, Add, Load, Store, Lock, Unlock, Skip}
use Rattle.file_format.specs.Accepted.{Program}
use Rattle.file_format.specs.Lawful.{Lawful}
use Rattle.barrier_placement.specs.declared.cookbook.Barrier.{Barrier}
use Rattle.barrier_placement.specs.declared.cookbook.Barrier.TheVariants.{LL, LS, SS, SL}
use Rattle.barrier_placement.specs.Cookbook.{code_of}
use Rattle.sheet_format.specs.Layout.{Instr, op, barrier, sheet}
use Rattle.sheet_format.specs.declared.Level.{Level}
use Rattle.sheet_format.specs.declared.Level.TheVariants.{Level0, Level1, Level2, Level3}
use Rattle.sheet_format.specs.Levels.{placed, placed_lanes, sheet_lanes, volatile_in}
use Rattle.sheet_format.specs.Bytes.{row, instr_bytes, joined, lane_bytes, level_number, mask_at, header_by}
use Rattle.sheet_format.specs.Bytes.{sheet_bytes}
use Rattle.sheet_format.specs.Read.{read_instr, read_rows, past_rows, read_lanes, counts, read_sheet}
use Rattle.sheet_format.proofs.Laws.Cells.{Each}
use Rattle.sheet_format.proofs.Fitting.{Fits, LaneFits, lanes_fit}

-- a barrier with its own code
own_back : (b : Barrier) (rest : List ℕ)
    → (read_instr (row (code_of b) 0 0 0 ++ rest) ≡ barrier b) × (drop 8 (row (code_of b) 0 0 0 ++ rest) ≡ rest)
own_back LL rest = (refl, refl)
own_back LS rest = (refl, refl)
own_back SS rest = (refl, refl)
own_back SL rest = (refl, refl)

pub read_back : (l : Level) (i : Instr) (rest : List ℕ) → Fits i
    → (read_instr (instr_bytes l i ++ rest) ≡ i) × (drop 8 (instr_bytes l i ++ rest) ≡ rest)
read_back l (op (Set a c)) rest h = (ap (λ n. op (Set a n)) (quad_back c h.1), refl)
read_back l (op (Add a b)) rest h = (refl, refl)
read_back l (op (Load a x)) rest h = (refl, refl)
read_back l (op (Store a x)) rest h = (refl, refl)
read_back l (op (Lock x)) rest h = (refl, refl)
read_back l (op (Unlock x)) rest h = (refl, refl)
read_back l (op (Skip a t)) rest h = (ap (λ n. op (Skip a n)) (quad_back t h.1), refl)
read_back Level0 (barrier b) rest h = own_back b rest
read_back Level1 (barrier b) rest h = own_back b rest
read_back Level2 (barrier LL) rest h = (refl, refl)
read_back Level2 (barrier LS) rest h = (refl, refl)
read_back Level2 (barrier SS) rest h = (refl, refl)
read_back Level2 (barrier SL) rest h = (refl, refl)
read_back Level3 (barrier b) rest h = own_back b rest

pub rows_back : (l : Level) (is : List Instr) (rest : List ℕ) → Each Fits is
    → (read_rows (length is) (lane_bytes l is ++ rest) ≡ is) × (past_rows (length is) (lane_bytes l is ++ rest) ≡ rest)
rows_back l [] rest h = (refl, refl)
rows_back l (i ∷ is) rest h =
    let r = read_back l i (lane_bytes l is ++ rest) h.0 in
    let ih = rows_back l is rest h.1 in
    let split = append_assoc (instr_bytes l i) (lane_bytes l is) rest in (
      ap (λ b. read_instr b ∷ read_rows (length is) (drop 8 b)) split
          ∙ ap₂ (λ x b. x ∷ read_rows (length is) b) r.0 r.1
          ∙ ap (λ x. i ∷ x) ih.0,
      ap (λ b. past_rows (length is) (drop 8 b)) split ∙ ap (past_rows (length is)) r.1 ∙ ih.1,
    )

lanes_back : (l : Level) (xs : List (List Instr)) (rest : List ℕ) → Each LaneFits xs
    → read_lanes (map length xs) (joined (map (lane_bytes l) xs) ++ rest) ≡ xs
lanes_back l [] rest h = refl
lanes_back l (x ∷ xs) rest h =
    let r = rows_back l x (joined (map (lane_bytes l) xs) ++ rest) h.0.0 in
    ap (λ b. read_rows (length x) b ∷ read_lanes (map length xs) (past_rows (length x) b))
    (append_assoc (lane_bytes l x) (joined (map (lane_bytes l) xs)) rest)
    ∙ ap₂ (λ y b. y ∷ read_lanes (map length xs) b) r.0 r.1
    ∙ ap (λ ys. x ∷ ys) (lanes_back l xs rest h.1)

-- the count of a lane, as it is read from its two bytes
abbrev count_of : List Instr → ℕ
count_of x = length x % 256 + 256 * (length x / 256 % 256)

abbrev four_counts : List (List Instr) → List ℕ
four_counts xs =
    count_of (get_or xs 0 []) ∷ count_of (get_or xs 1 []) ∷ count_of (get_or xs 2 []) ∷ count_of (get_or xs 3 []) ∷ []

count_back : (x : List Instr) → LaneFits x → count_of x ≡ length x
count_back x h = word_back (length x) h.1

taken : (xs : List (List Instr)) → length xs ≤ 4 → Each LaneFits xs → take (length xs) (four_counts xs) ≡ map length xs
taken [] few h = refl
taken (x ∷ []) few h = cc (count_back x h.0)
taken (x ∷ y ∷ []) few h = cc (count_back x h.0, count_back y h.1.0)
taken (x ∷ y ∷ z ∷ []) few h = cc (count_back x h.0, count_back y h.1.0, count_back z h.1.1.0)
taken (x ∷ y ∷ z ∷ u ∷ []) few h =
    cc (count_back x h.0, count_back y h.1.0, count_back z h.1.1.0, count_back u h.1.1.1.0)
taken (x ∷ y ∷ z ∷ u ∷ v ∷ xs) few h = absurd (omega arith)

-- a buffer that begins with a header and the bytes of its lanes: the counts in it, and what is read of it
module _ (l : Level) (t ls ks level mask : ℕ) (xs : List (List Instr)) (rest : List ℕ) (e : t ≡ length xs)
    (few : length xs ≤ 4)
    (h : Each LaneFits xs) where
  pub counts_back : counts (header_by t ls ks level mask xs ++ joined (map (lane_bytes l) xs) ++ rest) ≡ map length xs
  counts_back =
      ap counts (append_assoc (header_by t ls ks level mask xs) (joined (map (lane_bytes l) xs)) rest)
      ∙ ap (λ n. take n (four_counts xs)) e ∙ taken xs few h

  pub header_back : read_sheet (header_by t ls ks level mask xs ++ joined (map (lane_bytes l) xs) ++ rest) ≡ xs
  unfolding read_sheet
  header_back =
      let body : List ℕ = joined (map (lane_bytes l) xs) in
      ap read_sheet (append_assoc (header_by t ls ks level mask xs) body rest)
      ∙ ap (λ ns. read_lanes ns (body ++ rest)) (ap (λ n. take n (four_counts xs)) e ∙ taken xs few h)
      ∙ lanes_back l xs rest h

pub sheet_back : (l : Level) (k : Program) (rest : List ℕ) → length k.lanes ≤ 4 → Each LaneFits (sheet_lanes l k)
    → read_sheet (sheet_bytes l k ++ rest) ≡ sheet_lanes l k
unfolding sheet_bytes
sheet_back l k rest few h =
    let same : length k.lanes ≡ length (sheet_lanes l k) =
    sym (length-map (placed_lanes l k) sheet ∙ length-map k.lanes (placed l (volatile_in k))) in
    header_back l (length k.lanes) k.locations k.locks (level_number l) (mask_at l k) (sheet_lanes l k) rest same
    (omega arith) h

pub lawful_back : (l : Level) (k : Program) (rest : List ℕ) → Lawful k
    → read_sheet (sheet_bytes l k ++ rest) ≡ sheet_lanes l k
lawful_back l k rest w = sheet_back l k rest w.few_lanes (lanes_fit l k w)

pub bytes_back : (l : Level) (k : Program) → Lawful k → read_sheet (sheet_bytes l k) ≡ sheet_lanes l k
bytes_back l k w = ap read_sheet (sym (append-nil (sheet_bytes l k))) ∙ lawful_back l k [] w
