-- The operation codes in the bytes of a lawful kernel's sheet are those that its level has: theorem `lawful_codes`.
use Prim.Native.Nat.{ℕ, zero, suc, ◌<◌}
use native.Mathlib.Omega.{arith}
use mathlib.Core.Path.{◌≡◌, refl, sym, ap, ap₂, ◌∙◌, subst}
use mathlib.Core.Bool.{Bool, true, ◌&&◌, false≢true}
use mathlib.Core.List.{List, [], ◌∷◌, ◌++◌, map, append_assoc}
use mathlib.Core.Logic.{inl, inr}
use mathlib.Core.Option.{some}
use lib.ListN.{length, get_or, get_elem?, drop, length-map, get_or-map}
use Rattle.laws.proofs.Bools.{and_true}
use Rattle.file_format.specs.declared.accepted.Op.{Op}
use Rattle.file_format.specs.declared.accepted.Op.TheVariants.{Set, Add, Load, Store, Lock, Unlock, Skip}
use Rattle.file_format.specs.Accepted.{Program}
use Rattle.file_format.specs.Lawful.{Lawful}
use Rattle.barrier_placement.specs.declared.cookbook.Barrier.{Barrier}
use Rattle.barrier_placement.specs.declared.cookbook.Barrier.TheVariants.{LL, LS, SS, SL}
use Rattle.barrier_placement.specs.Chain.{Chain}
use Rattle.barrier_placement.specs.Steps.{steps}
use Rattle.barrier_placement.specs.Place.{stands, chosen}
use Rattle.barrier_placement.proofs.Laws.Chosen.{chosen_only}
use Rattle.barrier_placement.specs.Layout.{Placed, start}
use Rattle.sheet_format.specs.Layout.{Instr, op, barrier, aim, cells, sheet}
use Rattle.sheet_format.specs.declared.Level.{Level}
use Rattle.sheet_format.specs.declared.Level.TheVariants.{Level0, Level1, Level2, Level3}
use Rattle.sheet_format.specs.Levels.{keeps, place_from, placed, placed_lanes, sheet_lanes}
use Rattle.sheet_format.specs.Levels.{volatile_in}
use Rattle.sheet_format.specs.Bytes.{instr_bytes, joined, lane_bytes, barrier_code, level_number, mask_at, header}
use Rattle.sheet_format.specs.Bytes.{sheet_bytes}
use Rattle.sheet_format.specs.Read.{past_rows, counts}
use Rattle.sheet_format.specs.Codes.{row_codes, lane_codes, codes_in, BarrierCode, Code}
use Rattle.sheet_format.proofs.Laws.Cells.{Each}
use Rattle.sheet_format.proofs.ReadBack.{read_back, rows_back, counts_back}
use Rattle.sheet_format.proofs.Fitting.{Fits, LaneFits, lanes_fit}

-- the first byte of an instruction
abbrev code_of : Level → Instr → ℕ
code_of l i = get_or (instr_bytes l i) 0 0

-- ## the codes of a sheet are those of its instructions

code_back : (l : Level) (i : Instr) (rest : List ℕ) → get_or (instr_bytes l i ++ rest) 0 0 ≡ code_of l i
code_back l (op (Set a c)) rest = refl
code_back l (op (Add a b)) rest = refl
code_back l (op (Load a x)) rest = refl
code_back l (op (Store a x)) rest = refl
code_back l (op (Lock x)) rest = refl
code_back l (op (Unlock x)) rest = refl
code_back l (op (Skip a t)) rest = refl
code_back l (barrier b) rest = refl

rows_codes : (l : Level) (is : List Instr) (rest : List ℕ) → Each Fits is
    → row_codes (length is) (lane_bytes l is ++ rest) ≡ map (code_of l) is
rows_codes l [] rest h = refl
rows_codes l (i ∷ is) rest h =
    ap (λ b. get_or b 0 0 ∷ row_codes (length is) (drop 8 b)) (append_assoc (instr_bytes l i) (lane_bytes l is) rest)
    ∙ ap₂ (λ c b. c ∷ row_codes (length is) b) (code_back l i (lane_bytes l is ++ rest))
    (read_back l i (lane_bytes l is ++ rest) h.0).1
    ∙ ap (λ x. code_of l i ∷ x) (rows_codes l is rest h.1)

lanes_codes : (l : Level) (xs : List (List Instr)) (rest : List ℕ) → Each LaneFits xs
    → lane_codes (map length xs) (joined (map (lane_bytes l) xs) ++ rest) ≡ map (map (code_of l)) xs
lanes_codes l [] rest h = refl
lanes_codes l (x ∷ xs) rest h =
    let more : List ℕ = joined (map (lane_bytes l) xs) ++ rest in
    ap (λ b. row_codes (length x) b ∷ lane_codes (map length xs) (past_rows (length x) b))
    (append_assoc (lane_bytes l x) (joined (map (lane_bytes l) xs)) rest)
    ∙ ap₂ (λ y b. y ∷ lane_codes (map length xs) b) (rows_codes l x more h.0.0)
    (rows_back l x more h.0.0).1
    ∙ ap (λ ys. map (code_of l) x ∷ ys) (lanes_codes l xs rest h.1)

module _ (l : Level) (k : Program) (w : Lawful k) (rest : List ℕ) where
  abbrev lanes : List (List Instr)
  lanes = sheet_lanes l k

  same_count : length k.lanes ≡ length lanes
  same_count = sym (length-map (placed_lanes l k) sheet ∙ length-map k.lanes (placed l (volatile_in k)))

  codes_back : codes_in (sheet_bytes l k ++ rest) ≡ map (map (code_of l)) lanes
  unfolding codes_in sheet_bytes
  codes_back =
      ap codes_in split
      ∙ ap (λ ns. lane_codes ns (joined (map (lane_bytes l) lanes) ++ rest)) (sym (ap counts split)
      ∙ counts_back l (length k.lanes) k.locations k.locks (level_number l) (mask_at l k) lanes rest same_count
      (omega (arith, same_count, w.few_lanes)) (lanes_fit l k w))
      ∙ lanes_codes l lanes rest (lanes_fit l k w)
    where
      split : sheet_bytes l k ++ rest ≡ header l k lanes ++ (joined (map (lane_bytes l) lanes) ++ rest)
      split = append_assoc (header l k lanes) (joined (map (lane_bytes l) lanes)) rest

-- ## each of them is one that the level has

operation_code : (l : Level) (o : Op) → Code l (code_of l (op o))
operation_code l (Set a c) = inl (omega arith, omega arith)
operation_code l (Add a b) = inl (omega arith, omega arith)
operation_code l (Load a x) = inl (omega arith, omega arith)
operation_code l (Store a x) = inl (omega arith, omega arith)
operation_code l (Lock x) = inl (omega arith, omega arith)
operation_code l (Unlock x) = inl (omega arith, omega arith)
operation_code l (Skip a t) = inl (omega arith, omega arith)

-- of a barrier that the level keeps
kept_code : (l : Level) (o : Op) (b : Barrier) → keeps l o b ≡ true → BarrierCode l (barrier_code l b)
kept_code Level0 o b e = absurd (false≢true e)
kept_code Level1 o LL e = (omega arith, omega arith)
kept_code Level1 o LS e = (omega arith, omega arith)
kept_code Level1 o SS e = (omega arith, omega arith)
kept_code Level1 o SL e = (omega arith, omega arith)
kept_code Level2 o LL e = absurd (false≢true e)
kept_code Level2 o LS e = absurd (false≢true e)
kept_code Level2 o SS e = absurd (false≢true e)
kept_code Level2 o SL e = refl
kept_code Level3 o LL e = absurd (false≢true e)
kept_code Level3 o LS e = absurd (false≢true e)
kept_code Level3 o SS e = (omega arith, omega arith)
kept_code Level3 o SL e = (omega arith, omega arith)

abbrev Coded : Level → Instr → Type 0
Coded l i = Code l (code_of l i)

module _ (l : Level) where
  bars_coded : (bs : List Barrier) (is : List Instr)
      → ((i : ℕ) → i < length bs → BarrierCode l (barrier_code l (get_or bs i LL)))
      → Each (Coded l) is → Each (Coded l) (map barrier bs ++ is)
  bars_coded [] is h w = w
  bars_coded (b ∷ bs) is h w = (inr (h 0 (omega arith)), bars_coded bs is (λ i lt. h (suc i) (omega arith)) w)

  cells_coded : (s : Chain) (r : ℕ → ℕ) (os : List Op) (p : ℕ) → Each (Coded l) (cells r (place_from l s p os))
  cells_coded s r [] p = tt
  cells_coded s r (o ∷ os) p =
      bars_coded (chosen before) (op (aim r o) ∷ cells r (place_from l s (suc p) os))
      (λ i lt.
      let b = get_or (chosen before) i LL in
      kept_code l o b (and_true (keeps l o b) (stands s b p) (chosen_only before i lt)).0)
      (operation_code l (aim r o), cells_coded s r os (suc p))
    where
      before : Barrier → Bool
      before b = keeps l o b && stands s b p

  coded_at : (is : List Instr) → Each (Coded l) is → (p c : ℕ) → get_elem? (map (code_of l) is) p ≡ some c → Code l c
  coded_at [] h p c e = let z : ◌≡◌ {A = ℕ} 0 1 = cc in absurd (omega arith)
  coded_at (i ∷ is) h zero c e = let same : code_of l i ≡ c = cc in subst (Code l) same h.0
  coded_at (i ∷ is) h (suc p) c e = coded_at is h.1 p c e

-- row p of lane t
pub lawful_codes : (l : Level) (k : Program) → Lawful k → (rest : List ℕ) (t p c : ℕ)
    → get_elem? (get_or (codes_in (sheet_bytes l k ++ rest)) t []) p ≡ some c → Code l c
lawful_codes l k w rest t p c e =
    coded_at l (sheet ps) (cells_coded l (steps (volatile_in k) os) (start ps) os 0) p c
    (ap (λ x. get_elem? x p) (sym lane) ∙ e)
  where
    os : List Op
    os = get_or k.lanes t []

    ps : List (Placed Op)
    ps = placed l (volatile_in k) os

    lane : get_or (codes_in (sheet_bytes l k ++ rest)) t [] ≡ map (code_of l) (sheet ps)
    lane =
        ap (λ x. get_or x t []) (codes_back l k w rest)
        ∙ get_or-map (map (code_of l)) (sheet_lanes l k) t []
        ∙ ap (map (code_of l)) (get_or-map sheet (placed_lanes l k) t [])
        ∙ ap (λ x. map (code_of l) (sheet x)) (get_or-map (placed l (volatile_in k)) k.lanes t [])
