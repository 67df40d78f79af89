-- Laws of how many operations stand before a position of a lane, and of all lanes one behind the other: which record is
-- whose.
use Prim.Native.Nat.{ℕ, zero, suc, ◌+◌, ◌≤◌, ◌<◌}
use mathlib.Core.Path.{◌≡◌, refl, sym, ap, ap₂, ◌∙◌}
use mathlib.Core.List.{List, [], ◌∷◌, ◌++◌, map, append_assoc}
use mathlib.Core.Option.{some}
use native.Mathlib.Omega.{arith}
use lib.ListN.{length, get_or, get_elem?, take, length-map, get_or-map, get_or-append}
use lib.Seq.{get_or-append-add}
use Rattle.laws.proofs.Lists.{some_at}
use Rattle.file_format.specs.declared.accepted.Op.{Op}
use Rattle.file_format.specs.Accepted.{Program}
use Rattle.file_format.specs.Lawful.{Lawful}
use Rattle.barrier_placement.specs.declared.cookbook.Barrier.{Barrier}
use Rattle.barrier_placement.specs.Layout.{Placed, start}
use Rattle.sheet_format.specs.Layout.{Instr, op, barrier, aim, cells, sheet, rank}
use Rattle.sheet_format.specs.declared.Level.TheVariants.{Level2}
use Rattle.sheet_format.specs.Levels.{placed, placed_lanes, sheet_lanes, volatile_in}
use Rattle.sheet_format.specs.Bytes.{joined}
use Rattle.sheet_format.proofs.Laws.Rows.{total}
use Rattle.sheet_format.proofs.PlacedLanes.{placed_count}
use Rattle.text_page.specs.Lines.{takes}

-- ## how many operations stand before a position

pub rank_none : (xs : List Instr) → rank xs 0 ≡ 0
rank_none [] = refl
rank_none (x ∷ xs) = refl

pub rank_first : (x : Instr) (xs : List Instr) (p : ℕ) → rank (x ∷ xs) (suc p) ≡ takes x + rank xs p
rank_first (op o) xs p = omega arith
rank_first (barrier b) xs p = omega arith

-- one instruction more
pub rank_on : (xs : List Instr) (p : ℕ) (x : Instr) → get_elem? xs p ≡ some x → rank xs (suc p) ≡ rank xs p + takes x
rank_on [] p x e = let z : ◌≡◌ {A = ℕ} 0 1 = cc in absurd (omega arith)
rank_on (y ∷ xs) zero x e =
    let here : y ≡ x = cc in
    omega (arith, rank_first y xs 0, rank_none xs, ap takes here)
rank_on (y ∷ xs) (suc p) x e = omega (arith, rank_first y xs (suc p), rank_first y xs p, rank_on xs p x e)

-- before an operation stand fewer operations than the lane has
rank_less : (xs : List Instr) (p : ℕ) (o : Op) → get_elem? xs p ≡ some (op o) → rank xs p < rank xs (length xs)
rank_less [] p o e = let z : ◌≡◌ {A = ℕ} 0 1 = cc in absurd (omega arith)
rank_less (x ∷ xs) zero o e =
    let here : x ≡ op o = cc in
    omega (arith, rank_first x xs (length xs), ap takes here)
rank_less (x ∷ xs) (suc p) o e =
    omega (arith, rank_first x xs p, rank_first x xs (length xs), rank_less xs p o e)

-- of two lists one behind the other
rank_in : (xs ys : List Instr) (p : ℕ) → p ≤ length xs → rank (xs ++ ys) p ≡ rank xs p
rank_in [] ys p h = let none : p ≡ 0 = omega arith in rw none (rank_none ys)
rank_in (x ∷ xs) ys zero h = refl
rank_in (x ∷ xs) ys (suc p) h =
    omega (arith, rank_first x (xs ++ ys) p, rank_first x xs p, rank_in xs ys p (omega arith))

rank_behind : (xs ys : List Instr) (p : ℕ) → rank (xs ++ ys) (length xs + p) ≡ rank xs (length xs) + rank ys p
rank_behind [] ys p = let e : 0 + p ≡ p = omega arith in ap (rank ys) e ∙ omega arith
rank_behind (x ∷ xs) ys p =
    let e : suc (length xs) + p ≡ suc (length xs + p) = omega arith in
    ap (rank (x ∷ xs ++ ys)) e
    ∙ omega (arith, rank_first x (xs ++ ys) (length xs + p), rank_first x xs (length xs), rank_behind xs ys p)

-- ## the operations of a lane

rank_bars : (bs : List Barrier) (o : Op) (is : List Instr)
    → rank (map barrier bs ++ op o ∷ is) (length (map barrier bs ++ op o ∷ is)) ≡ suc (rank is (length is))
rank_bars [] o is = refl
rank_bars (b ∷ bs) o is = rank_bars bs o is

rank_all : (r : ℕ → ℕ) (ps : List (Placed Op)) → rank (cells r ps) (length (cells r ps)) ≡ length ps
rank_all r [] = refl
rank_all r (x ∷ ps) = rank_bars x.before (aim r x.oper) (cells r ps) ∙ ap suc (rank_all r ps)

-- as many as its records
pub lane_records : (k : Program) → Lawful k → (t : ℕ)
    → rank (get_or (sheet_lanes Level2 k) t []) (length (get_or (sheet_lanes Level2 k) t []))
    ≡ length (get_or k.records t [])
lane_records k w t =
    let ops : List Op = get_or k.lanes t [] in
    let ps : List (Placed Op) = placed Level2 (volatile_in k) ops in
    let lane : get_or (sheet_lanes Level2 k) t [] ≡ sheet ps =
    get_or-map sheet (placed_lanes Level2 k) t []
    ∙ ap sheet (get_or-map (placed Level2 (volatile_in k)) k.lanes t []) in
    ap (λ is. rank is (length is)) lane
    ∙ rank_all (start ps) ps ∙ placed_count Level2 (volatile_in k) ops ∙ sym (w.same_length t)

-- as many lanes as the kernel has
pub lanes_count : (k : Program) → length (sheet_lanes Level2 k) ≡ length k.lanes
lanes_count k = length-map (placed_lanes Level2 k) sheet ∙ length-map k.lanes (placed Level2 (volatile_in k))

-- ## the lanes one behind the other

abbrev pub together : List (List Instr) → List Instr
together [] = []
together (x ∷ xs) = x ++ together xs

-- The record of an operation of lane t at position p, where each lane has as many records as operations: in the lane's
-- records, and in those of all lanes one behind the other.
pub order_at : (xs : List (List Instr)) (rss : List (List ℕ)) (others : List ℕ) → length rss ≡ length xs
    → ((t : ℕ) → rank (get_or xs t []) (length (get_or xs t [])) ≡ length (get_or rss t []))
    → (t p : ℕ) (o : Op) → get_elem? (get_or xs t []) p ≡ some (op o)
    → get_or (joined rss ++ others) (rank (together xs) (total (take t xs) + p)) 0
    ≡ get_or (get_or rss t []) (rank (get_or xs t []) p) 0
order_at [] rss others l h t p o e = let z : ◌≡◌ {A = ℕ} 0 1 = cc in absurd (omega arith)
order_at (x ∷ xs) [] others l h t p o e = absurd (omega arith)
order_at (x ∷ xs) (rs ∷ rss) others l h zero p o e =
    let first : 0 + p ≡ p = omega arith in
    let below : rank x p < length rs = omega (arith, h 0, rank_less x p o e) in
    let near : rank (x ++ together xs) (0 + p) ≡ rank x p =
    ap (rank (x ++ together xs)) first ∙ rank_in x (together xs) p (omega (arith, (some_at x p (op o) (op o) e).0)) in
    ap₂ (λ m q. get_or m q 0) (append_assoc rs (joined rss) others) near
    ∙ get_or-append rs (joined rss ++ others) 0 (rank x p) below
order_at (x ∷ xs) (rs ∷ rss) others l h (suc t) p o e =
    let here : ℕ = total (take t xs) + p in
    let on : length x + total (take t xs) + p ≡ length x + here = omega arith in
    let far : rank (x ++ together xs) (length x + total (take t xs) + p) ≡ length rs + rank (together xs) here =
    ap (rank (x ++ together xs)) on ∙ omega (arith, rank_behind x (together xs) here, h 0) in
    ap₂ (λ m q. get_or m q 0) (append_assoc rs (joined rss) others) far
    ∙ get_or-append-add rs (joined rss ++ others) (rank (together xs) here) 0
    ∙ order_at xs rss others (omega arith) (λ u. h (suc u)) t p o e
