-- Laws of the lines of lanes: one instruction more, one lane more.
use Prim.Native.Nat.{ℕ, zero, suc, ◌+◌, ◌*◌, ◌<◌, min}
use mathlib.Core.Path.{◌≡◌, sym, ap, ap₂, ◌∙◌}
use mathlib.Core.List.{List, [], ◌∷◌, ◌++◌, append_assoc, append-nil}
use native.Mathlib.Omega.{arith}
use lib.ListN.{length, get_or, take, drop, length-take}
use lib.Seq.{drop-drop, take-suc, get_or-take}
use Rattle.file_format.specs.Fields.{word}
use Rattle.sheet_format.specs.Read.{read_instr, read_rows, past_rows, read_lanes, counts}
use Rattle.file_format.proofs.Laws.Lanes.{head_at}
use Rattle.sheet_rows.proofs.Laws.Parts.{past}
use Rattle.text_listing.specs.Line.{line_of}
use Rattle.text_listing.specs.Listing.{lane_lines, sheet_lines}

-- one instruction more
lane_on : (lane q n : ℕ) (b : List ℕ)
    → lane_lines lane q (read_rows n b) ++ line_of lane (q + n) (read_instr (drop (8 * n) b))
    ≡ lane_lines lane q (read_rows (suc n) b)
unfolding lane_lines
lane_on lane q zero b =
    let none : q + 0 ≡ q = omega arith in
    ap (λ p. line_of lane p (read_instr b)) none ∙ sym (append-nil (line_of lane q (read_instr b)))
lane_on lane q (suc n) b =
    let here : q + suc n ≡ suc q + n = omega arith in
    let row : 8 * suc n ≡ 8 + 8 * n = omega arith in
    let first : List ℕ = line_of lane q (read_instr b) in
    let middle : List ℕ = lane_lines lane (suc q) (read_rows n (drop 8 b)) in
    let same : drop (8 * suc n) b ≡ drop (8 * n) (drop 8 b) = ap (λ k. drop k b) row ∙ sym (drop-drop (8 * n) 8 b) in
    append_assoc first middle (line_of lane (q + suc n) (read_instr (drop (8 * suc n) b)))
    ∙ ap₂ (λ p x. first ++ (middle ++ line_of lane p (read_instr x))) here same
    ∙ ap (λ x. first ++ x) (lane_on lane (suc q) n (drop 8 b))

pub lane_next : (lane n from row : ℕ) (s : List ℕ) → row ≡ from + 8 * n
    → lane_lines lane 0 (read_rows n (drop from s)) ++ line_of lane n (read_instr (drop row s))
    ≡ lane_lines lane 0 (read_rows (n + 1) (drop from s))
lane_next lane n from row s e =
    let one : n + 1 ≡ suc n = omega arith in
    let same : drop row s ≡ drop (8 * n) (drop from s) = ap (λ k. drop k s) e ∙ sym (drop-drop (8 * n) from s) in
    let none : n ≡ 0 + n = omega arith in
    ap₂ (λ p x. lane_lines lane 0 (read_rows n (drop from s)) ++ line_of lane p (read_instr x)) none same
    ∙ lane_on lane 0 n (drop from s)
    ∙ ap (λ k. lane_lines lane 0 (read_rows k (drop from s))) (sym one)

-- how many instructions stand in these lanes
abbrev pub total : List ℕ → ℕ
total [] = 0
total (n ∷ ns) = n + total ns

-- one lane more
lanes_on : (q : ℕ) (ns : List ℕ) (n : ℕ) (b : List ℕ)
    → sheet_lines q (read_lanes ns b) ++ lane_lines (q + length ns) 0 (read_rows n (drop (8 * total ns) b))
    ≡ sheet_lines q (read_lanes (ns ++ n ∷ []) b)
unfolding sheet_lines
lanes_on q [] n b =
    let none : q + 0 ≡ q = omega arith in
    ap (λ p. lane_lines p 0 (read_rows n b)) none ∙ sym (append-nil (lane_lines q 0 (read_rows n b)))
lanes_on q (m ∷ ns) n b =
    let here : q + suc (length ns) ≡ suc q + length ns = omega arith in
    let rows : 8 * (m + total ns) ≡ 8 * m + 8 * total ns = omega arith in
    let first : List ℕ = lane_lines q 0 (read_rows m b) in
    let middle : List ℕ = sheet_lines (suc q) (read_lanes ns (past_rows m b)) in
    let same : drop (8 * (m + total ns)) b ≡ drop (8 * total ns) (past_rows m b) =
    ap (λ k. drop k b) rows ∙ sym (drop-drop (8 * total ns) (8 * m) b)
    ∙ ap (drop (8 * total ns)) (sym (past m b)) in
    let rest : middle ++ lane_lines (suc q + length ns) 0 (read_rows n (drop (8 * total ns) (past_rows m b)))
    ≡ sheet_lines (suc q) (read_lanes (ns ++ n ∷ []) (past_rows m b)) = lanes_on (suc q) ns n (past_rows m b) in
    append_assoc first middle (lane_lines (q + suc (length ns)) 0 (read_rows n (drop (8 * (m + total ns)) b)))
    ∙ ap₂ (λ p x. first ++ (middle ++ lane_lines p 0 (read_rows n x))) here same
    ∙ ap (λ (x : List ℕ). first ++ x) rest

pub counts_size : (b : List ℕ) → length (counts b) ≡ min (get_or b 0 0) 4
counts_size b = length-take (get_or b 0 0) (word b 8 ∷ word b 10 ∷ word b 12 ∷ word b 14 ∷ [])

-- the next count of the header
counts_next : (b : List ℕ) (t : ℕ) → t < length (counts b)
    → take t (counts b) ++ word b (8 + 2 * t) ∷ [] ≡ take (t + 1) (counts b)
counts_next b t h =
    let one : t + 1 ≡ suc t = omega arith in
    let n : ℕ = get_or b 0 0 in
    let four : List ℕ = word b 8 ∷ word b 10 ∷ word b 12 ∷ word b 14 ∷ [] in
    let size = length-take n four in
    let here : get_or (counts b) t 0 ≡ word b (8 + 2 * t) =
    get_or-take n four t 0 (omega arith) ∙ head_at b t (omega arith) in
    sym (ap (λ k. take k (counts b)) one ∙ take-suc (counts b) t 0 h ∙ ap (λ x. take t (counts b) ++ x ∷ []) here)

-- one lane of the sheet more, of n instructions
pub lanes_next : (b : List ℕ) (t from n : ℕ) → t < length (counts b) → from ≡ 16 + 8 * total (take t (counts b))
    → n ≡ word b (8 + 2 * t)
    → sheet_lines 0 (read_lanes (take t (counts b)) (drop 16 b)) ++ lane_lines t 0 (read_rows n (drop from b))
    ≡ sheet_lines 0 (read_lanes (take (t + 1) (counts b)) (drop 16 b))
lanes_next b t from n h e count =
    let ns : List ℕ = take t (counts b) in
    let lane : t ≡ 0 + length ns = omega (arith, length-take t (counts b)) in
    let rows : drop from b ≡ drop (8 * total ns) (drop 16 b) =
    ap (λ k. drop k b) e ∙ sym (drop-drop (8 * total ns) 16 b) in
    ap₂ (λ p x. sheet_lines 0 (read_lanes ns (drop 16 b)) ++ lane_lines p 0 (read_rows n x)) lane rows
    ∙ lanes_on 0 ns n (drop 16 b)
    ∙ ap (λ k. sheet_lines 0 (read_lanes (ns ++ k ∷ []) (drop 16 b))) count
    ∙ ap (λ x. sheet_lines 0 (read_lanes x (drop 16 b))) (counts_next b t h)

total_on : (ns : List ℕ) (n : ℕ) → total (ns ++ n ∷ []) ≡ total ns + n
total_on [] n = omega arith
total_on (m ∷ ns) n = let r = total_on ns n in omega arith

-- where the next lane begins
pub from_next : (b : List ℕ) (t from n : ℕ) → t < length (counts b) → from ≡ 16 + 8 * total (take t (counts b))
    → n ≡ word b (8 + 2 * t) → from + 8 * n ≡ 16 + 8 * total (take (t + 1) (counts b))
from_next b t from n h e count =
    omega (arith, total_on (take t (counts b)) (word b (8 + 2 * t)), ap total (counts_next b t h))
