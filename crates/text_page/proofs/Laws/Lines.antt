-- Laws of a kernel's lines: how many there are, what holds of each, and which instruction and record a line is of.
use Prim.Native.Nat.{ℕ, zero, suc, ◌+◌, ◌≤◌}
use mathlib.Core.Path.{◌≡◌, refl, sym, ap, ap₂, ◌∙◌}
use mathlib.Core.List.{List, [], ◌∷◌, ◌++◌}
use mathlib.Core.Option.{some}
use native.Mathlib.Omega.{arith}
use lib.ListN.{length, get_or, get_elem?, take, drop, length-append}
use lib.Seq.{get_or-drop}
use Rattle.laws.proofs.Lists.{some_at, get_elem?_left, at_behind}
use Rattle.file_format.specs.Accepted.{Program}
use Rattle.file_format.specs.Lawful.{Lawful}
use Rattle.sheet_format.specs.Layout.{Instr, rank}
use Rattle.sheet_format.specs.declared.Level.TheVariants.{Level2}
use Rattle.sheet_format.specs.Levels.{sheet_lanes}
use Rattle.sheet_format.proofs.Laws.Cells.{Each, each_append}
use Rattle.sheet_format.proofs.Laws.Rows.{total}
use Rattle.sheet_format.proofs.Sizes.{sheet_size, sheet_small}
use Rattle.text_page.specs.Lines.{takes, instruction_line, lane_lines, lines_from, page_lines}
use Rattle.text_page.proofs.Laws.Ranks.{rank_first}

-- ## as many lines as instructions

lane_length_lem : (t p : ℕ) (rs : List ℕ) (is : List Instr) → length (lane_lines t p rs is) ≡ length is
unfolding lane_lines
lane_length_lem t p rs [] = refl
lane_length_lem t p rs (i ∷ is) = ap suc (lane_length_lem t (suc p) (drop (takes i) rs) is)

from_length : (t : ℕ) (rss : List (List ℕ)) (xs : List (List Instr)) → length (lines_from t rss xs) ≡ total xs
unfolding lines_from
from_length t rss [] = refl
from_length t rss (x ∷ xs) =
    omega (
      arith,
      length-append (lane_lines t 0 (get_or rss 0 []) x) (lines_from (suc t) (drop 1 rss) xs),
      lane_length_lem t 0 (get_or rss 0 []) x,
      from_length (suc t) (drop 1 rss) xs,
    )

pub lines_length : (k : Program) → length (page_lines k) ≡ total (sheet_lanes Level2 k)
unfolding page_lines
lines_length k = from_length 0 k.records (sheet_lanes Level2 k)

pub lines_few : (k : Program) → Lawful k → length (page_lines k) ≤ 512
lines_few k w = omega (arith, lines_length k, sheet_size Level2 k, sheet_small Level2 k w)

-- ## each line is an instruction's, so what holds of those holds of every line

module _ (P : List ℕ → Type 0) (h : (t p : ℕ) (i : Instr) (r : ℕ) → P (instruction_line t p i r)) where
  lane_each : (t p : ℕ) (rs : List ℕ) (is : List Instr) → Each P (lane_lines t p rs is)
  unfolding lane_lines
  lane_each t p rs [] = tt
  lane_each t p rs (i ∷ is) = (h t p i (get_or rs 0 0), lane_each t (suc p) (drop (takes i) rs) is)

  from_each : (t : ℕ) (rss : List (List ℕ)) (xs : List (List Instr)) → Each P (lines_from t rss xs)
  unfolding lines_from
  from_each t rss [] = tt
  from_each t rss (x ∷ xs) =
      each_append P (lane_lines t 0 (get_or rss 0 []) x) (lines_from (suc t) (drop 1 rss) xs)
      (lane_each t 0 (get_or rss 0 []) x)
      (from_each (suc t) (drop 1 rss) xs)

pub lines_each : (P : List ℕ → Type 0) → ((t p : ℕ) (i : Instr) (r : ℕ) → P (instruction_line t p i r)) → (k : Program)
    → Each P (page_lines k)
unfolding page_lines
lines_each P h k = from_each P h 0 k.records (sheet_lanes Level2 k)

-- ## the line of an instruction

-- within a lane whose first instruction stands at q: the record is the one behind those of the operations before
lane_at_lem : (t q : ℕ) (rs : List ℕ) (is : List Instr) (p : ℕ) (i : Instr) → get_elem? is p ≡ some i
    → get_elem? (lane_lines t q rs is) p ≡ some (instruction_line t (q + p) i (get_or rs (rank is p) 0))
unfolding lane_lines
lane_at_lem t q rs [] p i e = let z : ◌≡◌ {A = ℕ} 0 1 = cc in absurd (omega arith)
lane_at_lem t q rs (j ∷ is) zero i e =
    let here : q + 0 ≡ q = omega arith in
    rw here cc
lane_at_lem t q rs (j ∷ is) (suc p) i e =
    let on : suc q + p ≡ q + suc p = omega arith in
    lane_at_lem t (suc q) (drop (takes j) rs) is p i e
    ∙ ap₂ (λ x r. some (instruction_line t x i r)) on
    (get_or-drop (takes j) rs (rank is p) 0 ∙ ap (λ n. get_or rs n 0) (sym (rank_first j is p)))

-- within the lanes from lane s on
from_at : (s : ℕ) (rss : List (List ℕ)) (xs : List (List Instr)) (t p : ℕ) (i : Instr)
    → get_elem? (get_or xs t []) p ≡ some i
    → get_elem? (lines_from s rss xs) (total (take t xs) + p)
    ≡ some (instruction_line (s + t) p i (get_or (get_or rss t []) (rank (get_or xs t []) p) 0))
unfolding lines_from
from_at s rss [] t p i e = let z : ◌≡◌ {A = ℕ} 0 1 = cc in absurd (omega arith)
from_at s rss (x ∷ xs) zero p i e =
    let rs : List ℕ = get_or rss 0 [] in
    let first : 0 + p ≡ p = omega arith in
    let lane : s + 0 ≡ s = omega arith in
    let line = lane_at_lem s 0 rs x p i e in
    let found = some_at (lane_lines s 0 rs x) p _ [] line in
    rw (first, lane)
    (get_elem?_left (lane_lines s 0 rs x) (lines_from (suc s) (drop 1 rss) xs) [] p found.0
    ∙ ap some found.1 ∙ ap (λ q. some (instruction_line s q i (get_or rs (rank x p) 0))) first)
from_at s rss (x ∷ xs) (suc t) p i e =
    let here : List (List ℕ) = lane_lines s 0 (get_or rss 0 []) x in
    let there : List (List ℕ) = lines_from (suc s) (drop 1 rss) xs in
    let on : length x + total (take t xs) + p ≡ length here + (total (take t xs) + p) =
    omega (arith, lane_length_lem s 0 (get_or rss 0 []) x) in
    let lane : suc s + t ≡ s + suc t = omega arith in
    let next : 1 + t ≡ suc t = omega arith in
    ap (get_elem? (here ++ there)) on ∙ at_behind here there (total (take t xs) + p)
    ∙ from_at (suc s) (drop 1 rss) xs t p i e
    ∙ ap₂ (λ l (rs : List ℕ). some (instruction_line l p i (get_or rs (rank (get_or xs t []) p) 0))) lane
    (get_or-drop 1 rss t [] ∙ ap (λ n. get_or rss n []) next)

-- The line of lane t's instruction at position p: the lanes one after the other, and each operation with its own record
-- of the kernel.
pub line_of : (k : Program) (t p : ℕ) (i : Instr)
    → get_elem? (get_or (sheet_lanes Level2 k) t []) p ≡ some i
    → get_elem? (page_lines k) (total (take t (sheet_lanes Level2 k)) + p)
    ≡ some
    (instruction_line t p i (get_or (get_or k.records t []) (rank (get_or (sheet_lanes Level2 k) t []) p) 0))
unfolding page_lines
line_of k t p i e =
    let lane : 0 + t ≡ t = omega arith in
    let lanes : List (List Instr) = sheet_lanes Level2 k in
    from_at 0 k.records lanes t p i e
    ∙ ap (λ l. some (instruction_line l p i (get_or (get_or k.records t []) (rank (get_or lanes t []) p) 0))) lane
