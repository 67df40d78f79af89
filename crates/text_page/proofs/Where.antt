-- Where each line stands on the pages: 56 lines of 33 bytes to a page, its heading first.
use Prim.Native.Nat.{ℕ, zero, suc, ◌+◌, ◌*◌, ◌/◌, ◌<◌}
use mathlib.Core.Path.{◌≡◌, refl, sym, ap, ap₂, ◌∙◌}
use mathlib.Core.List.{List, [], ◌∷◌, ◌++◌, append_assoc}
use native.Mathlib.Omega.{arith}
use lib.ListN.{length, get_or, take, drop, length-append}
use lib.Seq.{length-take-le, split_at, take_at, drop_at, take_all}
use Rattle.laws.proofs.Lists.{at_some}
use Rattle.sheet_format.proofs.Laws.Cells.{each_at}
use Rattle.text_page.specs.Pages.{heading_line, page_count, pages_of}
use Rattle.text_page.specs.Given.{heading, headed, paged}
use Rattle.text_page.proofs.Laws.Columns.{heading_length}
use Rattle.text_page.proofs.Laws.Pages.{Whole, headed_by, heading_first, heading_takes, paged_append}
use Rattle.text_page.proofs.Laws.Pages.{paged_length, pages_paged, pages_none, pages_begun}

whole_take : (i : ℕ) (ls : List (List ℕ)) → Whole ls → Whole (take i ls)
whole_take zero ls w = tt
whole_take (suc i) [] w = tt
whole_take (suc i) (l ∷ ls) w = (w.0, whole_take i ls w.1)

whole_at : (i : ℕ) (ls : List (List ℕ)) → Whole ls → i < length ls → length (get_or ls i []) ≡ 33
whole_at i ls w h = each_at (λ l. length l ≡ 33) ls w i (get_or ls i []) (at_some ls i [] h)

-- what stands behind n bytes
stands : (n m : ℕ) (x y z : List ℕ) → length x ≡ n → length y ≡ m → take m (drop n (x ++ (y ++ z))) ≡ y
stands n m x y z e f = ap (take m) (drop_at x (y ++ z) n e) ∙ take_at y z m f

-- the pages around line i
pages_around : (ls : List (List ℕ)) (i : ℕ) → i < length ls
    → pages_of ls ≡ paged 0 (take i ls) ++ (headed i (get_or ls i []) ++ paged (suc i) (drop (suc i) ls))
unfolding paged
pages_around ls i h =
    let here : 0 + length (take i ls) ≡ i = omega (arith, length-take-le i ls (omega arith)) in
    let behind : List (List ℕ) = get_or ls i [] ∷ drop (suc i) ls in
    pages_paged ls (omega arith)
    ∙ ap (paged 0) (split_at ls i [] h)
    ∙ paged_append 0 (take i ls) behind
    ∙ ap (λ k. paged 0 (take i ls) ++ paged k behind) here

front_length : (ls : List (List ℕ)) → Whole ls → (i : ℕ) → i < length ls
    → length (paged 0 (take i ls)) ≡ 33 * (i + (i + 54) / 55)
front_length ls w i h =
    omega (arith, paged_length 0 (take i ls) (whole_take i ls w), length-take-le i ls (omega arith))

-- the heading of page j, from 0; without lines it stands alone
pub heading_stands : (ls : List (List ℕ)) → Whole ls → (j : ℕ) → j < page_count (length ls)
    → take 33 (drop (1848 * j) (pages_of ls)) ≡ heading_line (j + 1)
heading_stands [] w j h =
    let first : j ≡ 0 = omega arith in
    ap₂ (λ k y. take 33 (drop (1848 * k) y)) first (pages_none [] refl)
    ∙ take_all 33 (heading_line 1) (omega (arith, heading_length 1))
    ∙ ap (λ k. heading_line (k + 1)) (sym first)
heading_stands (l ∷ ls) w j h =
    let lines : List (List ℕ) = l ∷ ls in
    let i : ℕ = 55 * j in
    let begun = pages_begun (length lines) j (omega arith) h in
    let before : List ℕ = paged 0 (take i lines) in
    let x : List ℕ = get_or lines i [] in
    let rest : List ℕ = paged (suc i) (drop (suc i) lines) in
    let size : length before ≡ 1848 * j = omega (arith, front_length lines w i begun) in
    let number : i / 55 + 1 ≡ j + 1 = omega arith in
    let top : headed i x ≡ heading_line (j + 1) ++ x =
    headed_by i x ∙ ap (λ y. y ++ x) (heading_first i (omega arith) ∙ ap heading_line number) in
    let all : pages_of lines ≡ before ++ (heading_line (j + 1) ++ (x ++ rest)) =
    pages_around lines i begun
    ∙ ap (λ y. before ++ y) (ap (λ y. y ++ rest) top ∙ append_assoc (heading_line (j + 1)) x rest) in
    ap (λ y. take 33 (drop (1848 * j) y)) all
    ∙ stands (1848 * j) 33 before (heading_line (j + 1)) (x ++ rest) size (heading_length (j + 1))

-- line i, from 0, stands behind i lines and the headings of the pages to its own
pub line_stands : (ls : List (List ℕ)) → Whole ls → (i : ℕ) → i < length ls
    → take 33 (drop (33 * (i + i / 55 + 1)) (pages_of ls)) ≡ get_or ls i []
line_stands ls w i h =
    let lines : List ℕ = paged 0 (take i ls) in
    let before : List ℕ = lines ++ heading i in
    let x : List ℕ = get_or ls i [] in
    let rest : List ℕ = paged (suc i) (drop (suc i) ls) in
    let place : ℕ = 33 * (i + i / 55 + 1) in
    let size : length before ≡ place =
    omega (arith, length-append lines (heading i), front_length ls w i h, heading_takes i) in
    let all : pages_of ls ≡ before ++ (x ++ rest) =
    pages_around ls i h
    ∙ ap (λ y. lines ++ y) (ap (λ y. y ++ rest) (headed_by i x) ∙ append_assoc (heading i) x rest)
    ∙ sym (append_assoc lines (heading i) (x ++ rest)) in
    ap (λ y. take 33 (drop place y)) all ∙ stands place 33 before x rest size (whole_at i ls w h)
