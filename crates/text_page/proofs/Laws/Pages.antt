-- Laws of lines on pages.
use Prim.Native.Nat.{ℕ, zero, suc, ◌+◌, ◌*◌, ◌/◌, ◌%◌, ◌≤◌, ◌<◌, max}
use mathlib.Core.Path.{◌≡◌, refl, sym, ap, ap₂, ◌∙◌}
use mathlib.Core.List.{List, [], ◌∷◌, ◌++◌, append_assoc, append-nil}
use native.Mathlib.Omega.{arith}
use native.Mathlib.Decide.{ℕ_discrete}
use lib.Dec.{eqb-suc-zero}
use lib.ListN.{length, get_or, take, drop, length-append, length-drop, length-take}
use lib.Seq.{length-take-le, take-suc, take-add, take_all}
use borrow.Author.Tests.{eq-eqb, ne_eqb}
use Rattle.laws.proofs.Lists.{nil_of_length}
use Rattle.sheet_format.specs.Bytes.{joined}
use Rattle.sheet_format.specs.Put.{in_turn}
use Rattle.sheet_format.proofs.Laws.Cells.{Each}
use Rattle.text_page.specs.Pages.{heading_line, page_count, page_of, pages_of}
use Rattle.text_page.specs.Given.{heading, headed, paged}
use Rattle.text_page.proofs.Laws.Columns.{heading_length}

-- ## how many pages

pub page_count_lem : (n : ℕ) → page_count n ≡ max 1 ((n + 54) / 55)
page_count_lem zero = refl
page_count_lem (suc n) = rw (eqb-suc-zero n) (omega arith)

-- every page but the last is full
pub pages_full : (n j : ℕ) → suc j < page_count n → 55 * suc j ≤ n
pages_full n j h = omega (arith, page_count_lem n)

-- only without lines is a heading alone
pub pages_begun : (n j : ℕ) → 1 ≤ n → j < page_count n → 55 * j < n
pages_begun n j some h = omega (arith, page_count_lem n)

pub pages_few : (n : ℕ) → n ≤ 512 → 33 * (n + page_count n) ≤ 17226
pages_few n h = omega (arith, page_count_lem n)

-- ## line after line

pub headed_by : (n : ℕ) (l : List ℕ) → headed n l ≡ heading n ++ l
unfolding headed
headed_by n l = refl

pub heading_first : (n : ℕ) → n % 55 ≡ 0 → heading n ≡ heading_line (n / 55 + 1)
unfolding heading
heading_first n e = rw (eq-eqb (n % 55) 0 e)

heading_none : (n : ℕ) → (n % 55 ≡ 0 → ⊥) → heading n ≡ []
unfolding heading
heading_none n e = rw (ne_eqb (n % 55) 0 e)

-- a line that begins a page, and one that does not
pub headed_first : (n : ℕ) (l : List ℕ) → n % 55 ≡ 0 → headed n l ≡ heading_line (n / 55 + 1) ++ l
headed_first n l e = headed_by n l ∙ ap (λ x. x ++ l) (heading_first n e)

pub headed_inside : (n : ℕ) (l : List ℕ) → (n % 55 ≡ 0 → ⊥) → headed n l ≡ l
headed_inside n l e = headed_by n l ∙ ap (λ x. x ++ l) (heading_none n e)

-- the headings before line n and those before the next
pub heading_takes : (n : ℕ) → length (heading n) + 33 * ((n + 54) / 55) ≡ 33 * ((n + 55) / 55)
heading_takes n = go (ℕ_discrete (n % 55) 0)
  where
    go : Dec (n % 55 ≡ 0) → length (heading n) + 33 * ((n + 54) / 55) ≡ 33 * ((n + 55) / 55)
    go (yes e) = rw (heading_first n e) (omega (arith, heading_length (n / 55 + 1)))
    go (no e) = rw (heading_none n e) (omega arith)

headed_length : (n : ℕ) (l : List ℕ) → length l ≡ 33
    → length (headed n l) + 33 * ((n + 54) / 55) ≡ 33 + 33 * ((n + 55) / 55)
headed_length n l e = rw (headed_by n l) (omega (arith, length-append (heading n) l, heading_takes n))

pub headed_few : (n : ℕ) (l : List ℕ) → length l ≡ 33 → length (headed n l) ≤ 66
headed_few n l e = omega (arith, headed_length n l e)

pub paged_append : (n : ℕ) (xs ys : List (List ℕ)) → paged n (xs ++ ys) ≡ paged n xs ++ paged (n + length xs) ys
unfolding paged
paged_append n [] ys = let e : n ≡ n + 0 = omega arith in ap (λ k. paged k ys) e
paged_append n (x ∷ xs) ys =
    let e : suc n + length xs ≡ n + suc (length xs) = omega arith in
    ap (λ z. headed n x ++ z) (paged_append (suc n) xs ys ∙ ap (λ k. paged (suc n) xs ++ paged k ys) e)
    ∙ sym (append_assoc (headed n x) (paged (suc n) xs) (paged (n + suc (length xs)) ys))

-- one line more
pub paged_next : (ls : List (List ℕ)) (i : ℕ) → i < length ls
    → paged 0 (take i ls) ++ headed i (get_or ls i []) ≡ paged 0 (take (i + 1) ls)
unfolding paged
paged_next ls i h =
    let one : i + 1 ≡ suc i = omega arith in
    let here : 0 + length (take i ls) ≡ i = omega (arith, length-take-le i ls (omega arith)) in
    let x : List ℕ = get_or ls i [] in
    let back : paged 0 (take (i + 1) ls) ≡ paged 0 (take i ls) ++ headed i x =
    ap (λ k. paged 0 (take k ls)) one
    ∙ ap (paged 0) (take-suc ls i [] h)
    ∙ paged_append 0 (take i ls) (x ∷ [])
    ∙ ap (λ k. paged 0 (take i ls) ++ paged k (x ∷ [])) here
    ∙ ap (λ z. paged 0 (take i ls) ++ z) (append-nil (headed i x)) in
    sym back

-- each line has 33 bytes
abbrev pub Whole : List (List ℕ) → Type 0
Whole ls = Each (λ l. length l ≡ 33) ls

pub paged_length : (n : ℕ) (ls : List (List ℕ)) → Whole ls
    → length (paged n ls) + 33 * ((n + 54) / 55) ≡ 33 * (length ls + (n + length ls + 54) / 55)
unfolding paged
paged_length n [] w = omega arith
paged_length n (l ∷ ls) w =
    omega (
      arith,
      length-append (headed n l) (paged (suc n) ls),
      headed_length n l w.0,
      paged_length (suc n) ls w.1,
    )

-- ## page after page

-- lines of page j, of which none is its first
paged_inside : (j n : ℕ) (ls : List (List ℕ)) → 55 * j < n → n + length ls ≤ 55 * suc j → paged n ls ≡ joined ls
unfolding paged
paged_inside j n [] h k = refl
paged_inside j n (l ∷ ls) h k =
    ap₂ (λ x y. x ++ y) (headed_inside n l (λ e. omega arith))
    (paged_inside j (suc n) ls (omega arith) (omega arith))

-- the lines of page j
paged_page : (j : ℕ) (ls : List (List ℕ)) → 1 ≤ length ls → length ls ≤ 55
    → paged (55 * j) ls ≡ heading_line (suc j) ++ joined ls
unfolding paged
paged_page j [] h k = absurd (omega arith)
paged_page j (l ∷ ls) h k =
    let number : 55 * j / 55 + 1 ≡ suc j = omega arith in
    ap₂ (λ x y. x ++ y) (headed_first (55 * j) l (omega arith) ∙ ap (λ m. heading_line m ++ l) number)
    (paged_inside j (suc (55 * j)) ls (omega arith) (omega arith))
    ∙ append_assoc (heading_line (suc j)) l (joined ls)

-- m pages of which each is begun
turns_paged : (ls : List (List ℕ)) (m : ℕ) → 55 * m < length ls + 55
    → in_turn (page_of ls) m ≡ paged 0 (take (55 * m) ls)
unfolding in_turn page_of paged
turns_paged ls zero h = refl
turns_paged ls (suc m) h =
    let front : List (List ℕ) = take (55 * m) ls in
    let page : List (List ℕ) = take 55 (drop (55 * m) ls) in
    let here : 55 * m ≡ 0 + length front = omega (arith, length-take-le (55 * m) ls (omega arith)) in
    let next : 55 * m + 55 ≡ 55 * suc m = omega arith in
    let some : 1 ≤ length page = omega (arith, length-take 55 (drop (55 * m) ls), length-drop (55 * m) ls) in
    let few : length page ≤ 55 = omega (arith, length-take 55 (drop (55 * m) ls)) in
    ap₂ (λ x y. x ++ y) (turns_paged ls m (omega arith)) (sym (paged_page m page some few))
    ∙ ap (λ k. paged 0 front ++ paged k page) here
    ∙ sym (paged_append 0 front page)
    ∙ ap (paged 0) (sym (take-add (55 * m) 55 ls))
    ∙ ap (λ k. paged 0 (take k ls)) next

-- the pages are the lines with a heading before each 55th
pub pages_paged : (ls : List (List ℕ)) → 1 ≤ length ls → pages_of ls ≡ paged 0 ls
unfolding pages_of
pages_paged ls h =
    let m : ℕ = page_count (length ls) in
    turns_paged ls m (omega (arith, page_count_lem (length ls)))
    ∙ ap (paged 0) (take_all (55 * m) ls (omega (arith, page_count_lem (length ls))))

pub pages_none : (ls : List (List ℕ)) → length ls ≡ 0 → pages_of ls ≡ heading_line 1
unfolding pages_of in_turn page_of
pages_none ls e = ap pages_of (nil_of_length ls e) ∙ append-nil (heading_line 1)

pub pages_length : (ls : List (List ℕ)) → Whole ls → length (pages_of ls) ≡ 33 * (length ls + page_count (length ls))
pages_length [] w = ap length (pages_none [] refl) ∙ heading_length 1
pages_length (l ∷ ls) w =
    ap length (pages_paged (l ∷ ls) (omega arith))
    ∙ omega (arith, paged_length 0 (l ∷ ls) w, page_count_lem (length (l ∷ ls)))
