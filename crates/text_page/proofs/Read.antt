-- What a reader finds in a line: each text fills its column, all else is blank, and the newline stands last.
use Prim.Native.Nat.{ℕ, zero, suc, ◌+◌, ◌-◌, ◌≤◌, ◌<◌}
use mathlib.Core.Path.{◌≡◌, refl, sym, ap, ◌∙◌, subst}
use mathlib.Core.Logic.{◌⊎◌, inl, inr}
use mathlib.Core.List.{List, [], ◌∷◌, ◌++◌, append-nil}
use mathlib.Core.Option.{some}
use native.Mathlib.Omega.{arith}
use lib.ListN.{length, get_or, get_elem?, take, drop, replicate}
use lib.ListN.{length-take, length-drop, length-replicate, drop_of_length-le}
use lib.Seq.{sets, sets-eq, take-append-le, drop-append-le, get_or-take, get_or-drop, get_or_at}
use Rattle.laws.proofs.Parts.{take_replicate, drop_replicate, take_sets, drop_sets, drop_sets_le, sets_out}
use Rattle.text_put.specs.Words.{space, newline}
use Rattle.text_page.specs.declared.column.Side.{Side}
use Rattle.text_page.specs.declared.column.Side.TheVariants.{Left, Right}
use Rattle.text_page.specs.declared.column.Column.{Column}
use Rattle.text_page.specs.Columns.{column, place_by, place_in, blank_line, in_column, in_columns, line_in}
use Rattle.text_page.specs.Columns.{column_in, beside, filling, Apart, Outside, Fitting}
use Rattle.text_page.proofs.Laws.Columns.{columns_length}

-- ## a text in its column

-- a text written into blanks, of which it leaves g
blanks_written : (s : Side) (w g : ℕ) (x : List ℕ) → g + length x ≡ w
    → sets (replicate w space) (place_by s 0 g) x ≡ beside s x (replicate g space)
blanks_written Left w g x e =
    let left : w - (0 + length x) ≡ g = omega arith in
    sets-eq x (replicate w space) 0 (omega (arith, length-replicate w space))
    ∙ ap (λ r. x ++ r) (drop_replicate (0 + length x) w space ∙ ap (λ k. replicate k space) left)
blanks_written Right w g x e =
    let first : 0 + g ≡ g = omega arith in
    let all : length (replicate w space) ≤ g + length x = omega (arith, length-replicate w space) in
    ap (λ k. sets (replicate w space) k x) first
    ∙ sets-eq x (replicate w space) g (omega (arith, length-replicate w space))
    ∙ ap (λ r. r ++ x ++ drop (g + length x) (replicate w space)) (take_replicate g w space (omega arith))
    ∙ ap (λ r. replicate g space ++ x ++ r) (drop_of_length-le (replicate w space) all)
    ∙ append-nil (replicate g space ++ x)

place_from_lem : (s : Side) (from gap : ℕ) → place_by s from gap ≡ from + place_by s 0 gap
place_from_lem Left from gap = omega arith
place_from_lem Right from gap = omega arith

-- a text begins within what it leaves of its column
place_within : (s : Side) (gap : ℕ) → place_by s 0 gap ≤ gap
place_within Left gap = omega arith
place_within Right gap = omega arith

-- a run that begins g characters behind a column's first, seen in that column
column_sets : (c : Column) (line : List ℕ) (g : ℕ) (x : List ℕ)
    → column_in c (sets line (c.first - 1 + g) x) ≡ sets (column_in c line) g x
unfolding column_in
column_sets c line g x =
    let from : ℕ = c.first - 1 in
    ap (take c.width) (drop_sets from line g x) ∙ take_sets c.width (drop from line) g x

blank_filled : (c : Column) (line x : List ℕ) → length x ≤ c.width → column_in c line ≡ replicate c.width space
    → column_in c (in_column line c x) ≡ filling c x
unfolding in_column filling
blank_filled c line x few blank =
    let gap : ℕ = c.width - length x in
    let at : ℕ = place_by c.side 0 gap in
    ap (λ i. column_in c (sets line i x)) (place_from_lem c.side (c.first - 1) gap)
    ∙ column_sets c line at x
    ∙ ap (λ l. sets l at x) blank
    ∙ blanks_written c.side c.width gap x (omega arith)

-- ## columns beside each other

-- neither column reaches into the other
abbrev Beside : Column → Column → Type 0
Beside d c = (d.first + d.width ≤ c.first) ⊎ (c.first + c.width ≤ d.first)

-- a text in one column leaves the other
beside_unchanged : (d c : Column) (line x : List ℕ) → 1 ≤ d.first → 1 ≤ c.first → length x ≤ c.width → Beside d c
    → column_in d (in_column line c x) ≡ column_in d line
unfolding column_in in_column
beside_unchanged d c line x f g few (inl h) =
    let at : ℕ = place_in c (length x) - (d.first - 1) in
    let begins = place_from_lem c.side (c.first - 1) (c.width - length x) in
    let place : place_in c (length x) ≡ d.first - 1 + at = omega arith in
    let before : length (column_in d line) ≤ at =
    omega (arith, length-take d.width (drop (d.first - 1) line)) in
    ap (λ i. column_in d (sets line i x)) place ∙ column_sets d line at x ∙ sets_out (column_in d line) at x before
beside_unchanged d c line x f g few (inr h) =
    let gap : ℕ = c.width - length x in
    let ends : place_in c (length x) + length x ≤ d.first - 1 =
    omega (arith, place_from_lem c.side (c.first - 1) gap, place_within c.side gap) in
    ap (take d.width) (drop_sets_le (d.first - 1) line (place_in c (length x)) x ends)

-- a column beside each of these
abbrev Clear : Column → List Column → Type 0
Clear d [] = Unit {0}
Clear d (c ∷ cs) = (1 ≤ c.first) × Beside d c × Clear d cs

clear_unchanged : (d : Column) → 1 ≤ d.first → (line : List ℕ) (cs : List Column) (xs : List (List ℕ)) → Clear d cs
    → Fitting cs xs → column_in d (in_columns line cs xs) ≡ column_in d line
unfolding in_columns
clear_unchanged d f line [] xs h k = refl
clear_unchanged d f line (c ∷ cs) [] h k = refl
clear_unchanged d f line (c ∷ cs) (x ∷ xs) h k =
    clear_unchanged d f (in_column line c x) cs xs h.2 k.1
    ∙ beside_unchanged d c line x f h.0 k.0 h.1

-- ## columns one behind the other

-- one that ends before the others
clear_before : (d : Column) (n : ℕ) (cs : List Column) → 1 ≤ n → d.first + d.width ≤ n → Apart n cs → Clear d cs
clear_before d n [] m h a = tt
clear_before d n (c ∷ cs) m h a = (
  omega (arith, a.0),
  inl (omega (arith, a.0)),
  clear_before d (c.first + c.width) cs (omega (arith, a.0)) (omega (arith, a.0)) a.1,
)

-- a character in none of them, as a column of its own
clear_outside : (i n : ℕ) (cs : List Column) → 1 ≤ n → Apart n cs → Outside i cs → Clear (column i 1 Left) cs
clear_outside i n [] m a o = tt
clear_outside i n (c ∷ cs) m a o =
    (omega (arith, a.0), go o.0, clear_outside i (c.first + c.width) cs (omega (arith, a.0)) a.1 o.1)
  where
    go : (i < c.first) ⊎ (c.first + c.width ≤ i) → Beside (column i 1 Left) c
    go (inl h) = inl (omega arith)
    go (inr h) = inr h

apart_ends : (n : ℕ) (cs : List Column) → Apart n cs → n ≤ 33
apart_ends n [] a = a
apart_ends n (c ∷ cs) a = omega (arith, a.0, apart_ends (c.first + c.width) cs a.1)

-- each lies in the line, from character n on
apart_at : (n : ℕ) (cs : List Column) → Apart n cs → (j : ℕ) (c : Column) → get_elem? cs j ≡ some c
    → (n ≤ c.first) × (c.first + c.width ≤ 33)
apart_at n [] a j c e = let z : ◌≡◌ {A = ℕ} 0 1 = cc in absurd (omega arith)
apart_at n (b ∷ cs) a zero c e =
    let same : b ≡ c = cc in
    subst (λ d. (n ≤ d.first) × (d.first + d.width ≤ 33)) same (a.0, apart_ends (b.first + b.width) cs a.1)
apart_at n (b ∷ cs) a (suc j) c e =
    let r = apart_at (b.first + b.width) cs a.1 j c e in (omega (arith, a.0, r.0), r.1)

-- the line has nothing from character n on
abbrev BlankFrom : ℕ → List ℕ → Type 0
BlankFrom n line = (d : Column) → n ≤ d.first → d.first + d.width ≤ 33 → column_in d line ≡ replicate d.width space

columns_filled : (n : ℕ) (line : List ℕ) (cs : List Column) (xs : List (List ℕ)) → 1 ≤ n → BlankFrom n line
    → Apart n cs → Fitting cs xs → (j : ℕ) (c : Column) → get_elem? cs j ≡ some c
    → column_in c (in_columns line cs xs) ≡ filling c (get_or xs j [])
unfolding in_columns filling
columns_filled n line [] xs m blank a k j c e = let z : ◌≡◌ {A = ℕ} 0 1 = cc in absurd (omega arith)
columns_filled n line (b ∷ cs) [] m blank a k j c e =
    let within = apart_at n (b ∷ cs) a j c e in
    blank c within.0 within.1 ∙ blanks_written c.side c.width (c.width - 0) [] (omega arith)
columns_filled n line (b ∷ cs) (x ∷ xs) m blank a k zero c e =
    let same : b ≡ c = cc in
    let f : 1 ≤ b.first = omega (arith, a.0) in
    let ends : b.first + b.width ≤ 33 = apart_ends (b.first + b.width) cs a.1 in
    let clear : Clear b cs = clear_before b (b.first + b.width) cs (omega arith) (omega arith) a.1 in
    subst (λ d. column_in d (in_columns (in_column line b x) cs xs) ≡ filling d x) same
    (clear_unchanged b f (in_column line b x) cs xs clear k.1 ∙ blank_filled b line x k.0 (blank b a.0 ends))
columns_filled n line (b ∷ cs) (x ∷ xs) m blank a k (suc j) c e =
    let f : 1 ≤ b.first = omega (arith, a.0) in
    columns_filled (b.first + b.width) (in_column line b x) cs xs (omega arith)
    (λ d h r. beside_unchanged d b line x (omega arith) f k.0 (inr h) ∙ blank d (omega (arith, a.0)) r)
    a.1 k.1 j c e

-- ## the line

line_blank : BlankFrom 1 blank_line
unfolding blank_line column_in
line_blank d h k =
    ap (take d.width) (drop_replicate (d.first - 1) 32 space)
    ∙ take_replicate d.width (32 - (d.first - 1)) space (omega arith)

-- the newline stands in no column
columns_line : (c : Column) (cs : List Column) (xs : List (List ℕ)) → 1 ≤ c.first → c.first + c.width ≤ 33
    → column_in c (line_in cs xs) ≡ column_in c (in_columns blank_line cs xs)
unfolding line_in column_in blank_line
columns_line c cs xs h k =
    let line : List ℕ = in_columns blank_line cs xs in
    let from : ℕ = c.first - 1 in
    let long : length line ≡ 32 = columns_length blank_line cs xs in
    let inside : c.width ≤ length (drop from line) = omega (arith, length-drop from line) in
    ap (take c.width) (drop-append-le from line (newline ∷ []) (omega arith))
    ∙ take-append-le c.width (drop from line) (newline ∷ []) inside

-- each text fills its column, and a column without one is blank
pub columns_hold : (cs : List Column) (xs : List (List ℕ)) → Apart 1 cs → Fitting cs xs → (j : ℕ) (c : Column)
    → get_elem? cs j ≡ some c → column_in c (line_in cs xs) ≡ filling c (get_or xs j [])
columns_hold cs xs a k j c e =
    let within = apart_at 1 cs a j c e in
    columns_line c cs xs within.0 within.1
    ∙ columns_filled 1 blank_line cs xs (omega arith) line_blank a k j c e

-- and all else is blank
pub others_blank : (cs : List Column) (xs : List (List ℕ)) → Apart 1 cs → Fitting cs xs → (n : ℕ) → 1 ≤ n → n ≤ 32
    → Outside n cs → get_or (line_in cs xs) (n - 1) 0 ≡ 32
unfolding column_in
others_blank cs xs a k n h m o =
    let d : Column = column n 1 Left in
    let line : List ℕ = line_in cs xs in
    let here : n - 1 ≡ n - 1 + 0 = omega arith in
    let blank : column_in d line ≡ space ∷ [] =
    columns_line d cs xs h (omega arith)
    ∙ clear_unchanged d h blank_line cs xs (clear_outside n 1 cs (omega arith) a o) k
    ∙ line_blank d h (omega arith) in
    ap (λ i. get_or line i 0) here
    ∙ sym (get_or-take 1 (drop (n - 1) line) 0 0 (omega arith) ∙ get_or-drop (n - 1) line 0 0)
    ∙ ap (λ l. get_or l 0 0) blank

-- behind them the newline, once
pub newline_last : (cs : List Column) (xs : List (List ℕ)) → get_or (line_in cs xs) 32 0 ≡ 10
unfolding line_in blank_line
newline_last cs xs = get_or_at (in_columns blank_line cs xs) newline [] 0 32 (columns_length blank_line cs xs)
