-- A text has no more bytes of moves than bytes.
use Prim.Native.Nat.{ℕ, suc, ◌+◌, ◌≤◌}
use mathlib.Core.Bool.{Bool, true, false, cond}
use mathlib.Core.List.{List, [], ◌∷◌, ◌++◌}
use native.Mathlib.Omega.{arith}
use lib.ListN.{length, length-append}
use Rattle.text_schedule.specs.declared.place.Place.{Place}
use Rattle.text_schedule.specs.declared.place.Place.TheVariants.{Blank, Lane, Between, Choice, Full, Remark}
use Rattle.text_schedule.specs.declared.place.Place.TheVariants.{Noted}
use Rattle.text_schedule.specs.declared.place.Place.TheVariants.{Wrong}
use Rattle.text_schedule.specs.Place.{is_blank, is_digit, is_hash, sorted, after}
use Rattle.text_schedule.specs.Text.{is_newline, move_at, moves_from, moves_of}

-- how many bytes of moves a line may come to have made, at a place in it
weight : Place → ℕ
weight Blank = 0
weight (Lane l) = 1
weight (Between l) = 1
weight (Choice l c) = 2
weight (Full l c) = 2
weight Remark = 0
weight (Noted l c) = 2
weight Wrong = 0

-- one of four places, each of which is light
light : (n : ℕ) (b : ℕ) (x d h o : Place) → weight x ≤ n → weight d ≤ n → weight h ≤ n → weight o ≤ n
    → weight (sorted b x d h o) ≤ n
light n b x d h o wx wd wh wo = go (is_blank b) (is_digit b) (is_hash b)
  where
    go : (t u v : Bool) → weight (cond t x (cond u d (cond v h o))) ≤ n
    go true u v = wx
    go false true v = wd
    go false false true = wh
    go false false false = wo

-- a byte adds at most one
weight_on : (p : Place) (b : ℕ) → weight (after p b) ≤ weight p + 1
unfolding weight
weight_on Blank b = light 1 b _ _ _ _ (omega arith) (omega arith) (omega arith) (omega arith)
weight_on (Lane l) b = light 2 b _ _ _ _ (omega arith) (omega arith) (omega arith) (omega arith)
weight_on (Between l) b = light 2 b _ _ _ _ (omega arith) (omega arith) (omega arith) (omega arith)
weight_on (Choice l c) b = light 3 b _ _ _ _ (omega arith) (omega arith) (omega arith) (omega arith)
weight_on (Full l c) b = light 3 b _ _ _ _ (omega arith) (omega arith) (omega arith) (omega arith)
weight_on Remark b = omega arith
weight_on (Noted l c) b = omega arith
weight_on Wrong b = omega arith

weight_move : (p : Place) → length (move_at p) ≤ weight p
unfolding weight
weight_move Blank = omega arith
weight_move (Lane l) = omega arith
weight_move (Between l) = omega arith
weight_move (Choice l c) = omega arith
weight_move (Full l c) = omega arith
weight_move Remark = omega arith
weight_move (Noted l c) = omega arith
weight_move Wrong = omega arith

one_more : (t : Bool) (p q : Place) (x y : List ℕ) (n : ℕ) → length x ≤ n → length y ≤ weight q + n
    → weight q ≤ weight p + 1 → length (cond t (move_at p ++ x) y) ≤ weight p + suc n
one_more true p q x y n hx hy hq = omega (arith, length-append (move_at p) x, weight_move p)
one_more false p q x y n hx hy hq = omega arith

few_from : (p : Place) (s : List ℕ) → length (moves_from p s) ≤ weight p + length s
unfolding moves_from weight
few_from p [] = omega (arith, weight_move p)
few_from p (b ∷ bs) =
    let left : length (moves_from Blank bs) ≤ length bs = omega (arith, few_from Blank bs) in
    one_more (is_newline b) p (after p b) (moves_from Blank bs) (moves_from (after p b) bs) (length bs) left
    (few_from (after p b) bs) (weight_on p b)

-- a text has no more bytes of moves than bytes
pub moves_few : (s : List ℕ) → length (moves_of s) ≤ length s
unfolding weight
moves_few s = omega (arith, few_from Blank s)
