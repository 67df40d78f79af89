-- Laws of lines: the name and the text of an instruction by its code, and how long they are at most.
use Prim.Native.Nat.{ℕ, suc, ◌+◌, ◌^◌, ◌≤◌, ◌<◌}
use mathlib.Core.Path.{◌≡◌, refl, ap, ◌∙◌}
use mathlib.Core.Logic.{◌⊎◌}
use mathlib.Core.Bool.{Bool, true, false, cond}
use mathlib.Core.List.{List, [], ◌∷◌, ◌++◌}
use native.Mathlib.Omega.{arith}
use lib.Dec.{eqb}
use Rattle.std.proofs.Common.{Bor}
use lib.ListN.{length, length-append}
use Rattle.file_format.specs.declared.accepted.Op.TheVariants.{Set, Add, Load, Store, Lock, Unlock, Skip}
use Rattle.barrier_placement.specs.declared.cookbook.Barrier.TheVariants.{LL, LS, SS, SL}
use Rattle.sheet_format.specs.Layout.{Instr, op, barrier}
use Rattle.sheet_format.specs.Read.{barrier_by, instr_by}
use Rattle.sheet_format.specs.Put.{Puts}
use Rattle.sheet_format.specs.declared.code.Code.{Code}
use Rattle.sheet_format.specs.declared.code.Code.TheVariants as C
use Rattle.sheet_format.specs.Code.{code_from, instr_named}
use Rattle.sheet_format.proofs.Laws.Put.{puts_as}
use Rattle.sheet_format.proofs.Laws.Codes.{of_kind, word_kinds, pair_kinds, lock_kinds, barrier_kinds}
use Rattle.text_put.specs.Decimal.{decimal}
use Rattle.text_put.specs.Words.{space}
use Rattle.text_listing.specs.Line.{pair, instr_name, instr_text, line_of, first_line}
use Rattle.text_put.proofs.Laws.Decimal.{decimal_few}

pub name_few : (i : Instr) → length (instr_name i) ≤ 6
name_few (op (Set a c)) = omega arith
name_few (op (Add a b)) = omega arith
name_few (op (Load a x)) = omega arith
name_few (op (Store a x)) = omega arith
name_few (op (Lock l)) = omega arith
name_few (op (Unlock l)) = omega arith
name_few (op (Skip a t)) = omega arith
name_few (barrier LL) = omega arith
name_few (barrier LS) = omega arith
name_few (barrier SS) = omega arith
name_few (barrier SL) = omega arith

-- the name of a kind of code, laid as a text
pub put_kind : (o a b c : ℕ) {r k : Code} → r ≡ code_from o → {l m : List ℕ} {i j : ℕ} {x y : Bor (List ℕ)} → r ≡ k
    → x ≡ y → y.now ≡ instr_name (instr_named k a b c) → Puts l i x.now m j
    → Puts l i (instr_name (instr_by o a b c)) m j
put_kind o a b c from is same name =
    puts_as (ap (λ (x : Bor (List ℕ)). x.now) same ∙ name ∙ ap instr_name (of_kind o a b c from is))

-- a name that is laid ends at most six bytes on
pub name_end : {l m : List ℕ} {i j : ℕ} (o : ℕ) → ((a b c : ℕ) → Puts l i (instr_name (instr_by o a b c)) m j)
    → j ≤ i + 6
name_end o p = omega (arith, (p 0 0 0).behind, name_few (instr_by o 0 0 0))

-- what stands behind the name: a and the constant or the target, a and b, b alone, or nothing
module _ (o a b c : ℕ) {r : Code} (from : r ≡ code_from o) where
  abbrev Behind : List ℕ → Instr → Type 0
  Behind rest i = instr_name i ++ rest ≡ instr_text i

  pub word_behind : (r ≡ C.Set) ⊎ (r ≡ C.Skip) → Behind (space ∷ pair a c) (instr_by o a b c)
  unfolding instr_text
  word_behind is = word_kinds (Behind (space ∷ pair a c)) o a b c from is refl refl

  pub pair_behind : (r ≡ C.Add) ⊎ ((r ≡ C.Load) ⊎ (r ≡ C.Store)) → Behind (space ∷ pair a b) (instr_by o a b c)
  unfolding instr_text
  pair_behind is = pair_kinds (Behind (space ∷ pair a b)) o a b c from is refl refl refl

  pub b_behind : (r ≡ C.Lock) ⊎ (r ≡ C.Unlock) → Behind (space ∷ decimal b) (instr_by o a b c)
  unfolding instr_text
  b_behind is = lock_kinds (Behind (space ∷ decimal b)) o a b c from is refl refl

  pub none_behind : (r ≡ C.LL) ⊎ ((r ≡ C.LS) ⊎ ((r ≡ C.SS) ⊎ (r ≡ C.SL)))
      → instr_name (instr_by o a b c) ≡ instr_text (instr_by o a b c)
  unfolding instr_text
  none_behind is = barrier_kinds (λ i. instr_name i ≡ instr_text i) o a b c from is (λ k e. refl)

pub pair_few : (a b : ℕ) → a < 2 ^ 32 → b < 2 ^ 32 → length (pair a b) ≤ 21
pair_few a b ha hb =
    omega (arith, length-append (decimal a) (32 ∷ decimal b), decimal_few a ha, decimal_few b hb)

abbrev Few : Instr → Type 0
Few i = length (instr_text i) ≤ 28

either : (t : Bool) (x y : Instr) → Few x → Few y → Few (cond t x y)
either true x y p q = p
either false x y p q = q

pub instr_few : (o a b c : ℕ) → a < 2 ^ 32 → b < 2 ^ 32 → c < 2 ^ 32 → length (instr_text (instr_by o a b c)) ≤ 28
unfolding instr_text
instr_few o a b c ha hb hc =
    let ab = pair_few a b ha hb in
    let ac = pair_few a c ha hc in
    let alone = decimal_few b hb in
    either (eqb o 1) _ _ (omega arith)
    (either (eqb o 2) _ _ (omega arith)
    (either (eqb o 3) _ _ (omega arith)
    (either (eqb o 4) _ _ (omega arith)
    (either (eqb o 5) _ _ (omega arith)
    (either (eqb o 6) _ _ (omega arith)
    (either (eqb o 7) _ _ (omega arith) (omega (arith, name_few (barrier (barrier_by o))))))))))

-- a line of operands of 32 bits
pub line_few : (lane p o a b c : ℕ) → lane < 2 ^ 32 → p < 2 ^ 32 → a < 2 ^ 32 → b < 2 ^ 32 → c < 2 ^ 32
    → length (line_of lane p (instr_by o a b c)) ≤ 51
unfolding line_of
line_few lane p o a b c hl hp ha hb hc =
    let t : List ℕ = instr_text (instr_by o a b c) in
    let whole : length (line_of lane p (instr_by o a b c)) ≡ length (pair lane p) + suc (length t) + 1 =
    length-append (pair lane p ++ 32 ∷ t) (10 ∷ [])
    ∙ ap (λ n. n + 1) (length-append (pair lane p) (32 ∷ t)) in
    omega (arith, pair_few lane p hl hp, instr_few o a b c ha hb hc)

pub first_same : {t u l m v w k j : ℕ} → t ≡ u → l ≡ m → v ≡ w → k ≡ j → first_line t l v k ≡ first_line u m w j
first_same e1 e2 e3 e4 = cc

-- an instruction by other names of its code and its first two operands
pub instr_same : {o p a d b e : ℕ} (c : ℕ) → o ≡ p → a ≡ d → b ≡ e → instr_by o a b c ≡ instr_by p d e c
instr_same c e1 e2 e3 = cc
