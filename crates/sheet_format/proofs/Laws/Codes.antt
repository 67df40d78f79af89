-- Laws of operation codes: the instruction of a code that is known, of one that is no operation's, of a code by its
-- kind, and of the kinds whose fields are the same.
use Prim.Native.Nat.{ℕ, ◌≤◌, ◌<◌}
use mathlib.Core.Path.{◌≡◌, refl, ap, sym, subst, ◌∙◌}
use mathlib.Core.Bool.{Bool, true, false, cond}
use mathlib.Core.Logic.{◌⊎◌, ⊎_elim}
use native.Mathlib.Omega.{arith}
use lib.Dec.{eqb}
use borrow.Author.Tests.{ne_eqb}
use Rattle.laws.proofs.Numbers.{lt_or_le}
use Rattle.file_format.specs.declared.accepted.Op.TheVariants.{Set, Add, Load, Store, Lock, Unlock, Skip}
use Rattle.sheet_format.specs.Layout.{Instr, op, barrier}
use Rattle.sheet_format.specs.Read.{barrier_by, instr_by}
use Rattle.sheet_format.specs.declared.code.Code.{Code}
use Rattle.sheet_format.specs.declared.code.Code.TheVariants as C
use Rattle.barrier_placement.specs.declared.cookbook.Barrier.{Barrier}
use Rattle.barrier_placement.specs.declared.cookbook.Barrier.TheVariants.{LL, LS, SS, SL}
use Rattle.sheet_format.specs.Code.{barrier_kind, code_from, instr_named}

pub by_code : (n : ℕ) {o : ℕ} (a b c : ℕ) → o ≡ n → instr_by n a b c ≡ instr_by o a b c
by_code n a b c e = ap (λ x. instr_by x a b c) (sym e)

pub other_code : (o a b c : ℕ) → (o ≡ 1 → ⊥) → (o ≡ 2 → ⊥) → (o ≡ 3 → ⊥) → (o ≡ 4 → ⊥) → (o ≡ 5 → ⊥) → (o ≡ 6 → ⊥)
    → (o ≡ 7 → ⊥) → barrier (barrier_by o) ≡ instr_by o a b c
other_code o a b c n1 n2 n3 n4 n5 n6 n7 =
    rw (
      ne_eqb o 1 n1,
      ne_eqb o 2 n2,
      ne_eqb o 3 n3,
      ne_eqb o 4 n4,
      ne_eqb o 5 n5,
      ne_eqb o 6 n6,
      ne_eqb o 7 n7,
    ) refl

-- what holds of the instruction of a code o, by bounds on o
module _ (P : Instr → Type 0) (o a b c : ℕ) where
  by : (n : ℕ) → o ≡ n → P (instr_by n a b c) → P (instr_by o a b c)
  by n e = subst P (by_code n a b c e)

  -- register a, and the constant or the target
  pub word_codes : (o ≡ 1) ⊎ (o ≡ 7) → P (op (Set a c)) → P (op (Skip a c)) → P (instr_by o a b c)
  word_codes k set skip = ⊎_elim (λ e. by 1 e set) (λ e. by 7 e skip) k

  -- register a and operand b
  pub pair_codes : (o ≡ 1 → ⊥) → 1 ≤ o → o < 5 → P (op (Add a b)) → P (op (Load a b)) → P (op (Store a b))
      → P (instr_by o a b c)
  pair_codes n p q add load store =
      ⊎_elim (λ l. by 2 (omega arith) add)
      (λ g. ⊎_elim (λ l. by 3 (omega arith) load) (λ h. by 4 (omega arith) store) (lt_or_le o 4))
      (lt_or_le o 3)

  -- operand b alone
  pub lock_codes : 5 ≤ o → o < 7 → P (op (Lock b)) → P (op (Unlock b)) → P (instr_by o a b c)
  lock_codes p q lock unlock =
      ⊎_elim (λ l. by 5 (omega arith) lock) (λ g. by 6 (omega arith) unlock) (lt_or_le o 6)

  -- none of them
  pub barrier_codes : (1 ≤ o → o < 8 → ⊥) → P (barrier (barrier_by o)) → P (instr_by o a b c)
  barrier_codes h =
      let no : (n : ℕ) → 1 ≤ n → n < 8 → o ≡ n → ⊥ = λ n p q e. h (omega arith) (omega arith) in
      subst P
      (other_code o a b c (no 1 (omega arith) (omega arith)) (no 2 (omega arith) (omega arith))
      (no 3 (omega arith) (omega arith)) (no 4 (omega arith) (omega arith)) (no 5 (omega arith) (omega arith))
      (no 6 (omega arith) (omega arith)) (no 7 (omega arith) (omega arith)))

-- the instruction of a code is that of its kind
barrier_named : (k : Barrier) (a b c : ℕ) → barrier k ≡ instr_named (barrier_kind k) a b c
barrier_named LL a b c = refl
barrier_named LS a b c = refl
barrier_named SS a b c = refl
barrier_named SL a b c = refl

named_next : (t : Bool) (k n : Code) {i : Instr} (a b c : ℕ) → i ≡ instr_named n a b c
    → cond t (instr_named k a b c) i ≡ instr_named (cond t k n) a b c
named_next true k n a b c e = refl
named_next false k n a b c e = e

pub named_by : (o a b c : ℕ) → instr_by o a b c ≡ instr_named (code_from o) a b c
named_by o a b c =
    named_next (eqb o 1) C.Set _ a b c
    (named_next (eqb o 2) C.Add _ a b c
    (named_next (eqb o 3) C.Load _ a b c
    (named_next (eqb o 4) C.Store _ a b c
    (named_next (eqb o 5) C.Lock _ a b c
    (named_next (eqb o 6) C.Unlock _ a b c
    (named_next (eqb o 7) C.Skip _ a b c (barrier_named (barrier_by o) a b c)))))))

pub of_kind : (o : ℕ) {r k : Code} (a b c : ℕ) → r ≡ code_from o → r ≡ k → instr_named k a b c ≡ instr_by o a b c
of_kind o a b c e is = ap (λ x. instr_named x a b c) (sym is ∙ e) ∙ sym (named_by o a b c)

-- what holds of the instruction of a code o, by its kind r: of register a and the constant or the target, of register a
-- and operand b, of operand b alone, and of none of them
module _ (P : Instr → Type 0) (o a b c : ℕ) {r : Code} (from : r ≡ code_from o) where
  pub by_kind : {k : Code} → r ≡ k → P (instr_named k a b c) → P (instr_by o a b c)
  by_kind is = subst P (of_kind o a b c from is)

  pub word_kinds : (r ≡ C.Set) ⊎ (r ≡ C.Skip) → P (op (Set a c)) → P (op (Skip a c)) → P (instr_by o a b c)
  word_kinds is set skip = ⊎_elim (λ e. by_kind e set) (λ e. by_kind e skip) is

  pub pair_kinds : (r ≡ C.Add) ⊎ ((r ≡ C.Load) ⊎ (r ≡ C.Store)) → P (op (Add a b)) → P (op (Load a b))
      → P (op (Store a b)) → P (instr_by o a b c)
  pair_kinds is add load store =
      ⊎_elim (λ e. by_kind e add) (λ f. ⊎_elim (λ e. by_kind e load) (λ e. by_kind e store) f) is

  pub lock_kinds : (r ≡ C.Lock) ⊎ (r ≡ C.Unlock) → P (op (Lock b)) → P (op (Unlock b)) → P (instr_by o a b c)
  lock_kinds is lock unlock = ⊎_elim (λ e. by_kind e lock) (λ e. by_kind e unlock) is

  pub barrier_kinds : (r ≡ C.LL) ⊎ ((r ≡ C.LS) ⊎ ((r ≡ C.SS) ⊎ (r ≡ C.SL)))
      → ((k : Barrier) → r ≡ barrier_kind k → P (barrier k)) → P (instr_by o a b c)
  barrier_kinds is one =
      ⊎_elim (λ e. by_kind e (one LL e))
      (λ f. ⊎_elim (λ e. by_kind e (one LS e))
      (λ g. ⊎_elim (λ e. by_kind e (one SS e)) (λ e. by_kind e (one SL e)) g) f) is
