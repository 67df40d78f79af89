-- Laws of the verdict: what each check that did not refuse leaves.
use Prim.Native.Nat.{ℕ, ◌+◌, ◌*◌}
use mathlib.Core.Path.{◌≡◌, refl, ap, sym, subst, ◌∙◌}
use mathlib.Core.List.{List}
use mathlib.Core.Bool.{Bool, true, false, not, cond}
use mathlib.Core.Logic.{◌⊎◌, inl, inr}
use borrow.Author.Tests.{eq-eqb, ne_eqb, eqb-true, not-false}
use lib.ListN.{length}
use lib.Dec.{ltb, eqb}
use Rattle.std.specs.Prelude.{Ok, Err}
use Rattle.file_verdict.specs.declared.refusal.Refusal.{Refusal}
use Rattle.file_verdict.specs.declared.refusal.Refusal.TheVariants.{TruncatedHeader, BadHeader}
use Rattle.file_verdict.specs.declared.refusal.Refusal.TheVariants.{BadLength, BadRecord, BadLinkage}
use Rattle.file_verdict.specs.declared.refusal.Refusal.TheVariants.{ChainTooLong, BadTarget, LockFault}
use Rattle.file_verdict.specs.declared.refusal.Refusal.TheVariants.{LockOrder}
use Rattle.file_format.specs.Fields.{record_count}
use Rattle.file_format.specs.Rules.{header_rule, bad_record}
use Rattle.file_format.specs.Linkage.{bad_linkage, chain_too_long}
use Rattle.file_format.specs.Targets.{bad_target}
use Rattle.file_format.specs.Structured.{Structured}
use Rattle.file_format.specs.Accepted.{Program, program_of}
use Rattle.file_format.specs.Held.{lock_fault}
use Rattle.file_format.specs.Rising.{lock_order}
use Rattle.file_verdict.specs.Verdict.{Checked, unless, refused_if, fields_then, structure_then, refusal_of}
use Rattle.file_verdict.specs.Verdict.{Verdict, refused, accepted}
use Rattle.file_verdict.specs.Verdict.{verdict, verdict_from}

-- a check that names a record, and one that names none
module _ (x : ℕ) (f : ℕ → Refusal) (rest : Checked) where
  pub names : {y : ℕ} → y ≡ x → ¬ y ≡ 0 → Err (f y) ≡ unless x f rest
  names e h =
      ap (λ z. Err (f z)) e ∙ sym (ap (λ b. cond b rest (Err (f x))) (ne_eqb x 0 (λ z. h (e ∙ z))))

  pub passes : x ≡ 0 → rest ≡ unless x f rest
  passes z = sym (ap (λ b. cond b rest (Err (f x))) (eq-eqb x 0 z))

-- a check hands everything on, or refuses whatever comes after it
abbrev Check : (Checked → Checked) → Type 0
Check f = ((a : Checked) → f a ≡ a) ⊎ ((r : Refusal) × ((a : Checked) → f a ≡ Err r))

check_if : (b : Bool) (r : Refusal) → Check (refused_if b r)
check_if true r = inr (r, λ a. refl)
check_if false r = inl (λ a. refl)

check_unless : (x : ℕ) (f : ℕ → Refusal) → Check (unless x f)
check_unless x f = go (eqb x 0)
  where
    go : (b : Bool) → Check (λ a. cond b a (Err (f x)))
    go true = inl (λ a. refl)
    go false = inr (f x, λ a. refl)

check_then : (f g : Checked → Checked) → Check f → Check g → Check (λ a. f (g a))
check_then f g (inl p) (inl q) = inl (λ a. p (g a) ∙ q a)
check_then f g (inl p) (inr q) = inr (q.0, λ a. p (g a) ∙ q.1 a)
check_then f g (inr p) q = inr (p.0, λ a. p.1 (g a))

structure_check : (s : List ℕ) → Check (structure_then s)
unfolding structure_then fields_then
structure_check s =
    check_then (refused_if (ltb (length s) 16) TruncatedHeader) _ (check_if (ltb (length s) 16) TruncatedHeader)
    (check_then (refused_if (not (header_rule s)) BadHeader) _ (check_if (not (header_rule s)) BadHeader)
    (check_then (refused_if (not (eqb (length s) (16 + 12 * record_count s))) BadLength) _
    (check_if (not (eqb (length s) (16 + 12 * record_count s))) BadLength)
    (check_then (unless (bad_record s) BadRecord) _ (check_unless (bad_record s) BadRecord)
    (check_then (unless (bad_linkage s) BadLinkage) _ (check_unless (bad_linkage s) BadLinkage)
    (check_then (unless (chain_too_long s) ChainTooLong) _ (check_unless (chain_too_long s) ChainTooLong)
    (check_unless (bad_target s) BadTarget))))))

-- a refusal does not pass
pub no_pass : {r : Refusal} → ◌≡◌ {A = Checked} (Err r) (Ok tt) → ⊥
no_pass e = absurd cc

-- what passes went past every check
past : (b : Bool) (r : Refusal) (rest : Checked) → refused_if b r rest ≡ Ok tt → (b ≡ false) × (rest ≡ Ok tt)
past true r rest e = absurd (no_pass e)
past false r rest e = (refl, e)

past_record : (x : ℕ) (f : ℕ → Refusal) (rest : Checked) → unless x f rest ≡ Ok tt → (x ≡ 0) × (rest ≡ Ok tt)
past_record x f rest e = go (eqb x 0) refl e
  where
    go : (b : Bool) → eqb x 0 ≡ b → cond b rest (Err (f x)) ≡ Ok tt → (x ≡ 0) × (rest ≡ Ok tt)
    go true t e = (eqb-true x 0 t, e)
    go false t e = absurd (no_pass e)

pub structured : (s : List ℕ) → structure_then s (Ok tt) ≡ Ok tt → Structured s
unfolding structure_then fields_then
structured s e =
    let e1 = past (ltb (length s) 16) TruncatedHeader _ e in
    let e2 = past (not (header_rule s)) BadHeader _ e1.1 in
    let e3 = past (not (eqb (length s) (16 + 12 * record_count s))) BadLength _ e2.1 in
    let e4 = past_record (bad_record s) BadRecord _ e3.1 in
    let e5 = past_record (bad_linkage s) BadLinkage _ e4.1 in
    let e6 = past_record (chain_too_long s) ChainTooLong _ e5.1 in
    let e7 = past_record (bad_target s) BadTarget _ e6.1 in
    record {
      fields = record {
        header = not-false (header_rule s) e2.0;
        sized = eqb-true _ _ (not-false _ e3.0);
        records = e4.0;
      };
      linkage = e5.0;
      chains = e6.0;
      targets = e7.0;
    }

-- an accepted file passed every check
pub sound : (s : List ℕ) → refusal_of s ≡ Ok tt
    → Structured s × (lock_fault (program_of s) ≡ 0) × (lock_order (program_of s) ≡ 0)
unfolding refusal_of
sound s e = go (structure_check s)
  where
    go : Check (structure_then s) → Structured s × (lock_fault (program_of s) ≡ 0) × (lock_order (program_of s) ≡ 0)
    go (inl p) =
        let e8 = past_record (lock_fault (program_of s)) LockFault _ (sym (p _) ∙ e) in (
          structured s (p (Ok tt)),
          e8.0,
          (past_record (lock_order (program_of s)) LockOrder (Ok tt) e8.1).0,
        )
    go (inr p) = absurd (no_pass (sym (p.1 _) ∙ e))

-- a refused verdict is by its refusal, an accepted one on the file's own kernel
abbrev Says : List ℕ → Verdict → Type 0
Says s (refused r) = refusal_of s ≡ Err r
Says s (accepted k) = (refusal_of s ≡ Ok tt) × (program_of s ≡ k)

says : (s : List ℕ) → Says s (verdict s)
says s = go (refusal_of s) refl
  where
    go : (c : Checked) → refusal_of s ≡ c → Says s (verdict_from c (program_of s))
    go (Ok tt) h = (h, refl)
    go (Err r) h = h

pub accepted_as : (s : List ℕ) (k : Program) → verdict s ≡ accepted k → (refusal_of s ≡ Ok tt) × (program_of s ≡ k)
accepted_as s k e = subst (Says s) e (says s)

pub refused_as : (s : List ℕ) (r : Refusal) → verdict s ≡ refused r → refusal_of s ≡ Err r
refused_as s r e = subst (Says s) e (says s)
