-- Laws of the checks one after the other: the refusal of the first that does not pass.
use Prim.Native.Nat.{ℕ, ◌+◌, ◌*◌, ◌≤◌, ◌<◌}
use mathlib.Core.Path.{◌≡◌, refl, sym, ap, ◌∙◌}
use mathlib.Core.Bool.{Bool, true, false, not}
use mathlib.Core.List.{List}
use mathlib.Core.Logic.{◌⊎◌, inl, inr, ⊎_elim}
use native.Mathlib.Omega.{arith}
use native.Mathlib.Decide.{dec_lt, ℕ_discrete}
use borrow.Author.Tests.{lt-ltb, le-ltb, eq-eqb, eqb-true, not-false}
use lib.Dec.{eqb}
use Rattle.std.specs.Prelude.{Ok, Err}
use lib.ListN.{length}
use Rattle.file_format.specs.Fields.{record_count}
use Rattle.file_format.specs.Rules.{header_rule, bad_record}
use Rattle.file_format.specs.Linkage.{bad_linkage, chain_too_long}
use Rattle.file_format.specs.Targets.{bad_target}
use Rattle.file_format.specs.Accepted.{program_of}
use Rattle.file_format.specs.Structured.{Fielded}
use Rattle.file_verdict.specs.declared.refusal.Refusal.{Refusal}
use Rattle.file_verdict.specs.declared.refusal.Refusal.TheVariants.{TruncatedHeader, BadHeader, BadLength}
use Rattle.file_verdict.specs.declared.refusal.Refusal.TheVariants.{BadRecord}
use Rattle.file_verdict.specs.declared.refusal.Refusal.TheVariants.{BadLinkage, ChainTooLong, BadTarget}
use Rattle.file_verdict.specs.Verdict.{Checked, unless, fields_then, structure_then, lock_refusal, refusal_of}
use Rattle.file_verdict.specs.Verdict.{verdict, accepted}
use Rattle.file_verdict.proofs.Laws.Verdict.{no_pass, names, passes, accepted_as}
use Rattle.file_accept.specs.Checks.{linked_refusal}

module _ (s : List ℕ) where
  -- ## checks 5 to 7, and the rest

  abbrev from8 : Checked
  from8 = lock_refusal (program_of s)

  abbrev from7 : Checked
  from7 = unless (bad_target s) BadTarget from8

  abbrev from6 : Checked
  from6 = unless (chain_too_long s) ChainTooLong from7

  pub refuses5 : {x : ℕ} → x ≡ bad_linkage s → ¬ x ≡ 0 → Err (BadLinkage x) ≡ linked_refusal s
  unfolding linked_refusal
  refuses5 = names (bad_linkage s) BadLinkage from6

  module _ (z5 : bad_linkage s ≡ 0) where
    past5 : from6 ≡ linked_refusal s
    unfolding linked_refusal
    past5 = passes (bad_linkage s) BadLinkage from6 z5

    pub refuses6 : {x : ℕ} → x ≡ chain_too_long s → ¬ x ≡ 0 → Err (ChainTooLong x) ≡ linked_refusal s
    refuses6 e h = names (chain_too_long s) ChainTooLong from7 e h ∙ past5

    module _ (z6 : chain_too_long s ≡ 0) where
      past6 : from7 ≡ linked_refusal s
      past6 = passes (chain_too_long s) ChainTooLong from7 z6 ∙ past5

      pub refuses7 : {x : ℕ} → x ≡ bad_target s → ¬ x ≡ 0 → Err (BadTarget x) ≡ linked_refusal s
      refuses7 e h = names (bad_target s) BadTarget from8 e h ∙ past6

      module _ (z7 : bad_target s ≡ 0) where
        pub past7 : from8 ≡ linked_refusal s
        past7 = passes (bad_target s) BadTarget from8 z7 ∙ past6

-- ## checks 1 to 4, whatever the rest

module _ (s : List ℕ) (rest : Checked) where
  pub refuses1 : length s < 16 → Err TruncatedHeader ≡ fields_then s rest
  unfolding fields_then
  refuses1 h = rw (lt-ltb (length s) 16 h) refl

  pub refuses2 : 16 ≤ length s → not (header_rule s) ≡ true → Err BadHeader ≡ fields_then s rest
  unfolding fields_then
  refuses2 h h2 = rw (le-ltb (length s) 16 h, h2) refl

  pub refuses3 : 16 ≤ length s → not (header_rule s) ≡ false
      → not (eqb (length s) (16 + 12 * record_count s)) ≡ true → Err BadLength ≡ fields_then s rest
  unfolding fields_then
  refuses3 h h2 h3 = rw (le-ltb (length s) 16 h, h2, h3) refl

  module _
      (h1 : 16 ≤ length s) (h2 : not (header_rule s) ≡ false)
      (h3 : not (eqb (length s) (16 + 12 * record_count s)) ≡ false)
    where
      past3 : unless (bad_record s) BadRecord rest ≡ fields_then s rest
      unfolding fields_then
      past3 = rw (le-ltb (length s) 16 h1, h2, h3) refl

      pub refuses4 : {x : ℕ} → x ≡ bad_record s → ¬ x ≡ 0 → Err (BadRecord x) ≡ fields_then s rest
      refuses4 e h = names (bad_record s) BadRecord rest e h ∙ past3

      pub past4 : bad_record s ≡ 0 → rest ≡ fields_then s rest
      past4 z = passes (bad_record s) BadRecord rest z ∙ past3

  pub fields_then_lem : Fielded s → fields_then s rest ≡ rest
  fields_then_lem f =
      let sized = f.sized in
      sym (past4 (omega arith) (ap not f.header) (ap not (eq-eqb _ _ sized)) f.records)

-- ## checks 1 to 4, and the whole

module _ (s : List ℕ) where
  pub refusal_is : refusal_of s ≡ fields_then s (linked_refusal s)
  unfolding refusal_of structure_then fields_then linked_refusal
  refusal_is = refl

  -- one of checks 1 to 4 refuses, and the rest does not matter
  abbrev Refuses : Type 0
  Refuses = (r : Refusal) × ((rest : Checked) → Err r ≡ fields_then s rest)

  by_fields : Fielded s ⊎ Refuses
  by_fields =
      go (dec_lt (length s) 16) (not (header_rule s)) refl (not (eqb (length s) (16 + 12 * record_count s))) refl
      (ℕ_discrete (bad_record s) 0)
    where
      go : Dec (length s < 16) → (b : Bool) → not (header_rule s) ≡ b
          → (d : Bool) → not (eqb (length s) (16 + 12 * record_count s)) ≡ d → Dec (bad_record s ≡ 0)
          → Fielded s ⊎ Refuses
      go (yes h) b h2 d h3 e = inr (_, λ rest. refuses1 s rest h)
      go (no h) true h2 d h3 e = inr (_, λ rest. refuses2 s rest (omega arith) h2)
      go (no h) false h2 true h3 e = inr (_, λ rest. refuses3 s rest (omega arith) h2 h3)
      go (no h) false h2 false h3 (no e) =
          inr (_, λ rest. refuses4 s rest (omega arith) h2 h3 refl e)
      go (no h) false h2 false h3 (yes e) =
          inl (record { header = not-false _ h2; sized = eqb-true _ _ (not-false _ h3); records = e })

  pub fields_passed : fields_then s (Ok tt) ≡ Ok tt → Fielded s
  fields_passed p = ⊎_elim (λ f. f) (λ r. absurd (no_pass (r.1 (Ok tt) ∙ p))) by_fields

  pub fields_kept : Fielded s → refusal_of s ≡ linked_refusal s
  fields_kept f = refusal_is ∙ fields_then_lem s (linked_refusal s) f

  pub fields_refused : {r : Refusal} → Err r ≡ fields_then s (Ok tt) → Err r ≡ refusal_of s
  fields_refused e =
      ⊎_elim (λ f. absurd (no_pass (e ∙ fields_then_lem s (Ok tt) f)))
      (λ r. e ∙ sym (r.1 (Ok tt)) ∙ r.1 (linked_refusal s) ∙ sym refusal_is)
      by_fields

  -- a refused file is not accepted
  pub not_accepted : {r : Refusal} → Err r ≡ refusal_of s → ¬ verdict s ≡ accepted (program_of s)
  not_accepted e v = no_pass (e ∙ (accepted_as s (program_of s) v).0)
