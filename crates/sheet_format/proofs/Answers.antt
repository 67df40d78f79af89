-- What an answer tells of the file, where the buffer takes the bytes of every kernel, and how small a refusal is.
use Prim.Native.Nat.{ℕ, ◌+◌, ◌*◌, ◌≤◌}
use mathlib.Core.Path.{◌≡◌, refl, sym, ap, ◌∙◌, subst}
use mathlib.Core.Bool.{Bool, true, false, cond}
use mathlib.Core.List.{List}
use native.Mathlib.Omega.{arith}
use lib.Dec.{ltb}
use lib.ListN.{length}
use Rattle.file_format.specs.Accepted.{Program}
use Rattle.file_format.specs.Lawful.{Lawful}
use Rattle.file_verdict.specs.Verdict.{Verdict, refused, accepted, verdict, number_of, record_of}
use Rattle.file_verdict.proofs.Laws.Verdict.{refused_as}
use Rattle.file_wellformed.proofs.Lawful.{accepted_lawful}
use Rattle.file_wellformed.proofs.Named.{number_small, record_named}
use Rattle.std.specs.Prelude.{Ok, Err}
use Rattle.file_verdict.specs.declared.refusal.Refusal.{Refusal}
use Rattle.file_verdict.specs.declared.refusal.Refusal.TheVariants.{ShortBuffer}
use Rattle.sheet_format.specs.declared.Level.{Level}
use Rattle.sheet_format.specs.Levels.{widest}
use Rattle.sheet_format.specs.Bytes.{WriteResult, sheet_bytes, over, answer_by, lower_by}
use Rattle.sheet_format.proofs.Laws.Written.{written_all}
use Rattle.sheet_format.proofs.Sizes.{sheet_small}

-- which of the two an answer is, and the refusal
abbrev pub kind_of : WriteResult → ℕ
kind_of (Ok n) = 0
kind_of (Err r) = 1

abbrev pub refusal_in : WriteResult → Refusal
refusal_in (Ok n) = ShortBuffer
refusal_in (Err r) = r

apart : {m : ℕ} {r : Refusal} {x y : List ℕ} → ◌≡◌ {A = WriteResult × List ℕ} (Ok m, x) (Err r, y) → ⊥
apart p =
    let clash : ◌≡◌ {A = ℕ} 0 1 = ap (λ (z : WriteResult × List ℕ). kind_of z.0) p in
    absurd (omega arith)

-- an answer of which it is known what it is
pub told : {r x : WriteResult} {after : List ℕ} {y : WriteResult × List ℕ} → r ≡ x → (r, after) ≡ y → (x, after) ≡ y
told {r} {x} {after} e p = (λ i. (sym e i, after)) ∙ p

-- the file is accepted, and its kernel's bytes stand at the front of the buffer
pub record BytesIn (bytes : Program → List ℕ) (s own after : List ℕ) : Type 0 where
  pub kernel : Program
  pub accepts : verdict s ≡ accepted kernel
  pub front : after ≡ over (bytes kernel) own

-- in a buffer of whatever length: bytes were written, or the file is refused, but for 9
module _ (bytes : Program → List ℕ) (s own : List ℕ) where
  -- what is answered to an accepted file, by whether the buffer is too short
  abbrev outcome : Program → Bool → WriteResult × List ℕ
  outcome k b = cond b (Err ShortBuffer, own) (Ok (length (bytes k)), over (bytes k) own)

  pub wrote_any : {n : ℕ} {after : List ℕ} → (Ok n, after) ≡ answer_by bytes (verdict s) own
      → BytesIn bytes s own after
  wrote_any {n} {after} p = go (verdict s) refl p
    where
      by : (k : Program) (b : Bool) → ◌≡◌ {A = WriteResult × List ℕ} (Ok n, after) (outcome k b)
          → after ≡ over (bytes k) own
      by k true x = absurd (apart x)
      by k false x = ap (λ (z : WriteResult × List ℕ). z.1) x

      go : (v : Verdict) → verdict s ≡ v → (Ok n, after) ≡ answer_by bytes v own → BytesIn bytes s own after
      go (refused r) e x = absurd (apart x)
      go (accepted k) e x =
          record { kernel = k; accepts = e; front = by k (ltb (length own) (length (bytes k))) x }

  -- a refusal that no accepted file is answered with
  refuses_but : {r : Refusal} {after : List ℕ}
      → ((k : Program) → verdict s ≡ accepted k → (Err r, after) ≡ answer_by bytes (accepted k) own → ⊥)
      → (Err r, after) ≡ answer_by bytes (verdict s) own → verdict s ≡ refused r
  refuses_but {r} {after} never = go (verdict s) refl
    where
      go : (v : Verdict) → verdict s ≡ v → (Err r, after) ≡ answer_by bytes v own → verdict s ≡ refused r
      go (refused q) e x = e ∙ ap (λ (z : WriteResult × List ℕ). refused (refusal_in z.0)) (sym x)
      go (accepted k) e x = absurd (never k e x)

  -- any but 9
  pub refuses_any : {r : Refusal} {after : List ℕ} → ¬ r ≡ ShortBuffer
      → (Err r, after) ≡ answer_by bytes (verdict s) own → verdict s ≡ refused r
  refuses_any {r} {after} other =
      refuses_but (λ k e x. other (by k (ltb (length own) (length (bytes k))) x))
    where
      by : (k : Program) (b : Bool) → ◌≡◌ {A = WriteResult × List ℕ} (Err r, after) (outcome k b) → r ≡ ShortBuffer
      by k true x = ap (λ (z : WriteResult × List ℕ). refusal_in z.0) x
      by k false x = absurd (apart (sym x))

-- in a buffer that takes the bytes of every kernel
module _
    (bytes : Program → List ℕ) (size : ℕ) (small : (k : Program) → Lawful k → length (bytes k) ≤ size)
    (s own : List ℕ) (big : size ≤ length own) where
  written_by : (k : Program) → verdict s ≡ accepted k
      → answer_by bytes (accepted k) own ≡ (Ok (length (bytes k)), over (bytes k) own)
  written_by k e = written_all (bytes k) own (omega (arith, small k (accepted_lawful s k e)))

  pub refuses_by : {r : Refusal} {after : List ℕ} → (Err r, after) ≡ answer_by bytes (verdict s) own
      → verdict s ≡ refused r
  refuses_by = refuses_but bytes s own (λ k e x. apart (sym (x ∙ written_by k e)))

  pub wrote_by : {n : ℕ} {after : List ℕ} → (Ok n, after) ≡ answer_by bytes (verdict s) own
      → BytesIn bytes s own after
  wrote_by = wrote_any bytes s own

-- a buffer that takes every sheet of a level
module _ (l : Level) (s own : List ℕ) (big : 16 + 2048 * widest l ≤ length own) where
  pub refuses_as : {r : Refusal} {after : List ℕ} → (Err r, after) ≡ lower_by l (verdict s) own
      → verdict s ≡ refused r
  refuses_as = refuses_by (sheet_bytes l) (16 + 2048 * widest l) (sheet_small l) s own big

  pub wrote_as : {n : ℕ} {after : List ℕ} → (Ok n, after) ≡ lower_by l (verdict s) own
      → BytesIn (sheet_bytes l) s own after
  wrote_as = wrote_by (sheet_bytes l) (16 + 2048 * widest l) (sheet_small l) s own big

-- ## the number and the record of a refusal are small

abbrev Small : WriteResult → Type 0
Small (Ok n) = Unit {0}
Small (Err r) = (number_of r ≤ 12) × (record_of r ≤ 256)

module _ (bytes : Program → List ℕ) (s buffer : List ℕ) where
  answer_by_lem : (v : Verdict) → verdict s ≡ v → Small (answer_by bytes v buffer).0
  answer_by_lem (refused r) e =
      let of = refused_as s r e in
      ((number_small s r of).0, record_named s r of)
  answer_by_lem (accepted k) e = go (ltb (length buffer) (length (bytes k)))
    where
      by : Bool → WriteResult × List ℕ
      by b = cond b (Err ShortBuffer, buffer) (Ok (length (bytes k)), over (bytes k) buffer)

      go : (b : Bool) → Small (by b).0
      go true = (omega arith, omega arith)
      go false = tt

  pub answer_small : {r : Refusal} {after : List ℕ} → (Err r, after) ≡ answer_by bytes (verdict s) buffer
      → (number_of r ≤ 12) × (record_of r ≤ 256)
  answer_small {r} {after} p =
      subst (λ (z : WriteResult × List ℕ). Small z.0) (sym p) (answer_by_lem (verdict s) refl)

  -- 9 is no refusal of a file
  pub short_any : {after : List ℕ} → (Err ShortBuffer, after) ≡ answer_by bytes (verdict s) buffer
      → (k : Program) × (verdict s ≡ accepted k)
  short_any {after} = go (verdict s) refl
    where
      go : (v : Verdict) → verdict s ≡ v → (Err ShortBuffer, after) ≡ answer_by bytes v buffer
          → (k : Program) × (verdict s ≡ accepted k)
      go (refused r) e x =
          absurd ((number_small s r (refused_as s r e)).1
          (ap (λ (z : WriteResult × List ℕ). number_of (refusal_in z.0)) (sym x)))
      go (accepted k) e x = (k, e)
