-- A file that is longer than every kernel is refused by its header or by its length, and so are its first 3,089 bytes:
-- theorem `front_verdict`.
use Prim.Native.Nat.{ℕ, zero, suc, ◌+◌, ◌*◌, ◌≤◌, ◌<◌}
use mathlib.Core.Path.{◌≡◌, refl, sym, ap, ap₂, ◌∙◌}
use mathlib.Core.Bool.{Bool, true, false, cond}
use mathlib.Core.List.{List, [], ◌∷◌}
use native.Mathlib.Omega.{arith}
use native.Mathlib.Decide.{dec_le}
use lib.ListN.{length, take, length-take}
use lib.Seq.{take_all, get_or-take}
use borrow.Author.Tests.{le-ltb, ne_eqb}
use Rattle.file_format.specs.Fields.{byte, record_count}
use Rattle.file_format.specs.Rules.{head_rule, header_rule}
use Rattle.file_format.proofs.Laws.Rules.{few_records}
use Rattle.file_verdict.specs.declared.refusal.Refusal.TheVariants.{BadHeader, BadLength}
use Rattle.file_verdict.specs.Verdict.{refused, fields_then, structure_then, refusal_of, verdict}

-- k bytes of a file, the first of which is byte i
abbrev bytes : List ℕ → ℕ → ℕ → List ℕ
bytes s i zero = []
bytes s i (suc k) = byte s i ∷ bytes s (suc i) k

module _ (n : ℕ) (s : List ℕ) where
  bytes_front : (i k : ℕ) → i + k ≤ n → bytes (take n s) i k ≡ bytes s i k
  bytes_front i zero h = refl
  bytes_front i (suc k) h = ap₂ ◌∷◌ (get_or-take n s i 0 (omega arith)) (bytes_front (suc i) k (omega arith))

  -- the header rule reads the first 16 bytes
  header_front : 16 ≤ n → header_rule (take n s) ≡ header_rule s
  unfolding header_rule head_rule
  header_front h = ap header_rule (bytes_front 0 16 h)

-- the verdict on a file that is longer than 3,088 bytes
long_verdict : (s : List ℕ) → 3088 < length s → verdict s ≡ refused (cond (header_rule s) BadLength BadHeader)
unfolding refusal_of structure_then fields_then
long_verdict s h = go (header_rule s) refl
  where
    go : (b : Bool) → header_rule s ≡ b → verdict s ≡ refused (cond b BadLength BadHeader)
    go true e =
        let other = ne_eqb (length s) (16 + 12 * record_count s) (λ z. omega (arith, few_records s e)) in
        rw (le-ltb (length s) 16 (omega arith), e, other)
    go false e = rw (le-ltb (length s) 16 (omega arith), e)

pub front_verdict : (s : List ℕ) → verdict (take 3089 s) ≡ verdict s
front_verdict s = go (dec_le (length s) 3089)
  where
    go : Dec (length s ≤ 3089) → verdict (take 3089 s) ≡ verdict s
    go (yes h) = ap verdict (take_all 3089 s h)
    go (no n) =
        long_verdict (take 3089 s) (omega (arith, length-take 3089 s))
        ∙ ap (λ b. refused (cond b BadLength BadHeader)) (header_front 3089 s (omega arith))
        ∙ sym (long_verdict s (omega arith))
