-- Laws of bytes laid into a buffer one after the other.
use Prim.Native.Nat.{ℕ, suc, ◌+◌, ◌≤◌, ◌<◌}
use mathlib.Core.Path.{◌≡◌, refl, sym, ap, ap₂, ◌∙◌}
use mathlib.Core.Bool.{Bool, true, false, cond}
use mathlib.Core.List.{List, [], ◌∷◌, ◌++◌}
use native.Mathlib.Omega.{arith}
use lib.ListN.{length, get_or, take, drop, length-append}
use lib.Dec.{leb}
use borrow.Author.Tests.{le-leb}
use lib.Seq.{sets, sets-eq, length-sets, take-suc, take-append_seam}
use Rattle.laws.proofs.Parts.{sets_on}
use Rattle.std.specs.Prelude.{Ok, Err}
use Rattle.file_verdict.specs.declared.refusal.Refusal.TheVariants.{ShortBuffer}
use Rattle.sheet_format.specs.Bytes.{over, write_into}
use Rattle.sheet_format.specs.Put.{Puts, laid}
use Rattle.sheet_format.proofs.Laws.Written.{written_all, short_untouched}

-- first x, and behind it y
pub puts_on : {l m n x y : List ℕ} {i j k : ℕ} → Puts l i x m j → Puts m j y n k → Puts l i (x ++ y) n k
puts_on {l} {m} {n} {x} {y} {i} {j} {k} p q = record {
  bytes = q.bytes ∙ ap₂ (λ a b. sets a b y) p.bytes p.behind ∙ sets_on l i x y;
  behind = omega (arith, p.behind, q.behind, length-append x y);
}

-- bytes that fit
pub laid_fits : (l : List ℕ) (i : ℕ) (x : List ℕ) → i + length x ≤ length l → laid l i x ≡ sets l i x
unfolding laid
laid_fits l i x h = rw (le-leb (i + length x) (length l) h)

pub laid_length : (l : List ℕ) (i : ℕ) (x : List ℕ) {m : List ℕ} → m ≡ laid l i x → length m ≡ length l
unfolding laid
laid_length l i x e = ap length e ∙ go (leb (i + length x) (length l))
  where
    go : (b : Bool) → length (cond b (sets l i x) l) ≡ length l
    go true = length-sets l i x
    go false = refl

pub puts_none : {l : List ℕ} {i : ℕ} → Puts l i [] l i
puts_none {l} {i} = record { bytes = refl; behind = omega arith }

-- a text by another name
pub puts_as : {l m x y : List ℕ} {i j : ℕ} → x ≡ y → Puts l i x m j → Puts l i y m j
puts_as {l} {m} {x} {y} {i} {j} e p =
    record { bytes = p.bytes ∙ ap (sets l i) e; behind = p.behind ∙ ap (λ z. i + length z) e }

pub puts_end : {l m x : List ℕ} {i j k : ℕ} → Puts l i x m j → j ≡ k → Puts l i x m k
puts_end p e = record { bytes = p.bytes; behind = sym e ∙ p.behind }

pub puts_length : {l m x : List ℕ} {i j : ℕ} → Puts l i x m j → length m ≡ length l
puts_length {l} {m} {x} {i} {j} p = ap length p.bytes ∙ length-sets l i x

-- a text that fits, laid from the front on
pub puts_front : {l m x : List ℕ} {j : ℕ} → length x ≤ length l → Puts l 0 x m j → m ≡ over x l
puts_front {l} {m} {x} {j} h p =
    let e : 0 + length x ≡ length x = omega arith in
    p.bytes ∙ sets-eq x l 0 (omega arith) ∙ ap (λ n. x ++ drop n l) e

-- and what is read back from the front
pub puts_taken : {l m x : List ℕ} {j : ℕ} → length x ≤ length l → Puts l 0 x m j → take j m ≡ x
puts_taken {l} {m} {x} {j} h p =
    let e : j ≡ length x = omega (arith, p.behind) in
    ap₂ take e (puts_front h p) ∙ take-append_seam x (drop (length x) l)

-- one byte more of a text
pub puts_next : (t : List ℕ) (i j : ℕ) {l m n : List ℕ} {k b : ℕ} → Puts l i (take j t) m (i + j) → j < length t
    → b ≡ get_or t j 0 → Puts m (i + j) (b ∷ []) n k → Puts l i (take (j + 1) t) n (i + (j + 1))
puts_next t i j {l} {m} {n} {k} {b} p h e q =
    let one : j + 1 ≡ suc j = omega arith in
    let next : take j t ++ b ∷ [] ≡ take (j + 1) t = rw (one, take-suc t j 0 h, e) in
    puts_end (puts_as next (puts_on p q)) (omega (arith, q.behind))

-- a text that is measured first, by laying it into another buffer, and then laid into the output buffer if it fits
module _ {l m x : List ℕ} {size : ℕ} (p : Puts l 0 x m size) where
  pub measured_short : (buffer : List ℕ) → length buffer < size → (Err ShortBuffer, buffer) ≡ write_into x buffer
  measured_short buffer h = sym (short_untouched x buffer (omega (arith, p.behind)))

  pub measured_whole : {buffer after : List ℕ} {end : ℕ} → size ≤ length buffer → Puts buffer 0 x after end
      → (Ok end, after) ≡ write_into x buffer
  measured_whole {buffer} {after} {end} h q =
      let fits : length x ≤ length buffer = omega (arith, p.behind) in
      let whole : end ≡ length x = omega (arith, q.behind) in
      let laid : after ≡ over x buffer = puts_front fits q in
      (λ i. (Ok (whole i), laid i)) ∙ sym (written_all x buffer fits)

-- a sheet in three parts: the halves of its header, and its lanes
pub whole_put : (buffer first counts body bytes : List ℕ) {l₁ l₂ l₃ : List ℕ} → length first ≡ 8 → length counts ≡ 8
    → first ++ counts ++ body ≡ bytes → length bytes ≤ length buffer
    → l₁ ≡ laid buffer 0 first → l₂ ≡ laid l₁ 8 counts → l₃ ≡ sets l₂ 16 body → l₃ ≡ (write_into bytes buffer).1
whole_put buffer first counts body bytes {l₁} {l₂} f c e room e₁ e₂ e₃ =
    let size : length bytes ≡ 16 + length body =
    sym (ap length e) ∙ length-append (first ++ counts) body
    ∙ omega (arith, length-append first counts) in
    let h₁ = e₁ ∙ laid_fits buffer 0 first (omega arith) in
    let same : length l₁ ≡ length buffer = ap length h₁ ∙ length-sets buffer 0 first in
    let h₂ = e₂ ∙ laid_fits l₁ 8 counts (omega arith) in
    let eight : 8 ≡ 0 + length first = omega arith in
    let sixteen : 16 ≡ 0 + length (first ++ counts) = omega (arith, length-append first counts) in
    let two : l₂ ≡ sets buffer 0 (first ++ counts) =
    h₂ ∙ ap₂ (λ l n. sets l n counts) h₁ eight ∙ sets_on buffer 0 first counts in
    e₃ ∙ ap₂ (λ l n. sets l n body) two sixteen ∙ sets_on buffer 0 (first ++ counts) body
    ∙ ap (sets buffer 0) e
    ∙ puts_front {l = buffer} {x = bytes} room (record { bytes = refl; behind = refl })
    ∙ ap (λ x. x.1) (sym (written_all bytes buffer room))
