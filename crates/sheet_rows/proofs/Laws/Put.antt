-- Laws of bytes written in place, and of four stores.
use Prim.Native.Nat.{ℕ, suc, ◌+◌, ◌≤◌, ◌<◌}
use mathlib.Core.Path.{◌≡◌, refl, sym, ◌∙◌}
use mathlib.Core.List.{List, [], ◌∷◌}
use native.Mathlib.Omega.{arith}
use lib.ListN.{length, set}
use lib.Seq.{sets}
use borrow.Author.Tests.{lt-leb}
use Rattle.sheet_format.specs.Put.{Puts, laid}
use Rattle.sheet_format.proofs.Laws.Put.{laid_fits}

-- bytes that are laid, and bytes that are not
pub laid_whole : {l m x : List ℕ} {i j : ℕ} → i + length x ≤ length l → Puts l i x m j → m ≡ laid l i x
laid_whole {l} {m} {x} {i} {j} h p = p.bytes ∙ sym (laid_fits l i x h)

pub laid_short : (l : List ℕ) (i : ℕ) (x : List ℕ) → length l < i + length x → l ≡ laid l i x
unfolding laid
laid_short l i x h = rw (lt-leb (i + length x) (length l) h)

-- four stores one after the other
pub four_put : (l : List ℕ) (i a b c d : ℕ)
    → Puts l i (a ∷ b ∷ c ∷ d ∷ []) (set (set (set (set l i a) (i + 1) b) (i + 2) c) (i + 3) d) (i + 4)
four_put l i a b c d = record { bytes = stores; behind = refl }
  where
    stores : set (set (set (set l i a) (i + 1) b) (i + 2) c) (i + 3) d ≡ sets l i (a ∷ b ∷ c ∷ d ∷ [])
    stores =
        let e1 : i + 1 ≡ suc i = omega arith in
        let e2 : i + 2 ≡ suc (suc i) = omega arith in
        let e3 : i + 3 ≡ suc (suc (suc i)) = omega arith in
        rw (e1, e2, e3) refl
