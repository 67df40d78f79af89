-- Laws of a part `&l[i..]`, `&mut l[i..]` or `&mut l[i..e]` of a buffer.
use Prim.Native.Nat.{ℕ, ◌+◌, ◌-◌, ◌≤◌, ◌<◌}
use mathlib.Core.Path.{◌≡◌, sym, ap, ◌∙◌}
use mathlib.Core.List.{List, [], ◌++◌, append_assoc, append-nil}
use native.Mathlib.Omega.{arith}
use lib.ListN.{length, get_or, take, drop}
use lib.Seq.{sets-eq, drop-drop, drop-length, drop-append_seam, get_or-take, length-take-le}
use borrow.Rule.Slice.PartMut.{put_mid, post_of, Post-is, take_put}
use Rattle.laws.proofs.Parts.{part_length, take_rest}
use Rattle.sheet_format.specs.Bytes.{over}
use Rattle.sheet_format.specs.Put.{Puts}
use Rattle.sheet_format.proofs.Laws.Put.{puts_front}

-- a part `&mut l[i..]` that comes back with bytes written at its front
pub part_back : (l xs : List ℕ) (i : ℕ) {ys : List ℕ} {n : ℕ} → i + length xs ≤ length l
    → Puts (take (length l - i) (drop i l)) 0 xs ys n → Puts l i xs (put_mid i (length l - i) l ys) (i + n)
part_back l xs i {ys} h p =
    let none : post_of i (length l - i) l ≡ [] = Post-is i (length l) l (omega arith) ∙ drop-length l in
    let front : ys ≡ over xs (drop i l) =
    puts_front (omega (arith, part_length l i (omega arith))) p ∙ ap (over xs) (take_rest i l) in
    record {
      bytes =
          ap (λ z. take i l ++ (ys ++ z)) none ∙ ap (λ z. take i l ++ z) (append-nil ys ∙ front)
          ∙ ap (λ z. take i l ++ (xs ++ z)) (drop-drop (length xs) i l)
          ∙ sym (append_assoc (take i l) xs (drop (i + length xs) l)) ∙ sym (sets-eq xs l i h);
      behind = omega (arith, p.behind);
    }

-- a part `&mut l[i..]` that comes back as ys: it stands from i on, and before i nothing changed
module _ (l ys : List ℕ) (i : ℕ) (h : i ≤ length l) where
  pub part_behind : drop i (put_mid i (length l - i) l ys) ≡ ys
  part_behind =
      let none : post_of i (length l - i) l ≡ [] = Post-is i (length l) l (omega arith) ∙ drop-length l in
      let size : i ≡ length (take i l) = sym (length-take-le i l h) in
      ap (λ n. drop n (take i l ++ (ys ++ post_of i (length l - i) l))) size
      ∙ drop-append_seam (take i l) (ys ++ post_of i (length l - i) l)
      ∙ ap (λ z. ys ++ z) none ∙ append-nil ys

  pub part_before : (j : ℕ) → j < i → get_or (put_mid i (length l - i) l ys) j 0 ≡ get_or l j 0
  part_before j lt =
      sym (get_or-take i (put_mid i (length l - i) l ys) j 0 lt)
      ∙ ap (λ z. get_or z j 0) (take_put i (length l - i) l ys h) ∙ get_or-take i l j 0 lt
