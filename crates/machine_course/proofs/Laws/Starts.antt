-- Laws of the start: what is written over the store, and the header of a refused file.
use Prim.Native.Nat.{ℕ, ◌≤◌, ◌<◌}
use mathlib.Core.Path.{◌≡◌, refl, sym, ap, subst, ◌∙◌}
use mathlib.Core.Bool.{Bool, true, false}
use mathlib.Core.List.{List}
use native.Mathlib.Omega.{arith}
use borrow.Author.Tests.{lt-ltb, le-ltb}
use lib.Dec.{ltb}
use lib.ListN.{length}
use Rattle.file_format.specs.Fields.{lane_count, locations, locks}
use Rattle.file_format.specs.Rules.{header_rule}
use Rattle.file_format.proofs.Laws.Rules.{four_lanes_lem, few_locations, few_locks}
use Rattle.file_verdict.specs.declared.refusal.Refusal.{Refusal}
use Rattle.file_verdict.specs.declared.refusal.Refusal.TheVariants.{TruncatedHeader, BadHeader}
use Rattle.file_verdict.specs.Verdict.{refused, verdict, refusal_of, number_of, fields_then, structure_then}
use Rattle.machine_state.specs.States.{Blocks}
use Rattle.machine_start.proofs.Laws.Start.{zeroed, zeroed_sized, zeroed_state}
use Rattle.machine_course.specs.Stands.{Started, RefusedStart}

pub started_as : {e : Blocks} (n ls ks : ℕ) → e ≡ zeroed n ls ks → Started n ls ks e
started_as n ls ks q =
    subst (Started n ls ks) (sym q)
    (record { sized = zeroed_sized n ls ks; lanes = refl; state = zeroed_state n ls ks })

pub started_by : {e : Blocks} {n ls ks p q r : ℕ} → n ≡ p → ls ≡ q → ks ≡ r → Started n ls ks e → Started p q r e
started_by {e} {n} {ls} {ks} {p} {q} {r} a b c st =
    subst (λ y. Started y q r e) a (subst (λ y. Started n y r e) b (subst (λ y. Started n ls y e) c st))

-- ## a file that is refused for another reason than its header has a valid one

short_verdict : (s : List ℕ) → header_rule s ≡ false → (r : Refusal) → verdict s ≡ refused r → number_of r < 3
unfolding refusal_of structure_then fields_then
short_verdict s h r e = go (ltb (length s) 16) refl
  where
    go : (b : Bool) → ltb (length s) 16 ≡ b → number_of r < 3
    go true l =
        let is : verdict s ≡ refused TruncatedHeader = rw (l) refl in
        let one : TruncatedHeader ≡ r = cc in
        omega (arith, ap number_of one)
    go false l =
        let is : verdict s ≡ refused BadHeader = rw (l, h) refl in
        let two : BadHeader ≡ r = cc in
        omega (arith, ap number_of two)

pub header_valid : (s : List ℕ) (r : Refusal) → verdict s ≡ refused r → 3 ≤ number_of r → header_rule s ≡ true
header_valid s r e l = go (header_rule s) refl
  where
    go : (b : Bool) → header_rule s ≡ b → header_rule s ≡ true
    go true h = h
    go false h = let few = short_verdict s h r e in absurd (omega arith)

pub refused_none : {e : Blocks} (s : List ℕ) (r : Refusal) → number_of r < 3 → Started 0 0 0 e → RefusedStart s r e
refused_none s r h so = record {
  sized = so.sized;
  state = λ v. so.state (omega arith) (omega arith) (omega arith) ∙ sym (rw (lt-ltb (number_of r) 3 h) refl);
}

pub refused_header : {e : Blocks} (s : List ℕ) (r : Refusal) → 3 ≤ number_of r
    → Started (lane_count s) (locations s) (locks s) e → RefusedStart s r e
refused_header s r h so = record {
  sized = so.sized;
  state = λ v.
      let ok = header_valid s r v h in
      so.state (four_lanes_lem s ok) (omega (arith, few_locations s ok)) (omega (arith, few_locks s ok))
      ∙ sym (rw (le-ltb (number_of r) 3 h) refl);
}
