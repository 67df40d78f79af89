-- Two checks of the definitions: 257 records are enough to walk, and a SKIP lands on the record that its target names.
use Prim.Native.Nat.{ℕ, suc, ◌+◌, ◌-◌, ◌≤◌, ◌<◌}
use mathlib.Core.Path.{◌≡◌, refl, sym, ap, ◌∙◌}
use mathlib.Core.List.{List, [], ◌∷◌}
use mathlib.Core.Bool.{Bool, true, false, not, cond}
use mathlib.Core.Logic.{◌⊎◌, inl, inr}
use lib.ListN.{get_or, set, length, take, drop, length-set, length-drop}
use lib.Seq.{get_or-set_other, get_or-drop, take_all}
use lib.Dec.{eqb}
use native.Mathlib.Omega.{arith}
use borrow.Author.Tests.{eqb-true, not-false}
use Rattle.laws.proofs.Lists.{count, count_first, count_set}
use Rattle.file_format.specs.Fields.{record_count, head, target, next}
use Rattle.file_format.specs.Linkage.{chain, walk_of, chain_too_long}
use Rattle.file_format.specs.Targets.{member, unreachable_target, bad_target, position}
use Rattle.file_format.specs.Accepted.{records_at}
use Rattle.file_format.proofs.Laws.Search.{nothing_found, nothing_named}
use Rattle.file_format.proofs.Laws.Linkage.{walk_of_here, walk_of_on}
use Rattle.file_format.proofs.Laws.Linkage.{chain_room, chain_length, chain_front, chain_behind}
use Rattle.file_format.proofs.Laws.Targets.{member_position, position_at}
use Rattle.file_format.proofs.Laws.Rules.{head_range}
use Rattle.file_format.specs.Structured.{Structured}
use Rattle.file_format.proofs.Bounded.{chain_range}

-- records that have a flag each; flag 0 is no record's
abbrev Flagged : List Bool → List ℕ → Type 0
Flagged met rs = (p : ℕ) → p < length rs → (1 ≤ get_or rs p 0) × (get_or rs p 0 < length met)

-- a walk along such records that meets none twice leaves a flag down besides flag 0
met_few : (met : List Bool) (rs : List ℕ) → get_or met 0 false ≡ false → 0 < length met → Flagged met rs
    → (walk_of met rs).twice ≡ 0 → count met + length rs < length met
met_few met [] z h range e = omega (arith, count_first met z h)
met_few met (r ∷ rs) z h range e = go (get_or met r false) refl (met_few (set met r true) rs)
  where
    go : (b : Bool) → get_or met r false ≡ b
        → (get_or (set met r true) 0 false ≡ false → 0 < length (set met r true) → Flagged (set met r true) rs
        → (walk_of (set met r true) rs).twice ≡ 0 → count (set met r true) + length rs < length (set met r true))
        → count met + length (r ∷ rs) < length met
    go true b ih = absurd (omega (arith, range 0 (omega arith), sym (ap (λ w. w.twice) (walk_of_here met r rs b)) ∙ e))
    go false b ih =
        let first = range 0 (omega arith) in
        let same : length (set met r true) ≡ length met = length-set met r true in
        let more = ih (get_or-set_other met r 0 true false (λ q. omega (arith, first.0)) ∙ z) (omega arith)
        (λ p l. ((range (suc p) (omega arith)).0, rw same (range (suc p) (omega arith)).1))
        (sym (ap (λ w. w.twice) (walk_of_on met r rs b)) ∙ e) in
        omega (arith, more, same, count_set met r b first.1)

-- A chain whose walk of 257 records met nothing twice has ended before: it has no 257th record.
pub walk_ends : (s : List ℕ) → Structured s → record_count s ≤ 256 → (met : List Bool) (t : ℕ) → t < 4
    → length met ≡ 257 → get_or met 0 false ≡ false → (walk_of met (chain s 257 (head s t))).twice ≡ 0
    → length (chain s 257 (head s t)) < 257
walk_ends s ok small met t ht room z e =
    let range : Flagged met (chain s 257 (head s t)) = λ p l.
    let r = chain_range s ok.fields.records 257 (head s t) p (head_range s ok.fields.header t ht) l in
    (r.0, omega (arith, r.1, room)) in
    omega (arith, met_few met (chain s 257 (head s t)) z (omega (arith, room)) range e)

module _ (s : List ℕ) (ok : Structured s) (t : ℕ) (ht : t < 4) where
  abbrev lane : List ℕ
  lane = records_at s (head s t)

  -- the 65th record of a lane is none
  ends : get_or (chain s 65 (head s t)) 64 0 ≡ 0
  unfolding chain_too_long
  ends = nothing_named (λ n. get_or (chain s 65 (head s n)) 64 0) 0 4 t ok.chains (omega arith) (omega arith)

  module _ (p : ℕ) (h : p < length lane) where
    -- the records that follow the one at p, by next, are those at the later positions
    followed : chain s 64 (next s (get_or lane p 0)) ≡ drop (suc p) lane
    followed =
        let more : chain s 128 (head s t) ≡ lane = chain_room s 64 (head s t) 64 ends in
        let rest : drop (suc p) lane ≡ chain s (128 - suc p) (next s (get_or lane p 0)) =
        rw more at (chain_behind s 128 (head s t) p (omega (arith, ap length more))) in
        let small : length lane ≤ 64 = chain_length s 64 (head s t) in
        sym (chain_front s 64 (128 - suc p) (next s (get_or lane p 0)) (omega arith))
        ∙ ap (take 64) (sym rest)
        ∙ take_all 64 (drop (suc p) lane) (omega (arith, length-drop (suc p) lane))

    -- a target is zero, or a record at a later position
    later : (target s (get_or lane p 0) ≡ 0)
        ⊎ (position (target s (get_or lane p 0)) (drop (suc p) lane) < length (drop (suc p) lane))
    unfolding bad_target unreachable_target
    later =
        let r = get_or lane p 0 in
        let range = chain_range s ok.fields.records 64 (head s t) p (head_range s ok.fields.header t ht) h in
        let reached : unreachable_target s r ≡ false =
        nothing_found (unreachable_target s) 1 (record_count s) r (omega arith) ok.targets range.0
        (omega (arith, range.1)) in
        go (target s r) (eqb (target s r) 0) refl (rw followed at reached)
      where
        go : (x : ℕ) (b : Bool) → eqb x 0 ≡ b → cond (eqb x 0) false (not (member x (drop (suc p) lane))) ≡ false
            → (x ≡ 0) ⊎ (position x (drop (suc p) lane) < length (drop (suc p) lane))
        go x true e reached = inl (eqb-true x 0 e)
        go x false e reached = inr (member_position x (drop (suc p) lane) (not-false _ (rw e at reached)))

    -- at the position of a SKIP's target stands its target, and past the last record 0, the end
    pub lands : get_or lane (p + 1 + position (target s (get_or lane p 0)) (drop (p + 1) lane)) 0
        ≡ target s (get_or lane p 0)
    lands =
        let x = target s (get_or lane p 0) in
        let q : p + 1 ≡ suc p = omega arith in
        rw q
        (sym (get_or-drop (suc p) lane (position x (drop (suc p) lane)) 0) ∙ position_at x (drop (suc p) lane) later)
