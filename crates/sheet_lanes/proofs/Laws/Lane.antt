-- Laws of a lane that its rows hold: written by its plan it is the lane of its operations at the level.
use Prim.Native.Nat.{ℕ, zero, suc, ◌+◌, ◌*◌, ◌≤◌, ◌<◌}
use mathlib.Core.Path.{◌≡◌, refl, sym, ap, ap₂, ◌∙◌}
use mathlib.Core.Bool.{Bool, true, false, cond, ◌&&◌}
use mathlib.Core.List.{List, [], ◌∷◌, ◌++◌, map, append-nil, append_assoc}
use mathlib.Core.Option.{some}
use native.Mathlib.Omega.{arith}
use lib.Dec.{eqb}
use lib.ListN.{length, get_or, take, drop}
use lib.Seq.{get_or-take, take-take, take-suc, take_all}
use Rattle.laws.proofs.Lists.{at_some}
use Rattle.file_format.specs.declared.accepted.Op.{Op}
use Rattle.file_format.specs.declared.accepted.Op.TheVariants.{Set, Add, Load, Store, Lock, Unlock, Skip}
use Rattle.file_format.specs.Fields.{byte}
use Rattle.file_format.specs.Accepted.{jump}
use Rattle.file_format.specs.Stored.{no_op}
use Rattle.barrier_placement.specs.declared.cookbook.Barrier.{Barrier}
use Rattle.barrier_placement.specs.declared.cookbook.Barrier.TheVariants.{LL, LS, SS, SL}
use Rattle.barrier_placement.specs.Chain.{Chain}
use Rattle.barrier_placement.specs.Layout.{Placed, start}
use Rattle.barrier_placement.specs.Place.{keep, chosen, stands}
use Rattle.barrier_placement.specs.Placed.{bit, bit_of}
use Rattle.barrier_placement.specs.Steps.{steps}
use Rattle.barrier_placement.proofs.Laws.Kinds.{load_once, store_once}
use Rattle.sheet_format.specs.declared.Level.{Level}
use Rattle.sheet_format.specs.declared.Level.TheVariants.{Level1}
use Rattle.sheet_format.specs.Layout.{op, barrier, aim, cells, sheet}
use Rattle.sheet_format.specs.Levels.{keeps, place_from, placed}
use Rattle.sheet_format.specs.Bytes.{op_bytes, quad_bytes, barrier_code, lane_bytes}
use Rattle.sheet_format.specs.Items.{TargetsWithin}
use Rattle.sheet_format.specs.Put.{in_turn}
use Rattle.sheet_format.proofs.Before.{chosen_ext}
use Rattle.sheet_format.proofs.PlacedLanes.{placed_count}
use Rattle.sheet_format.proofs.Laws.Cells.{lane_end}
use Rattle.sheet_format.proofs.Laws.Rows.{bytes_append}
use Rattle.sheet_rows.specs.Rows.{row_in}
use Rattle.sheet_rows.specs.Lanes.{fields_of, Holds}
use Rattle.sheet_rows.proofs.Laws.Lanes.{held_bytes, held_fields}
use Rattle.barrier_pass.specs.Plan.{kept_in, begin_in}
use Rattle.barrier_pass.proofs.Laws.Read.{plan_kept, plan_begins}
use Rattle.sheet_lanes.specs.Put.{beginning, row_if, barrier_rows, SingleTo, own_row, step_rows, lane_rows}
use Rattle.sheet_lanes.specs.Rows.{Planned}

-- ## the barriers before an operation

module _ (l : Level) where
  keep_bytes : (t : Bool) (b : Barrier) (bs : List Barrier)
      → lane_bytes l (map barrier (keep t b bs)) ≡ row_if t (barrier_code l b) ++ lane_bytes l (map barrier bs)
  keep_bytes true b bs = refl
  keep_bytes false b bs = refl

  -- the rows of a plan's set are those of its barriers at the level
  barriers_bytes : (x : ℕ) → lane_bytes l (map barrier (chosen (kept_in l x))) ≡ barrier_rows l x
  barriers_bytes x =
      let at : Barrier → List ℕ = λ b. row_if (kept_in l x b) (barrier_code l b) in
      keep_bytes (kept_in l x LL) LL
      (keep (kept_in l x LS) LS (keep (kept_in l x SS) SS (keep (kept_in l x SL) SL [])))
      ∙ ap (λ z. at LL ++ z)
      (keep_bytes (kept_in l x LS) LS (keep (kept_in l x SS) SS (keep (kept_in l x SL) SL []))
      ∙ ap (λ z. at LS ++ z)
      (keep_bytes (kept_in l x SS) SS (keep (kept_in l x SL) SL [])
      ∙ ap (λ z. at SS ++ z) (keep_bytes (kept_in l x SL) SL [] ∙ append-nil (at SL))))
      ∙ sym (append_assoc (at LL) (at LS) (at SS ++ at SL))

-- ## the operation's own row

module _ (l : Level) (plan : List ℕ) where
  -- a row that is no SKIP's
  other : (s : List ℕ) (o : Op) → eqb (fields_of o).code 7 ≡ false → row_in s ≡ fields_of o → take 8 s ≡ op_bytes o
      → own_row l plan s ≡ op_bytes o
  unfolding own_row
  other s o kind f b =
      ap (λ t. cond t (take 4 s ++ quad_bytes (beginning l plan (byte s 4))) (take 8 s))
      (ap (λ x. eqb x.code 7) f ∙ kind)
      ∙ b

  -- the row of an operation whose target is a byte and begins where the plan says
  own_of : (r : ℕ → ℕ) (s : List ℕ) (o : Op) → row_in s ≡ fields_of o → take 8 s ≡ op_bytes o
      → ((t : ℕ) → jump o ≡ some t → (t < 256) × (beginning l plan t ≡ r t)) → own_row l plan s ≡ op_bytes (aim r o)
  unfolding own_row
  own_of r s (Set a c) f b h = other s (Set a c) refl f b
  own_of r s (Add a x) f b h = other s (Add a x) refl f b
  own_of r s (Load a x) f b h = other s (Load a x) refl f b
  own_of r s (Store a x) f b h = other s (Store a x) refl f b
  own_of r s (Lock m) f b h = other s (Lock m) refl f b
  own_of r s (Unlock m) f b h = other s (Unlock m) refl f b
  own_of r s (Skip a t) f b h =
      let code : byte s 0 ≡ 7 = ap (λ x. x.code) f in
      let target : byte s 4 ≡ t =
      sym (get_or-take 8 s 4 0 (omega arith)) ∙ ap (λ z. get_or z 4 0) b ∙ omega (arith, (h t refl).0) in
      let front : take 4 s ≡ 7 ∷ a ∷ 0 ∷ 0 ∷ [] = sym (take-take 4 8 s (omega arith)) ∙ ap (take 4) b in
      let begins = ap (beginning l plan) target ∙ (h t refl).1 in
      ap (λ n. cond (eqb n 7) (take 4 s ++ quad_bytes (beginning l plan (byte s 4))) (take 8 s)) code
      ∙ ap₂ (λ x n. x ++ quad_bytes n) front begins

-- ## a placed lane, operation by operation

cells_append : (r : ℕ → ℕ) (xs ys : List (Placed Op)) → cells r (xs ++ ys) ≡ cells r xs ++ cells r ys
cells_append r [] ys = refl
cells_append r (x ∷ xs) ys =
    ap (λ z. map barrier x.before ++ op (aim r x.oper) ∷ z) (cells_append r xs ys)
    ∙ sym (append_assoc (map barrier x.before) (op (aim r x.oper) ∷ cells r xs) (cells r ys))

abbrev nothing : Placed Op
nothing = record { before = []; oper = no_op }

-- the operation at position i of a chain, at position q of the lane
abbrev placed_at : Level → Chain → List Op → ℕ → ℕ → Placed Op
placed_at l s os i q = record {
  before = chosen (λ b. keeps l (get_or os i no_op) b && stands s b q);
  oper = get_or os i no_op;
}

place_at : (l : Level) (s : Chain) (os : List Op) (p i q : ℕ) → p + i ≡ q → i < length os
    → get_or (place_from l s p os) i nothing ≡ placed_at l s os i q
place_at l s [] p i q e h = absurd (omega arith)
place_at l s (o ∷ os) p zero q e h = ap (placed_at l s (o ∷ os) 0) (omega arith)
place_at l s (o ∷ os) p (suc i) q e h = place_at l s os (suc p) i q (omega arith) (omega arith)

-- ## the lane

module _ (l : Level) (vol : ℕ → Bool) {rows : List ℕ} {n : ℕ} {ops : List Op} (h : Holds rows n ops) (few : n ≤ 64)
    (within : TargetsWithin n ops) (plan : List ℕ) (known : Planned vol ops plan)
  where
    abbrev ps : List (Placed Op)
    ps = placed l vol ops

    -- operation p at the level, behind its barriers
    abbrev placed_op : ℕ → Placed Op
    placed_op p = placed_at l (steps vol ops) ops p p

    abbrev step_bytes : ℕ → List ℕ
    step_bytes p = lane_bytes l (cells (start ps) (placed_op p ∷ []))

    begins_at : (p : ℕ) → p ≤ n → beginning l plan p ≡ start ps p
    begins_at p le =
        ap (λ x. begin_in l x p) (known p (omega (arith, h.count)))
        ∙ plan_begins vol ops (omega (arith, h.count)) l p (omega (arith, h.count))

    stand_at : (p : ℕ) → p < n → (placed_op p).before ≡ chosen (kept_in l (get_or plan p 0))
    stand_at p lt = chosen_ext (λ b.
        sym (ap (λ x. kept_in l x b) (known p (omega (arith, h.count))) ∙ plan_kept vol ops l p b))

    step_is : (p : ℕ) → p < n → step_rows l plan rows p ≡ step_bytes p
    step_is p lt =
        let o = get_or ops p no_op in
        let own : own_row l plan (drop (8 * p) rows) ≡ op_bytes (aim (start ps) o) =
        own_of l plan (start ps) (drop (8 * p) rows) o (held_fields h p lt) (held_bytes h p lt)
        (λ t j.
        let in_lane = within p o t (at_some ops p no_op (omega (arith, h.count))) j in
        (omega arith, begins_at t in_lane)) in
        let bars : lane_bytes l (map barrier (placed_op p).before) ≡ barrier_rows l (get_or plan p 0) =
        ap (λ bs. lane_bytes l (map barrier bs)) (stand_at p lt) ∙ barriers_bytes l (get_or plan p 0) in
        ap₂ (λ x y. x ++ y) (sym bars) (own ∙ sym (append-nil (op_bytes (aim (start ps) o))))
        ∙ sym (bytes_append l (map barrier (placed_op p).before) (op (aim (start ps) o) ∷ []))

    -- the bytes of the first p operations
    abbrev first_bytes : ℕ → List ℕ
    first_bytes p = lane_bytes l (cells (start ps) (take p ps))

    first_suc : (p : ℕ) → p < n → first_bytes (suc p) ≡ first_bytes p ++ step_bytes p
    first_suc p lt =
        let inside : p < length ps = omega (arith, placed_count l vol ops, h.count) in
        ap (λ xs. lane_bytes l (cells (start ps) xs)) (take-suc ps p nothing inside)
        ∙ ap (lane_bytes l) (cells_append (start ps) (take p ps) (get_or ps p nothing ∷ []))
        ∙ bytes_append l (cells (start ps) (take p ps)) (cells (start ps) (get_or ps p nothing ∷ []))
        ∙ ap (λ x. first_bytes p ++ lane_bytes l (cells (start ps) (x ∷ [])))
        (place_at l (steps vol ops) ops 0 p p (omega arith) (omega (arith, h.count)))

    first_is : (p : ℕ) → p ≤ n → lane_rows l plan rows p ≡ first_bytes p
    unfolding in_turn
    first_is zero le = refl
    first_is (suc p) le =
        ap₂ (λ x y. x ++ y) (first_is p (omega arith)) (step_is p (omega arith)) ∙ sym (first_suc p (omega arith))

    pub lane_held : lane_rows l plan rows n ≡ lane_bytes l (sheet ps)
    lane_held =
        first_is n (omega arith)
        ∙ ap (λ xs. lane_bytes l (cells (start ps) xs)) (take_all n ps (omega (arith, placed_count l vol ops, h.count)))

    -- the lane's end tells how many instructions it has
    pub lane_counted : begin_in l (get_or plan n 0) n ≡ length (sheet ps)
    lane_counted =
        begins_at n (omega arith)
        ∙ ap (start ps) (sym h.count ∙ sym (placed_count l vol ops)) ∙ sym (lane_end ps)

-- of LL and LS at most one stands before an operation, and of SS and SL
pub lane_single : (vol : ℕ → Bool) (ops : List Op) (plan : List ℕ) → Planned vol ops plan → SingleTo plan (length ops)
lane_single vol ops plan known p lt =
    let at : (b : Barrier) → bit (get_or plan p 0) (bit_of b) ≡ stands (steps vol ops) b p =
    λ b. ap (λ x. bit x (bit_of b)) (known p (omega arith)) ∙ plan_kept vol ops Level1 p b in (
      ap₂ (λ x y. x && y) (at LL) (at LS) ∙ load_once (steps vol ops) p,
      ap₂ (λ x y. x && y) (at SS) (at SL) ∙ store_once (steps vol ops) p,
    )
