-- Demand 2 of every accepted kernel file, at each level: its barriers, where they stand, and its codes; and that the
-- sheet is whole, each byte of it below 256, and that each record belongs to one lane.
use mathlib.Core.Path.{◌≡◌, refl, ap, ◌∙◌, sym, subst}
use mathlib.Core.Bool.{true, ◌&&◌, true≢false}
use mathlib.Core.List.{List, [], ◌∷◌, ◌++◌, map}
use mathlib.Core.Logic.{inl, inr, ◌↔◌}
use mathlib.Core.Option.{some}
use Prim.Native.Nat.{ℕ, ◌<◌}
use lib.ListN.{length, get_or, get_elem?, drop, get_or-map, get_or-append}
use Rattle.file_format.specs.declared.accepted.Op.{Op}
use Rattle.file_format.specs.Accepted.{Program}
use Rattle.file_verdict.specs.Verdict.{accepted, verdict}
use Rattle.file_format.specs.Lawful.{Lawful}
use Rattle.file_wellformed.proofs.Lawful.{accepted_lawful}
use Rattle.file_wellformed.proofs.Once.{entry_range, record_placed, record_once}
use Rattle.barrier_placement.specs.declared.cookbook.Barrier.{Barrier}
use Rattle.barrier_placement.specs.Chain.{Chain, Path}
use Rattle.barrier_placement.specs.Steps.{step_of, steps}
use Rattle.barrier_placement.specs.Place.{stands, chosen}
use Rattle.barrier_placement.specs.Sentence.{Sentence}
use Rattle.barrier_placement.proofs.Correct.{correct}
use Rattle.barrier_placement.proofs.Unique.{unique}
use Rattle.barrier_placement.specs.Layout.{Placed, operations, barriers_at, start}
use Rattle.barrier_placement.specs.Sheet.{Item, bar, item, NextItem, items_of, ItemPair, Meets, Needed}
use Rattle.barrier_placement.specs.Sheet.{LeftOut as PlacedLeftOut}
use Rattle.barrier_placement.proofs.SheetCorrect.{items_meet, items_kept, items_needed}
use Rattle.sheet_format.specs.Layout.{Instr, op, barrier, aim, cells, sheet, has}
use Rattle.sheet_format.specs.declared.Level.{Level}
use Rattle.sheet_format.specs.Levels.{placed, placed_lanes, sheet_lanes, volatile_in}
use Rattle.sheet_format.specs.Bytes.{sheet_bytes, lower_by}
use Rattle.sheet_format.specs.Read.{read_sheet}
use Rattle.sheet_format.specs.Items.{items, operation_at, keeps_at, kept_before}
use Rattle.sheet_format.specs.Codes.{Code, codes_in}
use Rattle.sheet_format.specs.Before.{barriers_before, stands_before}
use Rattle.sheet_format.proofs.PlacedLanes.{placed_operations, items_placed}
use Rattle.sheet_format.proofs.ReadBack.{lawful_back}
use Rattle.sheet_format.proofs.Codes.{lawful_codes}
use Rattle.sheet_format.proofs.Before.{chosen_ext, has_chosen, placed_before, lane_before}
use Rattle.sheet_format.proofs.SmallBytes.{sheet_bytes_small}
use Rattle.sheet_format.proofs.Laws.Written.{written_all}
use Rattle.claims.specs.Claims.{Records, lane_of, lane_items, operations_in, kernel_lane, chain_of, LeftOut, Demand2}
use Rattle.claims.specs.Claims.{Placement, lowered, Fitting}
use Rattle.claims.proofs.KernelLanes.{forward, lane_placed}
use Rattle.claims.proofs.LeftOut.{left_out, placed_left_out}

module _ (l : Level) (k : Program) (w : Lawful k) (bytes : List ℕ) (same : read_sheet bytes ≡ sheet_lanes l k) (t : ℕ)
  where
    abbrev ops : List Op
    ops = get_or k.lanes t []

    abbrev chain : Chain
    chain = steps (volatile_in k) ops

    abbrev ps : List (Placed Op)
    ps = placed l (volatile_in k) ops

    -- lane t of the sheet
    lane_read : lane_of bytes t ≡ sheet ps
    lane_read =
        ap (λ x. get_or x t []) same ∙ get_or-map sheet (placed_lanes l k) t [] ∙ ap sheet (lane_placed k l t)

    abbrev placed_items : List Item
    placed_items = items_of (step_of (volatile_in k)) ps

    -- it is the placed lane
    lane_placed_so : lane_items (volatile_in k) bytes t ≡ placed_items
    lane_placed_so = ap (items (volatile_in k)) lane_read ∙ items_placed (volatile_in k) ps

    sentence : (b : Barrier) → Sentence chain b (stands chain b)
    sentence b = correct chain b (forward (w.lane t) (volatile_in k))

    placed_sentence : (b : Barrier) → Sentence (steps (volatile_in k) (operations ps)) b (stands chain b)
    placed_sentence b =
        subst (λ os. Sentence (steps (volatile_in k) os) b (stands chain b)) (sym (placed_operations l chain 0 ops))
        (sentence b)

    stand : (p : ℕ) → p < length ps → barriers_at ps p ≡ kept_before l (volatile_in k) ops p
    stand p i = placed_before l (volatile_in k) ops p

    -- placement's theorems on it
    lane_left : (b : Barrier) (x : ℕ)
        → PlacedLeftOut ps (stands chain) (keeps_at l ops) b x ↔ LeftOut l k bytes t b x
    lane_left b x = (left_out l k bytes t lane_read sentence b x, placed_left_out l k bytes t lane_read sentence b x)

    lane_meets : (b : Barrier) (m n : ℕ) (π : Path (NextItem placed_items) m n) → ItemPair placed_items b m n
        → Meets (step_of (volatile_in k)) ps (stands chain) (keeps_at l ops) b π
    lane_meets = items_meet (step_of (volatile_in k)) ps (stands chain) placed_sentence (keeps_at l ops) stand

    lane_needed : (b : Barrier) (m : ℕ) → item placed_items m ≡ bar b
        → Needed (step_of (volatile_in k)) ps (stands chain) (keeps_at l ops) b m
    lane_needed = items_needed (step_of (volatile_in k)) ps (stands chain) placed_sentence (keeps_at l ops) stand

    lane_bars : (b : Barrier) (m : ℕ) → item placed_items m ≡ bar b → (p : ℕ) × (keeps_at l ops b p ≡ true)
    lane_bars = items_kept (step_of (volatile_in k)) ps (stands chain) placed_sentence (keeps_at l ops) stand

    lane_kept : (p : ℕ) → barriers_before (lane_of bytes t) p ≡ kept_before l (volatile_in k) ops p
    lane_kept p = ap (λ x. barriers_before x p) lane_read ∙ lane_before l (volatile_in k) ops p

    lane_stands : (b : Barrier) (p : ℕ) → stands_before b (lane_of bytes t) p ≡ (keeps_at l ops b p && stands chain b p)
    lane_stands b p = ap (has b) (lane_kept p) ∙ has_chosen (λ a. keeps_at l ops a p && stands chain a p) b

    lane_ordered : (p : ℕ) → barriers_before (lane_of bytes t) p ≡ chosen (λ b. stands_before b (lane_of bytes t) p)
    lane_ordered p = lane_kept p ∙ chosen_ext (λ b. sym (lane_stands b p))

sheet_demand2 : (l : Level) (k : Program) → Lawful k → (bytes : List ℕ) → read_sheet bytes ≡ sheet_lanes l k
    → Demand2 l k bytes
sheet_demand2 l k w bytes same = record {
  covered = λ t. rw (lane_placed_so l k w bytes same t) (λ b m n π pair.
      elim (lane_meets l k w bytes same t b m n π pair) [
        | inl y ↦ inl y
        | inr y ↦ inr (y.0, y.1, (lane_left l k w bytes same t b y.0).0 y.2)
      ]);
  needed = λ t. rw (lane_placed_so l k w bytes same t) (λ b m e.
      let a = lane_needed l k w bytes same t b m e in
      (a.0, λ y on out. a.1 y on ((lane_left l k w bytes same t b y).1 out)));
  absent = λ t b h. rw (lane_placed_so l k w bytes same t) (λ m e.
      let x = lane_bars l k w bytes same t b m e in
      true≢false (sym x.1 ∙ h (operation_at (kernel_lane k t) x.0)));
}

sheet_placement : (l : Level) (k : Program) → Lawful k → (bytes : List ℕ) → read_sheet bytes ≡ sheet_lanes l k
    → Placement l k bytes
sheet_placement l k w bytes same = record {
  solved = λ t b. (stands (chain_of k t) b, sentence l k w bytes same t b);
  exactly = λ t b B solves p. lane_stands l k w bytes same t b p
      ∙ ap (λ x. keeps_at l (kernel_lane k t) b p && x)
      (unique (chain_of k t) b (stands (chain_of k t) b) B (sentence l k w bytes same t b) solves p);
  ordered = lane_ordered l k w bytes same;
}

operations_bars : (bs : List Barrier) (is : List Instr) → operations_in (map barrier bs ++ is) ≡ operations_in is
operations_bars [] is = refl
operations_bars (b ∷ bs) is = operations_bars bs is

operations_cells : (r : ℕ → ℕ) (ps : List (Placed Op)) → operations_in (cells r ps) ≡ map (aim r) (operations ps)
operations_cells r [] = refl
operations_cells r (x ∷ ps) =
    operations_bars x.before (op (aim r x.oper) ∷ cells r ps)
    ∙ ap (λ l. aim r x.oper ∷ l) (operations_cells r ps)

module _ (s : List ℕ) (k : Program) (e : verdict s ≡ accepted k) where
  w : Lawful k
  w = accepted_lawful s k e

  pub records : Records s k
  records = record {
    numbered = entry_range s k e;
    somewhere = record_placed s k e;
    once = record_once s k e;
  }

  -- what lowering leaves in a buffer that is long enough, and what is read of it
  lowered_bytes : Fitting (λ l buffer. lowered l s buffer
      ≡ sheet_bytes l k ++ drop (length (sheet_bytes l k)) buffer) k
  lowered_bytes l buffer h =
      ap (λ v. (lower_by l v buffer).1) e ∙ ap (λ r. r.1) (written_all (sheet_bytes l k) buffer h)

  lowered_back : Fitting (λ l buffer. read_sheet (lowered l s buffer) ≡ sheet_lanes l k) k
  lowered_back l buffer h =
      ap read_sheet (lowered_bytes l buffer h) ∙ lawful_back l k (drop (length (sheet_bytes l k)) buffer) w

  pub demand2 : Fitting (λ l buffer. Demand2 l k (lowered l s buffer)) k
  demand2 l buffer h = sheet_demand2 l k w (lowered l s buffer) (lowered_back l buffer h)

  pub placement : Fitting (λ l buffer. Placement l k (lowered l s buffer)) k
  placement l buffer h = sheet_placement l k w (lowered l s buffer) (lowered_back l buffer h)

  pub codes : Fitting (λ l buffer. (t p c : ℕ) → get_elem? (get_or (codes_in (lowered l s buffer)) t []) p ≡ some c
      → Code l c) k
  codes l buffer h t p c c-is =
      lawful_codes l k w (drop (length (sheet_bytes l k)) buffer) t p c
      (subst (λ b. get_elem? (get_or (codes_in b) t []) p ≡ some c) (lowered_bytes l buffer h) c-is)

  -- every operation stands in the sheet, in order
  pub whole : Fitting (λ l buffer. (t : ℕ)
      → operations_in (lane_of (lowered l s buffer) t)
      ≡ map (aim (start (placed l (volatile_in k) (get_or k.lanes t [])))) (get_or k.lanes t [])) k
  whole l buffer h t =
      let os = get_or k.lanes t [] in
      let ps = placed l (volatile_in k) os in
      ap operations_in (lane_read l k w (lowered l s buffer) (lowered_back l buffer h) t)
      ∙ operations_cells (start ps) ps
      ∙ ap (map (aim (start ps))) (placed_operations l (steps (volatile_in k) os) 0 os)

  -- each byte of it is below 256
  pub bytes : Fitting (λ l buffer. (i : ℕ) → i < length (sheet_bytes l k) → get_or (lowered l s buffer) i 0 < 256) k
  bytes l buffer h i inside =
      rw (
        lowered_bytes l buffer h,
        get_or-append (sheet_bytes l k) (drop (length (sheet_bytes l k)) buffer) 0 i
            inside,
      )
      (sheet_bytes_small l k w i)
