-- Laws of a lane's plan: the numbers of its positions one after the other.
use Prim.Native.Nat.{ℕ, suc, ◌+◌, ◌<◌, ◌≤◌}
use native.Mathlib.Numerals.{add-one}
use native.Mathlib.Omega.{arith}
use mathlib.Core.Path.{◌≡◌, refl, sym, ap, ◌∙◌}
use mathlib.Core.Bool.{Bool, true, false, ◌&&◌}
use mathlib.Core.List.{List}
use lib.Dec.{leb}
use lib.ListN.{length, get_or, set, replicate, length-map, get_or-eq_default}
use lib.Seq.{get_or-set_same, get_or-set_other}
use borrow.Author.Tests.{leb-true}
use Rattle.laws.proofs.Numbers.{below_more, values_at}
use Rattle.file_format.specs.declared.accepted.Op.{Op}
use Rattle.file_format.specs.Stored.{no_op}
use Rattle.barrier_placement.specs.declared.cookbook.Barrier.{Barrier}
use Rattle.barrier_placement.specs.Layout.{start}
use Rattle.barrier_placement.specs.Place.{chosen, stands}
use Rattle.barrier_placement.specs.Placed.{bit, bit_of}
use Rattle.barrier_placement.specs.Steps.{step_of, steps}
use Rattle.barrier_placement.proofs.Laws.Layout.{start_zero, start_suc}
use Rattle.barrier_placement.proofs.Laws.Pass.{Reached, reached_none}
use Rattle.sheet_format.specs.declared.Level.{Level}
use Rattle.sheet_format.specs.declared.Level.TheVariants.{Level1, Level2, Level3}
use Rattle.sheet_format.specs.Levels.{keeps, placed}
use Rattle.sheet_format.specs.Items.{operation_at}
use Rattle.sheet_format.proofs.Before.{chosen_ext, stands_none, placed_before}
use Rattle.sheet_format.proofs.PlacedLanes.{placed_count}
use Rattle.barrier_pass.specs.Plan.{set_by, plan_set, begin_number, plan_number, width_at, width_number, Widths}
use Rattle.barrier_pass.proofs.Laws.Sets.{set_is, plan_set_small, plan_set_kept}

-- ## how many instructions an operation makes

pub width_small : {w : List ℕ} → Widths w → (x : ℕ) → x < 32 → get_or w x 0 ≤ 6308000
width_small ok x h =
    let few = values_at (λ k. leb (width_number k) 6308000) (λ k. true) 32 x refl h in
    omega (arith, ok.each x h, leb-true (width_number x) 6308000 few)

-- ## where positions begin

module _ (l : Level) (vol : ℕ → Bool) (ops : List Op) where
  pub next_begins : (p : ℕ) → p < length ops
      → start (placed l vol ops) (suc p)
      ≡ start (placed l vol ops) p
      + suc (length (chosen (λ b. keeps l (get_or ops p no_op) b && stands (steps vol ops) b p)))
  next_begins p h =
      omega (
        arith,
        start_suc (placed l vol ops) p (omega (arith, placed_count l vol ops)),
        ap length (placed_before l vol ops p),
      )

-- behind the plan's set of the barriers that stand, an operation makes as many instructions as it does in the lane
width_as : (l : Level) (o : Op) (x : ℕ) → x < 16 → (f : Barrier → Bool) → ((b : Barrier) → bit x (bit_of b) ≡ f b)
    → width_at l (plan_set o x) ≡ suc (length (chosen (λ b. keeps l o b && f b)))
width_as l o x h f e =
    ap (λ bs. suc (length bs)) (chosen_ext (λ b. plan_set_kept l o x h b ∙ ap (λ t. keeps l o b && t) (e b)))

module _ (vol : ℕ → Bool) (ops : List Op) where
  pub begin_zero : begin_number vol ops 0 ≡ 0
  begin_zero =
      omega (
        arith,
        start_zero (placed Level1 vol ops),
        start_zero (placed Level2 vol ops),
        start_zero (placed Level3 vol ops),
      )

  -- the next position begins where the table of widths says
  pub begin_next : {w : List ℕ} → Widths w → (p x : ℕ) → p < length ops → x < 16
      → ((b : Barrier) → bit x (bit_of b) ≡ stands (steps vol ops) b p)
      → begin_number vol ops (suc p) ≡ begin_number vol ops p + get_or w (plan_set (get_or ops p no_op) x) 0
  begin_next ok p x h small e =
      let o = get_or ops p no_op in
      let f : Barrier → Bool = λ b. stands (steps vol ops) b p in
      omega (
        arith,
        ok.each (plan_set o x) (plan_set_small o x small),
        width_as Level1 o x small f e,
        width_as Level2 o x small f e,
        width_as Level3 o x small f e,
        next_begins Level1 vol ops p h,
        next_begins Level2 vol ops p h,
        next_begins Level3 vol ops p h,
      )

-- ## the plan while it is written

module _ (vol : ℕ → Bool) (ops : List Op) where
  -- what is due and brought at position p, where it begins, and the numbers of the positions below it
  pub record Placing (due : ℕ) (brought plan : List ℕ) (begin p : ℕ) : Type 0 where
    pub reached : (b : Barrier) → Reached (steps vol ops) b due brought p
    pub begins : begin ≡ begin_number vol ops p
    pub numbers : (j : ℕ) → j < p → get_or plan j 0 ≡ plan_number vol ops j

  pub placing_none : (plan : List ℕ) → Placing 0 (replicate 65 0) plan 0 0
  placing_none plan = record {
    reached = reached_none (steps vol ops);
    begins = sym (begin_zero vol ops);
    numbers = λ j h. absurd (omega arith);
  }

  module _ {due begin p : ℕ} {brought plan : List ℕ} (r : Placing due brought plan begin p)
      (room : p < length plan) where
    -- one position more, with the set x of the barriers that stand there
    pub placing_on : {due' : ℕ} {brought' : List ℕ} {w : List ℕ} (x : ℕ) → Widths w → p < length ops → x < 16
        → ((b : Barrier) → bit x (bit_of b) ≡ stands (steps vol ops) b p)
        → ((b : Barrier) → Reached (steps vol ops) b due' brought' (p + 1))
        → (y : ℕ) → y ≡ plan_set (get_or ops p no_op) x
        → Placing due' brought' (set plan p (begin + y)) (begin + get_or w y 0) (p + 1)
    placing_on {w = w} x ok h small e on y is = record {
      reached = on;
      begins =
          ap (λ n. begin + get_or w n 0) is ∙ ap (λ n. n + get_or w (plan_set (get_or ops p no_op) x) 0) r.begins
          ∙ sym (begin_next vol ops ok p x h small e) ∙ ap (begin_number vol ops) (sym (add-one p));
      numbers = below_more (λ j. get_or (set plan p (begin + y)) j 0 ≡ plan_number vol ops j) p
          (λ j l. get_or-set_other plan p j (begin + y) 0 (λ q. omega arith) ∙ r.numbers j l)
          (get_or-set_same plan p (begin + y) 0 room ∙ here);
    }
      where
        here : begin + y ≡ plan_number vol ops p
        here =
            let set_here = ap (plan_set (get_or ops p no_op)) (set_is x small (λ b. stands (steps vol ops) b p) e) in
            omega (arith, r.begins, is ∙ set_here)

    -- all of them, and the end, before which nothing stands
    pub placing_end : length ops ≡ p → (j : ℕ) → j ≤ p → get_or (set plan p begin) j 0 ≡ plan_number vol ops j
    placing_end all j l =
        below_more (λ j. get_or (set plan p begin) j 0 ≡ plan_number vol ops j) p
        (λ j l. get_or-set_other plan p j begin 0 (λ q. omega arith) ∙ r.numbers j l)
        (get_or-set_same plan p begin 0 room ∙ r.begins ∙ last) j (omega arith)
      where
        none : (b : Barrier) → stands (steps vol ops) b p ≡ false
        none b = stands_none (steps vol ops) b p (omega (arith, length-map ops (step_of vol)))

        last : begin_number vol ops p ≡ plan_number vol ops p
        last =
            let past : operation_at ops p ≡ no_op = get_or-eq_default ops no_op {n = p} (omega arith) in
            let nothing : plan_set (operation_at ops p) (set_by (λ b. stands (steps vol ops) b p)) ≡ 0 =
            λ i. plan_set (past i) (set_by (λ b. none b i)) in
            omega (arith, nothing)
