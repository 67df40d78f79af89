-- A barrier is left out of a lane of a sheet, as the claims say it, exactly where it is as placement's theorems say it:
-- theorems `left_out` and `placed_left_out`.
use mathlib.Core.Path.{◌≡◌, sym, ap, ◌∙◌}
use mathlib.Core.Bool.{true, false}
use mathlib.Core.List.{List}
use mathlib.Core.Option.{some}
use Prim.Native.Nat.{ℕ, ◌<◌}
use lib.ListN.{length, get_elem?}
use Rattle.file_format.specs.declared.accepted.Op.{Op}
use Rattle.file_format.specs.Accepted.{Program}
use Rattle.barrier_placement.specs.declared.cookbook.Barrier.{Barrier}
use Rattle.barrier_placement.specs.Place.{stands}
use Rattle.barrier_placement.specs.Sentence.{Sentence}
use Rattle.barrier_placement.specs.Layout.{Placed, operations, start, op_at}
use Rattle.barrier_placement.specs.Sheet.{LeftOut as PlacedLeftOut}
use Rattle.barrier_placement.proofs.Unique.{unique}
use Rattle.sheet_format.specs.Layout.{op, aim, sheet, rank}
use Rattle.sheet_format.specs.declared.Level.{Level}
use Rattle.sheet_format.specs.Levels.{keeps, placed, volatile_in}
use Rattle.sheet_format.specs.Items.{operation_at, keeps_at}
use Rattle.sheet_format.proofs.PlacedLanes.{placed_operations}
use Rattle.sheet_format.proofs.Laws.Aim.{keeps_aim}
use Rattle.claims.specs.Claims.{lane_of, kernel_lane, chain_of, LeftOut}
use Rattle.claims.proofs.Laws.Sheets.{rank_op, op_fetched, op_located}

module _ (l : Level) (k : Program) (bytes : List ℕ) (t : ℕ)
    (read : lane_of bytes t ≡ sheet (placed l (volatile_in k) (kernel_lane k t)))
    (sentence : (b : Barrier) → Sentence (chain_of k t) b (stands (chain_of k t) b)) where
  abbrev ops : List Op
  ops = kernel_lane k t

  abbrev ps : List (Placed Op)
  ps = placed l (volatile_in k) ops

  same_operations : operations ps ≡ ops
  same_operations = placed_operations l (chain_of k t) 0 ops

  -- the p-th operation
  fetched : (p : ℕ) → p < length ps
      → get_elem? (lane_of bytes t) (op_at ps p) ≡ some (op (aim (start ps) (operation_at ops p)))
  fetched p h =
      ap (λ is. get_elem? is (op_at ps p)) read ∙ op_fetched ps p h
      ∙ ap (λ os. some (op (aim (start ps) (operation_at os p)))) same_operations

  ranked : (p : ℕ) → p < length ps → rank (lane_of bytes t) (op_at ps p) ≡ p
  ranked p h = ap (λ is. rank is (op_at ps p)) read ∙ rank_op (start ps) ps p h

  module _ (b : Barrier) (x : ℕ) where
    pub left_out : PlacedLeftOut ps (stands (chain_of k t)) (keeps_at l ops) b x → LeftOut l k bytes t b x
    left_out (p, inside, here, standing, dropped) = record {
      operation = aim (start ps) (operation_at ops p);
      here = ap (get_elem? (lane_of bytes t)) here ∙ fetched p inside;
      put = (
        stands (chain_of k t) b,
        sentence b,
        ap (stands (chain_of k t) b) (ap (rank (lane_of bytes t)) here ∙ ranked p inside) ∙ standing,
      );
      dropped = keeps_aim l (start ps) (operation_at ops p) b ∙ dropped;
    }

    pub placed_left_out : LeftOut l k bytes t b x → PlacedLeftOut ps (stands (chain_of k t)) (keeps_at l ops) b x
    placed_left_out y = (p, f.1, f.2, standing, sym (keeps_aim l (start ps) (operation_at ops p) b) ∙ dropped)
      where
        f : (p : ℕ) × (p < length ps) × (x ≡ op_at ps p)
        f = op_located ps x y.operation (ap (λ is. get_elem? is x) (sym read) ∙ y.here)

        p : ℕ
        p = f.0

        standing : stands (chain_of k t) b p ≡ true
        standing =
            unique (chain_of k t) b (stands (chain_of k t) b) y.put.0 (sentence b) y.put.1 p
            ∙ ap y.put.0 (sym (ap (rank (lane_of bytes t)) f.2 ∙ ranked p f.1)) ∙ y.put.2

        dropped : keeps l (aim (start ps) (operation_at ops p)) b ≡ false
        dropped =
            let o : aim (start ps) (operation_at ops p) ≡ y.operation = cc (fetched p f.1, y.here, f.2) in
            ap (λ z. keeps l z b) o ∙ y.dropped
