-- Each direct source schedule has its schedule on each target, and the two runs share what is compared.
use mathlib.Core.Path.{◌≡◌, refl, ◌∙◌, sym}
use mathlib.Core.Bool.{Bool, true, ◌&&◌}
use mathlib.Core.List.{List, [], ◌∷◌, foldl-append}
use mathlib.Core.Option.{Option, none, some}
use Prim.Native.Nat.{ℕ, zero, suc, ◌<◌}
use native.Mathlib.Omega.{arith}
use lib.Dec.{ltb, leb}
use borrow.Author.Tests.{ltb-true}
use lib.ListN.{get_or, get_elem?, drop}
use Rattle.laws.proofs.Bools.{and_true}
use Rattle.laws.proofs.Lists.{nil_of_length}
use Rattle.file_format.specs.declared.accepted.Op.{Op}
use Rattle.barrier_placement.specs.Layout.{Placed}
use Rattle.sheet_format.specs.Layout.{Instr}
use Rattle.machine_spec.specs.declared.Machine.TheVariants.{Source, Target}
use Rattle.machine_spec.specs.declared.Model.{Model}
use Rattle.machine_spec.specs.Step.{waits}
use Rattle.machine_spec.specs.Schedule.{Move, move, legal}
use Rattle.machine_spec.specs.State.{Run, Outcome, ran, refused, lane_at, pos_at, core_of, move_turn, advance, run}
use Rattle.claims.specs.Schedules.{leading, expand_at, target_schedule}
use Rattle.claims.specs.Direct.{owes, honours, direct}
use Rattle.claims.proofs.Fenced.{AllFenced, kernel_program, sheet_program}
use Rattle.claims.proofs.Matching.{Follows, Matched, both_ran, both_refused, source_turn}
use Rattle.claims.proofs.DirectLane.{commit_back, commit_not_pass}
use Rattle.claims.proofs.DirectMove.{exact, through}
use Rattle.claims.proofs.DirectPending.{Ready, ReadyOut, honoured, nothing_pending}
use Rattle.claims.proofs.DirectPending.{ready_step}

direct_refused : (vol : ℕ → Bool) (prog : List (List Instr)) (d : Option ℕ) (t k : ℕ) (mvs : List Move)
    → direct vol prog d (refused t k) mvs ≡ true
direct_refused vol prog d t k [] = refl
direct_refused vol prog d t k (mv ∷ mvs) = refl

module _ (m : Model) (vol : ℕ → Bool) (ks : List (List (Placed Op))) (f : (t : ℕ) → AllFenced m vol (get_or ks t []))
    (n : ℕ) where
  -- a source move and the target's moves for it
  move_matched : (d : Option ℕ) (r s : Run) → r.row ≡ s.row → Follows m vol ks r.state s.state
      → Ready n d r.state → (t k : ℕ) → t < n
      → honours d (move_turn Source vol (kernel_program ks) r.state (move t k)) r.state (move t k) ≡ true
      → Matched m vol ks (advance Source vol (kernel_program ks) (ran r) (move t k))
      (run (Target m) vol (sheet_program ks) (ran s) (expand_at (sheet_program ks) (ran s) (move t k)))
  move_matched d r s e h rd t zero lt ho =
      let nil =
      nothing_pending vol (kernel_program ks) n r d t (move_turn Source vol (kernel_program ks) r.state (move t 0)) rd
      ho in
      through m vol ks f (leading (drop (pos_at s.state t) (get_or (sheet_program ks) t []))) t r s e h
      (omega (arith, h.count, rd.count)) (sym (h.lanes t).pending ∙ nil) refl
  move_matched d r s e h rd t (suc zero) lt ho =
      exact m vol ks f r s e h (move t 1)
      (commit_not_pass m vol (lane_at s.state t).control (core_of s.state (lane_at s.state t))
      (get_elem? (lane_at s.state t).pending 0))
      (λ x. source_turn m vol ks f r.state s.state h (move t 1)
      ∙ commit_back m vol (lane_at s.state t).control (lane_at r.state t).control
      (core_of s.state (lane_at s.state t)) (get_elem? (lane_at s.state t).pending 0) x)
  move_matched none r s e h rd t (suc (suc k)) lt ho =
      let nil : (lane_at r.state t).pending ≡ [] = nil_of_length (lane_at r.state t).pending (rd.lists t) in
      let idles : move_turn Source vol (kernel_program ks) r.state (move t (suc (suc k))) ≡ waits = rw nil in
      rw idles (both_ran e h)
  move_matched (some u) r s e h rd t (suc (suc k)) lt ho =
      let z = (honoured vol (kernel_program ks) n r u t (suc (suc k))
      (move_turn Source vol (kernel_program ks) r.state (move t (suc (suc k)))) rd ho).1 in
      absurd (omega arith)

  pub direct_matching : (mvs : List Move) (d : Option ℕ) (o o' : Outcome) → Matched m vol ks o o' → ReadyOut n d o
      → legal n 64 mvs ≡ true
      → direct vol (kernel_program ks) d o mvs ≡ true
      → Matched m vol ks (run Source vol (kernel_program ks) o mvs)
      (run (Target m) vol (sheet_program ks) o' (target_schedule m vol (sheet_program ks) o' mvs))
  direct_matching [] d o o' x rd le st = x
  direct_matching (mv ∷ mvs) d o o' (both_refused {t = t} {k = k}) rd le st =
      direct_matching mvs d (refused t k) (refused t k) both_refused tt
      (and_true (ltb mv.lane n && leb mv.choice 64) (legal n 64 mvs) le).1
      (direct_refused vol (kernel_program ks) d t k mvs)
  direct_matching (mv ∷ mvs) d o o' (both_ran {r = r} {s = s} e h) rd le st =
      let parts = and_true (honours d (move_turn Source vol (kernel_program ks) r.state mv) r.state mv)
      (direct vol (kernel_program ks) (owes (kernel_program ks) r.state mv)
      (advance Source vol (kernel_program ks) (ran r) mv) mvs) st in
      let fits = and_true (ltb mv.lane n && leb mv.choice 64) (legal n 64 mvs) le in
      let lt : mv.lane < n = ltb-true mv.lane n (and_true (ltb mv.lane n) (leb mv.choice 64) fits.0).0 in
      rw foldl-append
      (direct_matching mvs (owes (kernel_program ks) r.state mv) (advance Source vol (kernel_program ks) (ran r) mv)
      (run (Target m) vol (sheet_program ks) (ran s) (expand_at (sheet_program ks) (ran s) mv))
      (move_matched d r s e h rd mv.lane mv.choice lt parts.0)
      (ready_step vol (kernel_program ks) n r d mv.lane mv.choice rd lt parts.0) fits.1 parts.1)
