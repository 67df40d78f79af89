-- A lane's move on a target agrees with the same lane's move on the source machine.
use mathlib.Core.Path.{◌≡◌, refl, subst}
use mathlib.Core.Bool.{Bool, true, false, cond}
use mathlib.Core.List.{List, map}
use mathlib.Core.Option.{Option, none, some}
use Prim.Native.Nat.{ℕ, zero, suc, ◌+◌, ◌≤◌, ◌<◌}
use native.Mathlib.Decide.{dec_lt}
use native.Mathlib.Omega.{arith}
use lib.ListN.{length, get_or, get_elem?, take}
use lib.Seq.{take-suc, take-length}
use Rattle.file_format.specs.declared.accepted.Op.{Op}
use Rattle.barrier_placement.specs.declared.cookbook.Barrier.{Barrier}
use Rattle.barrier_placement.specs.declared.cookbook.Barrier.TheVariants.{LL}
use Rattle.barrier_placement.specs.Layout.{Placed, operations, before_of, start}
use Rattle.barrier_placement.proofs.Laws.Layout.{at_end}
use Rattle.sheet_format.specs.Layout.{op, barrier, aim, sheet}
use Rattle.machine_spec.specs.Entries.{Entry, without}
use Rattle.machine_spec.specs.declared.Machine.TheVariants.{Source, Target}
use Rattle.machine_spec.specs.declared.Model.{Model}
use Rattle.machine_spec.specs.Rules.{may_commit, may_pass}
use Rattle.machine_spec.specs.Step.{Control, Core, Turn, waits, passes, passed, committed, execute, commit, turn}
use Rattle.claims.proofs.Fenced.{AllFenced}
use Rattle.claims.proofs.Laws.Sheets.{has_snoc, chain_at_lem, barrier_at, op_at_lem}
use Rattle.claims.proofs.Exposed.{exposed_without, exposed_pass, ordered_pass, ordered_commit, source_commits}
use Rattle.claims.proofs.Stands.{Safe, Stands}
use Rattle.claims.proofs.OpAgrees.{Agrees, wait, passed_by, act, op_agrees}

module _ (m : Model) (vol : ℕ → Bool) (ps : List (Placed Op)) where
  commit_agrees : (i k : Control) (c : Core) (n : ℕ) (e : Option Entry) → get_elem? c.pending n ≡ e
      → Stands m vol ps i.pos k c.pending
      → Agrees m vol ps i.pos c (commit (Target m) vol k c n e) (commit Source vol i c n e)
  commit_agrees i k c n none at st = wait
  commit_agrees i k c n (some e) at st = go (may_commit (Target m) vol k.marks (take n c.pending) e) refl
    where
      go : (b : Bool) → may_commit (Target m) vol k.marks (take n c.pending) e ≡ b
          → Agrees m vol ps i.pos c (commit (Target m) vol k c n (some e)) (commit Source vol i c n (some e))
      go false h = rw h wait
      go true h =
          rw (h, source_commits vol k.marks c.pending n e at m i.marks h st.ordered) (act left)
        where
          left : Stands m vol ps i.pos (committed k) (without n c.pending)
          left = record {
            passed = st.passed;
            place = st.place;
            within = st.within;
            safe = λ b v x. st.safe b v (exposed_without b vol k.marks c.pending n e at x);
            ordered = ordered_commit vol k.marks c.pending n e at m h st.ordered;
          }

  module _ (f : AllFenced m vol ps) (w : ℕ) (i k : Control) (c : Core) (st : Stands m vol ps i.pos k c.pending)
    where
      execute_agrees : Agrees m vol ps i.pos c (execute (Target m) vol w k c (get_elem? (sheet ps) k.pos))
          (execute Source vol w i c (get_elem? (map op (operations ps)) i.pos))
      execute_agrees = go (get_elem? ps i.pos) refl
        where
          u : Turn
          u = execute Source vol w i c (get_elem? (map op (operations ps)) i.pos)

          go : (s : Option (Placed Op)) → get_elem? ps i.pos ≡ s
              → Agrees m vol ps i.pos c (execute (Target m) vol w k c (get_elem? (sheet ps) k.pos)) u
          go none here = rw (st.place, at_end barrier (λ o. op (aim (start ps) o)) ps i.pos st.passed here) wait
          go (some s) here = reach (dec_lt st.passed (length s.before))
            where
              most : st.passed ≤ length s.before
              most = subst (λ o. st.passed ≤ length (before_of o)) here st.within

              guard : Safe m vol ps i.pos k.marks c.pending (take st.passed s.before)
              guard =
                  subst (λ o. Safe m vol ps i.pos k.marks c.pending (take st.passed (before_of o))) here
                  st.safe

              reach : Dec (st.passed < length s.before)
                  → Agrees m vol ps i.pos c (execute (Target m) vol w k c (get_elem? (sheet ps) k.pos)) u
              reach (yes h) =
                  let fetch : get_elem? (sheet ps) k.pos ≡ some (barrier (get_or s.before st.passed LL)) =
                  rw st.place (barrier_at ps i.pos s here st.passed h) in
                  rw fetch (bar (may_pass (Target m) x c.pending) refl)
                where
                  x : Barrier
                  x = get_or s.before st.passed LL

                  past : may_pass (Target m) x c.pending ≡ true
                      → Stands m vol ps i.pos (passed (Target m) k c x) c.pending
                  past may = record {
                    passed = suc st.passed;
                    place = omega (arith, st.place);
                    within = rw here h;
                    safe = λ b v e.
                        let was = exposed_pass m b x vol k.marks c.pending v may e in
                        let old = guard b v was.1 in (
                          old.0,
                          rw here
                              (rw (take-suc s.before st.passed LL h)
                              (has_snoc b (take st.passed s.before) x old.1 was.0)),
                        );
                    ordered = ordered_pass m x vol k.marks c.pending st.ordered;
                  }

                  bar : (b : Bool) → may_pass (Target m) x c.pending ≡ b
                      → Agrees m vol ps i.pos c
                      (cond (may_pass (Target m) x c.pending) (passes (passed (Target m) k c x) c) waits) u
                  bar false e = rw e wait
                  bar true e = rw e (passed_by (past e))
              reach (no h) =
                  let all : st.passed ≡ length s.before = omega (arith, most) in
                  let at : k.pos ≡ start ps i.pos + length s.before = rw (← all) st.place in
                  let fetch : get_elem? (sheet ps) k.pos ≡ some (op (aim (start ps) s.oper)) =
                  rw at (op_at_lem ps i.pos s here) in
                  rw (fetch, chain_at_lem ps i.pos s here)
                  (op_agrees f (record {
                    here = here;
                    place = at;
                    safe = λ b v e. ((guard b v e).0, rw (all, take-length) at (guard b v e).1);
                    ordered = st.ordered;
                  }) w s.oper refl)

      pub turn_agrees : (n : ℕ)
          → Agrees m vol ps i.pos c (turn (Target m) vol w (sheet ps) k c n)
          (turn Source vol w (map op (operations ps)) i c n)
      turn_agrees zero = execute_agrees
      turn_agrees (suc n) = commit_agrees i k c n (get_elem? c.pending n) refl st
