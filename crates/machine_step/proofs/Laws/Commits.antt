-- Laws of a commit: past the list, not permitted, done.
use Rattle.std.proofs.Common.{◌≡◌, ℕ, ◌<◌, ◌≤◌, Bool, true, false, List, length, get_or, take, sym, subst}
use mathlib.Core.Option.{Option}
use lib.ListN.{get_elem?}
use Rattle.laws.proofs.Lists.{at_some, at_beyond}
use Rattle.machine_spec.specs.Entries.{Entry, without}
use Rattle.machine_spec.specs.declared.Machine.{Machine}
use Rattle.machine_spec.specs.Marks.{after_commit}
use Rattle.machine_spec.specs.Rules.{may_commit}
use Rattle.machine_spec.specs.Step.{Turn, landed, freed, commit}
use Rattle.machine_spec.specs.State.{Lane}
use Rattle.machine_state.specs.declared.state.Moved.{Moved}
use Rattle.machine_state.specs.declared.state.Moved.TheVariants.{Waited, Done}
use Rattle.machine_lane.specs.Lanes.{entry_of, no_entry, with_marks, with_pending}
use Rattle.machine_state.specs.States.{Blocks, CELLS, VALUES, word_at, lane_of, core_in, state_in, Sized, Became}
use Rattle.machine_state.specs.States.{Shared}
use Rattle.machine_step.specs.Turns.{commits, Took}
use Rattle.machine_state.proofs.Laws.Rules.{pending_at}
use Rattle.machine_step.proofs.Laws.Turns.{took_wait, took_does}

-- a lane whose marks each have one entry fewer before them
abbrev pub shifted : Lane → Lane
shifted l = with_marks l (after_commit l.control.marks)

module _ (m : Machine) (f : ℕ → Bool) (s : Blocks) (t i : ℕ) where
  abbrev entries : List Entry
  entries = (lane_of s t).pending

  abbrev marked : ℕ
  marked = (lane_of s t).control.marks

  abbrev turn_on : Option Entry → Turn
  turn_on e = commit m f (lane_of s t).control (core_in s t) i e

  from : {e : Option Entry} {q : Moved} {z : Blocks} → get_elem? entries i ≡ e → Took s t (turn_on e) q z
      → Took s t (commits m f s t i) q z
  from {e} {q} {z} h k = subst (λ x. Took s t (turn_on x) q z) (sym h) k

  pub commit_past : length entries ≤ i → Sized s → Took s t (commits m f s t i) Waited s
  commit_past h k = from (at_beyond entries i h) (took_wait s t k)

  pub commit_waits : i < length entries → may_commit m f marked (take i entries) (get_or entries i no_entry) ≡ false
      → Sized s → Took s t (commits m f s t i) Waited s
  commit_waits h may k = from (at_some entries i no_entry h) (rw may (took_wait s t k))

  pub commit_does : (d z : Blocks) → i < length entries
      → may_commit m f marked (take i entries) (get_or entries i no_entry) ≡ true
      → Shared s (landed (state_in s).memory (entry_of (word_at s t CELLS i) (word_at s t VALUES i)))
      (freed (state_in s).locks (entry_of (word_at s t CELLS i) (word_at s t VALUES i))) d
      → Became d t (shifted (with_pending (lane_of s t) (without i entries))) z
      → Took s t (commits m f s t i) Done z
  commit_does d z h may w b =
      let e = sym (pending_at s t i h) in
      let w2 = subst (λ x. Shared s (landed (state_in s).memory x) (freed (state_in s).locks x) d) e w in
      from (at_some entries i no_entry h) (rw may (took_does s d z t _ _ w2 b _))
