-- What is pending and not yet parted, by a barrier of a kind, from what the lane does next.
use mathlib.Core.Path.{◌≡◌, refl, ap, ◌∙◌, sym}
use mathlib.Core.Bool.{Bool, true, false, not, ◌||◌, cond, false≢true}
use mathlib.Core.List.{List, [], ◌∷◌, ◌++◌}
use mathlib.Core.Option.{some}
use Prim.Native.Nat.{ℕ}
use lib.ListN.{length, get_elem?, take}
use Rattle.laws.proofs.Bools.{and_true}
use Rattle.file_format.specs.declared.accepted.Op.{Op}
use Rattle.file_format.specs.declared.accepted.Op.TheVariants.{Set}
use Rattle.barrier_placement.specs.declared.cookbook.Barrier.{Barrier}
use Rattle.barrier_placement.specs.declared.cookbook.Barrier.TheVariants.{LL, LS, SS, SL}
use Rattle.barrier_placement.specs.Cookbook.{same}
use Rattle.machine_spec.specs.Entries.{Entry, is_sync, any_sync, is_nil, any_same, without}
use Rattle.machine_spec.specs.Marks.{no_mark, after_commit}
use Rattle.machine_spec.specs.declared.Machine.TheVariants.{Source, Target}
use Rattle.machine_spec.specs.declared.Model.{Model}
use Rattle.machine_spec.specs.declared.Model.TheVariants.{Tso, Pso}
use Rattle.machine_spec.specs.Rules.{may_commit, may_pass}
use Rattle.machine_spec.specs.Step.{marks_past}
use Rattle.machine_spec.proofs.Laws.Marks.{length_at, ss_keeps}
use Rattle.claims.specs.Direct.{appends}
use Rattle.claims.proofs.Fenced.{publishes, opens, KeptAt}
use Rattle.claims.proofs.Laws.Pending.{sync_snoc, sync_without, nil_sync, oldest_commits, length_without}
use Rattle.claims.proofs.Laws.Pending.{sealed, ss_seals, commit_seals, Parted, parted_without, parted_oldest}

-- SL: a volatile store or release is pending; SS: an entry that is appended follows another with no mark between
abbrev pub exposed : Barrier → (ℕ → Bool) → ℕ → List Entry → Bool
exposed LL vol ks es = false
exposed LS vol ks es = false
exposed SS vol ks es = not (sealed (length es) ks)
exposed SL vol ks es = any_sync vol es

pub exposed_nil : (b : Barrier) (vol : ℕ → Bool) (ks : ℕ) (es : List Entry) → is_nil es ≡ true
    → exposed b vol ks es ≡ false
exposed_nil b vol ks (e ∷ es) h = cc
exposed_nil LL vol ks [] h = refl
exposed_nil LS vol ks [] h = refl
exposed_nil SS vol ks [] h = refl
exposed_nil SL vol ks [] h = refl

-- the entry of a store or UNLOCK
pub exposed_snoc : (b : Barrier) (vol : ℕ → Bool) (ks : ℕ) (es : List Entry) (e : Entry) (o : Op) → appends o ≡ true
    → is_sync vol e ≡ publishes vol o
    → exposed b vol ks (es ++ (e ∷ [])) ≡ true → opens b vol o || exposed b vol ks es ≡ true
exposed_snoc LL vol ks es e o a s h = h
exposed_snoc LS vol ks es e o a s h = h
exposed_snoc SS vol ks es e o a s h = rw a
exposed_snoc SL vol ks es e o a s h = rw (← s) (sym (sync_snoc vol es e) ∙ h)

not_mono : (a b : Bool) → (b ≡ true → a ≡ true) → not a ≡ true → not b ≡ true
not_mono a true f h = cc (f refl)
not_mono a false f h = refl

pub exposed_without : (b : Barrier) (vol : ℕ → Bool) (ks : ℕ) (es : List Entry) (i : ℕ) (e : Entry)
    → get_elem? es i ≡ some e
    → exposed b vol (after_commit ks) (without i es) ≡ true → exposed b vol ks es ≡ true
exposed_without LL vol ks es i e k h = h
exposed_without LS vol ks es i e k h = h
exposed_without SS vol ks es i e k h =
    rw (length_without es i e k) (not_mono _ _ (commit_seals (length (without i es)) ks) h)
exposed_without SL vol ks es i e k h = sync_without vol i es h

-- a barrier that is passed and leaves something exposed is another one, and it was exposed before
pub exposed_pass : (m : Model) (b x : Barrier) (vol : ℕ → Bool) (ks : ℕ) (es : List Entry) → KeptAt m b
    → may_pass (Target m) x es ≡ true → exposed b vol (marks_past (Target m) x es ks) es ≡ true
    → (same b x ≡ false) × (exposed b vol ks es ≡ true)
exposed_pass m LL x vol ks es v p h = absurd (false≢true h)
exposed_pass m LS x vol ks es v p h = absurd (false≢true h)
exposed_pass Tso SS x vol ks es v p h = absurd (false≢true (v (Set 0 0) refl))
exposed_pass Pso SS LL vol ks es v p h = (refl, h)
exposed_pass Pso SS LS vol ks es v p h = (refl, h)
exposed_pass Pso SS SS vol ks es v p h = absurd (false≢true (sym (ap not (ss_seals (length es) ks)) ∙ h))
exposed_pass Pso SS SL vol ks es v p h = (refl, h)
exposed_pass m SL LL vol ks es v p h = (refl, h)
exposed_pass m SL LS vol ks es v p h = (refl, h)
exposed_pass m SL SS vol ks es v p h = (refl, h)
exposed_pass m SL SL vol ks es v p h = absurd (false≢true (sym (nil_sync vol es p) ∙ h))

-- ## what keeps a target's commits within the source machine's

abbrev pub Ordered : Model → (ℕ → Bool) → ℕ → List Entry → Type 0
Ordered Tso vol ks es = Unit {0}
Ordered Pso vol ks es = Parted vol ks es

pub ordered_nil : (m : Model) (vol : ℕ → Bool) (ks : ℕ) → Ordered m vol ks []
ordered_nil Tso vol ks = tt
ordered_nil Pso vol ks = λ j e k s. cc

pub ordered_pass : (m : Model) (x : Barrier) (vol : ℕ → Bool) (ks : ℕ) (es : List Entry) → Ordered m vol ks es
    → Ordered m vol (marks_past (Target m) x es ks) es
ordered_pass Tso x vol ks es q = tt
ordered_pass Pso LL vol ks es q = q
ordered_pass Pso LS vol ks es q = q
ordered_pass Pso SS vol ks es q = λ j e k s. ss_keeps (length es) j ks (q j e k s)
ordered_pass Pso SL vol ks es q = q

module _ (vol : ℕ → Bool) (ks : ℕ) (es : List Entry) (i : ℕ) (e : Entry) (k : get_elem? es i ≡ some e) where
  parts : may_commit (Target Pso) vol ks (take i es) e ≡ true
      → (no_mark i ks ≡ true) × (not (any_same e (take i es)) ≡ true)
  parts h = and_true (no_mark i ks) (not (any_same e (take i es))) (rw (length_at es i e k) at h)

  pub ordered_commit : (m : Model) → may_commit (Target m) vol ks (take i es) e ≡ true → Ordered m vol ks es
      → Ordered m vol (after_commit ks) (without i es)
  ordered_commit Tso h q = tt
  ordered_commit Pso h q = parted_without vol ks es i (parts h).0 q

  -- what a target may commit, so may the source machine
  pub source_commits : (m : Model) (other : ℕ) → may_commit (Target m) vol ks (take i es) e ≡ true → Ordered m vol ks es
      → may_commit Source vol other (take i es) e ≡ true
  source_commits Tso other h q = oldest_commits Source vol other (take i es) e h
  source_commits Pso other h q = go (is_sync vol e) refl
    where
      go : (b : Bool) → is_sync vol e ≡ b → cond b (is_nil (take i es)) (not (any_same e (take i es))) ≡ true
      go true s = parted_oldest vol ks es i e (parts h).0 q k s
      go false s = (parts h).1
