-- Laws of schedules with one move more: whether they are legal, and what the definition answers to one that is not.
use Prim.Native.Nat.{ℕ, ◌<◌}
use mathlib.Core.Path.{◌≡◌, refl, sym, ap, ◌∙◌}
use mathlib.Core.Bool.{Bool, true, false, ◌&&◌, and-true}
use mathlib.Core.List.{List, [], ◌∷◌, ◌++◌}
use native.Mathlib.Omega.{arith}
use lib.Dec.{ltb, leb}
use lib.ListN.{length}
use Rattle.file_format.specs.Accepted.{Program}
use Rattle.file_verdict.specs.declared.refusal.Refusal.{Refusal}
use Rattle.file_verdict.specs.Verdict.{Verdict, refused, accepted, verdict}
use Rattle.std.specs.Prelude.{Option, Some, None, is_some}
use Rattle.std.proofs.lemmas.Option.{none-some}
use Rattle.file_verdict.specs.declared.refusal.Refusal.TheVariants.{IllegalMove}
use Rattle.machine_spec.specs.Schedule.{Move, limit, legal}
use Rattle.machine_spec.specs.Run.{run_by}
use Rattle.machine_spec.specs.declared.Machine.{Machine}
use Rattle.machine_start.proofs.Laws.Files.{ran_number}
use Rattle.machine_course.specs.Stands.{answer_by}

-- whether one move is legal
abbrev pub allowed : ℕ → ℕ → Move → Bool
allowed n k mv = ltb mv.lane n && leb mv.choice k

pub legal_snoc : (n k : ℕ) (mvs : List Move) (mv : Move)
    → legal n k (mvs ++ (mv ∷ [])) ≡ (legal n k mvs && allowed n k mv)
legal_snoc n k [] mv = and-true (allowed n k mv)
legal_snoc n k (x ∷ mvs) mv = go (allowed n k x) (legal_snoc n k mvs mv)
  where
    go : (b : Bool) → legal n k (mvs ++ (mv ∷ [])) ≡ (legal n k mvs && allowed n k mv)
        → (b && legal n k (mvs ++ (mv ∷ []))) ≡ ((b && legal n k mvs) && allowed n k mv)
    go true e = e
    go false e = refl

-- whether there is a refusal, by the code's test
none_is : (o : Option Refusal) → is_some o ≡ false → o ≡ None
none_is None e = refl
none_is (Some r) e = absurd cc

some_is : (o : Option Refusal) → is_some o ≡ true → o ≡ None → ⊥
some_is None e z = absurd cc
some_is (Some r) e z = none-some r (sym z)

pub none_by : {o : Option Refusal} {b : Bool} → b ≡ is_some o → b ≡ false → o ≡ None
none_by {o} is e = none_is o (sym is ∙ e)

pub some_by : {o : Option Refusal} {b : Bool} → b ≡ is_some o → b ≡ true → o ≡ None → ⊥
some_by {o} is e = some_is o (sym is ∙ e)

module _ (m : Machine) (s : List ℕ) (mvs : List Move) where
  abbrev lets : Program → List Move → Bool
  lets k l = legal (length k.lanes) (limit m) l

  -- an accepted file and a legal schedule
  pub record Under : Type 0 where
    pub kernel : Program
    pub accepts : verdict s ≡ accepted kernel
    pub legals : lets kernel mvs ≡ true

  pub under : (answer_by m s mvs).refusal ≡ None → Under
  under e = go (verdict s) refl
    where
      go : (v : Verdict) → verdict s ≡ v → Under
      go (refused r) h = absurd (none-some r (sym e ∙ ap (λ v. (run_by m s v mvs).refusal) h))
      go (accepted k) h = which (lets k mvs) refl
        where
          which : (b : Bool) → lets k mvs ≡ b → Under
          which true l = record { kernel = k; accepts = h; legals = l }
          which false l = absurd (none-some IllegalMove (sym e ∙ ap (λ v. (run_by m s v mvs).refusal) h ∙ rw l refl))

  -- an answer that is a refusal is that of every longer schedule
  pub stays_refused : (mv : Move) → ((answer_by m s mvs).refusal ≡ None → ⊥)
      → answer_by m s mvs ≡ answer_by m s (mvs ++ (mv ∷ []))
  stays_refused mv never = go (verdict s) refl
    where
      go : (v : Verdict) → verdict s ≡ v → answer_by m s mvs ≡ answer_by m s (mvs ++ (mv ∷ []))
      go (refused r) h =
          ap (λ v. run_by m s v mvs) h ∙ sym (ap (λ v. run_by m s v (mvs ++ (mv ∷ []))) h)
      go (accepted k) h = which (lets k mvs) refl
        where
          which : (b : Bool) → lets k mvs ≡ b → answer_by m s mvs ≡ answer_by m s (mvs ++ (mv ∷ []))
          which true l =
              absurd (never (ap (λ v. (run_by m s v mvs).refusal) h ∙ ran_number s k h m mvs l))
          which false l =
              let more : lets k (mvs ++ (mv ∷ [])) ≡ false =
              legal_snoc (length k.lanes) (limit m) mvs mv
              ∙ ap (λ b. b && allowed (length k.lanes) (limit m) mv) l in
              ap (λ v. run_by m s v mvs) h ∙ rw (l, more) refl
              ∙ sym (ap (λ v. run_by m s v (mvs ++ (mv ∷ []))) h)
