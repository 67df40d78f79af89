-- Laws of the start of a run: what the rows' header says of the kernel, and the zeros that hold its start.
use Prim.Native.Nat.{ℕ, zero, suc, ◌^◌, ◌≤◌, ◌<◌}
use mathlib.Core.Path.{◌≡◌, refl, sym, ap, subst, ◌∙◌}
use mathlib.Core.Bool.{Bool}
use mathlib.Core.List.{List, [], ◌∷◌}
use native.Mathlib.Omega.{arith}
use lib.ListN.{length, get_or, drop, replicate}
use lib.Pow.{pow_mono}
use Rattle.laws.proofs.Parts.{take_replicate}
use Rattle.file_format.specs.Accepted.{Program, is_volatile}
use Rattle.file_format.specs.Lawful.{Lawful}
use Rattle.file_wellformed.proofs.Lawful.{accepted_lawful}
use Rattle.machine_spec.specs.State.{start_state}
use Rattle.machine_spec.specs.Run.{program_for, level_of}
use Rattle.machine_spec.specs.Moves.{moves_in}
use Rattle.sheet_rows.specs.declared.parts.Parts.{Parts}
use Rattle.sheet_rows.specs.Rows.{parts_in}
use Rattle.machine_spec.specs.declared.Machine.{Machine}
use Rattle.machine_lane.specs.Lanes.{start_lane}
use Rattle.machine_state.specs.States.{Blocks, state_in, Block, Sized}
use Rattle.machine_run.specs.Runs.{ProgramAt}
use Rattle.sheet_format.specs.Bytes.{sheet_bytes}
use Rattle.machine_start.specs.Setup.{ProgramIn, AtStart}
use Rattle.machine_start.proofs.Laws.Programs.{header_read, program_at}

-- ## zeros

-- n lanes of zeros, the first ls of 64 values in memory and the first ks of 64 lock words
abbrev pub counted : ℕ → ℕ → ℕ → List ℕ
counted n ls ks = n ∷ ls ∷ ks ∷ replicate 61 0

abbrev pub zeroed : ℕ → ℕ → ℕ → Blocks
zeroed n ls ks =
    let row : List ℕ = replicate 64 0 in
    let block : List (List ℕ) = row ∷ row ∷ row ∷ [] in
    block ∷ block ∷ block ∷ block ∷ (row ∷ row ∷ counted n ls ks ∷ []) ∷ []

pub zeroed_sized : (n ls ks : ℕ) → Sized (zeroed n ls ks)
zeroed_sized n ls ks = record { blocks = refl; each = each }
  where
    words : (j : ℕ) → j < 3 → length {A = ℕ} (get_or (replicate 3 (replicate 64 0)) j []) ≡ 64
    words zero h = refl
    words (suc zero) h = refl
    words (suc (suc zero)) h = refl
    words (suc (suc (suc j))) h = absurd (omega arith)

    shared : (j : ℕ) → j < 3 → length (get_or (replicate 64 0 ∷ replicate 64 0 ∷ counted n ls ks ∷ []) j []) ≡ 64
    shared zero h = refl
    shared (suc zero) h = refl
    shared (suc (suc zero)) h = refl
    shared (suc (suc (suc j))) h = absurd (omega arith)

    each : (t : ℕ) → t < 5 → Block (get_or (zeroed n ls ks) t [])
    each zero h = record { rows = refl; words = words }
    each (suc zero) h = record { rows = refl; words = words }
    each (suc (suc zero)) h = record { rows = refl; words = words }
    each (suc (suc (suc zero))) h = record { rows = refl; words = words }
    each (suc (suc (suc (suc zero)))) h = record { rows = refl; words = shared }
    each (suc (suc (suc (suc (suc t))))) h = absurd (omega arith)

pub zeroed_state : (n ls ks : ℕ) → n ≤ 4 → ls ≤ 64 → ks ≤ 64
    → state_in (zeroed n ls ks) ≡ start_state n (replicate ls 0) ks
zeroed_state n ls ks a b c =
    let lanes = take_replicate n 4 start_lane a in
    let memory = take_replicate {A = ℕ} ls 64 0 b in
    let locks = take_replicate {A = ℕ} ks 64 0 c in
    λ i. record { lanes = lanes i; memory = memory i; locks = locks i }

-- ## what is read of the rows
module _ {m : Machine} {mask : ℕ} {rows moves s : List ℕ} {k : Program} (p : ProgramIn m mask rows moves s k) where
  law : Lawful k
  law = accepted_lawful s k p.schedule.accepts

  pub mask_small : mask < 65536
  mask_small =
      let wide : 2 ^ k.locations ≤ 2 ^ 16 = pow_mono law.few_locations in
      omega (arith, p.masked, law.small_mask)

  header : (get_or rows 0 0 ≡ length k.lanes) × (get_or rows 1 0 ≡ k.locations) × (get_or rows 2 0 ≡ k.locks)
  header =
      subst (λ b. (get_or b 0 0 ≡ length k.lanes) × (get_or b 1 0 ≡ k.locations) × (get_or b 2 0 ≡ k.locks))
      (sym p.front) (header_read k m (drop (length (sheet_bytes (level_of m) k)) p.own))

  -- the program of lane t lies in the part of the bytes b that q says
  abbrev Lies : List ℕ → Parts → ℕ → Type 0
  Lies b q t = ProgramAt b (get_or q.from t 0) (get_or q.count t 0) (get_or (program_for m k) t [])

  programs : (q : Parts) → q ≡ parts_in rows → (t : ℕ) → t < length k.lanes → Lies rows q t
  programs q e t h =
      subst (λ x. Lies rows x t) (sym e)
      (subst (λ b. Lies b (parts_in b) t) (sym p.front) (program_at k law m p.own p.room t h))

  pub begins_zeroed : {vol : ℕ → Bool} {q : Parts} {n ls ks : ℕ} → vol ≡ is_volatile mask → q ≡ parts_in rows
      → n ≡ get_or rows 0 0 → ls ≡ get_or rows 1 0 → ks ≡ get_or rows 2 0
      → AtStart m vol rows q.from q.count (moves_in moves) (zeroed n ls ks) s k
  begins_zeroed {vol} {q} {n} {ls} {ks} ve qe ne le ke =
      let lanes : n ≡ length k.lanes = ne ∙ header.0 in
      let small = zeroed_state (length k.lanes) k.locations k.locks law.few_lanes
      (omega (arith, law.few_locations)) (omega (arith, law.few_locks)) in
      record {
        schedule = p.schedule;
        volatile = ve ∙ ap is_volatile p.masked;
        lanes = lanes;
        sized = zeroed_sized n ls ks;
        start = rw (lanes, le ∙ header.1, ke ∙ header.2) small;
        programs = programs q qe;
      }
