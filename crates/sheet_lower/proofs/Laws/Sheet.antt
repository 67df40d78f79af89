-- Laws of the sheet of an accepted file at a level, from the rows of its chains and its lanes' plans: how many bytes it
-- takes, and header and lanes together.
use Prim.Native.Nat.{ℕ, ◌+◌, ◌*◌, ◌≤◌, ◌<◌}
use mathlib.Core.Path.{◌≡◌, refl, ap, subst, ◌∙◌}
use mathlib.Core.List.{List, [], ◌∷◌, ◌++◌}
use native.Mathlib.Omega.{arith}
use lib.ListN.{length, get_or, drop, length-append}
use lib.Seq.{sets}
use Rattle.laws.proofs.Numbers.{below_four}
use Rattle.file_format.specs.Fields.{record_count, lane_count, locations, locks, mask, head}
use Rattle.file_format.specs.Accepted.{is_volatile, ops_at, program_of}
use Rattle.file_verdict.specs.Verdict.{verdict, accepted}
use Rattle.sheet_format.specs.declared.Level.{Level}
use Rattle.sheet_format.specs.declared.Level.TheVariants.{Level0}
use Rattle.sheet_format.specs.Layout.{Instr, sheet}
use Rattle.sheet_format.specs.Levels.{placed}
use Rattle.sheet_format.specs.Bytes.{word_bytes, lane_bytes, level_number, mask_at, sheet_bytes, write_into}
use Rattle.sheet_format.specs.Items.{TargetsWithin}
use Rattle.sheet_format.specs.Put.{laid, in_turn}
use Rattle.sheet_format.proofs.Level0.{ops_within}
use Rattle.sheet_format.proofs.Laws.Loaded.{header_by_lem, body_by, sizes_by, put_by}
use Rattle.sheet_rows.specs.Lanes.{Holds}
use Rattle.file_rows.proofs.Laws.Holds.{many, before, many_small, part_from, part_count, accepted_parts_hold}
use Rattle.file_rows.proofs.Laws.Whole.{chains_size}
use Rattle.barrier_pass.specs.Plan.{begin_in}
use Rattle.sheet_lanes.specs.Rows.{Short, lane_in, count_in, plan_from, plan_in, Planned, PlansTo, SingleIn, lane_text}
use Rattle.sheet_lanes.proofs.Laws.Lane.{lane_held, lane_counted, lane_single}
use Rattle.sheet_lower.specs.Sheet.{sheet_of}
use Rattle.sheet_lower.specs.Chained.{ChainsOf}

module _ (s : List ℕ) (ok : verdict s ≡ accepted (program_of s)) where
  module _ {rows : List ℕ} (chains : ChainsOf s rows) where
    held : (t : ℕ) → t < 4 → Holds (lane_in rows t) (count_in rows t) (ops_at s (head s t))
    held = accepted_parts_hold s ok rows chains.own chains.front

    rows_long : length (sheet_bytes Level0 (program_of s)) ≤ length rows
    rows_long =
        let bytes = sheet_bytes Level0 (program_of s) in
        omega (
          arith,
          chains.room,
          ap length chains.front,
          length-append bytes (drop (length bytes) chains.own),
        )

    count_is : (t : ℕ) → t < 4 → count_in rows t ≡ many s t
    count_is = part_count s (header_by_lem s ok) rows chains.own chains.front

    all_counted : 16 + 8 * (many s 0 + (many s 1 + (many s 2 + many s 3)))
        ≡ length (sheet_bytes Level0 (program_of s))
    all_counted = chains_size s (header_by_lem s ok) refl refl refl refl

    -- each lane ends where the next begins, and the last at the end of the chains
    lanes_end : (t : ℕ) → t < 4 → 16 + 8 * (before s t + many s t) ≤ length (sheet_bytes Level0 (program_of s))
    lanes_end =
        below_four (λ t. 16 + 8 * (before s t + many s t) ≤ length (sheet_bytes Level0 (program_of s)))
        (omega (arith, all_counted)) (omega (arith, all_counted)) (omega (arith, all_counted))
        (omega (arith, all_counted))

    pub chains_short : Short rows
    chains_short = record {
      few = λ t h. omega (arith, (held t h).count, many_small s t);
      inside = λ t h.
          omega (
            arith,
            part_from s (header_by_lem s ok) rows chains.own chains.front t h,
            count_is t h,
            lanes_end t h,
            rows_long,
          );
    }

    -- the plans of the lanes take a number for each record, and one for each end
    pub plans_size : plan_from rows 4 ≡ record_count s + 4
    plans_size =
        omega (
          arith,
          all_counted,
          chains.counted,
          count_is 0 (omega arith),
          count_is 1 (omega arith),
          count_is 2 (omega arith),
          count_is 3 (omega arith),
        )

    module _ {m : ℕ} (em : m ≡ mask s) {plan ends : List ℕ} (plans : PlansTo rows m plan ends 4) where
      planned : (t : ℕ) → t < 4 → Planned (is_volatile (mask s)) (ops_at s (head s t)) (plan_in rows plan t)
      planned t h =
          subst (λ n. Planned (is_volatile n) (ops_at s (head s t)) (plan_in rows plan t)) em
          (plans.planned t h (ops_at s (head s t)) (held t h))

      within : (t : ℕ) → t < 4 → TargetsWithin (count_in rows t) (ops_at s (head s t))
      within t h =
          subst (λ n. TargetsWithin n (ops_at s (head s t))) (held t h).count (ops_within s (head s t))

      pub plans_single : SingleIn rows plan
      plans_single t h p l =
          lane_single (is_volatile (mask s)) (ops_at s (head s t)) (plan_in rows plan t) (planned t h) p
          (omega (arith, (held t h).count))

      module _ (l : Level) where
        abbrev instrs : ℕ → List Instr
        instrs t = sheet (placed l (is_volatile (mask s)) (ops_at s (head s t)))

        abbrev texts : ℕ → List ℕ
        texts = lane_text l rows plan

        text_at : (t : ℕ) → t < 4 → texts t ≡ lane_bytes l (instrs t)
        text_at t h =
            lane_held l (is_volatile (mask s)) (held t h) (chains_short.few t h) (within t h) (plan_in rows plan t)
            (planned t h)

        size_at : (t : ℕ) → t < 4 → {n : ℕ} → n ≡ begin_in l (get_or ends t 0) (count_in rows t)
            → n ≡ length (instrs t)
        size_at t h e =
            e ∙ ap (λ x. begin_in l x (count_in rows t)) (plans.ended t h)
            ∙ lane_counted l (is_volatile (mask s)) (held t h) (chains_short.few t h) (within t h)
            (plan_in rows plan t) (planned t h)

        -- the sizes of the lanes, read from their ends
        module _
            {a b c d : ℕ} (ea : a ≡ begin_in l (get_or ends 0 0) (count_in rows 0))
            (eb : b ≡ begin_in l (get_or ends 1 0) (count_in rows 1))
            (ec : c ≡ begin_in l (get_or ends 2 0) (count_in rows 2))
            (ed : d ≡ begin_in l (get_or ends 3 0) (count_in rows 3))
          where
            na : a ≡ length (instrs 0)
            na = size_at 0 (omega arith) ea

            nb : b ≡ length (instrs 1)
            nb = size_at 1 (omega arith) eb

            nc : c ≡ length (instrs 2)
            nc = size_at 2 (omega arith) ec

            nd : d ≡ length (instrs 3)
            nd = size_at 3 (omega arith) ed

            pub size_by : 16 + 8 * (a + (b + (c + d))) ≡ length (sheet_of l s)
            size_by = sizes_by s (header_by_lem s ok) l texts text_at na nb nc nd

            pub room_by : 16 + length (in_turn texts 4) ≡ length (sheet_of l s)
            room_by = body_by s (header_by_lem s ok) l texts text_at na nb nc nd

            pub sheet_put : {n ls ks level m' : ℕ} → n ≡ lane_count s → ls ≡ locations s → ks ≡ locks s
                → level ≡ level_number l → m' ≡ mask_at l (program_of s) → {l₁ l₂ l₃ : List ℕ} (buffer : List ℕ)
                → length (sheet_of l s) ≤ length buffer
                → l₁ ≡ laid buffer 0 (n ∷ ls ∷ ks ∷ level ∷ word_bytes m' ++ 0 ∷ 0 ∷ [])
                → l₂ ≡ laid l₁ 8 (word_bytes a ++ (word_bytes b ++ (word_bytes c ++ (word_bytes d ++ []))))
                → l₃ ≡ sets l₂ 16 (in_turn texts 4) → l₃ ≡ (write_into (sheet_of l s) buffer).1
            sheet_put {n} {ls} {ks} {level} {m'} en els eks el em' {l₁} {l₂} {l₃} buffer room e₁ e₂ e₃ =
                put_by s (header_by_lem s ok) l texts text_at na nb nc nd en els eks em' buffer room
                (e₁ ∙ ap (λ x. laid buffer 0 (n ∷ ls ∷ ks ∷ x ∷ word_bytes m' ++ 0 ∷ 0 ∷ [])) el) e₂ e₃
