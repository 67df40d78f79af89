-- Laws of a file: what a refusal answers; of a file with a valid header its lanes, and its header and lanes together.
use Prim.Native.Nat.{ℕ, ◌+◌, ◌*◌, ◌≤◌, ◌<◌}
use mathlib.Core.Path.{◌≡◌, refl, sym, ap, ◌∙◌}
use mathlib.Core.Bool.{true}
use mathlib.Core.List.{List, [], ◌∷◌, ◌++◌, map}
use native.Mathlib.Omega.{arith}
use lib.ListN.{length, get_or, length-map, get_or-map}
use lib.Seq.{sets}
use Rattle.file_format.specs.Fields.{lane_count, locations, locks, mask, head}
use Rattle.file_format.specs.Rules.{header_rule}
use Rattle.file_format.specs.Accepted.{Program, program_of, is_volatile, ops_at}
use Rattle.file_format.proofs.Laws.Lanes.{lane_ops}
use Rattle.file_format.proofs.Laws.Rules.{four_lanes_lem}
use Rattle.file_format.proofs.Laws.Stored.{lane_count_lem}
use Rattle.file_verdict.specs.Verdict.{verdict, accepted, refusal_of}
use Rattle.file_verdict.proofs.Laws.Verdict.{sound, accepted_as}
use Rattle.std.specs.Prelude.{Ok, Err}
use Rattle.file_verdict.specs.declared.refusal.Refusal.{Refusal}
use Rattle.sheet_format.specs.declared.Level.{Level}
use Rattle.sheet_format.specs.Layout.{Instr, sheet}
use Rattle.sheet_format.specs.Levels.{placed, placed_lanes, sheet_lanes}
use Rattle.sheet_format.specs.Bytes.{word_bytes, joined, lane_bytes, level_number, mask_at, sheet_bytes}
use Rattle.sheet_format.specs.Bytes.{write_into, answer_by}
use Rattle.sheet_format.specs.Put.{laid, in_turn}
use Rattle.sheet_format.proofs.Laws.Put.{whole_put}
use Rattle.sheet_format.proofs.Laws.Rows.{lane_bytes_lem}
use Rattle.sheet_format.proofs.Laws.Turn.{turn_same, turn_all, turn_four}

module _ (s : List ℕ) where
  pub refused_by : {r : Refusal} (bytes : Program → List ℕ) (buffer : List ℕ) → refusal_of s ≡ Err r
      → answer_by bytes (verdict s) buffer ≡ (Err r, buffer)
  refused_by bytes buffer h = rw h

  pub accepted_by : refusal_of s ≡ Ok tt → verdict s ≡ accepted (program_of s)
  accepted_by h = rw h

module _ (s : List ℕ) (ok : verdict s ≡ accepted (program_of s)) where
  pub answered_by : (bytes : Program → List ℕ) (buffer : List ℕ)
      → write_into (bytes (program_of s)) buffer ≡ answer_by bytes (verdict s) buffer
  answered_by bytes buffer = ap (λ v. answer_by bytes v buffer) (sym ok)

  pub header_by_lem : header_rule s ≡ true
  header_by_lem = (sound s (accepted_as s (program_of s) ok).0).0.fields.header

module _ (s : List ℕ) (header : header_rule s ≡ true) where
  -- lane t is the chain from its head
  ops_by : (t : ℕ) → t < 4 → ops_at s (head s t) ≡ get_or (program_of s).lanes t []
  ops_by t h = sym (lane_ops s header t h)

  count_by : lane_count s ≡ length (program_of s).lanes
  count_by = sym (lane_count_lem s (four_lanes_lem s header))

  few_by : length (program_of s).lanes ≤ 4
  few_by = omega (arith, count_by, four_lanes_lem s header)

  -- at a level
  module _ (l : Level) where
    abbrev lanes : List (List Instr)
    lanes = sheet_lanes l (program_of s)

    -- the instructions of lane t
    abbrev pub instrs_at : ℕ → List Instr
    instrs_at t = sheet (placed l (is_volatile (mask s)) (ops_at s (head s t)))

    lane_at_lem : (t : ℕ) → t < 4 → instrs_at t ≡ get_or lanes t []
    lane_at_lem t h =
        ap (λ ops. sheet (placed l (is_volatile (mask s)) ops)) (ops_by t h)
        ∙ sym (get_or-map sheet (placed_lanes l (program_of s)) t []
        ∙ ap sheet (get_or-map (placed l (is_volatile (mask s))) (program_of s).lanes t []))

    -- header and lanes, of which text t is lane t
    module _
        (text : ℕ → List ℕ) (same : (t : ℕ) → t < 4 → text t ≡ lane_bytes l (instrs_at t)) {a b c d : ℕ}
        (ea : a ≡ length (instrs_at 0)) (eb : b ≡ length (instrs_at 1)) (ec : c ≡ length (instrs_at 2))
        (ed : d ≡ length (instrs_at 3))
      where
        lanes_by : in_turn text 4 ≡ joined (map (lane_bytes l) lanes)
        lanes_by =
            let few : length lanes ≤ 4 =
            omega (
              arith,
              few_by,
              length-map (placed_lanes l (program_of s)) sheet,
              length-map (program_of s).lanes (placed l (is_volatile (mask s))),
            ) in
            turn_same text (λ t. lane_bytes l (get_or lanes t [])) 4
            (λ t h. same t h ∙ ap (lane_bytes l) (lane_at_lem t h))
            ∙ turn_all (lane_bytes l) [] refl lanes 4 few

        size_at : {n : ℕ} (t : ℕ) → t < 4 → n ≡ length (instrs_at t) → n ≡ length (get_or lanes t [])
        size_at t h e = e ∙ ap length (lane_at_lem t h)

        parts_by : {n ls ks m : ℕ} → n ≡ lane_count s → ls ≡ locations s → ks ≡ locks s → m ≡ mask_at l (program_of s)
            → (n ∷ ls ∷ ks ∷ level_number l ∷ word_bytes m ++ 0 ∷ 0 ∷ [])
            ++ (word_bytes a ++ (word_bytes b ++ (word_bytes c ++ (word_bytes d ++ []))))
            ++ in_turn text 4
            ≡ sheet_bytes l (program_of s)
        unfolding sheet_bytes
        parts_by en els eks em =
            let nn = en ∙ count_by in
            let na = size_at 0 (omega arith) ea in
            let nb = size_at 1 (omega arith) eb in
            let nc = size_at 2 (omega arith) ec in
            let nd = size_at 3 (omega arith) ed in
            λ i. (nn i ∷ els i ∷ eks i ∷ level_number l ∷ word_bytes (em i) ++ 0 ∷ 0 ∷ [])
            ++ (word_bytes (na i) ++ (word_bytes (nb i) ++ (word_bytes (nc i) ++ (word_bytes (nd i) ++ []))))
            ++ lanes_by i

        pub body_by : 16 + length (in_turn text 4) ≡ length (sheet_bytes l (program_of s))
        body_by = omega (arith, ap length (parts_by refl refl refl refl))

        pub sizes_by : 16 + 8 * (a + (b + (c + d))) ≡ length (sheet_bytes l (program_of s))
        sizes_by =
            omega (
              arith,
              body_by,
              turn_four text,
              bytes_at 0 (omega arith),
              bytes_at 1 (omega arith),
              bytes_at 2 (omega arith),
              bytes_at 3 (omega arith),
            )
          where
            bytes_at : (t : ℕ) → t < 4 → length (text t) ≡ 8 * length (instrs_at t)
            bytes_at t h = ap length (same t h) ∙ lane_bytes_lem l (instrs_at t)

        -- the halves of the header and the lanes, put one after the other
        pub put_by : {n ls ks m : ℕ} → n ≡ lane_count s → ls ≡ locations s → ks ≡ locks s
            → m ≡ mask_at l (program_of s) → {l₁ l₂ l₃ : List ℕ} (buffer : List ℕ)
            → length (sheet_bytes l (program_of s)) ≤ length buffer
            → l₁ ≡ laid buffer 0 (n ∷ ls ∷ ks ∷ level_number l ∷ word_bytes m ++ 0 ∷ 0 ∷ [])
            → l₂ ≡ laid l₁ 8 (word_bytes a ++ (word_bytes b ++ (word_bytes c ++ (word_bytes d ++ []))))
            → l₃ ≡ sets l₂ 16 (in_turn text 4)
            → l₃ ≡ (write_into (sheet_bytes l (program_of s)) buffer).1
        put_by {n} {ls} {ks} {m} en els eks em buffer room =
            whole_put buffer (n ∷ ls ∷ ks ∷ level_number l ∷ word_bytes m ++ 0 ∷ 0 ∷ [])
            (word_bytes a ++ (word_bytes b ++ (word_bytes c ++ (word_bytes d ++ [])))) (in_turn text 4)
            (sheet_bytes l (program_of s)) refl refl (parts_by en els eks em) room
