-- Laws of the chains of a file with a valid header: how many bytes they take, and header and lanes together.
use Prim.Native.Nat.{ℕ, ◌+◌, ◌*◌, ◌≤◌, ◌<◌}
use mathlib.Core.Path.{◌≡◌, sym, ap, ◌∙◌}
use mathlib.Core.Bool.{true}
use mathlib.Core.List.{List, [], ◌∷◌, ◌++◌}
use native.Mathlib.Omega.{arith}
use lib.ListN.{length, get_or, length-map}
use lib.Seq.{sets}
use Rattle.file_format.specs.Fields.{lane_count, locations, locks, mask, record_count, head}
use Rattle.file_format.specs.Rules.{header_rule}
use Rattle.file_format.specs.Structured.{Structured}
use Rattle.file_format.specs.Accepted.{program_of, is_volatile, ops_at}
use Rattle.sheet_format.specs.Layout.{op}
use Rattle.sheet_format.specs.declared.Level.TheVariants.{Level0}
use Rattle.sheet_format.specs.Bytes.{word_bytes, lane_bytes, over, sheet_bytes}
use Rattle.sheet_format.specs.Put.{laid, in_turn}
use Rattle.sheet_format.proofs.Level0.{lane0, ops_within}
use Rattle.sheet_format.proofs.Laws.Loaded.{instrs_at, sizes_by, put_by}
use Rattle.sheet_format.proofs.Laws.Written.{written_all}
use Rattle.file_chains.specs.Ordered.{count_of, Ordered}
use Rattle.file_rows.specs.Chains.{chain_at}
use Rattle.file_rows.proofs.Laws.Records.{lane_count_is}

module _
    (s : List ℕ) (header : header_rule s ≡ true) {a b c d : ℕ} (ea : a ≡ length (ops_at s (head s 0)))
    (eb : b ≡ length (ops_at s (head s 1))) (ec : c ≡ length (ops_at s (head s 2)))
    (ed : d ≡ length (ops_at s (head s 3)))
  where
    same : (t : ℕ) → t < 4 → chain_at s t ≡ lane_bytes Level0 (instrs_at s header Level0 t)
    same t h =
        sym (ap (lane_bytes Level0) (lane0 (is_volatile (mask s)) (ops_at s (head s t)) (ops_within s (head s t))))

    rows_at : {n : ℕ} (t : ℕ) → n ≡ length (ops_at s (head s t)) → n ≡ length (instrs_at s header Level0 t)
    rows_at t e =
        e ∙ sym (ap length (lane0 (is_volatile (mask s)) (ops_at s (head s t)) (ops_within s (head s t)))
        ∙ length-map (ops_at s (head s t)) op)

    pub chains_size : 16 + 8 * (a + (b + (c + d))) ≡ length (sheet_bytes Level0 (program_of s))
    chains_size =
        sizes_by s header Level0 (chain_at s) same (rows_at 0 ea) (rows_at 1 eb) (rows_at 2 ec) (rows_at 3 ed)

    chains_put : {n ls ks m : ℕ} → n ≡ lane_count s → ls ≡ locations s → ks ≡ locks s → m ≡ mask s
        → {l₁ l₂ l₃ : List ℕ} (buffer : List ℕ) → length (sheet_bytes Level0 (program_of s)) ≤ length buffer
        → l₁ ≡ laid buffer 0 (n ∷ ls ∷ ks ∷ 0 ∷ word_bytes m ++ 0 ∷ 0 ∷ [])
        → l₂ ≡ laid l₁ 8 (word_bytes a ++ (word_bytes b ++ (word_bytes c ++ (word_bytes d ++ []))))
        → l₃ ≡ sets l₂ 16 (in_turn (chain_at s) 4)
        → l₃ ≡ over (sheet_bytes Level0 (program_of s)) buffer
    chains_put en els eks em buffer room e₁ e₂ e₃ =
        put_by s header Level0 (chain_at s) same (rows_at 0 ea) (rows_at 1 eb) (rows_at 2 ec) (rows_at 3 ed) en els eks
        em buffer room e₁ e₂ e₃
        ∙ ap (λ x. x.1) (written_all (sheet_bytes Level0 (program_of s)) buffer room)

-- of a structured file
module _ {s order place ends : List ℕ} (st : Structured s) (o : Ordered s order place ends) where
  first_is : get_or ends 0 0 ≡ length (ops_at s (head s 0))
  first_is = omega (arith, lane_count_is st o 0 (omega arith))

  -- one row for each record
  pub chains_counted : length (sheet_bytes Level0 (program_of s)) ≡ 16 + 8 * record_count s
  chains_counted =
      omega (
        arith,
        chains_size s st.fields.header first_is (lane_count_is st o 1 (omega arith))
            (lane_count_is st o 2 (omega arith)) (lane_count_is st o 3 (omega arith)),
        o.rising 1 (omega arith),
        o.rising 2 (omega arith),
        o.rising 3 (omega arith),
        o.all,
      )

  -- the header with the counts of the lanes, and the lanes
  pub chains_from : {n ls ks m : ℕ} → n ≡ lane_count s → ls ≡ locations s → ks ≡ locks s → m ≡ mask s
      → {l₁ l₂ l₃ : List ℕ} (buffer : List ℕ) → 16 + 8 * record_count s ≤ length buffer
      → l₁ ≡ laid buffer 0 (n ∷ ls ∷ ks ∷ 0 ∷ word_bytes m ++ 0 ∷ 0 ∷ [])
      → l₂ ≡ laid l₁ 8 (word_bytes (get_or ends 0 0) ++ (word_bytes (count_of ends 1) ++ (word_bytes (count_of ends 2)
      ++ (word_bytes (count_of ends 3) ++ []))))
      → l₃ ≡ sets l₂ 16 (in_turn (chain_at s) 4)
      → l₃ ≡ over (sheet_bytes Level0 (program_of s)) buffer
  chains_from en els eks em buffer room =
      chains_put s st.fields.header first_is (lane_count_is st o 1 (omega arith))
      (lane_count_is st o 2 (omega arith)) (lane_count_is st o 3 (omega arith)) en els eks em buffer
      (omega (arith, chains_counted))
