-- Laws of what the pages are laid from: row i of the sheet has line i, and each operation takes the next record.
use Prim.Native.Nat.{ℕ, zero, suc, ◌+◌, ◌*◌, ◌≤◌, ◌<◌}
use mathlib.Core.Path.{◌≡◌, refl, sym, ap, ap₂, ◌∙◌}
use mathlib.Core.List.{List, [], ◌∷◌, ◌++◌}
use mathlib.Core.Option.{some}
use native.Mathlib.Omega.{arith}
use native.Mathlib.Numerals.{add-one}
use lib.ListN.{length, get_or, get_elem?, take, drop}
use lib.Seq.{drop-drop}
use Rattle.laws.proofs.Lists.{some_at}
use Rattle.file_format.specs.Accepted.{Program}
use Rattle.barrier_placement.specs.declared.cookbook.Barrier.{Barrier}
use Rattle.sheet_format.specs.Layout.{Instr, op, barrier, rank}
use Rattle.sheet_format.specs.declared.Level.TheVariants.{Level2}
use Rattle.sheet_format.specs.Levels.{sheet_lanes}
use Rattle.sheet_format.specs.Bytes.{sheet_bytes}
use Rattle.sheet_format.specs.Put.{Puts}
use Rattle.sheet_format.specs.Read.{read_instr, read_rows, past_rows, read_lanes, counts, read_sheet}
use Rattle.sheet_format.proofs.Laws.Put.{puts_as, puts_on}
use Rattle.sheet_format.proofs.Laws.Rows.{total, total_four}
use Rattle.sheet_format.proofs.ReadBack.{lawful_back}
use Rattle.sheet_format.proofs.Sizes.{sheet_size}
use Rattle.file_accept.specs.Order.{lane_order}
use Rattle.sheet_rows.specs.Rows.{parts_in}
use Rattle.sheet_rows.proofs.Laws.Parts.{before, begins, lane_rows_lem}
use Rattle.sheet_rows.proofs.Laws.Read.{rows_length, row_from, row_of}
use Rattle.text_page.specs.Lines.{takes, instruction_line, page_lines}
use Rattle.text_page.specs.Given.{RowAt, headed, paged, Given}
use Rattle.text_page.proofs.Laws.Pages.{paged_next}
use Rattle.text_page.proofs.Laws.Lines.{lines_length, lines_few, line_of}
use Rattle.text_page.proofs.Laws.Ranks.{rank_on, lane_records, lanes_count, together, order_at}

-- ## rows

-- one operation more, or a barrier
pub rank_next : (n i : ℕ) (b : List ℕ) → i < n
    → rank (read_rows n b) (i + 1) ≡ rank (read_rows n b) i + takes (read_instr (drop (8 * i) b))
rank_next n i b h =
    ap (rank (read_rows n b)) (add-one i) ∙ rank_on (read_rows n b) i (read_instr (drop (8 * i) b)) (row_of n b i h)

-- MFENCE comes from no record
record_none : (t p : ℕ) (b : Barrier) (r s : ℕ)
    → instruction_line t p (barrier b) r ≡ instruction_line t p (barrier b) s
unfolding instruction_line
record_none t p b r s = refl

-- ## the lanes one behind the other

rows_more : (m n : ℕ) (b : List ℕ) → read_rows (m + n) b ≡ read_rows m b ++ read_rows n (past_rows m b)
rows_more zero n b = let e : 0 + n ≡ n = omega arith in ap (λ k. read_rows k b) e
rows_more (suc m) n b =
    let e : suc m + n ≡ suc (m + n) = omega arith in
    ap (λ k. read_rows k b) e ∙ ap (λ x. read_instr b ∷ x) (rows_more m n (drop 8 b))

rows_together : (ns b : List ℕ) → read_rows (total (read_lanes ns b)) b ≡ together (read_lanes ns b)
rows_together [] b = refl
rows_together (n ∷ ns) b =
    let rest : List (List Instr) = read_lanes ns (past_rows n b) in
    ap (λ m. read_rows (m + total rest) b) (rows_length n b) ∙ rows_more n (total rest) b
    ∙ ap (λ x. read_rows n b ++ x) (rows_together ns (past_rows n b))

before_total : (ns b : List ℕ) (t : ℕ) → before ns t ≡ total (take t (read_lanes ns b))
before_total ns b zero = refl
before_total [] b (suc t) = refl
before_total (n ∷ ns) b (suc t) = omega (arith, rows_length n b, before_total ns (past_rows n b) t)

-- ## of what the page writer is given
module _ {k : Program} {sheet order : List ℕ} {n : ℕ} (g : Given k sheet order n) where
  lanes_given : read_sheet sheet ≡ sheet_lanes Level2 k
  lanes_given = ap read_sheet g.front ∙ lawful_back Level2 k g.behind g.lawful

  total_given : n ≡ total (sheet_lanes Level2 k)
  total_given = g.counted ∙ lines_length k

  pub few_given : n ≤ 512
  few_given = omega (arith, g.counted, lines_few k g.lawful)

  pub size_given : length (sheet_bytes Level2 k) ≡ 16 + 8 * n
  size_given = omega (arith, sheet_size Level2 k, total_given)

  -- a lane's rows
  count_given : (t : ℕ) → t < 4 → length (get_or (sheet_lanes Level2 k) t []) ≡ get_or (parts_in sheet).count t 0
  count_given t h =
      ap (λ xs. length (get_or xs t [])) (sym lanes_given) ∙ ap length (lane_rows_lem sheet t h)
      ∙ rows_length (get_or (parts_in sheet).count t 0) (drop (get_or (parts_in sheet).from t 0) sheet)

  -- as many rows as lines
  pub rows_given : get_or (parts_in sheet).from 3 0 + 8 * get_or (parts_in sheet).count 3 0 ≡ 16 + 8 * n
  rows_given =
      let lanes : List (List Instr) = sheet_lanes Level2 k in
      let few : length lanes ≤ 4 = omega (arith, g.lawful.few_lanes, lanes_count k) in
      omega (
        arith,
        total_given,
        total_four lanes few,
        count_given 0 (omega arith),
        count_given 1 (omega arith),
        count_given 2 (omega arith),
        count_given 3 (omega arith),
      )

  -- the rows of the sheet are the lanes one behind the other
  flat_given : read_rows n (drop 16 sheet) ≡ together (sheet_lanes Level2 k)
  unfolding read_sheet
  flat_given =
      ap (λ m. read_rows m (drop 16 sheet)) (total_given ∙ ap total (sym lanes_given))
      ∙ rows_together (counts sheet) (drop 16 sheet) ∙ ap together lanes_given

  -- the rows before those of lane t
  before_given : (t : ℕ) → before (counts sheet) t ≡ total (take t (sheet_lanes Level2 k))
  unfolding read_sheet
  before_given t = before_total (counts sheet) (drop 16 sheet) t ∙ ap (λ xs. total (take t xs)) lanes_given

  module _ {i t p : ℕ} (a : RowAt sheet i t p) where
    place_given : i ≡ total (take t (sheet_lanes Level2 k)) + p
    place_given = omega (arith, a.row, begins sheet t a.lane, before_given t)

    -- the instruction of row i
    instr_given : get_elem? (get_or (sheet_lanes Level2 k) t []) p ≡ some (read_instr (drop (16 + 8 * i) sheet))
    instr_given =
        let from : ℕ = get_or (parts_in sheet).from t 0 in
        let many : ℕ = get_or (parts_in sheet).count t 0 in
        ap (λ xs. get_elem? (get_or xs t []) p) (sym lanes_given)
        ∙ ap (λ is. get_elem? is p) (lane_rows_lem sheet t a.lane)
        ∙ row_from many from sheet p a.position
        ∙ ap (λ m. some (read_instr (drop m sheet))) a.row

    -- and its record
    record_given : (x : Instr) → get_elem? (get_or (sheet_lanes Level2 k) t []) p ≡ some x
        → instruction_line t p x (get_or (get_or k.records t []) (rank (get_or (sheet_lanes Level2 k) t []) p) 0)
        ≡ instruction_line t p x (get_or order (rank (read_rows n (drop 16 sheet)) i) 0)
    record_given (barrier b) e = record_none t p b _ _
    record_given (op o) e =
        let lanes : List (List Instr) = sheet_lanes Level2 k in
        let same = g.lawful.same_lanes ∙ sym (lanes_count k) in
        ap (instruction_line t p (op o))
        (sym (order_at lanes k.records g.others same (lane_records k g.lawful) t p o e)
        ∙ ap (λ q. get_or (lane_order k ++ g.others) (rank (together lanes) q) 0) (sym place_given)
        ∙ ap₂ (λ l is. get_or l (rank is i) 0) (sym g.ordered) (sym flat_given))

  -- row i has line i, with the record behind those of the operations before it
  pub line_given : (i t p : ℕ) → RowAt sheet i t p
      → get_or (page_lines k) i []
      ≡ instruction_line t p (read_instr (drop (16 + 8 * i) sheet))
      (get_or order (rank (read_rows n (drop 16 sheet)) i) 0)
  line_given i t p a =
      let x : Instr = read_instr (drop (16 + 8 * i) sheet) in
      let line = line_of k t p x (instr_given a) in
      ap (λ j. get_or (page_lines k) j []) (place_given a)
      ∙ (some_at (page_lines k) (total (take t (sheet_lanes Level2 k)) + p) _ [] line).1
      ∙ record_given a x (instr_given a)

  -- one line more, laid behind those before it
  pub laid_next : {i t p next r at end : ℕ} {x : Instr} {out₀ out out' : List ℕ} → i < n → RowAt sheet i t p
      → x ≡ read_instr (drop (16 + 8 * i) sheet) → next ≡ rank (read_rows n (drop 16 sheet)) i → r ≡ get_or order next 0
      → Puts out₀ 0 (paged 0 (take i (page_lines k))) out at
      → Puts out at (headed i (instruction_line t p x r)) out' end
      → Puts out₀ 0 (paged 0 (take (i + 1) (page_lines k))) out' end
  laid_next {i} {t} {p} h a read behind is so new =
      let rec = is ∙ ap (λ j. get_or order j 0) behind in
      let line = ap₂ (instruction_line t p) read rec ∙ sym (line_given i t p a) in
      puts_as (paged_next (page_lines k) i (omega (arith, g.counted))) (puts_on so (puts_as (ap (headed i) line) new))

-- the record behind those of one row more
pub record_next : (n i : ℕ) (sheet : List ℕ) {next : ℕ} {x : Instr} → i < n → x ≡ read_instr (drop (16 + 8 * i) sheet)
    → next ≡ rank (read_rows n (drop 16 sheet)) i → next + takes x ≡ rank (read_rows n (drop 16 sheet)) (i + 1)
record_next n i sheet h read behind =
    ap₂ (λ m (y : Instr). m + takes y) behind (read ∙ ap read_instr (sym (drop-drop (8 * i) 16 sheet)))
    ∙ sym (rank_next n i (drop 16 sheet) h)
