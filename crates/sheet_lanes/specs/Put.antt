-- A lane's operations one after the other as the code writes them, from the lane's rows and its plan.
use Rattle.std.specs.Prelude.{ℕ, ◌+◌, ◌*◌, ◌/◌, ◌%◌, ◌^◌, ◌≤◌, ◌<◌, ◌≡◌, Bool, false, ◌&&◌, cond, List, [], ◌++◌, eqb}
use Rattle.std.specs.Prelude.{length, get_or, take, drop}
use Rattle.std.proofs.lemmas.List.Edits.{sets}
use Rattle.file_format.specs.Fields.{byte}
use Rattle.barrier_placement.specs.declared.cookbook.Barrier.TheVariants.{LL, LS, SS, SL}
use Rattle.barrier_placement.specs.Placed.{bit}
use Rattle.sheet_format.specs.declared.Level.{Level}
use Rattle.sheet_format.specs.Bytes.{quad_bytes, row, barrier_code}
use Rattle.sheet_format.specs.Put.{in_turn}
use Rattle.barrier_pass.specs.Plan.{kept_in, begin_in}

-- where operation p begins at a level, of its plan
abbrev pub beginning : Level → List ℕ → ℕ → ℕ
beginning l plan p = begin_in l (get_or plan p 0) p

-- the row of a barrier's code where the barrier stands
abbrev pub row_if : Bool → ℕ → List ℕ
row_if b code = cond b (row code 0 0 0) []

-- the rows of the barriers of a plan's set that a level keeps, with its codes: LL and LS, then SS and SL
abbrev pub load_rows : Level → ℕ → List ℕ
load_rows l x = row_if (kept_in l x LL) (barrier_code l LL) ++ row_if (kept_in l x LS) (barrier_code l LS)

abbrev pub store_rows : Level → ℕ → List ℕ
store_rows l x = row_if (kept_in l x SS) (barrier_code l SS) ++ row_if (kept_in l x SL) (barrier_code l SL)

abbrev pub barrier_rows : Level → ℕ → List ℕ
barrier_rows l x = load_rows l x ++ store_rows l x

-- the code of the SS or the SL of them, 0 where neither stands
abbrev pub store_code : Level → ℕ → ℕ
store_code l x = cond (kept_in l x SS) (barrier_code l SS) (cond (kept_in l x SL) (barrier_code l SL) 0)

-- these codes for each set of SS, SL and bit 4, a byte each
pub record CodesOf (l : Level) (codes : ℕ) : Type 0 where
  pub each : (y : ℕ) → y < 8 → codes / 2 ^ (8 * y) % 256 ≡ store_code l (4 * y)

-- of LL and LS at most one is in a set, and of SS and SL
abbrev pub Single : ℕ → Type 0
Single x = ((bit x 0 && bit x 1) ≡ false) × ((bit x 2 && bit x 3) ≡ false)

-- in the first n sets of a plan
abbrev pub SingleTo : List ℕ → ℕ → Type 0
SingleTo plan n = (p : ℕ) → p < n → Single (get_or plan p 0)

-- the row at the front; a SKIP's is aimed at where its target begins
unfoldable pub own_row : Level → List ℕ → List ℕ → List ℕ
own_row l plan s = cond (eqb (byte s 0) 7) (take 4 s ++ quad_bytes (beginning l plan (byte s 4))) (take 8 s)

-- row p behind the barriers that stand before it
abbrev pub step_rows : Level → List ℕ → List ℕ → ℕ → List ℕ
step_rows l plan rows p = barrier_rows l (get_or plan p 0) ++ own_row l plan (drop (8 * p) rows)

-- n rows
abbrev pub lane_rows : Level → List ℕ → List ℕ → ℕ → List ℕ
lane_rows l plan rows = in_turn (step_rows l plan rows)

-- `after` is `before` with x from `at` on; from `end` on, the position behind x, up to eight bytes do not count
pub record Begins (before : List ℕ) (at : ℕ) (x : List ℕ) (after : List ℕ) (end : ℕ) : Type 0 where
  pub rest : List ℕ
  pub short : length rest ≤ 8
  pub bytes : after ≡ sets (sets before at x) end rest
  pub behind : end ≡ at + length x
