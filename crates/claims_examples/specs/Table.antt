-- The starred examples of paper 01 as one table over the bytes of kernel files, examples of paper 02, and behind them a
-- kernel of four lanes through every call. Its one theorem is proofs/Examples.
use Rattle.std.specs.Prelude.{ℕ, zero, suc, ◌+◌, ◌-◌, ◌/◌, ◌≡◌, Bool, true, false, ◌&&◌, List, [], ◌∷◌, ◌++◌, map, eqb}
use Rattle.std.specs.Prelude.{length, get_or, take, drop, replicate}
use Rattle.file_verdict.specs.Verdict.{verdict, number_of, record_of}
use Rattle.sheet_format.specs.declared.Level.{Level}
use Rattle.sheet_format.specs.declared.Level.TheVariants.{Level1, Level2, Level3}
use Rattle.std.specs.Prelude.{Ok, Err}
use Rattle.sheet_format.specs.Bytes.{WriteResult, lower_by}
use Rattle.text_listing.specs.Listing.{printed}
use Rattle.machine_spec.specs.declared.Machine.{Machine}
use Rattle.machine_spec.specs.declared.Machine.TheVariants.{Source, Target}
use Rattle.machine_spec.specs.declared.Model.TheVariants.{Tso, Pso}
use Rattle.machine_spec.specs.Schedule.{Move, move}
use Rattle.machine_spec.specs.Run.{Answer, number_in, run_by}
use Rattle.machine_record.specs.Record.{state_bytes}
use Rattle.claims_examples.specs.Kernels.{rec, rec_bytes, file_header, store_buffering, lane, skip_to, sets}
use Rattle.claims_examples.specs.Kernels.{PL, PS, VL, VS, LOCK, UNLOCK, nested, locking}
use Rattle.claims_examples.specs.FourLanes.{four_lanes, four_lanes1, four_lanes2, four_lanes_text, four_lanes_moves}
use Rattle.claims_examples.specs.FourLanes.{four_lanes_source, four_lanes_tso}
use Rattle.claims_examples.specs.FourLanesPso.{four_lanes3, four_lanes_pso}

pub data Example : Type 0 where
  -- lowering into so many bytes is refused, by number and record
  refused_by : Level → (kernel : List ℕ) → (room number named : ℕ) → Example
  -- lowering writes this sheet
  writes : Level → (kernel sheet : List ℕ) → Example
  -- the level 2 text of the kernel
  prints : (kernel text : List ℕ) → Example
  -- lowering writes these instructions
  shows : Level → (kernel : List ℕ) → List (ℕ × ℕ) → Example
  -- a sheet of so many bytes
  fills : Level → (kernel : List ℕ) → (size : ℕ) → Example
  -- the schedule is carried out and finishes, or does not, with these values of register 1, lane after lane
  ends : Machine → (kernel : List ℕ) → List Move → (finished : Bool) → List ℕ → Example
  -- the schedule leaves this state record
  leaves : Machine → (kernel : List ℕ) → List Move → (bytes : List ℕ) → Example
  -- no schedule finishes with register 1 zero in every lane
  never : Machine → (kernel : List ℕ) → Example

-- an output buffer of n bytes, none of them zero
abbrev output : ℕ → List ℕ
output n = replicate n 255

-- the instructions of a sheet that was written: operation, and the low byte of the constant or position
abbrev rows : ℕ → List ℕ → List (ℕ × ℕ)
rows zero b = []
rows (suc n) b = (get_or b 0 0, get_or b 4 0) ∷ rows n (drop 8 b)

abbrev instructions_in : WriteResult → List ℕ → List (ℕ × ℕ)
instructions_in (Ok n) b = rows ((n - 16) / 8) (drop 16 b)
instructions_in (Err r) b = []

abbrev instructions : WriteResult × List ℕ → List (ℕ × ℕ)
instructions r = instructions_in r.0 r.1

abbrev pub register1 : Answer → List ℕ
register1 a = map (λ l. get_or l.regs 1 0) a.state.lanes

abbrev pub all_zero : List ℕ → Bool
all_zero [] = true
all_zero (x ∷ xs) = eqb x 0 && all_zero xs

abbrev pub ends_all_zero : Answer → Bool
ends_all_zero a = a.finished && all_zero (register1 a)

-- the end of a run: its refusal or 0, whether it is finished, register 1 of each lane
pub record End : Type 0 where
  pub number : ℕ
  pub finished : Bool
  pub values : List ℕ

abbrev pub end_of : Answer → End
end_of a = record { number = number_in a.refusal; finished = a.finished; values = register1 a }

-- the number and the record of a refusal
abbrev numbers : WriteResult → List ℕ
numbers (Ok n) = []
numbers (Err r) = number_of r ∷ record_of r ∷ []

abbrev numbered : WriteResult × List ℕ → List ℕ × List ℕ
numbered a = (numbers a.0, a.1)

-- what an example says
abbrev pub Holds : Example → Type 0
Holds (refused_by l s n x r) = numbered (lower_by l (verdict s) (output n)) ≡ (x ∷ r ∷ [], output n)
Holds (writes l s b) = lower_by l (verdict s) (output (length b + 1)) ≡ (Ok (length b), b ++ 255 ∷ [])
Holds (prints s x) = printed s ≡ x
Holds (shows l s is) = instructions (lower_by l (verdict s) (output 100)) ≡ is
Holds (fills l s n) = (lower_by l (verdict s) (output n)).0 ≡ Ok n
Holds (ends m s mvs f rs) =
    end_of (run_by m s (verdict s) mvs) ≡ record { number = 0; finished = f; values = rs }
Holds (leaves m s mvs b) = state_bytes (run_by m s (verdict s) mvs) ≡ b
Holds (never m s) = (mvs : List Move) → ends_all_zero (run_by m s (verdict s) mvs) ≡ false

-- every row holds
infixr 20 ◌▸◌
pub data Each : List Example → Type 0 where
  end : Each []
  ◌▸◌ : {e : Example} {es : List Example} → Holds e → Each es → Each (e ∷ es)

-- both lanes load before either store is committed
abbrev both_load : List Move
both_load = move 0 0 ∷ move 0 0 ∷ move 0 0 ∷ move 1 0 ∷ move 1 0 ∷ move 1 0 ∷ []

-- and then both stores are
abbrev race : List Move
race = both_load ++ move 0 1 ∷ move 1 1 ∷ []

-- lane t: SET, STORE and its commit, MFENCE where there is one, LOAD; the source machine waits at the end of the lane
abbrev straight : ℕ → List Move
straight t = move t 0 ∷ move t 0 ∷ move t 1 ∷ move t 0 ∷ move t 0 ∷ []

-- instructions without a constant or position
abbrev codes : List ℕ → List (ℕ × ℕ)
codes = map (λ (o : ℕ). (o, 0))

unfoldable pub table : List Example
table =
    -- this kernel: sheet of 80 bytes; 79 bytes give 9
    writes Level2 (store_buffering 3) (
    2 ∷ 2 ∷ 0 ∷ 2 ∷ 0 ∷ 0 ∷ 0 ∷ 0 ∷ 4 ∷ 0 ∷ 4 ∷ 0 ∷ 0 ∷ 0 ∷ 0 ∷ 0
    ∷ 1 ∷ 0 ∷ 0 ∷ 0 ∷ 1 ∷ 0 ∷ 0 ∷ 0 ∷ 4 ∷ 0 ∷ 0 ∷ 0 ∷ 0 ∷ 0 ∷ 0 ∷ 0
    ∷ 15 ∷ 0 ∷ 0 ∷ 0 ∷ 0 ∷ 0 ∷ 0 ∷ 0 ∷ 3 ∷ 1 ∷ 1 ∷ 0 ∷ 0 ∷ 0 ∷ 0 ∷ 0
    ∷ 1 ∷ 0 ∷ 0 ∷ 0 ∷ 1 ∷ 0 ∷ 0 ∷ 0 ∷ 4 ∷ 0 ∷ 1 ∷ 0 ∷ 0 ∷ 0 ∷ 0 ∷ 0
    ∷ 15 ∷ 0 ∷ 0 ∷ 0 ∷ 0 ∷ 0 ∷ 0 ∷ 0 ∷ 3 ∷ 1 ∷ 0 ∷ 0 ∷ 0 ∷ 0 ∷ 0 ∷ 0 ∷ []
    )
    -- its nine lines
    ∷ prints (store_buffering 3) (
    108 ∷ 97 ∷ 110 ∷ 101 ∷ 115 ∷ 32 ∷ 50 ∷ 32 ∷ 108 ∷ 111 ∷ 99 ∷ 97 ∷ 116 ∷ 105 ∷ 111 ∷ 110 ∷ 115 ∷ 32 ∷ 50 ∷ 32
    ∷ 118 ∷ 111 ∷ 108 ∷ 97 ∷ 116 ∷ 105 ∷ 108 ∷ 101 ∷ 32 ∷ 50 ∷ 32 ∷ 108 ∷ 111 ∷ 99 ∷ 107 ∷ 115 ∷ 32 ∷ 48 ∷ 10
    ∷ 48 ∷ 32 ∷ 48 ∷ 32 ∷ 83 ∷ 69 ∷ 84 ∷ 32 ∷ 48 ∷ 32 ∷ 49 ∷ 10
    ∷ 48 ∷ 32 ∷ 49 ∷ 32 ∷ 83 ∷ 84 ∷ 79 ∷ 82 ∷ 69 ∷ 32 ∷ 48 ∷ 32 ∷ 48 ∷ 10
    ∷ 48 ∷ 32 ∷ 50 ∷ 32 ∷ 77 ∷ 70 ∷ 69 ∷ 78 ∷ 67 ∷ 69 ∷ 10
    ∷ 48 ∷ 32 ∷ 51 ∷ 32 ∷ 76 ∷ 79 ∷ 65 ∷ 68 ∷ 32 ∷ 49 ∷ 32 ∷ 49 ∷ 10
    ∷ 49 ∷ 32 ∷ 48 ∷ 32 ∷ 83 ∷ 69 ∷ 84 ∷ 32 ∷ 48 ∷ 32 ∷ 49 ∷ 10
    ∷ 49 ∷ 32 ∷ 49 ∷ 32 ∷ 83 ∷ 84 ∷ 79 ∷ 82 ∷ 69 ∷ 32 ∷ 48 ∷ 32 ∷ 49 ∷ 10
    ∷ 49 ∷ 32 ∷ 50 ∷ 32 ∷ 77 ∷ 70 ∷ 69 ∷ 78 ∷ 67 ∷ 69 ∷ 10
    ∷ 49 ∷ 32 ∷ 51 ∷ 32 ∷ 76 ∷ 79 ∷ 65 ∷ 68 ∷ 32 ∷ 49 ∷ 32 ∷ 48 ∷ 10
    ∷ []
    )
    ∷ fills Level2 (store_buffering 3) 80
    ∷ refused_by Level2 (store_buffering 3) 79 9 0
    -- it never finishes with register 1 zero in both lanes
    ∷ never (Target Tso) (store_buffering 3)
    ∷ never Source (store_buffering 3)
    -- but with other values
    ∷ ends (Target Tso) (store_buffering 3) (straight 0 ++ straight 1) true (0 ∷ 1 ∷ [])
    ∷ ends Source (store_buffering 3) (straight 0 ++ straight 1) true (0 ∷ 1 ∷ [])
    -- mask 1 instead: no barrier at either level; both zero is possible on either
    ∷ shows Level1 (store_buffering 1) ((1, 1) ∷ (4, 0) ∷ (3, 0) ∷ (1, 1) ∷ (4, 0) ∷ (3, 0) ∷ [])
    ∷ shows Level2 (store_buffering 1) ((1, 1) ∷ (4, 0) ∷ (3, 0) ∷ (1, 1) ∷ (4, 0) ∷ (3, 0) ∷ [])
    ∷ ends Source (store_buffering 1) race true (0 ∷ 0 ∷ [])
    ∷ ends (Target Tso) (store_buffering 1) race true (0 ∷ 0 ∷ [])
    -- of paper 02, job 2: a run with stores pending is not finished; the empty kernel's empty run is
    ∷ ends Source (store_buffering 1) both_load false (0 ∷ 0 ∷ [])
    ∷ ends (Target Tso) (store_buffering 1) both_load false (0 ∷ 0 ∷ [])
    ∷ ends Source (lane []) [] true (0 ∷ [])
    ∷ ends (Target Tso) (lane []) [] true (0 ∷ [])
    -- PS, VS: SS at level 1, nothing at level 2
    ∷ shows Level1 (lane (PS ∷ VS ∷ [])) (codes (4 ∷ 13 ∷ 4 ∷ []))
    ∷ shows Level2 (lane (PS ∷ VS ∷ [])) (codes (4 ∷ 4 ∷ []))
    -- VL, PL: LL
    ∷ shows Level1 (lane (VL ∷ PL ∷ [])) (codes (3 ∷ 11 ∷ 3 ∷ []))
    -- VS, VL, VL: SL, then LL
    ∷ shows Level1 (lane (VS ∷ VL ∷ VL ∷ [])) (codes (4 ∷ 14 ∷ 3 ∷ 11 ∷ 3 ∷ []))
    -- VS, VS, VL: SS, then SL
    ∷ shows Level1 (lane (VS ∷ VS ∷ VL ∷ [])) (codes (4 ∷ 13 ∷ 4 ∷ 14 ∷ 3 ∷ []))
    -- VS, SKIP to D, VL, D: VL. D has LL and SL
    ∷ shows Level1 (lane (VS ∷ skip_to 4 ∷ VL ∷ VL ∷ [])) ((4, 0) ∷ (7, 4) ∷ codes (14 ∷ 3 ∷ 11 ∷ 14 ∷ 3 ∷ []))
    ∷ shows Level2 (lane (VS ∷ skip_to 4 ∷ VL ∷ VL ∷ [])) ((4, 0) ∷ (7, 4) ∷ codes (15 ∷ 3 ∷ 15 ∷ 3 ∷ []))
    -- LOCK, PS, UNLOCK: LS before the store, SS before UNLOCK
    ∷ shows Level1 (lane (LOCK ∷ PS ∷ UNLOCK ∷ [])) (codes (5 ∷ 12 ∷ 4 ∷ 13 ∷ 6 ∷ []))
    -- LOCK, UNLOCK, LOCK, UNLOCK: nothing; LS; LL, SL; LS, SS
    ∷ shows Level1 (lane (LOCK ∷ UNLOCK ∷ LOCK ∷ UNLOCK ∷ [])) (codes (5 ∷ 12 ∷ 6 ∷ 11 ∷ 14 ∷ 5 ∷ 12 ∷ 13 ∷ 6 ∷ []))
    -- of paper 02, job 1: no MFENCE before a LOCK
    ∷ shows Level2 (lane (LOCK ∷ UNLOCK ∷ LOCK ∷ UNLOCK ∷ [])) (codes (5 ∷ 6 ∷ 5 ∷ 6 ∷ []))
    -- VS, SKIP to D, VL, D: LOCK, UNLOCK. At level 2 the SKIP lands on D itself
    ∷ shows Level1 (lane (VS ∷ skip_to 4 ∷ VL ∷ LOCK ∷ UNLOCK ∷ [])) (
    (4, 0) ∷ (7, 4) ∷ codes (14 ∷ 3 ∷ 11 ∷ 14 ∷ 5 ∷ 12 ∷ 13 ∷ 6 ∷ [])
    )
    ∷ shows Level2 (lane (VS ∷ skip_to 4 ∷ VL ∷ LOCK ∷ UNLOCK ∷ [])) ((4, 0) ∷ (7, 4) ∷ codes (15 ∷ 3 ∷ 5 ∷ 6 ∷ []))
    -- VS, LOCK, VL, UNLOCK: SL before the LOCK, at level 2 nothing before it nor before the load
    ∷ shows Level1 (lane (VS ∷ LOCK ∷ VL ∷ UNLOCK ∷ [])) (codes (4 ∷ 14 ∷ 5 ∷ 11 ∷ 3 ∷ 12 ∷ 13 ∷ 6 ∷ []))
    ∷ shows Level2 (lane (VS ∷ LOCK ∷ VL ∷ UNLOCK ∷ [])) (codes (4 ∷ 5 ∷ 3 ∷ 6 ∷ []))
    -- of paper 02, job 4: level 3 keeps SS as well as SL, 13 and 14 with a zero mask, and no SL before a LOCK
    ∷ writes Level3 (store_buffering 3) (
    2 ∷ 2 ∷ 0 ∷ 3 ∷ 0 ∷ 0 ∷ 0 ∷ 0 ∷ 4 ∷ 0 ∷ 4 ∷ 0 ∷ 0 ∷ 0 ∷ 0 ∷ 0
    ∷ 1 ∷ 0 ∷ 0 ∷ 0 ∷ 1 ∷ 0 ∷ 0 ∷ 0 ∷ 4 ∷ 0 ∷ 0 ∷ 0 ∷ 0 ∷ 0 ∷ 0 ∷ 0
    ∷ 14 ∷ 0 ∷ 0 ∷ 0 ∷ 0 ∷ 0 ∷ 0 ∷ 0 ∷ 3 ∷ 1 ∷ 1 ∷ 0 ∷ 0 ∷ 0 ∷ 0 ∷ 0
    ∷ 1 ∷ 0 ∷ 0 ∷ 0 ∷ 1 ∷ 0 ∷ 0 ∷ 0 ∷ 4 ∷ 0 ∷ 1 ∷ 0 ∷ 0 ∷ 0 ∷ 0 ∷ 0
    ∷ 14 ∷ 0 ∷ 0 ∷ 0 ∷ 0 ∷ 0 ∷ 0 ∷ 0 ∷ 3 ∷ 1 ∷ 0 ∷ 0 ∷ 0 ∷ 0 ∷ 0 ∷ 0 ∷ []
    )
    ∷ refused_by Level3 (store_buffering 3) 79 9 0
    ∷ shows Level3 (lane (PS ∷ VS ∷ [])) (codes (4 ∷ 13 ∷ 4 ∷ []))
    ∷ shows Level3 (lane (VL ∷ PL ∷ PS ∷ [])) (codes (3 ∷ 3 ∷ 4 ∷ []))
    ∷ shows Level3 (lane (LOCK ∷ UNLOCK ∷ LOCK ∷ UNLOCK ∷ [])) (codes (5 ∷ 6 ∷ 5 ∷ 13 ∷ 6 ∷ []))
    ∷ shows Level3 (lane (VS ∷ skip_to 4 ∷ VL ∷ LOCK ∷ UNLOCK ∷ []))
    ((4, 0) ∷ (7, 4) ∷ codes (14 ∷ 3 ∷ 5 ∷ 13 ∷ 6 ∷ []))
    -- and on the pso machine store buffering never finishes with both zero, but for mask 1
    ∷ never (Target Pso) (store_buffering 3)
    ∷ ends (Target Pso) (store_buffering 3) (straight 0 ++ straight 1) true (0 ∷ 1 ∷ [])
    ∷ ends (Target Pso) (store_buffering 1) race true (0 ∷ 0 ∷ [])
    -- of paper 02, job 6: locks 0 then 1 in both lanes pass; 1 then 0 gives 12 at the second LOCK, before 9; a lock
    -- fault in lane 1 comes before the order in lane 0
    ∷ fills Level2 (locking (nested 0 1) (nested 0 1)) 80
    ∷ refused_by Level2 (locking (nested 0 1) (nested 1 0)) 79 12 6
    ∷ refused_by Level1 (locking (nested 1 0) (nested 1 0)) 200 12 2
    ∷ refused_by Level3 (locking (nested 1 0) (UNLOCK ∷ [])) 200 8 5
    -- no records: 16-byte sheet
    ∷ fills Level1 (lane []) 16
    ∷ fills Level2 (lane []) 16
    -- 64 records in a lane pass, 65 give 6; a self-chained record gives 5
    ∷ fills Level1 (lane (sets 64)) 528
    ∷ refused_by Level1 (lane (sets 65)) 1000 6 65
    ∷ refused_by Level1 (file_header 1 1 0 0 1 1 0 ++ rec_bytes (rec 1 0 0) 1) 100 5 1
    -- 15 bytes: 1
    ∷ refused_by Level1 (take 15 (lane [])) 100 1 0
    -- T = 5: 2
    ∷ refused_by Level1 (file_header 5 1 0 0 0 0 0) 100 2 0
    -- LOCK twice: 8, second LOCK
    ∷ refused_by Level1 (lane (LOCK ∷ LOCK ∷ [])) 100 8 2
    -- 9 SETs and length 123: 3
    ∷ refused_by Level1 (take 123 (lane (sets 9))) 100 3 0
    -- not of the paper: four lanes, 16 locations and four locks; the answers are reference/'s
    ∷ writes Level1 four_lanes four_lanes1
    ∷ writes Level2 four_lanes four_lanes2
    ∷ writes Level3 four_lanes four_lanes3
    ∷ prints four_lanes four_lanes_text
    ∷ leaves Source four_lanes four_lanes_moves four_lanes_source
    ∷ leaves (Target Tso) four_lanes four_lanes_moves four_lanes_tso
    ∷ leaves (Target Pso) four_lanes four_lanes_moves four_lanes_pso
    ∷ []
