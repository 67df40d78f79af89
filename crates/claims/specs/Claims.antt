-- What is claimed of every kernel file that is accepted: that each record belongs to one lane, demands 2 and 3, that a
-- finished run is over and one that is not finished has a permitted move, that number 11 is never met, and the bounds
-- of sheets and states. The last record, `Claims`, has all of it, and proofs/Theorem.antt proves it. A line
-- `name: meaning` tells what a name of another file means.
use Rattle.std.specs.Prelude.{None}
use Rattle.std.specs.Prelude.{◌≡◌, Bool, true, false, ◌&&◌, List, [], ◌∷◌, ◌++◌, map, ◌≢◌, ◌⊎◌, ◌↔◌, ℕ, suc, ◌+◌, ◌*◌}
use Rattle.std.specs.Prelude.{◌≤◌, ◌<◌, length, get_or}
use Rattle.std.proofs.Math.Option.{none, some}
use Rattle.std.proofs.Math.ListN.{get_elem?}
use Rattle.file_format.specs.declared.accepted.Op.{Op}
use Rattle.file_format.specs.Fields.{record_count}
use Rattle.file_format.specs.Accepted.{Program}
use Rattle.file_verdict.specs.Verdict.{verdict}
use Rattle.barrier_placement.specs.declared.cookbook.Barrier.{Barrier}
use Rattle.barrier_placement.specs.Chain.{Chain, Path, Between}
use Rattle.barrier_placement.specs.Steps.{steps}
use Rattle.barrier_placement.specs.Sentence.{Along, Sentence}
use Rattle.barrier_placement.specs.Place.{chosen}
use Rattle.barrier_placement.specs.Sheet.{Item, bar, item, NextItem, ItemPair, Alone}
use Rattle.barrier_placement.specs.Layout.{start}
use Rattle.sheet_format.specs.Layout.{Instr, op, barrier, aim, rank}
use Rattle.sheet_format.specs.declared.Level.{Level}
use Rattle.sheet_format.specs.Levels.{keeps, placed, volatile_in}
use Rattle.sheet_format.specs.Bytes.{sheet_bytes, lower_by}
use Rattle.sheet_format.specs.Read.{read_sheet}
use Rattle.sheet_format.specs.Items.{items, operation_at}
use Rattle.sheet_format.specs.Codes.{Code, codes_in}
use Rattle.sheet_format.specs.Before.{barriers_before, stands_before}
use Rattle.machine_spec.specs.declared.Machine.{Machine}
use Rattle.machine_spec.specs.declared.Machine.TheVariants.{Source, Target}
use Rattle.machine_spec.specs.declared.Model.{Model}
use Rattle.machine_spec.specs.declared.Model.TheVariants.{Pso}
use Rattle.machine_spec.specs.Schedule.{Move, move, limit, legal}
use Rattle.machine_spec.specs.State.{begin}
use Rattle.machine_spec.specs.Run.{Answer, start_of, program_for, run_file, shown, counts_as}
use Rattle.machine_spec.specs.Shape.{Shaped, Within, MarksBehind, Unmarked}
use Rattle.claims.specs.Schedules.{source_schedule, target_schedule}
use Rattle.claims.specs.Stuck.{Stuck, AllHalted}
use Rattle.claims.specs.Direct.{direct}

-- get_or xs i d: the i-th of a list, from 0, and d where there is none
-- get_elem? xs i: `some` of the i-th, and `none` where there is none
-- Program: an accepted kernel; for each lane `.lanes` has the operations in chain order, `.records` their records
-- verdict s: whether the bytes s are accepted, and as which kernel

-- ## the records

-- place p of lane t has record i
abbrev pub RecordAt : Program → ℕ → ℕ → ℕ → Type 0
RecordAt k t p i = get_elem? (get_or k.records t []) p ≡ some i

-- each record of the file, 1 to N, belongs to one lane, once, and the lanes have no other
pub record Records (s : List ℕ) (k : Program) : Type 0 where
  pub numbered : (t p i : ℕ) → RecordAt k t p i → (1 ≤ i) × (i ≤ record_count s)
  pub somewhere : (i : ℕ) → 1 ≤ i → i ≤ record_count s → (t : ℕ) × (p : ℕ) × RecordAt k t p i
  pub once : (t u p q i : ℕ) → RecordAt k t p i → RecordAt k u q i → (t ≡ u) × (p ≡ q)

-- ## demand 2: the barriers of a written sheet

-- Level: level 0, the operations alone, level 1, the barrier sheet, level 2, the x86 sheet, level 3, that of Sparc PSO
-- keeps l o b: the level keeps a barrier b before the operation o; level 0 none, level 1 all, level 2 only SL, and that
--   not before a LOCK; level 3 that and SS
-- volatile_in k x: the kernel's mask has location x volatile
-- read_sheet: the instructions of each lane, `op o` or `barrier b`, by the header's counts
-- items: each instruction as a barrier `bar b`, the class of an access, or the target of a SKIP

-- lane t of a written sheet, read from its bytes
abbrev pub lane_of : List ℕ → ℕ → List Instr
lane_of bytes t = get_or (read_sheet bytes) t []

-- the same, each instruction as placement sees it
abbrev pub lane_items : (ℕ → Bool) → List ℕ → ℕ → List Item
lane_items vol bytes t = items vol (lane_of bytes t)

-- the operations of a lane, barriers left out
abbrev pub operations_in : List Instr → List Op
operations_in [] = []
operations_in (op o ∷ is) = o ∷ operations_in is
operations_in (barrier b ∷ is) = operations_in is

-- lane t of the kernel, and as placement sees it: the class of each access, the target of each SKIP
abbrev pub kernel_lane : Program → ℕ → List Op
kernel_lane k t = get_or k.lanes t []

abbrev pub chain_of : Program → ℕ → Chain
chain_of k t = steps (volatile_in k) (kernel_lane k t)

-- Sentence s b B: the paper's sentence on placement, of a set B of positions of the chain s: j is in B exactly when
--   some path leads from an access i, whose cell with j is b, to j, and none strictly between them on it is in B
-- rank is x: how many operations stand before position x, that is, the place in the chain of the operation at x

-- at position x of lane t stands an operation before which the sentence puts a b, and the level leaves it out there: at
-- levels 2 and 3 every LL and LS, and SL before a LOCK, which drains by itself; at level 2 SS as well; at level 1 none
pub record LeftOut (l : Level) (k : Program) (bytes : List ℕ) (t : ℕ) (b : Barrier) (x : ℕ) : Type 0 where
  pub operation : Op
  pub here : get_elem? (lane_of bytes t) x ≡ some (op operation)
  pub put : (B : ℕ → Bool) × Sentence (chain_of k t) b B × (B (rank (lane_of bytes t) x) ≡ true)
  pub dropped : keeps l operation b ≡ false

-- Path R m n: a way from position m to n in one or more steps R
-- NextItem x: one step in the lane x, register values ignored: to the next position, or from a SKIP to its target
-- Between π x: x stands on the path, strictly between its ends; Along π x: there or at its end
-- ItemPair x b m n: at m and n of the lane x stand accesses whose cell in the cookbook's table is b
-- Alone x b m: on `.path`, between two such accesses, m is the only position with a b

-- of the bytes of a sheet at level l
pub record Demand2 (l : Level) (k : Program) (bytes : List ℕ) : Type 0 where
  -- on every path from one access to another whose cell is b stands a b between them, or an operation, the second
  -- access counted, before which a b is left out
  pub covered : (t : ℕ) (b : Barrier) (m n : ℕ) (π : Path (NextItem (lane_items (volatile_in k) bytes t)) m n)
      → ItemPair (lane_items (volatile_in k) bytes t) b m n
      → ((x : ℕ) × Between π x × (item (lane_items (volatile_in k) bytes t) x ≡ bar b))
      ⊎ ((x : ℕ) × Along π x × LeftOut l k bytes t b x)
  -- and each b that stands is the only one on some such path, those left out counted too, so that none could be dropped
  pub needed : (t : ℕ) (b : Barrier) (m : ℕ) → item (lane_items (volatile_in k) bytes t) m ≡ bar b
      → (a : Alone (lane_items (volatile_in k) bytes t) b m) × ((x : ℕ) → Along a.path x → LeftOut l k bytes t b x → ⊥)
  -- a barrier that the level keeps before no operation stands nowhere
  pub absent : (t : ℕ) (b : Barrier) → ((o : Op) → keeps l o b ≡ false) → (m : ℕ)
      → item (lane_items (volatile_in k) bytes t) m ≡ bar b → ⊥

-- operation_at os p: the p-th operation
-- barriers_before is p: the barriers that stand directly before the p-th operation of a lane as read from a sheet
-- stands_before b is p: b is one of them
-- chosen f: those of LL, LS, SS, SL, in this order and each once, that the test f picks

-- where the barriers of a sheet at level l stand
pub record Placement (l : Level) (k : Program) (bytes : List ℕ) : Type 0 where
  -- for each lane t and barrier b the sentence has a solution B
  pub solved : (t : ℕ) (b : Barrier) → (B : ℕ → Bool) × Sentence (chain_of k t) b B
  -- and b stands directly before the p-th operation exactly when the sentence puts it there and the level keeps it
  -- there; behind the last operation stands none
  pub exactly : (t : ℕ) (b : Barrier) (B : ℕ → Bool) → Sentence (chain_of k t) b B → (p : ℕ)
      → stands_before b (lane_of bytes t) p ≡ (keeps l (operation_at (kernel_lane k t) p) b && B p)
  -- several before one operation stand in the order LL, LS, SS, SL
  pub ordered : (t p : ℕ) → barriers_before (lane_of bytes t) p ≡ chosen (λ b. stands_before b (lane_of bytes t) p)

-- ## demand 3: the machines

-- Source: the house machine, over the kernel; Target m: the machine of a model m, Tso the chip, over the level 2 sheet,
--   Pso the panel, over the level 3 sheet
-- program_for m k: the instructions of each lane that the machine carries out
-- start_of k: the start state; begin: a run from it, with no move done yet
-- run_file m s: the answer of machine m's run over a schedule; `.refusal` is None or the refusal, `.state` the end
-- shown: what is compared of an answer: loaded values in order, finished, registers, memory, lock words, pending lists,
--   marks left out
-- counts_as m k mvs: the schedule mvs, or the empty one where 10 refuses it
-- source_schedule: the moves of a target's schedule but those that wait or pass a barrier
-- target_schedule: the moves of a direct source schedule, and before each operation those that pass its barriers
-- direct: the move after each STORE or UNLOCK commits that entry
-- Stuck: no lane has a permitted move, at choices 0 and 1
-- AllHalted: nothing is pending, and each lane has ended or stands at a LOCK whose lock word is not 0

-- both runs took place, and share what is compared
pub record Shares (a b : Answer) : Type 0 where
  pub ran : a.refusal ≡ None
  pub ran_too : b.refusal ≡ None
  pub same : shown a ≡ shown b

-- the source schedule for a target's schedule, and the target's schedule for a source schedule
abbrev pub source_for : Model → Program → List Move → List Move
source_for m k mvs =
    source_schedule m (volatile_in k) (program_for (Target m) k) (begin (start_of k)) (counts_as (Target m) k mvs)

abbrev pub target_for : Model → Program → List Move → List Move
target_for m k mvs =
    target_schedule m (volatile_in k) (program_for (Target m) k) (begin (start_of k)) (counts_as Source k mvs)

-- the source run over a schedule goes straight to memory
abbrev pub Direct : Program → List Move → Type 0
Direct k mvs = direct (volatile_in k) (program_for Source k) none (begin (start_of k)) (counts_as Source k mvs) ≡ true

-- the answer over a schedule, one that is refused with 10 counting as the empty one
abbrev pub answer_for : Machine → List ℕ → Program → List Move → Answer
answer_for m s k mvs = run_file m s (counts_as m k mvs)

-- of a target and every schedule, the empty one included
pub record Demand3 (m : Model) (s : List ℕ) (k : Program) : Type 0 where
  -- each run of the target has a source run that shares what is compared
  pub matched : (mvs : List Move) → Shares (run_file Source s (source_for m k mvs)) (answer_for (Target m) s k mvs)
  -- after every run of the target no move is permitted exactly when nothing is pending and each lane has ended or
  -- stands at a held lock
  pub stuck : (mvs : List Move)
      → Stuck (Target m) (volatile_in k) (program_for (Target m) k) (answer_for (Target m) s k mvs).state
      ↔ AllHalted (program_for (Target m) k) (answer_for (Target m) s k mvs).state
  -- each source run that goes straight to memory has a run of the target that shares what is compared
  pub direct : (mvs : List Move) → Direct k mvs
      → Shares (answer_for Source s k mvs) (run_file (Target m) s (target_for m k mvs))

-- ## finished

-- `.finished` of an answer: every lane stands at its end and nothing is pending
-- legal: each move names a lane below T and a choice up to the machine's limit, so that 10 does not refuse

-- a finished run is over: with whatever moves behind it, all that is compared stays, and so does the memory read then
abbrev pub Over : List ℕ → Program → Type 0
Over s k = (m : Machine) (mvs more : List Move) → legal (length k.lanes) (limit m) more ≡ true
    → (run_file m s mvs).finished ≡ true → shown (run_file m s (mvs ++ more)) ≡ shown (run_file m s mvs)

-- ## progress

-- `.done` of an answer: how many moves were done; a move that is not permitted is not one of them
-- move t c: the move of lane t with choice c

-- after the schedule mvs the move mv is permitted: behind them it is done
abbrev pub Permitted : Machine → List ℕ → List Move → Move → Type 0
Permitted m s mvs mv = (run_file m s (mvs ++ (mv ∷ []))).done ≡ suc (run_file m s mvs).done

-- after every schedule that is not refused with 10 the run is finished, or a lane below T has a permitted move, at
-- choice 0 or 1
abbrev pub Progress : List ℕ → Program → Type 0
Progress s k = (m : Machine) (mvs : List Move) → legal (length k.lanes) (limit m) mvs ≡ true
    → ((run_file m s mvs).finished ≡ true)
    ⊎ ((t : ℕ) × (c : ℕ) × (t < length k.lanes) × (c ≤ 1) × Permitted m s mvs (move t c))

-- how many instructions the lanes of a program have
abbrev pub instructions_in : List (List Instr) → ℕ
instructions_in [] = 0
instructions_in (is ∷ prog) = length is + instructions_in prog

-- however the moves are chosen, at most twice as many are done as the lanes have instructions; so whoever goes on with
-- permitted moves comes to the end: every run is finished with some more of them
pub record Finishes (s : List ℕ) (k : Program) : Type 0 where
  pub few : (m : Machine) (mvs : List Move) → (run_file m s mvs).done ≤ 2 * instructions_in (program_for m k)
  pub last : (m : Machine) (mvs : List Move) → legal (length k.lanes) (limit m) mvs ≡ true
      → (more : List Move) × (legal (length k.lanes) 1 more ≡ true) × ((run_file m s (mvs ++ more)).finished ≡ true)

-- ## number 11

-- a schedule that is not refused with 10 runs to its end: no run meets an UNLOCK whose lock its lane does not hold
abbrev pub Runs : List ℕ → Program → Type 0
Runs s k = (m : Machine) (mvs : List Move) → legal (length k.lanes) (limit m) mvs ≡ true
    → (run_file m s mvs).refusal ≡ None

-- ## bounds

-- Shaped: in each lane 8 registers and at most 64 entries pending, of locations below L and locks below K; L memory
--   values and K lock words; each value below 2^32, each lock word at most T
-- Within: no lane stands past the end of its program
-- MarksBehind: each mark stands behind an entry that is pending; Unmarked: no mark stands anywhere

-- after every schedule of a machine the state fits a record of fixed length, and each lane stands within its program:
-- the chain of the source machine, the sheet part of a target
pub record Bounds (s : List ℕ) (k : Program) : Type 0 where
  pub shaped : (m : Machine) (mvs : List Move) → Shaped k (shown (answer_for m s k mvs))
  pub within : (m : Machine) (mvs : List Move) → Within (program_for m k) (answer_for m s k mvs).state
  pub marks : (m : Machine) (mvs : List Move) → MarksBehind (answer_for m s k mvs).state
  -- only the pso machine leaves any
  pub unmarked : (m : Machine) → m ≢ Target Pso → (mvs : List Move) → Unmarked (answer_for m s k mvs).state

-- ## all of it, of a kernel file s that stands for the kernel k

-- sheet_bytes l k: the bytes of the sheet
-- lower_by: the answer, and the buffer after; where the sheet fits, its bytes in front and behind them what was there

-- what a lowering at level l leaves in a buffer
abbrev pub lowered : Level → List ℕ → List ℕ → List ℕ
lowered l s buffer = (lower_by l (verdict s) buffer).1

-- of every buffer that the sheet fits in
abbrev pub Fitting : (Level → List ℕ → Type 0) → Program → Type 0
Fitting P k = (l : Level) (buffer : List ℕ) → length (sheet_bytes l k) ≤ length buffer → P l buffer

-- codes_in bytes: the operation code, the first byte, of each row of each lane
-- Code l c: c is one of an operation, 1 to 7, or at level 1 one of 11 to 14, at level 2 just 15, at level 3 13 or 14
-- placed l vol os: the operations of a lane, each with its barriers
-- start ps p: the position in the lane's part at which the barriers before the p-th operation begin
-- aim r: puts r of the target for a SKIP's target

pub record Claims (s : List ℕ) (k : Program) : Type 0 where
  pub records : Records s k
  pub demand2 : Fitting (λ l buffer. Demand2 l k (lowered l s buffer)) k
  pub placement : Fitting (λ l buffer. Placement l k (lowered l s buffer)) k
  -- every row has an operation code of its level
  pub codes : Fitting (λ l buffer. (t p c : ℕ) → get_elem? (get_or (codes_in (lowered l s buffer)) t []) p ≡ some c
      → Code l c) k
  -- the sheet has every operation of the kernel in order, each SKIP aimed at its target's first barrier
  pub whole : Fitting (λ l buffer. (t : ℕ)
      → operations_in (lane_of (lowered l s buffer) t)
      ≡ map (aim (start (placed l (volatile_in k) (get_or k.lanes t [])))) (get_or k.lanes t [])) k
  -- and every byte of it is a byte
  pub bytes : Fitting (λ l buffer. (i : ℕ) → i < length (sheet_bytes l k) → get_or (lowered l s buffer) i 0 < 256) k
  pub demand3 : (m : Model) → Demand3 m s k
  pub over : Over s k
  pub progress : Progress s k
  pub finishes : Finishes s k
  pub runs : Runs s k
  pub bounds : Bounds s k
