-- A kernel of one lane through each of the seven calls, runs of one that ends with a STORE, and one that takes its
-- locks downward, by computation from their bytes.
use Rattle.std.specs.Prelude.{ℕ, ◌+◌, ◌*◌, ◌^◌, ◌≡◌, refl, List, [], ◌∷◌, ◌++◌, map, replicate}
use Rattle.file_format.specs.Search.{lowest, first_of}
use Rattle.file_format.specs.Rules.{header_rule, head_rule, bad_record, record_rule}
use Rattle.file_format.specs.Rules.{limit_a, limit_b, limit_constant, limit_target}
use Rattle.file_format.specs.Linkage.{chain, walk_of, bad_linkage, linkage_from, chain_too_long}
use Rattle.file_format.specs.Targets.{member, bad_target, unreachable_target, position}
use Rattle.file_format.specs.Accepted.{op_of, ops_from}
use Rattle.file_format.specs.Held.{held_from, same, conflict_below, fault_at, fault_position, record_at, lock_fault}
use Rattle.file_format.specs.Rising.{all_below, descent_at, descent_position, lock_order}
use Rattle.file_verdict.specs.Verdict.{fields_then, structure_then, refusal_of}
use Rattle.barrier_placement.specs.Place.{stands, due, due_after}
use Rattle.sheet_format.specs.Bytes.{sheet_bytes}
use Rattle.sheet_format.specs.Read.{read_sheet}
use Rattle.machine_spec.specs.Moves.{moves_in}
use Rattle.sheet_format.specs.Put.{in_turn}
use Rattle.machine_record.specs.Lanes.{entries_bytes, state_lane}
use Rattle.machine_record.specs.Record.{head_bytes, record_of}
use Rattle.text_put.specs.Decimal.{digits, decimal}
use Rattle.text_page.specs.Columns.{blank_line, in_column, in_columns, line_in}
use Rattle.text_page.specs.Lines.{instruction_line, lane_lines, lines_from, page_lines}
use Rattle.text_page.specs.Pages.{heading_line, page_of, pages_of, page_text}
use Rattle.lanes_answers.specs.Interface.{call_lower1, call_lower2, call_lower3, call_page}
use Rattle.lanes_answers.specs.Interface.{call_run_source, call_run_tso, call_run_pso}

-- one lane, two locations of which location 1 is volatile, and one lock:
-- SET 2 to 258, STORE 2 to location 1, LOCK 0, UNLOCK 0, LOAD 3 from location 1
kernel : List ℕ
kernel =
    1 ∷ 2 ∷ 1 ∷ 0 ∷ 2 ∷ 0 ∷ 5 ∷ 0 ∷ 1 ∷ 0 ∷ 0 ∷ 0 ∷ 0 ∷ 0 ∷ 0 ∷ 0
    ∷ 1 ∷ 2 ∷ 0 ∷ 0 ∷ 2 ∷ 1 ∷ 0 ∷ 0 ∷ 0 ∷ 0 ∷ 2 ∷ 0
    ∷ 4 ∷ 2 ∷ 1 ∷ 0 ∷ 0 ∷ 0 ∷ 0 ∷ 0 ∷ 0 ∷ 0 ∷ 3 ∷ 0
    ∷ 5 ∷ 0 ∷ 0 ∷ 0 ∷ 0 ∷ 0 ∷ 0 ∷ 0 ∷ 0 ∷ 0 ∷ 4 ∷ 0
    ∷ 6 ∷ 0 ∷ 0 ∷ 0 ∷ 0 ∷ 0 ∷ 0 ∷ 0 ∷ 0 ∷ 0 ∷ 5 ∷ 0
    ∷ 3 ∷ 3 ∷ 1 ∷ 0 ∷ 0 ∷ 0 ∷ 0 ∷ 0 ∷ 0 ∷ 0 ∷ 0 ∷ 0
    ∷ []

-- one lane and one location: SET 2 to 258, STORE 2 to location 0
storing : List ℕ
storing =
    1 ∷ 1 ∷ 0 ∷ 0 ∷ 0 ∷ 0 ∷ 2 ∷ 0 ∷ 1 ∷ 0 ∷ 0 ∷ 0 ∷ 0 ∷ 0 ∷ 0 ∷ 0
    ∷ 1 ∷ 2 ∷ 0 ∷ 0 ∷ 2 ∷ 1 ∷ 0 ∷ 0 ∷ 0 ∷ 0 ∷ 2 ∷ 0
    ∷ 4 ∷ 2 ∷ 0 ∷ 0 ∷ 0 ∷ 0 ∷ 0 ∷ 0 ∷ 0 ∷ 0 ∷ 0 ∷ 0
    ∷ []

-- one lane, one location and two locks: LOCK 1, LOCK 0, UNLOCK 0, UNLOCK 1
downward : List ℕ
downward =
    1 ∷ 1 ∷ 2 ∷ 0 ∷ 0 ∷ 0 ∷ 4 ∷ 0 ∷ 1 ∷ 0 ∷ 0 ∷ 0 ∷ 0 ∷ 0 ∷ 0 ∷ 0
    ∷ 5 ∷ 0 ∷ 1 ∷ 0 ∷ 0 ∷ 0 ∷ 0 ∷ 0 ∷ 0 ∷ 0 ∷ 2 ∷ 0
    ∷ 5 ∷ 0 ∷ 0 ∷ 0 ∷ 0 ∷ 0 ∷ 0 ∷ 0 ∷ 0 ∷ 0 ∷ 3 ∷ 0
    ∷ 6 ∷ 0 ∷ 0 ∷ 0 ∷ 0 ∷ 0 ∷ 0 ∷ 0 ∷ 0 ∷ 0 ∷ 4 ∷ 0
    ∷ 6 ∷ 0 ∷ 1 ∷ 0 ∷ 0 ∷ 0 ∷ 0 ∷ 0 ∷ 0 ∷ 0 ∷ 0 ∷ 0
    ∷ []

-- what a call answers, and the buffer after it
record Called : Type 0 where
  answer : ℕ
  after : List ℕ

abbrev called : ℕ × List ℕ → Called
called r = record { answer = r.0; after = r.1 }

-- refused with 12 at record 2, and an output buffer of three bytes as it was
abbrev refused12 : Called
refused12 = record { answer = 12 * 2 ^ 32 + 2; after = replicate 3 255 }

-- an output buffer of n bytes, none of them zero
output : ℕ → List ℕ
output n = replicate n 255

-- the state record of lane 0, with all other lanes zero
abbrev lane_record : List ℕ → List ℕ → List ℕ → List ℕ → List ℕ
lane_record pos count regs entries =
    pos ++ count ++ (regs ++ (entries ++ replicate 504 0)) ++ replicate 1644 0

-- memory is 0 and 258
abbrev memory : List ℕ
memory = 0 ∷ 0 ∷ 0 ∷ 0 ∷ 2 ∷ 1 ∷ 0 ∷ 0 ∷ replicate 56 0

-- register 2 is 258
abbrev registers : List ℕ
registers = replicate 8 0 ++ 2 ∷ 1 ∷ replicate 22 0

-- and register 3 has loaded it
abbrev loaded : List ℕ
loaded = replicate 8 0 ++ 2 ∷ 1 ∷ 0 ∷ 0 ∷ 2 ∷ 1 ∷ replicate 18 0

-- finished or not, the word of lock 0, moves done and waited
abbrev counted : ℕ → ℕ → ℕ → ℕ → List ℕ
counted f l d w = f ∷ 0 ∷ 0 ∷ 0 ∷ l ∷ 0 ∷ 0 ∷ 0 ∷ d ∷ replicate 7 0 ++ w ∷ replicate 7 0

-- SET, STORE, a LOCK that waits, the commit, LOCK, UNLOCK
abbrev up_to_unlock : List ℕ
up_to_unlock = 0 ∷ 0 ∷ 0 ∷ 0 ∷ 0 ∷ 0 ∷ 0 ∷ 1 ∷ 0 ∷ 0 ∷ 0 ∷ 0 ∷ []

-- what it leaves: lane 0 holds its lock, and the release is pending
abbrev releasing : List ℕ
releasing = counted 0 1 5 1 ++ memory ++ lane_record (4 ∷ 0 ∷ []) (1 ∷ 0 ∷ []) registers (2 ∷ replicate 7 0)

-- SET and STORE, and what they leave: the lane stands at its end, and its store is pending
abbrev up_to_store : List ℕ
up_to_store = 0 ∷ 0 ∷ 0 ∷ 0 ∷ []

abbrev stored : List ℕ
stored =
    counted 0 0 2 0 ++ replicate 64 0
    ++ lane_record (2 ∷ 0 ∷ []) (1 ∷ 0 ∷ []) registers (1 ∷ 0 ∷ 0 ∷ 0 ∷ 2 ∷ 1 ∷ 0 ∷ 0 ∷ [])

-- after the commit
abbrev committed : List ℕ
committed =
    counted 1 0 3 0 ++ 2 ∷ 1 ∷ replicate 62 0 ++ lane_record (2 ∷ 0 ∷ []) (0 ∷ 0 ∷ []) registers (replicate 8 0)

-- at the start, with one move that waited
abbrev one_waited : List ℕ
one_waited = replicate 16 0 ++ 1 ∷ replicate 2263 0

calls : List (Called × Called)
calls =
    -- the kernel's sheets have 96, 64 and 72 bytes
    (called (call_lower2 kernel (output 63)), record { answer = 9 * 2 ^ 32; after = output 63 })
    ∷ (called (call_lower1 kernel (output 95)), record { answer = 9 * 2 ^ 32; after = output 95 })
    ∷ (
      called (call_lower2 kernel (output 65)),
      record {
        answer = 64;
        after =
            1 ∷ 2 ∷ 1 ∷ 2 ∷ 0 ∷ 0 ∷ 0 ∷ 0 ∷ 6 ∷ 0 ∷ 0 ∷ 0 ∷ 0 ∷ 0 ∷ 0 ∷ 0
            ∷ 1 ∷ 2 ∷ 0 ∷ 0 ∷ 2 ∷ 1 ∷ 0 ∷ 0
            ∷ 4 ∷ 2 ∷ 1 ∷ 0 ∷ 0 ∷ 0 ∷ 0 ∷ 0
            ∷ 5 ∷ 0 ∷ 0 ∷ 0 ∷ 0 ∷ 0 ∷ 0 ∷ 0
            ∷ 6 ∷ 0 ∷ 0 ∷ 0 ∷ 0 ∷ 0 ∷ 0 ∷ 0
            ∷ 15 ∷ 0 ∷ 0 ∷ 0 ∷ 0 ∷ 0 ∷ 0 ∷ 0
            ∷ 3 ∷ 3 ∷ 1 ∷ 0 ∷ 0 ∷ 0 ∷ 0 ∷ 0
            ∷ 255 ∷ [];
      },
    )
    ∷ (called (call_lower3 kernel (output 71)), record { answer = 9 * 2 ^ 32; after = output 71 })
    ∷ (
      called (call_lower3 kernel (output 73)),
      record {
        answer = 72;
        after =
            1 ∷ 2 ∷ 1 ∷ 3 ∷ 0 ∷ 0 ∷ 0 ∷ 0 ∷ 7 ∷ 0 ∷ 0 ∷ 0 ∷ 0 ∷ 0 ∷ 0 ∷ 0
            ∷ 1 ∷ 2 ∷ 0 ∷ 0 ∷ 2 ∷ 1 ∷ 0 ∷ 0
            ∷ 4 ∷ 2 ∷ 1 ∷ 0 ∷ 0 ∷ 0 ∷ 0 ∷ 0
            ∷ 5 ∷ 0 ∷ 0 ∷ 0 ∷ 0 ∷ 0 ∷ 0 ∷ 0
            ∷ 13 ∷ 0 ∷ 0 ∷ 0 ∷ 0 ∷ 0 ∷ 0 ∷ 0
            ∷ 6 ∷ 0 ∷ 0 ∷ 0 ∷ 0 ∷ 0 ∷ 0 ∷ 0
            ∷ 14 ∷ 0 ∷ 0 ∷ 0 ∷ 0 ∷ 0 ∷ 0 ∷ 0
            ∷ 3 ∷ 3 ∷ 1 ∷ 0 ∷ 0 ∷ 0 ∷ 0 ∷ 0
            ∷ 255 ∷ [];
      },
    )
    -- the kernel's page has a heading and 6 lines of 33 bytes
    --   "page                           1"
    --   "0   0 SET    2           258   1"
    --   "0   1 STORE  2  1              2"
    --   "0   2 LOCK      0              3"
    --   "0   3 UNLOCK    0              4"
    --   "0   4 MFENCE                    "
    --   "0   5 LOAD   3  1              5"
    ∷ (called (call_page kernel (output 230)), record { answer = 9 * 2 ^ 32; after = output 230 })
    ∷ (
      called (call_page kernel (output 232)),
      record {
        answer = 231;
        after =
            112 ∷ 97 ∷ 103 ∷ 101 ∷ 32 ∷ 32 ∷ 32 ∷ 32 ∷ 32 ∷ 32 ∷ 32 ∷ 32 ∷ 32 ∷ 32 ∷ 32 ∷ 32 ∷ 32 ∷ 32 ∷ 32
            ∷ 32 ∷ 32 ∷ 32 ∷ 32 ∷ 32 ∷ 32 ∷ 32 ∷ 32 ∷ 32 ∷ 32 ∷ 32 ∷ 32 ∷ 49 ∷ 10
            ∷ 48 ∷ 32 ∷ 32 ∷ 32 ∷ 48 ∷ 32 ∷ 83 ∷ 69 ∷ 84 ∷ 32 ∷ 32 ∷ 32 ∷ 32 ∷ 50 ∷ 32 ∷ 32 ∷ 32 ∷ 32 ∷ 32
            ∷ 32 ∷ 32 ∷ 32 ∷ 32 ∷ 32 ∷ 32 ∷ 50 ∷ 53 ∷ 56 ∷ 32 ∷ 32 ∷ 32 ∷ 49 ∷ 10
            ∷ 48 ∷ 32 ∷ 32 ∷ 32 ∷ 49 ∷ 32 ∷ 83 ∷ 84 ∷ 79 ∷ 82 ∷ 69 ∷ 32 ∷ 32 ∷ 50 ∷ 32 ∷ 32 ∷ 49 ∷ 32 ∷ 32
            ∷ 32 ∷ 32 ∷ 32 ∷ 32 ∷ 32 ∷ 32 ∷ 32 ∷ 32 ∷ 32 ∷ 32 ∷ 32 ∷ 32 ∷ 50 ∷ 10
            ∷ 48 ∷ 32 ∷ 32 ∷ 32 ∷ 50 ∷ 32 ∷ 76 ∷ 79 ∷ 67 ∷ 75 ∷ 32 ∷ 32 ∷ 32 ∷ 32 ∷ 32 ∷ 32 ∷ 48 ∷ 32 ∷ 32
            ∷ 32 ∷ 32 ∷ 32 ∷ 32 ∷ 32 ∷ 32 ∷ 32 ∷ 32 ∷ 32 ∷ 32 ∷ 32 ∷ 32 ∷ 51 ∷ 10
            ∷ 48 ∷ 32 ∷ 32 ∷ 32 ∷ 51 ∷ 32 ∷ 85 ∷ 78 ∷ 76 ∷ 79 ∷ 67 ∷ 75 ∷ 32 ∷ 32 ∷ 32 ∷ 32 ∷ 48 ∷ 32 ∷ 32
            ∷ 32 ∷ 32 ∷ 32 ∷ 32 ∷ 32 ∷ 32 ∷ 32 ∷ 32 ∷ 32 ∷ 32 ∷ 32 ∷ 32 ∷ 52 ∷ 10
            ∷ 48 ∷ 32 ∷ 32 ∷ 32 ∷ 52 ∷ 32 ∷ 77 ∷ 70 ∷ 69 ∷ 78 ∷ 67 ∷ 69 ∷ 32 ∷ 32 ∷ 32 ∷ 32 ∷ 32 ∷ 32 ∷ 32
            ∷ 32 ∷ 32 ∷ 32 ∷ 32 ∷ 32 ∷ 32 ∷ 32 ∷ 32 ∷ 32 ∷ 32 ∷ 32 ∷ 32 ∷ 32 ∷ 10
            ∷ 48 ∷ 32 ∷ 32 ∷ 32 ∷ 53 ∷ 32 ∷ 76 ∷ 79 ∷ 65 ∷ 68 ∷ 32 ∷ 32 ∷ 32 ∷ 51 ∷ 32 ∷ 32 ∷ 49 ∷ 32 ∷ 32
            ∷ 32 ∷ 32 ∷ 32 ∷ 32 ∷ 32 ∷ 32 ∷ 32 ∷ 32 ∷ 32 ∷ 32 ∷ 32 ∷ 32 ∷ 53 ∷ 10
            ∷ 255 ∷ [];
      },
    )
    -- refused by the file: number × 2^32 + record
    ∷ (called (call_lower1 (replicate 15 0) (output 3)), record { answer = 2 ^ 32; after = output 3 })
    ∷ (called (call_page (replicate 15 0) (output 3)), record { answer = 2 ^ 32; after = output 3 })
    -- 12 from every call, before 9 and 10
    ∷ (called (call_lower1 downward (output 3)), refused12)
    ∷ (called (call_lower2 downward (output 3)), refused12)
    ∷ (called (call_lower3 downward (output 3)), refused12)
    ∷ (called (call_page downward (output 3)), refused12)
    ∷ (called (call_run_source downward (7 ∷ []) (output 3)), refused12)
    ∷ (called (call_run_tso downward (7 ∷ []) (output 3)), refused12)
    ∷ (called (call_run_pso downward (7 ∷ []) (output 3)), refused12)
    -- a refused file, then 9, then 10
    ∷ (called (call_run_tso (replicate 15 0) (0 ∷ []) (output 3)), record { answer = 2 ^ 32; after = output 3 })
    ∷ (called (call_run_tso kernel (0 ∷ []) (output 3)), record { answer = 9 * 2 ^ 32; after = output 3 })
    ∷ (called (call_run_tso kernel (0 ∷ []) (output 2280)), record { answer = 10 * 2 ^ 32; after = output 2280 })
    ∷ (called (call_run_tso kernel (0 ∷ 2 ∷ []) (output 2280)), record { answer = 10 * 2 ^ 32; after = output 2280 })
    ∷ (called (call_run_source kernel (1 ∷ 0 ∷ []) (output 2280)), record { answer = 10 * 2 ^ 32; after = output 2280 })
    -- choice 64 and 65 of the source and the pso machine, choice 1 of the tso machine, and an odd number of bytes
    ∷ (called (call_run_source kernel (0 ∷ 64 ∷ []) (output 2280)), record { answer = 2280; after = one_waited })
    ∷ (
      called (call_run_source kernel (0 ∷ 65 ∷ []) (output 2280)),
      record { answer = 10 * 2 ^ 32; after = output 2280 },
    )
    ∷ (called (call_run_pso kernel (0 ∷ 64 ∷ []) (output 2280)), record { answer = 2280; after = one_waited })
    ∷ (called (call_run_pso kernel (0 ∷ 65 ∷ []) (output 2280)), record { answer = 10 * 2 ^ 32; after = output 2280 })
    ∷ (called (call_run_tso kernel (0 ∷ 1 ∷ []) (output 2280)), record { answer = 2280; after = one_waited })
    ∷ (
      called (call_run_source kernel (0 ∷ 0 ∷ 0 ∷ []) (output 2280)),
      record { answer = 10 * 2 ^ 32; after = output 2280 },
    )
    -- both machines wait at the LOCK, before which no MFENCE stands
    ∷ (
      called (call_run_source kernel up_to_unlock (output 2281)),
      record { answer = 2280; after = releasing ++ 255 ∷ [] },
    )
    ∷ (called (call_run_tso kernel up_to_unlock (output 2281)), record { answer = 2280; after = releasing ++ 255 ∷ [] })
    -- the commit, LOAD: finished
    ∷ (
      called (call_run_source kernel (up_to_unlock ++ 0 ∷ 1 ∷ 0 ∷ 0 ∷ []) (output 2280)),
      record {
        answer = 2280;
        after = counted 1 0 7 1 ++ memory ++ lane_record (5 ∷ 0 ∷ []) (0 ∷ 0 ∷ []) loaded (replicate 8 0);
      },
    )
    -- MFENCE, which waits, the commit, MFENCE, an instruction of its own, LOAD
    ∷ (
      called (call_run_tso kernel (up_to_unlock ++ 0 ∷ 0 ∷ 0 ∷ 1 ∷ 0 ∷ 0 ∷ 0 ∷ 0 ∷ []) (output 2280)),
      record {
        answer = 2280;
        after = counted 1 0 8 2 ++ memory ++ lane_record (6 ∷ 0 ∷ []) (0 ∷ 0 ∷ []) loaded (replicate 8 0);
      },
    )
    -- a lane at its end with a pending store is not finished; after the commit it is
    ∷ (called (call_run_source storing up_to_store (output 2280)), record { answer = 2280; after = stored })
    ∷ (called (call_run_tso storing up_to_store (output 2280)), record { answer = 2280; after = stored })
    ∷ (called (call_run_pso storing up_to_store (output 2280)), record { answer = 2280; after = stored })
    ∷ (
      called (call_run_source storing (up_to_store ++ 0 ∷ 1 ∷ []) (output 2280)),
      record { answer = 2280; after = committed },
    )
    ∷ (
      called (call_run_tso storing (up_to_store ++ 0 ∷ 1 ∷ []) (output 2280)),
      record { answer = 2280; after = committed },
    )
    -- a store that is pending: location 1, value 258
    ∷ (
      called (call_run_tso kernel (0 ∷ 0 ∷ 0 ∷ 0 ∷ []) (output 2280)),
      record {
        answer = 2280;
        after =
            replicate 8 0 ++ 2 ∷ replicate 79 0
            ++ lane_record (2 ∷ 0 ∷ []) (1 ∷ 0 ∷ []) registers (1 ∷ 1 ∷ 0 ∷ 0 ∷ 2 ∷ 1 ∷ 0 ∷ 0 ∷ []);
      },
    )
    ∷ []

calls_hold : map (λ (e : Called × Called). e.0) calls ≡ map (λ (e : Called × Called). e.1) calls
unfolding refusal_of structure_then fields_then header_rule head_rule bad_record record_rule limit_a limit_b
    limit_constant limit_target lowest first_of bad_linkage linkage_from chain member walk_of chain_too_long
    bad_target unreachable_target lock_fault lock_order all_below descent_at descent_position position op_of ops_from
    record_at fault_position fault_at conflict_below held_from same stands due due_after sheet_bytes read_sheet
    moves_in in_turn entries_bytes state_lane head_bytes record_of kernel storing downward output calls digits decimal
    blank_line in_column in_columns line_in instruction_line heading_line lane_lines lines_from page_lines page_of
    pages_of page_text
calls_hold = refl
