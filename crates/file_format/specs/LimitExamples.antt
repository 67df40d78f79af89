-- The limits of the fields of a header and of a record, by computation: of each the smallest value that breaks its
-- rule, and the largest that keeps it.
use Rattle.std.specs.Prelude.{ℕ, ◌+◌, ◌*◌, ◌≡◌, refl, Bool, true, false, List, [], ◌∷◌, map, set as update}
use Rattle.file_format.specs.declared.accepted.Op.TheVariants.{Set, Add, Load, Store, Lock, Unlock, Skip}
use Rattle.file_format.specs.Search.{lowest}
use Rattle.file_format.specs.Rules.{header_rule, head_rule, bad_record, record_rule}
use Rattle.file_format.specs.Rules.{limit_a, limit_b, limit_constant, limit_target}
use Rattle.file_format.specs.Linkage.{chain}
use Rattle.file_format.specs.Targets.{position}
use Rattle.file_format.specs.Accepted.{program_of, op_of, ops_from}

-- a byte at a place
record Change : Type 0 where
  place : ℕ
  value : ℕ

abbrev at : ℕ → ℕ → Change
at i v = record { place = i; value = v }

changed : List Change → List ℕ → List ℕ
changed [] s = s
changed (e ∷ es) s = changed es (update s e.place e.value)

-- ## headers

-- every field at its largest: four lanes, 16 locations, four locks, every mask bit, 256 records, and each head 256
widest : List ℕ
widest = 4 ∷ 16 ∷ 4 ∷ 0 ∷ 255 ∷ 255 ∷ 0 ∷ 1 ∷ 0 ∷ 1 ∷ 0 ∷ 1 ∷ 0 ∷ 1 ∷ 0 ∷ 1 ∷ []

-- changes of that header, and whether it keeps its rules
abbrev Headers : Type 0
Headers = List (List Change × Bool)

abbrev kept : Headers → List Bool
kept = map (λ (e : List Change × Bool). header_rule (changed e.0 widest))

abbrev expected : Headers → List Bool
expected = map (λ (e : List Change × Bool). e.1)

-- T: 4; 0, without heads, and 1; 5
counts_of_lanes : Headers
counts_of_lanes =
    ([], true)
    ∷ (at 0 0 ∷ at 9 0 ∷ at 11 0 ∷ at 13 0 ∷ at 15 0 ∷ [], false)
    ∷ (at 0 1 ∷ at 11 0 ∷ at 13 0 ∷ at 15 0 ∷ [], true)
    ∷ (at 0 5 ∷ [], false)
    ∷ []

counts_of_lanes_hold : kept counts_of_lanes ≡ expected counts_of_lanes
unfolding counts_of_lanes header_rule head_rule changed widest
counts_of_lanes_hold = refl

-- L: 0 and 1, with no mask bit and bit 0; 17
counts_of_locations : Headers
counts_of_locations =
    (at 1 0 ∷ at 4 0 ∷ at 5 0 ∷ [], false)
    ∷ (at 1 1 ∷ at 4 1 ∷ at 5 0 ∷ [], true)
    ∷ (at 1 17 ∷ [], false)
    ∷ []

counts_of_locations_hold : kept counts_of_locations ≡ expected counts_of_locations
unfolding counts_of_locations header_rule head_rule changed widest
counts_of_locations_hold = refl

-- K: 0; 5
counts_of_locks : Headers
counts_of_locks =
    (at 2 0 ∷ [], true)
    ∷ (at 2 5 ∷ [], false)
    ∷ []

counts_of_locks_hold : kept counts_of_locks ≡ expected counts_of_locks
unfolding counts_of_locks header_rule head_rule changed widest
counts_of_locks_hold = refl

-- byte 3
fourth_bytes : Headers
fourth_bytes =
    (at 3 1 ∷ [], false)
    ∷ []

fourth_bytes_hold : kept fourth_bytes ≡ expected fourth_bytes
unfolding fourth_bytes header_rule head_rule changed widest
fourth_bytes_hold = refl

-- the mask: bit L − 1; bit L
masks : Headers
masks =
    (at 1 15 ∷ at 5 127 ∷ [], true)
    ∷ (at 1 15 ∷ [], false)
    ∷ (at 1 1 ∷ at 4 2 ∷ at 5 0 ∷ [], false)
    ∷ []

masks_hold : kept masks ≡ expected masks
unfolding masks header_rule head_rule changed widest
masks_hold = refl

-- N: 0, without heads; 257
counts_of_records : Headers
counts_of_records =
    (at 7 0 ∷ at 9 0 ∷ at 11 0 ∷ at 13 0 ∷ at 15 0 ∷ [], true)
    ∷ (at 6 1 ∷ [], false)
    ∷ []

counts_of_records_hold : kept counts_of_records ≡ expected counts_of_records
unfolding counts_of_records header_rule head_rule changed widest
counts_of_records_hold = refl

-- a head of N + 1, lane by lane; a head of 0, and of 1, in lane T
heads : Headers
heads =
    (at 8 1 ∷ [], false)
    ∷ (at 10 1 ∷ [], false)
    ∷ (at 12 1 ∷ [], false)
    ∷ (at 14 1 ∷ [], false)
    ∷ (at 0 3 ∷ at 15 0 ∷ [], true)
    ∷ (at 0 3 ∷ at 14 1 ∷ at 15 0 ∷ [], false)
    ∷ (at 0 2 ∷ at 13 0 ∷ at 15 0 ∷ [], true)
    ∷ (at 0 2 ∷ at 12 1 ∷ at 13 0 ∷ at 15 0 ∷ [], false)
    ∷ (at 0 1 ∷ at 10 1 ∷ at 11 0 ∷ at 13 0 ∷ at 15 0 ∷ [], false)
    ∷ []

heads_hold : kept heads ≡ expected heads
unfolding heads header_rule head_rule changed widest
heads_hold = refl

-- ## records

-- One lane, five locations, three locks and nine records, each followed by the next one. Record i has operation i, up
-- to SKIP, with every field at its largest: register 7, location 4, lock 2, constant 2^32 − 1, target and next 9.
fullest : List ℕ
fullest =
    1 ∷ 5 ∷ 3 ∷ 0 ∷ 31 ∷ 0 ∷ 9 ∷ 0 ∷ 1 ∷ 0 ∷ 0 ∷ 0 ∷ 0 ∷ 0 ∷ 0 ∷ 0
    ∷ 1 ∷ 7 ∷ 0 ∷ 0 ∷ 255 ∷ 255 ∷ 255 ∷ 255 ∷ 0 ∷ 0 ∷ 2 ∷ 0
    ∷ 2 ∷ 7 ∷ 7 ∷ 0 ∷ 0 ∷ 0 ∷ 0 ∷ 0 ∷ 0 ∷ 0 ∷ 3 ∷ 0
    ∷ 3 ∷ 7 ∷ 4 ∷ 0 ∷ 0 ∷ 0 ∷ 0 ∷ 0 ∷ 0 ∷ 0 ∷ 4 ∷ 0
    ∷ 4 ∷ 7 ∷ 4 ∷ 0 ∷ 0 ∷ 0 ∷ 0 ∷ 0 ∷ 0 ∷ 0 ∷ 5 ∷ 0
    ∷ 5 ∷ 0 ∷ 2 ∷ 0 ∷ 0 ∷ 0 ∷ 0 ∷ 0 ∷ 0 ∷ 0 ∷ 6 ∷ 0
    ∷ 6 ∷ 0 ∷ 2 ∷ 0 ∷ 0 ∷ 0 ∷ 0 ∷ 0 ∷ 0 ∷ 0 ∷ 7 ∷ 0
    ∷ 7 ∷ 7 ∷ 0 ∷ 0 ∷ 0 ∷ 0 ∷ 0 ∷ 0 ∷ 9 ∷ 0 ∷ 8 ∷ 0
    ∷ 1 ∷ 0 ∷ 0 ∷ 0 ∷ 0 ∷ 0 ∷ 0 ∷ 0 ∷ 0 ∷ 0 ∷ 9 ∷ 0
    ∷ 1 ∷ 0 ∷ 0 ∷ 0 ∷ 0 ∷ 0 ∷ 0 ∷ 0 ∷ 0 ∷ 0 ∷ 0 ∷ 0
    ∷ []

fullest_holds : bad_record fullest ≡ 0
unfolding bad_record record_rule lowest limit_a limit_b limit_constant limit_target fullest
fullest_holds = refl

-- the byte at a place of record i takes the smallest value that breaks its rule
record Breaks : Type 0 where
  of : ℕ
  place : ℕ
  value : ℕ

abbrev breaks : ℕ → ℕ → ℕ → Breaks
breaks i place v = record { of = i; place = place; value = v }

abbrev found : List Breaks → List ℕ
found = map (λ (e : Breaks). bad_record (update fullest (4 + 12 * e.of + e.place) e.value))

abbrev named : List Breaks → List ℕ
named = map (λ (e : Breaks). e.of)

-- no operation 0, 8 or 255
operations : List Breaks
operations =
    breaks 9 0 0 ∷ breaks 9 0 8 ∷ breaks 9 0 255
    ∷ []

operations_hold : found operations ≡ named operations
unfolding operations bad_record record_rule lowest limit_a limit_b limit_constant limit_target fullest
operations_hold = refl

-- a: of SET, ADD, LOAD, STORE, SKIP; unused by LOCK and UNLOCK
registers : List Breaks
registers =
    breaks 1 1 8 ∷ breaks 2 1 8 ∷ breaks 3 1 8 ∷ breaks 4 1 8 ∷ breaks 5 1 1 ∷ breaks 6 1 1 ∷ breaks 7 1 8
    ∷ []

registers_hold : found registers ≡ named registers
unfolding registers bad_record record_rule lowest limit_a limit_b limit_constant limit_target fullest
registers_hold = refl

-- b: unused by SET and SKIP; register, location, lock
operands : List Breaks
operands =
    breaks 1 2 1 ∷ breaks 2 2 8 ∷ breaks 3 2 5 ∷ breaks 4 2 5 ∷ breaks 5 2 3 ∷ breaks 6 2 3 ∷ breaks 7 2 1
    ∷ []

operands_hold : found operands ≡ named operands
unfolding operands bad_record record_rule lowest limit_a limit_b limit_constant limit_target fullest
operands_hold = refl

-- byte 3
zeros : List Breaks
zeros =
    breaks 1 3 1 ∷ breaks 2 3 1 ∷ breaks 3 3 1 ∷ breaks 4 3 1 ∷ breaks 5 3 1 ∷ breaks 6 3 1 ∷ breaks 7 3 1
    ∷ []

zeros_hold : found zeros ≡ named zeros
unfolding zeros bad_record record_rule lowest limit_a limit_b limit_constant limit_target fullest
zeros_hold = refl

-- unused by all but SET; every byte of it by ADD
constants : List Breaks
constants =
    breaks 2 4 1 ∷ breaks 3 4 1 ∷ breaks 4 4 1 ∷ breaks 5 4 1 ∷ breaks 6 4 1 ∷ breaks 7 4 1
    ∷ breaks 2 5 1 ∷ breaks 2 6 1
    ∷ breaks 2 7 1
    ∷ []

constants_hold : found constants ≡ named constants
unfolding constants bad_record record_rule lowest limit_a limit_b limit_constant limit_target fullest
constants_hold = refl

-- unused by all but SKIP; N + 1; the high byte
targets : List Breaks
targets =
    breaks 1 8 1 ∷ breaks 2 8 1 ∷ breaks 3 8 1 ∷ breaks 4 8 1 ∷ breaks 5 8 1 ∷ breaks 6 8 1
    ∷ breaks 7 8 10 ∷ breaks 2 9 1
    ∷ []

targets_hold : found targets ≡ named targets
unfolding targets bad_record record_rule lowest limit_a limit_b limit_constant limit_target fullest
targets_hold = refl

-- N + 1; the high byte
nexts : List Breaks
nexts =
    breaks 1 10 10 ∷ breaks 2 10 10 ∷ breaks 3 10 10 ∷ breaks 4 10 10 ∷ breaks 5 10 10 ∷ breaks 6 10 10
    ∷ breaks 7 10 10 ∷ breaks 2 11 1
    ∷ []

nexts_hold : found nexts ≡ named nexts
unfolding nexts bad_record record_rule lowest limit_a limit_b limit_constant limit_target fullest
nexts_hold = refl

-- of two bad records the lowest
lowest_holds : bad_record (changed (at (4 + 12 * 8) 0 ∷ at (4 + 12 * 6 + 3) 1 ∷ []) fullest) ≡ 6
unfolding bad_record record_rule lowest limit_a limit_b limit_constant limit_target changed fullest
lowest_holds = refl

-- ## the kernel that the file stands for: every operation with its fields, the SKIP with its target's position

fullest_means : program_of fullest ≡ record {
  locations = 5;
  locks = 3;
  mask = 31;
  records = (1 ∷ 2 ∷ 3 ∷ 4 ∷ 5 ∷ 6 ∷ 7 ∷ 8 ∷ 9 ∷ []) ∷ [];
  lanes = (
      Set 7 4294967295 ∷ Add 7 7 ∷ Load 7 4 ∷ Store 7 4 ∷ Lock 2 ∷ Unlock 2 ∷ Skip 7 8 ∷ Set 0 0 ∷ Set 0 0 ∷ [])
      ∷ [];
}
unfolding chain position op_of ops_from fullest
fullest_means = refl
