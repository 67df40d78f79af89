-- Small lanes and their parts of the sheets, and the bytes of a small sheet at each level, by computation.
use Rattle.std.specs.Prelude.{ℕ, ◌≡◌, refl, Bool, true, false, List, [], ◌∷◌, map, eqb}
use Rattle.file_format.specs.declared.accepted.Op.{Op}
use Rattle.file_format.specs.declared.accepted.Op.TheVariants.{Set, Add, Load, Store, Lock, Unlock, Skip}
use Rattle.file_format.specs.Accepted.{Program}
use Rattle.barrier_placement.specs.declared.cookbook.Barrier.TheVariants.{LL, LS, SS, SL}
use Rattle.barrier_placement.specs.Place.{stands, due, due_after}
use Rattle.sheet_format.specs.Layout.{Instr, op, barrier, sheet}
use Rattle.sheet_format.specs.declared.Level.TheVariants.{Level0, Level1, Level2, Level3}
use Rattle.sheet_format.specs.Levels.{drains, placed, sheet_lanes}
use Rattle.std.specs.Prelude.{Ok, Err}
use Rattle.file_verdict.specs.declared.refusal.Refusal.TheVariants.{ShortBuffer}
use Rattle.sheet_format.specs.Bytes.{sheet_bytes, write_into}
use Rattle.sheet_format.specs.Read.{read_sheet}

-- location 1 is volatile
abbrev vol : ℕ → Bool
vol x = eqb x 1

-- a lane, and its parts of the sheets of levels 1, 2 and 3
record Example : Type 0 where
  lane : List Op
  first : List Instr
  second : List Instr
  third : List Instr

abbrev lowered : List Op → Example
lowered os = record {
  lane = os;
  first = sheet (placed Level1 vol os);
  second = sheet (placed Level2 vol os);
  third = sheet (placed Level3 vol os);
}

examples : List Example
examples =
    -- a plain store between the volatile store and the volatile load does not part them
    (record {
      lane = Store 0 1 ∷ Store 0 0 ∷ Load 0 1 ∷ [];
      first = op (Store 0 1) ∷ op (Store 0 0) ∷ barrier SL ∷ op (Load 0 1) ∷ [];
      second = op (Store 0 1) ∷ op (Store 0 0) ∷ barrier SL ∷ op (Load 0 1) ∷ [];
      third = op (Store 0 1) ∷ op (Store 0 0) ∷ barrier SL ∷ op (Load 0 1) ∷ [];
    })
    ∷
    -- level 2 drops what is not SL; level 3 keeps SS too
    (record {
      lane = Store 0 0 ∷ Store 0 1 ∷ [];
      first = op (Store 0 0) ∷ barrier SS ∷ op (Store 0 1) ∷ [];
      second = op (Store 0 0) ∷ op (Store 0 1) ∷ [];
      third = op (Store 0 0) ∷ barrier SS ∷ op (Store 0 1) ∷ [];
    })
    ∷
    -- several before one operation stand in the order LL, LS, SS, SL; level 2 has none: the one SL is before a LOCK;
    -- level 3 has the SS alone
    (record {
      lane = Lock 0 ∷ Unlock 0 ∷ Lock 0 ∷ Unlock 0 ∷ [];
      first =
          op (Lock 0) ∷ barrier LS ∷ op (Unlock 0)
          ∷ barrier LL ∷ barrier SL ∷ op (Lock 0)
          ∷ barrier LS ∷ barrier SS ∷ op (Unlock 0) ∷ [];
      second = op (Lock 0) ∷ op (Unlock 0) ∷ op (Lock 0) ∷ op (Unlock 0) ∷ [];
      third = op (Lock 0) ∷ op (Unlock 0) ∷ op (Lock 0) ∷ barrier SS ∷ op (Unlock 0) ∷ [];
    })
    ∷
    -- SL before the LOCK parts the volatile store from the load as well: level 2 has nothing before either
    (record {
      lane = Store 0 1 ∷ Lock 0 ∷ Load 0 1 ∷ Unlock 0 ∷ [];
      first =
          op (Store 0 1) ∷ barrier SL ∷ op (Lock 0) ∷ barrier LL ∷ op (Load 0 1)
          ∷ barrier LS ∷ barrier SS ∷ op (Unlock 0) ∷ [];
      second = op (Store 0 1) ∷ op (Lock 0) ∷ op (Load 0 1) ∷ op (Unlock 0) ∷ [];
      third = op (Store 0 1) ∷ op (Lock 0) ∷ op (Load 0 1) ∷ barrier SS ∷ op (Unlock 0) ∷ [];
    })
    ∷
    -- a volatile store and load behind the LOCK are parted as without it
    (record {
      lane = Lock 0 ∷ Store 0 1 ∷ Load 0 1 ∷ Unlock 0 ∷ [];
      first =
          op (Lock 0) ∷ barrier LS ∷ op (Store 0 1) ∷ barrier LL ∷ barrier SL ∷ op (Load 0 1)
          ∷ barrier LS ∷ barrier SS ∷ op (Unlock 0) ∷ [];
      second = op (Lock 0) ∷ op (Store 0 1) ∷ barrier SL ∷ op (Load 0 1) ∷ op (Unlock 0) ∷ [];
      third = op (Lock 0) ∷ op (Store 0 1) ∷ barrier SL ∷ op (Load 0 1) ∷ barrier SS ∷ op (Unlock 0) ∷ [];
    })
    ∷
    -- a SKIP to a LOCK lands on its first barrier, and at levels 2 and 3 on the LOCK itself
    (record {
      lane = Store 0 1 ∷ Skip 0 3 ∷ Load 0 1 ∷ Lock 0 ∷ Unlock 0 ∷ [];
      first =
          op (Store 0 1) ∷ op (Skip 0 4) ∷ barrier SL ∷ op (Load 0 1)
          ∷ barrier LL ∷ barrier SL ∷ op (Lock 0) ∷ barrier LS ∷ barrier SS ∷ op (Unlock 0) ∷ [];
      second =
          op (Store 0 1) ∷ op (Skip 0 4) ∷ barrier SL ∷ op (Load 0 1) ∷ op (Lock 0) ∷ op (Unlock 0) ∷ [];
      third =
          op (Store 0 1) ∷ op (Skip 0 4) ∷ barrier SL ∷ op (Load 0 1) ∷ op (Lock 0)
          ∷ barrier SS ∷ op (Unlock 0) ∷ [];
    })
    ∷
    -- positions behind a LOCK are counted without the barrier that level 2 leaves out
    (record {
      lane = Store 0 1 ∷ Lock 0 ∷ Unlock 0 ∷ Skip 0 5 ∷ Set 0 1 ∷ Load 0 1 ∷ [];
      first =
          op (Store 0 1) ∷ barrier SL ∷ op (Lock 0) ∷ barrier LS ∷ barrier SS ∷ op (Unlock 0)
          ∷ op (Skip 0 8) ∷ op (Set 0 1) ∷ barrier LL ∷ barrier SL ∷ op (Load 0 1) ∷ [];
      second =
          op (Store 0 1) ∷ op (Lock 0) ∷ op (Unlock 0) ∷ op (Skip 0 5) ∷ op (Set 0 1)
          ∷ barrier SL ∷ op (Load 0 1) ∷ [];
      third =
          op (Store 0 1) ∷ op (Lock 0) ∷ barrier SS ∷ op (Unlock 0) ∷ op (Skip 0 6) ∷ op (Set 0 1)
          ∷ barrier SL ∷ op (Load 0 1) ∷ [];
    })
    ∷
    -- a barrier on one side of a SKIP does not cover the other, and the SKIP lands on its target's first barrier
    (record {
      lane = Store 0 1 ∷ Skip 0 3 ∷ Load 0 1 ∷ Load 0 1 ∷ [];
      first =
          op (Store 0 1) ∷ op (Skip 0 4) ∷ barrier SL ∷ op (Load 0 1)
          ∷ barrier LL ∷ barrier SL ∷ op (Load 0 1) ∷ [];
      second = op (Store 0 1) ∷ op (Skip 0 4) ∷ barrier SL ∷ op (Load 0 1) ∷ barrier SL ∷ op (Load 0 1) ∷ [];
      third = op (Store 0 1) ∷ op (Skip 0 4) ∷ barrier SL ∷ op (Load 0 1) ∷ barrier SL ∷ op (Load 0 1) ∷ [];
    })
    ∷
    -- a SKIP to the end: the end is the count
    (record {
      lane = Store 0 1 ∷ Skip 0 3 ∷ Load 0 1 ∷ [];
      first = op (Store 0 1) ∷ op (Skip 0 4) ∷ barrier SL ∷ op (Load 0 1) ∷ [];
      second = op (Store 0 1) ∷ op (Skip 0 4) ∷ barrier SL ∷ op (Load 0 1) ∷ [];
      third = op (Store 0 1) ∷ op (Skip 0 4) ∷ barrier SL ∷ op (Load 0 1) ∷ [];
    })
    ∷
    []

examples_hold : map (λ (e : Example). lowered e.lane) examples ≡ examples
unfolding examples stands due due_after
examples_hold = refl

-- LOCK alone drains
drains_hold :
    map drains (Set 0 1 ∷ Add 0 1 ∷ Load 0 1 ∷ Store 0 1 ∷ Lock 0 ∷ Unlock 0 ∷ Skip 0 1 ∷ [])
    ≡ false ∷ false ∷ false ∷ false ∷ true ∷ false ∷ false ∷ []
drains_hold = refl

-- two lanes of unlike length
abbrev kernel : Program
kernel = record {
  locations = 2;
  locks = 0;
  mask = 2;
  records = (1 ∷ 2 ∷ []) ∷ (3 ∷ []) ∷ [];
  lanes = (Store 3 1 ∷ Load 4 1 ∷ []) ∷ (Set 5 258 ∷ []) ∷ [];
}

-- level 0 has the operations alone, and the mask
abbrev bare : List ℕ
bare =
    2 ∷ 2 ∷ 0 ∷ 0 ∷ 2 ∷ 0 ∷ 0 ∷ 0 ∷ 2 ∷ 0 ∷ 1 ∷ 0 ∷ 0 ∷ 0 ∷ 0 ∷ 0
    ∷ 4 ∷ 3 ∷ 1 ∷ 0 ∷ 0 ∷ 0 ∷ 0 ∷ 0
    ∷ 3 ∷ 4 ∷ 1 ∷ 0 ∷ 0 ∷ 0 ∷ 0 ∷ 0
    ∷ 1 ∷ 5 ∷ 0 ∷ 0 ∷ 2 ∷ 1 ∷ 0 ∷ 0 ∷ []

abbrev first : List ℕ
first =
    2 ∷ 2 ∷ 0 ∷ 1 ∷ 2 ∷ 0 ∷ 0 ∷ 0 ∷ 3 ∷ 0 ∷ 1 ∷ 0 ∷ 0 ∷ 0 ∷ 0 ∷ 0
    ∷ 4 ∷ 3 ∷ 1 ∷ 0 ∷ 0 ∷ 0 ∷ 0 ∷ 0
    ∷ 14 ∷ 0 ∷ 0 ∷ 0 ∷ 0 ∷ 0 ∷ 0 ∷ 0
    ∷ 3 ∷ 4 ∷ 1 ∷ 0 ∷ 0 ∷ 0 ∷ 0 ∷ 0
    ∷ 1 ∷ 5 ∷ 0 ∷ 0 ∷ 2 ∷ 1 ∷ 0 ∷ 0 ∷ []

-- level 2 has no mask, and 15 for 14
abbrev second : List ℕ
second =
    2 ∷ 2 ∷ 0 ∷ 2 ∷ 0 ∷ 0 ∷ 0 ∷ 0 ∷ 3 ∷ 0 ∷ 1 ∷ 0 ∷ 0 ∷ 0 ∷ 0 ∷ 0
    ∷ 4 ∷ 3 ∷ 1 ∷ 0 ∷ 0 ∷ 0 ∷ 0 ∷ 0
    ∷ 15 ∷ 0 ∷ 0 ∷ 0 ∷ 0 ∷ 0 ∷ 0 ∷ 0
    ∷ 3 ∷ 4 ∷ 1 ∷ 0 ∷ 0 ∷ 0 ∷ 0 ∷ 0
    ∷ 1 ∷ 5 ∷ 0 ∷ 0 ∷ 2 ∷ 1 ∷ 0 ∷ 0 ∷ []

-- level 3 has no mask, and 14
abbrev third : List ℕ
third =
    2 ∷ 2 ∷ 0 ∷ 3 ∷ 0 ∷ 0 ∷ 0 ∷ 0 ∷ 3 ∷ 0 ∷ 1 ∷ 0 ∷ 0 ∷ 0 ∷ 0 ∷ 0
    ∷ 4 ∷ 3 ∷ 1 ∷ 0 ∷ 0 ∷ 0 ∷ 0 ∷ 0
    ∷ 14 ∷ 0 ∷ 0 ∷ 0 ∷ 0 ∷ 0 ∷ 0 ∷ 0
    ∷ 3 ∷ 4 ∷ 1 ∷ 0 ∷ 0 ∷ 0 ∷ 0 ∷ 0
    ∷ 1 ∷ 5 ∷ 0 ∷ 0 ∷ 2 ∷ 1 ∷ 0 ∷ 0 ∷ []

bytes_hold :
    map (λ l. sheet_bytes l kernel) (Level0 ∷ Level1 ∷ Level2 ∷ Level3 ∷ []) ≡ bare ∷ first ∷ second ∷ third ∷ []
unfolding sheet_bytes stands due due_after
bytes_hold = refl

-- and 13 between a plain store and a volatile one
abbrev stores : Program
stores = record {
  locations = 2;
  locks = 0;
  mask = 2;
  records = (1 ∷ 2 ∷ []) ∷ [];
  lanes = (Store 3 0 ∷ Store 4 1 ∷ []) ∷ [];
}

stores_hold : sheet_bytes Level3 stores
    ≡ 1 ∷ 2 ∷ 0 ∷ 3 ∷ 0 ∷ 0 ∷ 0 ∷ 0 ∷ 3 ∷ 0 ∷ 0 ∷ 0 ∷ 0 ∷ 0 ∷ 0 ∷ 0
    ∷ 4 ∷ 3 ∷ 0 ∷ 0 ∷ 0 ∷ 0 ∷ 0 ∷ 0
    ∷ 13 ∷ 0 ∷ 0 ∷ 0 ∷ 0 ∷ 0 ∷ 0 ∷ 0
    ∷ 4 ∷ 4 ∷ 1 ∷ 0 ∷ 0 ∷ 0 ∷ 0 ∷ 0 ∷ []
unfolding sheet_bytes stands due due_after
stores_hold = refl

read_holds : read_sheet second ≡ sheet_lanes Level2 kernel
unfolding read_sheet stands due due_after
read_holds = refl

-- a buffer that is longer keeps what lies behind the sheet; one that is shorter is as it was
fits_hold : write_into (1 ∷ 2 ∷ []) (7 ∷ 8 ∷ 9 ∷ []) ≡ (Ok 2, 1 ∷ 2 ∷ 9 ∷ [])
fits_hold = refl

short_hold : write_into (1 ∷ 2 ∷ []) (7 ∷ []) ≡ (Err ShortBuffer, 7 ∷ [])
short_hold = refl
