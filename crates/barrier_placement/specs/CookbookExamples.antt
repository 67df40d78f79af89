-- The paper's cookbook table, row by row, and what each operation is to it, by computation.
use Rattle.std.specs.Prelude.{◌≡◌, refl, List, [], ◌∷◌, map}
use Rattle.std.proofs.Math.Option.{Option, none, some}
use Rattle.file_format.specs.Accepted.{is_volatile}
use Rattle.file_format.specs.declared.accepted.Op.TheVariants.{Set, Add, Load, Store, Lock, Unlock, Skip as SkipOp}
use Rattle.barrier_placement.specs.Cookbook.{Class, PL, PS, VL, VS, Barrier, LL, LS, SS, SL, cell, code_of}
use Rattle.barrier_placement.specs.Chain.{Access}
use Rattle.barrier_placement.specs.Steps.{class_of}
use Rattle.barrier_placement.specs.Place.{before, stands, due, due_after}

abbrev kinds : List Class
kinds = PL ∷ PS ∷ VL ∷ VS ∷ []

-- first, second | PL | PS | VL | VS
paper : List (List (Option Barrier))
paper =
    (none ∷ none ∷ none ∷ some LS ∷ [])
    ∷ (none ∷ none ∷ none ∷ some SS ∷ [])
    ∷ (some LL ∷ some LS ∷ some LL ∷ some LS ∷ [])
    ∷ (none ∷ none ∷ some SL ∷ some SS ∷ [])
    ∷ []

table_holds : map (λ c. map (cell c) kinds) kinds ≡ paper
unfolding paper
table_holds = refl

-- the same of the placement: what stands before the second of two accesses
placed_holds :
    map (λ c. map (λ d. before (Access c ∷ Access d ∷ []) 1) kinds) kinds
    ≡ ([] ∷ [] ∷ [] ∷ (LS ∷ []) ∷ [])
    ∷ ([] ∷ [] ∷ [] ∷ (SS ∷ []) ∷ [])
    ∷ ((LL ∷ []) ∷ (LS ∷ []) ∷ (LL ∷ []) ∷ (LS ∷ []) ∷ [])
    ∷ ([] ∷ [] ∷ (SL ∷ []) ∷ (SS ∷ []) ∷ [])
    ∷ []
unfolding stands due due_after
placed_holds = refl

-- the codes of a level 1 sheet
codes_hold : map code_of (LL ∷ LS ∷ SS ∷ SL ∷ []) ≡ 11 ∷ 12 ∷ 13 ∷ 14 ∷ []
codes_hold = refl

-- mask 2: plain and volatile loads and stores, LOCK as a volatile load, UNLOCK as a volatile store
classes_hold :
    map (class_of (is_volatile 2))
    (Load 0 0 ∷ Store 0 0 ∷ Load 0 1 ∷ Store 0 1 ∷ Lock 0 ∷ Unlock 0 ∷ Set 0 1 ∷ Add 0 1 ∷ SkipOp 0 1 ∷ [])
    ≡ some PL ∷ some PS ∷ some VL ∷ some VS ∷ some VL ∷ some VS ∷ none ∷ none ∷ none ∷ []
classes_hold = refl
