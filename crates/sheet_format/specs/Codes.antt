-- The operation codes in the bytes of a sheet, and those that each level has.
use Rattle.std.specs.Prelude.{ℕ, zero, suc, ◌≤◌, ◌≡◌, refl, List, [], ◌∷◌, ◌⊎◌, get_or, drop}
use Rattle.sheet_format.specs.declared.Level.{Level}
use Rattle.sheet_format.specs.declared.Level.TheVariants.{Level0, Level1, Level2, Level3}
use Rattle.sheet_format.specs.Read.{past_rows, counts}

-- the first byte of each of n rows of 8 bytes
abbrev pub row_codes : ℕ → List ℕ → List ℕ
row_codes zero b = []
row_codes (suc n) b = get_or b 0 0 ∷ row_codes n (drop 8 b)

-- lane after lane, of these counts
abbrev pub lane_codes : List ℕ → List ℕ → List (List ℕ)
lane_codes [] b = []
lane_codes (n ∷ ns) b = row_codes n b ∷ lane_codes ns (past_rows n b)

-- of a sheet: by the header's counts, as `read_sheet` goes
unfoldable pub codes_in : List ℕ → List (List ℕ)
codes_in b = lane_codes (counts b) (drop 16 b)

-- none at level 0; 11 LL, 12 LS, 13 SS, 14 SL; at level 2 just 15 MFENCE, at level 3 13 and 14
abbrev pub BarrierCode : Level → ℕ → Type 0
BarrierCode Level0 c = ⊥
BarrierCode Level1 c = (11 ≤ c) × (c ≤ 14)
BarrierCode Level2 c = c ≡ 15
BarrierCode Level3 c = (13 ≤ c) × (c ≤ 14)

-- an operation, 1 to 7, or a barrier of the level
abbrev pub Code : Level → ℕ → Type 0
Code l c = ((1 ≤ c) × (c ≤ 7)) ⊎ BarrierCode l c

-- two lanes: STORE, MFENCE, LOAD; and SET
example : codes_in
    (2 ∷ 2 ∷ 0 ∷ 2 ∷ 0 ∷ 0 ∷ 0 ∷ 0 ∷ 3 ∷ 0 ∷ 1 ∷ 0 ∷ 0 ∷ 0 ∷ 0 ∷ 0
    ∷ 4 ∷ 3 ∷ 1 ∷ 0 ∷ 0 ∷ 0 ∷ 0 ∷ 0
    ∷ 15 ∷ 0 ∷ 0 ∷ 0 ∷ 0 ∷ 0 ∷ 0 ∷ 0
    ∷ 3 ∷ 4 ∷ 1 ∷ 0 ∷ 0 ∷ 0 ∷ 0 ∷ 0
    ∷ 1 ∷ 5 ∷ 0 ∷ 0 ∷ 2 ∷ 1 ∷ 0 ∷ 0 ∷ [])
    ≡ (4 ∷ 15 ∷ 3 ∷ []) ∷ (1 ∷ []) ∷ []
unfolding codes_in
example = refl
