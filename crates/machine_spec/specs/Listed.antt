-- The pso machine's pending list as the paper has it, with the marks in their places. proofs/Marks.antt says that the
-- entries with the bits of Marks.antt are this list.
use Rattle.std.specs.Prelude.{Bool, true, false, not, ◌&&◌, cond, List, [], ◌∷◌, ◌++◌, ℕ, zero, suc, ◌/◌, ◌%◌, eqb}
use Rattle.machine_spec.specs.Entries.{Entry, any_same}

pub data EntryOrMark : Type 0 where
  entry : Entry → EntryOrMark
  mark : EntryOrMark

-- entries with their marks, by the bits of ks
abbrev pub listed : List Entry → ℕ → List EntryOrMark
listed [] ks = []
listed (e ∷ es) ks = entry e ∷ cond (eqb (ks % 2) 1) (mark ∷ listed es (ks / 2)) (listed es (ks / 2))

-- with marks left out
abbrev pub entries : List EntryOrMark → List Entry
entries [] = []
entries (entry e ∷ xs) = e ∷ entries xs
entries (mark ∷ xs) = entries xs

-- a mark stands directly behind the entry that has i older ones
abbrev pub mark_behind : ℕ → List EntryOrMark → Bool
mark_behind i [] = false
mark_behind i (mark ∷ xs) = mark_behind i xs
mark_behind zero (entry e ∷ []) = false
mark_behind zero (entry e ∷ mark ∷ xs) = true
mark_behind zero (entry e ∷ entry f ∷ xs) = false
mark_behind (suc i) (entry e ∷ xs) = mark_behind i xs

-- an entry is the newest
abbrev pub ends_in_entry : List EntryOrMark → Bool
ends_in_entry [] = false
ends_in_entry (entry e ∷ []) = true
ends_in_entry (mark ∷ []) = false
ends_in_entry (x ∷ y ∷ xs) = ends_in_entry (y ∷ xs)

-- SS: with nothing pending before it, or right after another mark, it leaves no mark
abbrev pub pass_ss : List EntryOrMark → List EntryOrMark
pass_ss xs = cond (ends_in_entry xs) (xs ++ (mark ∷ [])) xs

-- what is older than the entry that has i older ones
abbrev pub older : ℕ → List EntryOrMark → List EntryOrMark
older i [] = []
older i (mark ∷ xs) = mark ∷ older i xs
older zero (entry e ∷ xs) = []
older (suc i) (entry e ∷ xs) = entry e ∷ older i xs

abbrev pub any_mark : List EntryOrMark → Bool
any_mark [] = false
any_mark (mark ∷ xs) = true
any_mark (entry e ∷ xs) = any_mark xs

-- an entry commits when no older entry has the same location or lock and no SS mark is older
abbrev pub may_leave : ℕ → Entry → List EntryOrMark → Bool
may_leave i e xs = not (any_mark (older i xs)) && not (any_same e (entries (older i xs)))

-- without the entry that has i older ones
abbrev pub removed : ℕ → List EntryOrMark → List EntryOrMark
removed i [] = []
removed i (mark ∷ xs) = mark ∷ removed i xs
removed zero (entry e ∷ xs) = xs
removed (suc i) (entry e ∷ xs) = entry e ∷ removed i xs

-- a mark that becomes the oldest vanishes
abbrev pub vanish : List EntryOrMark → List EntryOrMark
vanish [] = []
vanish (entry e ∷ xs) = entry e ∷ xs
vanish (mark ∷ xs) = vanish xs
