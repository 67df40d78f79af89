-- Laws of the bytes of entries: a store, a release, and a place of a lane's list.
use Prim.Native.Nat.{ℕ, suc, ◌-◌, ◌≤◌, ◌<◌}
use mathlib.Core.Path.{◌≡◌, sym, ap, ◌∙◌}
use mathlib.Core.Bool.{Bool, cond}
use mathlib.Core.List.{List}
use mathlib.Core.Option.{none, some}
use native.Mathlib.Decide.{dec_le}
use native.Mathlib.Omega.{arith}
use lib.Dec.{ltb}
use lib.ListN.{length, get_or, get_elem?, take, length-take}
use lib.Seq.{get_or-take}
use borrow.Author.Tests.{lt-ltb, le-ltb}
use Rattle.laws.proofs.Lists.{at_some, at_beyond}
use Rattle.sheet_format.specs.Bytes.{row}
use Rattle.machine_spec.specs.Entries.{write, release}
use Rattle.machine_lane.specs.Lanes.{no_entry, entry_of, entries_of}
use Rattle.machine_lane.proofs.Laws.Entries.{entries_length, entries_at}
use Rattle.machine_record.specs.Lanes.{flag, entry_bytes}

-- f being the flag of the mark
module _ {f : ℕ} (m : Bool) (told : f ≡ flag m) (c v : ℕ) where
  pub store_bytes : c < 16 → row 1 c f v ≡ entry_bytes m (entry_of c v)
  store_bytes h =
      ap (λ n. row 1 c n v) told
      ∙ ap (λ b. entry_bytes m (cond b (write c v) (release (c - 16)))) (sym (lt-ltb c 16 h))

  pub release_bytes : 16 ≤ c → row 2 (c - 16) f 0 ≡ entry_bytes m (entry_of c v)
  release_bytes h =
      ap (λ n. row 2 (c - 16) n 0) told
      ∙ ap (λ b. entry_bytes m (cond b (write c v) (release (c - 16)))) (sym (le-ltb c 16 h))

-- what stands at place i of the first n entries of full rows
module _ (cs vs : List ℕ) (n i : ℕ) (full : length cs ≡ 64) (whole : length vs ≡ 64) where
  pub place_there : i < 64 → i < n
      → some (entry_of (get_or cs i 0) (get_or vs i 0)) ≡ get_elem? (take n (entries_of cs vs)) i
  place_there h l =
      let es = entries_of cs vs in
      let size = entries_length 64 cs vs full whole in
      let inside : i < length (take n es) = omega (arith, length-take n es, size) in
      sym (at_some (take n es) i no_entry inside ∙ ap some
      (get_or-take n es i no_entry l ∙ entries_at cs vs i no_entry (omega (arith, size))))

  pub place_free : n ≤ i → none ≡ get_elem? (take n (entries_of cs vs)) i
  place_free l =
      let es = entries_of cs vs in
      sym (at_beyond (take n es) i (omega (arith, length-take n es)))

  -- both together
  pub place_is : i < 64
      → cond (ltb i n) (some (entry_of (get_or cs i 0) (get_or vs i 0))) none ≡ get_elem? (take n (entries_of cs vs)) i
  place_is h = go (dec_le (suc i) n)
    where
      go : Dec (i < n)
          → cond (ltb i n) (some (entry_of (get_or cs i 0) (get_or vs i 0))) none
          ≡ get_elem? (take n (entries_of cs vs)) i
      go (yes l) = rw (lt-ltb i n l) (place_there h l)
      go (no l) =
          let free : n ≤ i = omega arith in
          rw (le-ltb i n free) (place_free free)
