-- Laws of the pass over a lane's rows: what it knows before row p, and how it goes on from there.
use Prim.Native.Nat.{ℕ, ◌+◌, ◌-◌, ◌*◌, ◌%◌, ◌≤◌, ◌<◌}
use mathlib.Core.Path.{◌≡◌, refl, sym, ap, ap₂, ◌∙◌}
use mathlib.Core.Bool.{Bool, true, false, not}
use mathlib.Core.List.{List, [], ◌∷◌}
use mathlib.Core.Option.{some}
use Rattle.std.specs.Prelude.{Option}
use Rattle.std.specs.Option.{option_or}
use native.Mathlib.Omega.{arith}
use borrow.Author.Tests.{eq-eqb, ne_eqb}
use lib.Bits.{bit_or, bit_xor, or_lt, xor_lt}
use lib.Dec.{eqb}
use lib.ListN.{length, get_or, set, replicate}
use Rattle.laws.proofs.Bools.{or_false}
use Rattle.laws.proofs.Lists.{at_some}
use Rattle.file_format.specs.declared.accepted.Op.{Op}
use Rattle.file_format.specs.Held.{same, held, held_from, conflict_below, misuse, fault_at, fault_position}
use Rattle.file_format.specs.Rising.{descent_at, descent_position}
use Rattle.file_format.specs.Search.{lowest}
use Rattle.file_format.specs.Stored.{no_op}
use Rattle.file_format.proofs.Laws.Search.{search_start, search_on, search_found, search_none}
use Rattle.sheet_rows.specs.Lanes.{fields_of}
use Rattle.file_locks.specs.Sets.{locks_in, meets, ways, differ, lock_bit, barred, wrong_at, suspect_at, descends_at}
use Rattle.file_locks.specs.Sets.{after_row}
use Rattle.file_locks.specs.Lanes.{descent_here, LaneIn, Clean}
use Rattle.file_locks.proofs.Laws.Locks.{agree_same, after_ways, ways_small, bit_small, skip_after, unsuspected}
use Rattle.file_locks.proofs.Laws.Held.{row_code, row_b_lem, row_target_lem, jump_by, row_wrong, row_descends, row_next}
use Rattle.file_locks.proofs.Laws.Held.{held_on}
use Rattle.file_locks.proofs.Laws.Descents.{Sought, sought_on}
use Rattle.file_locks.proofs.Laws.Sets.{LedTo, led_start, led_past, led_put, fault_inside, fault_end}

-- the rule is broken at a position counted from 1
abbrev broken : List Op → ℕ → Bool
broken ops j = fault_at ops (j - 1)

-- a lane without operations keeps both rules
pub empty_clean : (ops : List Op) → length ops ≡ 0 → Clean ops
unfolding fault_position fault_at conflict_below held_from same descent_position lowest
empty_clean [] e = (refl, refl)
empty_clean (o ∷ ops) e = absurd (omega arith)

-- before row p: the ways there all hold the position's set, what SKIPs led where, and the first fault is at p or behind
pub record Passed (ops : List Op) (n p w : ℕ) (led : List ℕ) : Type 0 where
  pub h : ℕ
  pub few : h < 16
  pub ways_of : w ≡ ways h
  pub set_is : locks_in h ≡ held ops p
  pub led_to : LedTo ops p led
  pub rest : lowest (broken ops) (p + 1) (n + 1 + 1 - (p + 1)) ≡ fault_position ops

module _ {rows : List ℕ} {n : ℕ} {ops : List Op} (lane : LaneIn rows n ops) (short : n ≤ 64) where
  many : length ops ≡ n
  many = lane.held.count

  pub pass_start : Passed ops n 0 240 (replicate 65 0)
  unfolding fault_position held_from
  pass_start = record {
    h = 0;
    few = omega arith;
    ways_of = refl;
    set_is = refl;
    led_to = led_start ops (omega (arith, many));
    rest = rw many (search_start (broken ops) 1 (n + 1));
  }

  module _ (p w : ℕ) (led : List ℕ) (at : Passed ops n p w led) where
    -- at row p, where it is not suspect
    pub pass_clear : p < n → {bit : ℕ} → bit ≡ lock_bit (get_or rows (8 * p) 0) (get_or rows (8 * p + 2) 0)
        → suspect_at (bit_or w (get_or led p 0)) (get_or rows (8 * p) 0) bit ≡ false
        → (wrong_at (bit_or w (get_or led p 0)) (get_or rows (8 * p) 0) bit ≡ false)
        × (descends_at (bit_or w (get_or led p 0)) (get_or rows (8 * p) 0) bit ≡ false)
    pass_clear below {bit} eb e =
        let small : w < 256 = omega (arith, at.ways_of, ways_small at.h at.few) in
        let named = lane.named p (omega (arith, many)) in
        rw eb
        (unsuspected (bit_or w (get_or led p 0)) (get_or rows (8 * p) 0) (get_or rows (8 * p + 2) 0)
        (or_lt 8 w (get_or led p 0) small (at.led_to.bytes p))
        (λ l. omega (arith, row_b_lem lane p below, named (omega (arith, row_code lane p below)))) (rw eb at e))

    -- at row p, with the lock that it names
    module _
        (below : p < n) {bit : ℕ} {t : Bool}
        (eb : bit ≡ lock_bit (get_or rows (8 * p) 0) (get_or rows (8 * p + 2) 0))
        (et : t ≡ wrong_at (bit_or w (get_or led p 0)) (get_or rows (8 * p) 0) bit)
      where
        abbrev o : Op
        o = get_or ops p no_op

        abbrev code : ℕ
        code = (fields_of o).code

        abbrev own : ℕ
        own = lock_bit code (fields_of o).b

        abbrev here : ℕ
        here = bit_or (ways at.h) (get_or led p 0)

        inside : p < length ops
        inside = omega (arith, many)

        names : bit ≡ own
        names = eb ∙ ap₂ lock_bit (row_code lane p below) (row_b_lem lane p below)

        tests : t ≡ wrong_at here code own
        tests = et ∙ (λ i. wrong_at (bit_or (at.ways_of i) (get_or led p 0)) (row_code lane p below i) (names i))

        wrong : meets (barred (ways at.h) code) own ≡ misuse (locks_in at.h) (some o)
        wrong = row_wrong at.h at.few o (lane.named p inside)

        tested : {v : Bool} → t ≡ v → fault_at ops (p + 1 - 1) ≡ v
        tested e =
            fault_inside ops lane.onward p at.h led at.led_to at.few at.set_is code own inside wrong
            ∙ sym tests ∙ e

        pub pass_found : t ≡ true → p + 1 ≡ fault_position ops
        pass_found e = search_found (broken ops) (p + 1) (n + 1 + 1) (omega arith) (tested e) at.rest

        -- the ways agree, and the rule is kept
        module _ (e : t ≡ false) where
          kept : (differ here ≡ false) × (meets (barred here code) own ≡ false)
          kept = or_false _ _ (sym tests ∙ e)

          agreed : here ≡ ways at.h
          agreed = agree_same at.h (get_or led p 0) at.few (at.led_to.bytes p) kept.0

          joined : bit_or w (get_or led p 0) ≡ ways at.h
          joined = ap (λ x. bit_or x (get_or led p 0)) at.ways_of ∙ agreed

          right : misuse (locks_in at.h) (some o) ≡ false
          right = sym wrong ∙ ap (λ x. meets (barred x code) own) (sym agreed) ∙ kept.1

          descended : descent_at ops (p + 1 - 1) ≡ descends_at (bit_or w (get_or led p 0)) (get_or rows (8 * p) 0) bit
          unfolding descent_at
          descended =
              let back : p + 1 - 1 ≡ p = omega arith in
              rw (back, at_some ops p no_op inside, ← at.set_is)
              (sym (row_descends at.h at.few o (lane.named p inside))
              ∙ sym (λ i. descends_at (joined i) (row_code lane p below i) (names i)))

          -- what was found of descents with o found before, and x at the row
          pub pass_sought : (o : Option ℕ) {x y : Option ℕ}
              → x ≡ descent_here (bit_or w (get_or led p 0)) (get_or rows (8 * p) 0) bit (p + 1)
              → y ≡ option_or o x → Sought ops n p o → Sought ops n (p + 1) y
          pass_sought o ex ey s = sought_on ops n p o below descended (ey ∙ ap (option_or o) ex) s

          -- the ways v after the row
          module _ {v : ℕ} (ev : v ≡ after_row (bit_or w (get_or led p 0)) bit) where
            pub pass_on : {led' : List ℕ} → LedTo ops (p + 1) led' → Passed ops n (p + 1) v led'
            pass_on to =
                let small = bit_small code (fields_of o).b in record {
                  h = bit_xor at.h own;
                  few = xor_lt 4 at.h own at.few small;
                  ways_of = ev ∙ (λ i. after_row (joined i) (names i)) ∙ after_ways at.h own at.few small;
                  set_is = held_on ops p inside at.set_is
                      (row_next at.h at.few o (lane.named p inside) right);
                  led_to = to;
                  rest = search_on (broken ops) (p + 1) (n + 1 + 1) (omega arith) (tested e) at.rest;
                }

            -- what row p leads where
            pub lead_skip : get_or rows (8 * p) 0 ≡ 7 → {led' : List ℕ}
                → led' ≡ set led (get_or rows (8 * p + 4) 0) (bit_or (get_or led (get_or rows (8 * p + 4) 0) 0) v)
                → LedTo ops (p + 1) led'
            lead_skip e7 is =
                let is-7 : 7 ≡ code = sym e7 ∙ row_code lane p below in
                let word = row_target_lem lane p below short is-7 in
                let near = lane.within p inside (sym is-7) in
                let jump = rw (eq-eqb code 7 (sym is-7)) at (jump_by o) in
                let same = ev ∙ (λ i. after_row (joined i) ((eb ∙ ap (λ x. lock_bit x (get_or rows (8 * p + 2) 0)) e7)
                i))
                ∙ skip_after (ways at.h) (get_or rows (8 * p + 2) 0) in
                rw is
                (led_put ops p led at.led_to inside (word ∙ jump) (omega (arith, near, many)) (omega (arith, many))
                at.few at.set_is (ap (bit_or (get_or led (get_or rows (8 * p + 4) 0) 0)) same))

    pub lead_none : p < n → ¬ get_or rows (8 * p) 0 ≡ 7 → {led' : List ℕ} → led' ≡ led → LedTo ops (p + 1) led'
    lead_none below n7 is =
        let other = ne_eqb (fields_of (get_or ops p no_op)).code 7 (λ e. n7 (row_code lane p below ∙ e)) in
        rw is
        (led_past ops p led at.led_to (omega (arith, many)) (rw other at (jump_by (get_or ops p no_op)))
        (omega (arith, many)))

    -- at the end
    module _ (last : n ≤ p) (most : p ≤ n) where
      end : p ≡ n
      end = omega arith

      tested_end : {v : Bool} → not (eqb (bit_or w (get_or led n 0) % 16) 0) ≡ v → fault_at ops (p + 1 - 1) ≡ v
      tested_end e =
          fault_end ops lane.onward p at.h led at.led_to at.few at.set_is (end ∙ sym many)
          ∙ (λ i. not (eqb (bit_or (sym at.ways_of i) (get_or led (end i) 0) % 16) 0)) ∙ e

      pub end_found : ¬ bit_or w (get_or led n 0) % 16 ≡ 0 → n + 1 ≡ fault_position ops
      end_found e =
          rw (← end) (search_found (broken ops) (p + 1) (n + 1 + 1) (omega arith)
          (tested_end (ap not (ne_eqb _ 0 e))) at.rest)

      pub end_none : bit_or w (get_or led n 0) % 16 ≡ 0 → 0 ≡ fault_position ops
      end_none e =
          search_none (broken ops) (p + 1 + 1) (n + 1 + 1) (omega arith)
          (search_on (broken ops) (p + 1) (n + 1 + 1) (omega arith) (tested_end (ap not (eq-eqb _ 0 e))) at.rest)
