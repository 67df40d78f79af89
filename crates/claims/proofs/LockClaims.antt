-- What a lane claims of the locks, by holding them or by pending releases; taking and releasing keep the claims.
use mathlib.Core.Path.{◌≡◌, refl, ◌∙◌, sym}
use mathlib.Core.Bool.{Bool, true, false, ◌||◌}
use mathlib.Core.List.{List, [], ◌∷◌, ◌++◌}
use mathlib.Core.Logic.{◌≢◌}
use mathlib.Core.Option.{some}
use Prim.Native.Nat.{ℕ, zero, suc, ◌+◌, ◌<◌}
use native.Mathlib.Omega.{arith}
use native.Mathlib.Decide.{ℕ_discrete, dec_lt}
use lib.Dec.{eqb}
use borrow.Author.Tests.{eqb-true, eq-eqb, ne_eqb}
use lib.ListN.{length, get_or, get_elem?, length-set, get_or-eq_default, set as update}
use lib.Seq.{get_or-set_same, get_or-set_other}
use Rattle.machine_spec.specs.Entries.{Entry, write, release, without}
use Rattle.machine_spec.specs.Step.{Core}

abbrev pub one : Bool → ℕ
one true = 1
one false = 0

abbrev pub single : ℕ → Entry → ℕ
single l (write x v) = 0
single l (release k) = one (eqb k l)

-- pending releases of l
abbrev pub releases : ℕ → List Entry → ℕ
releases l [] = 0
releases l (e ∷ es) = single l e + releases l es

pub releases_snoc : (l : ℕ) (es : List Entry) (e : Entry) → releases l (es ++ (e ∷ [])) ≡ releases l es + single l e
releases_snoc l [] e = omega arith
releases_snoc l (x ∷ es) e = omega (arith, releases_snoc l es e)

pub releases_without : (l i : ℕ) (es : List Entry) (e : Entry) → get_elem? es i ≡ some e
    → releases l es ≡ single l e + releases l (without i es)
releases_without l i [] e k = cc
releases_without l zero (x ∷ es) e k = let same : x ≡ e = cc in rw same
releases_without l (suc i) (x ∷ es) e k = omega (arith, releases_without l i es e k)

-- what lane t claims of lock l: it holds it, or its release is pending
abbrev pub claim : Bool → List Entry → ℕ → ℕ
claim b es l = one b + releases l es

-- the word of a lock is lane t's exactly while the lane claims the lock, and it claims it once
abbrev pub Claims : (ℕ → Bool) → ℕ → List Entry → List ℕ → Type 0
Claims held t es locks = (l : ℕ) → claim (held l) es l ≡ one (eqb (get_or locks l 0) (suc t))

-- the word of a free lock is no lane's
pub free_word : (t : ℕ) → eqb 0 (suc t) ≡ false
free_word t = ne_eqb 0 (suc t) (λ z. omega arith)

own_word : (t u : ℕ) → u ≢ t → eqb (suc t) (suc u) ≡ false
own_word t u ne = ne_eqb (suc t) (suc u) (λ z. ne (omega arith))

-- a turn of lane t keeps its claims, and other lanes' words
pub record Kept (n : ℕ) (held : ℕ → Bool) (t : ℕ) (locks : List ℕ) (d : Core) : Type 0 where
  pub claims : Claims held t d.pending d.locks
  pub foreign : (l u : ℕ) → u ≢ t → eqb (get_or d.locks l 0) (suc u) ≡ eqb (get_or locks l 0) (suc u)
  pub count : length d.locks ≡ n

module _ (n : ℕ) (t : ℕ) (es : List Entry) (locks : List ℕ) (len : length locks ≡ n) (held : ℕ → Bool)
    (h : Claims held t es locks) where
  -- a lock that the lane claims has its word
  pub claimed_word : (l : ℕ) → 0 < claim (held l) es l → eqb (get_or locks l 0) (suc t) ≡ true
  claimed_word l c = go (eqb (get_or locks l 0) (suc t)) refl
    where
      go : (b : Bool) → eqb (get_or locks l 0) (suc t) ≡ b → eqb (get_or locks l 0) (suc t) ≡ true
      go true w = w
      go false w = let z : claim (held l) es l ≡ 0 = h l ∙ rw w in absurd (omega arith)

  -- nothing claimed changes
  pub unchanged : (held' : ℕ → Bool) (d : Core) → ((l : ℕ) → claim (held' l) d.pending l ≡ claim (held l) es l)
      → d.locks ≡ locks → Kept n held' t locks d
  unchanged held' d e k = record { claims = λ l. rw k (e l ∙ h l); foreign = λ l u ne. rw k; count = rw k len }

  -- the word of k, which is no other lane's, becomes b, which is none either
  rewritten : (held' : ℕ → Bool) (k b : ℕ) (d : Core) → ((u : ℕ) → u ≢ t → eqb (get_or locks k 0) (suc u) ≡ false)
      → ((u : ℕ) → u ≢ t → eqb b (suc u) ≡ false) → k < n → claim (held' k) d.pending k ≡ one (eqb b (suc t))
      → ((l : ℕ) → l ≢ k → claim (held' l) d.pending l ≡ claim (held l) es l) → d.locks ≡ update locks k b
      → Kept n held' t locks d
  rewritten held' k b d was is lt here others el = record {
    claims = λ l. rw el (claims l (ℕ_discrete l k));
    foreign = λ l u ne. rw el (foreign l u ne (ℕ_discrete l k));
    count = rw el (length-set locks k b ∙ len);
  }
    where
      now : get_or (update locks k b) k 0 ≡ b
      now = get_or-set_same locks k b 0 (rw len lt)

      claims : (l : ℕ) → Dec (l ≡ k)
          → claim (held' l) d.pending l ≡ one (eqb (get_or (update locks k b) l 0) (suc t))
      claims l (yes z) = rw (z, now) here
      claims l (no z) = rw (get_or-set_other locks k l b 0 z) (others l z ∙ h l)

      foreign : (l u : ℕ) → u ≢ t → Dec (l ≡ k)
          → eqb (get_or (update locks k b) l 0) (suc u) ≡ eqb (get_or locks l 0) (suc u)
      foreign l u ne (yes z) = rw (z, now) (is u ne ∙ sym (was u ne))
      foreign l u ne (no z) = rw (get_or-set_other locks k l b 0 z)

  -- a free lock is taken
  pub taken : (held' : ℕ → Bool) (k : ℕ) (d : Core) → ((l : ℕ) → held' l ≡ eqb k l || held l) → k < n
      → get_or locks k 0 ≡ 0 → d.pending ≡ es → d.locks ≡ update locks k (suc t) → Kept n held' t locks d
  taken held' k d e lt free ep el =
      rewritten held' k (suc t) d (λ u ne. rw free (free_word u)) (own_word t) lt here
      (λ l ne. rw (ep, e l, ne_eqb k l (λ x. ne (sym x)))) el
    where
      unclaimed : claim (held k) es k ≡ 0
      unclaimed = h k ∙ rw (free, free_word t)

      here : claim (held' k) d.pending k ≡ one (eqb (suc t) (suc t))
      here = rw (ep, e k, eq-eqb k k refl, eq-eqb (suc t) (suc t) refl) (omega (arith, unclaimed))

  -- a pending release of k reaches memory
  pub let_go : (k : ℕ) (d : Core) → ((l : ℕ) → releases l es ≡ one (eqb k l) + releases l d.pending)
      → d.locks ≡ update locks k 0 → Kept n held t locks d
  let_go k d e el =
      rewritten held k 0 d (λ u ne. rw mine (own_word t u ne)) (λ u ne. free_word u) inside here
      (λ l ne. omega (arith, rw (ne_eqb k l (λ x. ne (sym x))) at (e l))) el
    where
      there : releases k es ≡ 1 + releases k d.pending
      there = e k ∙ rw (eq-eqb k k refl)

      word : eqb (get_or locks k 0) (suc t) ≡ true
      word = claimed_word k (omega (arith, there))

      mine : get_or locks k 0 ≡ suc t
      mine = eqb-true (get_or locks k 0) (suc t) word

      here : claim (held k) d.pending k ≡ one (eqb 0 (suc t))
      here =
          let once : claim (held k) es k ≡ 1 = h k ∙ rw word in
          rw (free_word t) (omega (arith, there))

      inside : k < n
      inside = go (dec_lt k n)
        where
          go : Dec (k < n) → k < n
          go (yes lt) = lt
          go (no ge) = absurd (omega (arith, mine, get_or-eq_default locks 0 {n = k} (omega arith)))
