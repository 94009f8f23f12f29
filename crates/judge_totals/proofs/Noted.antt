-- Laws of what is noted of cords and nodes: of one cord, of two together, and of a node with its limit.
use mathlib.Core.Path.{◌≡◌, refl, sym, ap, ◌∙◌}
use mathlib.Core.Bool.{Bool, true, false, cond}
use mathlib.Core.List.{List}
use mathlib.Core.Logic.{◌⊎◌, inl, inr}
use Prim.Native.Nat.{ℕ, zero, suc, ◌+◌, ◌-◌, ◌≤◌, ◌<◌, min, max}
use native.Mathlib.Omega.{arith}
use lib.Dec.{eqb, leb, ltb, eqb-zero-suc, eqb-suc-suc}
use lib.ListN.{length, set, length-set}
use lib.Seq.{get_or-set_same, get_or-set_other}
use borrow.Author.Tests.{ltb-true, ltb-false, lt-ltb, le-ltb, leb-true, leb-false, le-leb, lt-leb, eqb-true, eqb-false}
use Rattle.figures.specs.Figures.{at}
use Rattle.figures.specs.Sums.{on}
use Rattle.figures.proofs.Sums.{on_yes, on_no, on_le}
use Rattle.rooms.specs.Table.{highest_rank}
use Rattle.figures.proofs.Credits.{on_most, credited_none, credited_some, credited-length, credited-at, credited_past}
use Rattle.deals.specs.Judge.{highest}
use Rattle.judge_totals.specs.Totals.{Noted, Notes, notes_in, merged, noted_on, held_back}

-- ---- The same figures

pub noted_same : {given most given' most' : ℕ → ℕ} {watts raised wanting watts' raised' wanting' : ℕ} → Noted given most watts raised wanting
    → ((j : ℕ) → j < highest_rank → given' j ≡ given j) → ((j : ℕ) → j < highest_rank → most' j ≡ most j)
    → watts' ≡ watts → raised' ≡ raised → wanting' ≡ wanting → Noted given' most' watts' raised' wanting'
noted_same n g m w r h =
    let first = g 0 (omega arith) in
    record {
      watts_are = omega (arith, n.watts_are);
      falls = λ j l. omega (arith, g j l, n.falls j l);
      none_lower = λ j l k. omega (arith, g j l, n.none_lower j l (omega arith));
      some_lower = λ j l k. omega (arith, g j l, n.some_lower j l (omega arith));
      within = λ j l. omega (arith, g j l, m j l, n.within j l);
      rank = omega (arith, n.rank);
      none_higher = λ j l k. omega (arith, g j l, m j l, n.none_higher j l (omega arith));
      less = λ j e. let l : j < highest_rank = omega (arith, n.rank) in omega (arith, g j l, m j l, n.less j (sym h ∙ e));
    }

-- Nothing.
pub noted_none : Noted (λ j. 0) (λ j. 0) 0 highest_rank 0
noted_none = record {
  watts_are = refl;
  falls = λ j l. omega arith;
  none_lower = λ j l k. refl;
  some_lower = λ j l k. absurd (omega arith);
  within = λ j l. omega arith;
  rank = omega arith;
  none_higher = λ j l k. refl;
  less = λ j e. absurd (omega arith);
}

-- ---- One cord

-- A cord of a level with x watts, which could have y: it counts from the lowest level to its own.
module _ (level x y : ℕ) (l : level < highest_rank) (le : x ≤ y) where
  counts : (j a : ℕ) → j ≤ level → on (leb j level) a ≡ a
  counts j a h = on_yes (leb j level) a (le-leb j level h)

  not_above : (j a : ℕ) → level < j → on (leb j level) a ≡ 0
  not_above j a h = on_no (leb j level) a (lt-leb j level h)

  pub noted_cord : (some wants : Bool) → (some ≡ true → 0 < x) → (some ≡ false → x ≡ 0) → (wants ≡ true → x < y) → (wants ≡ false → x ≡ y)
      → Noted (λ j. on (leb j level) x) (λ j. on (leb j level) y) x (cond some (suc level) highest_rank) (cond wants (suc level) 0)
  noted_cord some wants s s' w w' = record {
    watts_are = sym (counts 0 x (omega arith));
    falls = λ j k. omega (arith, on_most (leb j level) x, counts 0 x (omega arith));
    none_lower = λ j k b. lowest some s s' j b;
    some_lower = λ j k b. lower some s s' j k b;
    within = λ j k. on_le (leb j level) x y (λ e. le);
    rank = in-range wants;
    none_higher = λ j k b. above wants w' j b;
    less = λ j e. own wants w j e;
  }
    where
      lowest : (t : Bool) → (t ≡ true → 0 < x) → (t ≡ false → x ≡ 0) → (j : ℕ) → j < cond t (suc level) highest_rank → on (leb j level) x ≡ on (leb 0 level) x
      lowest true s s' j b = counts j x (omega arith) ∙ sym (counts 0 x (omega arith))
      lowest false s s' j b = omega (arith, on_most (leb j level) x, on_most (leb 0 level) x, s' refl)

      lower : (t : Bool) → (t ≡ true → 0 < x) → (t ≡ false → x ≡ 0) → (j : ℕ) → j < highest_rank → cond t (suc level) highest_rank ≤ j
          → on (leb j level) x < on (leb 0 level) x
      lower true s s' j k b = omega (arith, not_above j x (omega arith), counts 0 x (omega arith), s refl)
      lower false s s' j k b = absurd (omega arith)

      in-range : (t : Bool) → cond t (suc level) 0 ≤ highest_rank
      in-range true = omega arith
      in-range false = omega arith

      above : (t : Bool) → (t ≡ false → x ≡ y) → (j : ℕ) → cond t (suc level) 0 ≤ j → on (leb j level) x ≡ on (leb j level) y
      above true w j b = not_above j x (omega arith) ∙ sym (not_above j y (omega arith))
      above false w j b = ap (on (leb j level)) (w refl)

      own : (t : Bool) → (t ≡ true → x < y) → (j : ℕ) → cond t (suc level) 0 ≡ suc j → on (leb j level) x < on (leb j level) y
      own true w j e = omega (arith, counts j x (omega arith), counts j y (omega arith), w refl)
      own false w j e = absurd (omega arith)

-- ---- Two together

module _ {given most given' most' : ℕ → ℕ} {watts raised wanting watts' raised' wanting' : ℕ}
    (n : Noted given most watts raised wanting) (m : Noted given' most' watts' raised' wanting') where
  lower_both : (j : ℕ) → j < highest_rank → min raised raised' ≤ j → (t : Bool) → leb raised j ≡ t → given j + given' j < given 0 + given' 0
  lower_both j l k true e = omega (arith, n.some_lower j l (leb-true raised j e), m.falls j l)
  lower_both j l k false e = omega (arith, n.falls j l, m.some_lower j l (omega (arith, leb-false raised j e)))

  less_both : (j : ℕ) → j < highest_rank → max wanting wanting' ≡ suc j → (t : Bool) → eqb wanting (suc j) ≡ t → given j + given' j < most j + most' j
  less_both j l e true q = omega (arith, n.less j (eqb-true wanting (suc j) q), m.within j l)
  less_both j l e false q =
      let other : wanting' ≡ suc j = omega (arith, eqb-false wanting (suc j) q) in
      omega (arith, n.within j l, m.less j other)

  pub noted_both : Noted (λ j. given j + given' j) (λ j. most j + most' j) (watts + watts') (min raised raised') (max wanting wanting')
  noted_both = record {
    watts_are = omega (arith, n.watts_are, m.watts_are);
    falls = λ j l. omega (arith, n.falls j l, m.falls j l);
    none_lower = λ j l k. omega (arith, n.none_lower j l (omega arith), m.none_lower j l (omega arith));
    some_lower = λ j l k. lower_both j l k (leb raised j) refl;
    within = λ j l. omega (arith, n.within j l, m.within j l);
    rank = omega (arith, n.rank, m.rank);
    none_higher = λ j l k. omega (arith, n.none_higher j l (omega arith), m.none_higher j l (omega arith));
    less = λ j e. less_both j (omega (arith, n.rank, m.rank)) e (eqb wanting (suc j)) refl;
  }

-- ---- A node with its limit

-- Of all that is on and beneath a node, by what its limit has to spare. Where the node is full, no rank can rise up to that of the lowest
-- watts; from there on the lower watts give way.
module _ {given most : ℕ → ℕ} {watts raised wanting : ℕ} (n : Noted given most watts raised wanting) (limit : ℕ) (fits : watts ≤ limit) where
  abbrev most_here : ℕ → ℕ
  most_here j = min limit (most j)

  abbrev Here : ℕ → Type 0
  Here = Noted given most_here watts raised

  free : (watts < limit) ⊎ (raised < wanting) → Here wanting
  free f = record {
    watts_are = n.watts_are;
    falls = n.falls;
    none_lower = n.none_lower;
    some_lower = n.some_lower;
    within = λ j l. omega (arith, n.watts_are, n.falls j l, n.within j l);
    rank = n.rank;
    none_higher = λ j l k. omega (arith, n.watts_are, n.falls j l, n.none_higher j l k);
    less = λ j e. rises j e f;
  }
    where
      rises : (j : ℕ) → wanting ≡ suc j → (watts < limit) ⊎ (raised < wanting) → given j < most_here j
      rises j e (inl f) = omega (arith, n.watts_are, n.falls j (omega (arith, n.rank)), n.less j e)
      rises j e (inr f) = omega (arith, n.watts_are, n.some_lower j (omega (arith, n.rank)) (omega arith), n.less j e)

  full : limit ≤ watts → wanting ≤ raised → Here 0
  full f h = record {
    watts_are = n.watts_are;
    falls = n.falls;
    none_lower = n.none_lower;
    some_lower = n.some_lower;
    within = λ j l. omega (arith, n.watts_are, n.falls j l, n.within j l);
    rank = omega arith;
    none_higher = λ j l k. stays j l (ltb j raised) refl;
    less = λ j e. absurd (omega arith);
  }
    where
      stays : (j : ℕ) → j < highest_rank → (t : Bool) → ltb j raised ≡ t → given j ≡ most_here j
      stays j l true e = omega (arith, n.watts_are, n.none_lower j l (ltb-true j raised e), n.within j l)
      stays j l false e = omega (arith, n.watts_are, n.falls j l, n.none_higher j l (omega (arith, ltb-false j raised e)))

  pub noted_held : Here (held_back limit watts raised wanting)
  noted_held = go (ltb watts limit) refl (ltb raised wanting) refl
    where
      go : (t : Bool) → ltb watts limit ≡ t → (u : Bool) → ltb raised wanting ≡ u → Here (cond t wanting (cond u wanting 0))
      go true e u f = free (inl (ltb-true watts limit e))
      go false e true f = free (inr (ltb-true raised wanting f))
      go false e false f = full (ltb-false watts limit e) (ltb-false raised wanting f)

-- ---- On a node

merged-length : (with : ℕ → ℕ → ℕ) (node rank : ℕ) (l : List ℕ) → length (merged with node rank l) ≡ length l
unfolding merged
merged-length with zero rank l = refl
merged-length with (suc m) rank l = length-set l m (with (at l m) rank)

merged-at : (with : ℕ → ℕ → ℕ) (node rank : ℕ) (l : List ℕ) (i : ℕ) → node ≤ length l
    → at (merged with node rank l) i ≡ cond (eqb node (suc i)) (with (at l i) rank) (at l i)
unfolding merged
merged-at with zero rank l i h = sym (ap (λ (t : Bool). cond t (with (at l i) rank) (at l i)) (eqb-zero-suc i))
merged-at with (suc m) rank l i h = go (eqb m i) refl
  where
    go : (t : Bool) → eqb m i ≡ t → at (set l m (with (at l m) rank)) i ≡ cond (eqb (suc m) (suc i)) (with (at l i) rank) (at l i)
    go true e =
        let q : m ≡ i = eqb-true m i e in
        ap (at (set l m (with (at l m) rank))) (sym q)
        ∙ get_or-set_same l m (with (at l m) rank) 0 h
        ∙ ap (λ (x : ℕ). with (at l x) rank) q
        ∙ sym (ap (λ (t : Bool). cond t (with (at l i) rank) (at l i)) (eqb-suc-suc m i ∙ e))
    go false e =
        get_or-set_other l m i (with (at l m) rank) 0 (λ q. eqb-false m i e (sym q))
        ∙ sym (ap (λ (t : Bool). cond t (with (at l i) rank) (at l i)) (eqb-suc-suc m i ∙ e))

merged_none : (with : ℕ → ℕ → ℕ) (node rank : ℕ) (l : List ℕ) → node ≡ 0 → l ≡ merged with node rank l
unfolding merged
merged_none with zero rank l e = refl
merged_none with (suc m) rank l e = absurd (omega arith)

merged_some : (with : ℕ → ℕ → ℕ) (node rank : ℕ) (l : List ℕ) {stored : ℕ} → (node ≡ 0 → ⊥) → stored ≡ with (at l (node - 1)) rank
    → set l (node - 1) stored ≡ merged with node rank l
unfolding merged
merged_some with zero rank l n e = absurd (n refl)
merged_some with (suc m) rank l n e = let q : suc m - 1 ≡ m = omega arith in ap (set l (suc m - 1)) e ∙ ap (λ (x : ℕ). set l x (with (at l x) rank)) q

-- A place past the node is left as it is.
merged_past : (with : ℕ → ℕ → ℕ) (node rank : ℕ) (l : List ℕ) (i : ℕ) → node ≤ i → at (merged with node rank l) i ≡ at l i
unfolding merged
merged_past with zero rank l i h = refl
merged_past with (suc m) rank l i h = get_or-set_other l m i (with (at l m) rank) 0 (λ e. omega arith)

-- There are notes of so many nodes.
pub record Sized (count : ℕ) (notes : Notes) : Type 0 where
  pub given : count ≤ length notes.given
  pub raised : count ≤ length notes.raised
  pub wanting : count ≤ length notes.wanting

-- The same notes, by their lists.
notes_as : {given given' raised raised' wanting wanting' : List ℕ} → given ≡ given' → raised ≡ raised' → wanting ≡ wanting'
    → notes_in given raised wanting ≡ notes_in given' raised' wanting'
notes_as g r w = λ i. notes_in (g i) (r i) (w i)

module _ (node watts low high : ℕ) (notes : Notes) where
  -- Nothing is noted on no node.
  pub noted_nowhere : node ≡ 0 → notes ≡ noted_on node watts low high notes
  noted_nowhere e = notes_as (credited_none node watts notes.given e) (merged_none min node low notes.raised e) (merged_none max node high notes.wanting e)

  -- On a node stands what code stores at its place.
  pub noted_there : (node ≡ 0 → ⊥) → {lower higher : ℕ} → lower ≡ min (at notes.raised (node - 1)) low → higher ≡ max (at notes.wanting (node - 1)) high
      → notes_in (set notes.given (node - 1) (at notes.given (node - 1) + watts)) (set notes.raised (node - 1) lower) (set notes.wanting (node - 1) higher)
      ≡ noted_on node watts low high notes
  noted_there n l h = notes_as (credited_some node watts notes.given n) (merged_some min node low notes.raised n l) (merged_some max node high notes.wanting n h)

  pub noted_sized : {count : ℕ} → Sized count notes → Sized count (noted_on node watts low high notes)
  noted_sized s = record {
    given = omega (arith, credited-length node watts notes.given, s.given);
    raised = omega (arith, merged-length min node low notes.raised, s.raised);
    wanting = omega (arith, merged-length max node high notes.wanting, s.wanting);
  }

  -- A place past the node is left as it is.
  pub past_node : {given most : ℕ → ℕ} (i : ℕ) → node ≤ i → Noted given most (at notes.given i) (at notes.raised i) (at notes.wanting i)
      → let next : Notes = noted_on node watts low high notes in Noted given most (at next.given i) (at next.raised i) (at next.wanting i)
  past_node i h n =
      noted_same n (λ j l. refl) (λ j l. refl)
      (credited_past node watts notes.given i h) (merged_past min node low notes.raised i h) (merged_past max node high notes.wanting i h)

  -- What is noted on a node, where what a cord or a child node has is noted on its own.
  pub noted_next : {count : ℕ} {given most given' most' : ℕ → ℕ} (i : ℕ) → Sized count notes → node ≤ count
      → Noted given most (at notes.given i) (at notes.raised i) (at notes.wanting i) → Noted given' most' watts low high
      → let next : Notes = noted_on node watts low high notes in
      Noted (λ j. given j + on (eqb node (suc i)) (given' j)) (λ j. most j + on (eqb node (suc i)) (most' j)) (at next.given i) (at next.raised i) (at next.wanting i)
  noted_next {count} {given} {most} {given'} {most'} i s k n m =
      noted_same (go (eqb node (suc i))) (λ j l. refl) (λ j l. refl)
      (credited-at node watts notes.given i (omega (arith, s.given)))
      (merged-at min node low notes.raised i (omega (arith, s.raised)))
      (merged-at max node high notes.wanting i (omega (arith, s.wanting)))
    where
      go : (t : Bool) → Noted (λ j. given j + on t (given' j)) (λ j. most j + on t (most' j)) (at notes.given i + on t watts)
          (cond t (min (at notes.raised i) low) (at notes.raised i)) (cond t (max (at notes.wanting i) high) (at notes.wanting i))
      go true = noted_both n m
      go false = noted_same n (λ j l. omega arith) (λ j l. omega arith) (omega arith) refl refl

-- ---- The highest rank that could have more

highest-at : (test : ℕ → Bool) (k rank : ℕ) → rank ≤ k → ((j : ℕ) → j < k → rank ≤ j → test (suc j) ≡ false) → ((j : ℕ) → rank ≡ suc j → test (suc j) ≡ true)
    → highest test k ≡ rank
unfolding highest
highest-at test zero rank l none here = omega arith
highest-at test (suc k) rank l none here = go (λ less. highest-at test k rank less (λ j a b. none j (omega arith) b) here) (eqb rank (suc k)) refl
  where
    go : (rank ≤ k → highest test k ≡ rank) → (t : Bool) → eqb rank (suc k) ≡ t → cond (test (suc k)) (suc k) (highest test k) ≡ rank
    go rest true e = let q : rank ≡ suc k = eqb-true rank (suc k) e in rw (here k q) (sym q)
    go rest false e =
        let less : rank ≤ k = omega (arith, eqb-false rank (suc k) e) in
        rw (none k (omega arith) less) (rest less)

pub noted_highest : {given most : ℕ → ℕ} {watts raised wanting : ℕ} → Noted given most watts raised wanting
    → highest (λ rank. ltb (given (rank - 1)) (most (rank - 1))) highest_rank ≡ wanting
noted_highest {given} {most} {wanting = wanting} n = highest-at (λ rank. ltb (given (rank - 1)) (most (rank - 1))) highest_rank wanting n.rank
    (λ j l k. let e : suc j - 1 ≡ j = omega arith in rw e (le-ltb (given j) (most j) (omega (arith, n.none_higher j l k))))
    (λ j k. let e : suc j - 1 ≡ j = omega arith in rw e (lt-ltb (given j) (most j) (n.less j k)))
