-- The loops that note what cords and nodes have: what they keep.
use mathlib.Core.Path.{◌≡◌, refl, sym, ap, ◌∙◌}
use mathlib.Core.Bool.{Bool, true, false, cond}
use mathlib.Core.List.{List}
use mathlib.Core.Logic.{◌⊎◌, inl, inr}
use Prim.Native.Nat.{ℕ, zero, suc, ◌+◌, ◌-◌, ◌*◌, ◌^◌, ◌≤◌, ◌<◌, min}
use native.Mathlib.Nat.{eq-or-lt_of_le, mul-le-mul_right}
use native.Mathlib.Numerals.{add-one}
use native.Mathlib.Omega.{arith}
use lib.Dec.{eqb, leb, ltb}
use lib.ListN.{length, set, length-set, get_or-replicate}
use lib.Seq.{get_or-set_same, get_or-set_other}
use borrow.Author.Tests.{ltb-true, ltb-false, lt-ltb, le-ltb}
use Rattle.std.specs.Prelude.{Option, None, Some, replicate}
use Rattle.figures.specs.Figures.{at}
use Rattle.figures.specs.Sums.{on, sum}
use Rattle.figures.proofs.Filled.{zeros-at}
use Rattle.figures.proofs.Sums.{sum_suc, sum_none, sum_cong, up}
use Rattle.figures.proofs.Lists.{sum_most}
use Rattle.rooms.specs.Table.{most_nodes, most_cords, most_watts, highest_rank}
use Rattle.rooms.specs.Limits.{first_node, found_node}
use Rattle.rooms.specs.Credits.{tree_sum, exceeds}
use Rattle.figures.proofs.Credits.{on_most, credited-at, credited-length}
use Rattle.rooms.proofs.Credits.{tree_sum_step}
use Rattle.rooms.proofs.Gather.{Holds, holds_whole, Gathered, gathered_start, gathered_turn, gathered_end}
use Rattle.rooms.proofs.Search.{NoneIn, first_node_cong}
use Rattle.deals.specs.Ranks.{NodeLists}
use Rattle.judge_totals.specs.Totals.{place_of, GrantedCords, over_low, on_node, from_level, Noted, AllNoted, Unnoted, CordsNoted, noted_on, held_back, IsMost, NodesNoted, over_from, Compared, Notes, notes_in}
use Rattle.judge_totals.proofs.Noted.{Sized, noted_same, noted_none, noted_cord, noted_held, noted_next, noted_highest, noted_sized, past_node}
use Rattle.judge_totals.proofs.Searching.{IsFirst, none_yet, first_here, first_stays, place_found}
use Rattle.rooms.specs.Trees.{child_sum, sum_beneath}

-- ---- The cords

-- What the first c cords on the node at place n have, of a level and above.
abbrev sofar : (nodes levels : List ℕ) → (ℕ → ℕ) → ℕ → ℕ → ℕ → ℕ
sofar nodes levels figure c j n = sum c (λ h. on (eqb (at nodes h) (suc n)) (from_level levels j figure h))

-- Whether a cord is below its low, and whether it is above its want.
abbrev below_its : (lows grants : List ℕ) → ℕ → Bool
below_its lows grants h = ltb (at grants h) (at lows h)

abbrev above_its : (wants grants : List ℕ) → ℕ → Bool
above_its wants grants h = ltb (at wants h) (at grants h)

-- The first c cords had their turns: none of them is below its low, and they are noted if none is above its want.
pub record CordTurns (count : ℕ) (nodes levels lows wants grants : List ℕ) (c : ℕ) (above : Option ℕ) (notes : Notes) : Type 0 where
  pub all_given : length notes.given ≡ count
  pub size : Sized count notes
  pub small : (n : ℕ) → at notes.given n ≤ c * 2 ^ 32
  pub below : NoneIn (below_its lows grants) 0 c
  pub first_above : IsFirst (above_its wants grants) c above
  pub noted : above ≡ None → AllNoted count (sofar nodes levels (over_low lows grants) c) (sofar nodes levels (over_low lows wants) c) notes

-- The first cord above its want, with one more cord: that cord, if none was found before, or what was found.
pub data AboveNext (above : Option ℕ) (want grant c : ℕ) (above' : Option ℕ) : Type 0 where
  here : above ≡ None → want < grant → above' ≡ Some c → AboveNext above want grant c above'
  stays : (above ≡ None → grant ≤ want) → above' ≡ above → AboveNext above want grant c above'

module _ {count : ℕ} {nodes levels lows wants grants : List ℕ} where
  pub cords_start : {notes : Notes} → length notes.given ≡ count → Sized count notes → ((n : ℕ) → at notes.given n ≡ 0) → Unnoted count notes
      → CordTurns count nodes levels lows wants grants 0 None notes
  cords_start all size zeros none = record {
    all_given = all;
    size = size;
    small = λ n. omega (arith, zeros n);
    below = λ m a b. absurd (omega arith);
    first_above = λ m a b. absurd (omega arith);
    noted = λ z n l. noted_same (none n l) (λ j k. sum_none _) (λ j k. sum_none _) refl refl refl;
  }

  module _ {c : ℕ} {above : Option ℕ} {notes : Notes} (inv : CordTurns count nodes levels lows wants grants c above notes) where
    pub cords-end : length nodes ≡ c → above ≡ None → CordsNoted count nodes levels lows wants grants notes
    unfolding on_node
    cords-end e z n l =
        noted_same (inv.noted z n l)
        (λ j k. ap (λ (x : ℕ). sofar nodes levels (over_low lows grants) x j n) e) (λ j k. ap (λ (x : ℕ). sofar nodes levels (over_low lows wants) x j n) e) refl refl refl

    module _ (l : c < length nodes) (ranked : at levels c < highest_rank) (least : at lows c ≤ at grants c) where
      abbrev level : ℕ
      level = at levels c

      abbrev node : ℕ
      node = at nodes c

      first_next : {above' : Option ℕ} → AboveNext above (at wants c) (at grants c) c above' → IsFirst (above_its wants grants) (c + 1) above'
      first_next {above'} (here n h e) =
          rw e (first_here (above_its wants grants) c (rw n at inv.first_above) (lt-ltb (at wants c) (at grants c) h))
      first_next {above'} (stays h e) = rw e (go above inv.first_above h)
        where
          go : (a : Option ℕ) → IsFirst (above_its wants grants) c a → (a ≡ None → at grants c ≤ at wants c) → IsFirst (above_its wants grants) (c + 1) a
          go None f h = none_yet (above_its wants grants) c f (le-ltb (at wants c) (at grants c) (h refl))
          go (Some place) f h = first_stays (above_its wants grants) c f

      -- If no cord is above its want with this one, none was before, and it is not.
      none_above : {above' : Option ℕ} → AboveNext above (at wants c) (at grants c) c above' → above' ≡ None → (above ≡ None) × (at grants c ≤ at wants c)
      none_above {above'} (here n h e) z = absurd (let q : ◌≡◌ {A = Option ℕ} (Some c) None = sym e ∙ z in cc)
      none_above {above'} (stays h e) z = let q : above ≡ None = sym e ∙ z in (q, h q)

      -- The cord's own note.
      own : at grants c ≤ at wants c → Noted (λ j. from_level levels j (over_low lows grants) c) (λ j. from_level levels j (over_low lows wants) c) (over_low lows grants c)
          (cond (ltb (at lows c) (at grants c)) (suc level) highest_rank) (cond (ltb (at grants c) (at wants c)) (suc level) 0)
      own most =
          noted_cord level (over_low lows grants c) (over_low lows wants c) ranked (omega arith) (ltb (at lows c) (at grants c)) (ltb (at grants c) (at wants c))
          (λ e. omega (arith, ltb-true (at lows c) (at grants c) e)) (λ e. omega (arith, ltb-false (at lows c) (at grants c) e))
          (λ e. omega (arith, ltb-true (at grants c) (at wants c) e)) (λ e. omega (arith, ltb-false (at grants c) (at wants c) e))

      -- The cord's turn.
      module _ (there : node ≤ count) (word : over_low lows grants c < 2 ^ 32) where
        abbrev raised_by : ℕ
        raised_by = cond (ltb (at lows c) (at grants c)) (suc level) highest_rank

        abbrev wanted_by : ℕ
        wanted_by = cond (ltb (at grants c) (at wants c)) (suc level) 0

        more : (figure : ℕ → ℕ) (j n : ℕ) → sofar nodes levels figure (suc c) j n ≡ sofar nodes levels figure c j n + on (eqb node (suc n)) (from_level levels j figure c)
        more figure j n = sum_suc c (λ h. on (eqb (at nodes h) (suc n)) (from_level levels j figure h))

        cord_turn : {above' : Option ℕ} → AboveNext above (at wants c) (at grants c) c above'
            → CordTurns count nodes levels lows wants grants (c + 1) above' (noted_on node (over_low lows grants c) raised_by wanted_by notes)
        cord_turn turned = record {
          all_given = credited-length node (over_low lows grants c) notes.given ∙ inv.all_given;
          size = noted_sized node (over_low lows grants c) raised_by wanted_by notes inv.size;
          small = λ n.
              omega (
                arith,
                credited-at node (over_low lows grants c) notes.given n (omega (arith, inv.size.given)),
                on_most (eqb node (suc n)) (over_low lows grants c),
                inv.small n,
              );
          below = none_yet (below_its lows grants) c inv.below (le-ltb (at grants c) (at lows c) least);
          first_above = first_next turned;
          noted = λ z n k. rw add-one
              (noted_same
              (noted_next node (over_low lows grants c) raised_by wanted_by notes n inv.size there (inv.noted (none_above turned z).0 n k) (own (none_above turned z).1))
              (λ j q. more (over_low lows grants) j n) (λ j q. more (over_low lows wants) j n) refl refl refl);
        }

        -- The same in the terms of the code.
        pub cords_next : {of rank low' want grant : ℕ} {above' : Option ℕ} {notes' : Notes} → of ≡ node → rank ≡ suc level → low' ≡ at lows c → want ≡ at wants c
            → grant ≡ at grants c → AboveNext above want grant c above'
            → notes' ≡ noted_on of (grant - low') (cond (ltb low' grant) rank highest_rank) (cond (ltb grant want) rank 0) notes
            → CordTurns count nodes levels lows wants grants (c + 1) above' notes'
        cords_next en er el ew eg turned e = rw (e, er, en, el, ew, eg) (cord_turn (rw (ew, eg) at turned))

-- ---- The nodes

-- What stands on a node, its own figure and what its children among the `done` nodes from place n on passed to it.
abbrev partly : List ℕ → (own passed : ℕ → ℕ) → ℕ → ℕ → ℕ → ℕ
partly parents own passed done n i = own i + up done n (λ m. on (eqb (at parents m) (suc i)) (passed m))

-- Before the turn of the node at place n - 1: a node before n has the notes of its own cords and of its children that had their turns; a
-- node that had its turn has those of all beneath it.
pub record NodeTurns (parents spare : List ℕ) (notes₀ : Notes) (over : Option ℕ) (n : ℕ) (notes : Notes) : Type 0 where
  pub number : ℕ
  pub over_is : over ≡ place_of number
  pub gathered : Gathered (at parents) (at spare) (length parents) notes₀.given (found_node number) n notes.given
  pub size : Sized (length parents) notes
  pub turns : ℕ
  pub all : n + turns ≡ length parents
  pub to_come : (has own most : ℕ → ℕ → ℕ) → AllNoted (length parents) has own notes₀
      → ((j : ℕ) → j < highest_rank → IsMost parents spare (own j) (most j)) → number ≡ 0 → (i : ℕ) → i < n
      → Noted (λ j. partly parents (has j) (tree_sum (at parents) (length parents) (has j)) turns n i) (λ j. partly parents (own j) (most j) turns n i)
      (at notes.given i) (at notes.raised i) (at notes.wanting i)
  pub done : (has own most : ℕ → ℕ → ℕ) → AllNoted (length parents) has own notes₀
      → ((j : ℕ) → j < highest_rank → IsMost parents spare (own j) (most j)) → number ≡ 0 → (i : ℕ) → n ≤ i → i < length parents
      → Noted (λ j. tree_sum (at parents) (length parents) (has j) i) (λ j. most j i) (at notes.given i) (at notes.raised i) (at notes.wanting i)

pub nodes_start : (parents spare : List ℕ) {notes : Notes} → Sized (length parents) notes → NodeTurns parents spare notes None (length parents) notes
unfolding up
nodes_start parents spare {notes} size = record {
  number = 0;
  over_is = refl;
  gathered = gathered_start (at parents) (at spare) (length parents) notes.given;
  size = size;
  turns = 0;
  all = omega arith;
  to_come = λ has own most all is z i l. noted_same (all i l) (λ j k. omega arith) (λ j k. omega arith) refl refl refl;
  done = λ has own most all is z i a b. absurd (omega arith);
}

-- The node that is found, after one more.
node_found : (t : Bool) (m k : ℕ) → cond t (Some (suc m)) (found_node k) ≡ found_node (cond t (suc m) k)
node_found true m k = refl
node_found false m k = refl

-- Numbers that tell the same node tell the same place.
same_place : (m k : ℕ) → found_node m ≡ found_node k → place_of m ≡ place_of k
same_place zero zero e = refl
same_place zero (suc k) e = absurd (cc)
same_place (suc m) zero e = absurd (cc)
same_place (suc m) (suc k) e = let q : suc m ≡ suc k = cc in ap (λ (x : ℕ). place_of x) q

module _ {parents spare : List ℕ} {notes₀ : Notes} {over : Option ℕ} {n : ℕ} {notes : Notes} (inv : NodeTurns parents spare notes₀ over n notes) (z : n ≤ 0) where
  pub over-end : over ≡ place_of (first_node (length parents) 0 (exceeds (at parents) (at spare) (length parents) notes₀.given))
  over-end = inv.over_is ∙ same_place inv.number _ (gathered_end inv.gathered z)

  pub nodes-end : NodesNoted parents spare over notes₀ notes
  nodes-end has own most all is none i l = inv.done has own most all is (no_number inv.number (sym inv.over_is ∙ none)) i (omega arith) l
    where
      no_number : (number : ℕ) → place_of number ≡ None → number ≡ 0
      no_number zero e = refl
      no_number (suc m) e = absurd (cc)

module _ {parents spare : List ℕ} {notes₀ : Notes} (nodes : NodeLists parents spare) (sized : Sized (length parents) notes₀) where
  -- The turn of the node at place m.
  module _ {over : Option ℕ} {m : ℕ} {notes : Notes} (inv : NodeTurns parents spare notes₀ over (suc m) notes) where
    inside : m < length parents
    inside = omega (arith, inv.all)

    abbrev limit : ℕ
    limit = at spare m

    abbrev has_here : ℕ
    has_here = at notes.given m

    abbrev low : ℕ
    low = at notes.raised m

    abbrev high : ℕ
    high = held_back limit has_here low (at notes.wanting m)

    -- The notes with the node's own held back, and then on its parent.
    abbrev held : Notes
    held = notes_in notes.given notes.raised (set notes.wanting m high)

    abbrev next : Notes
    next = noted_on (at parents m) has_here low high held

    abbrev number' : ℕ
    number' = cond (ltb limit has_here) (suc m) inv.number

    -- When its turn comes, all its children had theirs.
    whole : (own passed : ℕ → ℕ) → partly parents own passed inv.turns (suc m) m ≡ own m + child_sum (length parents) (at parents) m passed
    unfolding Holds
    whole own passed = holds_whole (length parents) (at parents) own passed nodes.rises inv.turns m (partly parents own passed inv.turns (suc m)) inv.all (λ i l. refl)

    -- No node was over before this one, nor is this one.
    before : number' ≡ 0 → (has_here ≤ limit) × (inv.number ≡ 0)
    before = go (ltb limit has_here) refl
      where
        go : (t : Bool) → ltb limit has_here ≡ t → cond t (suc m) inv.number ≡ 0 → (has_here ≤ limit) × (inv.number ≡ 0)
        go true e z = absurd (omega arith)
        go false e z = (ltb-false limit has_here e, z)

    held_size : Sized (length parents) held
    held_size = record { given = inv.size.given; raised = inv.size.raised; wanting = omega (arith, length-set notes.wanting m high, inv.size.wanting) }

    module _ (has own most : ℕ → ℕ → ℕ) (all : AllNoted (length parents) has own notes₀)
        (is : (j : ℕ) → j < highest_rank → IsMost parents spare (own j) (most j)) (z : number' ≡ 0) where
      -- The node's notes, with all beneath it.
      whole_note : Noted (λ j. tree_sum (at parents) (length parents) (has j) m) (λ j. most j m) has_here low high
      whole_note =
          noted_same (noted_held (inv.to_come has own most all is (before z).1 m (omega arith)) limit (before z).0)
          (λ j k. tree_sum_step (length parents) (at parents) nodes.rises (has j) m inside ∙ sym (whole (has j) (tree_sum (at parents) (length parents) (has j))))
          (λ j k. is j k m inside ∙ ap (min limit) (sym (whole (own j) (most j)))) refl refl refl

      come : (i : ℕ) → i < m
          → Noted (λ j. partly parents (has j) (tree_sum (at parents) (length parents) (has j)) (suc inv.turns) m i) (λ j. partly parents (own j) (most j) (suc inv.turns) m i)
          (at next.given i) (at next.raised i) (at next.wanting i)
      unfolding up
      come i l =
          let rise = nodes.rises m inside in
          let earlier = noted_same (inv.to_come has own most all is (before z).1 i (omega arith)) (λ j k. refl) (λ j k. refl) refl refl
          (get_or-set_other notes.wanting m i high 0 (λ q. omega arith)) in
          noted_same (noted_next (at parents m) has_here low high held i held_size (omega (arith, rise, inside)) earlier whole_note)
          (λ j k. omega arith) (λ j k. omega arith) refl refl refl

      past : (i : ℕ) → (m ≡ i) ⊎ (m < i) → i < length parents
          → Noted (λ j. tree_sum (at parents) (length parents) (has j) i) (λ j. most j i) (at next.given i) (at next.raised i) (at next.wanting i)
      past i (inl q) b =
          let rise = nodes.rises m inside in
          rw (← q)
          (past_node (at parents m) has_here low high held m rise
          (noted_same whole_note (λ j k. refl) (λ j k. refl) refl refl (get_or-set_same notes.wanting m high 0 (omega (arith, inside, inv.size.wanting)))))
      past i (inr l) b =
          let rise : at parents m ≤ i = omega (arith, nodes.rises m inside) in
          past_node (at parents m) has_here low high held i rise
          (noted_same (inv.done has own most all is (before z).1 i l b) (λ j k. refl) (λ j k. refl) refl refl (get_or-set_other notes.wanting m i high 0 (λ q. omega arith)))

    turn : NodeTurns parents spare notes₀ (cond (ltb limit has_here) (Some m) over) m next
    turn =
        let e : suc m - 1 ≡ m = omega arith in
        record {
          number = number';
          over_is = ap (cond (ltb limit has_here) (Some m)) inv.over_is ∙ sym (place_found (ltb limit has_here) m inv.number);
          gathered = rw (← node_found (ltb limit has_here) m inv.number) (rw e at (gathered_turn nodes.rises inv.gathered (omega arith) sized.given refl refl refl refl refl));
          size = noted_sized (at parents m) has_here low high held held_size;
          turns = suc inv.turns;
          all = omega (arith, inv.all);
          to_come = λ has own most all is z i l. come has own most all is z i l;
          done = λ has own most all is z i a b. past has own most all is z i (eq-or-lt_of_le a) b;
        }

  -- The same in the terms of the code.
  pub nodes_next : {over : Option ℕ} {n : ℕ} {notes : Notes} → NodeTurns parents spare notes₀ over n notes → 0 < n
      → {limit above high : ℕ} {over' : Option ℕ} {notes' : Notes} → limit ≡ at spare (n - 1) → above ≡ at parents (n - 1)
      → high ≡ held_back limit (at notes.given (n - 1)) (at notes.raised (n - 1)) (at notes.wanting (n - 1))
      → over' ≡ cond (ltb limit (at notes.given (n - 1))) (Some (n - 1)) over
      → notes' ≡ noted_on above (at notes.given (n - 1)) (at notes.raised (n - 1)) high
      (notes_in notes.given notes.raised (set notes.wanting (n - 1) high))
      → NodeTurns parents spare notes₀ over' (n - 1) notes'
  nodes_next {n = zero} inv p el ea ek eo en = absurd (omega arith)
  nodes_next {n = suc m} inv p el ea ek eo en =
      let e : suc m - 1 ≡ m = omega arith in
      rw (en, eo, ek, ea, el, e) (turn inv)

-- ---- Both

module _ {parents spare nodes levels lows wants grants : List ℕ} (of_nodes : NodeLists parents spare)
    (lists : GrantedCords (length parents) nodes levels lows wants grants) where
  module _ (notes : Notes) (noted : CordsNoted most_nodes nodes levels lows wants grants notes) where
    -- All nodes' own watts together are few.
    pub given_few : sum (length parents) (at notes.given) < 2 ^ 63
    unfolding on_node
    given_few =
        let most : sum (length parents) (at notes.given) ≤ length parents * (most_cords * most_watts)
        = sum_most (length parents) (most_cords * most_watts) (at notes.given) (λ n l.
        omega (
          arith,
          (noted n (omega (arith, of_nodes.few))).watts_are,
          lists.few,
          mul-le-mul_right most_watts lists.few,
          sum_most (length nodes) most_watts (λ h. on (eqb (at nodes h) (suc n)) (from_level levels 0 (over_low lows grants) h)) (λ h q. figure_most n h q),
        )) in
        omega (arith, most, mul-le-mul_right (most_cords * most_watts) of_nodes.few)
      where
        figure_most : (n h : ℕ) → h < length nodes → on (eqb (at nodes h) (suc n)) (from_level levels 0 (over_low lows grants) h) ≤ most_watts
        figure_most n h q =
            omega (
              arith,
              on_most (eqb (at nodes h) (suc n)) (from_level levels 0 (over_low lows grants) h),
              on_most (leb 0 (at levels h)) (over_low lows grants h),
              lists.most h q,
              lists.wants_most h q,
            )

    pub compared : {over : Option ℕ} (notes' : Notes)
        → over ≡ place_of (first_node (length parents) 0 (exceeds (at parents) (at spare) (length parents) notes.given))
        → NodesNoted parents spare over notes notes' → Compared parents spare nodes levels lows wants grants over notes'.wanting
    unfolding over_from sum_beneath
    compared notes' o passed = record {
      over_is = o ∙ ap place_of (first_node_cong (length parents) 0 _ _ (λ n l. ap (ltb (at spare n)) (same n)));
      short_is = λ most is none n l. sym (noted_highest (passed has own most (λ m k. noted m (omega (arith, of_nodes.few))) is none n l));
    }
      where
        has : ℕ → ℕ → ℕ
        has j = on_node nodes (from_level levels j (over_low lows grants))

        own : ℕ → ℕ → ℕ
        own j = on_node nodes (from_level levels j (over_low lows wants))

        same : (n : ℕ) → tree_sum (at parents) (length parents) (at notes.given) n ≡ tree_sum (at parents) (length parents) (on_node nodes (from_level levels 0 (over_low lows grants))) n
        same n = sum_cong (length parents) _ _ (λ m l. ap (on (Rattle.rooms.specs.Trees.beneath (at parents) (length parents) n (suc m))) (noted m (omega (arith, of_nodes.few))).watts_are)

-- Nothing is noted before the first cord.
pub unnoted : (k : ℕ) (wanting : List ℕ) → ((n : ℕ) → at wanting n ≡ 0) → (count : ℕ) → count ≤ k
    → Unnoted count (notes_in (replicate k 0) (replicate k highest_rank) wanting)
unnoted k wanting none count h n l =
    noted_same noted_none (λ j q. refl) (λ j q. refl) (zeros-at k n) (get_or-replicate {A = ℕ} k n highest_rank 0 (omega arith)) (none n)
