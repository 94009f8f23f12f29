-- The active nodes of a level: the marks of the nodes, the list of those with the level's, and what is done node by node, done by the
-- list alone.
use mathlib.Core.Path.{◌≡◌, refl, sym, ap, ◌∙◌, subst}
use mathlib.Core.Bool.{Bool, true, false}
use mathlib.Core.List.{List, []}
use Prim.Native.Nat.{ℕ, suc, ◌+◌, ◌-◌, ◌/◌, ◌%◌, ◌^◌, ◌≤◌, ◌<◌, max}
use native.Mathlib.Nat.{le_refl, mod-lt}
use native.Mathlib.Omega.{arith}
use lib.Bits.{bit_or, or_shr, or_step}
use lib.Dec.{eqb, ltb}
use lib.ListN.{length, get_or, set, take, length-set}
use lib.Seq.{get_or-set_same, get_or-set_other, get_or-take, length-take-le}
use borrow.Author.Count.{below_more}
use borrow.Author.Tests.{eqb-true, eqb-false, ltb-true, ltb-false}
use Rattle.rooms.specs.Table.{most_nodes, highest_rank}
use Rattle.figures.specs.Figures.{at}
use Rattle.deals.specs.declared.levels.Level.{Level}
use Rattle.deals.specs.Levels.{no_cords, level_at, AllLevels, Ordered, Marked, MarksAdded, NodeMarks, Listed, FullLists, LevelsListed, ActivesListed, ActiveNodes, CordsActive, LevelLists}
use Rattle.figures.specs.Places.{Absent}
use Rattle.rooms.specs.Trees.{ParentsFirst}

-- ---- Marks

module _ (a b level : ℕ) where
  or_bit : bit_or a b / 2 ^ level % 2 ≡ max (a / 2 ^ level % 2) (b / 2 ^ level % 2)
  or_bit =
      let x : ℕ = a / 2 ^ level in
      let y : ℕ = b / 2 ^ level in
      let s = or_step x y in
      ap (λ (z : ℕ). z % 2) (or_shr a b level) ∙ omega (arith, s)

  pub marked_left : Marked a level → Marked (bit_or a b) level
  marked_left h = omega (arith, or_bit)

  pub marked_right : Marked b level → Marked (bit_or a b) level
  marked_right h = omega (arith, or_bit)

-- The marks after more are added to those of a node.
module _ (marks : List ℕ) (node more : ℕ) (some : node ≡ 0 → ⊥) (there : node ≤ length marks) where
  abbrev added : List ℕ
  added = set marks (node - 1) (bit_or (at marks (node - 1)) more)

  added_here : at added (node - 1) ≡ bit_or (at marks (node - 1)) more
  added_here = get_or-set_same marks (node - 1) (bit_or (at marks (node - 1)) more) 0 (omega arith)

  added_other : (n : ℕ) → (n ≡ node - 1 → ⊥) → at added n ≡ at marks n
  added_other n d = get_or-set_other marks (node - 1) n (bit_or (at marks (node - 1)) more) 0 d

  added_kept : (n level : ℕ) → Marked (at marks n) level → Marked (at added n) level
  added_kept n level h = go (eqb n (node - 1)) refl
    where
      go : (t : Bool) → eqb n (node - 1) ≡ t → Marked (at added n) level
      go true e =
          let q : n ≡ node - 1 = eqb-true n (node - 1) e in
          rw (q, added_here) (marked_left (at marks (node - 1)) more level (rw q at h))
      go false e = rw (added_other n (eqb-false n (node - 1) e)) h

  pub marks_added : MarksAdded node more marks added
  marks_added = record {
    kept = added_kept;
    added = λ n level e h.
        let q : n ≡ node - 1 = omega arith in
        rw (q, added_here) (marked_right (at marks (node - 1)) more level h);
    later = λ n l. added_other n (λ e. omega arith);
  }

-- Before the turn of the cord at place c: the nodes of the cords before it are marked with their levels.
pub record MarkingCords (parents nodes levels : List ℕ) (c : ℕ) (marks : List ℕ) : Type 0 where
  pub reached : c ≤ length nodes
  pub size : length marks ≡ length parents
  pub cords : (h : ℕ) → h < c → (n : ℕ) → at nodes h ≡ suc n → Marked (at marks n) (at levels h)

pub marking_start : (parents nodes levels marks : List ℕ) → length marks ≡ length parents → MarkingCords parents nodes levels 0 marks
marking_start parents nodes levels marks size = record { reached = omega arith; size = size; cords = λ h l. absurd (omega arith) }

-- Before the turn of the node at place n - 1: the nodes from n on have passed their marks on.
pub record Marking (parents nodes levels : List ℕ) (n : ℕ) (marks : List ℕ) : Type 0 where
  pub reached : n ≤ length parents
  pub size : length marks ≡ length parents
  pub cords : (h : ℕ) → h < length nodes → (p : ℕ) → at nodes h ≡ suc p → Marked (at marks p) (at levels h)
  pub passed : (m p level : ℕ) → n ≤ m → m < length parents → at parents m ≡ suc p → Marked (at marks m) level → Marked (at marks p) level

-- All cords' nodes are marked, and no node has passed its marks on.
pub marking_nodes : {parents nodes levels marks : List ℕ} {c : ℕ} → MarkingCords parents nodes levels c marks → length nodes ≤ c → Marking parents nodes levels (length parents) marks
marking_nodes inv end = record {
  reached = le_refl _;
  size = inv.size;
  cords = λ h l. inv.cords h (omega arith);
  passed = λ m p level h l. absurd (omega arith);
}

module _ {parents nodes levels marks marks' : List ℕ} {node more : ℕ} (size : length marks' ≡ length marks) (adds : MarksAdded node more marks marks') where
  pub cord_marked : {c level : ℕ} → MarkingCords parents nodes levels c marks → c < length nodes → node ≡ at nodes c → level ≡ at levels c → Marked more level
      → MarkingCords parents nodes levels (c + 1) marks'
  cord_marked {c} {level} inv more_cords en el is = record {
    reached = omega arith;
    size = size ∙ inv.size;
    cords = below_more (λ h. (n : ℕ) → at nodes h ≡ suc n → Marked (at marks' n) (at levels h)) c (λ h l n e. adds.kept n (at levels h) (inv.cords h l n e))
        (λ n e. adds.added n (at levels c) (en ∙ e) (subst (Marked more) el is));
  }

  -- A node's turn: its marks are its parent's too.
  pub marking_turn : {n : ℕ} → ParentsFirst (length parents) (at parents)
      → Marking parents nodes levels n marks → 0 < n → node ≡ at parents (n - 1) → more ≡ at marks (n - 1) → Marking parents nodes levels (n - 1) marks'
  marking_turn {n = n} rises inv some en em = record {
    reached = omega (arith, inv.reached);
    size = size ∙ inv.size;
    cords = λ h l m e. adds.kept m (at levels h) (inv.cords h l m e);
    passed = λ m p level h l e is.
        let rise = rises (n - 1) (omega (arith, inv.reached)) in
        let before : Marked (at marks m) level = subst (λ (x : ℕ). Marked x level) (adds.later m (omega arith)) is in
        go m p level h l e before (eqb m (n - 1)) refl;
  }
    where
      go : (m p level : ℕ) → n - 1 ≤ m → m < length parents → at parents m ≡ suc p → Marked (at marks m) level → (t : Bool) → eqb m (n - 1) ≡ t → Marked (at marks' p) level
      go m p level h l e is true q =
          let here : m ≡ n - 1 = eqb-true m (n - 1) q in
          adds.added p level (en ∙ sym (ap (at parents) here) ∙ e) (subst (λ (x : ℕ). Marked x level) (sym (em ∙ sym (ap (at marks) here))) is)
      go m p level h l e is false q =
          let d : m ≡ n - 1 → ⊥ = eqb-false m (n - 1) q in
          adds.kept p level (inv.passed m p level (omega arith) l e is)

pub marking_end : {parents nodes levels marks : List ℕ} {n : ℕ} → Marking parents nodes levels n marks → n ≤ 0 → NodeMarks parents nodes levels marks
marking_end inv z = record { cords = λ c n l. inv.cords c l n; children = λ m n level l. inv.passed m n level (omega arith) l }

-- ---- The list of the nodes with a level's mark

-- Before the turn of the node at place n.
pub record Listing (marks : List ℕ) (level n : ℕ) (list : List ℕ) (count : ℕ) : Type 0 where
  pub reached : n ≤ length marks
  pub size : length marks ≤ length list
  pub few : count ≤ n
  pub within : (i : ℕ) → i < count → at list i < n
  pub rises : (i k : ℕ) → i < k → k < count → at list i < at list k
  pub marked : (i : ℕ) → i < count → Marked (at marks (at list i)) level
  pub all : (m : ℕ) → m < n → Marked (at marks m) level → Absent list count m → ⊥

pub listing_start : (marks : List ℕ) (level : ℕ) (list : List ℕ) → length marks ≤ length list → Listing marks level 0 list 0
listing_start marks level list size = record {
  reached = omega arith;
  size = size;
  few = omega arith;
  within = λ i l. absurd (omega arith);
  rises = λ i k l h. absurd (omega arith);
  marked = λ i l. absurd (omega arith);
  all = λ m l. absurd (omega arith);
}

module _ {marks : List ℕ} {level n : ℕ} {list : List ℕ} {count : ℕ} (inv : Listing marks level n list count) where
  pub listing_end : length marks ≤ n → Listed marks level list count
  listing_end h = record {
    few = omega (arith, inv.few, inv.size, inv.reached);
    within = λ i l. omega (arith, inv.within i l, inv.reached);
    rises = inv.rises;
    marked = inv.marked;
    all = λ m l. inv.all m (omega (arith, inv.reached));
  }

  module _ (more : n < length marks) where
    put : List ℕ
    put = set list count n

    here : at put count ≡ n
    unfolding put
    here = get_or-set_same list count n 0 (omega (arith, inv.few, inv.size))

    other : (i : ℕ) → i < count → at put i ≡ at list i
    unfolding put
    other i l = get_or-set_other list count i n 0 (λ e. omega arith)

    absent : (m count' : ℕ) → count ≤ count' → Absent put count' m → Absent list count m
    absent m count' h a i l e = a i (omega arith) (other i l ∙ e)

    -- A node without the mark is overwritten by the next.
    passed_over : (Marked (at marks n) level → ⊥) → Listing marks level (n + 1) put count
    unfolding put
    passed_over none = record {
      reached = omega arith;
      size = omega (arith, length-set list count n, inv.size);
      few = omega (arith, inv.few);
      within = λ i l. omega (arith, other i l, inv.within i l);
      rises = λ i k l h. omega (arith, other i (omega arith), other k h, inv.rises i k l h);
      marked = λ i l. rw (other i l) (inv.marked i l);
      all = λ m l h a. below_more (λ m. Marked (at marks m) level → Absent put count m → ⊥) n
          (λ m l h a. inv.all m l h (absent m count (le_refl count) a)) (λ h a. none h) m l h a;
    }

    kept : Marked (at marks n) level → Listing marks level (n + 1) put (count + 1)
    unfolding put
    kept some = record {
      reached = omega arith;
      size = omega (arith, length-set list count n, inv.size);
      few = omega (arith, inv.few);
      within = below_more (λ i. at put i < n + 1) count (λ i l. omega (arith, other i l, inv.within i l)) (omega (arith, here));
      rises = λ i k l h. below_more (λ k. i < k → at put i < at put k) count
          (λ k h l. omega (arith, other i (omega arith), other k h, inv.rises i k l h))
          (λ l. omega (arith, other i l, here, inv.within i l)) k h l;
      marked = below_more (λ i. Marked (at marks (at put i)) level) count (λ i l. rw (other i l) (inv.marked i l)) (rw here some);
      all = λ m l h a. below_more (λ m. Marked (at marks m) level → Absent put (count + 1) m → ⊥) n
          (λ m l h a. inv.all m l h (absent m (count + 1) (omega arith) a)) (λ h a. a count (omega arith) here) m l h a;
    }

    -- One turn, in the terms of the code.
    pub listing_turn : {v bit : ℕ} → v ≡ n → bit ≡ at marks n / 2 ^ level % 2 → Listing marks level (n + 1) (set list count v) (count + bit)
    unfolding put
    listing_turn {v} {bit} ev eb = rw ev (go (eqb bit 1) refl)
      where
        go : (t : Bool) → eqb bit 1 ≡ t → Listing marks level (n + 1) (set list count n) (count + bit)
        go true e =
            let q : bit ≡ 1 = eqb-true bit 1 e in
            rw q (kept (omega arith))
        go false e =
            let d : bit ≡ 1 → ⊥ = eqb-false bit 1 e in
            let two : at marks n / 2 ^ level % 2 < 2 = mod-lt (at marks n / 2 ^ level) (omega arith) in
            let z : bit ≡ 0 = omega arith in
            let s : count + bit ≡ count = omega arith in
            rw s (passed_over (λ h. omega arith))

-- ---- The active nodes of a level

module _ {parents nodes levels marks : List ℕ} (size : length marks ≡ length parents) (is : NodeMarks parents nodes levels marks)
    {level : ℕ} {active : List ℕ} {count : ℕ} (listed : Listed marks level active count) where
  pub active_nodes : ParentsFirst (length parents) (at parents) → ActiveNodes parents active count
  active_nodes rises = record {
    few = listed.few;
    within = λ i l. omega (arith, listed.within i l);
    rises = listed.rises;
    closed = λ m n l e none i h q.
        listed.all n (omega (arith, rises m l)) (is.children m n level l e (subst (λ (m : ℕ). Marked (at marks m) level) q (listed.marked i h))) none;
  }

  pub cords_active : ((c : ℕ) → c < length nodes → at nodes c ≤ length parents) → CordsActive nodes levels level active count
  cords_active within c n l e q none =
      listed.all n (omega (arith, within c l)) (subst (Marked (at marks n)) e (is.cords c n l q)) none

-- ---- The active nodes of all levels

-- Before the turn of a level: those below it are listed; `rows₀` are the levels' rows before all turns.
pub record Levelling (marks : List ℕ) (rows₀ : List Level) (level : ℕ) (rows : List Level) (actives : List (List ℕ)) : Type 0 where
  pub within : level ≤ highest_rank
  pub rows_full : AllLevels rows
  pub full : FullLists actives
  pub bounds : (j : ℕ) → ((level_at rows j).from ≡ (level_at rows₀ j).from) × ((level_at rows j).to ≡ (level_at rows₀ j).to)
  pub listed : (j : ℕ) → j < level → (level_at rows₀ j).from < (level_at rows₀ j).to → Listed marks j (get_or actives j []) (level_at rows j).active_count
  pub none : (j : ℕ) → j < level → (level_at rows₀ j).to ≤ (level_at rows₀ j).from → (level_at rows j).active_count ≡ 0

pub levelling_start : {marks : List ℕ} {rows : List Level} {actives : List (List ℕ)} → AllLevels rows → FullLists actives → Levelling marks rows 0 rows actives
levelling_start rows_full full = record {
  within = omega arith;
  rows_full = rows_full;
  full = full;
  bounds = λ j. (refl, refl);
  listed = λ j l. absurd (omega arith);
  none = λ j l. absurd (omega arith);
}

module _ {marks : List ℕ} {rows₀ : List Level} {level : ℕ} {rows : List Level} {actives : List (List ℕ)} (inv : Levelling marks rows₀ level rows actives) where
  pub levelling_end : highest_rank ≤ level → LevelsListed marks rows₀ actives rows
  levelling_end h = record {
    rows_full = inv.rows_full;
    full = inv.full;
    bounds = inv.bounds;
    listed = λ j l. inv.listed j (omega arith);
    none = λ j l. inv.none j (omega arith);
  }

  -- A level's count is stored: the other levels are as they were, and so are its bounds.
  module _ (more : level < highest_rank) (entry : Level) (same_from : entry.from ≡ (level_at rows level).from) (same_to : entry.to ≡ (level_at rows level).to) where
    abbrev counted : List Level
    counted = set rows level entry

    counted_here : level_at counted level ≡ entry
    counted_here = get_or-set_same rows level entry no_cords (omega (arith, inv.rows_full))

    counted_other : (j : ℕ) → (j ≡ level → ⊥) → level_at counted j ≡ level_at rows j
    counted_other j d = get_or-set_other rows level j entry no_cords d

    same_bounds : (j : ℕ) → ((level_at counted j).from ≡ (level_at rows₀ j).from) × ((level_at counted j).to ≡ (level_at rows₀ j).to)
    same_bounds j = go (eqb j level) refl
      where
        go : (t : Bool) → eqb j level ≡ t → ((level_at counted j).from ≡ (level_at rows₀ j).from) × ((level_at counted j).to ≡ (level_at rows₀ j).to)
        go true e = rw (eqb-true j level e, counted_here) (same_from ∙ (inv.bounds level).0, same_to ∙ (inv.bounds level).1)
        go false e = rw (counted_other j (eqb-false j level e)) (inv.bounds j)

    -- A level that no cord has.
    pub levelling_skip : (level_at rows level).to ≤ (level_at rows level).from → entry.active_count ≡ 0 → Levelling marks rows₀ (level + 1) counted actives
    levelling_skip none e = record {
      within = omega arith;
      rows_full = length-set rows level entry ∙ inv.rows_full;
      full = inv.full;
      bounds = same_bounds;
      listed = below_more (λ j. (level_at rows₀ j).from < (level_at rows₀ j).to → Listed marks j (get_or actives j []) (level_at counted j).active_count) level
          (λ j l has. rw (counted_other j (λ q. omega arith)) (inv.listed j l has))
          (λ has. absurd (omega (arith, inv.bounds level)));
      none = below_more (λ j. (level_at rows₀ j).to ≤ (level_at rows₀ j).from → (level_at counted j).active_count ≡ 0) level
          (λ j l has. rw (counted_other j (λ q. omega arith)) (inv.none j l has))
          (λ has. rw counted_here e);
    }

    pub levelling_turn : (level_at rows level).from < (level_at rows level).to → (list : List ℕ) → length list ≡ length (get_or actives level [])
        → Listed marks level list entry.active_count → Levelling marks rows₀ (level + 1) counted (set actives level list)
    levelling_turn some_cord list size listed = record {
      within = omega arith;
      rows_full = length-set rows level entry ∙ inv.rows_full;
      full = (
        length-set actives level list ∙ inv.full.0,
        λ j h. set-length (eqb j level) j refl h,
      );
      bounds = same_bounds;
      listed = below_more (λ j. (level_at rows₀ j).from < (level_at rows₀ j).to → Listed marks j (get_or (set actives level list) j []) (level_at counted j).active_count) level
          (λ j l has. rw (get_or-set_other actives level j list [] (λ q. omega arith), counted_other j (λ q. omega arith)) (inv.listed j l has))
          (λ has. rw (row, counted_here) listed);
      none = below_more (λ j. (level_at rows₀ j).to ≤ (level_at rows₀ j).from → (level_at counted j).active_count ≡ 0) level
          (λ j l has. rw (counted_other j (λ q. omega arith)) (inv.none j l has))
          (λ has. absurd (omega (arith, inv.bounds level)));
    }
      where
        row : get_or (set actives level list) level [] ≡ list
        row = get_or-set_same actives level list [] (omega (arith, inv.full.0))

        set-length : (t : Bool) (j : ℕ) → eqb j level ≡ t → j < highest_rank → length (get_or (set actives level list) j []) ≡ most_nodes
        set-length true j q h = rw (eqb-true j level q, row) (size ∙ inv.full.1 level more)
        set-length false j q h = rw (get_or-set_other actives level j list [] (eqb-false j level q)) (inv.full.1 j h)

-- The marked nodes of a level are its active nodes.
pub actives_listed : {parents nodes levels marks : List ℕ} {rows rows' : List Level} {actives : List (List ℕ)} → length marks ≡ length parents
    → NodeMarks parents nodes levels marks
    → ParentsFirst (length parents) (at parents)
    → ((c : ℕ) → c < length nodes → at nodes c ≤ length parents)
    → LevelsListed marks rows actives rows'
    → ActivesListed parents nodes levels rows actives rows'
actives_listed size marked rises within all = record {
  rows_full = all.rows_full;
  full = all.full;
  bounds = all.bounds;
  nodes_active = λ j l some. active_nodes size marked (all.listed j l some) rises;
  cords_active = λ j l some. cords_active size marked (all.listed j l some) within;
  none = all.none;
}

-- What both deals take of the levels.
pub level_lists : {parents nodes levels : List ℕ} {rows rows' : List Level} {order : List ℕ} {actives : List (List ℕ)}
    → Ordered levels rows order → ActivesListed parents nodes levels rows actives rows' → LevelLists parents nodes levels rows' order actives
level_lists ordered all = record {
  ordered = record {
    size = ordered.size;
    full = all.rows_full;
    bounds = λ j l. (omega (arith, ordered.bounds j l, all.bounds j), omega (arith, ordered.bounds j l, all.bounds j));
    cords = λ j l. rw ((all.bounds j).0, (all.bounds j).1) (ordered.cords j l);
  };
  full = all.full;
  nodes_active = λ j l some. all.nodes_active j l (omega (arith, all.bounds j));
  cords_active = λ j l some. all.cords_active j l (omega (arith, all.bounds j));
  none = λ j l none. all.none j l (omega (arith, all.bounds j));
}

-- ---- Passing over the nodes that are not active

-- The active nodes before entry i stand before place n, the others from there on.
pub record Parted (active : List ℕ) (count i n : ℕ) : Type 0 where
  pub reached : i ≤ count
  pub below : (k : ℕ) → k < i → at active k < n
  pub from : (k : ℕ) → i ≤ k → k < count → n ≤ at active k

-- Before all entries.
pub parted_none : {active : List ℕ} {count : ℕ} → Parted active count 0 0
parted_none = record { reached = omega arith; below = λ k l. absurd (omega arith); from = λ k l h. omega arith }

module _ {parents active : List ℕ} {count : ℕ} (nodes : ActiveNodes parents active count) where
  -- After all entries.
  pub parted_all : Parted active count count (length parents)
  parted_all = record { reached = le_refl count; below = nodes.within; from = λ k l h. absurd (omega arith) }

  -- At an entry: all before it are below, itself and all after it are not.
  pub parted_at : (i : ℕ) → i < count → Parted active count i (at active i)
  parted_at i l = record {
    reached = omega arith;
    below = λ k h. nodes.rises k i h l;
    from = λ k h b. go k h b (eqb i k) refl;
  }
    where
      go : (k : ℕ) → i ≤ k → k < count → (t : Bool) → eqb i k ≡ t → at active i ≤ at active k
      go k h b true e = omega (arith, ap (at active) (eqb-true i k e))
      go k h b false e =
          let d : i ≡ k → ⊥ = eqb-false i k e in
          omega (arith, nodes.rises i k (omega arith) b)

  -- After an entry.
  pub parted_after : (i : ℕ) → i < count → Parted active count (i + 1) (at active i + 1)
  parted_after i l = record {
    reached = omega arith;
    below = below_more (λ k. at active k < at active i + 1) i (λ k h. omega (arith, nodes.rises k i h l)) (omega arith);
    from = λ k h b. omega (arith, nodes.rises i k (omega arith) b);
  }

-- Between two places that part the active nodes alike there is none.
pub between : {active : List ℕ} {count i m n : ℕ} → Parted active count i m → Parted active count i n → (h : ℕ) → m ≤ h → h < n → Absent active count h
between {active} {count} {i} a b h l u k r e = go (ltb k i) refl
  where
    go : (t : Bool) → ltb k i ≡ t → ⊥
    go true t = absurd (omega (arith, a.below k (ltb-true k i t)))
    go false t = absurd (omega (arith, b.from k (ltb-false k i t) r))

-- ---- The active nodes as the front of their list

-- Of a list whose first `count` entries are lent, these are the entries.
pub absent_front : (list : List ℕ) {count n : ℕ} → count ≤ length list → Absent list count n → Absent (take count list) (length (take count list)) n
absent_front list {count} few none i h e =
    let l : i < count = omega (arith, length-take-le count list few) in
    none i l (sym (get_or-take count list i 0 l) ∙ e)

pub front_absent : (list : List ℕ) {count n : ℕ} → count ≤ length list → Absent (take count list) (length (take count list)) n → Absent list count n
front_absent list {count} few none i h e = none i (omega (arith, length-take-le count list few)) (get_or-take count list i 0 h ∙ e)

pub nodes_front : {parents list : List ℕ} {count : ℕ} → ActiveNodes parents list count → ActiveNodes parents (take count list) (length (take count list))
nodes_front {parents} {list} {count} nodes =
    let size : length (take count list) ≡ count = length-take-le count list nodes.few in
    record {
      few = le_refl (length (take count list));
      within = λ i h. omega (arith, size, get_or-take count list i 0 (omega arith), nodes.within i (omega arith));
      rises = λ i k h l. omega (arith, size, get_or-take count list i 0 (omega arith), get_or-take count list k 0 (omega arith), nodes.rises i k h (omega arith));
      closed = λ m n l e none. absent_front list nodes.few (nodes.closed m n l e (front_absent list nodes.few none));
    }

pub cords_front : (nodes levels list : List ℕ) {level count : ℕ} → count ≤ length list → CordsActive nodes levels level list count
    → CordsActive nodes levels level (take count list) (length (take count list))
cords_front nodes levels list few active c n l ec en none = active c n l ec en (front_absent list few none)
