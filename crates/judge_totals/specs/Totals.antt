-- Totals over the trees of a room, by lists: what the contracts of `judge_totals` cite. Nodes and cords stand at their places; a parent,
-- and a cord's node, is a number: a place plus one, or 0 for none.
use Rattle.std.specs.Prelude.{◌≡◌, Bool, cond, List, ℕ, zero, suc, ◌+◌, ◌-◌, ◌≤◌, ◌<◌, min, max, eqb, leb, ltb, length, set, Option, None, Some}
use Rattle.figures.specs.Credits.{credited}
use Rattle.figures.specs.Figures.{at}
use Rattle.figures.specs.Sums.{on, sum}
use Rattle.rooms.specs.Table.{Room, most_cords, most_watts, highest_rank, room_cords}
use Rattle.rooms.specs.Limits.{first_node}
use Rattle.rooms.specs.Credits.{tree_sum}
use Rattle.rooms.specs.Lists.{nodes_of, levels_of, lows_of}
use Rattle.deals.specs.Wants.{first_wants}
use Rattle.deals.specs.Judge.{highest, below_low, above_want}
use Rattle.judge_totals.specs.declared.Faults.{Faults}
use Rattle.rooms.specs.Trees.{sum_beneath}

-- The place that a number tells: none for 0.
abbrev pub place_of : ℕ → Option ℕ
place_of zero = None
place_of (suc place) = Some place

-- ---- The lists

-- The cords: the node and the level of each, and its low, want and grant, in this order.
pub record GrantedCords (node_count : ℕ) (nodes levels lows wants grants : List ℕ) : Type 0 where
  pub few : length nodes ≤ most_cords
  pub hangs : (c : ℕ) → c < length nodes → 1 ≤ at nodes c
  pub within : (c : ℕ) → c < length nodes → at nodes c ≤ node_count
  pub ranked : (c : ℕ) → c < length nodes → at levels c < highest_rank
  pub least : (c : ℕ) → c < length nodes → at lows c ≤ at grants c
  pub most : (c : ℕ) → c < length nodes → at grants c ≤ at wants c
  pub wants_most : (c : ℕ) → c < length nodes → at wants c ≤ most_watts

-- ---- Sums on nodes

-- The watts of each cord over its low.
abbrev pub over_low : List ℕ → List ℕ → ℕ → ℕ
over_low lows watts c = at watts c - at lows c

-- A figure of the cords that hang on the node at place n itself, summed.
unfoldable pub on_node : List ℕ → (ℕ → ℕ) → ℕ → ℕ
on_node nodes figure n = sum (length nodes) (λ c. on (eqb (at nodes c) (suc n)) (figure c))

-- A figure of the cords of a level and above; 0 for the others.
abbrev pub from_level : List ℕ → ℕ → (ℕ → ℕ) → ℕ → ℕ
from_level levels j figure c = on (leb j (at levels c)) (figure c)

-- ---- What is noted on nodes

-- What is noted of a cord or of a node: the watts that are given there, the lowest rank that these are of, and the highest rank that could
-- have more. `given` and `most` are by level: what the cords of the level and above have, and the most that they could have.
pub record Noted (given most : ℕ → ℕ) (watts raised wanting : ℕ) : Type 0 where
  pub watts_are : watts ≡ given 0
  pub falls : (j : ℕ) → j < highest_rank → given j ≤ given 0
  -- The levels below j have watts exactly where the lowest rank is one of theirs. For no watts it may be the highest rank.
  pub none_lower : (j : ℕ) → j < highest_rank → j < raised → given j ≡ given 0
  pub some_lower : (j : ℕ) → j < highest_rank → raised ≤ j → given j < given 0
  pub within : (j : ℕ) → j < highest_rank → given j ≤ most j
  -- From the highest rank that could have more, 0 for none, the levels above have the most; and its own has less.
  pub rank : wanting ≤ highest_rank
  pub none_higher : (j : ℕ) → j < highest_rank → wanting ≤ j → given j ≡ most j
  pub less : (j : ℕ) → wanting ≡ suc j → given j < most j

-- The notes on nodes, by their lists: of each node watts, the lowest rank that they are of, and the highest rank that could have more.
pub record Notes : Type 0 where
  pub given : List ℕ
  pub raised : List ℕ
  pub wanting : List ℕ

abbrev pub notes_in : (given raised wanting : List ℕ) → Notes
notes_in given raised wanting = record { given = given; raised = raised; wanting = wanting }

-- It is noted of each of so many nodes.
abbrev pub AllNoted : ℕ → (given most : ℕ → ℕ → ℕ) → Notes → Type 0
AllNoted count given most notes =
    (n : ℕ) → n < count → Noted (λ j. given j n) (λ j. most j n) (at notes.given n) (at notes.raised n) (at notes.wanting n)

-- Nothing is noted of any.
abbrev pub Unnoted : ℕ → Notes → Type 0
Unnoted count = AllNoted count (λ j n. 0) (λ j n. 0)

-- The cords' own notes on their nodes.
abbrev pub CordsNoted : (count : ℕ) (nodes levels lows wants grants : List ℕ) → Notes → Type 0
CordsNoted count nodes levels lows wants grants =
    AllNoted count (λ j. on_node nodes (from_level levels j (over_low lows grants)))
    (λ j. on_node nodes (from_level levels j (over_low lows wants)))

-- What the pass over a room's cords finds and leaves: the first cord below its low; if there is none, the first above its want; and if
-- there is none either, the notes of all.
pub record CordsJudged (r : Room) (demands grants : List ℕ) (count : ℕ) (faults : Faults) (notes : Notes) : Type 0 where
  pub below_is : faults.below ≡ place_of (first_node (room_cords r) 0 (below_low r grants))
  pub above_is : faults.below ≡ None → faults.above ≡ place_of (first_node (room_cords r) 0 (above_want r demands grants))
  pub noted : faults.below ≡ None → faults.above ≡ None
      → CordsNoted count (nodes_of r) (levels_of r) (lows_of r) (first_wants r demands) grants notes

-- A rank merged with the one that stands on a node, by the node's number; 0 is no node.
unfoldable pub merged : (ℕ → ℕ → ℕ) → ℕ → ℕ → List ℕ → List ℕ
merged with zero rank l = l
merged with (suc m) rank l = set l m (with (at l m) rank)

-- The notes with watts, the lowest rank that they are of and the highest rank that could have more, noted on a node by its number.
abbrev pub noted_on : (node watts low high : ℕ) → Notes → Notes
noted_on node watts low high notes =
    notes_in (credited node watts notes.given) (merged min node low notes.raised) (merged max node high notes.wanting)

-- The highest rank that could have more, with the node's limit.
abbrev pub held_back : ℕ → ℕ → ℕ → ℕ → ℕ
held_back limit has raised wanting = cond (ltb has limit) wanting (cond (ltb raised wanting) wanting 0)

-- ---- Totals beneath nodes

-- The most that nodes can have, where each has a figure of its own: no more than it has to spare, nor than its own figure and what its
-- child nodes have.
abbrev pub IsMost : List ℕ → List ℕ → (ℕ → ℕ) → (ℕ → ℕ) → Type 0
IsMost parents spare own most =
    (n : ℕ) → n < length parents
    → most n ≡ min (at spare n) (own n + sum (length parents) (λ m. on (eqb (at parents m) (suc n)) (most m)))

-- What the pass over the nodes leaves, where no node is given more than it has to spare: of the notes of the nodes' own cords, whatever
-- these are, those of all that is beneath each node.
abbrev pub NodesNoted : (parents spare : List ℕ) (over : Option ℕ) (notes notes' : Notes) → Type 0
NodesNoted parents spare over notes notes' =
    (given own most : ℕ → ℕ → ℕ) → AllNoted (length parents) given own notes
    → ((j : ℕ) → j < highest_rank → IsMost parents spare (own j) (most j)) → over ≡ None
    → AllNoted (length parents) (λ j. tree_sum (at parents) (length parents) (given j)) most notes'

-- What the cords of a level and above, beneath the node at place n, have over their lows.
unfoldable pub over_from : (parents nodes levels lows watts : List ℕ) → ℕ → ℕ → ℕ
unfolding on_node sum_beneath
over_from parents nodes levels lows watts j n = tree_sum (at parents) (length parents) (on_node nodes (from_level levels j (over_low lows watts))) n

-- The most that the cords of each level and above can have over their lows, beneath each node.
abbrev pub IsMostFrom : (parents spare nodes levels lows wants : List ℕ) → (ℕ → ℕ → ℕ) → Type 0
IsMostFrom parents spare nodes levels lows wants most =
    (j : ℕ) → j < highest_rank → IsMost parents spare (on_node nodes (from_level levels j (over_low lows wants))) (most j)

-- Whether the grants of a rank and above, beneath the node at place n, are less than the most.
abbrev pub less_than : (parents nodes levels lows grants : List ℕ) → (ℕ → ℕ → ℕ) → ℕ → ℕ → Bool
less_than parents nodes levels lows grants most n rank = ltb (over_from parents nodes levels lows grants (rank - 1) n) (most (rank - 1) n)

-- What the passes come to: the lowest node that is given more than it has to spare; and, if there is none, each node's mark, the highest
-- rank at which it has less than the most.
pub record Compared (parents spare nodes levels lows wants grants : List ℕ) (over : Option ℕ) (short : List ℕ) : Type 0 where
  pub over_is : over ≡ place_of (first_node (length parents) 0 (λ n. ltb (at spare n) (over_from parents nodes levels lows grants 0 n)))
  pub short_is : (most : ℕ → ℕ → ℕ) → IsMostFrom parents spare nodes levels lows wants most → over ≡ None
      → (n : ℕ) → n < length parents → at short n ≡ highest (less_than parents nodes levels lows grants most n) highest_rank
