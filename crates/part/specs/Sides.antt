-- Both sides of a cut in the words of a table: what contracts of private functions cite. No public contract does.
use Rattle.std.specs.Prelude.{◌≡◌, Bool, true, false, cond, List, [], ◌∷◌, ◌++◌, ℕ, zero, suc, ◌+◌, ◌-◌, ◌*◌, ◌^◌, ◌≤◌, ◌<◌, length, get_or, drop}
use Rattle.std.specs.Prelude.{Option, Some, None, Result, Ok, Err}
use Rattle.std.specs.Option.{option_or}
use Rattle.outcomes.specs.Outcome.{accepted, refused}
use Rattle.figures.specs.Bounds.{AllBelow}
use Rattle.rooms.specs.Table.{Room, most_words, form_of, node_words}
use Rattle.join.specs.declared.Hut.{Hut}
use Rattle.join.specs.Pieces.{renumbered_every, renumbered_cords, piece}
use Rattle.calls.specs.Call.{told_numbers}
use Rattle.part.specs.Crossing.{across, nodes_behind, servers_start, servers_behind}
use Rattle.part.specs.Outcome.{PartOutcome, part_refusal_number, part_refusal_place, part_numbers}
use Rattle.part.specs.Call.{PartsLeft}
use Rattle.part.specs.declared.Side.{Side}
use Rattle.part.specs.declared.Counts.{Counts}
use Rattle.part.specs.declared.PartRefusal.{PartRefusal}

-- ---- Words across the cut

-- The index of the first word across the cut, of words that start at an index of which one is a parent, and then, after each, a gap of so
-- many is not; `skip` of them are left of a gap.
unfoldable pub every_across : (nodes gap skip index : ℕ) → List ℕ → Option ℕ
every_across nodes gap zero index (word ∷ rest) = cond (across nodes false word) (Some index) (every_across nodes gap gap (index + 1) rest)
every_across nodes gap (suc skip) index (word ∷ rest) = every_across nodes gap skip (index + 1) rest
every_across nodes gap zero index [] = None
every_across nodes gap (suc skip) index [] = None

-- Likewise of words of servers that start with so many cords, node and share each.
unfoldable pub cords_across : (nodes : ℕ) (before : Bool) (cords index : ℕ) → List ℕ → Option ℕ
cords_across nodes before (suc cords) index (node ∷ share ∷ rest) =
    cond (across nodes before node) (Some index) (cords_across nodes before cords (index + 2) rest)
cords_across nodes before (suc cords) index (node ∷ []) = cond (across nodes before node) (Some index) None
cords_across nodes before (suc cords) index [] = None
cords_across nodes before zero index (rank ∷ least ∷ greatest ∷ cords ∷ rest) = cords_across nodes before cords (index + 4) rest
cords_across nodes before zero index (rank ∷ least ∷ greatest ∷ []) = None
cords_across nodes before zero index (rank ∷ least ∷ []) = None
cords_across nodes before zero index (rank ∷ []) = None
cords_across nodes before zero index [] = None

-- How many words the server has that some words start with, and so many servers.
abbrev pub server_span : List ℕ → ℕ
server_span [] = 0
server_span (rank ∷ rest) = 4 + 2 * get_or rest 2 0

unfoldable pub span : ℕ → List ℕ → ℕ
span zero words = 0
span (suc servers) words = server_span words + span servers (drop (server_span words) words)

-- ---- Sides

-- The sides of a cut after so many nodes and servers.
abbrev pub side_before : (version nodes servers : ℕ) → Room → Side
side_before version nodes servers r = record {
  version = version;
  nodes = nodes;
  top = 2;
  bottom = nodes_behind version nodes;
  servers = servers;
  start = servers_start version r;
  end = servers_behind version servers r;
  down = 0;
}

abbrev pub side_behind : (words version nodes servers : ℕ) → Room → Side
side_behind words version nodes servers r = record {
  version = version;
  nodes = length r.nodes - nodes;
  top = nodes_behind version nodes;
  bottom = nodes_behind version (length r.nodes);
  servers = length r.servers - servers;
  start = servers_behind version servers r;
  end = words;
  down = nodes;
}

-- The side behind a cut, by what is kept of a table and the side before.
abbrev pub behind_of : Hut → Side → Side
behind_of hut one = record {
  version = hut.version;
  nodes = hut.nodes - one.nodes;
  top = one.bottom;
  bottom = hut.middle;
  servers = hut.servers - one.servers;
  start = one.end;
  end = hut.words;
  down = one.nodes;
}

-- The table that a side gives.
abbrev pub side_table : Side → List ℕ → List ℕ
side_table side w =
    side.version ∷ side.nodes
    ∷ (renumbered_every (node_words (form_of side.version).percents - 1) 0 side.down 0 (piece side.top side.bottom w)
    ++ (side.servers ∷ renumbered_cords 0 side.down 0 (piece side.start side.end w)))

-- A side's words are there, its counts fit a word, and so does every word of the table.
pub record SideFits (w : List ℕ) (side : Side) : Type 0 where
  pub nodes : side.nodes < 2 ^ 32
  pub servers : side.servers < 2 ^ 32
  pub node_words_there : (side.top ≤ side.bottom) × (side.bottom ≤ length w)
  pub server_words_there : (side.start ≤ side.end) × (side.end ≤ length w)
  pub long : length w < 2 ^ 32
  pub below : AllBelow (2 ^ 31) w

-- How many words a side's table has.
abbrev pub side_words : Side → ℕ
side_words side = 3 + (side.bottom - side.top) + (side.end - side.start)

-- The index of the first word across the cut between two sides.
abbrev pub first_across : (one two : Side) → List ℕ → Option ℕ
first_across one two w =
    option_or (every_across one.nodes (node_words (form_of one.version).percents - 1) 0 two.top (piece two.top two.bottom w))
    (option_or (cords_across one.nodes true 0 one.start (piece one.start one.end w))
    (cords_across one.nodes false 0 two.start (piece two.start two.end w)))

-- What is admitted of a table, for outputs of so many words: both sides, whose tables are the parts; or the refusal.
pub record Halved (w : List ℕ) (outcome : PartOutcome) (first second : ℕ) (one two : Side) : Type 0 where
  pub is : outcome ≡ accepted (record { first = side_table one w; second = side_table two w })
  pub first_fits : SideFits w one
  pub second_fits : SideFits w two
  pub first_space : (side_words one ≤ most_words) × (side_words one ≤ first)
  pub second_space : (side_words two ≤ most_words) × (side_words two ≤ second)

abbrev pub Admits : List ℕ → PartOutcome → (first second : ℕ) → Result (Side × Side) PartRefusal → Type 0
Admits w outcome first second (Ok sides) = Halved w outcome first second sides.0 sides.1
Admits w outcome first second (Err refusal) = outcome ≡ refused refusal

-- What is stored of an outcome, and told of it.
pub record Stored (outcome : PartOutcome) (first second first' second' : List ℕ) (told : Result Counts PartRefusal) : Type 0 where
  pub left : PartsLeft outcome first second first' second' true
  pub numbers : told_numbers (λ counts. counts.first ∷ counts.second ∷ []) part_refusal_number part_refusal_place told ≡ part_numbers outcome
