-- What is kept of a good table, and how the joined one stands in a list: what contracts of private functions cite, of Join and of Part.
-- No public contract does.
use Rattle.std.specs.Prelude.{◌≡◌, List, [], ℕ, ◌+◌, ◌-◌, ◌^◌, ◌≤◌, ◌<◌, length, take, Result, Ok, Err}
use Rattle.outcomes.specs.Outcome.{accepted, refused}
use Rattle.figures.specs.Figures.{at}
use Rattle.rooms.specs.Part.{Step, good, bad}
use Rattle.rooms.specs.Table.{Room, room_cords}
use Rattle.rooms.specs.Limits.{checked}
use Rattle.rooms.specs.Words.{table_of}
use Rattle.rooms.specs.Walk.{servers_index}
use Rattle.join.specs.Joined.{joined}
use Rattle.join.specs.Outcome.{JoinOutcome}
use Rattle.join.specs.declared.Hut.{Hut}
use Rattle.rooms.specs.declared.SheetRefusal.{SheetRefusal}

-- What is kept of a table whose room is r.
abbrev pub hut_of : List ℕ → Room → Hut
hut_of w r = record {
  version = at w 0;
  nodes = length r.nodes;
  servers = length r.servers;
  cords = room_cords r;
  middle = servers_index w;
  words = length w;
}

-- What the check of a table gives.
unfoldable pub examined_step : List ℕ → Step Room → Result Hut SheetRefusal
examined_step w (good r end) = Ok (hut_of w r)
examined_step w (bad refusal) = Err refusal

abbrev pub examined : List ℕ → Result Hut SheetRefusal
examined w = examined_step w (checked w 0)

-- The table is good, and this is kept of it.
pub record HutOf (w : List ℕ) (hut : Hut) : Type 0 where
  pub room : Room
  pub end : ℕ
  pub good_table : checked w 0 ≡ good room end
  pub is : hut ≡ hut_of w room

-- Its figures are below a bound, so that two of them can be added.
pub record Small (hut : Hut) : Type 0 where
  pub nodes : hut.nodes < 2 ^ 32
  pub servers : hut.servers < 2 ^ 32
  pub cords : hut.cords < 2 ^ 32
  pub words : (3 ≤ hut.words) × (hut.words < 2 ^ 32)

-- Two good tables of one version may be put together in a list of so many words.
pub record MayPutTogether (f : List ℕ) (one : Hut) (s : List ℕ) (two : Hut) (entries : ℕ) : Type 0 where
  pub first : HutOf f one
  pub second : HutOf s two
  pub version : one.version ≡ two.version
  pub space : one.words + two.words - 3 ≤ entries

-- The joined table stands at the front of a list.
abbrev pub JoinedInFront : List ℕ → List ℕ → List ℕ → Type 0
JoinedInFront f s list = (r q : Room) (i j : ℕ) → checked f 0 ≡ good r i → checked s 0 ≡ good q j
    → take (length (table_of (at f 0) (joined r q))) list ≡ table_of (at f 0) (joined r q)

-- What is written to the list: the table, or nothing.
abbrev pub written : JoinOutcome → List ℕ
written (accepted table) = table
written (refused refusal) = []

-- What is written stands at the front of a list.
pub record InFront (outcome : JoinOutcome) (list : List ℕ) : Type 0 where
  pub is : take (length (written outcome)) list ≡ written outcome
