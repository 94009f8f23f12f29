-- What is claimed of a good table's room, and a room's servers and cords as rows.
use Rattle.std.specs.Prelude.{◌≡◌, List, ℕ, length, get_or, map}
use Rattle.figures.specs.Figures.{figures, at}
use Rattle.rooms.specs.Part.{good}
use Rattle.rooms.specs.Table.{Room, cord_count, room_cords}
use Rattle.rooms.specs.Limits.{checked, carried}
use Rattle.rooms.specs.Cords.{server_at}
use Rattle.rooms.specs.declared.lists.ServerRow.{ServerRow}
use Rattle.rooms.specs.declared.lists.CordRow.{CordRow}
use Rattle.rooms.specs.Lists.{nodes_of, levels_of, shares_of, servers_of}

-- What is claimed of the room that a good table gives. Of any other list nothing is claimed.
abbrev pub OfRoom : List ℕ → (Room → Type 0) → Type 0
OfRoom table claim = (r : Room) (end : ℕ) → checked table 0 ≡ good r end → claim r

-- A number is the room's count of nodes, of servers or of cords, or its scale.
abbrev pub NodesFit : List ℕ → ℕ → Type 0
NodesFit table size = OfRoom table (λ r. size ≡ length r.nodes)

abbrev pub ServersFit : List ℕ → ℕ → Type 0
ServersFit table size = OfRoom table (λ r. size ≡ length r.servers)

abbrev pub CordsFit : List ℕ → ℕ → Type 0
CordsFit table size = OfRoom table (λ r. size ≡ room_cords r)

abbrev pub ScaleIs : List ℕ → ℕ → Type 0
ScaleIs table scale = OfRoom table (λ r. scale ≡ r.scale)

-- The row at a place: past the last row its figures are 0.
abbrev pub no_server_row : ServerRow
no_server_row = record { rank = 0; least = 0; greatest = 0; cords = 0 }

abbrev pub server_row_at : List ServerRow → ℕ → ServerRow
server_row_at rows v = get_or rows v no_server_row

abbrev pub no_cord_row : CordRow
no_cord_row = record { node = 0; server = 0; level = 0; share = 0 }

abbrev pub cord_row_at : List CordRow → ℕ → CordRow
cord_row_at rows c = get_or rows c no_cord_row

-- The ranks, the leasts, the greatests and the counts of cords in servers' rows.
abbrev pub ranks_in : List ServerRow → List ℕ
ranks_in rows = map (λ (row : ServerRow). row.rank) rows

abbrev pub leasts_in : List ServerRow → List ℕ
leasts_in rows = map (λ (row : ServerRow). row.least) rows

abbrev pub greatests_in : List ServerRow → List ℕ
greatests_in rows = map (λ (row : ServerRow). row.greatest) rows

abbrev pub counts_in : List ServerRow → List ℕ
counts_in rows = map (λ (row : ServerRow). row.cords) rows

-- The numbers of the nodes, the places of the servers, the levels and the shares in cords' rows.
abbrev pub nodes_in : List CordRow → List ℕ
nodes_in rows = map (λ (row : CordRow). row.node) rows

abbrev pub servers_in : List CordRow → List ℕ
servers_in rows = map (λ (row : CordRow). row.server) rows

abbrev pub levels_in : List CordRow → List ℕ
levels_in rows = map (λ (row : CordRow). row.level) rows

abbrev pub shares_in : List CordRow → List ℕ
shares_in rows = map (λ (row : CordRow). row.share) rows

-- What each cord carries where each server has the load given, by the cords' shares and the places of their servers:
-- ceil(share × load / scale).
abbrev pub carried_from : ℕ → List ℕ → List ℕ → List ℕ → List ℕ
carried_from scale shares servers loads = figures (length shares) (λ c. carried scale (at shares c) (at loads (at servers c)))

-- The rows are those of the room's servers, in table order.
pub record ServerRows (r : Room) (rows : List ServerRow) : Type 0 where
  pub ranks : ranks_in rows ≡ figures (length r.servers) (λ v. (server_at r v).rank)
  pub leasts : leasts_in rows ≡ figures (length r.servers) (λ v. (server_at r v).least)
  pub greatests : greatests_in rows ≡ figures (length r.servers) (λ v. (server_at r v).greatest)
  pub counts : counts_in rows ≡ figures (length r.servers) (λ v. cord_count (server_at r v))

-- The rows are those of the room's cords, in table order.
pub record CordRows (r : Room) (rows : List CordRow) : Type 0 where
  pub nodes : nodes_in rows ≡ nodes_of r
  pub servers : servers_in rows ≡ servers_of r
  pub levels : levels_in rows ≡ levels_of r
  pub shares : shares_in rows ≡ shares_of r
