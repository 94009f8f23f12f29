-- The rows of a room's cords: how many they are, what each has, and what is carried by them.
use mathlib.Core.Path.{◌≡◌, sym, ap, ◌∙◌}
use mathlib.Core.List.{List}
use Prim.Native.Nat.{ℕ}
use lib.ListN.{length, length-map, get_or-map}
use Rattle.figures.specs.Figures.{figures, at}
use Rattle.figures.proofs.Lists.{figures-length}
use Rattle.rooms.specs.Table.{Room, room_cords}
use Rattle.rooms.specs.Limits.{carried}
use Rattle.rooms.specs.Cords.{cord_at}
use Rattle.rooms.specs.Lists.{carried_by, shares_of, servers_of}
use Rattle.rooms.specs.Rows.{cord_row_at, no_cord_row, carried_from, CordRows}
use Rattle.rooms.specs.declared.lists.CordRow.{CordRow}
use Rattle.deals.proofs.RoomDeals.{nodes_of-length, nodes_of-at, shares_of-at, servers_of-at}

module _ {r : Room} {rows : List CordRow} (of_cords : CordRows r rows) where
  pub cords-count : length rows ≡ room_cords r
  cords-count = sym (length-map rows (λ (row : CordRow). row.node)) ∙ ap length of_cords.nodes ∙ nodes_of-length r

  pub node_stands : (c : ℕ) → (cord_row_at rows c).node ≡ (cord_at r c).node
  node_stands c = sym (get_or-map (λ (row : CordRow). row.node) rows c no_cord_row) ∙ ap (λ (l : List ℕ). at l c) of_cords.nodes ∙ nodes_of-at r c

  pub server-at : (c : ℕ) → (cord_row_at rows c).server ≡ (cord_at r c).server
  server-at c = sym (get_or-map (λ (row : CordRow). row.server) rows c no_cord_row) ∙ ap (λ (l : List ℕ). at l c) of_cords.servers ∙ servers_of-at r c

  pub share_at : (c : ℕ) → (cord_row_at rows c).share ≡ (cord_at r c).share
  share_at c = sym (get_or-map (λ (row : CordRow). row.share) rows c no_cord_row) ∙ ap (λ (l : List ℕ). at l c) of_cords.shares ∙ shares_of-at r c

-- What is carried by the room's shares and servers.
pub carried_is : (r : Room) (loads : List ℕ) → carried_from r.scale (shares_of r) (servers_of r) loads ≡ carried_by r loads
unfolding carried_by
carried_is r loads = λ i. figures (figures-length (room_cords r) (λ c. (cord_at r c).share) i) (λ c. carried r.scale (shares_of-at r c i) (at loads (servers_of-at r c i)))
