-- The lists that a room's deal goes by: what stands at each place of them, and the same deal by functions of place.
use mathlib.Core.Path.{◌≡◌, sym, ap, ◌∙◌}
use mathlib.Core.List.{List}
use Prim.Native.Nat.{ℕ, ◌-◌, ◌≤◌, ◌<◌}
use native.Mathlib.Decide.{dec_le}
use native.Mathlib.Omega.{arith}
use lib.ListN.{length, get_or-eq_default}
use Rattle.rooms.specs.Table.{Node, Room, highest_rank, room_cords}
use Rattle.rooms.specs.Limits.{limit, node_at, parent_of}
use Rattle.figures.specs.Figures.{figures, at}
use Rattle.rooms.specs.Cords.{RoomCord, cords_of, cord_at, rank_of}
use Rattle.rooms.specs.Lists.{lows_of, parents_of, limits_of, nodes_of, levels_of, shares_of, servers_of}
use Rattle.deals.specs.Metrics.{Deal, deal_from, deal_of}
use Rattle.figures.proofs.Lists.{figures-at, figures-length}
use Rattle.rooms.proofs.Cords.{cords_of-length}

-- Figures that are 0 from place k on stand at every place of their list, past its end too.
figures_everywhere : (k : ℕ) (g : ℕ → ℕ) → ((i : ℕ) → k ≤ i → g i ≡ 0) → (i : ℕ) → at (figures k g) i ≡ g i
figures_everywhere k g none i = go (dec_le k i)
  where
    go : Dec (k ≤ i) → at (figures k g) i ≡ g i
    go (yes h) = get_or-eq_default (figures k g) 0 {n = i} (omega (arith, figures-length k g)) ∙ sym (none i h)
    go (no h) = figures-at k i g (omega arith)

module _ (r : Room) where
  no_node : (m : ℕ) → length r.nodes ≤ m → node_at r m ≡ record { parent = 0; rating = 0; percent = 0 }
  no_node m h = get_or-eq_default r.nodes (record { parent = 0; rating = 0; percent = 0 }) {n = m} h

  no-cord : (c : ℕ) → room_cords r ≤ c → cord_at r c ≡ record { server = 0; node = 0; share = 0 }
  no-cord c h = get_or-eq_default (cords_of r) (record { server = 0; node = 0; share = 0 }) {n = c} (omega (arith, cords_of-length r))

  -- ---- One figure a node

  pub parents_of-length : length (parents_of r) ≡ length r.nodes
  unfolding parents_of
  parents_of-length = figures-length (length r.nodes) _

  pub parents_of-at : (m : ℕ) → at (parents_of r) m ≡ parent_of r m
  unfolding parents_of
  parents_of-at = figures_everywhere (length r.nodes) _ (λ m h. ap (λ (n : Node). n.parent) (no_node m h))

  pub limits_of-length : length (limits_of r) ≡ length r.nodes
  unfolding limits_of
  limits_of-length = figures-length (length r.nodes) _

  pub limits_of-at : (m : ℕ) → at (limits_of r) m ≡ limit (node_at r m)
  unfolding limits_of
  limits_of-at = figures_everywhere (length r.nodes) _ (λ m h. ap limit (no_node m h))

  -- ---- One figure a cord

  pub nodes_of-length : length (nodes_of r) ≡ room_cords r
  unfolding nodes_of
  nodes_of-length = figures-length (room_cords r) _

  pub nodes_of-at : (c : ℕ) → at (nodes_of r) c ≡ (cord_at r c).node
  unfolding nodes_of
  nodes_of-at = figures_everywhere (room_cords r) _ (λ c h. ap (λ (x : RoomCord). x.node) (no-cord c h))

  pub shares_of-at : (c : ℕ) → at (shares_of r) c ≡ (cord_at r c).share
  shares_of-at = figures_everywhere (room_cords r) _ (λ c h. ap (λ (x : RoomCord). x.share) (no-cord c h))

  pub servers_of-at : (c : ℕ) → at (servers_of r) c ≡ (cord_at r c).server
  servers_of-at = figures_everywhere (room_cords r) _ (λ c h. ap (λ (x : RoomCord). x.server) (no-cord c h))

  pub levels_of-length : length (levels_of r) ≡ room_cords r
  unfolding levels_of
  levels_of-length = figures-length (room_cords r) _

  pub levels_of-at : (c : ℕ) → c < room_cords r → at (levels_of r) c ≡ rank_of r c - 1
  unfolding levels_of
  levels_of-at c l = figures-at (room_cords r) c _ l

  -- ---- The deal

  module _ (starts wants : List ℕ) where
    -- The deal of the room by given starts and wants, by functions of place.
    abbrev pub room_deal : Deal
    room_deal = record {
      nodes = length r.nodes;
      parent = parent_of r;
      limit = λ m. limit (node_at r m);
      cords = room_cords r;
      node = λ c. (cord_at r c).node;
      level = at (levels_of r);
      low = at (lows_of r);
      want = at wants;
      start = at starts;
      levels = highest_rank;
    }

    pub deal_of_is : deal_of r starts wants ≡ room_deal
    unfolding deal_of deal_from
    deal_of_is = λ i. record {
      nodes = parents_of-length i;
      parent = λ m. parents_of-at m i;
      limit = λ m. limits_of-at m i;
      cords = nodes_of-length i;
      node = λ c. nodes_of-at c i;
      level = at (levels_of r);
      low = at (lows_of r);
      want = at wants;
      start = at starts;
      levels = highest_rank;
    }
