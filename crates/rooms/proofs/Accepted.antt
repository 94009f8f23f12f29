-- What an accepted table says of its room: the facts on which everything above the table stands.
use mathlib.Core.Path.{◌≡◌}
use mathlib.Core.Bool.{Bool}
use mathlib.Core.List.{List, []}
use Prim.Native.Nat.{ℕ, zero, suc, ◌+◌, ◌-◌, ◌≤◌, ◌<◌}
use native.Mathlib.Omega.{arith}
use lib.ListN.{length, get_or}
use Rattle.rooms.specs.Part.{good, many}
use Rattle.figures.specs.Figures.{total}
use Rattle.rooms.specs.Table.{Node, Cord, Server, Room, IsScale, most_watts, most_nodes, most_servers, most_cords, most_server_cords, highest_rank, nodes, cord, server, servers, cord_count, room_cords, share_sum}
use Rattle.rooms.specs.Limits.{limit, node_at, lows_beneath, overloaded, checked}
use Rattle.rooms.proofs.NodeWords.{percent-to}
use Rattle.rooms.proofs.Inversion.{cord_is, server_is, server_few, many_is}
use Rattle.rooms.proofs.Whole.{form_scale, table_is, checked_is}
use Rattle.rooms.proofs.All.{All}
use Rattle.rooms.proofs.Rows.{many_all, nodes-at}
use Rattle.rooms.proofs.Overloaded.{overloaded_none}

-- ---- The facts

-- The node at a place: its parent's number, counted from 1, is below its own.
pub record NodeAccepted (place : ℕ) (n : Node) : Type 0 where
  pub parent_to : n.parent ≤ place
  pub rating_to : n.rating ≤ most_watts
  pub percent_to : n.percent ≤ 100

-- A cord of a room of such a scale and so many nodes.
pub record CordAccepted (scale node_count : ℕ) (c : Cord) : Type 0 where
  pub node_from : 1 ≤ c.node
  pub node_to : c.node ≤ node_count
  pub share_to : c.share ≤ scale

-- A server of such a room.
pub record ServerAccepted (scale node_count : ℕ) (s : Server) : Type 0 where
  pub rank_from : 1 ≤ s.rank
  pub rank_to : s.rank ≤ highest_rank
  pub ordered : s.least ≤ s.greatest
  pub greatest_to : s.greatest ≤ most_watts
  pub some_cords : 1 ≤ cord_count s
  pub few_cords : cord_count s ≤ most_server_cords
  pub shares : share_sum s.cords ≡ scale
  pub cords : All (CordAccepted scale node_count) s.cords

-- A room; its nodes by place.
pub record Accepted (r : Room) : Type 0 where
  pub scaled : IsScale r.scale
  pub some_nodes : 1 ≤ length r.nodes
  pub few_nodes : length r.nodes ≤ most_nodes
  pub nodes : (m : ℕ) → m < length r.nodes → NodeAccepted m (node_at r m)
  pub few_servers : length r.servers ≤ most_servers
  pub servers : All (ServerAccepted r.scale (length r.nodes)) r.servers
  pub few_cords : room_cords r ≤ most_cords
  pub lows : (m : ℕ) → m < length r.nodes → lows_beneath r m ≤ limit (node_at r m)

-- ---- Why they hold

cord_accepted : (scale node_count : ℕ) (w : List ℕ) (i : ℕ) (c : Cord) (j : ℕ) → cord scale node_count w i ≡ good c j → CordAccepted scale node_count c
cord_accepted scale node_count w i c j e =
    let a = cord_is scale node_count w i c j e in
    record { node_from = a.first; node_to = a.last; share_to = a.share }

pub server_accepted : (scale node_count before : ℕ) (w : List ℕ) (i : ℕ) (s : Server) (j : ℕ) → server scale node_count before w i ≡ good s j → ServerAccepted scale node_count s
server_accepted scale node_count before w i s j e =
    let a = server_is scale node_count before w i s j e in
    record {
      rank_from = a.lowest;
      rank_to = a.highest;
      ordered = a.ordered;
      greatest_to = a.greatest;
      some_cords = a.load.some;
      few_cords = omega (arith, a.load.few);
      shares = a.load.whole;
      cords = many_all _ _ w (CordAccepted scale node_count) (λ _ i c j d. cord_accepted scale node_count w i c j d) _ 0 _ s.cords j a.load.are;
    }

-- Servers after `before` cords leave the room with no more than it may have.
servers_few : (scale node_count left before : ℕ) (w : List ℕ) (i : ℕ) (l : List Server) (j : ℕ) → before ≤ most_cords → servers scale node_count left before w i ≡ good l j
    → before + total cord_count l ≤ most_cords
unfolding many total
servers_few scale node_count zero before w i l j h e = let x : [] ≡ l = cc in rw (← x) (omega arith)
servers_few scale node_count (suc left) before w i l j h e =
    let m = many_is left (server scale node_count) (λ before s. before + cord_count s) before w i l j e in
    let few : before + cord_count m.got ≤ most_cords = server_few scale node_count before w i m.got m.at h m.first in
    rw m.is (omega (arith, servers_few scale node_count left (before + cord_count m.got) w m.at m.rest j few m.others))

-- The node at a place: its own number is one more.
nodes_accepted : (percents : Bool) (count : ℕ) (w : List ℕ) (i : ℕ) (l : List Node) (j : ℕ) → nodes percents count 1 w i ≡ good l j
    → (m : ℕ) (d : Node) → m < count → NodeAccepted m (get_or l m d)
nodes_accepted percents count w i l j e m d h =
    let n = nodes-at percents count 1 w i l j d m h e in
    record { parent_to = omega (arith, n.parent); rating_to = n.rating; percent_to = percent-to percents _ n.percent }

-- The lows beneath the node at place m, whose number is one more, are within its limit.
lows-within : (r : Room) → overloaded r ≡ 0 → (m : ℕ) → m < length r.nodes → lows_beneath r m ≤ limit (node_at r m)
lows-within r e m h =
    let place : suc m - 1 ≡ m = omega arith in
    rw place at ((overloaded_none r).0 e (suc m) (omega arith, h))

pub accepted : (w : List ℕ) (r : Room) (j : ℕ) → checked w 0 ≡ good r j → Accepted r
accepted w r j e =
    let c = checked_is w r j e in
    let t = table_is w r j c.0 in
    record {
      scaled = rw t.scale_is (form_scale _);
      some_nodes = t.some_nodes;
      few_nodes = t.few_nodes;
      nodes = λ m h. nodes_accepted _ _ w 2 r.nodes t.middle t.nodes_read m _ h;
      few_servers = t.few_servers;
      servers = many_all _ _ w (ServerAccepted r.scale (length r.nodes)) (λ before i s j d. server_accepted _ _ before w i s j d) _ 0 _ r.servers j t.servers_read;
      few_cords = omega (arith, servers_few _ _ _ 0 w _ r.servers j (omega arith) t.servers_read);
      lows = lows-within r c.1;
    }
