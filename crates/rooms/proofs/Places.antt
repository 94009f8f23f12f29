-- Where the parts of a good table stand: what crates above go by that read its words again.
use mathlib.Core.Path.{◌≡◌, sym, ap, ◌∙◌}
use mathlib.Core.Bool.{Bool}
use mathlib.Core.List.{List}
use Prim.Native.Nat.{ℕ, suc, ◌+◌, ◌≤◌, ◌<◌}
use native.Mathlib.Omega.{arith}
use native.Mathlib.Numerals.{add-one}
use lib.ListN.{length, get_or}
use Rattle.rooms.specs.Part.{good}
use Rattle.rooms.specs.Table.{Node, Room, most_nodes, form_of, node_words, node, nodes, servers, table}
use Rattle.rooms.specs.Limits.{limit, node_at, parent_of}
use Rattle.rooms.specs.Credits.{node_index, NodesRead, parent_at, limit_at}
use Rattle.rooms.proofs.NodeWords.{percent-to}
use Rattle.rooms.proofs.Inversion.{many-length, NodeIs}
use Rattle.rooms.proofs.Whole.{percents_of, table_is}
use Rattle.rooms.proofs.Rows.{nodes_words, nodes-at}
use Rattle.rooms.specs.Trees.{ParentsFirst}

-- Where the parts of a good table stand: n nodes from index 2 on, and the count of servers at index `count_at`.
pub record Layout (w : List ℕ) (r : Room) (j n count_at : ℕ) : Type 0 where
  pub counted : n ≡ get_or w 1 0
  pub most : n ≤ most_nodes
  pub scale_is : r.scale ≡ (form_of (get_or w 0 0)).scale
  pub nodes_are : nodes (percents_of w) n 1 w 2 ≡ good r.nodes count_at
  pub there : count_at < length w
  pub servers_are : servers r.scale n (get_or w count_at 0) 0 w (count_at + 1) ≡ good r.servers j

pub layout : (w : List ℕ) (r : Room) (j n : ℕ) → n ≡ get_or w 1 0 → table w 0 ≡ good r j → Layout w r j n (node_index (percents_of w) n)
layout w r j n counted e =
    let t = table_is w r j e in
    let count : length r.nodes ≡ n = sym t.node_count ∙ sym counted in
    let at_is : t.middle ≡ node_index (percents_of w) n
    = (nodes_words (percents_of w) (length r.nodes) 1 w 2 r.nodes t.middle t.begun t.nodes_read).0 ∙ ap (node_index (percents_of w)) count in
    rw (← at_is)
    (record {
      counted = counted;
      most = omega (arith, t.few_nodes);
      scale_is = t.scale_is;
      nodes_are = rw (← count) t.nodes_read;
      there = t.there;
      servers_are = rw (← count, t.server_count, add-one) t.servers_read;
    })

module _ (w : List ℕ) (r : Room) (j n count_at : ℕ) (is : Layout w r j n count_at) where
  pub node_stands : (m : ℕ) → m < n
      → NodeIs (percents_of w) (1 + m) w (node_index (percents_of w) m) (node_at r m) (node_index (percents_of w) m + node_words (percents_of w))
  node_stands m g = nodes-at (percents_of w) n 1 w 2 r.nodes count_at _ m g is.nodes_are

  pub same_parent : (m : ℕ) → m < n → parent_at (percents_of w) w m ≡ parent_of r m
  same_parent m g = sym (ap (λ (x : Node). x.parent) (node_stands m g).is)

  pub same-limit : (m : ℕ) → m < n → limit_at (percents_of w) w m ≡ limit (node_at r m)
  same-limit m g = sym (ap (λ (x : Node). limit x) (node_stands m g).is)

  pub table_rises : ParentsFirst n (parent_at (percents_of w) w)
  table_rises m g = omega (arith, (node_stands m g).parent, same_parent m g)

  pub nodes-read : {percents : Bool} → percents ≡ percents_of w → count_at ≡ node_index (percents_of w) n → NodesRead percents w n
  nodes-read f e =
      rw f
      (record {
        few = is.most;
        there = omega (arith, is.there);
        rises = table_rises;
        part = λ m g. omega (arith, percent-to (percents_of w) (node_at r m).percent (node_stands m g).percent, ap (λ (x : Node). x.percent) (node_stands m g).is);
      })

  pub node-count : length r.nodes ≡ n
  node-count = many-length n (node (percents_of w)) (λ own _. suc own) 1 w 2 r.nodes count_at is.nodes_are
