-- What a good table is: its rows of nodes and servers, and nothing after them; and what the whole check adds.
use mathlib.Core.Bool.{Bool, true, false, cond}
use mathlib.Core.Path.{◌≡◌, refl, sym, ap, ◌∙◌}
use Prim.Native.Nat.{ℕ, suc, ◌≤◌, ◌<◌}
use mathlib.Core.List.{List}
use native.Mathlib.Omega.{arith}
use lib.ListN.{length, get_or}
use lib.Dec.{ltb}
use borrow.Author.Tests.{eqb-true}
use Rattle.rooms.specs.Part.{good}
use Rattle.rooms.specs.Table.{Node, Server, Room, most_nodes, most_servers, most_node_words, newest_version, IsScale, form_of, node_words, nodes, servers, table}
use Rattle.rooms.specs.Limits.{overloaded, checked}
use Rattle.rooms.proofs.Inversion.{took, passed, ended, word_is, many-length}

-- What holds of every version.
pub form_scale : (version : ℕ) → IsScale (form_of version).scale
unfolding form_of
form_scale version = fits (ltb 2 version)
  where
    fits : (fine : Bool) → IsScale (cond fine 10000 1000)
    fits true = (omega arith, omega arith)
    fits false = (omega arith, omega arith)

pub form_words : (version : ℕ) → node_words (form_of version).percents ≤ most_node_words
unfolding form_of
form_words version = few (ltb 1 version)
  where
    few : (percents : Bool) → node_words percents ≤ most_node_words
    few true = omega arith
    few false = omega arith

-- Whether the nodes of a table have a word for their percent, by its version.
abbrev pub percents_of : List ℕ → Bool
percents_of w = (form_of (get_or w 0 0)).percents

-- A good table with the room r; `middle` is the index of the count of servers.
pub record TableIs (w : List ℕ) (r : Room) (j : ℕ) : Type 0 where
  pub begun : 1 < length w
  pub first : 1 ≤ get_or w 0 0
  pub newest : get_or w 0 0 ≤ newest_version
  pub scale_is : r.scale ≡ (form_of (get_or w 0 0)).scale
  pub node_count : get_or w 1 0 ≡ length r.nodes
  pub some_nodes : 1 ≤ length r.nodes
  pub few_nodes : length r.nodes ≤ most_nodes
  pub middle : ℕ
  pub nodes_read : nodes (percents_of w) (length r.nodes) 1 w 2 ≡ good r.nodes middle
  pub there : middle < length w
  pub server_count : get_or w middle 0 ≡ length r.servers
  pub few_servers : length r.servers ≤ most_servers
  pub servers_read : servers r.scale (length r.nodes) (length r.servers) 0 w (suc middle) ≡ good r.servers j
  pub ended : length w ≤ j

pub table_is : (w : List ℕ) (r : Room) (j : ℕ) → table w 0 ≡ good r j → TableIs w r j
unfolding table
table_is w r j e =
    let a = word_is _ _ _ _ _ _ _ e in
    let b = word_is _ _ _ _ _ _ _ a.rest in
    let n = took _ _ _ _ b.rest in
    let c = word_is _ _ _ _ _ _ _ n.rest in
    let s = took _ _ _ _ c.rest in
    let d = ended _ _ _ _ _ s.rest in
    let x : record { scale = (form_of (get_or w 0 0)).scale; nodes = n.got; servers = s.got } ≡ r = cc in
    let y : s.at ≡ j = cc in
    placed (get_or w 1 0) n.got n.at s.got refl b.there a.least a.most b.least b.most n.first c.there c.most (s.first ∙ ap (good s.got) y) (rw y at d.0) x
  where
    placed : (count : ℕ) (ns : List Node) (middle : ℕ) (ss : List Server) → get_or w 1 0 ≡ count → 1 < length w → 1 ≤ get_or w 0 0 → get_or w 0 0 ≤ newest_version → 1 ≤ count → count ≤ most_nodes
        → nodes (percents_of w) count 1 w 2 ≡ good ns middle
        → middle < length w → get_or w middle 0 ≤ most_servers → servers (form_of (get_or w 0 0)).scale count (get_or w middle 0) 0 w (suc middle) ≡ good ss j → length w ≤ j
        → record { scale = (form_of (get_or w 0 0)).scale; nodes = ns; servers = ss } ≡ r → TableIs w r j
    placed count ns middle ss c begun first newest some few read_nodes there few_servers read_servers end x =
        let k : length ns ≡ count = many-length _ _ _ _ _ _ _ _ read_nodes in
        let l : length ss ≡ get_or w middle 0 = many-length _ _ _ _ _ _ _ _ read_servers in
        rw (← x)
        (record {
          begun = begun;
          first = first;
          newest = newest;
          scale_is = refl;
          node_count = c ∙ sym k;
          some_nodes = rw k some;
          few_nodes = rw k few;
          middle = middle;
          nodes_read = rw k read_nodes;
          there = there;
          server_count = sym l;
          few_servers = rw l few_servers;
          servers_read = rw (k, l) read_servers;
          ended = end;
        })

-- A good whole check: a good table, and no node that is overloaded.
pub checked_is : (w : List ℕ) (r : Room) (j : ℕ) → checked w 0 ≡ good r j → (table w 0 ≡ good r j) × (overloaded r ≡ 0)
unfolding checked
checked_is w r j e =
    let t = took _ _ _ _ e in
    let p = passed _ _ _ _ _ _ _ t.rest in
    let x : t.got ≡ r = cc in
    let y : t.at ≡ j = cc in
    (t.first ∙ cc, ap overloaded (sym x) ∙ eqb-true _ _ p.0)
