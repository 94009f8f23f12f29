-- `put_side` meets its contract: piece by piece behind the others.
use mathlib.Core.Path.{◌≡◌, refl, ◌∙◌}
use Prim.Native.Nat.{◌+◌, ◌-◌, ◌<◌}
use native.Mathlib.Omega.{arith}
use lib.ListN.{length, length-set}
use Rattle.join.proofs.Together.{head_length}
use Rattle.part.proofs.SidesMade.{may_nodes, middle_ends, may_servers, side_put}
use Rattle.part.proofs.sides.put_side.Goals as goal
use Rattle.part.proofs.sides.put_side.Goals.{After-put_nodes-middle}

-- Where the nodes end, and the list as long as it was.
middle_at : (c : After-put_nodes-middle)
    → (c.put_nodes-middle.result ≡ 2 + (c.args.side.bottom - c.args.side.top)) × (length c.put_nodes-middle.new.words ≡ length c.args.words.now)
middle_at c = (
  middle_ends c.args.table.now c.args.side c.requires.fits c.args.words.now c.requires.space _ _ c.put_nodes-middle.ensures.put,
  c.put_nodes-middle.ensures.put.size ∙ head_length c.args.words.now c.args.side.version c.args.side.nodes,
)

room_left : (c : After-put_nodes-middle) → c.put_nodes-middle.result < length c.put_nodes-middle.new.words
room_left c =
    let middle = middle_at c in
    omega (arith, middle.0, middle.1, c.requires.space)

pub put_nodes-middle-requires-clause-may_put : goal.put_nodes-middle-requires-clause-may_put
put_nodes-middle-requires-clause-may_put c =
    may_nodes c.args.table.now c.args.side c.requires.fits c.args.words.now c.requires.space (head_length c.args.words.now c.args.side.version c.args.side.nodes)

pub bounds-words-middle : goal.bounds-words-middle
bounds-words-middle c = room_left (goal.at.bounds-words-middle c).After-put_nodes-middle

pub put_servers-requires-clause-may_put : goal.put_servers-requires-clause-may_put
put_servers-requires-clause-may_put c =
    let middle = middle_at (goal.at.put_servers-requires-clause-may_put c).After-put_nodes-middle in
    may_servers c.args.table.now c.args.side c.requires.fits c.args.words.now c.requires.space
    (length-set c.put_nodes-middle.new.words c.put_nodes-middle.result c.args.side.servers ∙ middle.1) (omega (arith, middle.0))

pub returns : goal.returns
returns c =
    record {
      put =
          side_put c.args.table.now c.args.side c.requires.fits c.args.words.now c.requires.space c.put_nodes-middle.new.words
          c.node_width-width.ensures.is.0 refl refl (room_left (goal.at.returns c).After-put_nodes-middle) c.put_nodes-middle.ensures.put c.put_servers.ensures.put;
    }
