-- `side_before` meets its contract: what it makes is the side that is defined.
use native.Mathlib.Omega.{arith}
use Rattle.join.proofs.HutLaws.{hut_below}
use Rattle.part.proofs.SidesMade.{starts_within, nodes_small, before_made}
use Rattle.part.proofs.sides.side_before.Goals as goal

pub overflow_mul-result : goal.overflow_mul-result
overflow_mul-result c = omega (arith, nodes_small c.requires.hut c.requires.nodes c.node_width.ensures.is.0)

pub overflow_add-result : goal.overflow_add-result
overflow_add-result c = omega (arith, nodes_small c.requires.hut c.requires.nodes c.node_width.ensures.is.0)

pub servers_end-requires : goal.servers_end-requires
servers_end-requires c =
    record {
      there = (starts_within c.requires.hut).0;
      below = hut_below c.requires.hut;
    }

pub returns : goal.returns
returns c = record { is = before_made c.requires.hut c.requires.nodes c.node_width.ensures.is.0 c.servers_end.ensures.is }
