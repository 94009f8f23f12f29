use mathlib.Core.Path.{◌≡◌}
use Prim.Native.Nat.{◌<◌}
use lib.ListN.{length, take}
use lib.Seq.{sets}
use Rattle.sender.specs.Period.{servers_from, position_after}
use Rattle.sender.proofs.name_servers.Given as goal

abbrev pub invariant-loop-entry : goal.invariant-loop-entry
invariant-loop-entry l = (l.server < l.count)
    × (l.server ≡ position_after l.count l.position l.entry-index)
    × (l.list ≡ sets l.initial.list 0 (take l.entry-index (servers_from l.count l.position (length l.initial.list))))
