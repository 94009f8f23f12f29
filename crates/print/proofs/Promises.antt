-- The print of a room's rows is the print of the room.
use mathlib.Core.Path.{◌≡◌, refl, sym, ap, ◌∙◌}
use mathlib.Core.List.{List, ◌++◌}
use Prim.Native.Nat.{ℕ, min}
use native.Mathlib.Nat.{zero-add}
use native.Mathlib.Omega.{arith}
use lib.ListN.{length, length-map}
use Rattle.figures.proofs.Lists.{figures-length}
use Rattle.rooms.specs.Table.{most_servers, room_cords}
use Rattle.rooms.specs.declared.lists.ServerRow.{ServerRow}
use Rattle.rooms.proofs.All.{all_at}
use Rattle.rooms.proofs.Accepted.{ServerAccepted, accepted}
use Rattle.print.specs.Line.{freed_line}
use Rattle.print.specs.Print.{plan_line, print_of}
use Rattle.print.specs.Walk.{plan_print}
use Rattle.print.specs.Promises.{PrintsRoom}
use Rattle.print.proofs.Room.{servers_at-servers}

pub prints_room : PrintsRoom
unfolding plan_print print_of
prints_room table room end freed servers cords caps grants headroom held e sr cr =
    let ok = accepted table room end e in
    let size : length servers ≡ length room.servers
    = sym (length-map servers (λ (row : ServerRow). row.rank)) ∙ ap length sr.ranks ∙ figures-length (length room.servers) _ in
    let all : min (length servers) most_servers ≡ length room.servers = omega (arith, ok.few_servers) in
    rw all
    (ap (λ (l : List ℕ). freed_line freed ++ l)
    (servers_at-servers room servers caps (plan_line grants headroom held) sr cr
    (λ v h. (all_at (ServerAccepted room.scale (length room.nodes)) room.servers ok.servers v _ h).few_cords)
    (length room.servers) 0 0 room.servers (zero-add (length room.servers)) refl refl refl (zero-add (room_cords room))))
