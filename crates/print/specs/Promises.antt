-- What the contract of `plan` comes to. A statement; proofs/Promises.antt proves it, as `prints_room`.
use Rattle.std.specs.Prelude.{◌≡◌, List, ℕ}
use Rattle.rooms.specs.Part.{good}
use Rattle.rooms.specs.Table.{Room}
use Rattle.rooms.specs.Limits.{checked}
use Rattle.rooms.specs.Rows.{ServerRows, CordRows}
use Rattle.rooms.specs.declared.lists.CordRow.{CordRow}
use Rattle.rooms.specs.declared.lists.ServerRow.{ServerRow}
use Rattle.print.specs.Print.{print_of}
use Rattle.print.specs.Walk.{plan_print}

-- Of a good table, the walk over the rows of its room's servers and cords prints `freed F`, and then each server and each of the
-- server's cords.
abbrev pub PrintsRoom : Type 0
PrintsRoom = (table : List ℕ) (room : Room) (end freed : ℕ) (servers : List ServerRow) (cords : List CordRow) (caps grants headroom held : List ℕ)
    → checked table 0 ≡ good room end
    → ServerRows room servers → CordRows room cords
    → plan_print freed servers cords caps grants headroom held ≡ print_of freed room.servers caps grants headroom held
