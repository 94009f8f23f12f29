-- Needs of servers, and the wants of the first deal.
use Rattle.std.specs.Prelude.{List, ℕ, min, max, length}
use Rattle.rooms.specs.Table.{Server, Room}
use Rattle.figures.specs.Figures.{figures_from, figures, at}
use Rattle.rooms.specs.Cords.{server_at}
use Rattle.rooms.specs.Lists.{carried_by}

-- The need of a server: its demand, brought into the range from least to greatest.
abbrev pub need : Server → ℕ → ℕ
need s demand = min (max demand s.least) s.greatest

-- The need of each server.
unfoldable pub needs : Room → List ℕ → List ℕ
unfolding figures_from
needs r demands = figures (length r.servers) (λ v. need (server_at r v) (at demands v))

-- The want of each cord in the first deal: what it carries of its server's need.
unfoldable pub first_wants : Room → List ℕ → List ℕ
unfolding carried_by needs
first_wants r demands = carried_by r (needs r demands)
