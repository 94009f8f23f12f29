use mathlib.Core.Path.{◌≡◌}
use Prim.Native.Nat.{ℕ, ◌<◌}
use Rattle.figures.specs.Figures.{at}
use Rattle.rooms.specs.Rows.{cord_row_at}
use Rattle.layout.proofs.list_nodes.Given as goal

abbrev pub invariant-loop-c : goal.invariant-loop-c
invariant-loop-c l = (h : ℕ) → h < l.c → at l.nodes h ≡ (cord_row_at l.cords h).node
