-- The pieces read so far always make up one text.
use Rattle.std.proofs.Common.{◌≡◌, length}
use Rattle.demands.specs.Reading.{held_reading, with, empty_line}
use Rattle.hutplan.specs.Input.{FedPiece}
use Rattle.hutplan.proofs.read_demands.Given as goal

abbrev pub invariant-loop : goal.invariant-loop
invariant-loop g l =
    FedPiece (held_reading (with 0 empty_line) l.initial.list) (held_reading l.reading l.list) × (length l.list ≡ length l.initial.list)
