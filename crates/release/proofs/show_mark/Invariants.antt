use mathlib.Core.Path.{◌≡◌}
use lib.ListN.{take}
use lib.Seq.{sets}
use Rattle.release.specs.Release.{mark}
use Rattle.release.proofs.show_mark.Given as goal

abbrev pub invariant-loop-i : goal.invariant-loop-i
invariant-loop-i l = l.byte-items ≡ sets l.initial.byte-items 0 (take l.i mark)
