-- `mark_byte` meets its contract: each byte as it stands in the mark, and none past its end.
use mathlib.Core.Path.{sym}
use Prim.Native.Nat.{◌≤◌}
use native.Mathlib.Omega.{arith}
use lib.ListN.{get_or-eq_default}
use Rattle.release.specs.Release.{mark}
use Rattle.release.proofs.mark_byte.Goals as goal

pub returns-in_default : goal.returns-in_default
returns-in_default c =
    let past : 32 ≤ c.args.place = omega arith in
    record { result = sym (get_or-eq_default mark 0 past) }
