-- `renumber_every` meets its contract: what stands behind i is as it was.
use mathlib.Core.Path.{sym, subst}
use Prim.Native.Nat.{ℕ, ◌<◌}
use native.Mathlib.Omega.{arith}
use lib.ListN.{length-set}
use Rattle.join.proofs.PieceLaws.{turning_end, turning_at, every_none, every_again}
use Rattle.join.proofs.pieces.Shift.renumber_every.Goals as goal

pub renumbered-requires : goal.renumbered-requires
renumbered-requires c = record { fits = subst (λ (v : ℕ). v < 2147483648) (sym (turning_at c.loop-i.invariant)) (c.requires.fits.1 _) }

pub loop-i-preserved : goal.loop-i-preserved
loop-i-preserved c = every_again _ _ _ c.requires.fits.0 (omega arith) c.renumbered.ensures.is c.loop-i.invariant

pub returns : goal.returns
returns c = record { is = turning_end (every_none _ _ _) (omega arith) c.loop-i.invariant }

-- No index is left behind the last one.
pub returns-2 : goal.returns-2
returns-2 c =
    record { is = turning_end (every_none _ _ _) (simp length-set (omega arith)) (every_again _ _ _ c.requires.fits.0 (omega arith) c.renumbered.ensures.is c.loop-i.invariant) }
