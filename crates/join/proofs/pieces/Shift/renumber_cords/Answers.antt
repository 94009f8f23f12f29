-- `renumber_cords` meets its contract: what stands behind i is as it was, and starts with the cords that are left.
use mathlib.Core.Path.{sym, subst}
use Prim.Native.Nat.{ℕ, ◌<◌}
use native.Mathlib.Omega.{arith}
use borrow.Author.Rules.{rules}
use Rattle.join.proofs.PieceLaws.{turning_end, turning_at, cords_none, server_again, cord_again}
use Rattle.join.proofs.pieces.Shift.renumber_cords.Goals as goal

pub loop-i-preserved-then-left-eq0 : goal.loop-i-preserved-then-left-eq0
loop-i-preserved-then-left-eq0 c = server_again _ _ c.if-left-eq0.true c.count_at-left.ensures.is c.loop-i.invariant

pub renumbered-requires : goal.renumbered-requires
renumbered-requires c = record { fits = subst (λ (v : ℕ). v < 2147483648) (sym (turning_at c.loop-i.invariant)) (c.requires.fits _) }

pub loop-i-preserved : goal.loop-i-preserved
loop-i-preserved c = cord_again _ _ (search rules) (search rules) c.renumbered.ensures.is c.loop-i.invariant

pub returns : goal.returns
returns c = record { is = turning_end (cords_none _ _ _) (omega (arith, c.loop-i-test.false)) c.loop-i.invariant }
