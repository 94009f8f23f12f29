-- `usable_of` meets its contract: before each turn each figure is the least over the server's cords passed.
use mathlib.Core.Path.{sym, ◌∙◌}
use native.Mathlib.Omega.{arith}
use Rattle.plan_reclaim.proofs.Reclaiming.{usable_none, usable_kept, usable_lowered, usable_all}
use Rattle.plan_reclaim.proofs.usable_of.Goals as goal
use Rattle.plan_reclaim.proofs.usable_of.Goals.{then-share-ne0, else-share-ne0}

pub loop-c-init : goal.loop-c-init
loop-c-init c = (omega arith, usable_none)

pub loop-c-preserved : goal.loop-c-preserved
loop-c-preserved c =
    elim c.if-share-ne0.branch [
      | then-share-ne0 w ↦ (
        omega arith,
        rw w.usable-is
            (usable_lowered c.loop-c.invariant.1 w.from-v.ensures (omega (arith, c.requires.lists.within _ c.loop-c-test.true, w.from-v.ensures)) c.from-share.ensures w.if-share-ne0.true
            w.from.ensures w.from-then-share-ne0.ensures w.from-then-share-ne0-2.ensures w.min.ensures),
      )
      | else-share-ne0 w ↦ (omega arith, rw w.usable-is (usable_kept c.loop-c.invariant.1 (sym c.from-share.ensures ∙ w.if-share-ne0.false)))
    ]

pub returns : goal.returns
returns c = record { usable = usable_all c.loop-c.invariant.1 (omega (arith, c.loop-c.invariant.0, c.loop-c-test.false)) }
