-- `copy` meets its contract: a turn takes the stores of i words to those of i + 1, and the count leaves out only what does not fit.
use native.Mathlib.Omega.{arith}
use lib.Seq.{length-take-le, get_or-take}
use Rattle.figures.proofs.Stores.{sets_turn, sets-take}
use Rattle.figures.proofs.copy.Goals as goal

pub loop-i-preserved : goal.loop-i-preserved
loop-i-preserved c =
    let few = length-take-le c.min-count.result c.args.from.now (omega (arith, c.min-count.ensures)) in
    let word = get_or-take c.min-count.result c.args.from.now c.loop-i.i 0 (omega (arith, c.loop-i-test.true)) in
    let turn = sets_turn c.args.to.now c.args.from.now c.loop-i.i 0 (omega (arith, c.loop-i-test.true, c.min-count.ensures)) in
    cc (c.loop-i.invariant)

pub returns : goal.returns
returns c =
    record {
      copied =
          let args = c.args in
          let few = length-take-le c.min-count.result args.from.now (omega (arith, c.min-count.ensures)) in
          cc (sets-take c.loop-i.i args.to.now args.from.now (omega (arith, c.loop-i-test.false, c.min-count.ensures)), c.loop-i.invariant);
    }
