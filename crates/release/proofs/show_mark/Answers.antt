-- `show_mark` meets its contract: at every turn the bytes so far stand at the front of what is shown.
use mathlib.Core.Path.{◌≡◌}
use native.Mathlib.Omega.{arith}
use lib.ListN.{take}
use lib.Seq.{length-take-le, take_all}
use Rattle.figures.proofs.Stores.{sets_turn, sets_in_front}
use Rattle.release.specs.Release.{mark}
use Rattle.release.proofs.show_mark.Goals as goal

pub loop-i-preserved : goal.loop-i-preserved
loop-i-preserved c =
    let size = length-take-le c.args.seen c.args.text.now (omega arith) in
    let turn = sets_turn (take c.args.seen c.args.text.now) mark c.loop-i.i 0 (omega arith) in
    cc (c.mark_byte.ensures.result, c.loop-i.invariant)

pub returns : goal.returns
returns c =
    record {
      shown =
          let seen = c.args.seen in
          let shown = length-take-le seen mark (omega arith) in
          let size = length-take-le seen c.args.text.now (omega arith) in
          let all : c.loop-i.i ≡ seen = omega (arith, c.loop-i-test.false) in
          let whole = take_all seen (take seen mark) (omega arith) in
          let front = sets_in_front seen c.args.text.now (take seen mark) (omega arith) in
          cc (c.loop-i.invariant);
    }
