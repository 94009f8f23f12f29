-- `words::load` meets its contract: a turn stores one more word of the bytes behind those that are stored.
use native.Mathlib.Omega.{arith}
use mathlib.Core.Path.{◌≡◌}
use lib.ListN.{take}
use lib.Seq.{length-take-le}
use Rattle.words.specs.Bytes.{words_of}
use Rattle.figures.proofs.Stores.{sets_turn, sets_in_front}
use Rattle.words.proofs.Bytes.{length-words_of, get_or-words_of}
use Rattle.words.proofs.load.Goals as goal

pub loop-i-preserved : goal.loop-i-preserved
loop-i-preserved c =
    let front = take c.min-count.result c.args.list.now in
    let size = length-take-le c.min-count.result c.args.list.now (omega (arith, c.min-count.ensures)) in
    let read = get_or-words_of c.args.bytes.now c.loop-i.i (omega (arith, c.min-count.ensures)) in
    let turn = sets_turn front (words_of c.args.bytes.now) c.loop-i.i 0 (omega (arith, c.min-count.ensures, length-words_of c.args.bytes.now)) in
    cc (c.word_at.ensures.result, c.loop-i.invariant)

pub returns-clause-loaded : goal.returns-clause-loaded
returns-clause-loaded c =
    let size = length-take-le c.min-count.result c.args.list.now (omega (arith, c.min-count.ensures)) in
    let all : c.loop-i.i ≡ c.min-count.result = omega (arith, c.loop-i-test.false) in
    let whole = sets_in_front c.min-count.result c.args.list.now (words_of c.args.bytes.now) (omega (arith, c.min-count.ensures, length-words_of c.args.bytes.now)) in
    cc (c.loop-i.invariant)
