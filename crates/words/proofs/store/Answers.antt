-- `words::store` meets its contract: a turn puts the four bytes of one more word behind those of the words before it.
use native.Mathlib.Omega.{arith}
use mathlib.Core.Path.{refl, ◌∙◌}
use lib.ListN.{get_or, take}
use lib.Seq.{length-take-le, get_or-take}
use Rattle.words.specs.Bytes.{bytes_of}
use Rattle.words.proofs.Bytes.{sets-bytes_of_turn, to_le_bytes_4}
use Rattle.words.proofs.store.Goals as goal

pub loop-i-init : goal.loop-i-init
unfolding bytes_of
loop-i-init c = refl

pub loop-i-preserved : goal.loop-i-preserved
loop-i-preserved c =
    let list = c.args.list.now in
    let few = length-take-le c.min-count.result list (omega (arith, c.min-count.ensures)) in
    let word = get_or-take c.min-count.result list c.loop-i.i 0 (omega (arith, c.loop-i-test.true)) in
    let bytes = c.to_le_bytes.ensures ∙ to_le_bytes_4 (get_or (take c.min-count.result list) c.loop-i.i 0) in
    let turn = sets-bytes_of_turn c.args.bytes.now list c.loop-i.i (omega (arith, c.loop-i-test.true, c.min-count.ensures)) in
    cc (c.put.ensures.stored, c.loop-i.invariant)
