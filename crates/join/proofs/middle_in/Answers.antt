-- `middle_in` meets its contract: the count of servers stands behind the nodes.
use Prim.Native.Nat.{◌<◌, ◌^◌}
use native.Mathlib.Omega.{arith}
use Rattle.words.specs.Bytes.{words_of}
use Rattle.words.proofs.Bytes.{length-words_of}
use Rattle.rooms.proofs.Counts.{index_told}
use Rattle.join.proofs.HutLaws.{counts_in, middle_there}
use Rattle.join.proofs.middle_in.Goals as goal

pub word_in-requires : goal.word_in-requires
word_in-requires c = record { there = omega (arith, counts_in c.args.bytes.now c.requires.good) }

pub word_in-requires-2 : goal.word_in-requires-2
word_in-requires-2 c = record { there = omega (arith, counts_in c.args.bytes.now c.requires.good) }

pub returns : goal.returns
returns c =
    let small : c.word_in-2.result < 2 ^ 32 = omega arith in
    let is = index_told (words_of c.args.bytes.now) c.word_in.ensures.is c.has_percents-percents.ensures.result c.word_in-2.ensures.is small c.node_index.ensures.result in
    record { is = (is.0, omega (arith, is.0, length-words_of c.args.bytes.now, middle_there (words_of c.args.bytes.now) c.requires.good)) }
