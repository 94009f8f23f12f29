-- `hut_in` meets its contract: the counts of a good table tell where its words stand.
use mathlib.Core.Path.{sym}
use native.Mathlib.Omega.{arith}
use Rattle.words.specs.Bytes.{words_of}
use Rattle.words.proofs.Bytes.{length-words_of}
use Rattle.rooms.proofs.Counts.{nodes-told, servers-told}
use Rattle.join.proofs.HutLaws.{counts_in, others_there, hut_read}
use Rattle.join.proofs.hut_in.Goals as goal

pub word_in-version-requires : goal.word_in-version-requires
word_in-version-requires c = record { there = omega (arith, counts_in c.args.bytes.now c.requires.good) }

pub word_in-nodes-requires : goal.word_in-nodes-requires
word_in-nodes-requires c = record { there = omega (arith, counts_in c.args.bytes.now c.requires.good) }

pub overflow_sub-result : goal.overflow_sub-result
overflow_sub-result c = omega (arith, c.middle_in-middle.ensures.is.0, length-words_of c.args.bytes.now, others_there (words_of c.args.bytes.now) c.requires.good (servers-told (words_of c.args.bytes.now) c.middle_in-middle.ensures.is.0 c.word_in-servers.ensures.is))

pub returns : goal.returns
returns c =
    record {
      hut =
          hut_read (words_of c.args.bytes.now) c.requires.good c.word_in-version.ensures.is
          (nodes-told (words_of c.args.bytes.now) c.word_in-nodes.ensures.is)
          (servers-told (words_of c.args.bytes.now) c.middle_in-middle.ensures.is.0 c.word_in-servers.ensures.is) c.middle_in-middle.ensures.is.0 (sym (length-words_of c.args.bytes.now));
    }
