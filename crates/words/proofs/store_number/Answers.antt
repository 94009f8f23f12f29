-- `words::store_number` meets its contract: the number is put where there is space for it.
use native.Mathlib.Omega.{arith}
use mathlib.Core.Path.{sym, ap, ◌∙◌}
use mathlib.Core.List.{List}
use Prim.Native.Nat.{ℕ, ◌+◌, ◌≤◌, ◌<◌}
use lib.ListN.{length}
use lib.Seq.{sets}
use Rattle.words.proofs.Bytes.{to_le_bytes_8, number_stored_short, number_stored_whole}
use Rattle.words.proofs.store_number.Goals as goal
use Rattle.words.proofs.store_number.Goals.{then-bytes-lt8-via-then-bytes-lt8, then-bytes-lt8-via-else-bytes-lt8+then-bytes-at}

pub returns-then-bytes-lt8 : goal.returns-then-bytes-lt8
returns-then-bytes-lt8 c =
    record {
      stored =
          let args = c.args in
          let short : length args.bytes.now < args.at + 8 =
          elim c.then-bytes-lt8.branch [ then-bytes-lt8-via-then-bytes-lt8 w ↦ omega arith | then-bytes-lt8-via-else-bytes-lt8+then-bytes-at w ↦ omega arith ] in
          sym (number_stored_short args.number args.bytes.now args.at short);
    }

pub returns : goal.returns
returns c =
    record {
      stored =
          let args = c.args in
          let whole : args.at + 8 ≤ length args.bytes.now = omega (arith, c) in
          c.put.ensures.stored ∙ ap (λ (l : List ℕ). sets args.bytes.now args.at l) (c.to_le_bytes.ensures ∙ to_le_bytes_8 args.number) ∙ sym (number_stored_whole args.number args.bytes.now args.at whole);
    }
