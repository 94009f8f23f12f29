-- `decode` meets its contract: a number of one or two bytes by `DecodePair`, any other as `decode_bytes` reads it.
use Rattle.numbers.proofs.DecodePair.{paired}
use Rattle.numbers.proofs.decode.Goals as goal

pub returns-then-second-lt128 : goal.returns-then-second-lt128
returns-then-second-lt128 c =
    record { result = paired _ _ (rw c.from-first.ensures ((c.type_inv.sheet c.args.at).fits)) _ _ c.from-first.ensures c.from.ensures c.if-at-sheet-2.true c.if-another-second.true c.if-second-lt128.true }
