-- `release_number` meets its contract: the four places of the digits are within what is shown of the mark.
use mathlib.Core.Path.{◌≡◌, refl, ◌∙◌}
use Prim.Native.Nat.{ℕ, ◌<◌}
use native.Mathlib.Omega.{arith}
use lib.ListN.{get_or, replicate}
use Rattle.release.specs.Release.{mark}
use Rattle.release.proofs.Marks.{shown_at}
use Rattle.release.proofs.release_number.Goals as goal

pub decimal_of-requires : goal.decimal_of-requires
decimal_of-requires c =
    let digit : (i : ℕ) → i < 20 → get_or c.show_mark.new.text i 0 ≡ get_or mark i 0 = λ i h. shown_at (replicate 32 0) mark c.args.seen i (omega arith) (omega arith) (omega arith) c.show_mark.ensures.shown in
    record { digits = (rw (digit 16 (omega arith)) (omega arith), rw (digit 17 (omega arith)) (omega arith), rw (digit 18 (omega arith)) (omega arith), rw (digit 19 (omega arith)) (omega arith)) }

pub returns : goal.returns
returns c =
    let digit : (i : ℕ) → i < 20 → get_or c.show_mark.new.text i 0 ≡ get_or mark i 0 = λ i h. shown_at (replicate 32 0) mark c.args.seen i (omega arith) (omega arith) (omega arith) c.show_mark.ensures.shown in
    record { result = c.decimal_of.ensures.result ∙ rw (digit 16 (omega arith), digit 17 (omega arith), digit 18 (omega arith), digit 19 (omega arith)) refl }
