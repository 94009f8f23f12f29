-- `store` meets its contract: each turn stores one number behind those that are stored.
use mathlib.Core.Path.{◌≡◌, refl, ap, ◌∙◌}
use native.Mathlib.Omega.{arith}
use lib.ListN.{take}
use lib.Seq.{sets, take_all}
use Rattle.calls.specs.Call.{answer_bytes}
use Rattle.calls.proofs.Calls.{store_turn}
use Rattle.calls.proofs.store.Goals as goal

pub loop-i-init : goal.loop-i-init
unfolding answer_bytes
loop-i-init c = refl

pub loop-i-preserved : goal.loop-i-preserved
loop-i-preserved c =
    store_turn c.args.buffer.now c.args.numbers.now c.args.at c.loop-i.i (omega arith) (omega arith) c.loop-i.invariant c.store_number.ensures.stored

pub returns : goal.returns
returns c =
    record {
      stored =
          let args = c.args in
          let all : take c.loop-i.i args.numbers.now ≡ args.numbers.now = take_all c.loop-i.i args.numbers.now (omega arith) in
          c.loop-i.invariant ∙ ap (λ l. sets args.buffer.now args.at (answer_bytes l)) all;
    }
