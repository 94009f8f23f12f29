-- `answer_for` meets its contract: its tests are those of the definition, in their order.
use mathlib.Core.Path.{◌≡◌, sym, ap, ◌∙◌}
use native.Mathlib.Omega.{arith}
use mathlib.Core.Bool.{false, not}
use Rattle.sender.specs.Outcome.{in_range, answer_of}
use Rattle.sender.proofs.Outcomes.{sending_no_messages, sending_out_of_range, answer_short, answer_whole, inside_is}
use Rattle.sender.proofs.answer_for.Goals as goal

pub returns-then-m-eq0 : goal.returns-then-m-eq0
returns-then-m-eq0 c =
    record {
      answer =
          let args = c.args in
          sym (ap answer_of (sending_no_messages args.count args.position args.m args.space (omega arith)));
    }

pub returns-then-outside : goal.returns-then-outside
returns-then-outside c =
    record {
      answer =
          let args = c.args in
          sym (ap answer_of (sending_out_of_range args.count args.position args.m args.space (omega arith) (sym c.out_of_range-outside.ensures.result ∙ c.if-outside.true)));
    }

pub returns-then-space-named : goal.returns-then-space-named
returns-then-space-named c =
    let inside : not (in_range c.args.count c.args.position) ≡ false = sym c.out_of_range-outside.ensures.result ∙ c.if-outside.false in
    record {
      answer =
          let args = c.args in
          answer_short args.count args.position args.m args.space (omega arith) inside c.min-named.ensures (omega arith);
    }

pub position_after-requires : goal.position_after-requires
position_after-requires c =
    let inside : not (in_range c.args.count c.args.position) ≡ false = sym c.out_of_range-outside.ensures.result ∙ c.if-outside.false in
    let range = inside_is c.args.count c.args.position inside in
    record {
      position_bounded = range.below;
      named_bounded = omega arith;
    }

pub returns : goal.returns
returns c =
    let inside : not (in_range c.args.count c.args.position) ≡ false = sym c.out_of_range-outside.ensures.result ∙ c.if-outside.false in
    record {
      answer =
          let args = c.args in
          answer_whole args.count args.position args.m args.space (omega arith) inside c.min-named.ensures (omega arith) c.position_after.ensures.result;
    }
