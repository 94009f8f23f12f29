-- `check_cords` tells a row of cords and the sum of their shares, and credits their lows.
use Rattle.std.proofs.Common.{◌≡◌, ◌+◌, ◌-◌, refl, ◌∙◌, arith}
use Rattle.rooms.proofs.Steps.{passed_on, row_end, row_stop, row_turn, cord_most}
use Rattle.rooms.proofs.CreditTurns.{stopped, cords-end, next_cord}
use Rattle.rooms.proofs.table.Bounds.check_cords.Goals as goal

pub returns-in_err-share : goal.returns-in_err-share
returns-in_err-share c =
    let both = stopped _ _ (row_stop _ _ _ _ _ _ _ (omega arith) c.loop.invariant.row c.in_err-share.ensures.result) in
    record { result = passed_on c.from_residual.ensures.1 both.0; credited = both.1 }

pub carried_by-low-requires : goal.carried_by-low-requires
carried_by-low-requires c =
    let n = next_cord _ _ c.loop.invariant.credits (omega arith) c.in_ok-share.ensures.result in
    record { in_range = (c.args.self.scaled, n.share_most, c.requires.in_range.1) }

pub offset_bounds-w-j : goal.offset_bounds-w-j
offset_bounds-w-j c = omega (arith, (next_cord _ _ c.loop.invariant.credits (omega arith) c.in_ok-share.ensures.result).there)

pub bounds-w-j : goal.bounds-w-j
bounds-w-j c = omega (arith, (next_cord _ _ c.loop.invariant.credits (omega arith) c.in_ok-share.ensures.result).there)

pub credit-requires : goal.credit-requires
credit-requires c =
    let n = next_cord _ _ c.loop.invariant.credits (omega arith) c.in_ok-share.ensures.result in
    record {
      node = omega (arith, n.node_most, c.loop.invariant.credits.length_is, c.requires.sums_fit.0);
      no_overflow = n.fits c.args.self.scaled c.requires.in_range.1 c.requires.sums_fit.1 _ _ refl (c.from.ensures ∙ c.carried_by-low.ensures.result);
    }

pub overflow_add-sum : goal.overflow_add-sum
overflow_add-sum c = omega (arith, cord_most _ _ _ _ c.in_ok-share.ensures.result, c.loop.invariant.few, c.args.self.scaled.1, c.requires.in_range.0)

pub loop-preserved : goal.loop-preserved
loop-preserved c =
    let less : c.args.count - (c.loop.counter + 1) ≡ c.args.count - c.loop.counter - 1 = omega arith in
    let n = next_cord _ _ c.loop.invariant.credits (omega arith) c.in_ok-share.ensures.result in
    record {
      few = omega (arith, cord_most _ _ _ _ c.in_ok-share.ensures.result, c.loop.invariant.few, c.args.self.scaled.1);
      row = rw less (row_turn _ _ _ _ _ _ _ (omega arith) c.loop.invariant.row c.in_ok-share.ensures.result (λ _ _. refl));
      credits = rw less (n.turn c.args.self.scaled c.requires.in_range.1 c.requires.sums_fit.0 _ _ _ refl (c.from.ensures ∙ c.carried_by-low.ensures.result) c.credit.ensures.credited);
    }

pub returns : goal.returns
returns c =
    record {
      result = row_end _ _ _ _ _ _ _ (omega arith) c.loop.invariant.row;
      credited = cords-end _ _ _ _ _ c.loop.invariant.credits (omega arith);
    }
