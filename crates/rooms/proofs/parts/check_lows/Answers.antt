-- `check_lows` meets its contract: a good table leaves the lows beneath each node, and a refused one's are cleared.
use mathlib.Core.Path.{refl, sym, ◌∙◌}
use Rattle.rooms.proofs.Found.{lows_cleared, lows_kept}
use Rattle.rooms.proofs.parts.check_lows.Goals as goal

pub returns-then-is_err : goal.returns-then-is_err
returns-then-is_err c =
    record {
      result = c.check_summing-checked.ensures.result;
      lows = lows_cleared _ c.check_summing-checked.ensures.result (sym c.is_err.ensures.value ∙ c.if-is_err.true) refl;
    }

pub returns-else-is_err : goal.returns-else-is_err
returns-else-is_err c =
    record {
      result = c.check_summing-checked.ensures.result;
      lows = lows_kept _ c.check_summing-checked.ensures.result (sym c.is_err.ensures.value ∙ c.if-is_err.false) c.check_summing-checked.ensures.lows;
    }
