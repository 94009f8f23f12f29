-- `read_line` meets its contract: its three fields in order.
use Rattle.std.proofs.Common.{refl}
use Rattle.schedules.proofs.LineLaws.{told_good, told_bad, line_first, line_second, line_third, line_whole}
use Rattle.schedules.proofs.text.read_line.Goals as goal

pub returns-in_err-parent : goal.returns-in_err-parent
returns-in_err-parent c = rw (c.from_residual.ensures, line_first _ _ (told_bad _ c.in_err-parent.ensures.result)) (record { result = refl })

pub returns-in_err-amperes : goal.returns-in_err-amperes
returns-in_err-amperes c =
    rw (
      c.from_residual-in_err-amperes.ensures,
      line_second _ _ (told_good _ c.in_ok-parent.ensures.result) (told_bad _ c.in_err-amperes.ensures.result),
    ) (record { result = refl })

pub returns-in_err-volts : goal.returns-in_err-volts
returns-in_err-volts c =
    rw (
      c.from_residual-in_err-volts.ensures,
      line_third _ _ (told_good _ c.in_ok-parent.ensures.result) (told_good _ c.in_ok-amperes.ensures.result)
          (told_bad _ c.in_err-volts.ensures.result),
    ) (record { result = refl })

pub returns : goal.returns
returns c =
    rw (line_whole _ _ (told_good _ c.in_ok-parent.ensures.result) (told_good _ c.in_ok-amperes.ensures.result) (told_good _ c.in_ok-volts.ensures.result))
    (record { result = refl })
