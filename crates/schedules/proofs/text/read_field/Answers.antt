-- `read_field` meets its contract: the number, and then the byte.
use Rattle.std.proofs.Common.{refl, sym, ◌∙◌}
use Rattle.schedules.proofs.LineLaws.{told_good, told_bad, field_none, field_other, field_found}
use Rattle.schedules.proofs.text.read_field.Goals as goal

pub returns-in_err-value : goal.returns-in_err-value
returns-in_err-value c = rw (c.from_residual.ensures, field_none _ _ _ (told_bad _ c.in_err-value.ensures.result)) (record { result = refl })

pub returns-then-byte_at-end : goal.returns-then-byte_at-end
returns-then-byte_at-end c =
    rw (field_other _ _ _ (told_good _ c.in_ok-value.ensures.result) (λ e. c.if-byte_at-end.true (c.byte_at.ensures.result ∙ e)))
    (record { result = refl })

pub returns : goal.returns
returns c =
    rw (field_found _ _ _ (told_good _ c.in_ok-value.ensures.result) (sym c.byte_at.ensures.result ∙ c.if-byte_at-end.false))
    (record { result = refl })
