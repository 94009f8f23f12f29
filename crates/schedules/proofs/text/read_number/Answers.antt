-- `read_number` meets its contract: the digits that are still to be read complete the answer at every turn (`NumberLaws`).
use Rattle.std.proofs.Common.{◌≡◌, true, false, arith, refl}
use Rattle.schedules.specs.Text.{is_digit}
use Rattle.schedules.proofs.NumberLaws.{digit_range, zero_read, no_number, begin, end, few, stop, again}
use Rattle.schedules.proofs.text.read_number.Goals as goal

pub returns-then-first-eq-LONE_DIGIT : goal.returns-then-first-eq-LONE_DIGIT
returns-then-first-eq-LONE_DIGIT c = rw (zero_read _ _ _ c.byte_at-first.ensures.result c.if-first-eq-LONE_DIGIT.true) (record { result = refl })

pub returns-then-not-is_ascii_digit : goal.returns-then-not-is_ascii_digit
returns-then-not-is_ascii_digit c =
    let no : is_digit c.byte_at-first.result ≡ false = cc in
    rw (no_number _ _ _ c.byte_at-first.ensures.result c.if-first-eq-LONE_DIGIT.false no) (record { result = refl })

pub loop-done-init : goal.loop-done-init
loop-done-init c =
    let digit : is_digit c.byte_at-first.result ≡ true = cc in
    let r = digit_range c.byte_at-first.result digit in
    begin _ _ _ c.byte_at-first.ensures.result c.if-first-eq-LONE_DIGIT.false digit (c.byte_at-first.ensures.bounded (omega arith))

pub returns-then-not-is_ascii_digit-2 : goal.returns-then-not-is_ascii_digit-2
returns-then-not-is_ascii_digit-2 c =
    let no : is_digit c.byte_at-byte.result ≡ false = cc in
    rw (stop _ _ _ _ c.loop-done.invariant (omega arith) _ c.byte_at-byte.ensures.result no) (record { result = refl })

pub overflow_mul-value : goal.overflow_mul-value
overflow_mul-value c = omega (arith, few _ _ _ _ c.loop-done.invariant (omega arith))

pub overflow_add-value : goal.overflow_add-value
overflow_add-value c = omega (arith, few _ _ _ _ c.loop-done.invariant (omega arith))

pub loop-done-preserved : goal.loop-done-preserved
loop-done-preserved c =
    let digit : is_digit c.byte_at-byte.result ≡ true = cc in
    let r = digit_range c.byte_at-byte.result digit in
    rw c.from.ensures (again _ _ _ _ c.loop-done.invariant (omega arith) _ c.byte_at-byte.ensures.result digit (c.byte_at-byte.ensures.bounded (omega arith)))

pub returns : goal.returns
returns c = rw (end _ _ _ _ c.loop-done.invariant (omega arith) (omega arith)) (record { result = refl })
