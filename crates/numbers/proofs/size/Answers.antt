-- `size` meets its contract: seven bits more take a byte more.
use mathlib.Core.Path.{sym}
use Rattle.numbers.proofs.NumberLaws.{size_1, size_2, size_3, size_4}
use Rattle.numbers.proofs.size.Goals as goal

pub returns-then-value-lt128 : goal.returns-then-value-lt128
returns-then-value-lt128 c = record { result = sym (size_1 _ c.if-value-lt128.true) }

pub returns-then-value-lt16384 : goal.returns-then-value-lt16384
returns-then-value-lt16384 c = record { result = sym (size_2 _ c.if-value-lt128.false c.if-value-lt16384.true) }

pub returns-then-value-lt2097152 : goal.returns-then-value-lt2097152
returns-then-value-lt2097152 c = record { result = sym (size_3 _ c.if-value-lt16384.false c.if-value-lt2097152.true) }

pub returns-else-value-lt2097152 : goal.returns-else-value-lt2097152
returns-else-value-lt2097152 c = record { result = sym (size_4 _ c.if-value-lt2097152.false) }
