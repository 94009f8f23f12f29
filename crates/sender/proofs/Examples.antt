-- The definitions computed at small counts.
use mathlib.Core.Path.{◌≡◌, refl}
use mathlib.Core.List.{[], ◌∷◌}
use Rattle.sender.specs.Period.{servers_from, position_after, period}
use Rattle.outcomes.specs.Outcome.{refused, unless}
use Rattle.sender.specs.Outcome.{sending}
use Rattle.sender.specs.Promises.{run, ceil_div}
use Rattle.sender.specs.declared.SendRefusal.TheVariants.{NoMessages, PositionOutOfRange, ListTooShort}

-- Four of five servers from the one numbered 3 on: the first follows the last.
pub four_of_five : period 5 3 4 ≡ record { named = 3 ∷ 4 ∷ 0 ∷ 1 ∷ []; next = 2 }
unfolding servers_from position_after
four_of_five = refl

-- With more messages than servers each is named once, and the position stays.
pub more_than_five : period 5 3 9 ≡ record { named = 3 ∷ 4 ∷ 0 ∷ 1 ∷ 2 ∷ []; next = 3 }
unfolding servers_from position_after
more_than_five = refl

-- Two a period: five servers take ceil(5 / 2) = 3 periods.
pub three_periods : run 5 2 3 (ceil_div 5 2) ≡ (3 ∷ 4 ∷ []) ∷ (0 ∷ 1 ∷ []) ∷ (2 ∷ 3 ∷ []) ∷ []
unfolding run servers_from position_after
three_periods = refl

-- 27 comes before 28, and 28 before 12.
pub no_messages_first : sending 0 0 0 0 ≡ refused NoMessages
unfolding sending unless
no_messages_first = refl

pub out_of_range_second : sending 513 0 1 0 ≡ refused PositionOutOfRange
unfolding sending unless
out_of_range_second = refl

pub short_last : sending 5 3 4 3 ≡ refused (ListTooShort 4)
unfolding sending unless
short_last = refl
