-- What holds of Send, apart from any code: which answer comes, what a period names, and what a run of periods does.
-- proofs/Promises.antt proves each: `AnsweredExactly` as `answered_exactly`, and so on.
use Rattle.std.specs.Prelude.{◌≡◌, ◌↔◌, ℕ, zero, suc, ◌+◌, ◌-◌, ◌/◌, ◌≤◌, ◌<◌, length, get_or}
use mathlib.Core.List.{List, [], ◌∷◌, Memᴰ, flatten}
use Rattle.sender.specs.Period.{following, position_after, named_count, Period, period}
use Rattle.outcomes.specs.Outcome.{accepted}
use Rattle.sender.specs.Outcome.{most_servers, SendOutcome, sending, answer_of, sent_number, sent_figure, sent_position}

-- ---- Answers

-- The position is below the count, and the count from 1 to 512.
pub record InRange (count position : ℕ) : Type 0 where
  pub below : position < count
  pub some : 1 ≤ count
  pub most : count ≤ most_servers

-- An outcome's answer has this number and this figure.
abbrev pub Tells : SendOutcome → ℕ → ℕ → Type 0
Tells outcome number figure = (sent_number (answer_of outcome) ≡ number) × (sent_figure (answer_of outcome) ≡ figure)

-- Each answer comes exactly where it is due: 27 where m is 0; else 28 where position or count is out of range; else 12 where the list
-- is too short for the servers to be named, at their count; else acceptance, which tells their count and the position after
-- as many servers.
pub record AnsweredExactly : Type 0 where
  pub no_messages : (count position m space : ℕ) → Tells (sending count position m space) 27 0 ↔ (m ≡ 0)
  pub out_of_range : (count position m space : ℕ) → Tells (sending count position m space) 28 1 ↔ ((1 ≤ m) × (InRange count position → ⊥))
  pub list-short : (count position m space needed : ℕ) → Tells (sending count position m space) 12 needed
      ↔ ((1 ≤ m) × InRange count position × (named_count count m ≡ needed) × (space < needed))
  pub accepted : (count position m space named next : ℕ)
      → (Tells (sending count position m space) 0 named × (sent_position (answer_of (sending count position m space)) ≡ next))
      ↔ ((1 ≤ m) × InRange count position × (named_count count m ≡ named) × (named ≤ space) × (position_after count position named ≡ next))

-- ---- A period

-- What holds of an accepted period p.
pub record Kept (count position m space : ℕ) (p : Period) : Type 0 where
  -- The first one named is at the position, each further one follows the one before, and the new position follows the last.
  pub first : get_or p.named 0 0 ≡ position
  pub further : (i : ℕ) → suc i < length p.named → get_or p.named (suc i) 0 ≡ following count (get_or p.named i 0)
  pub next : p.next ≡ following count (get_or p.named (length p.named - 1) 0)
  -- Each one named is a server of the count, and none is named twice.
  pub servers : (i : ℕ) → i < length p.named → get_or p.named i 0 < count
  pub never_twice : (i j : ℕ) → i < j → j < length p.named → get_or p.named i 0 ≡ get_or p.named j 0 → ⊥
  -- Where m is the count or more, each server is named.
  pub each : count ≤ m → (server : ℕ) → server < count → Memᴰ server p.named
  -- With count, m and list unchanged, the period that begins at the new position is accepted too.
  pub goes_on : sending count p.next m space ≡ accepted (period count p.next m)

abbrev pub PeriodKept : Type 0
PeriodKept = (count position m space : ℕ) (p : Period) → sending count position m space ≡ accepted p → Kept count position m space p

-- ---- A run of periods

-- A run of so many periods, as the servers that each names: count and m are unchanged, and each period begins where the one before left
-- its position.
unfoldable pub run : (count m position periods : ℕ) → List (List ℕ)
run count m position zero = []
run count m position (suc periods) = (period count position m).named ∷ run count m (period count position m).next periods

-- ceil(count / m).
abbrev pub ceil_div : ℕ → ℕ → ℕ
ceil_div count m = (count + (m - 1)) / m

-- From every position, every server is named within ceil(count / m) periods: it is in one of the run's lists.
abbrev pub EachWithin : Type 0
EachWithin = (count m position server : ℕ) → 1 ≤ m → position < count → server < count
    → Memᴰ server (flatten (run count m position (ceil_div count m)))
