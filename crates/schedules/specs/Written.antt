-- The text that lines make up, told without a reader: what `Text` reads is just what is written so (`Promises`).
use Rattle.std.specs.Prelude.{◌≡◌, true, List, [], ◌∷◌, ◌++◌, ℕ, suc, ◌+◌, ◌*◌, ◌≤◌, ◌<◌, length}
use Rattle.schedules.specs.Sizes.{is_size}
use Rattle.schedules.specs.Text.{digit_zero, space, newline}
use Rattle.schedules.specs.Schedule.{in_range}
use Rattle.schedules.specs.declared.Entry.{Entry}

-- Digits are those of a number, without leading zeros: one digit is, and one more behind those of a number that is not 0.
pub data Decimal : ℕ → List ℕ → Type 0 where
  digit : (d : ℕ) → d < 10 → Decimal d ((digit_zero + d) ∷ [])
  more : (n d : ℕ) (s : List ℕ) → Decimal n s → 1 ≤ n → d < 10 → Decimal (n * 10 + d) (s ++ ((digit_zero + d) ∷ []))

-- A text is the line of an entry: its three numbers in decimal, a space behind the first and the second, a newline behind the third.
pub record LineText (e : Entry) (text : List ℕ) : Type 0 where
  pub parent : List ℕ
  pub amperes : List ℕ
  pub volts : List ℕ
  pub parent_is : Decimal e.parent parent
  pub amperes_is : Decimal e.amperes amperes
  pub volts_is : Decimal e.volts volts
  pub is : text ≡ parent ++ (space ∷ (amperes ++ (space ∷ (volts ++ (newline ∷ [])))))

-- A text is the lines of some entries, one behind the other, and nothing else.
pub data Written : List Entry → List ℕ → Type 0 where
  none : Written [] []
  line : (e : Entry) (rest : List Entry) (s t : List ℕ) → LineText e s → Written rest t → Written (e ∷ rest) (s ++ t)

-- Each entry has a size, and is in range at its place, the first being at a given one.
pub data LinesPass : ℕ → List Entry → Type 0 where
  none : {place : ℕ} → LinesPass place []
  more : {place : ℕ} {e : Entry} {rest : List Entry} → is_size e.amperes ≡ true → in_range place e ≡ true → LinesPass (suc place) rest
      → LinesPass place (e ∷ rest)

-- ---- What a text begins with

-- No number of a line is above this.
abbrev pub most_number : ℕ
most_number = 9999

-- A text begins with the line of an entry, none of whose numbers is too large.
pub record LineFirst (e : Entry) (text : List ℕ) : Type 0 where
  pub own : List ℕ
  pub behind : List ℕ
  pub is : text ≡ own ++ behind
  pub line : LineText e own
  pub parent_most : e.parent ≤ most_number
  pub amperes_most : e.amperes ≤ most_number
  pub volts_most : e.volts ≤ most_number

-- A text begins with so many lines that pass, and this is the rest of it.
pub record LinesFirst (count : ℕ) (text rest : List ℕ) : Type 0 where
  pub entries : List Entry
  pub own : List ℕ
  pub is : text ≡ own ++ rest
  pub lines : Written entries own
  pub pass : LinesPass 0 entries
  pub counted : length entries ≡ count
