-- Numbers on the sheet: one to four bytes, of which each but the last is 128 or more. The low seven bits of the bytes make the
-- value, those of the first byte being the lowest. A number that a shorter form would carry is not good.
use Rattle.std.specs.Prelude.{Result, Ok, Err, cond, List, [], ◌∷◌, ℕ, zero, suc, ◌+◌, ◌-◌, ◌*◌, ◌/◌, ◌%◌, ◌^◌, ltb, eqb}
use Rattle.numbers.specs.declared.Fault.{Fault}
use Rattle.numbers.specs.declared.Fault.TheVariants.{TooLong, NotShortest, CutShort}
use Rattle.numbers.specs.declared.BadNumber.{BadNumber}

-- The refusal's number.
abbrev pub fault_number : Fault → ℕ
fault_number TooLong = 1
fault_number NotShortest = 2
fault_number CutShort = 3

-- ---- reading

-- What stands at the front of some bytes: a number, with the count of its bytes, or why there is none.
pub data Front : Type 0 where
  good : ℕ → ℕ → Front
  bad : Fault → Front

-- A byte that carries `low` and has its top bit set, in front of the rest of its number.
abbrev pub above : ℕ → Front → Front
above low (good value size) = good (low + 128 * value) (suc size)
above low (bad fault) = bad fault

-- The rest of a number, after its first byte: at most `left` bytes.
unfoldable pub later : ℕ → List ℕ → Front
later zero bytes = bad TooLong
later (suc left) [] = bad CutShort
later (suc left) (b ∷ bytes) =
    cond (eqb b 0) (bad NotShortest)
    (cond (ltb b 128) (good b 1)
    (above (b - 128) (later left bytes)))

-- The number at the front of some bytes.
unfoldable pub number : List ℕ → Front
number [] = bad CutShort
number (b ∷ bytes) =
    cond (ltb b 128) (good b 1)
    (above (b - 128) (later 3 bytes))

-- A number that starts at a place, with the place after it, or its refusal, whose place is where the number starts.
abbrev pub decoded : ℕ → Front → Result (ℕ × ℕ) BadNumber
decoded at (good value size) = Ok (value, at + size)
decoded at (bad fault) = Err (record { fault = fault; place = at })

-- ---- writing

-- A value's groups of seven bits as bytes, in at most `left` of them.
unfoldable pub groups : ℕ → ℕ → List ℕ
groups zero value = []
groups (suc left) value = cond (ltb value 128) (value ∷ []) ((128 + value % 128) ∷ groups left (value / 128))

-- The shortest form of a number, the only good one.
abbrev pub form : ℕ → List ℕ
form value = groups 4 value

-- A value has a form if four groups of seven bits carry it: if it is below this.
abbrev pub form_limit : ℕ
form_limit = 2 ^ 28
