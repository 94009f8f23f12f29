-- Document 01's own numbers and sheets, computed from the definitions.
use mathlib.Core.Path.{◌≡◌, refl}
use mathlib.Core.List.{[], ◌∷◌, map}
use Rattle.numbers.specs.Number.{bad, later, number, groups, form}
use Rattle.numbers.specs.Sheet.{whole, refused, sheet_from, sheet_of}
use Rattle.numbers.specs.declared.Fault.TheVariants.{TooLong, NotShortest, CutShort}

-- Zero, 127, 128 and 16,777,215.
pub forms : map form (0 ∷ 127 ∷ 128 ∷ 16777215 ∷ []) ≡ (0x00 ∷ []) ∷ (0x7F ∷ []) ∷ (0x80 ∷ 0x01 ∷ []) ∷ (0xFF ∷ 0xFF ∷ 0xFF ∷ 0x07 ∷ []) ∷ []
unfolding groups
forms = refl

-- `80 00` is no number.
pub not_shortest : number (0x80 ∷ 0x00 ∷ []) ≡ bad NotShortest
unfolding number later
not_shortest = refl

-- The sheets `80`, `01 80 00`, `80 80 80 80` and the empty one.
pub sheets : map sheet_of ((0x80 ∷ []) ∷ (0x01 ∷ 0x80 ∷ 0x00 ∷ []) ∷ (0x80 ∷ 0x80 ∷ 0x80 ∷ 0x80 ∷ []) ∷ [] ∷ [])
    ≡ record { words = []; ending = refused CutShort 0 }
    ∷ record { words = 1 ∷ []; ending = refused NotShortest 1 }
    ∷ record { words = []; ending = refused TooLong 0 }
    ∷ record { words = []; ending = whole }
    ∷ []
unfolding number later sheet_from
sheets = refl
