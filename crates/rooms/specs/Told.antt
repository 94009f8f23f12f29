-- What the code's answers say of the parts of a table.
use Rattle.std.specs.Prelude.{Result, Ok, Err, ℕ}
use Rattle.rooms.specs.Part.{Step, good, bad}
use Rattle.rooms.specs.declared.SheetRefusal.{SheetRefusal}

-- A step as an answer: a figure of its value and the index of the next word, or its refusal.
unfoldable pub told : {A : Type 0} → (A → ℕ) → Step A → Result (ℕ × ℕ) SheetRefusal
told figure (good a j) = Ok (figure a, j)
told figure (bad refusal) = Err refusal

-- The word itself.
abbrev pub itself : ℕ → ℕ
itself v = v

-- No figure: 0 stands in its place.
abbrev pub nothing : {A : Type 0} → A → ℕ
nothing a = 0
