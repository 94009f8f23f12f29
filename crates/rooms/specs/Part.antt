-- Reading a table word by word: a part of a table gives a value and the index of the next word,
-- or the first refusal that is met.
use Rattle.std.specs.Prelude.{Bool, true, cond, ◌&&◌, List, [], ◌∷◌, ℕ, zero, suc, length, get_or, leb, ltb}
use Rattle.outcomes.specs.Part as outcomes
pub use Rattle.outcomes.specs.Part.{good, bad, Good, ◌>>=◌, give}
unfoldable pub use Rattle.outcomes.specs.Part.{follow}
use Rattle.rooms.specs.declared.SheetRefusal.{SheetRefusal}
use Rattle.rooms.specs.declared.SheetRefusal.TheVariants.{WordMissing, WordOutOfRange, WordsLeftOver}

-- What a part of a table comes to, and a part of a table.
abbrev pub Step : Type 0 → Type 0
Step A = outcomes.Step SheetRefusal A

abbrev pub Part : Type 0 → Type 0
Part A = outcomes.Part SheetRefusal A

-- The index of the next word.
abbrev pub here : Part ℕ
here = λ w i. good i i

-- A word from low to high.
abbrev pub within : ℕ → ℕ → ℕ → Bool
within low high v = leb low v && leb v high

-- The next word. Refused: word missing (4), at the table's length; word out of range (5), at its index.
unfoldable pub word : (ℕ → Bool) → Part ℕ
word in_range w i =
    cond (leb (length w) i) (bad (WordMissing (length w)))
    (cond (in_range (get_or w i 0)) (good (get_or w i 0) (suc i)) (bad (WordOutOfRange i)))

-- A test on what was read, with the refusal where it fails.
unfoldable pub ensure : Bool → SheetRefusal → Part Bool
ensure test refusal w i = cond test (good true i) (bad refusal)

-- The end of the table. Refused: words left over (8), at the first of them.
unfoldable pub end : Part Bool
end w i = cond (ltb i (length w)) (bad (WordsLeftOver i)) (good true i)

-- So many parts in a row. Each is given a number, which `next` changes from one to the next.
unfoldable pub many : {A : Type 0} → ℕ → (ℕ → Part A) → (ℕ → A → ℕ) → ℕ → Part (List A)
many zero part next given = give []
many (suc count) part next given = do
  first ← part given
  rest ← many count part next (next given first)
  give (first ∷ rest)
