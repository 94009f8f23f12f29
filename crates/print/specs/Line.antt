-- The lines of the print, in bytes.
use Rattle.std.specs.Prelude.{◌≡◌, cond, List, [], ◌∷◌, ◌++◌, ℕ, zero, suc, ◌+◌, ◌/◌, ◌%◌, min, ltb, length}
use Rattle.std.proofs.lemmas.List.Edits.{sets}

-- A number in decimal, with no zero in front; it has no more digits than the first argument says.
unfoldable pub numeral : ℕ → ℕ → List ℕ
numeral zero n = []
numeral (suc most) n = cond (ltb n 10) ((48 + n) ∷ []) (numeral most (n / 10) ++ ((48 + n % 10) ∷ []))

-- A number of 64 bits in decimal: it has at most 20 digits.
abbrev pub decimal : ℕ → List ℕ
decimal n = numeral 20 n

-- The words of the lines, with their spaces: `freed `, `server `, ` cap `, `cord `, ` node `, ` grant `, ` headroom `, ` held `,
-- `refused `, ` at `.
abbrev pub freed_word : List ℕ
freed_word = 102 ∷ 114 ∷ 101 ∷ 101 ∷ 100 ∷ 32 ∷ []

abbrev pub server_word : List ℕ
server_word = 115 ∷ 101 ∷ 114 ∷ 118 ∷ 101 ∷ 114 ∷ 32 ∷ []

abbrev pub cap_word : List ℕ
cap_word = 32 ∷ 99 ∷ 97 ∷ 112 ∷ 32 ∷ []

abbrev pub cord_word : List ℕ
cord_word = 99 ∷ 111 ∷ 114 ∷ 100 ∷ 32 ∷ []

abbrev pub node_word : List ℕ
node_word = 32 ∷ 110 ∷ 111 ∷ 100 ∷ 101 ∷ 32 ∷ []

abbrev pub grant_word : List ℕ
grant_word = 32 ∷ 103 ∷ 114 ∷ 97 ∷ 110 ∷ 116 ∷ 32 ∷ []

abbrev pub headroom_word : List ℕ
headroom_word = 32 ∷ 104 ∷ 101 ∷ 97 ∷ 100 ∷ 114 ∷ 111 ∷ 111 ∷ 109 ∷ 32 ∷ []

abbrev pub held_word : List ℕ
held_word = 32 ∷ 104 ∷ 101 ∷ 108 ∷ 100 ∷ 32 ∷ []

abbrev pub refused_word : List ℕ
refused_word = 114 ∷ 101 ∷ 102 ∷ 117 ∷ 115 ∷ 101 ∷ 100 ∷ 32 ∷ []

abbrev pub at_word : List ℕ
at_word = 32 ∷ 97 ∷ 116 ∷ 32 ∷ []

abbrev pub newline : List ℕ
newline = 10 ∷ []

-- A word of a line and the figure after it.
unfoldable pub labelled : List ℕ → ℕ → List ℕ
labelled word figure = word ++ decimal figure

-- `freed F`.
unfoldable pub freed_line : ℕ → List ℕ
unfolding labelled
freed_line watts = labelled freed_word watts ++ newline

-- `server N cap W`.
unfoldable pub server_line : ℕ → ℕ → List ℕ
unfolding labelled
server_line number cap = labelled server_word number ++ (labelled cap_word cap ++ newline)

-- `cord K node M grant G headroom W held B`.
unfoldable pub cord_line : ℕ → ℕ → ℕ → ℕ → ℕ → List ℕ
unfolding labelled
cord_line number node grant headroom held =
    labelled cord_word number
    ++ (labelled node_word node ++ (labelled grant_word grant ++ (labelled headroom_word headroom ++ (labelled held_word held ++ newline))))

-- `refused R at P`.
unfoldable pub refused_line : ℕ → ℕ → List ℕ
unfolding labelled
refused_line number place = labelled refused_word number ++ (labelled at_word place ++ newline)

-- A text is put into a buffer from a place on: as much of it as fits stands there, the rest of the buffer is as it was,
-- and the next place is past what stands there.
pub record Put (buffer : List ℕ) (at : ℕ) (after : List ℕ) (next : ℕ) (text : List ℕ) : Type 0 where
  pub bytes : after ≡ sets buffer at text
  pub past : next ≡ min (at + length text) (length buffer)
