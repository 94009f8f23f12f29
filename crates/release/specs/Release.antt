-- Which release the code is of, and the C call that tells it.
use Rattle.std.specs.Prelude.{List, [], ◌∷◌, ℕ, ◌+◌, ◌-◌, ◌*◌, get_or}
use Rattle.calls.specs.Call.{Call}
use Rattle.rooms.specs.Table.{newest_version}

-- The number that four digits are in decimal, each a byte of text ("0" is 48).
abbrev pub decimal : (a b c d : ℕ) → ℕ
decimal a b c d = 1000 * (a - 48) + 100 * (b - 48) + 10 * (c - 48) + (d - 48)

-- The mark: "hutplan release 0002 by Yerkozan".
abbrev pub mark : List ℕ
mark =
    104 ∷ 117 ∷ 116 ∷ 112 ∷ 108 ∷ 97 ∷ 110 ∷ 32
    ∷ 114 ∷ 101 ∷ 108 ∷ 101 ∷ 97 ∷ 115 ∷ 101 ∷ 32
    ∷ 48 ∷ 48 ∷ 48 ∷ 50
    ∷ 32 ∷ 98 ∷ 121 ∷ 32 ∷ 89 ∷ 101 ∷ 114 ∷ 107 ∷ 111 ∷ 122 ∷ 97 ∷ 110 ∷ []

-- The number of the release: the four digits of the mark.
abbrev pub release_number : ℕ
release_number = decimal (get_or mark 16 0) (get_or mark 17 0) (get_or mark 18 0) (get_or mark 19 0)

-- Release, called from C: 0, the number of the release, and the newest version of the sheet that is read. No other buffer is lent.
abbrev pub ReleaseCall : (answer : List ℕ) (r : ℕ) (answer' : List ℕ) → Type 0
ReleaseCall answer r answer' = Call 3 (0 ∷ release_number ∷ newest_version ∷ []) answer (λ _. Unit {0}) r answer'
