-- Near document 01's rooms: Read of room H into a list of one word less than it has, and of no bytes; and of small sheets of all
-- versions and of a fourth.
-- (The starred rooms are proved as a group in hutplan/proofs/WorkedRooms.antt.)
use mathlib.Core.Path.{◌≡◌, refl}
use mathlib.Core.List.{List, [], ◌∷◌}
use Prim.Native.Nat.{ℕ}
use Rattle.numbers.specs.Number.{number, later}
use Rattle.numbers.specs.Sheet.{sheet_from}
use Rattle.outcomes.specs.Outcome.{unless}
use Rattle.rooms.specs.Part.{follow, word, ensure, end, many}
use Rattle.figures.specs.Figures.{total}
use Rattle.rooms.specs.Table.{form_of, percent, node, cord, range, load, server, table}
use Rattle.rooms.specs.Trees.{beneath}
use Rattle.rooms.specs.Limits.{server_lows, lows, first_node, overloaded, checked}
use Rattle.rooms.specs.Outcome.{SheetOutcome, answer_of, sheet_number, sheet_figure, reading}

-- Room H's 28 bytes.
abbrev sheet_h : List ℕ
sheet_h =
    0x01 ∷ 0x02 ∷ 0x00 ∷ 0x96 ∷ 0x01 ∷ 0x00 ∷ 0xF4 ∷ 0x03 ∷ 0x02 ∷ 0x01 ∷ 0x64 ∷ 0x90 ∷ 0x03 ∷ 0x02
    ∷ 0x01 ∷ 0xF4 ∷ 0x03 ∷ 0x02 ∷ 0xF4 ∷ 0x03 ∷ 0x01 ∷ 0x64 ∷ 0x90 ∷ 0x03 ∷ 0x01 ∷ 0x02 ∷ 0xE8 ∷ 0x07 ∷ []

-- The number and the place of the answer to an outcome.
abbrev numbered : SheetOutcome → ℕ × ℕ
numbered outcome = (sheet_number (answer_of outcome), sheet_figure (answer_of outcome))

pub turned_back : (numbered (reading sheet_h 20) ≡ (12, 21)) × (numbered (reading [] 0) ≡ (4, 0))
unfolding reading number later sheet_from
    checked table form_of percent node cord range load server follow word ensure end many unless total
    overloaded first_node beneath server_lows lows
turned_back = (refl, refl)

-- A version 2 room of one node, rated 100 W at a percent, with a server of 81 W at least: 81 exceeds a limit of 80, not one of 100.
abbrev sheet_of : ℕ → List ℕ
sheet_of percent = 2 ∷ 1 ∷ 0 ∷ 100 ∷ percent ∷ 1 ∷ 1 ∷ 81 ∷ 90 ∷ 1 ∷ 1 ∷ 0xE8 ∷ 0x07 ∷ []

-- In version 1 the word after the rating is the count of servers, so that 100 stands for the rank of one of 80, and is out of range.
pub percents_read : (numbered (reading (sheet_of 100) 12) ≡ (0, 12)) × (numbered (reading (sheet_of 80) 12) ≡ (9, 1)) × (numbered (reading (sheet_of 90) 12) ≡ (5, 4))
    × (numbered (reading (1 ∷ 1 ∷ 0 ∷ 100 ∷ 80 ∷ 100 ∷ []) 12) ≡ (5, 5)) × (numbered (reading (2 ∷ 1 ∷ 0 ∷ 100 ∷ []) 12) ≡ (4, 4)) × (numbered (reading (4 ∷ []) 12) ≡ (5, 0))
unfolding reading number later sheet_from
    checked table form_of percent node cord range load server follow word ensure end many unless total
    overloaded first_node beneath server_lows lows
percents_read = (refl, refl, refl, refl, refl, refl)

-- A version 3 room of one node, limited to 80 W, with a server of 80 W at least and two cords; its shares are 1 and 9,999. The lows are
-- ceil(0.008) = 1 and ceil(79.992) = 80, which exceed the limit by 1; with 0 and 10,000 they do not. And sums that are not 10,000.
abbrev fine_of : ℕ → ℕ → List ℕ → List ℕ
fine_of first second rest = 3 ∷ 1 ∷ 0 ∷ 100 ∷ 80 ∷ 1 ∷ 1 ∷ 80 ∷ 90 ∷ 2 ∷ 1 ∷ first ∷ 1 ∷ second ∷ rest

pub fine_shares : (numbered (reading (fine_of 0 0x90 (0x4E ∷ [])) 14) ≡ (0, 14)) × (numbered (reading (fine_of 1 0x8F (0x4E ∷ [])) 14) ≡ (9, 1))
    × (numbered (reading (fine_of 0 0xE8 (0x07 ∷ [])) 14) ≡ (7, 6)) × (numbered (reading (fine_of 0 0x91 (0x4E ∷ [])) 14) ≡ (5, 13))
unfolding reading number later sheet_from
    checked table form_of percent node cord range load server follow word ensure end many unless total
    overloaded first_node beneath server_lows lows
fine_shares = (refl, refl, refl, refl)
