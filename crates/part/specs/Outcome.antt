-- Part: what it comes to.
use Rattle.std.specs.Prelude.{not, List, [], ◌∷◌, ℕ, ◌-◌, length, eqb, ltb}
use Rattle.outcomes.specs.Outcome.{Outcome, Reason, unless, too_short, numbers_of}
use Rattle.outcomes.specs.Part.{when_good}
use Rattle.figures.specs.Figures.{at}
use Rattle.rooms.specs.Part.{within}
use Rattle.rooms.specs.Table.{Room}
use Rattle.rooms.specs.Limits.{checked}
use Rattle.rooms.specs.Words.{table_of}
use Rattle.rooms.specs.Outcome.{sheet_refusal_number, sheet_refusal_place}
use Rattle.part.specs.Parted.{front, back}
use Rattle.part.specs.Crossing.{crossing}
use Rattle.part.specs.declared.PartRefusal.{PartRefusal}
use Rattle.part.specs.declared.PartRefusal.TheVariants.{Table, NodesOutOfRange, ServersOutOfRange, LinkAcross, FirstTooShort, SecondTooShort}

-- The words of both parts.
pub record Parts : Type 0 where
  pub first : List ℕ
  pub second : List ℕ

-- What Part comes to: accepted with both parts, or refused.
abbrev pub PartOutcome : Type 0
PartOutcome = Outcome Parts PartRefusal

-- The parts of a room, cut after so many nodes and servers, as tables of its version.
abbrev pub parts_of : (version nodes servers : ℕ) → Room → Parts
parts_of version nodes servers r = record {
  first = table_of version (front nodes servers r);
  second = table_of version (back nodes servers r);
}

-- ---- The reasons to refuse a cut of a good room

-- The reasons in their order (22, 23, 12), by the words that both outputs have space for.
abbrev pub reasons : (version : ℕ) (r : Room) (nodes servers first second : ℕ) → List (Reason PartRefusal)
reasons version r nodes servers first second =
    record { holds = not (within 1 (length r.nodes - 1) nodes); refusal = NodesOutOfRange }
    ∷ record { holds = ltb (length r.servers) servers; refusal = ServersOutOfRange }
    ∷ record { holds = not (eqb (crossing version nodes servers r) 0); refusal = LinkAcross (crossing version nodes servers r) }
    ∷ too_short FirstTooShort first (length (parts_of version nodes servers r).first)
    ∷ too_short SecondTooShort second (length (parts_of version nodes servers r).second)
    ∷ []

-- ---- Part

-- Part of a good room.
unfoldable pub part_room : (version : ℕ) (r : Room) (nodes servers first second : ℕ) → PartOutcome
unfolding unless
part_room version r nodes servers first second = unless (reasons version r nodes servers first second) (parts_of version nodes servers r)

-- Part: a table, cut after so many nodes and servers, for two outputs of so many words. All checks of the table come first.
unfoldable pub parting : List ℕ → (nodes servers first second : ℕ) → PartOutcome
unfolding part_room checked
parting table nodes servers first second = when_good Table (checked table 0) (λ r. part_room (at table 0) r nodes servers first second)

-- ---- Numbers and places

-- A refusal's number.
abbrev pub part_refusal_number : PartRefusal → ℕ
part_refusal_number (Table refusal) = sheet_refusal_number refusal
part_refusal_number NodesOutOfRange = 22
part_refusal_number ServersOutOfRange = 22
part_refusal_number (LinkAcross index) = 23
part_refusal_number (FirstTooShort needed) = 12
part_refusal_number (SecondTooShort needed) = 12

-- A refusal's place: that of the table; the count that is out of range; the index of the word; or the length needed.
abbrev pub part_refusal_place : PartRefusal → ℕ
part_refusal_place (Table refusal) = sheet_refusal_place refusal
part_refusal_place NodesOutOfRange = 0
part_refusal_place ServersOutOfRange = 1
part_refusal_place (LinkAcross index) = index
part_refusal_place (FirstTooShort needed) = needed
part_refusal_place (SecondTooShort needed) = needed

-- The numbers of the answer to an outcome: 0 and both counts of words, or the refusal's number and its place.
abbrev pub part_numbers : PartOutcome → List ℕ
part_numbers = numbers_of (λ parts. length parts.first ∷ length parts.second ∷ []) part_refusal_number part_refusal_place
