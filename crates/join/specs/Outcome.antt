-- Join: what it comes to, as an answer and as a table.
use Rattle.std.specs.Prelude.{not, List, [], ◌∷◌, ℕ, ◌+◌, length, eqb, ltb, Result, Ok, Err}
use Rattle.outcomes.specs.Outcome.{Outcome, accepted, refused, Reason, unless, too_short}
use Rattle.figures.specs.Figures.{at}
use Rattle.outcomes.specs.Part.{when_good}
use Rattle.rooms.specs.Table.{Room, most_nodes, most_servers, most_cords, room_cords}
use Rattle.rooms.specs.Limits.{checked}
use Rattle.rooms.specs.Words.{table_of}
use Rattle.rooms.specs.Outcome.{sheet_refusal_number, sheet_refusal_place}
use Rattle.join.specs.Joined.{joined}
use Rattle.join.specs.declared.JoinRefusal.{JoinRefusal}
use Rattle.join.specs.declared.JoinRefusal.TheVariants.{First, Second, VersionsDiffer, TooManyNodes, TooManyServers, TooManyCords}
use Rattle.join.specs.declared.JoinRefusal.TheVariants.{TableTooShort}

-- What Join comes to: accepted with the words of the joined table, or refused.
abbrev pub JoinOutcome : Type 0
JoinOutcome = Outcome (List ℕ) JoinRefusal

abbrev pub JoinReason : Type 0
JoinReason = Reason JoinRefusal

-- ---- The reasons to refuse two good tables

-- Two counts are more than the most together.
abbrev pub too_many : (most one two : ℕ) → JoinRefusal → JoinReason
too_many most one two refusal = record { holds = ltb most (one + two); refusal = refusal }

-- The reasons in their order (19, 20, 12), by the versions and the rooms of two tables and the words that the output has space for.
abbrev pub reasons : (version other : ℕ) (r q : Room) (entries : ℕ) → List JoinReason
reasons version other r q entries =
    record { holds = not (eqb version other); refusal = VersionsDiffer }
    ∷ too_many most_nodes (length r.nodes) (length q.nodes) TooManyNodes
    ∷ too_many most_servers (length r.servers) (length q.servers) TooManyServers
    ∷ too_many most_cords (room_cords r) (room_cords q) TooManyCords
    ∷ too_short TableTooShort entries (length (table_of version (joined r q)))
    ∷ []

-- ---- Join

-- Join of two good rooms: the table of the room of both, in the version of both.
unfoldable pub join_rooms : (version other : ℕ) (r q : Room) (entries : ℕ) → JoinOutcome
unfolding unless
join_rooms version other r q entries = unless (reasons version other r q entries) (table_of version (joined r q))

-- Join: two tables, for an output of so many words. All checks of the first come before those of the second.
unfoldable pub joining : List ℕ → List ℕ → ℕ → JoinOutcome
unfolding join_rooms checked
joining first second entries =
    when_good First (checked first 0) (λ r. when_good Second (checked second 0) (λ q. join_rooms (at first 0) (at second 0) r q entries))

-- The answer to an outcome: the count of words, or why the tables are turned back.
abbrev pub answer_of : JoinOutcome → Result ℕ JoinRefusal
answer_of (accepted table) = Ok (length table)
answer_of (refused refusal) = Err refusal

-- ---- Numbers and places

-- A refusal's number.
abbrev pub join_refusal_number : JoinRefusal → ℕ
join_refusal_number (First refusal) = sheet_refusal_number refusal
join_refusal_number (Second refusal) = sheet_refusal_number refusal
join_refusal_number VersionsDiffer = 19
join_refusal_number TooManyNodes = 20
join_refusal_number TooManyServers = 20
join_refusal_number TooManyCords = 20
join_refusal_number (TableTooShort needed) = 12

-- A refusal's place: that of the table that is refused; the first count that is too large; or the length needed.
abbrev pub join_refusal_place : JoinRefusal → ℕ
join_refusal_place (First refusal) = sheet_refusal_place refusal
join_refusal_place (Second refusal) = sheet_refusal_place refusal
join_refusal_place VersionsDiffer = 0
join_refusal_place TooManyNodes = 0
join_refusal_place TooManyServers = 1
join_refusal_place TooManyCords = 2
join_refusal_place (TableTooShort needed) = needed

-- An answer's number, 0 if accepted, and its figure: the count of words, or the refusal's place.
abbrev pub join_number : Result ℕ JoinRefusal → ℕ
join_number (Ok count) = 0
join_number (Err refusal) = join_refusal_number refusal

abbrev pub join_figure : Result ℕ JoinRefusal → ℕ
join_figure (Ok count) = count
join_figure (Err refusal) = join_refusal_place refusal
