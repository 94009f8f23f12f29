-- Send: what it comes to, as an answer and in the list lent.
use Rattle.std.specs.Prelude.{Bool, not, ◌&&◌, List, [], ◌∷◌, ℕ, eqb, leb, ltb, length, Result, Ok, Err}
use Rattle.outcomes.specs.Outcome.{Outcome, accepted, refused, Reason, unless, too_short}
use Rattle.sender.specs.Period.{Period, period, named_count}
use Rattle.sender.specs.declared.SendRefusal.{SendRefusal}
use Rattle.sender.specs.declared.SendRefusal.TheVariants.{NoMessages, PositionOutOfRange, ListTooShort}
use Rattle.sender.specs.declared.Sent.{Sent}

-- The most servers of a room.
abbrev pub most_servers : ℕ
most_servers = 512

-- What Send comes to: accepted with its period, or refused.
abbrev pub SendOutcome : Type 0
SendOutcome = Outcome Period SendRefusal

-- Whether the position is below the count, and the count from 1 to 512.
abbrev pub in_range : (count position : ℕ) → Bool
in_range count position = ltb position count && (leb 1 count && leb count most_servers)

-- The reasons to refuse, in their order: m is 0 (27); a position that is no server's, or a count out of its range (28); the list
-- too short (12).
abbrev pub reasons : (count position m space : ℕ) → List (Reason SendRefusal)
reasons count position m space =
    record { holds = eqb m 0; refusal = NoMessages }
    ∷ record { holds = not (in_range count position); refusal = PositionOutOfRange }
    ∷ too_short ListTooShort space (named_count count m)
    ∷ []

-- Send, to a list of so many words.
unfoldable pub sending : (count position m space : ℕ) → SendOutcome
sending count position m space = unless (reasons count position m space) (period count position m)

-- ---- What the caller sees

-- The answer to an outcome: how many servers were named and the new position, or the refusal.
abbrev pub answer_of : SendOutcome → Result Sent SendRefusal
answer_of (accepted p) = Ok (record { named = length p.named; next = p.next })
answer_of (refused refusal) = Err refusal

-- ---- Numbers and places

-- A refusal's number.
abbrev pub send_refusal_number : SendRefusal → ℕ
send_refusal_number NoMessages = 27
send_refusal_number PositionOutOfRange = 28
send_refusal_number (ListTooShort needed) = 12

-- A refusal's place. That of a short list is how many servers would be named.
abbrev pub send_refusal_place : SendRefusal → ℕ
send_refusal_place NoMessages = 0
send_refusal_place PositionOutOfRange = 1
send_refusal_place (ListTooShort needed) = needed

-- An answer's number, 0 if accepted, and its figure: how many servers were named, or the refusal's place.
abbrev pub sent_number : Result Sent SendRefusal → ℕ
sent_number (Ok sent) = 0
sent_number (Err refusal) = send_refusal_number refusal

abbrev pub sent_figure : Result Sent SendRefusal → ℕ
sent_figure (Ok sent) = sent.named
sent_figure (Err refusal) = send_refusal_place refusal

-- An answer's second value: the new position. A refusal has none, for which 0 stands here; the call writes none.
abbrev pub sent_position : Result Sent SendRefusal → ℕ
sent_position (Ok sent) = sent.next
sent_position (Err refusal) = 0
