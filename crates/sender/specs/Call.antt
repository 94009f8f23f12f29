-- Send, called from C: what it returns and leaves in every byte of both buffers, for every length.
--
-- A word is four bytes of the list, the lowest first. Where its length is no multiple of four, the last bytes are not written.
use Rattle.std.specs.Prelude.{List, [], ◌∷◌, ℕ, ◌/◌, length, Result, Ok, Err}
use Rattle.words.specs.Bytes.{bytes_of}
use Rattle.calls.specs.Call.{OutcomeCall}
use Rattle.sender.specs.Outcome.{sending, answer_of, send_refusal_number, send_refusal_place}
use Rattle.sender.specs.declared.Sent.{Sent}
use Rattle.sender.specs.declared.SendRefusal.{SendRefusal}

-- The numbers of an answer. Accepted: 0, how many servers were named, the new position. Refused: the number and the place.
abbrev pub sent_numbers : Result Sent SendRefusal → List ℕ
sent_numbers (Ok sent) = 0 ∷ sent.named ∷ sent.next ∷ []
sent_numbers (Err refusal) = send_refusal_number refusal ∷ send_refusal_place refusal ∷ []

-- Send, called from C, with an answer of three numbers: the list holds a word for every four of its bytes.
abbrev pub SendCall : (count position m : ℕ) (list answer : List ℕ) (r : ℕ) (list' answer' : List ℕ) → Type 0
SendCall count position m list answer r list' answer' =
    OutcomeCall 3 (λ outcome. sent_numbers (answer_of outcome)) (λ p. bytes_of p.named) (sending count position m (length list / 4))
    list answer r list' answer'
