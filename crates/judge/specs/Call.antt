-- Judge, called from C: what it returns and leaves in every byte of its answer, for lists of every length. A list is four bytes a word, low
-- byte first; one to three bytes over at its end are not read.
use Rattle.std.specs.Prelude.{List, [], ◌∷◌, ℕ, Result}
use Rattle.words.specs.Bytes.{words_of}
use Rattle.calls.specs.Call.{Call, told_numbers}
use Rattle.deals.specs.Judge.{verdict_number, verdict_names, verdict_rank}
use Rattle.deals.specs.declared.Verdict.{Verdict}
use Rattle.judge.specs.Outcome.{judging, answer_of, judge_refusal_number, judge_refusal_place}
use Rattle.judge.specs.declared.JudgeRefusal.{JudgeRefusal}

-- The figures of a verdict: its number, what it names and its rank.
abbrev pub verdict_figures : Verdict → List ℕ
verdict_figures v = verdict_number v ∷ verdict_names v ∷ verdict_rank v ∷ []

-- The numbers of an answer. Accepted: 0, the verdict's number, what it names and its rank. Refused: the number and the place.
abbrev pub judged_numbers : Result Verdict JudgeRefusal → List ℕ
judged_numbers = told_numbers verdict_figures judge_refusal_number judge_refusal_place

-- Judge, called from C, with an answer of up to four numbers. It writes no other buffer.
abbrev pub JudgeCall : (table demands grants answer : List ℕ) (r : ℕ) (answer' : List ℕ) → Type 0
JudgeCall table demands grants answer r answer' =
    Call 4 (judged_numbers (answer_of (judging (words_of table) (words_of demands) (words_of grants)))) answer (λ stored. Unit) r answer'
