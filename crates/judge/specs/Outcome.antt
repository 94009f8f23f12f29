-- Judge: what it comes to. No list is written.
use Rattle.std.specs.Prelude.{not, List, [], ◌∷◌, ℕ, eqb, length, Result, Ok, Err}
use Rattle.outcomes.specs.Outcome.{Outcome, accepted, refused, Reason, unless}
use Rattle.rooms.specs.Table.{Room, room_cords}
use Rattle.layout.specs.Outcome.{LoadOutcome, loading, load_refusal_number, load_refusal_place}
use Rattle.deals.specs.Judge.{verdict}
use Rattle.deals.specs.declared.Verdict.{Verdict}
use Rattle.judge.specs.declared.JudgeRefusal.{JudgeRefusal}
use Rattle.judge.specs.declared.JudgeRefusal.TheVariants.{Load, GrantCount}

-- What Judge comes to: a verdict, or a refusal.
abbrev pub JudgeOutcome : Type 0
JudgeOutcome = Outcome Verdict JudgeRefusal

-- The reason to refuse the grants of a room that is loaded (21): there is not one for each cord.
abbrev pub grant_reasons : Room → List ℕ → List (Reason JudgeRefusal)
grant_reasons r grants = record { holds = not (eqb (length grants) (room_cords r)); refusal = GrantCount (room_cords r) } ∷ []

-- The grants, judged, of what loading comes to.
unfoldable pub judge_loaded : LoadOutcome → List ℕ → List ℕ → JudgeOutcome
unfolding unless verdict
judge_loaded (accepted r) demands grants = unless (grant_reasons r grants) (verdict r demands grants)
judge_loaded (refused refusal) demands grants = refused (Load refusal)

-- Judge: a table, a demand list and a grant list. The refusals of the table (4 to 9) and of the demands (10, 11) stand.
unfoldable pub judging : (table demands grants : List ℕ) → JudgeOutcome
unfolding judge_loaded loading
judging table demands grants = judge_loaded (loading table demands) demands grants

-- ---- What the caller sees

-- The answer to an outcome.
abbrev pub answer_of : JudgeOutcome → Result Verdict JudgeRefusal
answer_of (accepted v) = Ok v
answer_of (refused refusal) = Err refusal

-- A refusal's number and its place: that of the table or the demands, or the count of cords.
abbrev pub judge_refusal_number : JudgeRefusal → ℕ
judge_refusal_number (Load refusal) = load_refusal_number refusal
judge_refusal_number (GrantCount place) = 21

abbrev pub judge_refusal_place : JudgeRefusal → ℕ
judge_refusal_place (Load refusal) = load_refusal_place refusal
judge_refusal_place (GrantCount place) = place
