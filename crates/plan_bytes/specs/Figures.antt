-- A plan in lists of words: what the private function that makes it leaves. No public contract rests on this: the call is defined in
-- Call.antt.
use Rattle.std.specs.Prelude.{◌≡◌, List, ℕ, ◌≤◌, length, take, Result, Ok, Err, IfOk}
use Rattle.outcomes.specs.Outcome.{written}
use Rattle.deals.specs.Plan.{PlanOutcome, output, count, Lists, answer_of}
use Rattle.deals.specs.declared.PlanList.{PlanList}
use Rattle.deals.specs.declared.PlanRefusal.{PlanRefusal}
use Rattle.plan_bytes.specs.declared.PlannedFigures.{PlannedFigures}

-- So many entries of a list are an output.
pub record Front (n : ℕ) (list output : List ℕ) : Type 0 where
  pub few : n ≤ length list
  pub is : take n list ≡ output

-- The answer that it is of figures of a plan: their freed watts, or the refusal.
abbrev pub freed_of : Result PlannedFigures PlanRefusal → Result ℕ PlanRefusal
freed_of (Ok figures) = Ok figures.freed
freed_of (Err refusal) = Err refusal

-- The answer to an outcome, and, where it is accepted, what it writes at the fronts of the lists.
pub record FiguresLeft (outcome : PlanOutcome) (planned : Result PlannedFigures PlanRefusal) (words : Lists) : Type 0 where
  pub answer_is : freed_of planned ≡ answer_of outcome
  pub lists_are : IfOk planned (λ figures. (list : PlanList)
      → Front (count figures.cords figures.servers list) (words list) (written (output list) outcome))
