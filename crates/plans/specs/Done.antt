-- Plan, done: what the operation answers, and what it leaves in each of its lists, for every length of them. What a reader must believe
-- beside this is `plan`, and which list is which (deals/specs/Plan.antt).
use Rattle.std.specs.Prelude.{◌≡◌, List, ℕ, Result}
use Rattle.outcomes.specs.Outcome.{after}
use Rattle.deals.specs.Plan.{PlanOutcome, output, Lists, lent, plan, answer_of}
use Rattle.deals.specs.declared.PlanList.{PlanList}
use Rattle.deals.specs.declared.PlanRefusal.{PlanRefusal}

-- What Plan comes to in lists that are lent to it.
abbrev pub plan_in : (table demands : List ℕ) → Lists → PlanOutcome
plan_in table demands given = plan table demands (lent given)

-- The answer is that to the outcome, and every list has what the outcome writes at its front; entries past that are unchanged.
pub record PlanDone (table demands : List ℕ) (lent : Lists) (answer : Result ℕ PlanRefusal) (left : Lists) : Type 0 where
  pub answer_is : answer ≡ answer_of (plan_in table demands lent)
  pub lists_are : (list : PlanList) → left list ≡ after (output list) (plan_in table demands lent) (lent list)
