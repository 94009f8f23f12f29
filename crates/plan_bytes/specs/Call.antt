-- Plan, called from C: what it returns and leaves in every byte of every buffer, for every length.
--
-- A list of n bytes is one of n / 4 words, each of four bytes with the lowest first; the bytes over are left alone.
use Rattle.std.specs.Prelude.{Bool, List, [], ◌∷◌, ℕ, ◌/◌, length}
use Rattle.outcomes.specs.Outcome.{after}
use Rattle.words.specs.Bytes.{bytes_of}
use Rattle.calls.specs.Call.{Call, Left}
use Rattle.deals.specs.Plan.{Plan, PlanOutcome, output, Lists, lengths_of, plan, answer_of, plan_number, plan_figure}
use Rattle.deals.specs.declared.Lengths.{Lengths}
use Rattle.deals.specs.declared.PlanList.{PlanList}

-- Each list holds one figure for every four of its bytes.
abbrev pub lent_bytes : Lists → Lengths
lent_bytes lent = lengths_of (λ list. length (lent list) / 4)

-- The numbers of the answer to an outcome: its number, and its figure.
abbrev pub numbers_of : PlanOutcome → List ℕ
numbers_of outcome = plan_number (answer_of outcome) ∷ plan_figure (answer_of outcome) ∷ []

-- A list in bytes that the call of a plan leaves, by what a plan has for it.
abbrev pub ListLeft : (Plan → List ℕ) → PlanOutcome → (bytes bytes' : List ℕ) → Bool → Type 0
ListLeft output outcome bytes bytes' stored = Left (after (λ p. bytes_of (output p)) outcome bytes) bytes bytes' stored

-- All of them.
pub record ListsLeft (outcome : PlanOutcome) (lent lent' : Lists) (stored : Bool) : Type 0 where
  pub lists-after : (list : PlanList) → ListLeft (output list) outcome (lent list) (lent' list) stored

-- The call of a plan that comes to an outcome.
abbrev pub PlannedCall : PlanOutcome → Lists → (answer : List ℕ) (r : ℕ) → Lists → (answer' : List ℕ) → Type 0
PlannedCall outcome lent answer r lent' answer' = Call 2 (numbers_of outcome) answer (ListsLeft outcome lent lent') r answer'

-- Plan, called from C, of a table and demands in words.
abbrev pub PlanCall : (table demands : List ℕ) → Lists → (answer : List ℕ) (r : ℕ) → Lists → (answer' : List ℕ) → Type 0
PlanCall table demands lent answer r lent' answer' = PlannedCall (plan table demands (lent_bytes lent)) lent answer r lent' answer'
