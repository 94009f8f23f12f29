-- What the code asks of its lists. No public contract rests on this: a pass is defined in Pass.antt.
use Rattle.std.specs.Prelude.{◌≡◌, List, ℕ, ◌*◌, ◌≤◌, length, Float}
use Rattle.control_all.specs.Pass.{most_controllers}

-- The lists fit: one result for each controller, and for each result a controller and four cords.
pub record Fitting (controllers : List Float) (working : List ℕ) (budgets measured : List Float) (results : List ℕ) : Type 0 where
  pub few : length results ≤ most_controllers
  pub controllers_are : 4 * length results ≤ length controllers
  pub working_are : length working ≡ 4 * length results
  pub budgets_are : length budgets ≡ 4 * length results
  pub measured_are : length measured ≡ 4 * length results

-- The lists of the cords have so many entries or more.
abbrev pub CordsTo : ℕ → (working : List ℕ) (budgets measured : List Float) → Type 0
CordsTo end working budgets measured = (end ≤ length working) × (end ≤ length budgets) × (end ≤ length measured)
