-- What holds of a pass, apart from any code.
-- proofs/Promises.antt proves each: `EachAsSingle` as `each_as_single`, and so on.
use Rattle.std.specs.Prelude.{◌≡◌, List, ◌↔◌, ℕ, ◌*◌, ◌<◌, ◌≤◌, length, get_or, Float}
use Rattle.std.specs.Float.{nan}
use Rattle.control.specs.Step.{Stepped, step_number, controller_after}
use Rattle.control.specs.Call.{controller_at}
use Rattle.outcomes.specs.Outcome.{accepted}
use Rattle.control_all.specs.Pass.{most_controllers, controller_count, own_step, passed, answer_of, pass_number, pass_figure}

-- A pass that is accepted: the lists before it, and those that it changes after it.
pub record AcceptedPass : Type 0 where
  pub controllers : List Float
  pub working : List ℕ
  pub budgets : List Float
  pub measured : List Float
  pub results : List ℕ
  pub controllers' : List Float
  pub results' : List ℕ
  pub is : passed controllers working budgets measured results ≡ accepted (record { controllers = controllers'; results = results' })

-- The single step of controller i.
abbrev pub single : AcceptedPass → ℕ → Stepped
single p i = own_step p.controllers p.working p.budgets p.measured i

-- Controller i ends exactly as its single step would leave it, whether accepted or refused, and the number of that step stands at its
-- place of the results.
pub record AsSingle (p : AcceptedPass) (i : ℕ) : Type 0 where
  pub controller : controller_at p.controllers' (4 * i) ≡ controller_after (single p i)
  pub number : get_or p.results' i 0 ≡ step_number (single p i)

abbrev pub EachAsSingle : Type 0
EachAsSingle = (p : AcceptedPass) (i : ℕ) → i < controller_count p.controllers → AsSingle p i

-- The lists keep their lengths, and figures over at the end of the controllers are untouched.
pub record Bounded (p : AcceptedPass) : Type 0 where
  pub controllers_kept : length p.controllers' ≡ length p.controllers
  pub results_kept : length p.results' ≡ length p.results
  pub over : (at : ℕ) → 4 * controller_count p.controllers ≤ at → get_or p.controllers' at nan ≡ get_or p.controllers at nan

abbrev pub StaysInside : Type 0
StaysInside = (p : AcceptedPass) → Bounded p

-- What refusal 18 asks of the lists, in document 02's words.
pub record Fits (controllers : List Float) (working : List ℕ) (budgets measured : List Float) (results : List ℕ) : Type 0 where
  pub few : controller_count controllers ≤ most_controllers
  pub working_four : length working ≡ 4 * controller_count controllers
  pub budgets_four : length budgets ≡ 4 * controller_count controllers
  pub measured_four : length measured ≡ 4 * controller_count controllers
  pub results_one : length results ≡ controller_count controllers

-- 18 comes exactly if the lists do not fit, at the number of controllers.
pub record RefusalEighteen : Type 0 where
  pub exactly : (controllers : List Float) (working : List ℕ) (budgets measured : List Float) (results : List ℕ)
      → (pass_number (answer_of (passed controllers working budgets measured results)) ≡ 18) ↔ (Fits controllers working budgets measured results → ⊥)
  pub place : (controllers : List Float) (working : List ℕ) (budgets measured : List Float) (results : List ℕ)
      → pass_number (answer_of (passed controllers working budgets measured results)) ≡ 18
      → pass_figure (answer_of (passed controllers working budgets measured results)) ≡ controller_count controllers
