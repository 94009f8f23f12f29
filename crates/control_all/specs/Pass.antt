-- A pass over every controller: document 02, A.7. What each one's step is stands in `control`.
--
-- A list of controllers has four figures for each, in a row: cap, k, low and high. One to three figures over at its end belong to none.
-- The marks, the budgets and the measured watts have four entries for each controller, one a cord.
use Rattle.std.specs.Prelude.{Bool, cond, not, ◌&&◌, List, [], ◌∷◌, ℕ, zero, suc, ◌+◌, ◌*◌, ◌/◌, eqb, leb, length, set, Float, Result, Ok, Err}
use Rattle.outcomes.specs.Outcome.{Outcome, accepted, refused, Reason, unless}
use Rattle.control.specs.Step.{Stepped, step_number}
use Rattle.control.specs.Call.{step_at, figures_after}
use Rattle.control_all.specs.declared.PassRefusal.{PassRefusal}

-- ---- Lists that fit

-- The most controllers of a pass.
abbrev pub most_controllers : ℕ
most_controllers = 512

-- How many controllers a list has.
abbrev pub controller_count : List Float → ℕ
controller_count controllers = length controllers / 4

-- Whether lists of these lengths fit so many controllers: no more than the most, four readings each, one result each.
abbrev pub fitting : ℕ → ℕ → ℕ → ℕ → ℕ → Bool
fitting controllers working budgets measured results =
    leb controllers most_controllers
    && (eqb working (4 * controllers) && (eqb budgets (4 * controllers) && (eqb measured (4 * controllers) && eqb results controllers)))

-- ---- Every controller's step

module _ (controllers : List Float) (working : List ℕ) (budgets measured : List Float) where
  -- The step of controller i, as it is found.
  abbrev pub own_step : ℕ → Stepped
  own_step i = step_at controllers working budgets measured (4 * i)

  -- The controllers, once the first so many are stepped.
  unfoldable pub stepped_to : ℕ → List Float
  stepped_to zero = controllers
  stepped_to (suc i) = figures_after (own_step i) (stepped_to i) (4 * i)

  -- The results, once the first so many numbers are in their places: 0, 16 or 17.
  unfoldable pub numbers_to : List ℕ → ℕ → List ℕ
  numbers_to results zero = results
  numbers_to results (suc i) = set (numbers_to results i) i (step_number (own_step i))

-- How many entries are 0.
unfoldable pub zeros : List ℕ → ℕ
zeros [] = 0
zeros (number ∷ rest) = cond (eqb number 0) 1 0 + zeros rest

-- ---- Outcomes

-- What a pass leaves: the controllers and the results, all of them.
pub record Pass : Type 0 where
  pub controllers : List Float
  pub results : List ℕ

-- What a pass comes to. Refused, it gives the number of controllers.
abbrev pub PassOutcome : Type 0
PassOutcome = Outcome Pass PassRefusal

-- The lists do not fit (18), at the number of controllers.
abbrev pub unfit : List Float → List ℕ → List Float → List Float → List ℕ → Reason PassRefusal
unfit controllers working budgets measured results = record {
  holds = not (fitting (controller_count controllers) (length working) (length budgets) (length measured) (length results));
  refusal = record { controllers = controller_count controllers };
}

-- A pass: refused, before anything is stepped, where the lists do not fit.
unfoldable pub passed : List Float → List ℕ → List Float → List Float → List ℕ → PassOutcome
unfolding stepped_to numbers_to
passed controllers working budgets measured results =
    unless (unfit controllers working budgets measured results ∷ [])
    (record {
      controllers = stepped_to controllers working budgets measured (controller_count controllers);
      results = numbers_to controllers working budgets measured results (controller_count controllers);
    })

-- The answer: how many results are 0, or the refusal's place.
abbrev pub answer_of : PassOutcome → Result ℕ PassRefusal
answer_of (accepted pass) = Ok (zeros pass.results)
answer_of (refused refusal) = Err refusal

-- ---- Numbers and figures

-- A refusal's number, and its place: the number of controllers.
abbrev pub pass_refusal_number : PassRefusal → ℕ
pass_refusal_number refusal = 18

abbrev pub pass_refusal_place : PassRefusal → ℕ
pass_refusal_place refusal = refusal.controllers

-- An answer's number, 0 if accepted, and its figure: how many controllers have 0, or the refusal's place.
abbrev pub pass_number : Result ℕ PassRefusal → ℕ
pass_number (Ok count) = 0
pass_number (Err refusal) = pass_refusal_number refusal

abbrev pub pass_figure : Result ℕ PassRefusal → ℕ
pass_figure (Ok count) = count
pass_figure (Err refusal) = pass_refusal_place refusal
