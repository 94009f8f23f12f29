-- Laws of the loop over the controllers: what is known before each, one turn, and the end.
use mathlib.Core.Path.{◌≡◌, refl, ap, ◌∙◌}
use mathlib.Core.Bool.{Bool, true, false, cond}
use mathlib.Core.List.{List, [], ◌∷◌, ◌++◌}
use Prim.Native.Nat.{ℕ, zero, suc, ◌+◌, ◌*◌, ◌<◌, ◌≤◌}
use native.Mathlib.Nat.{ne_of_gt}
use native.Mathlib.Numerals.{add-one}
use native.Mathlib.Omega.{arith}
use Rattle.std.proofs.Common.{Ok, Err}
use mir.Val.{bool_byte}
use lib.Dec.{eqb}
use lib.ListN.{length, get_or, set, take, length-set}
use lib.Seq.{take-suc, get_or-set_same, get_or-set_other}
use lib.Ieee.{Float, nan}
use Rattle.control.specs.Step.{Stepped, step_number}
use Rattle.control.specs.Call.{step_at, figures_after}
use Rattle.control_all.specs.Pass.{own_step, stepped_to, numbers_to, zeros}
use Rattle.control_all.specs.Fitting.{Fitting}

-- ---- A store

-- What a step leaves is as long as before, and differs at its place alone.
pub length-figures_after : (step : Stepped) (figures : List Float) (at : ℕ) → length (figures_after step figures at) ≡ length figures
length-figures_after (Ok next) figures at = length-set figures at next.cap.0
length-figures_after (Err turned) figures at = refl

pub figures_after_other : (step : Stepped) (figures : List Float) (at i : ℕ) → (i ≡ at → ⊥) → get_or (figures_after step figures at) i nan ≡ get_or figures i nan
figures_after_other (Ok next) figures at i h = get_or-set_other figures at i next.cap.0 nan h
figures_after_other (Err turned) figures at i h = refl

-- ---- Zeros counted

-- What a test adds as a number.
byte_is : (b : Bool) → bool_byte b ≡ cond b 1 0
byte_is true = refl
byte_is false = refl

byte_most : (b : Bool) → bool_byte b ≤ 1
byte_most true = omega arith
byte_most false = omega arith

zeros-append : (l : List ℕ) (x : ℕ) → zeros (l ++ (x ∷ [])) ≡ zeros l + cond (eqb x 0) 1 0
unfolding zeros
zeros-append [] x = omega arith
zeros-append (y ∷ l) x = omega (arith, zeros-append l x)

take-set : (l : List ℕ) (i v : ℕ) → take i (set l i v) ≡ take i l
take-set [] zero v = refl
take-set [] (suc i) v = refl
take-set (x ∷ l) zero v = refl
take-set (x ∷ l) (suc i) v = ap (λ (r : List ℕ). x ∷ r) (take-set l i v)

zeros-set : (l : List ℕ) (i v : ℕ) → i < length l → zeros (take (i + 1) (set l i v)) ≡ zeros (take i l) + cond (eqb v 0) 1 0
zeros-set l i v h =
    let here : i < length (set l i v) = omega (arith, length-set l i v) in
    rw (add-one, take-suc (set l i v) i 0 here, take-set l i v, get_or-set_same l i v 0 h) (zeros-append (take i l) v)

-- ---- The loop

module _ (controllers : List Float) (working : List ℕ) (budgets measured : List Float) (results : List ℕ) where
  -- Controllers that are not yet reached are as they were found.
  pub stepped_to_ahead : (i at : ℕ) → 4 * i ≤ at → get_or (stepped_to controllers working budgets measured i) at nan ≡ get_or controllers at nan
  unfolding stepped_to
  stepped_to_ahead zero at h = refl
  stepped_to_ahead (suc i) at h =
      let past : 4 * i < at = omega arith in
      figures_after_other (own_step controllers working budgets measured i) (stepped_to controllers working budgets measured i) (4 * i) at (ne_of_gt past)
      ∙ stepped_to_ahead i at (omega arith)

  pub length_stepped_to : (i : ℕ) → length (stepped_to controllers working budgets measured i) ≡ length controllers
  unfolding stepped_to
  length_stepped_to zero = refl
  length_stepped_to (suc i) =
      length-figures_after (own_step controllers working budgets measured i) (stepped_to controllers working budgets measured i) (4 * i) ∙ length_stepped_to i

  pub length_numbers_to : (i : ℕ) → length (numbers_to controllers working budgets measured results i) ≡ length results
  unfolding numbers_to
  length_numbers_to zero = refl
  length_numbers_to (suc i) =
      length-set (numbers_to controllers working budgets measured results i) i (step_number (own_step controllers working budgets measured i)) ∙ length_numbers_to i

  -- What is known before controller i: those before it are stepped, their numbers are told, and the zeros among these are counted.
  pub record Before (controllers' : List Float) (results' : List ℕ) (count i : ℕ) : Type 0 where
    pub fit : Fitting controllers working budgets measured results
    pub within : i ≤ length results
    pub steps : controllers' ≡ stepped_to controllers working budgets measured i
    pub tells : results' ≡ numbers_to controllers working budgets measured results i
    pub counts : count ≡ zeros (take i results')
    pub few : count ≤ i
    pub controllers_kept : length controllers' ≡ length controllers
    pub results_kept : length results' ≡ length results

  pub before_first : Fitting controllers working budgets measured results → Before controllers results 0 0
  unfolding stepped_to numbers_to zeros
  before_first fit = record { fit = fit; within = omega arith; steps = refl; tells = refl; counts = refl; few = omega arith; controllers_kept = refl; results_kept = refl }

  module _ {controllers' : List Float} {results' : List ℕ} {count i : ℕ} (before : Before controllers' results' count i) where
    -- The step of the controller at its turn is the one that it would make by itself.
    pub own-step : {step : Stepped} → step ≡ step_at controllers' working budgets measured (4 * i) → step ≡ own_step controllers working budgets measured i
    own-step e = e ∙ rw (ahead (4 * i) (omega arith), ahead (4 * i + 1) (omega arith), ahead (4 * i + 2) (omega arith), ahead (4 * i + 3) (omega arith)) refl
      where
        ahead : (at : ℕ) → 4 * i ≤ at → get_or controllers' at nan ≡ get_or controllers at nan
        ahead at h = ap (λ (l : List Float). get_or l at nan) before.steps ∙ stepped_to_ahead i at h

    -- A turn: its cap is kept, and its number told and counted.
    pub before_next : {step : Stepped} {after : List Float} {number one : ℕ} → i < length results
        → step ≡ step_at controllers' working budgets measured (4 * i) → after ≡ figures_after step controllers' (4 * i) → number ≡ step_number step
        → one ≡ bool_byte (eqb number 0)
        → Before after (set results' i number) (count + one) (i + 1)
    unfolding stepped_to numbers_to
    before_next {step} {after} {number} {one} h s a n o =
        let own = own-step s in
        let told : number ≡ step_number (own_step controllers working budgets measured i) =
        n ∙ ap step_number own in
        let most : one ≤ 1 = rw o (byte_most (eqb number 0)) in
        let here : i < length results' = omega (arith, before.results_kept) in
        record {
          fit = before.fit;
          within = omega arith;
          steps = rw add-one (a ∙ rw (own, before.steps) refl);
          tells = rw add-one (rw (told, before.tells) refl);
          counts = rw (zeros-set results' i number here, before.counts, o, byte_is (eqb number 0)) refl;
          few = omega (arith, before.few);
          controllers_kept = ap length a ∙ length-figures_after step controllers' (4 * i) ∙ before.controllers_kept;
          results_kept = length-set results' i number ∙ before.results_kept;
        }
