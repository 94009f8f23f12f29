-- Lists that fit: the test holds exactly where document 02's conditions do.
use mathlib.Core.Path.{◌≡◌, sym, ap, ◌∙◌}
use mathlib.Core.Bool.{Bool, true, false, true≢false}
use mathlib.Core.List.{List}
use Prim.Native.Nat.{ℕ, ◌*◌}
use native.Mathlib.Omega.{arith}
use borrow.Author.Tests.{le-leb, eq-eqb}
use lib.Dec.{eqb, leb, eqb→eq, leb→le}
use lib.ListN.{length}
use lib.Ieee.{Float}
use lib.Ieee.Fits.{and_l, and_r}
use Rattle.control.proofs.FloatOrder.{from_true}
use Rattle.control_all.specs.Pass.{controller_count, fitting}
use Rattle.control_all.specs.Fitting.{Fitting}
use Rattle.control_all.specs.Promises.{Fits}

module _ (controllers : List Float) (working : List ℕ) (budgets measured : List Float) (results : List ℕ) where
  -- The test of these lists.
  abbrev pub fit : Bool
  fit = fitting (controller_count controllers) (length working) (length budgets) (length measured) (length results)

  pub fit_fits : fit ≡ true → Fits controllers working budgets measured results
  fit_fits e =
      let n = controller_count controllers in
      let all = from_true e in
      let rest1 = and_r (leb n 512) _ all in
      let rest2 = and_r (eqb (length working) (4 * n)) _ rest1 in
      let rest3 = and_r (eqb (length budgets) (4 * n)) _ rest2 in
      record {
        few = leb→le n 512 (and_l (leb n 512) _ all);
        working_four = eqb→eq (length working) (4 * n) (and_l (eqb (length working) (4 * n)) _ rest1);
        budgets_four = eqb→eq (length budgets) (4 * n) (and_l (eqb (length budgets) (4 * n)) _ rest2);
        measured_four = eqb→eq (length measured) (4 * n) (and_l (eqb (length measured) (4 * n)) _ rest3);
        results_one = eqb→eq (length results) n (and_r (eqb (length measured) (4 * n)) _ rest3);
      }

  pub unfit_fits : fit ≡ false → Fits controllers working budgets measured results → ⊥
  unfit_fits e f = true≢false (sym yes ∙ e)
    where
      yes : fit ≡ true
      yes = rw (le-leb _ _ f.few, eq-eqb _ _ f.working_four, eq-eqb _ _ f.budgets_four, eq-eqb _ _ f.measured_four, eq-eqb _ _ f.results_one)

  -- What the code's loop asks.
  pub fits_fitting : Fits controllers working budgets measured results → Fitting controllers working budgets measured results
  fits_fitting f =
      let four : 4 * length results ≡ 4 * controller_count controllers = ap (λ (k : ℕ). 4 * k) f.results_one in
      record {
        few = omega (arith, f.few, f.results_one);
        controllers_are = omega (arith, f.results_one);
        working_are = f.working_four ∙ sym four;
        budgets_are = f.budgets_four ∙ sym four;
        measured_are = f.measured_four ∙ sym four;
      }
