-- Lists that code fills with figures from the front on, one by one.
use mathlib.Core.Path.{◌≡◌, refl, sym, ◌∙◌}
use mathlib.Core.List.{List}
use mathlib.Core.Logic.{◌⊎◌, inl, inr}
use Prim.Native.Nat.{ℕ, zero, suc, ◌+◌, ◌≤◌, ◌<◌}
use native.Mathlib.Nat.{not-suc-le-zero, le_of_suc-le-suc, eq-or-lt_of_le}
use native.Mathlib.Omega.{arith}
use native.Mathlib.Numerals.{add-one}
use lib.ListN.{length, get_or, set, replicate, length-set}
use lib.Seq.{get_or-set_same, get_or-set_other, ext_get_or}
use Rattle.figures.specs.Figures.{figures, at}
use Rattle.figures.proofs.Lists.{figures-at, figures-length}

-- A list of some size that has the figures of g at the places below c.
pub record Filled (g : ℕ → ℕ) (size c : ℕ) (l : List ℕ) : Type 0 where
  pub size_is : length l ≡ size
  pub done : (i : ℕ) → i < c → at l i ≡ g i

pub filled_none : (g : ℕ → ℕ) (l : List ℕ) → Filled g (length l) 0 l
filled_none g l = record { size_is = refl; done = λ i h. absurd (not-suc-le-zero h) }

module _ {g : ℕ → ℕ} {size c : ℕ} {l : List ℕ} where
  -- One more figure.
  pub filled_one : (x : ℕ) → Filled g size c l → c < size → x ≡ g c → Filled g size (c + 1) (set l c x)
  filled_one x f h e =
      rw add-one
      (record { size_is = length-set l c x ∙ f.size_is; done = λ i q. go i (eq-or-lt_of_le (le_of_suc-le-suc q)) })
    where
      go : (i : ℕ) → (i ≡ c) ⊎ (i < c) → at (set l c x) i ≡ g i
      go i (inl q) = rw q (get_or-set_same l c x 0 (omega (arith, f.size_is)) ∙ e)
      go i (inr q) = get_or-set_other l c i x 0 (λ z. omega arith) ∙ f.done i q

  -- A list filled to its end is the list of the figures, by whatever name.
  pub filled_all : (n : ℕ) (f : ℕ → ℕ) → Filled g size c l → size ≡ n → n ≤ c → ((i : ℕ) → i < n → g i ≡ f i) → l ≡ figures n f
  filled_all n f filled s h e =
      ext_get_or 0 l (figures n f) (filled.size_is ∙ s ∙ sym (figures-length n f))
      (λ i q. let m : i < n = omega (arith, filled.size_is) in filled.done i (omega arith) ∙ e i m ∙ sym (figures-at n i f m))

-- A list of zeros has 0 at every place, also past its end.
pub zeros-at : (n i : ℕ) → ◌≡◌ {A = ℕ} (get_or (replicate n 0) i 0) 0
zeros-at zero i = refl
zeros-at (suc n) zero = refl
zeros-at (suc n) (suc i) = zeros-at n i
