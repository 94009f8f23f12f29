-- Laws of the lesser and the greater of two figures: both lie in a range where these two do, and any number is the lesser of itself and +∞.
use mathlib.Core.Path.{◌≡◌, refl}
use mathlib.Core.Bool.{Bool, true, false, cond, ◌&&◌}
use lib.Dec.{T}
use lib.Ieee.{Float, nan, inf, fin, lt, le}
use lib.Ieee.Fits.{and_i, and_l, and_r}
use Rattle.control.specs.Step.{ordered, lesser_figure}
use Rattle.control.specs.Judged.{greater_figure}
use Rattle.control.proofs.FloatOrder.{real, from_true, le_real, not_lt, le_trans, lt_le}

-- ---- Two figures in a range

module _ (low high : Float) where
  -- Where the lesser is not below the range and the greater not above it, both lie in it.
  between : (x y : Float) → T (le x y) → T (le low x) → T (le y high) → T (ordered low x high) × T (ordered low y high)
  between x y h p q =
      let are_real = le_real x y h in
      (and_i (le low x) (le x high) p (le_trans x y high are_real.1 h q), and_i (le low y) (le y high) (le_trans low x y are_real.0 p h) q)

  -- The test of the two says whether both lie in the range, also of a NaN: that is the one or the other.
  pub range_of_two : (x y : Float) → le low (lesser_figure x y) && le (greater_figure x y) high ≡ ordered low x high && ordered low y high
  range_of_two x y = go (lt y x) refl
    where
      same : (p q : Bool) → (T p → T q) → (T q → T p) → p ≡ q
      same true true f g = refl
      same true false f g = absurd (f tt)
      same false true f g = absurd (g tt)
      same false false f g = refl

      both : Bool
      both = ordered low x high && ordered low y high

      in_x : T both → T (le low x) × T (le x high)
      in_x h = let o = and_l (ordered low x high) (ordered low y high) h in (and_l (le low x) (le x high) o, and_r (le low x) (le x high) o)

      in_y : T both → T (le low y) × T (le y high)
      in_y h = let o = and_r (ordered low x high) (ordered low y high) h in (and_l (le low y) (le y high) o, and_r (le low y) (le y high) o)

      go : (b : Bool) → lt y x ≡ b → le low (cond b y x) && le (cond b x y) high ≡ both
      go true less = same (le low y && le x high) both
          (λ h.
          let o = between y x (lt_le y x (from_true less)) (and_l (le low y) (le x high) h) (and_r (le low y) (le x high) h) in
          and_i (ordered low x high) (ordered low y high) o.1 o.0)
          (λ h. and_i (le low y) (le x high) (in_y h).0 (in_x h).1)
      go false not_less = same (le low x && le y high) both
          (λ h.
          let p = and_l (le low x) (le y high) h in
          let q = and_r (le low x) (le y high) h in
          let o = between x y (not_lt y x (le_real y high q).0 (le_real low x p).1 not_less) p q in
          and_i (ordered low x high) (ordered low y high) o.0 o.1)
          (λ h. and_i (le low x) (le y high) (in_x h).0 (in_y h).1)

-- ---- The lesser of +∞ and a number

pub lesser_infinite : (x : Float) → T (real x) → lesser_figure (inf false) x ≡ x
unfolding lt
lesser_infinite nan h = absurd h
lesser_infinite (inf true) h = refl
lesser_infinite (inf false) h = refl
lesser_infinite (fin s m e) h = refl
