-- Laws of cutting a cap to a range: it lands there, a cap in the range stays, and so does its value where a zero is added first.
use mathlib.Core.Path.{◌≡◌, refl, sym, ap, ◌∙◌, subst}
use mathlib.Core.Logic.{◌⊎◌, inl, inr}
use mathlib.Core.Bool.{Bool, true, false, cond}
use Prim.Native.Nat.{◌*◌}
use native.Mathlib.Nat.{zero-mul, zero-add, add-zero}
use lib.IntN.{pos}
use lib.Dec.{T, eqb→eq}
use lib.Ieee.{Float, nan, inf, fin, Format, binary64, up, down, add, fits, lt, le, eq}
use lib.Ieee.Fits.{and_i}
use lib.Ieee.Scale.{finite}
use Rattle.control.specs.declared.DcWatts.{DcWatts}
use Rattle.control.specs.Step.{float0, dc, ordered, sum, cut}
use Rattle.control.proofs.FloatOrder.{real, le_real, le_refl, not_lt, le_not_lt}
use Rattle.control.proofs.FloatRounding.{zeroed, never_below, plain_zero, add_zero_is}

-- ---- Cutting

-- A number cut to a range lies in it.
pub cut-within : (x low high : DcWatts) → T (real x.0) → T (le low.0 high.0) → T (ordered low.0 (cut x low high).0 high.0)
cut-within x low high p h = go (lt x.0 low.0) (lt high.0 x.0) refl refl
  where
    ends : T (real low.0) × T (real high.0)
    ends = le_real low.0 high.0 h

    go : (a b : Bool) → lt x.0 low.0 ≡ a → lt high.0 x.0 ≡ b → T (ordered low.0 (cond a low.0 (cond b high.0 x.0)) high.0)
    go true b e f = and_i (le low.0 low.0) (le low.0 high.0) (le_refl low.0 ends.0) h
    go false true e f = and_i (le low.0 high.0) (le high.0 high.0) h (le_refl high.0 ends.1)
    go false false e f =
        and_i (le low.0 x.0) (le x.0 high.0) (not_lt x.0 low.0 p ends.0 e) (not_lt high.0 x.0 ends.1 p f)

-- What lies in the range is not cut.
pub cut_in : (x low high : DcWatts) → T (le low.0 x.0) → T (le x.0 high.0) → cut x low high ≡ x
cut_in x low high p q = rw (le_not_lt low.0 x.0 p, le_not_lt x.0 high.0 q)

-- ---- A zero added

-- A zero's sign says nothing in a test.
zero_below : (s : Bool) (z : Float) → lt (float0) z ≡ lt (fin s 0 (pos 0)) z
unfolding lt
zero_below s nan = refl
zero_below s (inf t) = refl
zero_below false (fin t n d) = refl
zero_below true (fin false n d) = simp (zero-mul, zero-add)
zero_below true (fin true n d) = rw (zero-mul (down d)) (sym (never_below (n * up d * 1)))

above_zero : (s : Bool) (z : Float) → lt z (float0) ≡ lt z (fin s 0 (pos 0))
unfolding lt
above_zero s nan = refl
above_zero s (inf t) = refl
above_zero false (fin t n d) = refl
above_zero true (fin false n d) = rw (zero-mul (down d)) (never_below (n * up d * 1))
above_zero true (fin true n d) = simp (zero-mul, add-zero)

-- +0 is not cut where a zero lies in the range.
zero_cut : (s : Bool) (low high : DcWatts) → T (le low.0 (fin s 0 (pos 0))) → T (le (fin s 0 (pos 0)) high.0) → cut (dc float0) low high ≡ dc float0
zero_cut s low high l u =
    rw (zero_below s low.0 ∙ le_not_lt low.0 (fin s 0 (pos 0)) l, above_zero s high.0 ∙ le_not_lt (fin s 0 (pos 0)) high.0 u)

zeros_equal : (s : Bool) → T (eq float0 (fin s 0 (pos 0)))
zeros_equal true = unfold eq in tt
zeros_equal false = unfold eq in tt

-- A zero that fits has one form for each sign.
zero_shape : (f : Format) (x : Float) → T (fits f x) → T (zeroed x) → (s : Bool) × (x ≡ fin s 0 (pos 0))
zero_shape f nan h z = absurd z
zero_shape f (inf s) h z = absurd z
zero_shape f (fin s m e) h z =
    let a : m ≡ 0 = eqb→eq m 0 z in
    let b : e ≡ pos 0 = plain_zero f s e (rw a at h) in
    (s, cc)

-- A cap in the range with a zero added, and cut: that cap; or, where the cap is a zero, a zero.
pub cut_zero_added : (x y low high : DcWatts) → T (fits binary64 x.0) → T (finite x.0) → T (zeroed y.0) → T (le low.0 x.0) → T (le x.0 high.0)
    → (cut (sum x y) low high ≡ x) ⊎ (T (zeroed x.0) × T (eq (cut (sum x y) low high).0 x.0))
cut_zero_added x y low high h p z l u = go (add_zero_is binary64 x.0 y.0 h p z)
  where
    go : (add binary64 x.0 y.0 ≡ x.0) ⊎ (T (zeroed x.0) × (add binary64 x.0 y.0 ≡ float0))
        → (cut (sum x y) low high ≡ x) ⊎ (T (zeroed x.0) × T (eq (cut (sum x y) low high).0 x.0))
    go (inl e) = inl (ap (λ (v : Float). cut (dc v) low high) e ∙ cut_in x low high l u)
    go (inr e) =
        let w = zero_shape binary64 x.0 h e.0 in
        let kept : cut (sum x y) low high ≡ dc float0 = ap (λ (v : Float). cut (dc v) low high) e.1 ∙ zero_cut w.0 low high (rw w.1 at l) (rw w.1 at u) in
        inr (e.0, subst (λ (v : DcWatts). T (eq v.0 x.0)) (sym kept) (rw w.1 (zeros_equal w.0)))
