-- The tests of controllers and readings hold exactly where document 02's conditions do: those of finiteness follow from the others.
use mathlib.Core.Path.{◌≡◌, refl, sym, ◌∙◌}
use mathlib.Core.Bool.{Bool, true, false, ◌&&◌, true≢false}
use Prim.Native.Nat.{◌*◌, ◌<◌}
use native.Mathlib.Omega.{arith}
use lib.Dec.{T, lt→ltb, ltb→lt}
use lib.Ieee.{Float, nan, inf, fin, up, down, lt, le}
use lib.Ieee.Bits.{is_true}
use lib.Ieee.Fits.{and_l, and_r}
use lib.Ieee.Positive.{positive, first_pos, positive-finite}
use Rattle.control.specs.declared.AcWatts.{AcWatts}
use Rattle.control.specs.declared.Reading.{Reading}
use Rattle.control.specs.declared.Reading.TheVariants.{Working, Failed}
use Rattle.control.specs.declared.Controller.{Controller}
use Rattle.control.specs.Step.{float0, float1, most_watts, ordered, is_efficiency, in_range, good_controller, good_reading}
use Rattle.control.specs.Promises.{Sound, SoundFigure, SoundReading}
use Rattle.control.proofs.FloatOrder.{from_true, bottomless_up, topless_down, is_finite}

-- ---- Tests

and_true_i : {p q : Bool} → p ≡ true → q ≡ true → p && q ≡ true
and_true_i e f = rw (e, f)

-- ---- Controllers

pub efficiency_positive : (k : Float) → T (is_efficiency k) → T (positive k)
unfolding le lt
efficiency_positive nan h = absurd h
efficiency_positive (inf true) h = absurd h
efficiency_positive (inf false) h = absurd h
efficiency_positive (fin true m e) h = absurd h
efficiency_positive (fin false m e) h =
    let l = ltb→lt (0 * down e) (m * up e * 1) (and_l (lt float0 (fin false m e)) (le (fin false m e) float1) h) in
    let w : 0 < m * up e = omega arith in
    lt→ltb 0 m (first_pos m (up e) w)

pub good_sound : (c : Controller) → good_controller c ≡ true → Sound c
unfolding good_controller
good_sound c good =
    let k = is_efficiency c.k in
    let first = ordered float0 c.low.0 c.cap.0 in
    let second = ordered c.cap.0 c.high.0 most_watts in
    let all = from_true good in
    let is_k = and_l k (first && second) all in
    let rest = and_r k (first && second) all in
    let is_first = and_l first second rest in
    let is_second = and_r first second rest in
    let low-least = and_l (le float0 c.low.0) (le c.low.0 c.cap.0) is_first in
    let low_cap = and_r (le float0 c.low.0) (le c.low.0 c.cap.0) is_first in
    let cap_high = and_l (le c.cap.0 c.high.0) (le c.high.0 most_watts) is_second in
    let high_most = and_r (le c.cap.0 c.high.0) (le c.high.0 most_watts) is_second in
    -- From 0 up nothing is −∞, and from the greatest watts down nothing is +∞.
    let low_up = bottomless_up float0 c.low.0 low-least tt in
    let cap_up = bottomless_up c.low.0 c.cap.0 low_cap low_up in
    let high_up = bottomless_up c.cap.0 c.high.0 cap_high cap_up in
    let high_down = topless_down c.high.0 most_watts high_most tt in
    let cap_down = topless_down c.cap.0 c.high.0 cap_high high_down in
    let low_down = topless_down c.low.0 c.cap.0 low_cap cap_down in
    record {
      k_above = is_true _ (and_l (lt float0 c.k) (le c.k float1) is_k);
      k_most = is_true _ (and_r (lt float0 c.k) (le c.k float1) is_k);
      low-least = is_true _ low-least;
      low_cap = is_true _ low_cap;
      cap_high = is_true _ cap_high;
      high_most = is_true _ high_most;
      k_finite = is_true _ (positive-finite c.k (efficiency_positive c.k is_k));
      low_finite = is_true _ (is_finite c.low.0 low_up low_down);
      cap_finite = is_true _ (is_finite c.cap.0 cap_up cap_down);
      high_finite = is_true _ (is_finite c.high.0 high_up high_down);
    }

pub sound_good : (c : Controller) → Sound c → good_controller c ≡ true
unfolding good_controller
sound_good c s =
    and_true_i (and_true_i s.k_above s.k_most)
    (and_true_i (and_true_i s.low-least s.low_cap) (and_true_i s.cap_high s.high_most))

pub not_good : (c : Controller) → good_controller c ≡ false → Sound c → ⊥
not_good c bad s = true≢false (sym (sound_good c s) ∙ bad)

-- ---- Readings

figure_sound : (watts : AcWatts) → T (in_range watts) → SoundFigure watts
figure_sound watts h =
    let least = and_l (le float0 watts.0) (le watts.0 most_watts) h in
    let most = and_r (le float0 watts.0) (le watts.0 most_watts) h in
    record {
      least = is_true _ least;
      most = is_true _ most;
      is_finite = is_true _ (is_finite watts.0 (bottomless_up float0 watts.0 least tt) (topless_down watts.0 most_watts most tt));
    }

pub good_sound_reading : (reading : Reading) → good_reading reading ≡ true → SoundReading reading
unfolding good_reading
good_sound_reading Failed good = record { figures = λ budget measured e. absurd (no_failed e) }
  where
    no_failed : {budget measured : AcWatts} → Failed ≡ Working budget measured → ⊥
    no_failed e = let z : ◌≡◌ {A = Bool} true false = cc in true≢false z
good_sound_reading (Working budget measured) good =
    let h = from_true good in
    let b = figure_sound budget (and_l (in_range budget) (in_range measured) h) in
    let m = figure_sound measured (and_r (in_range budget) (in_range measured) h) in
    record { figures = λ budget' measured' e. same e b m }
  where
    same : {budget' measured' : AcWatts} → Working budget measured ≡ Working budget' measured' → SoundFigure budget → SoundFigure measured → SoundFigure budget' × SoundFigure measured'
    same {budget'} {measured'} e b m =
        let p : budget ≡ budget' = cc in
        let q : measured ≡ measured' = cc in
        (rw (← p) b, rw (← q) m)

sound_good_reading : (reading : Reading) → SoundReading reading → good_reading reading ≡ true
unfolding good_reading
sound_good_reading Failed s = refl
sound_good_reading (Working budget measured) s =
    let both = s.figures budget measured refl in
    and_true_i (and_true_i both.0.least both.0.most) (and_true_i both.1.least both.1.most)

pub not_good_reading : (reading : Reading) → good_reading reading ≡ false → SoundReading reading → ⊥
not_good_reading reading bad s = true≢false (sym (sound_good_reading reading s) ∙ bad)
