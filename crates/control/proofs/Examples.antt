-- Steps worked out by hand, and computed from the definitions.
use mathlib.Core.Path.{◌≡◌, refl}
use mathlib.Core.Bool.{true, false}
use mathlib.Core.List.{[], ◌∷◌}
use Prim.Native.Nat.{ℕ}
use Rattle.std.proofs.Common.{Ok}
use lib.IntN.{pos, negsuc}
use lib.Ieee.{Float, fin, binary64, add, sub, mul, lt, le, of_int, of_bits}
use Rattle.control.specs.declared.Reading.{Reading}
use Rattle.control.specs.declared.Reading.TheVariants.{Working, Failed}
use Rattle.control.specs.declared.Controller.{Controller}
use Rattle.control.specs.declared.StepRefusal.TheVariants.{BadController, BadReading}
use Rattle.control.specs.Step.{float0, ac, refused, stepped}
use Rattle.control.specs.Call.{controller_of}

-- 25 × 2 ^ n: 100, 200 and 400 at n = 2, 3 and 4; and other figures that are used below.
abbrev scaled : ℕ → ℕ → Float
scaled m n = fin false m (pos n)

abbrev half : Float
half = fin false 1 (negsuc 0)

abbrev negative0 : Float
negative0 = fin true 0 (pos 0)

abbrev working : Float → Float → Reading
working budget measured = Working (ac budget) (ac measured)

-- A server with a cap of 75 × 4 = 300 W in 100 to 400, and k 0.5.
abbrev server : Controller
server = controller_of (scaled 75 2) half (scaled 25 2) (scaled 25 4)

-- A cord with a budget of 2.9 W and nothing measured.
abbrev cord : Reading
cord = working (of_bits binary64 4613712638259704627) float0

pub record Worked : Type 0 where
  -- Errors 200 − 190 and 200 − 180: (10 × 0.5) × 2 is added to 300.
  least_error : stepped server (working (scaled 25 3) (scaled 95 1) ∷ Failed ∷ working (scaled 25 3) (scaled 45 2) ∷ Failed ∷ [])
      ≡ Ok (controller_of (scaled 155 1) half (scaled 25 2) (scaled 25 4))
  -- An error of 400 − 0 is too much, and one of 0 − 800 too: 300 + 200 and 300 − 400 are cut.
  cut_to_high : stepped server (working (scaled 25 4) float0 ∷ Failed ∷ Failed ∷ Failed ∷ [])
      ≡ Ok (controller_of (scaled 25 4) half (scaled 25 2) (scaled 25 4))
  cut_to_low : stepped server (Failed ∷ Failed ∷ Failed ∷ working float0 (scaled 25 5) ∷ [])
      ≡ Ok (controller_of (scaled 25 2) half (scaled 25 2) (scaled 25 4))
  -- A cord at 0 W works: errors 0 and 200, over two cords.
  no_watts : stepped server (working float0 float0 ∷ working (scaled 25 3) float0 ∷ Failed ∷ Failed ∷ []) ≡ Ok server
  -- (2.9 × 0.05) × 3 is 0.43499999999999994, by the bits of these floats. In another order it would be 0.435 or 0.43500000000000005.
  rounded : stepped (controller_of float0 (of_bits binary64 4587366580439587226) float0 half) (cord ∷ cord ∷ cord ∷ Failed ∷ [])
      ≡ Ok (controller_of (of_bits binary64 4601507883269530582) (of_bits binary64 4587366580439587226) float0 half)
  -- Of the errors −0 and +0 the first is taken: only −0 leaves a cap of −0.
  first_negative : stepped (controller_of negative0 half negative0 half) (working negative0 float0 ∷ working float0 float0 ∷ Failed ∷ Failed ∷ [])
      ≡ Ok (controller_of negative0 half negative0 half)
  first_positive : stepped (controller_of negative0 half negative0 half) (working float0 float0 ∷ working negative0 float0 ∷ Failed ∷ Failed ∷ [])
      ≡ Ok (controller_of float0 half negative0 half)
  -- A k of 0; and 2 ^ 24 = 16,777,216 W.
  no_efficiency : stepped (controller_of (scaled 75 2) float0 (scaled 25 2) (scaled 25 4)) (Failed ∷ Failed ∷ Failed ∷ working (scaled 1 24) float0 ∷ [])
      ≡ refused BadController (controller_of (scaled 75 2) float0 (scaled 25 2) (scaled 25 4))
  watts-above : stepped server (Failed ∷ working float0 float0 ∷ working float0 (scaled 1 24) ∷ working (scaled 1 24) float0 ∷ [])
      ≡ refused (BadReading 2) server

pub worked : Worked
unfolding stepped lt le add sub mul of_int of_bits
worked = record {
  least_error = refl;
  cut_to_high = refl;
  cut_to_low = refl;
  no_watts = refl;
  rounded = refl;
  first_negative = refl;
  first_positive = refl;
  no_efficiency = refl;
  watts-above = refl;
}
