-- `Controller::tally` meets its contract: the controller is judged, and then its four cords, up to the first refusal.
use Rattle.std.proofs.Common.{◌≡◌, length, rules, refl}
use Rattle.std.proofs.lemmas.Result.{err_from_is_err_and}
use lib.Ieee.{nan}
use Rattle.control.specs.declared.Reading.{Reading}
use Rattle.control.specs.declared.Reading.TheVariants.{Working}
use Rattle.control.specs.Step.{ac}
use Rattle.control.proofs.Cords.{judged_four}
use Rattle.control.proofs.Controller.tally.Goals as goal

-- What a reading past the list's end would be.
abbrev past : Reading
past = Working (ac nan) (ac nan)

pub returns-in_err-none : goal.returns-in_err-none
returns-in_err-none c =
    let four : length c.args.readings ≡ 4 = search rules in
    let told = err_from_is_err_and c.from_residual.result c.from_residual.ensures.1 in
    rw (judged_four _ c.args.readings past four, ← c.in_err-none.ensures.result, told.1, told.2) (record { result = refl })

pub returns-in_err-one : goal.returns-in_err-one
returns-in_err-one c =
    let four : length c.args.readings ≡ 4 = search rules in
    let told = err_from_is_err_and c.from_residual-in_err-one.result c.from_residual-in_err-one.ensures.1 in
    rw (judged_four _ c.args.readings past four, ← c.in_ok-none.ensures.result, ← c.in_err-one.ensures.result, told.1, told.2) (record { result = refl })

pub returns-in_err-two : goal.returns-in_err-two
returns-in_err-two c =
    let four : length c.args.readings ≡ 4 = search rules in
    let told = err_from_is_err_and c.from_residual-in_err-two.result c.from_residual-in_err-two.ensures.1 in
    rw (judged_four _ c.args.readings past four, ← c.in_ok-none.ensures.result, ← c.in_ok-one.ensures.result, ← c.in_err-two.ensures.result, told.1, told.2)
    (record { result = refl })

pub returns-in_err-three : goal.returns-in_err-three
returns-in_err-three c =
    let four : length c.args.readings ≡ 4 = search rules in
    let told = err_from_is_err_and c.from_residual-in_err-three.result c.from_residual-in_err-three.ensures.1 in
    rw (
      judged_four _ c.args.readings past four,
      ← c.in_ok-none.ensures.result,
      ← c.in_ok-one.ensures.result,
      ← c.in_ok-two.ensures.result,
      ← c.in_err-three.ensures.result,
      told.1,
      told.2,
    ) (record { result = refl })
