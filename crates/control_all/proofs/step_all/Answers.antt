-- `step_all` meets its contract: lists that fit are stepped, and others are refused.
use Rattle.control_all.proofs.Passes.{test_fitting, pass_done, pass_refused}
use Rattle.control_all.proofs.step_all.Goals as goal

pub step_each-requires : goal.step_each-requires
step_each-requires c = record { fitting_lists = test_fitting _ _ _ _ _ c.fit.ensures.result c.if-not-fit.false }

pub returns : goal.returns
returns c =
    let all = pass_done _ _ _ _ _ c.fit.ensures.result c.if-not-fit.false c.step_each.ensures.controllers c.step_each.ensures.results c.step_each.ensures.result in
    record { answer = all.0; controllers = all.1.0; results = all.1.1 }

pub returns-then-not-fit : goal.returns-then-not-fit
returns-then-not-fit c =
    let all = pass_refused _ _ _ _ _ c.fit.ensures.result c.if-not-fit.true in
    record { answer = all.0; controllers = all.1.0; results = all.1.1 }
