-- `serve_by_division` meets its contract: the watts dealt on the node grow from one quotient of the split to the next.
use mathlib.Core.Path.{refl}
use Rattle.splits.proofs.Serving.{serve_some, dealt_rises}
use Rattle.splits.proofs.serve_by_division.Goals as goal

pub overflow_sub-given : goal.overflow_sub-given
overflow_sub-given c = dealt_rises c.args.amount c.args.whole c.args.weight _ c.requires.may_serve.dealt_is c.quotient-watts.ensures.result

pub returns : goal.returns
returns c = record { served = serve_some _ _ c.args.weight c.args.p c.args.before.now c.args.dealt.now c.requires.may_serve.dealt_is c.quotient-watts.ensures.result refl }
