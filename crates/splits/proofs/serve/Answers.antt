-- `serve` meets its contract: all the weight takes all, and any other child is served by a division.
use Rattle.splits.proofs.Serving.{serve_all, all_seen}
use Rattle.splits.proofs.serve.Goals as goal

pub returns-then-has_all : goal.returns-then-has_all
returns-then-has_all c = record { served = serve_all c.args.amount _ _ c.args.p c.args.before.now c.args.dealt.now c.requires.may_serve.room (all_seen c.args.alone _ _ c.has_all.ensures.result c.if-has_all.true) c.all_of-all.ensures.result }
