-- `check_bytes` meets its contract: the words that are loaded decide.
use Rattle.join.proofs.HutLaws.{loaded-checked}
use Rattle.join.proofs.check_bytes.Goals as goal

pub returns : goal.returns
returns c = record { is = loaded-checked _ _ c.load-count.ensures.count c.load-count.ensures.loaded c.requires.deciding c.check.ensures.result }
