-- `admit` meets its contract: one law for each of its answers.
use mathlib.Core.Path.{◌≡◌, sym, ap, ◌∙◌}
use native.Mathlib.Omega.{arith}
use Rattle.join.specs.Outcome.{answer_of}
use Rattle.std.proofs.Common.{Ok}
use Rattle.join.proofs.HutLaws.{versions_differ, too_many-nodes, too_many-servers, too_many-cords, table_long, list_short, fits}
use Rattle.join.proofs.admit.Goals as goal

pub returns-then-version-other : goal.returns-then-version-other
returns-then-version-other c = record { answers = λ f s a b. sym (ap answer_of (versions_differ f s _ a b (omega (arith, c.if-version-other.true)))) }

pub returns-then-nodes-gt-MOST_NODES : goal.returns-then-nodes-gt-MOST_NODES
returns-then-nodes-gt-MOST_NODES c = record { answers = λ f s a b. sym (ap answer_of (too_many-nodes f s _ a b (omega (arith, c.if-version-other.false)) (omega (arith, c.if-nodes-gt-MOST_NODES.true)))) }

pub returns-then-servers-gt-MOST_SERVERS : goal.returns-then-servers-gt-MOST_SERVERS
returns-then-servers-gt-MOST_SERVERS c = record { answers = λ f s a b. sym (ap answer_of (too_many-servers f s _ a b (omega (arith, c.if-version-other.false)) (omega (arith, c.if-nodes-gt-MOST_NODES.false)) (omega (arith, c.if-servers-gt-MOST_SERVERS.true)))) }

pub returns-then-cords-gt-MOST_CORDS : goal.returns-then-cords-gt-MOST_CORDS
returns-then-cords-gt-MOST_CORDS c = record { answers = λ f s a b. sym (ap answer_of (too_many-cords f s _ a b (omega (arith, c.if-version-other.false)) (omega (arith, c.if-nodes-gt-MOST_NODES.false)) (omega (arith, c.if-servers-gt-MOST_SERVERS.false)) (omega (arith, c.if-cords-gt-MOST_CORDS.true)))) }

pub returns-then-space-words : goal.returns-then-space-words
returns-then-space-words c = record { answers = λ f s a b. sym (ap answer_of (list_short f s _ a b (omega (arith, c.if-version-other.false)) (omega (arith, c.if-nodes-gt-MOST_NODES.false)) (omega (arith, c.if-servers-gt-MOST_SERVERS.false)) (omega (arith, c.if-cords-gt-MOST_CORDS.false)) (omega (arith, c.if-space-words.true)))) }

pub returns : goal.returns
returns c =
    record {
      answers =
          let same : c.args.one.version ≡ c.args.two.version = omega (arith, c.if-version-other.false) in
          λ f s a b.
          ap Ok (sym (table_long f s c.args.space a b same))
          ∙ sym (ap answer_of (fits f s _ a b same (omega (arith, c.if-nodes-gt-MOST_NODES.false)) (omega (arith, c.if-servers-gt-MOST_SERVERS.false)) (omega (arith, c.if-cords-gt-MOST_CORDS.false)) (omega (arith, c.if-space-words.false))));
    }
