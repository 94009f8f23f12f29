-- `admit` meets its contract: one law for each of its answers.
use mathlib.Core.Path.{◌≡◌, refl, ap, ◌∙◌}
use native.Mathlib.Omega.{arith}
use Rattle.std.proofs.Common.{Ok}
use Rattle.std.proofs.lemmas.Result.{MatchResult-at_ok, MatchResult-at_err}
use Rattle.join.specs.Huts.{HutOf}
use Rattle.join.proofs.Mapped.{ok_of, err_of, err_passed}
use Rattle.join.proofs.HutLaws.{hut-of}
use Rattle.part.proofs.OutcomeLaws.{table_refused, no_nodes, many-nodes, many-servers}
use Rattle.part.proofs.admit.Goals as goal
use Rattle.part.proofs.admit.Goals.{In_ok-hut, then-nodes-eq0-via-then-nodes-eq0, then-nodes-eq0-via-else-nodes-eq0+then-hut-nodes}

hut : (c : In_ok-hut) → HutOf c.args.table.now c.in_ok-hut.hut
hut c =
    let good = ok_of c.examine.result c.map_err.ensures.variant c.in_ok-hut.was in
    let given = MatchResult-at_ok _ _ good.0 good.1 c.in_ok-hut.ensures.cases in
    let is : good.0 ≡ c.in_ok-hut.hut = cc in
    hut-of c.args.table.now c.examine.ensures.is (good.1 ∙ ap Ok is)

pub returns-in_err-hut : goal.returns-in_err-hut
returns-in_err-hut c =
    let bad = err_of c.examine.result c.map_err.ensures.variant c.in_err-hut.was in
    record {
      admits =
          rw (err_passed c.from_residual.ensures.1 (MatchResult-at_err _ _ bad.0 bad.1 c.in_err-hut.ensures.cases) refl)
          (table_refused c.args.table.now c.args.nodes c.args.servers c.args.first c.args.second c.examine.ensures.is bad.1);
    }

pub returns-then-nodes-eq0 : goal.returns-then-nodes-eq0
returns-then-nodes-eq0 c =
    let hut = hut (goal.at.returns-then-nodes-eq0 c).In_ok-hut in
    record {
      admits =
          elim c.then-nodes-eq0.branch [
            | then-nodes-eq0-via-then-nodes-eq0 w ↦ no_nodes c.args.table.now c.args.nodes c.args.servers c.args.first c.args.second hut w.if-nodes-eq0.true
            | then-nodes-eq0-via-else-nodes-eq0+then-hut-nodes w ↦
                many-nodes c.args.table.now c.args.nodes c.args.servers c.args.first c.args.second hut (omega (arith, w.if-nodes-eq0.false)) w.if-hut-nodes.true
          ];
    }

pub returns-then-hut-servers : goal.returns-then-hut-servers
returns-then-hut-servers c =
    record {
      admits =
          many-servers c.args.table.now c.args.nodes c.args.servers c.args.first c.args.second (hut (goal.at.returns-then-hut-servers c).In_ok-hut)
          (omega (arith, c.if-nodes-eq0.false)) c.if-hut-nodes.false c.if-hut-servers.true;
    }

pub admit_cut-requires-clause-hut : goal.admit_cut-requires-clause-hut
admit_cut-requires-clause-hut c = hut (goal.at.admit_cut-requires-clause-hut c).In_ok-hut
