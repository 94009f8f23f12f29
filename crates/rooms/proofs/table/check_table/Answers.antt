-- `check_table` tells the whole table: version, nodes, servers and the end; and credits the lows of its cords.
use mathlib.Core.Path.{sym, ap, ◌∙◌}
use Prim.Native.Nat.{ℕ, ◌≤◌}
use native.Mathlib.Omega.{arith}
use lib.ListN.{get_or}
use Rattle.rooms.specs.Table.{most_nodes, most_servers, form_of, table}
use Rattle.rooms.proofs.Steps.{passed_on, known, stop, pass, pass_known, pass_word, left_over, ended, gives, word-told, word_most}
use Rattle.figures.proofs.Credits.{sum_zeros}
use Rattle.rooms.proofs.CreditTurns.{stopped}
use Rattle.rooms.proofs.Found.{table_credits}
use Rattle.rooms.proofs.Whole.{form_scale}
use Rattle.rooms.proofs.table.check_table.Goals as goal

pub returns-in_err-version : goal.returns-in_err-version
unfolding table
returns-in_err-version c =
    let both = stopped _ _ (stop _ _ _ _ c.in_err-version.ensures.result) in
    record { result = passed_on c.from_residual.ensures.1 both.0; credited = both.1 }

pub returns-in_err-node_count : goal.returns-in_err-node_count
unfolding table
returns-in_err-node_count c =
    let both = stopped _ _
    (pass_word _ _ _ c.in_ok-version.ensures.result
    (stop _ _ _ _ c.in_err-node_count.ensures.result)) in
    record { result = passed_on c.from_residual-in_err-node_count.ensures.1 both.0; credited = both.1 }

pub check_nodes-requires : goal.check_nodes-requires
check_nodes-requires c =
    let node-count_most : c.in_ok-node_count.node_count ≤ most_nodes = word_most _ _ _ _ c.in_ok-node_count.ensures.result in
    record { count = node-count_most }

pub returns-in_err-at_servers : goal.returns-in_err-at_servers
unfolding table
returns-in_err-at_servers c =
    let both = stopped _ _
    (pass_word _ _ _ c.in_ok-version.ensures.result
    (pass_word _ _ _ c.in_ok-node_count.ensures.result
    (stop _ _ _ _ (rw c.has_percents.ensures.result at c.in_err-at_servers.ensures.result)))) in
    record { result = passed_on c.from_residual-in_err-at_servers.ensures.1 both.0; credited = both.1 }

pub returns-in_err-server_count : goal.returns-in_err-server_count
unfolding table
returns-in_err-server_count c =
    let both = stopped _ _
    (pass_word _ _ _ c.in_ok-version.ensures.result
    (pass_word _ _ _ c.in_ok-node_count.ensures.result
    (pass_known _ _ _ _ (known _ _ (rw c.has_percents.ensures.result at c.in_ok-at_servers.ensures.result))
    (stop _ _ _ _ c.in_err-server_count.ensures.result)))) in
    record { result = passed_on c.from_residual-in_err-server_count.ensures.1 both.0; credited = both.1 }

pub invariant_of-bounds : goal.invariant_of-bounds
invariant_of-bounds c = record { scaled = rw c.scale_of-scale.ensures.result (form_scale _) }

pub check_servers-requires : goal.check_servers-requires
check_servers-requires c =
    let node-count_most : c.in_ok-node_count.node_count ≤ most_nodes = word_most _ _ _ _ c.in_ok-node_count.ensures.result in
    let server-count_most : c.in_ok-server_count.server_count ≤ most_servers = word_most _ _ _ _ c.in_ok-server_count.ensures.result in
    record {
      in_range = (
        omega (arith, node-count_most, c.requires.zeros.0),
        omega (arith, server-count_most, sum_zeros c.in_ok-node_count.node_count c.args.sums.now c.requires.zeros.1),
      );
    }

pub returns-in_err-cords : goal.returns-in_err-cords
unfolding table
returns-in_err-cords c =
    let both = stopped _ _
    (pass_word _ _ _ c.in_ok-version.ensures.result
    (pass_word _ _ _ c.in_ok-node_count.ensures.result
    (pass_known _ _ _ _ (known _ _ (rw c.has_percents.ensures.result at c.in_ok-at_servers.ensures.result))
    (pass_word _ _ _ c.in_ok-server_count.ensures.result
    (stop _ _ _ _ (rw c.scale_of-scale.ensures.result at c.in_err-cords.ensures.result)))))) in
    record { result = passed_on c.from_residual-in_err-cords.ensures.1 both.0; credited = both.1 }

pub returns-then-next-w : goal.returns-then-next-w
unfolding table
returns-then-next-w c =
    let both = stopped _ _
    (pass_word _ _ _ c.in_ok-version.ensures.result
    (pass_word _ _ _ c.in_ok-node_count.ensures.result
    (pass_known _ _ _ _ (known _ _ (rw c.has_percents.ensures.result at c.in_ok-at_servers.ensures.result))
    (pass_word _ _ _ c.in_ok-server_count.ensures.result
    (pass _ _ _ _ (rw c.scale_of-scale.ensures.result at c.in_ok-cords.ensures.result) (λ servers is cords.
    left_over _ _ _ _ c.if-next-w.true)))))) in
    record { result = both.0; credited = both.1 }

pub returns : goal.returns
unfolding table
returns c =
    let server-count_most : c.in_ok-server_count.server_count ≤ most_servers = word_most _ _ _ _ c.in_ok-server_count.ensures.result in
    let version_told = word-told _ _ _ _ c.in_ok-version.ensures.result in
    let count-told = word-told _ _ _ _ c.in_ok-node_count.ensures.result in
    let third = word-told _ _ _ _ c.in_ok-server_count.ensures.result in
    let read = known _ _ c.in_ok-at_servers.ensures.result in
    record {
      result =
          pass_word _ _ _ c.in_ok-version.ensures.result
          (pass_word _ _ _ c.in_ok-node_count.ensures.result
          (pass_known _ _ _ _ (known _ _ (rw c.has_percents.ensures.result at c.in_ok-at_servers.ensures.result))
          (pass_word _ _ _ c.in_ok-server_count.ensures.result
          (pass _ _ _ _ (rw c.scale_of-scale.ensures.result at c.in_ok-cords.ensures.result) (λ servers is cords.
          ended _ _ _ _ c.if-next-w.false (gives _ _ _ (sym cords)))))));
      credited = table_credits _
          (c.has_percents.ensures.result ∙ ap (λ (v : ℕ). (form_of v).percents) version_told.0)
          (c.scale_of-scale.ensures.result ∙ ap (λ (v : ℕ). (form_of v).scale) version_told.0)
          (count-told.0 ∙ ap (λ (k : ℕ). get_or c.args.w.now k 0) version_told.1)
          (count-told.1 ∙ omega (arith, version_told.1)) read.is third.0 third.1 server-count_most c.check_servers.ensures.credited;
    }
