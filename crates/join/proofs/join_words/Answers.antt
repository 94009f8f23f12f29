-- `join_words` meets its contract: one law for each of its answers.
use Prim.Native.Nat.{suc, ◌≤◌}
use lib.ListN.{length}
use Rattle.std.proofs.lemmas.Result.{MatchResult-at_err}
use Rattle.rooms.specs.Table.{most_words}
use Rattle.join.proofs.Mapped.{ok_of, err_of, err_passed}
use Rattle.join.proofs.HutLaws.{checked_good, checked_bad, good_hut, hut_small, first_bad, second_bad}
use Rattle.join.proofs.Together.{done_refused, tabled, may_together, done_accepted}
use borrow.Author.Rules.{rules}
use Rattle.join.proofs.join_words.Goals as goal

pub returns-in_err-map_err : goal.returns-in_err-map_err
returns-in_err-map_err c =
    let bad = err_of c.check_bytes.result c.map_err.ensures.variant c.in_err-map_err.was in
    let both = done_refused _ c.check_bytes.new.words (first_bad _ _ _ (checked_bad _ c.check_bytes.ensures.is bad.1)) in
    record {
      answers = err_passed c.from_residual.ensures.1 (MatchResult-at_err _ _ bad.0 bad.1 c.in_err-map_err.ensures.cases) both.0;
      writes = both.1;
    }

pub returns-in_err-map_err-2 : goal.returns-in_err-map_err-2
returns-in_err-map_err-2 c =
    let first = checked_good _ c.check_bytes.ensures.is (ok_of c.check_bytes.result c.map_err.ensures.variant c.in_ok-map_err.was).1 in
    let bad = err_of c.check_bytes-2.result c.map_err-2.ensures.variant c.in_err-map_err-2.was in
    let both = done_refused _ c.check_bytes-2.new.words (second_bad _ _ _ (good_hut _ first) (checked_bad _ c.check_bytes-2.ensures.is bad.1)) in
    record {
      answers = err_passed c.from_residual-in_err-map_err-2.ensures.1 (MatchResult-at_err _ _ bad.0 bad.1 c.in_err-map_err-2.ensures.cases) both.0;
      writes = both.1;
    }

pub hut_in-one-requires : goal.hut_in-one-requires
hut_in-one-requires c = record { good = checked_good _ c.check_bytes.ensures.is (ok_of c.check_bytes.result c.map_err.ensures.variant c.in_ok-map_err.was).1 }

pub hut_in-two-requires : goal.hut_in-two-requires
hut_in-two-requires c = record { good = checked_good _ c.check_bytes-2.ensures.is (ok_of c.check_bytes-2.result c.map_err-2.ensures.variant c.in_ok-map_err-2.was).1 }

pub admit-requires : goal.admit-requires
admit-requires c = record { small = (hut_small c.hut_in-one.ensures.hut, hut_small c.hut_in-two.ensures.hut) }

pub put_together-requires : goal.put_together-requires
put_together-requires c =
    let long : suc most_words ≤ length c.check_bytes-2.new.words = search rules in
    record { may_put = may_together _ _ _ c.hut_in-one.ensures.hut c.hut_in-two.ensures.hut (tabled _ (c.admit.ensures.answers _ _ c.hut_in-one.ensures.hut c.hut_in-two.ensures.hut) c.in_ok-count.was) _ long }

pub returns-clause-writes : goal.returns-clause-writes
returns-clause-writes c =
    done_accepted _ _ _ c.hut_in-one.ensures.hut c.hut_in-two.ensures.hut (tabled _ (c.admit.ensures.answers _ _ c.hut_in-one.ensures.hut c.hut_in-two.ensures.hut) c.in_ok-count.was) _ c.put_together.ensures.writes
