-- `admit_cut` meets its contract: one law for each of its answers.
use native.Mathlib.Omega.{arith}
use Rattle.part.proofs.OutcomeLaws.{Cutting, words_fit, one_within, both_fit_in, cut_across, cut_first_short, cut_second_short, halved}
use Rattle.part.proofs.admit_cut.Goals as goal
use Rattle.part.proofs.admit_cut.Goals.{After-side_behind-two}

cut : (c : After-side_behind-two) → Cutting c.args.table.now c.args.hut c.args.nodes c.args.servers c.side_before-one.result c.side_behind-two.result
cut c = record {
  good_hut = c.requires.hut;
  some = c.requires.nodes.0;
  few = c.requires.nodes.1;
  few_servers = c.requires.servers;
  one_is = c.side_before-one.ensures.is;
  two_is = c.side_behind-two.ensures.is;
}

pub side_behind-two-requires : goal.side_behind-two-requires
side_behind-two-requires c = record { within = one_within c.requires.hut c.requires.nodes.1 c.requires.servers c.side_before-one.ensures.is }

pub first_across-requires : goal.first_across-requires
first_across-requires c = record { fits = both_fit_in (cut (goal.at.first_across-requires c).After-side_behind-two) }

pub returns-in-Some : goal.returns-in-Some
returns-in-Some c = record { admits = cut_across (cut (goal.at.returns-in-Some c).After-side_behind-two) c.args.first c.args.second c.in-Some.ensures.is }

pub side_words-before-requires : goal.side_words-before-requires
side_words-before-requires c = record { fits = words_fit _ (both_fit_in (cut (goal.at.side_words-before-requires c).After-side_behind-two)).0 }

pub returns-then-first-before : goal.returns-then-first-before
returns-then-first-before c =
    record {
      admits =
          cut_first_short (cut (goal.at.returns-then-first-before c).After-side_behind-two) c.args.first c.args.second c.in_default.ensures.is
          c.side_words-before.ensures.is c.if-first-before.true;
    }

pub side_words-behind-requires : goal.side_words-behind-requires
side_words-behind-requires c = record { fits = words_fit _ (both_fit_in (cut (goal.at.side_words-behind-requires c).After-side_behind-two)).1 }

pub returns-then-second-behind : goal.returns-then-second-behind
returns-then-second-behind c =
    record {
      admits =
          cut_second_short (cut (goal.at.returns-then-second-behind c).After-side_behind-two) c.args.first c.args.second c.in_default.ensures.is
          c.side_words-before.ensures.is (omega (arith, c.if-first-before.false)) c.side_words-behind.ensures.is c.if-second-behind.true;
    }

pub returns : goal.returns
returns c =
    record {
      admits =
          halved (cut (goal.at.returns c).After-side_behind-two) c.args.first c.args.second c.in_default.ensures.is
          c.side_words-before.ensures.is (omega (arith, c.if-first-before.false)) c.side_words-behind.ensures.is (omega (arith, c.if-second-behind.false));
    }
