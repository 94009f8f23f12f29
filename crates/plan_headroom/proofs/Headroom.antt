-- What is weighed and shared by lists of a deal is the headroom over that deal.
use mathlib.Core.Path.{◌≡◌, sym, ap, ap₂, ◌∙◌}
use mathlib.Core.List.{List}
use Prim.Native.Nat.{ℕ, ◌+◌, ◌-◌, ◌≤◌, ◌<◌, min}
use native.Mathlib.Omega.{arith}
use lib.ListN.{length}
use lib.Seq.{ext_get_or}
use Rattle.figures.specs.Figures.{at}
use Rattle.figures.proofs.Lists.{figures-length}
use Rattle.rooms.specs.Table.{most_watts}
use Rattle.splits.specs.Split.{part}
use Rattle.deals.specs.Passes.{cord_weight, weight_of}
use Rattle.deals.specs.Metrics.{Deal, deal_from, metrics, over_children}
use Rattle.deals.specs.Headroom.{requests_at, headroom_over}
use Rattle.deals.proofs.Amounts.{ByWeights}
use Rattle.deals.proofs.Headroom.{lent_only}
use Rattle.deals.proofs.Ranks.{dealable}
use Rattle.plan_headroom.specs.Lending.{LendGiven}
use Rattle.plan_headroom.specs.Passes.{LendLists, cords_before, LendWeights, DealtOut}
use Rattle.rooms.specs.Trees.{child_sum}

module _ {parents nodes wants left ceilings limits levels lows starts : List ℕ} (given : LendGiven parents nodes wants left ceilings limits levels lows starts) where
  pub lend_lists : LendLists parents nodes wants ceilings
  lend_lists = record {
    few-nodes = given.lists.of_nodes.few;
    few = given.lists.of_cords.few;
    wants_size = given.lists.of_cords.wants_size;
    ceilings_size = given.ceilings_size;
    rises = given.lists.of_nodes.rises;
    hangs = given.lists.of_cords.hangs;
    within = given.lists.of_cords.within;
    wanted = given.wanted;
    most = given.most;
  }

  pub left_most : (n : ℕ) → n < length parents → at left n ≤ most_watts
  left_most n l = omega (arith, given.left_is n l, given.lists.of_nodes.most n l)

  abbrev the_deal : Deal
  the_deal = deal_from parents limits nodes levels lows starts wants

  module _ {weights wholes headroom : List ℕ} (weighed : LendWeights parents nodes wants ceilings weights wholes)
      (cut : (n : ℕ) → n < length parents → weight_of weights wholes n ≡ weight_of left wholes n) (dealt : DealtOut parents nodes wants ceilings weights wholes headroom) where
    whole_is : (n : ℕ) → n < length parents → at wholes n ≡ over_children the_deal n (weight_of weights wholes) (cord_weight wants ceilings)
    unfolding deal_from
    whole_is n l = weighed.whole n l

    cut_is : (n : ℕ) → n < length parents
        → weight_of weights wholes n ≡ min (at limits n - requests_at (metrics the_deal) n) (over_children the_deal n (weight_of weights wholes) (cord_weight wants ceilings))
    cut_is n l = cut n l ∙ ap₂ min (let e : at left n ≡ at limits n - requests_at (metrics the_deal) n = omega (arith, given.left_is n l) in e) (whole_is n l)

    by_weights : ByWeights the_deal (weight_of weights wholes) (cord_weight wants ceilings) dealt.lends (at headroom)
    unfolding deal_from
    by_weights = record {
      root = dealt.root;
      inner = λ m n l e.
          dealt.inner m n l e
          ∙ ap (λ (z : ℕ). part (dealt.lends n) z (child_sum m (at parents) n (weight_of weights wholes)) (weight_of weights wholes m)) (whole_is n (omega (arith, given.lists.of_nodes.rises m l)));
      leaf = λ c n l e.
          dealt.leaf c n l e
          ∙ ap (λ (z : ℕ). part (dealt.lends n) z (child_sum (length parents) (at parents) n (weight_of weights wholes) + cords_before nodes wants ceilings n c) (cord_weight wants ceilings c))
          (whole_is n (omega (arith, given.lists.of_cords.within c l)));
    }

    pub headroom_is : length headroom ≡ length ceilings → headroom ≡ headroom_over the_deal (at ceilings)
    unfolding deal_from headroom_over
    headroom_is size =
        ext_get_or 0 headroom (headroom_over the_deal (at ceilings)) (size ∙ given.ceilings_size ∙ sym (figures-length (length nodes) _))
        (λ c l. lent_only the_deal (dealable parents limits nodes levels lows starts wants given.lists) (at ceilings) given.wanted (weight_of weights wholes) dealt.lends (at headroom) cut_is by_weights c (omega (arith, size, given.ceilings_size)))
