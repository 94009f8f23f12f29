-- The verdict on a room's grants, from what the passes over its lists give.
use mathlib.Core.Path.{◌≡◌, refl, sym, ap, ap₂, ◌∙◌}
use mathlib.Core.Bool.{Bool, true, false, cond, ◌&&◌}
use mathlib.Core.List.{List, []}
use Prim.Native.Nat.{ℕ, zero, suc, ◌+◌, ◌-◌, ◌≤◌, ◌<◌, min, zero-le}
use native.Mathlib.Numerals.{add-one}
use native.Mathlib.Omega.{arith}
use lib.Dec.{eqb, leb, ltb, leb-zero}
use lib.ListN.{length}
use Rattle.std.specs.Prelude.{Option, None, Some}
use borrow.Author.Tests.{eqb-true, ltb-false}
use Rattle.figures.specs.Figures.{at}
use Rattle.figures.specs.Sums.{on, sum}
use Rattle.figures.proofs.Sums.{on_yes, on_add, sum_cong, sum_add}
use Rattle.rooms.specs.Table.{Room, most_watts, highest_rank, room_cords}
use Rattle.rooms.specs.Limits.{limit, node_at, parent_of, lows_beneath, first_node}
use Rattle.rooms.specs.Lists.{parents_of, limits_of, nodes_of, levels_of, lows_of}
use Rattle.rooms.proofs.Accepted.{Accepted}
use Rattle.rooms.proofs.Credits.{tree_sum_step}
use Rattle.rooms.proofs.Search.{NoneIn, FirstAt, first_node_cong, first_node_none, first_node_first}
use Rattle.deals.specs.Wants.{first_wants}
use Rattle.deals.specs.Metrics.{Deal, deal_from, deal_of}
use Rattle.deals.specs.SecondDeal.{first_deal}
use Rattle.deals.specs.Ways.{cord_beneath, watts_beneath}
use Rattle.deals.specs.Properties as dealing
use Rattle.deals.specs.Judge.{below_low, above_want, over_limit, short_at, short_rank, short_root, highest, at_first, verdict}
use Rattle.deals.specs.declared.Verdict.{Verdict}
use Rattle.deals.specs.declared.Verdict.TheVariants.{Passes, BelowLow, AboveWant, OverLimit, Short}
use Rattle.deals.proofs.Requests.{Dealable, deal_beneath, deal_beneath_unique}
use Rattle.deals.specs.Ranks.{NodeLists}
use Rattle.deals.proofs.RoomDeals.{deal_of_is, parents_of-length, parents_of-at, limits_of-at, nodes_of-length, nodes_of-at}
use Rattle.deals.proofs.BothDeals.{parents_below, lows_under}
use Rattle.deals.proofs.Bounds.{bounded}
use Rattle.deals.proofs.Judged.{at_first_none, at_first_some}
use Rattle.deals.proofs.JudgedTotals.{ltb_both, most_over, most_step, first, first_dealable, short_at_is}
use Rattle.deals.proofs.JudgedTotals as totals
use Rattle.judge_totals.specs.Totals.{Notes, place_of, GrantedCords, over_low, on_node, from_level, over_from, IsMostFrom, less_than, Compared}
use Rattle.judge.specs.Lists.{CordsPass}
use Rattle.rooms.specs.Trees.{beneath, sum_beneath, child_sum}

-- ---- Searches

-- Where a search finds no place, its number is 0; a place that it finds is the first at which the test holds.
pub no_number : {number : ℕ} → None ≡ place_of number → number ≡ 0
no_number {number = zero} e = refl
no_number {number = suc place} e = absurd (cc)

none_found : (count : ℕ) (test : ℕ → Bool) → None ≡ place_of (first_node count 0 test) → NoneIn test 0 (0 + count)
none_found count test e = first_node_none count 0 test (no_number e)

some_found : (count : ℕ) (test : ℕ → Bool) {place : ℕ} → Some place ≡ place_of (first_node count 0 test) → FirstAt test count 0 place
some_found count test {place} e = go (first_node count 0 test) refl e
  where
    go : (number : ℕ) → first_node count 0 test ≡ number → Some place ≡ place_of number → FirstAt test count 0 place
    go zero is e = absurd (cc)
    go (suc found) is e = let same : found ≡ place = cc in first_node_first count 0 test place (is ∙ ap suc same)

highest_cong : (s t : ℕ → Bool) (k : ℕ) → ((j : ℕ) → j < k → s (suc j) ≡ t (suc j)) → highest s k ≡ highest t k
unfolding highest
highest_cong s t zero e = refl
highest_cong s t (suc k) e = ap₂ (λ (x : Bool) (y : ℕ). cond x (suc k) y) (e k (omega arith)) (highest_cong s t k (λ j l. e j (omega arith)))

and_cong : (s t u : Bool) → (s ≡ true → t ≡ u) → s && t ≡ s && u
and_cong true t u e = e refl
and_cong false t u e = refl

-- ---- A room's nodes, as lists

-- The parents of a room's nodes, and what each limit has over the lows beneath it.
pub record RoomNodes (r : Room) (parents spare : List ℕ) : Type 0 where
  pub parents_are : parents ≡ parents_of r
  pub spare_size : length spare ≡ length parents
  pub spare_is : (n : ℕ) → n < length r.nodes → at spare n + lows_beneath r n ≡ at (limits_of r) n

module _ (r : Room) (ok : Accepted r) {parents spare : List ℕ} (lists : RoomNodes r parents spare) where
  nodes_are : length parents ≡ length r.nodes
  nodes_are = ap length lists.parents_are ∙ parents_of-length r

  parent-at : (m : ℕ) → at parents m ≡ parent_of r m
  parent-at m = ap (λ (l : List ℕ). at l m) lists.parents_are ∙ parents_of-at r m

  limit_most : (n : ℕ) → n < length r.nodes → at (limits_of r) n ≤ most_watts
  unfolding first_deal deal_of deal_from
  limit_most n l = (bounded r ok []).first.limits n (omega (arith, parents_of-length r))

  pub node_lists : NodeLists parents spare
  node_lists = record {
    few = omega (arith, nodes_are, ok.few_nodes);
    rises = λ m l. omega (arith, parent-at m, parents_below r ok m (omega (arith, nodes_are)));
    limits_size = lists.spare_size;
    most = λ n l. omega (arith, lists.spare_is n (omega (arith, nodes_are)), limit_most n (omega (arith, nodes_are)));
  }

  -- ---- Cords that pass

  module _ {demands grants : List ℕ} {notes : Notes} (pass : CordsPass r demands grants notes) where
    abbrev nodes : List ℕ
    nodes = nodes_of r

    abbrev levels : List ℕ
    levels = levels_of r

    abbrev lows : List ℕ
    lows = lows_of r

    abbrev wants : List ℕ
    wants = first_wants r demands

    cords_are : length nodes ≡ room_cords r
    cords_are = nodes_of-length r

    -- The first deal.
    abbrev d : Deal
    d = first r ok demands

    abbrev able : Dealable d
    able = first_dealable r ok demands

    want_most : (c : ℕ) → c < room_cords r → at (first_wants r demands) c ≤ most_watts
    unfolding first_deal deal_of deal_from
    want_most c l = (bounded r ok demands).first.wants c (omega (arith, nodes_of-length r))

    least : (c : ℕ) → c < room_cords r → at (lows_of r) c ≤ at grants c
    least c l = ltb-false _ _ (first_node_none (room_cords r) 0 (below_low r grants) pass.none_below c zero-le (omega arith))

    most : (c : ℕ) → c < room_cords r → at grants c ≤ at (first_wants r demands) c
    most c l = ltb-false _ _ (first_node_none (room_cords r) 0 (above_want r demands grants) pass.none_above c zero-le (omega arith))

    pub cord-lists : GrantedCords (length parents) nodes levels lows wants grants
    cord-lists = record {
      few = omega (arith, cords_are, ok.few_cords);
      hangs = λ c l. omega (arith, nodes_of-at r c, able.hangs c (omega (arith, cords_are)));
      within = λ c l. omega (arith, nodes_of-at r c, able.here c (omega (arith, cords_are)), nodes_are);
      ranked = λ c l. able.ranks c (omega (arith, cords_are));
      least = λ c l. least c (omega (arith, cords_are));
      most = λ c l. most c (omega (arith, cords_are));
      wants_most = λ c l. want_most c (omega (arith, cords_are));
    }

    -- ---- Sums on nodes, and beneath them

    on_is : (watts : List ℕ) (f : ℕ → ℕ) → ((c : ℕ) → at watts c ≡ f c) → (j n : ℕ)
        → on_node nodes (from_level levels j (over_low lows watts)) n ≡ child_sum d.cords d.node n (dealing.from_level d j (totals.over_low d able f))
    unfolding on_node
    on_is watts f e j n =
        ap (λ (k : ℕ). sum k (λ c. on (eqb (at nodes c) (suc n)) (from_level levels j (over_low lows watts) c))) cords_are
        ∙ sum_cong (room_cords r) _ _ (λ c l. rw (nodes_of-at r c, e c) refl)

    child_nodes_are : (n : ℕ) (g : ℕ → ℕ) → sum (length parents) (λ m. on (eqb (at parents m) (suc n)) (g m)) ≡ child_sum d.nodes d.parent n g
    child_nodes_are n g =
        ap (λ (k : ℕ). sum k (λ m. on (eqb (at parents m) (suc n)) (g m))) nodes_are
        ∙ sum_cong (length r.nodes) _ _ (λ m l. ap (λ (x : ℕ). on (eqb x (suc n)) (g m)) (parent-at m))

    lows-sum : (n : ℕ) → deal_beneath d n d.low ≡ lows_beneath r n
    unfolding deal_of deal_from sum_beneath
    lows-sum n =
        ap (λ (x : Deal). sum x.cords (λ c. on (beneath x.parent x.nodes n (x.node c)) (x.low c))) (sym (deal_of_is r (lows_of r) (first_wants r demands)))
        ∙ lows_under r ok n

    spare_is : (n : ℕ) → n < length r.nodes → at spare n + deal_beneath d n d.low ≡ limit (node_at r n)
    spare_is n l = omega (arith, lists.spare_is n l, lows-sum n, limits_of-at r n)

    -- The most that the cords of a level and above can have is the most by these lists.
    most_lists : IsMostFrom parents spare nodes levels lows wants (most_over d able)
    most_lists j h n l =
        let inside : n < length r.nodes = omega (arith, nodes_are) in
        let room : d.limit n - deal_beneath d n d.low ≡ at spare n = omega (arith, spare_is n inside) in
        most_step d able j n (omega arith) inside
        ∙ ap₂ min room (ap₂ ◌+◌ (sym (on_is wants d.want (λ c. refl) j n)) (sym (child_nodes_are n (most_over d able j))))

    -- What the grants have over the lows, beneath a node.
    over_is : (j n : ℕ) → n < length r.nodes → over_from parents nodes levels lows grants j n ≡ deal_beneath d n (dealing.from_level d j (totals.over_low d able (at grants)))
    unfolding over_from
    over_is j = deal_beneath_unique d able (dealing.from_level d j (totals.over_low d able (at grants))) (over_from parents nodes levels lows grants j) (λ n l.
        tree_sum_step (length parents) (at parents) node_lists.rises (on_node nodes (from_level levels j (over_low lows grants))) n (omega (arith, nodes_are))
        ∙ ap₂ ◌+◌ (on_is grants (at grants) (λ c. refl) j n) (step n))
      where
        step : (n : ℕ) → child_sum (length parents) (at parents) n (over_from parents nodes levels lows grants j) ≡ child_sum d.nodes d.parent n (over_from parents nodes levels lows grants j)
        step n = child_nodes_are n (over_from parents nodes levels lows grants j)

    -- ---- Nodes

    all_levels : (n : ℕ) (f : ℕ → ℕ) → deal_beneath d n (dealing.from_level d 0 f) ≡ deal_beneath d n f
    unfolding sum_beneath
    all_levels n f = sum_cong d.cords _ _ (λ c l. ap (on (beneath d.parent d.nodes n (d.node c))) (on_yes (leb 0 (d.level c)) (f c) (leb-zero (d.level c))))

    -- What the grants beneath a node come to: what they have over the lows, and the lows.
    over_and_lows : (n : ℕ) → watts_beneath r n (at grants) ≡ deal_beneath d n (totals.over_low d able (at grants)) + deal_beneath d n d.low
    unfolding sum_beneath
    over_and_lows n =
        sum_cong d.cords _ _ (λ c l.
        let e : at grants c ≡ totals.over_low d able (at grants) c + d.low c = omega (arith, least c l) in
        ap (on (cord_beneath r n c)) e ∙ on_add (cord_beneath r n c) (totals.over_low d able (at grants) c) (d.low c))
        ∙ sum_add d.cords (λ c. on (cord_beneath r n c) (totals.over_low d able (at grants) c)) (λ c. on (cord_beneath r n c) (d.low c))

    over-limit : (n : ℕ) → n < length r.nodes → ltb (at spare n) (over_from parents nodes levels lows grants 0 n) ≡ over_limit r grants n
    over-limit n l =
        let over : over_from parents nodes levels lows grants 0 n ≡ deal_beneath d n (totals.over_low d able (at grants))
        = over_is 0 n l ∙ all_levels n (totals.over_low d able (at grants)) in
        let given : over_from parents nodes levels lows grants 0 n + deal_beneath d n d.low ≡ watts_beneath r n (at grants)
        = ap (λ (x : ℕ). x + deal_beneath d n d.low) over ∙ sym (over_and_lows n) in
        sym (ltb_both (at spare n) (over_from parents nodes levels lows grants 0 n) (deal_beneath d n d.low)) ∙ ap₂ ltb (spare_is n l) given

    short-rank : {over : Option ℕ} {short : List ℕ} → Compared parents spare nodes levels lows wants grants over short → over ≡ None
        → (n : ℕ) → n < length r.nodes → parent_of r n ≡ 0 → at short n ≡ short_rank r demands grants n
    unfolding short_rank
    short-rank compared none n l top =
        compared.short_is (most_over d able) most_lists none n (omega (arith, nodes_are))
        ∙ highest_cong (less_than parents nodes levels lows grants (most_over d able) n) (short_at r demands grants n) highest_rank (λ j h.
        let e : suc j - 1 ≡ j = omega arith in
        let less : less_than parents nodes levels lows grants (most_over d able) n (suc j) ≡ ltb (deal_beneath d n (dealing.from_level d j (totals.over_low d able (at grants)))) (most_over d able j n)
        = rw e (ap (λ (x : ℕ). ltb x (most_over d able j n)) (over_is j n l)) in
        less ∙ sym (short_at_is r ok demands grants least n l top j h))

    module _ {over : Option ℕ} {short : List ℕ} (compared : Compared parents spare nodes levels lows wants grants over short) where
      over_found : over ≡ place_of (first_node (length r.nodes) 0 (over_limit r grants))
      over_found =
          compared.over_is
          ∙ ap (λ (k : ℕ). place_of (first_node k 0 (λ n. ltb (at spare n) (over_from parents nodes levels lows grants 0 n)))) nodes_are
          ∙ ap place_of (first_node_cong (length r.nodes) 0 _ _ (λ n l. over-limit n (omega arith)))

      root_found : over ≡ None → {root : Option ℕ} → root ≡ place_of (first_node (length parents) 0 (λ n. eqb (at parents n) 0 && ltb 0 (at short n)))
          → root ≡ place_of (first_node (length r.nodes) 0 (short_root r demands grants))
      root_found none f =
          f ∙ ap (λ (k : ℕ). place_of (first_node k 0 (λ n. eqb (at parents n) 0 && ltb 0 (at short n)))) nodes_are
          ∙ ap place_of (first_node_cong (length r.nodes) 0 _ _ (λ n l.
          ap (λ (x : ℕ). eqb x 0 && ltb 0 (at short n)) (parent-at n)
          ∙ and_cong (eqb (parent_of r n) 0) (ltb 0 (at short n)) (ltb 0 (short_rank r demands grants n))
          (λ t. ap (ltb 0) (short-rank compared none n (omega arith) (eqb-true (parent_of r n) 0 t)))))

      -- ---- The verdict, where no cord fails

      abbrev of_short : Verdict
      of_short = at_first (length r.nodes) 0 (short_root r demands grants) (λ n. Short (suc n) (short_rank r demands grants n)) Passes

      abbrev of_limits : Verdict
      of_limits = at_first (length r.nodes) 0 (over_limit r grants) (λ n. OverLimit (suc n)) of_short

      past_cords : verdict r demands grants ≡ of_limits
      unfolding verdict
      past_cords =
          at_first_none (room_cords r) 0 (below_low r grants) BelowLow (at_first (room_cords r) 0 (above_want r demands grants) AboveWant of_limits)
          (first_node_none (room_cords r) 0 (below_low r grants) pass.none_below)
          ∙ at_first_none (room_cords r) 0 (above_want r demands grants) AboveWant of_limits (first_node_none (room_cords r) 0 (above_want r demands grants) pass.none_above)

      pub is_over : {place : ℕ} → over ≡ Some place → OverLimit (place + 1) ≡ verdict r demands grants
      is_over {place} e =
          ap OverLimit (add-one place)
          ∙ sym (at_first_some (length r.nodes) 0 (over_limit r grants) (λ n. OverLimit (suc n)) of_short place (some_found (length r.nodes) (over_limit r grants) (sym e ∙ over_found)))
          ∙ sym past_cords

      past_limits : over ≡ None → verdict r demands grants ≡ of_short
      past_limits z =
          past_cords
          ∙ at_first_none (length r.nodes) 0 (over_limit r grants) (λ n. OverLimit (suc n)) of_short (none_found (length r.nodes) (over_limit r grants) (sym z ∙ over_found))

      module _ (z : over ≡ None) {root : Option ℕ} (f : root ≡ place_of (first_node (length parents) 0 (λ n. eqb (at parents n) 0 && ltb 0 (at short n)))) where
        pub is-short : {place : ℕ} → root ≡ Some place → {rank : ℕ} → rank ≡ at short place → Short (place + 1) rank ≡ verdict r demands grants
        is-short {place} e {rank = rank} k =
            let first_at = some_found (length r.nodes) (short_root r demands grants) (sym e ∙ root_found z f) in
            let top = eqb-true (parent_of r place) 0 (and_left (eqb (parent_of r place) 0) (ltb 0 (short_rank r demands grants place)) first_at.holds) in
            let is : rank ≡ short_rank r demands grants place = k ∙ short-rank compared z place (omega (arith, first_at.within)) top in
            ap₂ Short (add-one place) is
            ∙ sym (at_first_some (length r.nodes) 0 (short_root r demands grants) (λ n. Short (suc n) (short_rank r demands grants n)) Passes place first_at)
            ∙ sym (past_limits z)
          where
            and_left : (s t : Bool) → s && t ≡ true → s ≡ true
            and_left true t e = refl
            and_left false t e = e

        pub is_passes : root ≡ None → Passes ≡ verdict r demands grants
        is_passes n =
            sym (at_first_none (length r.nodes) 0 (short_root r demands grants) (λ n. Short (suc n) (short_rank r demands grants n)) Passes
            (none_found (length r.nodes) (short_root r demands grants) (sym n ∙ root_found z f)))
            ∙ sym (past_limits z)

-- ---- The verdict, where a cord fails

module _ (r : Room) (demands grants : List ℕ) where
  pub is_below : {cord : ℕ} → Some cord ≡ place_of (first_node (room_cords r) 0 (below_low r grants)) → BelowLow cord ≡ verdict r demands grants
  unfolding verdict
  is_below {cord} b = sym (at_first_some (room_cords r) 0 (below_low r grants) BelowLow _ cord (some_found (room_cords r) (below_low r grants) b))

  pub is_above : {cord : ℕ} → None ≡ place_of (first_node (room_cords r) 0 (below_low r grants))
      → Some cord ≡ place_of (first_node (room_cords r) 0 (above_want r demands grants)) → AboveWant cord ≡ verdict r demands grants
  unfolding verdict
  is_above {cord} z a =
      sym (at_first_some (room_cords r) 0 (above_want r demands grants) AboveWant _ cord (some_found (room_cords r) (above_want r demands grants) a))
      ∙ sym (at_first_none (room_cords r) 0 (below_low r grants) BelowLow _ (none_found (room_cords r) (below_low r grants) z))
