-- The figures that code holds fit their words: every sum over cords is within the sum of all wants.
use mathlib.Core.Path.{◌≡◌, sym, ap, ◌∙◌, subst}
use mathlib.Core.List.{List, []}
use Prim.Native.Nat.{ℕ, ◌+◌, ◌*◌, ◌-◌, ◌≤◌, ◌<◌, ◌^◌}
use native.Mathlib.Nat.{le_trans, le_of_eq, mul-le-mul, mul-le-mul_right}
use native.Mathlib.Numerals.{add-one}
use native.Mathlib.Omega.{arith}
use mathlib.Core.Bool.{Bool, true, false}
use lib.Dec.{eqb}
use lib.ListN.{length, get_or, drop}
use Rattle.figures.specs.Sums.{on, sum}
use Rattle.rooms.specs.Table.{Room, most_watts, most_cords, room_cords}
use Rattle.rooms.specs.Trees.{beneath, sum_beneath}
use Rattle.rooms.specs.Limits.{limit, node_at}
use Rattle.rooms.proofs.Accepted.{Accepted}
use Rattle.figures.proofs.Sums.{up}
use Rattle.figures.specs.Figures.{at, cell, sum_of}
use Rattle.rooms.specs.Cords.{cord_at}
use Rattle.deals.specs.Wants.{needs, first_wants}
use Rattle.rooms.specs.Lists.{lows_of}
use Rattle.deals.specs.Metrics.{Deal, deal_of, at_level, metrics, child_sums, excess}
use Rattle.deals.specs.Dealing.{weight_sum, amount}
use Rattle.deals.specs.SecondDeal.{stranded, first_deal, first_grants, first_used, freed, second_deal, second_wants}
use Rattle.deals.specs.Properties.{request_total, pcapmin_below, most_sum, DealBounded, Bounded}
use Rattle.deals.proofs.Children.{weight_sum_is}
use Rattle.deals.proofs.Requests.{Dealable, deal_beneath, asked, requests_fit, requests_left, asked_wants}
use Rattle.deals.proofs.Equations.{weights, pcapmin_starts, amount-within, weights_asked}
use Rattle.deals.proofs.Computed.{child_sums-at, requests_levels, pcapmin, request, starts_of, amount_of, measured, dealt, Startable}
use Rattle.deals.proofs.Totals.{request_total_is, pcapmin_below_is}
use Rattle.figures.proofs.Lists.{total-sum, sum_most, sum_one_le, sum_of_most}
use Rattle.rooms.proofs.Carried.{carried_most, limit_le}
use Rattle.deals.proofs.BothDeals.{server_facts, cord_facts, carried_by-at, stranded-at, stranded-count, need_le, first_most, first_wants-lows, second_wants-lows, second_wants_wants, room_dealable, first_starts, second_starts}
use Rattle.deals.proofs.RoomDeals.{room_deal, deal_of_is}

on_most : (t : Bool) (a most : ℕ) → a ≤ most → on t a ≤ most
on_most true a most h = h
on_most false a most h = omega arith

-- ---- A deal

-- A figure of the cords that fits in a word of watts, summed over those beneath a node.
pub beneath_most : (d : Deal) → d.cords ≤ most_cords → (n : ℕ) (figure : ℕ → ℕ) → ((c : ℕ) → c < d.cords → figure c ≤ most_watts)
    → deal_beneath d n figure ≤ most_sum
unfolding sum_beneath
beneath_most d few n figure most =
    le_trans
    (sum_most d.cords most_watts _ (λ c l. on_most (beneath d.parent d.nodes n (d.node c)) (figure c) most_watts (most c l)))
    (mul-le-mul_right most_watts few)

module _ (d : Deal) (ok : Dealable d) (few : d.cords ≤ most_cords) (limits : (n : ℕ) → n < d.nodes → d.limit n ≤ most_watts)
    (wants : (c : ℕ) → c < d.cords → d.want c ≤ most_watts) where
  wants_most : (n j : ℕ) → deal_beneath d n (at_level d j d.want) ≤ most_sum
  wants_most n j = beneath_most d few n (at_level d j d.want) (λ c l. on_most (eqb (d.level c) j) (d.want c) most_watts (wants c l))

  pub asked_most : (n j : ℕ) → n < d.nodes → j < d.levels → asked d (request d) n j ≤ most_sum
  asked_most n j l h = le_trans (asked_wants d ok (pcapmin d) (request d) (measured d ok) n j l h) (wants_most n j)

  children_most : (n j : ℕ) → n < d.nodes → j < d.levels → at (child_sums d n (drop (n + 1) (metrics d).requests) d.want) j ≤ most_sum
  unfolding metrics request asked
  children_most n j l h =
      le_trans
      (le_of_eq
      (ap (λ (z : ℕ). at (child_sums d n (drop z (metrics d).requests) d.want) j) (add-one n)
      ∙ child_sums-at d ok.rises n j (metrics d).requests d.want h))
      (asked_most n j l h)

  requests_most : (n : ℕ) → n < d.nodes → sum_of (get_or (metrics d).requests n []) ≤ d.limit n
  unfolding request
  requests_most n l =
      le_trans
      (le_of_eq (total-sum (λ a. a) 0 (get_or (metrics d).requests n []) ∙ ap (λ (k : ℕ). sum k (at (get_or (metrics d).requests n []))) (requests_levels d n l)))
      (requests_fit d ok (pcapmin d) (request d) (measured d ok) n l)

  pub request_most : (n j : ℕ) → n < d.nodes → j < d.levels → cell (metrics d).requests n j ≤ most_watts
  unfolding request
  request_most n j l h =
      le_trans (sum_one_le d.levels j (request d n) h) (le_trans (requests_fit d ok (pcapmin d) (request d) (measured d ok) n l) (limits n l))

  left_most : (n j : ℕ) → n < d.nodes → j < d.levels
      → pcapmin_below d n j + request_total d n (j + 1) ≤ d.limit n
  left_most n j l h =
      let k : ℕ = d.levels - (j + 1) in
      omega (
        arith,
        pcapmin_below_is d n l j (omega arith),
        request_total_is d n l k (j + 1) (omega arith),
        ap (λ (z : ℕ). up k z (request d n)) (add-one j),
        requests_left d ok (pcapmin d) (request d) (measured d ok) n l k j (omega arith),
      )

  module _ (st : Startable d) where
    weights_most : (n j : ℕ) → n < d.nodes → j < d.levels → weight_sum d (metrics d) n j ≤ most_sum
    unfolding weights starts_of request
    weights_most n j l h =
        le_trans (le_of_eq (weight_sum_is d (metrics d) n j))
        (le_trans (weights_asked d ok (pcapmin d) (request d) (measured d ok) (starts_of d) (amount_of d) _ st (dealt d ok) n j l h) (asked_most n j l h))

    amount_most : (n j : ℕ) → n < d.nodes → j < d.levels → amount d (metrics d) (n + 1) n j ≤ excess (metrics d) n j
    unfolding amount_of pcapmin request
    amount_most n j l h =
        le_trans (le_of_eq (ap (λ (z : ℕ). amount d (metrics d) z n j) (add-one n)))
        (amount-within d ok (pcapmin d) (request d) (measured d ok) (starts_of d) (amount_of d) _ st (dealt d ok) n l j h)

    product_most : (n j : ℕ) → n < d.nodes → j < d.levels → amount d (metrics d) (n + 1) n j * weight_sum d (metrics d) n j < 2 ^ 58
    product_most n j l h =
        let a : amount d (metrics d) (n + 1) n j ≤ most_watts = omega (arith, amount_most n j l h, request_most n j l h) in
        omega (arith, mul-le-mul a (weights_most n j l h))

    pub deal_bounded : DealBounded d
    unfolding pcapmin request starts_of
    deal_bounded = record {
      limits = limits;
      wants = wants;
      lows = st.least;
      starts = st.most;
      left = left_most;
      pcapmins = λ n j l h. pcapmin_starts d ok (pcapmin d) (request d) (measured d ok) (starts_of d) (amount_of d) _ st (dealt d ok) n j l h;
      beneath = st.within;
      requests = requests_most;
      children = children_most;
      weights = weights_most;
      amounts = amount_most;
      products = product_most;
    }

-- ---- A plan

module _ (r : Room) (ok : Accepted r) (demands : List ℕ) where
  pub limit_most : (n : ℕ) → n < length r.nodes → limit (node_at r n) ≤ most_watts
  limit_most n l = le_trans (limit_le (node_at r n) (ok.nodes n l).percent_to) (ok.nodes n l).rating_to

  needs_most : (v : ℕ) → v < length r.servers → at (needs r demands) v ≤ most_watts
  needs_most v l = le_trans (need_le r ok demands v l) (server_facts r ok v l).greatest_to

  first_wants_most : (c : ℕ) → c < room_cords r → at (first_wants r demands) c ≤ most_watts
  unfolding first_wants
  first_wants_most c l =
      le_trans (le_of_eq (carried_by-at r (needs r demands) c l))
      (le_trans (carried_most r.scale (cord_at r c).share (at (needs r demands) (cord_at r c).server) ok.scaled.0 (cord_facts r ok c l).3)
      (needs_most (cord_at r c).server (cord_facts r ok c l).0))

  freed_most : freed r demands ≤ most_sum
  unfolding freed
  freed_most =
      le_trans
      (sum_of_most (stranded r (first_grants r demands) (first_used r demands)) most_watts (λ c l.
      let q : c < room_cords r = omega (arith, stranded-length) in
      omega (arith, stranded-at r (first_grants r demands) (first_used r demands) c q, first_most r ok demands c q, first_wants_most c q)))
      (le_trans (le_of_eq (ap (λ (k : ℕ). k * most_watts) stranded-length)) (mul-le-mul_right most_watts ok.few_cords))
    where
      stranded-length : length (stranded r (first_grants r demands) (first_used r demands)) ≡ room_cords r
      stranded-length = stranded-count r (first_grants r demands) (first_used r demands)

  -- A deal by wants at or above the lows that fit their words, from starts that its Requests have room for.
  room_bounded : (starts wants : List ℕ) → ((c : ℕ) → c < room_cords r → at (lows_of r) c ≤ at wants c) → ((c : ℕ) → c < room_cords r → at wants c ≤ most_watts)
      → Startable (room_deal r starts wants) → DealBounded (deal_of r starts wants)
  room_bounded starts wants h most st =
      subst DealBounded (sym (deal_of_is r starts wants)) (deal_bounded (room_deal r starts wants) (room_dealable r ok starts wants h) ok.few_cords limit_most most st)

  pub bounded : Bounded r demands
  unfolding first_deal second_deal
  bounded = record {
    needs = needs_most;
    freed = freed_most;
    first = room_bounded (lows_of r) (first_wants r demands) (first_wants-lows r ok demands) first_wants_most (first_starts r ok demands);
    second = room_bounded (first_used r demands) (second_wants r demands) (second_wants-lows r ok demands)
        (λ c l. le_trans (second_wants_wants r ok demands c l) (first_wants_most c l)) (second_starts r ok demands);
  }
