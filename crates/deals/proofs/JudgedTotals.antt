-- What the code of Judge goes by: what a tree's cords of a level and above can have, at most, over their lows, adds up over the children,
-- cut at each node to what its limit has over all lows beneath it. At a root it is what the first deal gives them.
use mathlib.Core.Path.{◌≡◌, refl, sym, ap, ap₂, ◌∙◌}
use mathlib.Core.Bool.{Bool, true, false}
use mathlib.Core.List.{List}
use Prim.Native.Nat.{ℕ, suc, ◌+◌, ◌-◌, ◌≤◌, ◌<◌, min}
use native.Mathlib.Omega.{arith}
use lib.Dec.{eqb, leb, ltb}
use lib.ListN.{length}
use borrow.Author.Tests.{ltb-true, ltb-false, lt-ltb, le-ltb}
use Rattle.figures.specs.Figures.{at}
use Rattle.figures.specs.Sums.{on, sum}
use Rattle.figures.proofs.Sums.{on_add, sum_cong, sum_add, sum_up, up, up_cong, up_le}
use Rattle.rooms.specs.Table.{Room, room_cords, highest_rank}
use Rattle.rooms.specs.Trees.{beneath, child_sum, sum_beneath}
use Rattle.rooms.specs.Limits.{limit, parent_of}
use Rattle.rooms.specs.Lists.{lows_of}
use Rattle.rooms.proofs.Accepted.{Accepted}
use Rattle.rooms.proofs.Trees.{child_sum_cong, child_sum_add, sum_beneath_cong}
use Rattle.deals.specs.Metrics.{Deal, metrics, deal_of}
use Rattle.deals.specs.Dealing.{reached, granted}
use Rattle.deals.specs.SecondDeal.{first_deal, first_grants}
use Rattle.deals.specs.Wants.{first_wants}
use Rattle.deals.specs.Ways.{watts_beneath, from_rank}
use Rattle.deals.specs.Judge.{short_at}
use Rattle.deals.specs.Properties.{from_level}
use Rattle.deals.proofs.Requests.{Dealable, deal_beneath, deal_beneath_step, deal_beneath_from, pcapmin_is, pcapmin_all, pcapmin_request, request-total}
use Rattle.deals.proofs.Equations.{grant, granted-total}
use Rattle.deals.proofs.Computed.{pcapmin, request, starts_of, amount_of, measured, dealt, granted-at, Startable}
use Rattle.deals.proofs.RoomDeals.{room_deal, deal_of_is}
use Rattle.deals.proofs.BothDeals.{room_dealable, first_wants-lows, first_starts}
use Rattle.deals.proofs.Promises.{from_rank_level}

-- min of two figures, less a third that both contain.
less_both : (limit below above children : ℕ) → below + above ≤ limit
    → min (limit - below) (children + above) - above ≡ min (limit - (below + above)) children
less_both limit below above children h = omega arith

less_one : (a b c : ℕ) → a + b ≡ c → a ≡ c - b
less_one a b c e = omega arith

-- Whether one figure is less than another does not change where both grow by the same.
pub ltb_both : (a b more : ℕ) → ltb (a + more) (b + more) ≡ ltb a b
ltb_both a b more = go (ltb a b) refl
  where
    go : (t : Bool) → ltb a b ≡ t → ltb (a + more) (b + more) ≡ t
    go true e = lt-ltb (a + more) (b + more) (omega (arith, ltb-true a b e))
    go false e = le-ltb (a + more) (b + more) (omega (arith, ltb-false a b e))

module _ (d : Deal) (ok : Dealable d) where
  -- The watts of each cord over its low.
  abbrev pub over_low : (ℕ → ℕ) → ℕ → ℕ
  over_low f c = f c - d.low c

  -- A figure of the cords is their lows and what it has over them.
  sums_over : (test : ℕ → Bool) (j : ℕ) (f : ℕ → ℕ) → ((c : ℕ) → c < d.cords → d.low c ≤ f c)
      → sum d.cords (λ c. on (test c) (from_level d j f c))
      ≡ sum d.cords (λ c. on (test c) (from_level d j (over_low f) c)) + sum d.cords (λ c. on (test c) (from_level d j d.low c))
  sums_over test j f h =
      sum_cong d.cords _ _ (λ c l.
      let e : f c ≡ over_low f c + d.low c = omega (arith, h c l) in
      ap (on (test c)) (ap (on (leb j (d.level c))) e ∙ on_add (leb j (d.level c)) (over_low f c) (d.low c))
      ∙ on_add (test c) (from_level d j (over_low f) c) (from_level d j d.low c))
      ∙ sum_add d.cords (λ c. on (test c) (from_level d j (over_low f) c)) (λ c. on (test c) (from_level d j d.low c))

  -- The lows beneath a node, from a level on.
  abbrev lows_from : ℕ → ℕ → ℕ
  lows_from j n = deal_beneath d n (from_level d j d.low)

  lows-from : (k j n : ℕ) → j + k ≡ d.levels → n < d.nodes → up k j (pcapmin d n) ≡ lows_from j n
  lows-from k j n e l =
      up_cong k j _ _ (λ i a b. pcapmin_is d ok (pcapmin d) (request d) (measured d ok) i n (omega arith) l) ∙ deal_beneath_from d ok k j n d.low e

  lows-split : (k j n : ℕ) → j + k ≡ d.levels → n < d.nodes → sum j (pcapmin d n) + lows_from j n ≡ deal_beneath d n d.low
  lows-split k j n e l =
      omega (
        arith,
        lows-from k j n e l,
        sum_up k j d.levels (pcapmin d n) e,
        pcapmin_all d ok (pcapmin d) (request d) (measured d ok) n l,
      )

  -- What the cords of a level and above beneath a node can have over their lows, at most.
  unfoldable pub most_over : ℕ → ℕ → ℕ
  most_over j n = up (d.levels - j) j (request d n) - lows_from j n

  most_is : (k j n : ℕ) → j + k ≡ d.levels → n < d.nodes → most_over j n + lows_from j n ≡ up k j (request d n)
  unfolding most_over
  most_is k j n e l =
      let s : d.levels - j ≡ k = omega arith in
      let least : up k j (pcapmin d n) ≤ up k j (request d n)
      = up_le k j _ _ (λ i a b. pcapmin_request d ok (pcapmin d) (request d) (measured d ok) n l i (omega arith)) in
      rw s (omega (arith, least, lows-from k j n e l))

  pub most_step : (j n : ℕ) → j ≤ d.levels → n < d.nodes
      → most_over j n
      ≡ min (d.limit n - deal_beneath d n d.low) (child_sum d.cords d.node n (from_level d j (over_low d.want)) + child_sum d.nodes d.parent n (most_over j))
  most_step j n h l =
      let k : ℕ = d.levels - j in
      let e : j + k ≡ d.levels = omega arith in
      let owns : ℕ = child_sum d.cords d.node n (from_level d j (over_low d.want)) in
      let most-nodes : ℕ = child_sum d.nodes d.parent n (most_over j) in
      let own_split = sums_over (λ c. eqb (d.node c) (suc n)) j d.want ok.wants in
      let nodes-split : child_sum d.nodes d.parent n (λ m. up k j (request d m)) ≡ most-nodes + child_sum d.nodes d.parent n (lows_from j)
      = child_sum_cong d.nodes d.parent n _ _ (λ m lm q. sym (most_is k j m e lm)) ∙ child_sum_add d.nodes d.parent n (most_over j) (lows_from j) in
      let total = request-total d ok (pcapmin d) (request d) (measured d ok) n l k j e in
      let children : child_sum d.nodes d.parent n (λ m. up k j (request d m)) + child_sum d.cords d.node n (from_level d j d.want) ≡ (owns + most-nodes) + lows_from j n
      = omega (arith, own_split, nodes-split, deal_beneath_step d ok n (from_level d j d.low)) in
      let split = lows-split k j n e l in
      let cut = less_both (d.limit n) (sum j (pcapmin d n)) (lows_from j n) (owns + most-nodes) (omega (arith, ok.lows n l, split)) in
      less_one _ _ _ (most_is k j n e l)
      ∙ ap (λ (x : ℕ). x - lows_from j n) (total ∙ ap (min (d.limit n - sum j (pcapmin d n))) children)
      ∙ cut
      ∙ ap (λ (x : ℕ). min (d.limit n - x) (owns + most-nodes)) split

  -- What a root asks for is granted.
  root_granted : Startable d → (n : ℕ) → n < d.nodes → d.parent n ≡ 0 → (k j : ℕ) → j + k ≡ d.levels
      → up k j (request d n) ≡ deal_beneath d n (from_level d j (at (granted d)))
  unfolding grant
  root_granted st n l top k j e =
      granted-total d ok (pcapmin d) (request d) (measured d ok) (starts_of d) (amount_of d) (reached d (metrics d)) st (dealt d ok) n l top k j e
      ∙ sum_beneath_cong d.nodes d.parent d.cords d.node n _ _ (λ c lc. ap (on (leb j (d.level c))) (sym (granted-at d ok c lc)))

  -- A list of watts at or above the lows against the grants, at a root, from a level on: what both have over the lows is compared.
  root_short : Startable d → (n : ℕ) → n < d.nodes → d.parent n ≡ 0 → (j : ℕ) → j ≤ d.levels
      → (watts : ℕ → ℕ) → ((c : ℕ) → c < d.cords → d.low c ≤ watts c)
      → ltb (deal_beneath d n (from_level d j watts)) (deal_beneath d n (from_level d j (at (granted d))))
      ≡ ltb (deal_beneath d n (from_level d j (over_low watts))) (most_over j n)
  unfolding sum_beneath
  root_short st n l top j h watts least =
      let e : j + (d.levels - j) ≡ d.levels = omega arith in
      ap₂ ltb
      (sums_over (λ c. beneath d.parent d.nodes n (d.node c)) j watts least)
      (sym (root_granted st n l top (d.levels - j) j e) ∙ sym (most_is (d.levels - j) j n e l))
      ∙ ltb_both _ (most_over j n) (lows_from j n)

-- ---- The first deal of a room

module _ (r : Room) (ok : Accepted r) (demands : List ℕ) where
  -- The first deal, by functions of place.
  abbrev pub first : Deal
  first = room_deal r (lows_of r) (first_wants r demands)

  pub first_dealable : Dealable first
  first_dealable = room_dealable r ok (lows_of r) (first_wants r demands) (first_wants-lows r ok demands)

  pub short_at_is : (grants : List ℕ) → ((c : ℕ) → c < room_cords r → at (lows_of r) c ≤ at grants c)
      → (n : ℕ) → n < length r.nodes → parent_of r n ≡ 0 → (j : ℕ) → j < highest_rank
      → short_at r demands grants n (suc j)
      ≡ ltb (deal_beneath first n (from_level first j (over_low first first_dealable (at grants)))) (most_over first first_dealable j n)
  unfolding first_grants first_deal
  short_at_is grants least n l top j h =
      let m : min (suc j - 1) highest_rank ≡ j = omega arith in
      let wants = first_wants r demands in
      let from : (watts : List ℕ) → watts_beneath r n (from_rank r (suc j) watts) ≡ deal_beneath first n (from_level first j (at watts))
      = λ watts. from_rank_level r ok (lows_of r) wants (first_wants-lows r ok demands) (first_starts r ok demands) n (suc j) watts
      ∙ ap (λ (i : ℕ). deal_beneath first n (from_level first i (at watts))) m in
      ap₂ ltb (from grants)
      (from (granted (deal_of r (lows_of r) wants)) ∙ ap (λ (x : Deal). deal_beneath first n (from_level first j (at (granted x)))) (deal_of_is r (lows_of r) wants))
      ∙ root_short first first_dealable (first_starts r ok demands) n l top j (omega arith) (at grants) least
