-- Headroom over a deal, where no want is above its cord's ceiling: at every node the Requests of all ranks are within the ceiling, and
-- what a node has over them is no more than its children have together. So all of it is lent, and no ceiling is passed.
use mathlib.Core.Path.{◌≡◌, refl, sym, ap, ap₂, ◌∙◌}
use mathlib.Core.Bool.{Bool}
use mathlib.Core.List.{[], ◌∷◌}
use Prim.Native.Nat.{ℕ, zero, suc, ◌+◌, ◌*◌, ◌-◌, ◌^◌, ◌≤◌, ◌<◌, min}
use native.Mathlib.Nat.{le_trans, le_of_eq, zero-add, add-le-add, mul-le-mul}
use native.Mathlib.Omega.{arith}
use lib.Dec.{eqb, leb, leb-zero}
use Rattle.figures.specs.Figures.{at}
use Rattle.figures.specs.Sums.{on, sum}
use Rattle.figures.proofs.Sums.{on_yes, on_add, sum_cong, sum_add, sum_le, sum_none, sum_up, up}
use Rattle.figures.proofs.Lists.{figures-at}
use Rattle.rooms.specs.Table.{most_watts, most_cords}
use Rattle.rooms.specs.Trees.{beneath, child_sum, sum_beneath}
use Rattle.rooms.proofs.Trees.{child_sum_add, child_sum_cong, child_sum_le, down}
use Rattle.deals.specs.Metrics.{Deal, deal_from, metrics, at_level, over_children}
use Rattle.deals.specs.Dealing.{cord_amount, granted}
use Rattle.deals.specs.Headroom.{ceiling_within, node_ceiling, requests_at, headroom_weight, headroom_over}
use Rattle.deals.specs.Properties.{most_sum, headroom_weights, headroom_at, HeadroomBounded}
use Rattle.deals.proofs.Children.{children-sum}
use Rattle.deals.proofs.Requests.{Dealable, later, deal_beneath, deal_beneath_step, deal_beneath_all, request-total}
use Rattle.deals.proofs.Amounts.{over_children_cong, ByWeights, reached-same, amount_most, reached_most, all_beneath}
use Rattle.deals.proofs.Computed.{pcapmin, request, measured, by_weights, Startable, granted_way, granted_asked}
use Rattle.deals.proofs.Totals.{request_total_is}
use Rattle.deals.proofs.Bounds.{beneath_most}

-- ---- Worked by hand

-- A root with 100 W over a node with 50 W, whose cord wants 10 of 90, and a cord that wants 20 of 60.
abbrev deal_c : Deal
deal_c = deal_from (0 ∷ 1 ∷ []) (100 ∷ 50 ∷ []) (2 ∷ 1 ∷ []) (0 ∷ 0 ∷ []) (0 ∷ 0 ∷ []) (0 ∷ 0 ∷ []) (10 ∷ 20 ∷ [])

abbrev ceiling_c : ℕ → ℕ
ceiling_c = at (90 ∷ 60 ∷ [])

-- The ceilings are cut to the limits, so that the root's 100 − 30 are split by 50 − 10 and 60 − 20. By 90 − 10 the node would be lent 46,
-- and pass its limit.
by_hand : (node_ceiling deal_c ceiling_c 1 ≡ 50)
    × (node_ceiling deal_c ceiling_c 0 ≡ 100)
    × (headroom_weights deal_c ceiling_c 0 ≡ 80)
    × (headroom_at deal_c ceiling_c 0 ≡ 70)
    × (headroom_over deal_c ceiling_c ≡ 35 ∷ 35 ∷ [])
unfolding node_ceiling headroom_weights headroom_at headroom_over deal_from
by_hand = (refl, refl, refl, refl, refl)

-- ---- Sums and cuts

-- A figure in two parts, summed over the places that pass a test.
sum_parted : (k : ℕ) (t : ℕ → Bool) (f g h : ℕ → ℕ) → ((c : ℕ) → c < k → h c ≡ f c + g c)
    → sum k (λ c. on (t c) (h c)) ≡ sum k (λ c. on (t c) (f c)) + sum k (λ c. on (t c) (g c))
sum_parted k t f g h e =
    sum_cong k _ _ (λ c l. ap (λ (z : ℕ). on (t c) z) (e c l) ∙ on_add (t c) (f c) (g c)) ∙ sum_add k (λ c. on (t c) (f c)) (λ c. on (t c) (g c))

-- Of two figures, each cut to a limit, the greater has over the lesser what it had uncut, w, cut to what the limit has over the lesser.
cut_over : (limit a b w c r : ℕ) → w + b ≡ a → c ≡ min limit a → r ≡ min limit b → c - r ≡ min (limit - r) w
cut_over limit a b w c r h e q = omega arith

module _ (d : Deal) (ok : Dealable d) where
  open d use {nodes, parent, limit, cords, node, level, want, levels}

  -- ---- The Requests of all ranks

  abbrev asks : ℕ → ℕ
  asks n = requests_at (metrics d) n

  asks_up : (n : ℕ) → n < nodes → asks n ≡ up levels 0 (request d n)
  asks_up n l = request_total_is d n l levels 0 (zero-add levels)

  -- By the law of totals they are the lesser of the limit and of the children's.
  asks_are : (n : ℕ) → n < nodes → asks n ≡ min (limit n) (over_children d n asks want)
  asks_are n l =
      asks_up n l
      ∙ request-total d ok (pcapmin d) (request d) (measured d ok) n l levels 0 (zero-add levels)
      ∙ ap₂ min
      (let z : limit n - sum 0 (pcapmin d n) ≡ limit n = omega (arith, sum_none (pcapmin d n)) in z)
      (ap₂ ◌+◌
      (child_sum_cong nodes parent n _ _ (λ m lm q. sym (asks_up m lm)))
      (sum_cong cords _ _ (λ c lc. ap (λ (z : ℕ). on (eqb (node c) (suc n)) z) (on_yes (leb 0 (level c)) (want c) (leb-zero (level c))))))

  -- ---- The ceilings

  module _ (ceiling : ℕ → ℕ) where
    -- Steps beyond the nodes change nothing.
    ceiling_steps : (k l n : ℕ) → n < nodes → nodes ≤ n + k → nodes ≤ n + l → ceiling_within d ceiling k n ≡ ceiling_within d ceiling l n
    unfolding ceiling_within
    ceiling_steps zero l n h a b = absurd (omega arith)
    ceiling_steps (suc k) zero n h a b = absurd (omega arith)
    ceiling_steps (suc k) (suc l) n h a b =
        ap (λ (z : ℕ). min (limit n) (z + sum cords (λ c. on (eqb (node c) (suc n)) (ceiling c))))
        (child_sum_cong nodes parent n (ceiling_within d ceiling k) (ceiling_within d ceiling l) (λ m lm q.
        let u : n < m = later d ok m n lm q in
        ceiling_steps k l m lm (omega arith) (omega arith)))

    pub ceiling_is : (n : ℕ) → n < nodes → node_ceiling d ceiling n ≡ min (limit n) (over_children d n (node_ceiling d ceiling) ceiling)
    unfolding node_ceiling ceiling_within
    ceiling_is n l = ceiling_steps nodes (suc nodes) n l (omega arith) (omega arith)

    module _ (most : (c : ℕ) → c < cords → want c ≤ ceiling c) where
      -- Both grow with the children's, so that no node asks for more than its ceiling.
      asked_ceilings : (n : ℕ) → ((m : ℕ) → m < nodes → n < m → asks m ≤ node_ceiling d ceiling m)
          → over_children d n asks want ≤ over_children d n (node_ceiling d ceiling) ceiling
      asked_ceilings n ih =
          add-le-add (child_sum_le nodes parent n _ _ (λ m lm q. ih m lm (later d ok m n lm q))) (child_sum_le d.cords d.node n _ _ (λ c lc q. most c lc))

      asks_within : (n : ℕ) → n < nodes → asks n ≤ node_ceiling d ceiling n
      asks_within = down nodes (λ n. asks n ≤ node_ceiling d ceiling n) (λ n l ih.
          omega (arith, asked_ceilings n ih, ceiling_is n l, asks_are n l))

      -- ---- The weights

      abbrev over : ℕ → ℕ
      over n = node_ceiling d ceiling n - asks n

      abbrev cord_over : ℕ → ℕ
      cord_over c = ceiling c - want c

      weights_are : (n : ℕ)
          → over_children d n over cord_over + (over_children d n asks want) ≡ over_children d n (node_ceiling d ceiling) ceiling
      weights_are n =
          let k : child_sum nodes parent n (node_ceiling d ceiling) ≡ child_sum nodes parent n over + child_sum nodes parent n asks
          = child_sum_cong nodes parent n _ _ (λ m lm q. let z : asks m ≤ node_ceiling d ceiling m = asks_within m lm in omega arith)
          ∙ child_sum_add nodes parent n over asks in
          let o = sum_parted cords (λ c. eqb (node c) (suc n)) cord_over want ceiling (λ c lc. let z : want c ≤ ceiling c = most c lc in omega arith) in
          omega (arith, k, o)

      -- A node's weight is its children's, cut to what its limit has over its Requests.
      weight_is : (n : ℕ) → n < nodes → over n ≡ min (limit n - asks n) (over_children d n over cord_over)
      weight_is n l = cut_over (limit n) _ _ _ _ _ (weights_are n) (ceiling_is n l) (asks_are n l)

      -- So no node weighs more than its children.
      weights_enough : (n : ℕ) → n < nodes → over n ≤ over_children d n over cord_over
      weights_enough n l = omega (arith, weight_is n l)

      -- The headroom is dealt by these weights.
      lent_at : (c : ℕ) → c < cords → at (headroom_over d ceiling) c ≡ cord_amount d (headroom_weight d (metrics d) ceiling) c
      unfolding headroom_over
      lent_at c l = figures-at cords c _ l

      pub lent : ByWeights d over cord_over (headroom_at d ceiling) (at (headroom_over d ceiling))
      unfolding headroom_at
      lent =
          let by = by_weights d ok (headroom_weight d (metrics d) ceiling) in
          record { root = by.root; inner = by.inner; leaf = λ c n l e. lent_at c l ∙ by.leaf c n l e }

      -- Weights that are so cut are these, and what is dealt by them is the headroom.
      module _ (w x y : ℕ → ℕ) (cut : (n : ℕ) → n < nodes → w n ≡ min (limit n - asks n) (over_children d n w cord_over)) (by : ByWeights d w cord_over x y) where
        weights_same : (n : ℕ) → n < nodes → w n ≡ over n
        weights_same = down nodes (λ n. w n ≡ over n) (λ n l ih.
            cut n l ∙ ap (min (limit n - asks n)) (over_children_cong d w over cord_over n (λ m lm q. ih m lm (later d ok m n lm q))) ∙ sym (weight_is n l))

        pub lent_only : (c : ℕ) → c < cords → y c ≡ at (headroom_over d ceiling) c
        lent_only = reached-same d ok w over cord_over x (headroom_at d ceiling) y (at (headroom_over d ceiling)) weights_same by lent

      -- What a node has to lend, its cords have together; it is no more than what its ceiling has over its Requests.
      pub lent-beneath : (n : ℕ) → n < nodes → deal_beneath d n (at (headroom_over d ceiling)) ≡ headroom_at d ceiling n
      lent-beneath n l = sym (all_beneath d ok _ _ _ _ lent weights_enough n l)

      lent_most : (n : ℕ) → n < nodes → headroom_at d ceiling n ≤ node_ceiling d ceiling n - requests_at (metrics d) n
      lent_most = amount_most d ok _ _ _ _ lent weights_enough

      -- A root has all of that.
      pub root_lends : (n : ℕ) → n < nodes → parent n ≡ 0 → deal_beneath d n (at (headroom_over d ceiling)) ≡ node_ceiling d ceiling n - requests_at (metrics d) n
      root_lends n l e = lent-beneath n l ∙ lent.root n l e

      -- ---- With the grants

      module _ (st : Startable d) where
        granted_asks : (n : ℕ) → n < nodes → deal_beneath d n (at (granted d)) ≤ asks n
        granted_asks n l =
            omega (
              arith,
              deal_beneath_all d ok n (at (granted d)),
              sum_le levels (λ j. deal_beneath d n (at_level d j (at (granted d)))) (request d n) (λ j h. granted_asked d ok st n j l h),
              sum_up levels 0 levels (request d n) (zero-add levels),
              sum_none (request d n),
              asks_up n l,
            )

        pub within-limit : (n : ℕ) → n < nodes → deal_beneath d n (λ c. at (granted d) c + at (headroom_over d ceiling) c) ≤ limit n
        unfolding sum_beneath
        within-limit n l =
            omega (
              arith,
              sum_parted cords (λ c. beneath parent nodes n (node c)) (at (granted d)) (at (headroom_over d ceiling)) (λ c. at (granted d) c + at (headroom_over d ceiling) c) (λ c lc. refl),
              granted_asks n l,
              lent-beneath n l,
              lent_most n l,
              asks_within n l,
              ceiling_is n l,
            )

        pub within_ceiling : (c : ℕ) → c < cords → at (granted d) c + at (headroom_over d ceiling) c ≤ ceiling c
        within_ceiling c l =
            omega (arith, (granted_way d ok st).most c l, reached_most d ok _ _ _ _ lent weights_enough c l, most c l)

      -- ---- The figures fit their words

      ceilings_beneath : (n : ℕ) → n < nodes → over_children d n (node_ceiling d ceiling) ceiling ≤ deal_beneath d n ceiling
      ceilings_beneath = down nodes (λ n. over_children d n (node_ceiling d ceiling) ceiling ≤ deal_beneath d n ceiling) (λ n l ih.
          let k : child_sum nodes parent n (node_ceiling d ceiling) ≤ child_sum nodes parent n (λ m. deal_beneath d m ceiling)
          = child_sum_le nodes parent n _ _ (λ m lm q. le_trans (omega (arith, ceiling_is m lm)) (ih m lm (later d ok m n lm q))) in
          omega (arith, deal_beneath_step d ok n ceiling))

      module _ (few : cords ≤ most_cords) (limits : (n : ℕ) → n < nodes → limit n ≤ most_watts) (ceilings : (c : ℕ) → c < cords → ceiling c ≤ most_watts) where
        children_most : (n : ℕ) → n < nodes → over_children d n (node_ceiling d ceiling) ceiling ≤ most_sum
        children_most n l = le_trans (ceilings_beneath n l) (beneath_most d few n ceiling ceilings)

        weights_sum : (n : ℕ) → headroom_weights d ceiling n ≡ over_children d n over cord_over
        unfolding headroom_weights
        weights_sum n = children-sum d n (headroom_weight d (metrics d) ceiling)

        weights_most : (n : ℕ) → n < nodes → headroom_weights d ceiling n ≤ most_sum
        weights_most n l = omega (arith, weights_sum n, weights_are n, children_most n l)

        product_most : (n : ℕ) → n < nodes → headroom_at d ceiling n * headroom_weights d ceiling n < 2 ^ 58
        product_most n l =
            let a : headroom_at d ceiling n ≤ most_watts = omega (arith, lent_most n l, ceiling_is n l, limits n l) in
            omega (arith, mul-le-mul a (weights_most n l))

        pub headroom_bounded : HeadroomBounded d ceiling
        headroom_bounded = record {
          ceilings = ceilings;
          wants = most;
          limits = λ n l. omega (arith, ceiling_is n l);
          requests = asks_within;
          children = children_most;
          enough = λ n l. le_trans (weights_enough n l) (le_of_eq (sym (weights_sum n)));
          weights = weights_most;
          amounts = lent_most;
          products = product_most;
        }
