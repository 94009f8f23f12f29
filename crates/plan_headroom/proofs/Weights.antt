-- The passes of headroom over lists: what each asks, and what it leaves. They are those of a rank, over all nodes and all cords.
use mathlib.Core.Path.{◌≡◌, refl, sym, ap, ap₂, ◌∙◌, subst}
use mathlib.Core.List.{List}
use Prim.Native.Nat.{ℕ, zero, suc, ◌+◌, ◌-◌, ◌*◌, ◌/◌, ◌≤◌, ◌<◌}
use native.Mathlib.Nat.{le_trans, le_of_eq, le_refl, mul-le-mul_right}
use native.Mathlib.Omega.{arith}
use lib.Dec.{eqb}
use lib.ListN.{length, take}
use lib.Seq.{get_or-take, length-take-le}
use Rattle.figures.specs.Sums.{on, sum}
use Rattle.figures.specs.Figures.{at}
use Rattle.figures.proofs.Sums.{sum_cong}
use Rattle.rooms.specs.Table.{most_cords, most_watts}
use Rattle.rooms.specs.Credits.{tree_sum}
use Rattle.rooms.proofs.Trees.{child_sum_cong, child_sum_le, down}
use Rattle.rooms.proofs.Credits.{tree_sum_most, tree_sum_step}
use Rattle.splits.specs.Split.{part}
use Rattle.deals.proofs.Amounts.{child_cords_most}
use Rattle.figures.specs.Places.{Present}
use Rattle.deals.specs.Levels.{ActiveNodes}
use Rattle.deals.proofs.Active.{nodes_front, front_absent}
use Rattle.deals.specs.Passes.{LevelCords, listed_before, over_listed, cord_weight, weight_of, WeightsListed, Weighed, NodesDealt, CordsDealt}
use Rattle.plan_headroom.specs.Passes.{AllPlaces, LendLists, cords_before, LendWeights, DealtOut}
use Rattle.rooms.specs.Trees.{ParentsFirst, child_sum}

module _ {parents nodes wants ceilings all : List ℕ} (lists : LendLists parents nodes wants ceilings) (places : AllPlaces all) where
  abbrev weight : ℕ → ℕ
  weight = cord_weight wants ceilings

  -- ---- All nodes and all cords, listed

  node_stands : (n : ℕ) → n < length parents → at all n ≡ n
  node_stands n l = places.own n (omega (arith, lists.few-nodes))

  few_nodes : length parents ≤ length all
  few_nodes = omega (arith, lists.few-nodes, places.size)

  abbrev active : List ℕ
  active = take (length parents) all

  pub all_nodes : ActiveNodes parents active (length active)
  all_nodes = nodes_front (record {
    few = few_nodes;
    within = λ i h. omega (arith, node_stands i h);
    rises = λ i k h l. omega (arith, node_stands i (omega arith), node_stands k l);
    closed = λ m n l e none.
        let q : n < length parents = omega (arith, lists.rises m l) in
        absurd (none n q (node_stands n q));
  })

  -- Every node is listed, and the front of the list has every cord.
  pub here : (n : ℕ) → n < length parents → Present active (length active) n
  here n l none = front_absent all few_nodes none n l (node_stands n l)

  abbrev listed : List ℕ
  listed = take (length nodes) all

  pub listed_length : length listed ≡ length nodes
  listed_length = length-take-le (length nodes) all (omega (arith, lists.few, places.size))

  listed_at : (i : ℕ) → i < length nodes → at listed i ≡ i
  listed_at i h = get_or-take (length nodes) all i 0 h ∙ places.own i (omega (arith, lists.few))

  listed_within : (i : ℕ) → i < length listed → i < length nodes
  listed_within i h = omega (arith, listed_length)

  -- What holds of every cord holds of every listed one.
  each : (P : ℕ → Type 0) → ((c : ℕ) → c < length nodes → P c) → (i : ℕ) → i < length listed → P (at listed i)
  each P p i h = subst P (sym (listed_at i (listed_within i h))) (p i (listed_within i h))

  all_cords : {count : ℕ} → length parents ≤ count → LevelCords count listed nodes wants ceilings
  all_cords {count} e = record {
    few = omega (arith, listed_length, lists.few);
    starts_size = lists.wants_size;
    wants_size = lists.ceilings_size;
    within = each (λ c. c < length nodes) (λ c l. l);
    rises = λ i k h l. omega (arith, listed_at i (listed_within i (omega arith)), listed_at k (listed_within k l));
    hangs = each (λ c. 1 ≤ at nodes c) lists.hangs;
    there = each (λ c. at nodes c ≤ count) (λ c l. omega (arith, lists.within c l));
    ordered = each (λ c. at wants c ≤ at ceilings c) lists.wanted;
    most = each (λ c. at ceilings c ≤ most_watts) lists.most;
  }

  -- Sums over the list are sums over the cords.
  listed-before : (n i : ℕ) → i ≤ length nodes → listed_before listed nodes weight n i ≡ cords_before nodes wants ceilings n i
  listed-before n i h = sum_cong i _ _ (λ c l. ap (λ (z : ℕ). on (eqb (at nodes z) (suc n)) (weight z)) (listed_at c (omega arith)))

  listed_all : (n : ℕ) → over_listed listed nodes weight n ≡ cords_before nodes wants ceilings n (length nodes)
  listed_all n = ap (listed_before listed nodes weight n) listed_length ∙ listed-before n (length nodes) (le_refl (length nodes))

  -- ---- The weights

  -- What is summed on the nodes are the weights of all cords.
  abbrev pub OnNodes : List ℕ → Type 0
  OnNodes sums = (n : ℕ) → n < length parents → at sums n ≡ over_listed listed nodes weight n

  pub sums_most : (sums : List ℕ) → OnNodes sums → sum (length parents) (at sums) ≤ most_cords * most_watts
  sums_most sums on-nodes =
      le_trans (le_of_eq (sum_cong (length parents) _ _ (λ n l. on-nodes n l ∙ listed_all n)))
      (le_trans (child_cords_most (length parents) (length nodes) (at nodes) lists.hangs lists.within weight most_watts (λ c l. omega (arith, lists.most c l)))
      (mul-le-mul_right most_watts lists.few))

  module _ {left sums left' wholes weights : List ℕ} (g : Weighed parents active (length active) left sums left' wholes weights)
      (left_most : (n : ℕ) → n < length parents → at left n ≤ most_watts) (on-nodes : OnNodes sums) where
    children_are : (n : ℕ) → n < length parents → at wholes n ≡ child_sum (length parents) (at parents) n (weight_of weights wholes) + at sums n
    children_are n l =
        omega (
          arith,
          g.children n l,
          child_sum_cong (length parents) (at parents) n (weight_of left wholes) (weight_of weights wholes) (λ m lm q. sym (g.weights_are m lm)),
        )

    -- No node's children weight more than all cords beneath it.
    wholes_beneath : (n : ℕ) → n < length parents → at wholes n ≤ tree_sum (at parents) (length parents) (at sums) n
    wholes_beneath = down (length parents) (λ n. at wholes n ≤ tree_sum (at parents) (length parents) (at sums) n) (λ n l ih.
        omega (
          arith,
          children_are n l,
          child_sum_le (length parents) (at parents) n (weight_of weights wholes) (tree_sum (at parents) (length parents) (at sums)) (λ m lm q.
              omega (arith, ih m lm (subst (λ (z : ℕ). z ≤ m) q (lists.rises m lm)))),
          tree_sum_step (length parents) (at parents) lists.rises (at sums) n l,
        ))

    pub lend_weights : LendWeights parents nodes wants ceilings weights wholes
    lend_weights = record {
      whole = λ n l. omega (arith, children_are n l, on-nodes n l, listed_all n);
      enough = λ n l. g.listed.within n l (here n l);
      most = λ n l. omega (arith, g.weights_are n l, left_most n l);
      wholes_most = λ n l. omega (arith, wholes_beneath n l, tree_sum_most (length parents) (at parents) (at sums) n, sums_most sums on-nodes);
    }

  -- ---- What is dealt by them

  module _ {weights wholes : List ℕ} (weighed : LendWeights parents nodes wants ceilings weights wholes) where
    pub deal_nodes_asks : length parents ≤ length weights → length wholes ≡ length weights → {size_e size_d : ℕ} → size_e ≡ length weights → size_d ≡ length weights
        → ((length parents ≤ size_e) × (size_d ≡ size_e) × ParentsFirst (length parents) (at parents))
        × (WeightsListed parents active (length active) wholes weights
        × ((n : ℕ) → n < length parents → (weight_of weights wholes n ≤ most_watts) × (at wholes n ≤ most_cords * most_watts) × (child_sum (length parents) (at parents) n (weight_of weights wholes) ≤ at wholes n)))
    deal_nodes_asks sa sw se sd = (
      (omega arith, sd ∙ sym se, lists.rises),
      (
        record {
          nodes = all_nodes;
          wholes_size = omega arith;
          weights_size = sa;
          within = λ n l some. weighed.enough n l;
          idle = λ n l none. absurd (here n l none);
        },
        λ n l. (weighed.most n l, weighed.wholes_most n l, omega (arith, weighed.whole n l)),
      ),
    )

    module _ {amounts before dealt : List ℕ} (nd : NodesDealt parents active (length active) (weight_of weights wholes) wholes amounts before dealt) where
      there : (i n : ℕ) → i < length listed → at nodes (at listed i) ≡ suc n → n < length parents
      there i n h e = omega (arith, each (λ c. at nodes c ≤ length parents) lists.within i h)

      pub deal_cords_asks : {size_t : ℕ} → length parents ≤ length amounts → length wholes ≡ length amounts → length before ≡ length amounts → length dealt ≡ length amounts
          → size_t ≡ length nodes
          → LevelCords (length amounts) listed nodes wants ceilings
          × (((length wholes ≡ length amounts) × (length before ≡ length amounts) × (length dealt ≡ length amounts) × (size_t ≡ length nodes))
          × ((i n : ℕ) → i < length listed → at nodes (at listed i) ≡ suc n → (at amounts n ≤ most_watts) × (at amounts n ≤ at wholes n) × (at wholes n ≤ most_cords * most_watts)
          × (at dealt n ≡ at amounts n * at before n / at wholes n)
          × (at before n + over_listed listed nodes weight n ≤ at wholes n)))
      deal_cords_asks sa sw se sd st = (
        all_cords sa,
        (
          (sw, se, sd, st),
          λ i n h e.
              let l = there i n h e in
              let most = nd.most n l (here n l) in (
                omega (arith, most, weighed.most n l),
                omega (arith, most),
                weighed.wholes_most n l,
                nd.dealt_is n l (here n l),
                omega (arith, nd.served n l (here n l), weighed.whole n l, listed_all n),
              ),
        ),
      )

      module _ {tops tops' : List ℕ} (cd : CordsDealt listed nodes wants ceilings wholes amounts before tops tops') where
        -- A cord's top is its want and its part.
        top_is : (c n : ℕ) → c < length nodes → at nodes c ≡ suc n
            → at tops' c ≡ at wants c + part (at amounts n) (at wholes n) (child_sum (length parents) (at parents) n (weight_of weights wholes) + cords_before nodes wants ceilings n c) (weight c)
        top_is c n l e =
            let q : n < length parents = omega (arith, lists.within c l) in
            let s : at listed c ≡ c = listed_at c l in
            let b : at before n ≡ child_sum (length parents) (at parents) n (weight_of weights wholes) = nd.served n q (here n q) in
            subst
            (λ (h : ℕ). at tops' h ≡ at wants h + part (at amounts n) (at wholes n) (child_sum (length parents) (at parents) n (weight_of weights wholes) + cords_before nodes wants ceilings n c) (weight h)) s
            (cd.ours c n (omega (arith, listed_length)) (ap (at nodes) s ∙ e)
            ∙ ap₂ (λ (a b : ℕ). at wants (at listed c) + part (at amounts n) (at wholes n) (a + b) (weight (at listed c))) b (listed-before n c (omega arith)))

        -- Every cord hangs on some node.
        on-node : (c : ℕ) → c < length nodes → (P : Type 0) → ((n : ℕ) → at nodes c ≡ suc n → P) → P
        on-node c l P f = go (at nodes c) refl
          where
            go : (v : ℕ) → at nodes c ≡ v → P
            go zero e = absurd (omega (arith, lists.hangs c l))
            go (suc n) e = f n e

        pub take_wants_asks : {size : ℕ} → size ≡ length nodes → length tops' ≡ length nodes
            → (length wants ≡ size) × (length tops' ≡ size) × ((c : ℕ) → c < size → at wants c ≤ at tops' c)
        take_wants_asks e st = (
          lists.wants_size ∙ sym e,
          st ∙ sym e,
          λ c h. let l : c < length nodes = omega arith in on-node c l (at wants c ≤ at tops' c) (λ n q. omega (arith, top_is c n l q)),
        )

        pub shared : {headroom : List ℕ} {size : ℕ} → size ≡ length nodes → ((c : ℕ) → c < size → at headroom c ≡ at tops' c - at wants c)
            → DealtOut parents nodes wants ceilings weights wholes headroom
        shared e taken = record {
          lends = at amounts;
          root = λ m l r. nd.root m l (here m l) r;
          inner = λ m n l q. nd.inner m n l (here m l) q;
          leaf = λ c n l q. taken c (omega arith) ∙ omega (arith, top_is c n l q);
        }
