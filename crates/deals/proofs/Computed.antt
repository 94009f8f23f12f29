-- The computed metrics and grants meet the deal's equations, so that what follows from these holds of the computed grants.
use mathlib.Core.Path.{◌≡◌, refl, sym, ap, ◌∙◌, subst}
use mathlib.Core.List.{List, [], ◌∷◌}
use Prim.Native.Nat.{ℕ, zero, suc, ◌+◌, ◌-◌, ◌≤◌, ◌<◌, min}
use native.Mathlib.Nat.{le_refl, le_trans, le_of_eq, zero-add, add_comm, not-suc-le-zero, le_of_suc-le-suc}
use native.Mathlib.Omega.{arith}
use lib.Dec.{eqb, leb}
use lib.ListN.{length, get_or, drop}
use lib.Seq.{drop-cons, drop-drop, get_or-drop}
use borrow.Author.Tests.{eq-eqb}
use Rattle.figures.specs.Sums.{on, sum}
use Rattle.figures.proofs.Sums.{on_yes, up}
use Rattle.figures.specs.Figures.{at, cell, sum_of}
use Rattle.deals.specs.Metrics.{Deal, at_level, over_children, child_sums, sums_from, requests_above, requests_from, metrics}
use Rattle.deals.specs.Dealing.{Child, node, cord, weight, cord_over, by_number, part_of, node_amount, cord_amount, amount, reached, granted}
use Rattle.splits.specs.Split.{part}
use Rattle.deals.specs.Properties.{GivesAll, from_level}
use Rattle.figures.proofs.Lists.{figures-at, figures-length, total-drop}
use Rattle.deals.proofs.Rows.{IsRow}
use Rattle.deals.proofs.Children.{part_of-node, part_of-cord}
use Rattle.deals.proofs.Requests.{Dealable, WholeWay, TreeWay, Measured, asked, later, deal_beneath, pcapmin_request}
use Rattle.deals.proofs.Amounts.{ByWeights}
use Rattle.deals.proofs.Equations.{Starting, Dealt, weights, grant, amount-weight, gives_all, granted-beneath, granted_request, reached_over, ours, most_above}
use Rattle.rooms.specs.Trees.{child_sum, ParentsFirst}
use Rattle.rooms.proofs.Trees.{sum_beneath_cong, child_sum_cong}

-- ---- The rows of the nodes, from the last to the first

module _ (d : Deal) where
  -- No child stands before its parent: the rows after a node have all of its child nodes.
  pub child_sums-at : ParentsFirst d.nodes d.parent → (n j : ℕ) (l : List (List ℕ)) (w : ℕ → ℕ) → j < d.levels
      → at (child_sums d n (drop (suc n) l) w) j ≡ over_children d n (λ m. cell l m j) (at_level d j w)
  unfolding child_sums
  child_sums-at rises n j l w q =
      figures-at d.levels j _ q
      ∙ ap (λ (z : ℕ). z + child_sum d.cords d.node n (at_level d j w))
      (child_sum_cong d.nodes d.parent n (λ m. cell (drop (suc n) l) (m - suc n) j) (λ m. cell l m j) (λ m lm e.
      let after : suc n + (m - suc n) ≡ m = omega (arith, rises m lm) in
      ap (λ (row : List ℕ). at row j) (get_or-drop (suc n) l (m - suc n) [] ∙ ap (λ (k : ℕ). get_or l k []) after)))

  sums_from-at : (w : ℕ → ℕ) (k a i n : ℕ) → a + i ≡ n → i < k
      → get_or (sums_from d w k a) i [] ≡ child_sums d n (drop (suc i) (sums_from d w k a)) w
  unfolding sums_from
  sums_from-at w zero a i n e h = absurd (not-suc-le-zero h)
  sums_from-at w (suc k) a zero n e h =
      ap (λ (z : ℕ). child_sums d z (sums_from d w k (suc a)) w) (let q : a ≡ n = omega arith in q)
  sums_from-at w (suc k) a (suc i) n e h = sums_from-at w k (suc a) i n (omega arith) (le_of_suc-le-suc h)

  -- The rows of a figure of the cords, by the children's.
  sums_at : ParentsFirst d.nodes d.parent → (w : ℕ → ℕ) (n j : ℕ) → n < d.nodes → j < d.levels
      → cell (sums_from d w d.nodes 0) n j ≡ over_children d n (λ m. cell (sums_from d w d.nodes 0) m j) (at_level d j w)
  sums_at rises w n j l h =
      ap (λ (z : List ℕ). at z j) (sums_from-at w d.nodes 0 n n (zero-add n) l)
      ∙ child_sums-at rises n j (sums_from d w d.nodes 0) w h

  -- A node's row of Requests, by the rows after it.
  request_row : List (List ℕ) → ℕ → List (List ℕ) → List ℕ
  request_row pp n rows = requests_above d.levels 0 (d.limit n) 0 (cell pp n) (at (child_sums d n rows d.want))

  requests_from-at : (pp : List (List ℕ)) (k a i n : ℕ) → a + i ≡ n → i < k
      → get_or (requests_from d pp k a) i [] ≡ request_row pp n (drop (suc i) (requests_from d pp k a))
  unfolding requests_from request_row
  requests_from-at pp zero a i n e h = absurd (not-suc-le-zero h)
  requests_from-at pp (suc k) a zero n e h = ap (λ (z : ℕ). request_row pp z (requests_from d pp k (suc a))) (let q : a ≡ n = omega arith in q)
  requests_from-at pp (suc k) a (suc i) n e h = requests_from-at pp k (suc a) i n (omega arith) (le_of_suc-le-suc h)

-- ---- One row of Requests

module _ (mm limit : ℕ) (p s : ℕ → ℕ) where
  row : List ℕ
  row = requests_above mm 0 limit 0 p s

  requests_above-length : (k j lower : ℕ) → length (requests_above k j limit lower p s) ≡ k
  unfolding requests_above
  requests_above-length zero j lower = refl
  requests_above-length (suc k) j lower = ap suc (requests_above-length k (suc j) (lower + p j))

  row_drop : (j k : ℕ) → j + k ≡ mm → drop j row ≡ requests_above k j limit (sum j p) p s
  unfolding row requests_above sum
  row_drop zero k e = ap (λ (z : ℕ). requests_above z 0 limit 0 p s) (let q : mm ≡ k = omega arith in q)
  row_drop (suc j) k e =
      ap (λ (z : ℕ). drop z row) (let q : suc j ≡ j + 1 = omega arith in q) ∙ sym (drop-drop 1 j row) ∙ ap (drop 1) (row_drop j (suc k) (omega arith))

  -- The computed row is the row by its rule.
  row_is : IsRow mm limit p s (at row)
  unfolding row requests_above
  row_is k j e =
      let len : length row ≡ mm = requests_above-length mm 0 0 in
      let a : drop j row ≡ requests_above (suc k) j limit (sum j p) p s = row_drop j (suc k) (omega arith) in
      let c : drop j row ≡ at row j ∷ drop (suc j) row = drop-cons row j 0 (omega arith) in
      ap (λ (l : List ℕ). at l 0) (sym c ∙ a)
      ∙ ap (λ (z : ℕ). min (limit - z - sum j p) (s j))
      (ap (λ (l : List ℕ). sum_of (drop 1 l)) (sym a ∙ c) ∙ total-drop (λ a. a) 0 row k (suc j) (omega arith))

row_cong : (mm limit : ℕ) (p s q r : ℕ → ℕ) → ((j : ℕ) → j < mm → s j ≡ q j) → IsRow mm limit p s r → IsRow mm limit p q r
row_cong mm limit p s q r e row k j h = row k j h ∙ ap (λ (z : ℕ). min (limit - up k (suc j) r - sum j p) z) (e j (omega arith))

-- ---- The dealing

by_number_zero : (v a : ℕ) (f : ℕ → ℕ) → v ≡ 0 → by_number v a f ≡ a
by_number_zero v a f e = ap (λ (z : ℕ). by_number z a f) e

by_number_suc : (v a : ℕ) (f : ℕ → ℕ) (n : ℕ) → v ≡ suc n → by_number v a f ≡ f n
by_number_suc v a f n e = ap (λ (z : ℕ). by_number z a f) e

-- Pcapmin, Request, starts and amount of a deal, as functions of place and level.
unfoldable pub pcapmin : Deal → ℕ → ℕ → ℕ
pcapmin d = cell (metrics d).pcapmins

unfoldable pub request : Deal → ℕ → ℕ → ℕ
request d = cell (metrics d).requests

unfoldable pub starts_of : Deal → ℕ → ℕ → ℕ
starts_of d = cell (metrics d).starts

unfoldable pub amount_of : Deal → ℕ → ℕ → ℕ
amount_of d m j = amount d (metrics d) (suc m) m j

-- Each row has a place for each level.
sums_levels : (d : Deal) (w : ℕ → ℕ) (n : ℕ) → n < d.nodes → length (get_or (sums_from d w d.nodes 0) n []) ≡ d.levels
unfolding child_sums
sums_levels d w n l = ap length (sums_from-at d w d.nodes 0 n n (zero-add n) l) ∙ figures-length d.levels _

pub pcapmins_levels : (d : Deal) (n : ℕ) → n < d.nodes → length (get_or (metrics d).pcapmins n []) ≡ d.levels
unfolding metrics
pcapmins_levels d = sums_levels d d.low

pub starts_levels : (d : Deal) (n : ℕ) → n < d.nodes → length (get_or (metrics d).starts n []) ≡ d.levels
unfolding metrics
starts_levels d = sums_levels d d.start

pub requests_levels : (d : Deal) (n : ℕ) → n < d.nodes → length (get_or (metrics d).requests n []) ≡ d.levels
unfolding metrics request_row
requests_levels d n l =
    ap length (requests_from-at d (sums_from d d.low d.nodes 0) d.nodes 0 n n (zero-add n) l)
    ∙ requests_above-length d.levels (d.limit n) _ _ d.levels 0 0

module _ (d : Deal) (ok : Dealable d) where
  pub measured : Measured d (pcapmin d) (request d)
  unfolding pcapmin request metrics request_row asked row
  measured = record {
    lowest = sums_at d ok.rises d.low;
    request = λ n l.
        let rows : List (List ℕ) = requests_from d (sums_from d d.low d.nodes 0) d.nodes 0 in
        let sums : List ℕ = child_sums d n (drop (suc n) rows) d.want in
        row_cong d.levels (d.limit n) (pcapmin d n) (at sums) (asked d (request d) n) (request d n)
        (λ j h. child_sums-at d ok.rises n j rows d.want h)
        (subst (λ (z : List ℕ). IsRow d.levels (d.limit n) (pcapmin d n) (at sums) (at z))
        (sym (requests_from-at d (sums_from d d.low d.nodes 0) d.nodes 0 n n (zero-add n) l))
        (row_is d.levels (d.limit n) (pcapmin d n) (at sums)));
  }

  -- The amounts by any weights meet their equations.
  module _ (w : Child → ℕ) where
    -- What the node at place m has of its parent's amount z.
    node_part : ℕ → ℕ → ℕ → ℕ
    node_part m n z = part_of d w n z (node m)

    -- Steps beyond the node's place change nothing.
    amount_steps : (k l m : ℕ) → m < d.nodes → m < k → m < l → node_amount d w k m ≡ node_amount d w l m
    unfolding node_amount node_part
    amount_steps zero l m h a b = absurd (not-suc-le-zero a)
    amount_steps (suc k) zero m h a b = absurd (not-suc-le-zero b)
    amount_steps (suc k) (suc l) m h a b = go (d.parent m) refl (λ n. amount_steps k l n)
      where
        go : (v : ℕ) → d.parent m ≡ v
            → ((n : ℕ) → n < d.nodes → n < k → n < l → node_amount d w k n ≡ node_amount d w l n)
            → node_amount d w (suc k) m ≡ node_amount d w (suc l) m
        go zero e ih = by_number_zero (d.parent m) _ _ e ∙ sym (by_number_zero (d.parent m) _ _ e)
        go (suc n) e ih =
            let u : n < m = later d ok m n h e in
            by_number_suc (d.parent m) _ _ n e ∙ ap (node_part m n) (ih n (omega arith) (omega arith) (omega arith))
            ∙ sym (by_number_suc (d.parent m) _ _ n e)

    pub by_weights : ByWeights d (λ m. w (node m)) (λ c. w (cord c)) (λ m. node_amount d w (suc m) m) (cord_amount d w)
    unfolding node_amount cord_amount node_part
    by_weights = record {
      root = λ m l e. by_number_zero (d.parent m) _ _ e;
      inner = λ m n l e.
          let u : n < m = later d ok m n l e in
          by_number_suc (d.parent m) _ _ n e ∙ ap (node_part m n) (amount_steps m (suc n) n (omega arith) u (le_refl (suc n)))
          ∙ part_of-node d n w (node_amount d w (suc n) n) m l e;
      leaf = λ c n l e. by_number_suc (d.node c) _ _ n e ∙ part_of-cord d n w (node_amount d w (suc n) n) c l e;
    }

  pub dealt : Dealt d (starts_of d) (request d) (amount_of d) (reached d (metrics d))
  unfolding amount_of amount reached weights starts_of request metrics
  dealt = record {
    starts = sums_at d ok.rises d.start;
    root = λ m j l e. (by_weights (weight d (metrics d) j)).root m l e;
    inner = λ m n j l e. (by_weights (weight d (metrics d) j)).inner m n l e;
    leaf = λ c n l e.
        (by_weights (weight d (metrics d) (d.level c))).leaf c n l e
        ∙ ap (part _ _ _) (on_yes (eqb (d.level c) (d.level c)) (cord_over d c) (eq-eqb (d.level c) (d.level c) refl));
  }

  pub granted-at : (c : ℕ) → c < d.cords → at (granted d) c ≡ d.start c + reached d (metrics d) c
  unfolding granted
  granted-at c l = figures-at d.cords c _ l

-- What a deal asks of its starts.
abbrev pub Startable : Deal → Type 0
Startable d = Starting d (starts_of d) (request d)

module _ (d : Deal) (ok : Dealable d) (st : Startable d) where
  -- The computed grants are a way of dealing.
  pub granted_way : WholeWay d (at (granted d))
  unfolding grant
  granted_way =
      let o : WholeWay d (grant d ok (pcapmin d) (request d) (measured d ok) (starts_of d) (amount_of d) (reached d (metrics d)) st (dealt d ok))
      = ours d ok (pcapmin d) (request d) (measured d ok) (starts_of d) (amount_of d) (reached d (metrics d)) st (dealt d ok) in
      record {
        least = λ c l. le_trans (o.least c l) (le_of_eq (sym (granted-at d ok c l)));
        most = λ c l. le_trans (le_of_eq (granted-at d ok c l)) (o.most c l);
        within = λ n l. le_trans (le_of_eq (sum_beneath_cong d.nodes d.parent d.cords d.node n (at (granted d)) _ (granted-at d ok))) (o.within n l);
      }

  -- No other way gives the cords beneath a root, of a level and above, more.
  pub granted_most : (f : ℕ → ℕ) (n : ℕ) → TreeWay d n f → n < d.nodes → d.parent n ≡ 0 → (j : ℕ) → j ≤ d.levels
      → deal_beneath d n (from_level d j f) ≤ deal_beneath d n (from_level d j (at (granted d)))
  unfolding grant
  granted_most f n w l e j h =
      le_trans (most_above d ok (pcapmin d) (request d) (measured d ok) (starts_of d) (amount_of d) (reached d (metrics d)) st (dealt d ok) f n w l e j h)
      (le_of_eq (sum_beneath_cong d.nodes d.parent d.cords d.node n _ _ (λ c lc. ap (λ (z : ℕ). on (leb j (d.level c)) z) (sym (granted-at d ok c lc)))))

  -- No cord is granted less than its start.
  pub granted_start : (c : ℕ) → c < d.cords → d.start c ≤ at (granted d) c
  granted_start c l = omega (arith, granted-at d ok c l)

  -- What is granted beneath a node at a level is the starts and the amount.
  pub granted_level : (n j : ℕ) → n < d.nodes → j < d.levels → starts_of d n j + amount_of d n j ≡ deal_beneath d n (at_level d j (at (granted d)))
  unfolding grant
  granted_level n j l h =
      granted-beneath d ok (pcapmin d) (request d) (measured d ok) (starts_of d) (amount_of d) (reached d (metrics d)) st (dealt d ok) j h n l
      ∙ sum_beneath_cong d.nodes d.parent d.cords d.node n _ _ (λ c lc. ap (λ (z : ℕ). on (eqb (d.level c) j) z) (sym (granted-at d ok c lc)))

  -- A node's cords of a level are granted no more than its Request there.
  pub granted_asked : (n j : ℕ) → n < d.nodes → j < d.levels → deal_beneath d n (at_level d j (at (granted d))) ≤ request d n j
  unfolding grant
  granted_asked n j l h =
      le_trans (le_of_eq (sum_beneath_cong d.nodes d.parent d.cords d.node n _ _ (λ c lc. ap (λ (z : ℕ). on (eqb (d.level c) j) z) (granted-at d ok c lc))))
      (granted_request d ok (pcapmin d) (request d) (measured d ok) (starts_of d) (amount_of d) (reached d (metrics d)) st (dealt d ok) j h n l)

  -- Every node gives its children all of its amount, and none of them more than its weight.
  pub deal_gives_all : GivesAll d
  unfolding amount_of starts_of request
  deal_gives_all = record {
    all = λ n j l h. add_comm _ _ ∙ gives_all d ok (pcapmin d) (request d) (measured d ok) (starts_of d) (amount_of d) (reached d (metrics d)) st (dealt d ok) n j l h;
    to_node = λ m j l h. amount-weight d ok (pcapmin d) (request d) (measured d ok) (starts_of d) (amount_of d) (reached d (metrics d)) st (dealt d ok) m l j h;
    to_cord = reached_over d ok (pcapmin d) (request d) (measured d ok) (starts_of d) (amount_of d) (reached d (metrics d)) st (dealt d ok);
  }

-- ---- A deal in which each cord starts from its low

module _ (d : Deal) (ok : Dealable d) (lows : d.start ≡ d.low) where
  pub starts_are : starts_of d ≡ pcapmin d
  unfolding starts_of pcapmin metrics
  starts_are = ap (λ (w : ℕ → ℕ). cell (sums_from d w d.nodes 0)) lows

  pub lows_starting : Starting d (pcapmin d) (request d)
  lows_starting = record {
    least = λ c l. le_of_eq (ap (λ (w : ℕ → ℕ). w c) (sym lows));
    most = λ c l. le_trans (le_of_eq (ap (λ (w : ℕ → ℕ). w c) lows)) (ok.wants c l);
    within = λ n j l h. pcapmin_request d ok (pcapmin d) (request d) (measured d ok) n l j h;
  }

  pub lows_startable : Startable d
  lows_startable = subst (λ (s : ℕ → ℕ → ℕ). Starting d s (request d)) (sym starts_are) lows_starting
