-- The children of a node as a list: their weights summed, and what a child gets, by the sums of the weights before it.
use mathlib.Core.Path.{◌≡◌, refl, sym, ap, ap₂, ◌∙◌}
use mathlib.Core.Bool.{Bool, true, false, cond}
use mathlib.Core.List.{List, [], ◌∷◌, ◌++◌, map, append-nil, map-append}
use Prim.Native.Nat.{ℕ, zero, suc, ◌+◌, ◌<◌}
use native.Mathlib.Nat.{zero-add, add-zero, add_assoc, not-suc-le-zero, le_of_suc-le-suc}
use native.Mathlib.Omega.{arith}
use lib.Dec.{eqb}
use borrow.Author.Tests.{eq-eqb, ne_eqb}
use Rattle.figures.specs.Sums.{on, sum}
use Rattle.figures.specs.Figures.{total, sum_of}
use Rattle.figures.proofs.Sums.{sum_up, sum_none, up}
use Rattle.figures.proofs.Lists.{total-append}
use Rattle.splits.specs.Split.{part, parts_after, split}
use Rattle.deals.specs.Metrics.{Deal, Metrics, deal_from, metrics, at_level, over_children}
use Rattle.deals.specs.Dealing.{Child, node, cord, same, places_from, children, node_over, cord_over, weight, weights_of, weight_sum, beside, part_of, amount}
use Rattle.rooms.specs.Trees.{child_sum}

-- ---- Worked by hand

-- A root with a child node, and a cord on each of the two, of which the table has the child node's first.
abbrev deal_o : Deal
deal_o = deal_from (0 ∷ 1 ∷ []) (1 ∷ 1 ∷ []) (2 ∷ 1 ∷ []) (0 ∷ 0 ∷ []) (0 ∷ 0 ∷ []) (0 ∷ 0 ∷ []) (1 ∷ 1 ∷ [])

-- Room S with a root of 1,625 W, which has 60 W to split over 50 and 210 at the lowest rank.
abbrev deal_s : Deal
deal_s =
    deal_from (0 ∷ 1 ∷ 1 ∷ []) (1300 ∷ 750 ∷ 750 ∷ []) (2 ∷ 2 ∷ 3 ∷ 3 ∷ []) (1 ∷ 0 ∷ 0 ∷ 0 ∷ []) (270 ∷ 270 ∷ 270 ∷ 270 ∷ [])
    (270 ∷ 270 ∷ 270 ∷ 270 ∷ []) (430 ∷ 430 ∷ 430 ∷ 430 ∷ [])

-- The child node before the cord, the weights of room S's root, and what its child nodes get.
by_hand : (children deal_o 0 ≡ node 1 ∷ cord 1 ∷ [])
    × (weights_of deal_s (metrics deal_s) 0 0 ≡ 50 ∷ 210 ∷ [])
    × (amount deal_s (metrics deal_s) 2 1 0 ≡ 11)
    × (amount deal_s (metrics deal_s) 3 2 0 ≡ 49)
unfolding children weights_of amount metrics deal_from
by_hand = (refl, refl, refl, refl)

-- The places from the first on, as the places below.
up_first : (k : ℕ) (g : ℕ → ℕ) → up k 0 g ≡ sum k g
up_first k g = omega (arith, sum_up k 0 k g (zero-add k), sum_none g)

-- Two figures that agree on the places agree on those that are picked.
map_places : (w v : Child → ℕ) (kind : ℕ → Child) (test : ℕ → Bool) (k a : ℕ) → ((i : ℕ) → i < a + k → w (kind i) ≡ v (kind i))
    → map w (map kind (places_from k a test)) ≡ map v (map kind (places_from k a test))
unfolding places_from
map_places w v kind test zero a e = refl
map_places w v kind test (suc k) a e = go (test a) (map_places w v kind test k (suc a) (λ i l. e i (omega arith)))
  where
    go : (t : Bool) → map w (map kind (places_from k (suc a) test)) ≡ map v (map kind (places_from k (suc a) test))
        → map w (map kind (cond t (a ∷ places_from k (suc a) test) (places_from k (suc a) test)))
        ≡ map v (map kind (cond t (a ∷ places_from k (suc a) test) (places_from k (suc a) test)))
    go true ih = ap₂ ◌∷◌ (e a (omega arith)) ih
    go false ih = ih

-- ---- Any children of one kind, by weights of any kind

module _ (w : Child → ℕ) where
  sum_of-map : (l : List Child) → sum_of (map w l) ≡ total w l
  unfolding total
  sum_of-map [] = refl
  sum_of-map (a ∷ l) = ap (λ (z : ℕ). w a + z) (sum_of-map l)

  module _ (kind : ℕ → Child) where
    total_places : (test : ℕ → Bool) (k a : ℕ) → total w (map kind (places_from k a test)) ≡ up k a (λ i. on (test i) (w (kind i)))
    unfolding places_from total up
    total_places test zero a = refl
    total_places test (suc k) a = go (test a) (total_places test k (suc a))
      where
        go : (t : Bool) → total w (map kind (places_from k (suc a) test)) ≡ up k (suc a) (λ i. on (test i) (w (kind i)))
            → total w (map kind (cond t (a ∷ places_from k (suc a) test) (places_from k (suc a) test))) ≡ on t (w (kind a)) + up k (suc a) (λ i. on (test i) (w (kind i)))
        go true ih = ap (λ (z : ℕ). w (kind a) + z) ih
        go false ih = ih ∙ sym (zero-add _)

    module _ (x e : ℕ) (rest : List Child) where
      -- What stands beside a child, of the parts that follow a running sum.
      parted : Child → ℕ → List ℕ → ℕ
      parted child c places = beside child (map kind places ++ rest) (parts_after x e c (map w (map kind places ++ rest)))

      -- Children of the other kind are passed over.
      beside_others : (child : Child) → ((i : ℕ) → same child (kind i) ≡ false) → (places : List ℕ) (c : ℕ)
          → parted child c places ≡ beside child rest (parts_after x e (c + total w (map kind places)) (map w rest))
      unfolding parted beside parts_after total
      beside_others child other [] c = ap (λ (z : ℕ). beside child rest (parts_after x e z (map w rest))) (sym (add-zero c))
      beside_others child other (p ∷ places) c =
          ap (λ (t : Bool). cond t (part x e c (w (kind p))) (parted child (c + w (kind p)) places)) (other p)
          ∙ beside_others child other places (c + w (kind p))
          ∙ ap (λ (z : ℕ). beside child rest (parts_after x e z (map w rest))) (add_assoc c (w (kind p)) (total w (map kind places)))

      module _ (same_kind : (i h : ℕ) → same (kind i) (kind h) ≡ eqb i h) (test : ℕ → Bool) where
        -- Beside a child stands its part after the weights of those before it.
        beside_places : (k a i n c : ℕ) → a + i ≡ n → i < k → test n ≡ true
            → parted (kind n) c (places_from k a test) ≡ part x e (c + up i a (λ h. on (test h) (w (kind h)))) (w (kind n))
        unfolding places_from parted beside parts_after up
        beside_places zero a i n c q l picked = absurd (not-suc-le-zero l)
        beside_places (suc k) a zero n c q l picked =
            let here : a ≡ n = omega arith in
            ap (λ (t : Bool). parted (kind n) c (cond t (a ∷ places_from k (suc a) test) (places_from k (suc a) test))) (ap test here ∙ picked)
            ∙ ap (λ (t : Bool). cond t (part x e c (w (kind a))) (parted (kind n) (c + w (kind a)) (places_from k (suc a) test))) (same_kind n a ∙ eq-eqb n a (sym here))
            ∙ ap₂ (λ (z i : ℕ). part x e z (w (kind i))) (sym (add-zero c)) here
        beside_places (suc k) a (suc i) n c q l picked =
            go (test a) (λ z. beside_places k (suc a) i n z (omega arith) (le_of_suc-le-suc l) picked)
          where
            go : (t : Bool) → ((z : ℕ) → parted (kind n) z (places_from k (suc a) test) ≡ part x e (z + up i (suc a) (λ h. on (test h) (w (kind h)))) (w (kind n)))
                → parted (kind n) c (cond t (a ∷ places_from k (suc a) test) (places_from k (suc a) test))
                ≡ part x e (c + (on t (w (kind a)) + up i (suc a) (λ h. on (test h) (w (kind h))))) (w (kind n))
            go true ih =
                ap (λ (t : Bool). cond t (part x e c (w (kind a))) (parted (kind n) (c + w (kind a)) (places_from k (suc a) test))) (same_kind n a ∙ ne_eqb n a (λ z. omega arith))
                ∙ ih (c + w (kind a))
                ∙ ap (λ (z : ℕ). part x e z (w (kind n))) (add_assoc c (w (kind a)) _)
            go false ih = ih c ∙ ap (λ (z : ℕ). part x e (c + z) (w (kind n))) (sym (zero-add _))

-- ---- The children of a node

module _ (d : Deal) (n : ℕ) where
  nodes_at : List Child
  nodes_at = map node (places_from d.nodes 0 (λ m. eqb (d.parent m) (suc n)))

  cords_at : List Child
  cords_at = map cord (places_from d.cords 0 (λ c. eqb (d.node c) (suc n)))

  -- A figure of the children, summed over those that are nodes, and over all.
  nodes-total : (w : Child → ℕ) → total w nodes_at ≡ child_sum d.nodes d.parent n (λ m. w (node m))
  unfolding nodes_at
  nodes-total w = total_places w node (λ m. eqb (d.parent m) (suc n)) d.nodes 0 ∙ up_first d.nodes _

  -- All of a figure: that of the child nodes, and of the cords on the node.
  abbrev pub over_all : (Child → ℕ) → ℕ
  over_all w = over_children d n (λ m. w (node m)) (λ c. w (cord c))

  pub children-sum : (w : Child → ℕ) → sum_of (map w (children d n)) ≡ over_all w
  unfolding children nodes_at cords_at
  children-sum w =
      sum_of-map w (children d n)
      ∙ total-append w nodes_at cords_at
      ∙ ap₂ ◌+◌ (nodes-total w) (total_places w cord (λ c. eqb (d.node c) (suc n)) d.cords 0 ∙ up_first d.cords _)

  -- Two figures that agree on all nodes and cords of the deal agree on the children.
  pub children_cong : (w v : Child → ℕ) → ((m : ℕ) → m < d.nodes → w (node m) ≡ v (node m)) → ((c : ℕ) → c < d.cords → w (cord c) ≡ v (cord c))
      → map w (children d n) ≡ map v (children d n)
  unfolding children nodes_at cords_at
  children_cong w v a b =
      map-append w nodes_at cords_at
      ∙ ap₂ ◌++◌
      (map_places w v node (λ m. eqb (d.parent m) (suc n)) d.nodes 0 (λ m h. a m (omega arith)))
      (map_places w v cord (λ c. eqb (d.node c) (suc n)) d.cords 0 (λ c h. b c (omega arith)))
      ∙ sym (map-append v nodes_at cords_at)

  -- A child node gets its part after the child nodes before it.
  pub part_of-node : (w : Child → ℕ) (x m : ℕ) → m < d.nodes → d.parent m ≡ suc n
      → part_of d w n x (node m) ≡ part x (over_all w) (sum m (λ h. on (eqb (d.parent h) (suc n)) (w (node h)))) (w (node m))
  unfolding part_of split children parted cords_at
  part_of-node w x m l e =
      beside_places w node x (sum_of (map w (children d n))) cords_at (λ i h. refl) (λ h. eqb (d.parent h) (suc n))
      d.nodes 0 m m 0 (zero-add m) l (eq-eqb (d.parent m) (suc n) e)
      ∙ ap₂ (λ (all z : ℕ). part x all z (w (node m))) (children-sum w) (zero-add _ ∙ up_first m _)

  -- A cord gets its part after all child nodes and the cords before it.
  pub part_of-cord : (w : Child → ℕ) (x c : ℕ) → c < d.cords → d.node c ≡ suc n
      → part_of d w n x (cord c)
      ≡ part x (over_all w) (child_sum d.nodes d.parent n (λ m. w (node m)) + sum c (λ h. on (eqb (d.node h) (suc n)) (w (cord h)))) (w (cord c))
  unfolding part_of split children parted nodes_at cords_at
  part_of-cord w x c l e =
      let all : ℕ = sum_of (map w (children d n)) in
      beside_others w node x all cords_at (cord c) (λ i. refl) (places_from d.nodes 0 (λ m. eqb (d.parent m) (suc n))) 0
      ∙ ap₂ (λ (z : ℕ) (l : List Child). beside (cord c) l (parts_after x all z (map w l))) (zero-add _ ∙ nodes-total w) (sym (append-nil cords_at))
      ∙ beside_places w cord x all [] (λ i h. refl) (λ h. eqb (d.node h) (suc n))
      d.cords 0 c c (child_sum d.nodes d.parent n (λ m. w (node m))) (zero-add c) l (eq-eqb (d.node c) (suc n) e)
      ∙ ap₂ (λ (a z : ℕ). part x a (child_sum d.nodes d.parent n (λ m. w (node m)) + z) (w (cord c))) (children-sum w) (up_first c _)

-- The weights at a level, summed.
pub weight_sum_is : (d : Deal) (f : Metrics) (n j : ℕ) → weight_sum d f n j ≡ over_children d n (λ m. node_over f m j) (at_level d j (cord_over d))
unfolding weight_sum weights_of
weight_sum_is d f n j = children-sum d n (weight d f j)
