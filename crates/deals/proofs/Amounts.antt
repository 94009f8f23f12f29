-- Amounts dealt by weights, by their equations: where no node weighs more than its children, each gives all that it gets, and none
-- gets more than its weight. (A rank's dealing is one such, and that of the headroom another.)
use mathlib.Core.Path.{◌≡◌, refl, sym, ap, ap₂, ◌∙◌, subst}
use mathlib.Core.Bool.{Bool}
use mathlib.Core.Logic.{◌⊎◌, inl, inr}
use Prim.Native.Nat.{ℕ, zero, suc, ◌+◌, ◌*◌, ◌/◌, ◌≤◌, ◌<◌}
use native.Mathlib.Nat.{le_trans, le_of_eq, le_refl, mul_comm, mul-div_cancel, eq-zero-or-pos}
use native.Mathlib.Omega.{arith}
use lib.Dec.{eqb, eqb-suc-suc}
use borrow.Author.Tests.{eqb-true, eq-eqb}
use Rattle.figures.specs.Sums.{on, sum}
use Rattle.figures.proofs.Sums.{on_yes, on_cong, sum_cong, sum_swap, sum_one}
use Rattle.figures.proofs.Lists.{sum_most, sum_one_le}
use Rattle.rooms.proofs.Trees.{child_sum_cong, rise}
use Rattle.splits.specs.Split.{part}
use Rattle.splits.proofs.Splits.{part_le, part_none, part_whole, telescope, telescope_all}
use Rattle.deals.specs.Metrics.{Deal, over_children}
use Rattle.deals.proofs.Requests.{Dealable, later, deal_beneath, deal_beneath_unique}
use Rattle.rooms.specs.Trees.{child_sum}

-- What hangs on the nodes is no more than what the cords have.
pub child_cords_most : (nodes cords : ℕ) (node : ℕ → ℕ) → ((c : ℕ) → c < cords → 0 < node c) → ((c : ℕ) → c < cords → node c ≤ nodes)
    → (f : ℕ → ℕ) (most : ℕ) → ((c : ℕ) → c < cords → f c ≤ most) → sum nodes (λ n. child_sum cords node n f) ≤ cords * most
child_cords_most nodes cords node hangs here f most h =
    le_trans (le_of_eq (sum_swap nodes cords (λ n c. on (eqb (node c) (suc n)) (f c))))
    (sum_most cords most _ (λ c l. le_trans (once c l (node c) refl) (h c l)))
  where
    once : (c : ℕ) → c < cords → (v : ℕ) → node c ≡ v → sum nodes (λ n. on (eqb (node c) (suc n)) (f c)) ≤ f c
    once c l zero e = absurd (omega (arith, hangs c l))
    once c l (suc p) e =
        le_of_eq
        (sum_cong nodes _ _ (λ n ln. ap (λ (t : Bool). on t (f c)) (ap (λ (v : ℕ). eqb v (suc n)) e ∙ eqb-suc-suc p n))
        ∙ sum_one nodes p (λ n. f c) (omega (arith, here c l)))

module _ (d : Deal) where
  open d use {nodes, parent, cords, node}

  -- x is what each node has to give, and y what reaches each cord.
  pub record ByWeights (w v x y : ℕ → ℕ) : Type 0 where
    pub root : (m : ℕ) → m < nodes → parent m ≡ 0 → x m ≡ w m
    pub inner : (m n : ℕ) → m < nodes → parent m ≡ suc n
        → x m ≡ part (x n) (over_children d n w v) (sum m (λ h. on (eqb (parent h) (suc n)) (w h))) (w m)
    pub leaf : (c n : ℕ) → c < cords → node c ≡ suc n
        → y c ≡ part (x n) (over_children d n w v) (child_sum nodes parent n w + sum c (λ h. on (eqb (node h) (suc n)) (v h))) (v c)

  pub over_children_cong : (w u v : ℕ → ℕ) (n : ℕ) → ((m : ℕ) → m < nodes → parent m ≡ suc n → w m ≡ u m) → over_children d n w v ≡ over_children d n u v
  over_children_cong w u v n same = ap (λ (z : ℕ). z + child_sum cords node n v) (child_sum_cong nodes parent n w u same)

-- Equal weights give equal amounts, from each parent to its children.
module _ (d : Deal) (ok : Dealable d) (w u v x z y t : ℕ → ℕ) (same : (n : ℕ) → n < d.nodes → w n ≡ u n) (by : ByWeights d w v x y) (yb : ByWeights d u v z t) where
  open d use {nodes, parent, cords, node}

  wholes_same : (n : ℕ) → over_children d n w v ≡ over_children d n u v
  wholes_same n = over_children_cong d w u v n (λ m lm q. same m lm)

  before_same : (n m : ℕ) → m ≤ nodes → sum m (λ h. on (eqb (parent h) (suc n)) (w h)) ≡ sum m (λ h. on (eqb (parent h) (suc n)) (u h))
  before_same n m h = sum_cong m _ _ (λ i l. ap (λ (a : ℕ). on (eqb (parent i) (suc n)) a) (same i (omega arith)))

  amounts_same : (n : ℕ) → n < nodes → x n ≡ z n
  amounts_same = rise nodes (λ n. x n ≡ z n) (λ n l ih. go n l ih (parent n) refl)
    where
      go : (n : ℕ) → n < nodes → ((m : ℕ) → m < n → x m ≡ z m) → (q : ℕ) → parent n ≡ q → x n ≡ z n
      go n l ih zero e = by.root n l e ∙ same n l ∙ sym (yb.root n l e)
      go n l ih (suc q) e =
          by.inner n q l e
          ∙ ap₂ (λ (a b : ℕ). part a b (sum n (λ h. on (eqb (parent h) (suc q)) (w h))) (w n)) (ih q (later d ok n q l e)) (wholes_same q)
          ∙ ap₂ (λ (a b : ℕ). part (z q) (over_children d q u v) a b) (before_same q n (omega arith)) (same n l)
          ∙ sym (yb.inner n q l e)

  pub reached-same : (c : ℕ) → c < cords → y c ≡ t c
  reached-same c l = go (node c) refl
    where
      go : (q : ℕ) → node c ≡ q → y c ≡ t c
      go zero e = absurd (omega (arith, ok.hangs c l))
      go (suc n) e =
          let q : n < nodes = subst (λ (a : ℕ). a ≤ nodes) e (ok.here c l) in
          by.leaf c n l e
          ∙ ap₂ (λ (a b : ℕ). part a b (child_sum nodes parent n w + sum c (λ h. on (eqb (node h) (suc n)) (v h))) (v c)) (amounts_same n q) (wholes_same n)
          ∙ ap (λ (a : ℕ). part (z n) (over_children d n u v) (a + sum c (λ h. on (eqb (node h) (suc n)) (v h))) (v c)) (before_same n nodes (le_refl nodes))
          ∙ sym (yb.leaf c n l e)

module _ (d : Deal) (ok : Dealable d) (w v x y : ℕ → ℕ) (by : ByWeights d w v x y)
    (enough : (n : ℕ) → n < d.nodes → w n ≤ over_children d n w v) where
  open d use {nodes, parent, cords, node}

  -- No node gets more than its weight.
  pub amount_most : (n : ℕ) → n < nodes → x n ≤ w n
  amount_most = rise nodes (λ n. x n ≤ w n) (λ n l ih. go n l ih (parent n) refl)
    where
      go : (n : ℕ) → n < nodes → ((m : ℕ) → m < n → x m ≤ w m) → (q : ℕ) → parent n ≡ q → x n ≤ w n
      go n l ih zero e = le_of_eq (by.root n l e)
      go n l ih (suc q) e =
          let u : q < n = later d ok n q l e in
          le_trans (le_of_eq (by.inner n q l e)) (part_le (x q) (over_children d q w v) _ (w n) (le_trans (ih q u) (enough q (omega arith))))

  -- Nor does a cord.
  pub reached_most : (c : ℕ) → c < cords → y c ≤ v c
  reached_most c l = go (node c) refl
    where
      go : (q : ℕ) → node c ≡ q → y c ≤ v c
      go zero e = absurd (omega (arith, ok.hangs c l))
      go (suc n) e =
          let q : n < nodes = subst (λ (z : ℕ). z ≤ nodes) e (ok.here c l) in
          le_trans (le_of_eq (by.leaf c n l e)) (part_le (x n) (over_children d n w v) _ (v c) (le_trans (amount_most n q) (enough n q)))

  to_nodes : (n : ℕ) → child_sum nodes parent n x ≡ x n * child_sum nodes parent n w / over_children d n w v
  to_nodes n =
      child_sum_cong nodes parent n _ _ (λ m lm q. by.inner m n lm q)
      ∙ telescope_all (x n) (over_children d n w v) (λ m. eqb (parent m) (suc n)) w nodes

  to_cords : (n : ℕ) → x n * child_sum nodes parent n w / over_children d n w v + child_sum cords node n y ≡ x n * over_children d n w v / over_children d n w v
  to_cords n =
      ap (λ (z : ℕ). x n * child_sum nodes parent n w / over_children d n w v + z)
      (sum_cong cords _ _ (λ c l. on_cong (eqb (node c) (suc n)) _ _ (λ t. by.leaf c n l (eqb-true (node c) (suc n) t))))
      ∙ telescope (x n) (over_children d n w v) (child_sum nodes parent n w) (λ c. eqb (node c) (suc n)) v cords

  -- What a node gets it gives.
  pub all_given : (n : ℕ) → n < nodes → child_sum cords node n y + child_sum nodes parent n x ≡ x n
  all_given n l = omega (arith, part_whole (x n) (over_children d n w v) (le_trans (amount_most n l) (enough n l)), to_nodes n, to_cords n)

  -- So all of it reaches the cords beneath.
  pub all_beneath : (n : ℕ) → n < nodes → x n ≡ deal_beneath d n y
  all_beneath = deal_beneath_unique d ok y x (λ n l. sym (all_given n l))

-- ---- A node that has as much as its children weigh together

-- Of the whole weight each child gets its own.
part_all : (e c d : ℕ) → d ≤ e → part e e c d ≡ d
unfolding part
part_all e c d h = go (eq-zero-or-pos e)
  where
    exact : (z : ℕ) → 0 < e → e * z / e ≡ z
    exact z q = ap (λ (y : ℕ). y / e) (mul_comm e z) ∙ mul-div_cancel z q

    go : (e ≡ 0) ⊎ (0 < e) → part e e c d ≡ d
    go (inl z) = let y : d ≡ 0 = omega arith in ap (part e e c) y ∙ part_none e e c ∙ sym y
    go (inr q) = omega (arith, exact (c + d) q, exact c q)

module _ (d : Deal) (w v x y : ℕ → ℕ) (by : ByWeights d w v x y) where
  open d use {nodes, parent, cords, node}

  pub whole_node : (m n : ℕ) → m < nodes → parent m ≡ suc n → x n ≡ over_children d n w v → x m ≡ w m
  whole_node m n l e q =
      by.inner m n l e
      ∙ ap (λ (z : ℕ). part z (over_children d n w v) (sum m (λ h. on (eqb (parent h) (suc n)) (w h))) (w m)) q
      ∙ part_all (over_children d n w v) _ (w m)
      (omega (arith, sum_one_le nodes m (λ h. on (eqb (parent h) (suc n)) (w h)) l, on_yes (eqb (parent m) (suc n)) (w m) (eq-eqb (parent m) (suc n) e)))

  pub whole_cord : (c n : ℕ) → c < cords → node c ≡ suc n → x n ≡ over_children d n w v → y c ≡ v c
  whole_cord c n l e q =
      by.leaf c n l e
      ∙ ap (λ (z : ℕ). part z (over_children d n w v) (child_sum nodes parent n w + sum c (λ h. on (eqb (node h) (suc n)) (v h))) (v c)) q
      ∙ part_all (over_children d n w v) _ (v c)
      (omega (arith, sum_one_le cords c (λ h. on (eqb (node h) (suc n)) (v h)) l, on_yes (eqb (node c) (suc n)) (v c) (eq-eqb (node c) (suc n) e)))
