-- A deal's dealing by its equations, over functions of the places, and what follows from them: the grants are a way of dealing,
-- and no other way gives the cords of a tree, of any rank and above, more.
use mathlib.Core.Path.{◌≡◌, refl, sym, ◌∙◌, subst}
use mathlib.Core.Bool.{Bool, true, false}
use Prim.Native.Nat.{ℕ, suc, ◌+◌, ◌-◌, ◌≤◌, ◌<◌}
use native.Mathlib.Nat.{le_trans, le_of_eq, add_comm}
use native.Mathlib.Omega.{arith}
use lib.Dec.{eqb}
use borrow.Author.Tests.{eqb-true, eq-eqb}
use Rattle.figures.specs.Sums.{on, sum}
use Rattle.figures.proofs.Sums.{on_le, on_yes, sum_le, up, up_cong}
use Rattle.rooms.proofs.Trees.{child_sum_add, child_sum_cong}
use Rattle.deals.specs.Metrics.{Deal, at_level, over_children}
use Rattle.deals.specs.Properties.{from_level}
use Rattle.splits.specs.Split.{part}
use Rattle.splits.proofs.Splits.{part_none}
use Rattle.deals.proofs.Amounts.{ByWeights, amount_most, reached_most, all_given}
use Rattle.deals.proofs.Requests.{Dealable, WholeWay, TreeWay, deal_beneath, asked, Measured, deal_beneath_unique, deal_beneath_from, deal_beneath_all, deal_beneath_le, child_cords_add, pcapmin_is, requests_fit, request_asked, way_total}
use Rattle.rooms.specs.Trees.{child_sum}

module _ (d : Deal) where
  open d use {nodes, parent, limit, cords, node, level, low, want, start, levels}

  -- What a deal asks of its starts, where s are those beneath each node and r the Requests: each start from low to want, and
  -- beneath a node, at each level, no more than its Request.
  pub record Starting (s r : ℕ → ℕ → ℕ) : Type 0 where
    pub least : (c : ℕ) → c < cords → low c ≤ start c
    pub most : (c : ℕ) → c < cords → start c ≤ want c
    pub within : (n j : ℕ) → n < nodes → j < levels → s n j ≤ r n j

  -- The weights of the children of the node at place n, summed: what each is to have over the starts.
  unfoldable pub weights : (ℕ → ℕ → ℕ) → (ℕ → ℕ → ℕ) → ℕ → ℕ → ℕ
  weights s r n j = over_children d n (λ m. r m j - s m j) (at_level d j (λ c. want c - start c))

  -- s is the starts beneath each node at each level, x what it has to give there, and y what reaches each cord.
  pub record Dealt (s r x : ℕ → ℕ → ℕ) (y : ℕ → ℕ) : Type 0 where
    pub starts : (n j : ℕ) → n < nodes → j < levels → s n j ≡ over_children d n (λ m. s m j) (at_level d j start)
    pub root : (m j : ℕ) → m < nodes → parent m ≡ 0 → x m j ≡ r m j - s m j
    pub inner : (m n j : ℕ) → m < nodes → parent m ≡ suc n
        → x m j ≡ part (x n j) (weights s r n j) (sum m (λ h. on (eqb (parent h) (suc n)) (r h j - s h j))) (r m j - s m j)
    pub leaf : (c n : ℕ) → c < cords → node c ≡ suc n
        → y c ≡ part (x n (level c)) (weights s r n (level c))
        (child_sum nodes parent n (λ m. r m (level c) - s m (level c)) + sum c (λ h. on (eqb (node h) (suc n)) (at_level d (level c) (λ i. want i - start i) h)))
        (want c - start c)

module _ (d : Deal) (ok : Dealable d) where
  open d use {nodes, parent, limit, cords, node, level, low, want, start, levels}

  module _ (p r : ℕ → ℕ → ℕ) (me : Measured d p r) where
    -- ---- The dealing: a node gives what it gets, and none gets more than its weight

    module _ (s x : ℕ → ℕ → ℕ) (y : ℕ → ℕ) (st : Starting d s r) (de : Dealt d s r x y) where
      cord_over : ℕ → ℕ
      cord_over c = want c - start c

      node_over : ℕ → ℕ → ℕ
      node_over n j = r n j - s n j

      weigh : ℕ → ℕ → ℕ
      weigh n j = weights d s r n j

      -- The children's weights and the starts beneath make up what they ask.
      weights_starts : (n j : ℕ) → n < nodes → j < levels → weigh n j + s n j ≡ asked d r n j
      unfolding weigh weights asked node_over cord_over
      weights_starts n j l h =
          let k : child_sum nodes parent n (λ m. r m j) ≡ child_sum nodes parent n (λ m. r m j - s m j) + child_sum nodes parent n (λ m. s m j)
          = child_sum_cong nodes parent n _ _ (λ m lm q. let z : s m j ≤ r m j = st.within m j lm h in omega arith)
          ∙ child_sum_add nodes parent n (λ m. r m j - s m j) (λ m. s m j) in
          let o : child_sum cords node n (at_level d j want) ≡ child_sum cords node n (at_level d j (λ c. want c - start c)) + child_sum cords node n (at_level d j start)
          = child_cords_add d ok n j (λ c. want c - start c) start want (λ c lc. let z : start c ≤ want c = st.most c lc in omega arith) in
          omega (arith, de.starts n j l h)

      over_weights : (n j : ℕ) → n < nodes → j < levels → node_over n j ≤ weigh n j
      unfolding node_over
      over_weights n j l h = omega (arith, weights_starts n j l h, request_asked d ok p r me n l j h, st.within n j l h)

      -- A cord of another level has no part; one of this level has its own.
      cord-part : (n j : ℕ) (c : ℕ) → c < cords → node c ≡ suc n
          → at_level d j y c ≡ part (x n j) (weigh n j) (child_sum nodes parent n (λ m. node_over m j) + sum c (λ h. on (eqb (node h) (suc n)) (at_level d j cord_over h))) (at_level d j cord_over c)
      unfolding node_over weigh cord_over
      cord-part n j c l e = go (eqb (level c) j) refl
        where
          go : (t : Bool) → eqb (level c) j ≡ t
              → on t (y c) ≡ part (x n j) (weigh n j) (child_sum nodes parent n (λ m. node_over m j) + sum c (λ h. on (eqb (node h) (suc n)) (at_level d j cord_over h))) (on t (cord_over c))
          go true q = subst
              (λ (z : ℕ). y c ≡ part (x n z) (weigh n z) (child_sum nodes parent n (λ m. node_over m z) + sum c (λ h. on (eqb (node h) (suc n)) (at_level d z cord_over h))) (cord_over c))
              (eqb-true (level c) j q) (de.leaf c n l e)
          go false q = sym (part_none (x n j) (weigh n j) _)

      -- At a level it is a dealing by weights, in which no node weighs more than its children.
      level_weights : (j : ℕ) → ByWeights d (λ n. node_over n j) (at_level d j cord_over) (λ n. x n j) (at_level d j y)
      unfolding node_over weigh weights cord_over
      level_weights j = record {
        root = λ m l e. de.root m j l e;
        inner = λ m n l e. de.inner m n j l e;
        leaf = λ c n l e. cord-part n j c l e;
      }

      level_enough : (j : ℕ) → j < levels → (n : ℕ) → n < nodes → node_over n j ≤ over_children d n (λ m. node_over m j) (at_level d j cord_over)
      unfolding node_over weigh weights cord_over
      level_enough j h n l = over_weights n j l h

      -- No node gets more than its weight.
      pub amount-weight : (n : ℕ) → n < nodes → (j : ℕ) → j < levels → x n j ≤ r n j - s n j
      unfolding node_over
      amount-weight n l j h = amount_most d ok _ _ _ _ (level_weights j) (level_enough j h) n l

      -- So none gets more than its excess: the starts are no less than the lows.
      pub pcapmin_starts : (n j : ℕ) → n < nodes → j < levels → p n j ≤ s n j
      pcapmin_starts n j l h =
          le_trans (le_of_eq (pcapmin_is d ok p r me j n h l))
          (le_trans (deal_beneath_le d ok n (at_level d j low) (at_level d j start) (λ c lc b. on_le (eqb (level c) j) (low c) (start c) (λ t. st.least c lc)))
          (le_of_eq (sym (deal_beneath_unique d ok (at_level d j start) (λ n. s n j) (λ n l. de.starts n j l h ∙ add_comm _ _) n l))))

      pub amount-within : (n : ℕ) → n < nodes → (j : ℕ) → j < levels → x n j ≤ r n j - p n j
      amount-within n l j h = omega (arith, amount-weight n l j h, pcapmin_starts n j l h)

      pub weights_are : (n j : ℕ) → n < nodes → j < levels → weights d s r n j + s n j ≡ asked d r n j
      unfolding weigh
      weights_are = weights_starts

      pub weights_asked : (n j : ℕ) → n < nodes → j < levels → weights d s r n j ≤ asked d r n j
      unfolding weigh
      weights_asked n j l h = omega (arith, weights_starts n j l h)

      -- What a node gets it gives.
      pub gives_all : (n j : ℕ) → n < nodes → j < levels → child_sum cords node n (at_level d j y) + child_sum nodes parent n (λ m. x m j) ≡ x n j
      gives_all n j l h = all_given d ok _ _ _ _ (level_weights j) (level_enough j h) n l

      unfoldable pub grant : ℕ → ℕ
      grant c = start c + y c

      -- What is granted beneath a node at a level is the starts and the amount.
      pub granted-beneath : (j : ℕ) → j < levels → (n : ℕ) → n < nodes → s n j + x n j ≡ deal_beneath d n (at_level d j grant)
      granted-beneath j h = deal_beneath_unique d ok (at_level d j grant) (λ n. s n j + x n j) (λ n l.
          omega (
            arith,
            de.starts n j l h,
            gives_all n j l h,
            child_sum_add nodes parent n (λ m. s m j) (λ m. x m j),
            child_cords_add d ok n j start y grant (unfold grant in (λ c lc. refl)),
          ))

      -- A node's cords of a level are granted no more than its Request there.
      pub granted_request : (j : ℕ) → j < levels → (n : ℕ) → n < nodes → deal_beneath d n (at_level d j grant) ≤ r n j
      granted_request j h n l = omega (arith, granted-beneath j h n l, amount-weight n l j h, st.within n j l h)

      pub reached_over : (c : ℕ) → c < cords → y c ≤ want c - start c
      unfolding cord_over
      reached_over c l =
          let own_level : eqb (level c) (level c) ≡ true = eq-eqb (level c) (level c) refl in
          omega (
            arith,
            reached_most d ok _ _ _ _ (level_weights (level c)) (level_enough (level c) (ok.ranks c l)) c l,
            on_yes (eqb (level c) (level c)) (y c) own_level,
            on_yes (eqb (level c) (level c)) (cord_over c) own_level,
          )

      -- Ours is a way of dealing.
      pub ours : WholeWay d grant
      unfolding grant
      ours = record {
        least = λ c l. omega (arith, st.least c l);
        most = λ c l. omega (arith, reached_over c l, st.most c l);
        within = λ n l.
            le_trans
            (le_of_eq (sym (deal_beneath_all d ok n grant)))
            (le_trans
            (sum_le levels (λ j. deal_beneath d n (at_level d j grant)) (r n) (λ j h. granted_request j h n l))
            (requests_fit d ok p r me n l));
      }

      -- A root's Requests of a level and above are what its cords of that level and above are granted.
      pub granted-total : (n : ℕ) → n < nodes → parent n ≡ 0 → (k j : ℕ) → j + k ≡ levels → up k j (r n) ≡ deal_beneath d n (from_level d j grant)
      granted-total n l e k j q =
          up_cong k j (r n) (λ i. deal_beneath d n (at_level d i grant)) (λ i a c.
          let h : i < levels = omega arith in
          sym (omega (arith, granted-beneath i h n l, de.root n i l e, st.within n i l h)))
          ∙ deal_beneath_from d ok k j n grant q

      -- No other way gives the cords beneath a root, of a level and above, more.
      pub most_above : (f : ℕ → ℕ) (n : ℕ) → TreeWay d n f → n < nodes → parent n ≡ 0 → (j : ℕ) → j ≤ levels
          → deal_beneath d n (from_level d j f) ≤ deal_beneath d n (from_level d j grant)
      most_above f n w l e j h =
          let k : ℕ = levels - j in
          let q : j + k ≡ levels = omega arith in
          le_trans (way_total d ok p r me f k j q n l w) (le_of_eq (granted-total n l e k j q))
