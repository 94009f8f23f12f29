-- The holders that are named from the marks of the nodes' cuts are those of the deal: where the marks say at which levels a node is cut, both
-- go the same way to the root and stop at the same node.
use mathlib.Core.Path.{◌≡◌, refl, sym, ap, ap₂, ◌∙◌}
use mathlib.Core.Bool.{Bool, cond}
use mathlib.Core.List.{List}
use Prim.Native.Nat.{ℕ, zero, suc, ◌≤◌, ◌<◌}
use native.Mathlib.Omega.{arith}
use lib.Dec.{eqb, ltb}
use lib.ListN.{length, length-map, get_or-map}
use lib.Seq.{ext_get_or}
use Rattle.figures.specs.Figures.{figures, at}
use Rattle.figures.specs.Sums.{on}
use Rattle.figures.proofs.Lists.{figures-at, figures-length}
use Rattle.rooms.specs.Table.{Room, highest_rank}
use Rattle.rooms.specs.Lists.{parents_of, limits_of, nodes_of, levels_of, lows_of}
use Rattle.rooms.specs.Rows.{nodes_in, levels_in, cord_row_at, no_cord_row, CordRows}
use Rattle.deals.specs.Metrics.{deal_from, deal_of, metrics}
use Rattle.deals.specs.Dealing.{granted}
use Rattle.deals.specs.SecondDeal.{first_used, second_deal, second_wants, second_grants}
use Rattle.deals.specs.Held.{cut_from, nearest_root, holder, held_over, held}
use Rattle.plan_holders.specs.Holding.{HeldLists, holder_from, held_from}
use Rattle.plan_holders.proofs.Rows.{held_at}
use Rattle.rooms.specs.Trees.{ParentsFirst}
use Rattle.rooms.specs.declared.lists.CordRow.{CordRow}

-- Two tests that agree on every node name the same one.
nearest_cong : (nodes : ℕ) (parent : ℕ → ℕ) → ParentsFirst nodes parent → (test other : ℕ → Bool) → ((n : ℕ) → n < nodes → test n ≡ other n)
    → (k v : ℕ) → v ≤ nodes → nearest_root parent test k v ≡ nearest_root parent other k v
unfolding nearest_root
nearest_cong nodes parent rises test other e zero v h = refl
nearest_cong nodes parent rises test other e (suc k) zero h = refl
nearest_cong nodes parent rises test other e (suc k) (suc m) h =
    ap₂ (λ (t : Bool) (above : ℕ). cond (eqb above 0) (on t (suc m)) above) (e m h)
    (nearest_cong nodes parent rises test other e k (parent m) (omega (arith, rises m h)))

-- Lists of equal figures are equal.
figures_cong : (k : ℕ) (g h : ℕ → ℕ) → ((i : ℕ) → i < k → g i ≡ h i) → figures k g ≡ figures k h
figures_cong k g h e =
    ext_get_or 0 (figures k g) (figures k h) (figures-length k g ∙ sym (figures-length k h))
    (λ i q. let l : i < k = omega (arith, figures-length k g) in figures-at k i g l ∙ e i l ∙ sym (figures-at k i h l))

module _ (parents limits nodes levels lows starts wants : List ℕ) where
  -- The nodes' marks say of each node at which levels of the deal it is cut.
  abbrev pub CutsMarked : List ℕ → Type 0
  CutsMarked cuts =
      let d = deal_from parents limits nodes levels lows starts wants in
      (n j : ℕ) → n < d.nodes → j < highest_rank → cut_from d (metrics d) j n ≡ ltb j (at cuts n)

  module _ {cuts : List ℕ} {cords : List CordRow} {grants : List ℕ} (lists : HeldLists parents cuts cords wants grants) where
    -- What is named for each cord.
    held_one : nodes_in cords ≡ nodes → levels_in cords ≡ levels → CutsMarked cuts → (c : ℕ) → c < length cords
        → holder_from parents cuts (cord_row_at cords c).level (cord_row_at cords c).node
        ≡ holder (deal_from parents limits nodes levels lows starts wants) (metrics (deal_from parents limits nodes levels lows starts wants)) c
    unfolding holder deal_from
    held_one n l marked c h =
        let d = deal_from parents limits nodes levels lows starts wants in
        let node_is : (cord_row_at cords c).node ≡ at nodes c = sym (get_or-map (λ (row : CordRow). row.node) cords c no_cord_row) ∙ ap (λ (z : List ℕ). at z c) n in
        let level_is : (cord_row_at cords c).level ≡ at levels c = sym (get_or-map (λ (row : CordRow). row.level) cords c no_cord_row) ∙ ap (λ (z : List ℕ). at z c) l in
        ap₂ (holder_from parents cuts) level_is node_is
        ∙ sym (nearest_cong (length parents) (at parents) lists.of_nodes.rises (cut_from d (metrics d) (at levels c)) (λ i. ltb (at levels c) (at cuts i))
        (λ i q. marked i (at levels c) q (omega (arith, level_is, lists.ranked c h))) (length parents) (at nodes c) (omega (arith, node_is, lists.within c h)))

    pub held-over : nodes_in cords ≡ nodes → levels_in cords ≡ levels → grants ≡ granted (deal_from parents limits nodes levels lows starts wants)
        → CutsMarked cuts → held_from parents cuts cords wants grants ≡ held_over (deal_from parents limits nodes levels lows starts wants)
    unfolding held_over deal_from
    held-over n l g marked =
        let d = deal_from parents limits nodes levels lows starts wants in
        let size : length cords ≡ length nodes = sym (length-map cords (λ (row : CordRow). row.node)) ∙ ap length n in
        figures_cong (length cords) (held_at parents cuts cords wants grants) (λ c. cond (eqb (at (granted d) c) (at wants c)) 0 (holder d (metrics d) c))
        (λ c h. ap₂ (λ (got : List ℕ) (by : ℕ). cond (eqb (at got c) (at wants c)) 0 by) g (held_one n l marked c h))
        ∙ ap (λ (k : ℕ). figures k (λ c. cond (eqb (at (granted d) c) (at wants c)) 0 (holder d (metrics d) c))) size

-- Of the second deal of a room with given demands.
pub held_second : (r : Room) (demands : List ℕ) {cuts : List ℕ} {cords : List CordRow} {grants : List ℕ}
    → HeldLists (parents_of r) cuts cords (second_wants r demands) grants → CordRows r cords → grants ≡ second_grants r demands
    → ((n j : ℕ) → n < (second_deal r demands).nodes → j < highest_rank → cut_from (second_deal r demands) (metrics (second_deal r demands)) j n ≡ ltb j (at cuts n))
    → held_from (parents_of r) cuts cords (second_wants r demands) grants ≡ held r demands
unfolding held second_grants second_deal deal_of
held_second r demands lists rows g marked =
    held-over (parents_of r) (limits_of r) (nodes_of r) (levels_of r) (lows_of r) (first_used r demands) (second_wants r demands) lists rows.nodes rows.levels g
    marked
