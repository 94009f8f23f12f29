-- A deal from starts, told as passing the watts from low to start on first: what a node has in hand beyond the lows is what is passed on
-- beneath it and its amount. Where each start is the low nothing is passed, and the deal is told by its excesses alone.
use mathlib.Core.Path.{◌≡◌, refl, sym, ap, ap₂, ◌∙◌, subst, fun_ext}
use mathlib.Core.Bool.{Bool, true, false}
use mathlib.Core.List.{List, [], ◌∷◌, map}
use Prim.Native.Nat.{ℕ, ◌+◌, ◌-◌, ◌≤◌, ◌<◌}
use native.Mathlib.Nat.{sub_self, sub-zero, zero-add}
use native.Mathlib.Omega.{arith}
use lib.Dec.{eqb}
use borrow.Author.Tests.{eq-eqb}
use Rattle.figures.specs.Figures.{total, cell, sum_of}
use Rattle.figures.specs.Sums.{on}
use Rattle.figures.proofs.Sums.{on_yes}
use Rattle.rooms.proofs.Trees.{child_sum_add, child_sum_cong}
use Rattle.splits.specs.Split.{split}
use Rattle.deals.specs.Metrics.{Deal, sums_from, metrics}
use Rattle.deals.specs.Dealing.{Child, node, cord, children, weight, weights_of, beside, part_of, amount, reached}
use Rattle.deals.specs.Promises.{passed, child_excess, given, PassedFirst, DealtByExcess}
use Rattle.deals.proofs.Children.{children-sum, children_cong, part_of-node, part_of-cord}
use Rattle.deals.proofs.Requests.{Dealable, later, child_cords_add}
use Rattle.deals.proofs.Equations.{weights, pcapmin_starts}
use Rattle.deals.proofs.Computed.{pcapmin, request, starts_of, amount_of, measured, by_weights, dealt, granted-at, Startable}
use Rattle.rooms.specs.Trees.{child_sum}

-- An excess less what is passed first is what is over the start, of a node and of a cord at a level.
over_start : (r p s : ℕ) → p ≤ s → r - p - (s - p) ≡ r - s
over_start r p s h = omega arith

over_start_on : (t : Bool) (r p s : ℕ) → p ≤ s → on t (r - p) - on t (s - p) ≡ on t (r - s)
over_start_on true r p s h = over_start r p s h
over_start_on false r p s h = refl

module _ (d : Deal) (ok : Dealable d) (st : Startable d) where
  lows_starts : (n j : ℕ) → n < d.nodes → j < d.levels → pcapmin d n j ≤ starts_of d n j
  lows_starts = pcapmin_starts d ok (pcapmin d) (request d) (measured d ok) (starts_of d) (amount_of d) (reached d (metrics d)) st (dealt d ok)

  -- What a node passes on first is what was passed to it first.
  passed-sum : (n j : ℕ) → n < d.nodes → j < d.levels → sum_of (map (passed d j) (children d n)) ≡ starts_of d n j - pcapmin d n j
  unfolding pcapmin starts_of
  passed-sum n j l h =
      let k : child_sum d.nodes d.parent n (λ m. starts_of d m j)
      ≡ child_sum d.nodes d.parent n (λ m. starts_of d m j - pcapmin d m j) + child_sum d.nodes d.parent n (λ m. pcapmin d m j)
      = child_sum_cong d.nodes d.parent n _ _ (λ m lm q. let z : pcapmin d m j ≤ starts_of d m j = lows_starts m j lm h in omega arith)
      ∙ child_sum_add d.nodes d.parent n (λ m. starts_of d m j - pcapmin d m j) (λ m. pcapmin d m j) in
      let o = child_cords_add d ok n j (λ c. d.start c - d.low c) d.low d.start (λ c lc. let z : d.low c ≤ d.start c = st.least c lc in omega arith) in
      omega (arith, children-sum d n (passed d j), k, o, (dealt d ok).starts n j l h, (measured d ok).lowest n j l h)

  -- The weights are the excesses less what is passed first.
  weights_less : (n j : ℕ) → j < d.levels → weights_of d (metrics d) n j ≡ map (λ other. child_excess d j other - passed d j other) (children d n)
  unfolding weights_of pcapmin starts_of
  weights_less n j h =
      sym (children_cong d n _ _
      (λ m l. over_start _ _ _ (lows_starts m j l h)) (λ c l. over_start_on (eqb (d.level c) j) (d.want c) (d.low c) (d.start c) (st.least c l)))

  in_hand : ℕ → ℕ → ℕ
  in_hand m j = starts_of d m j - pcapmin d m j + amount_of d m j

  -- So a child is given what is passed to it first, and its part of the node's amount.
  given_is : (n j : ℕ) → n < d.nodes → j < d.levels → (child : Child) → given d n j (in_hand n j) child ≡ passed d j child + part_of d (weight d (metrics d) j) n (amount_of d n j) child
  unfolding given part_of in_hand weights_of
  given_is n j l h child =
      let rest : in_hand n j - sum_of (map (passed d j) (children d n)) ≡ amount_of d n j = omega (arith, passed-sum n j l h) in
      ap₂ (λ (x : ℕ) (w : List ℕ). passed d j child + beside child (children d n) (split x w)) rest (sym (weights_less n j h))

  pub passed_first : PassedFirst d
  unfolding in_hand pcapmin starts_of request weights amount_of amount reached
  passed_first = record {
    in_hand = in_hand;
    root = λ m j l h e. omega (arith, (dealt d ok).root m j l e, lows_starts m j l h, st.within m j l h);
    to_node = λ m n j l h e.
        let k : n < m = later d ok m n l e in
        ap (λ (x : ℕ). starts_of d m j - pcapmin d m j + x) ((dealt d ok).inner m n j l e ∙ sym (part_of-node d n (weight d (metrics d) j) (amount_of d n j) m l e))
        ∙ sym (given_is n j (omega arith) h (node m));
    to_cord = λ c n l e.
        let q : n < d.nodes = subst (λ (i : ℕ). i ≤ d.nodes) e (ok.here c l) in
        let y : reached d (metrics d) c ≡ part_of d (weight d (metrics d) (d.level c)) n (amount_of d n (d.level c)) (cord c)
        = (by_weights d ok (weight d (metrics d) (d.level c))).leaf c n l e
        ∙ sym (part_of-cord d n (weight d (metrics d) (d.level c)) (amount_of d n (d.level c)) c l e) in
        omega (
          arith,
          granted-at d ok c l,
          y,
          given_is n (d.level c) q (ok.ranks c l) (cord c),
          on_yes (eqb (d.level c) (d.level c)) (d.start c - d.low c) (eq-eqb (d.level c) (d.level c) refl),
          st.least c l,
        );
  }

-- ---- Where each start is the low

sum_none : {A : Type 0} (l : List A) → sum_of (map (λ (_ : A). 0) l) ≡ 0
unfolding total
sum_none [] = refl
sum_none (a ∷ rest) = zero-add _ ∙ sum_none rest

module _ (d : Deal) (same : d.start ≡ d.low) where
  -- Nothing is passed first.
  passed_none : (j : ℕ) (child : Child) → passed d j child ≡ 0
  unfolding metrics
  passed_none j (node m) = ap (λ (f : ℕ → ℕ). cell (sums_from d f d.nodes 0) m j - cell (metrics d).pcapmins m j) same ∙ sub_self _
  passed_none j (cord c) = ap (λ (f : ℕ → ℕ). on (eqb (d.level c) j) (f c - d.low c)) same ∙ nothing (eqb (d.level c) j)
    where
      nothing : (t : Bool) → on t (d.low c - d.low c) ≡ 0
      nothing true = sub_self (d.low c)
      nothing false = refl

  -- So a child is given its part of all that its node has, by the excesses.
  given_all : (n j watts : ℕ) (child : Child) → given d n j watts child ≡ part_of d (child_excess d j) n watts child
  unfolding given
  given_all n j watts child =
      let all : (f : Child → ℕ) → f ≡ (λ _. 0)
      → f child + part_of d (λ other. child_excess d j other - f other) n (watts - sum_of (map f (children d n))) child ≡ part_of d (child_excess d j) n watts child
      = λ f none.
      ap (λ (f : Child → ℕ). f child + part_of d (λ other. child_excess d j other - f other) n (watts - sum_of (map f (children d n))) child) none
      ∙ zero-add _
      ∙ ap (λ (x : ℕ). part_of d (λ other. child_excess d j other - 0) n x child) (ap (λ (s : ℕ). watts - s) (sum_none (children d n)) ∙ sub-zero watts)
      ∙ ap (λ (w : Child → ℕ). part_of d w n watts child) (fun_ext (λ other. sub-zero (child_excess d j other))) in
      all (passed d j) (fun_ext (passed_none j))

  pub dealt_by_excess : PassedFirst d → DealtByExcess d
  dealt_by_excess first = record {
    amounts = first.in_hand;
    root = first.root;
    to_node = λ m n j l h e. first.to_node m n j l h e ∙ given_all n j (first.in_hand n j) (node m);
    to_cord = λ c n l e. first.to_cord c n l e ∙ ap (λ (x : ℕ). d.low c + x) (given_all n (d.level c) (first.in_hand n (d.level c)) (cord c));
  }
