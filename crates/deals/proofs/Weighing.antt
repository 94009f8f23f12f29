-- Laws of a rank's weights, gathered from the last node to the first: each node's weight is taken from what is left of its limit and
-- credited to its parent.
use mathlib.Core.Path.{◌≡◌, refl, sym, ap, ap₂, ◌∙◌}
use mathlib.Core.List.{List}
use mathlib.Core.Logic.{◌⊎◌, inl, inr}
use Prim.Native.Nat.{ℕ, zero, suc, ◌+◌, ◌-◌, ◌^◌, ◌≤◌, ◌<◌, min}
use native.Mathlib.Nat.{eq-or-lt_of_le, le_refl, sub-zero}
use native.Mathlib.Omega.{arith}
use lib.Dec.{eqb}
use lib.ListN.{length, set, length-set}
use lib.Seq.{set-get_or, get_or-set_same, get_or-set_other}
use borrow.Author.Tests.{ne_eqb}
use Rattle.figures.specs.Sums.{on, sum}
use Rattle.figures.specs.Credits.{credited}
use Rattle.figures.proofs.Sums.{on_no, sum_suc, up_cong}
use Rattle.figures.proofs.Credits.{credited-at, credited-length, figure_in_sum, sum-credited}
use Rattle.rooms.proofs.Gather.{Holds, holds_start, holds_turn, holds_end, holds_whole}
use Rattle.figures.specs.Figures.{at}
use Rattle.deals.specs.Passes.{weight_of, MayWeigh, Weighed}
use Rattle.figures.specs.Places.{Absent, Present}
use Rattle.figures.proofs.Lists.{passed_down}
use Rattle.deals.proofs.Active.{Parted, parted_none, parted_all, parted_at, parted_after, between}
use Rattle.deals.proofs.NodeSums.{credited-nothing}
use Rattle.rooms.proofs.Trees.{child_sum_none}

-- What the turn of the node at place m leaves.
pub record Settled (active : List ℕ) (count : ℕ) (left₀ left wholes weights : List ℕ) (m : ℕ) : Type 0 where
  pub left_is : at left m ≡ at left₀ m - at wholes m
  pub weight_is : weight_of weights wholes m ≡ weight_of left₀ wholes m
  pub within : Present active count m → at weights m ≤ at wholes m
  pub none : Absent active count m → at wholes m ≡ 0

-- Before the turn of the node at place n - 1: the nodes from n on have passed their weights on, and the others are as they were.
pub record Weighing (parents active : List ℕ) (count : ℕ) (left₀ own : List ℕ) (weights_length n : ℕ) (left wholes weights : List ℕ) : Type 0 where
  pub given : MayWeigh parents active count left₀ own weights_length
  pub done : ℕ
  pub all : n + done ≡ length parents
  pub held : Holds (length parents) (at parents) (at own) (weight_of left₀ wholes) done n (at wholes)
  pub most : sum n (at wholes) ≤ sum (length parents) (at own)
  pub settled : (m : ℕ) → n ≤ m → m < length parents → Settled active count left₀ left wholes weights m
  pub left_kept : (m : ℕ) → m < n → at left m ≡ at left₀ m
  pub left_size : length left ≡ length left₀
  pub wholes_size : length wholes ≡ length own
  pub weights_size : length weights ≡ weights_length

pub weighing_start : {parents active : List ℕ} {count : ℕ} {left own : List ℕ} (weights : List ℕ) → MayWeigh parents active count left own (length weights)
    → Weighing parents active count left own (length weights) (length parents) left own weights
weighing_start {parents} {left = left} {own = own} weights given =
    record {
      given = given;
      done = 0;
      all = omega arith;
      held = holds_start (length parents) (at parents) (at own) (weight_of left own);
      most = le_refl (sum (length parents) (at own));
      settled = λ m h l. absurd (omega arith);
      left_kept = λ m l. refl;
      left_size = refl;
      wholes_size = refl;
      weights_size = refl;
    }

-- ---- The turn of a node

-- What holds at a place and after it holds from it on.
pub from_here : (count m : ℕ) (P : ℕ → Type 0) → P m → ((i : ℕ) → m < i → i < count → P i) → (i : ℕ) → m ≤ i → i < count → P i
from_here count m P here after i h l = go (eq-or-lt_of_le h)
  where
    go : (m ≡ i) ⊎ (m < i) → P i
    go (inl e) = rw e at here
    go (inr g) = after i g l

-- A figure that a node passes on counts at its parent from then on, and the node itself no more.
sum-passed : (m node figure : ℕ) (l : List ℕ) → node ≤ m → figure ≤ at l m → m < length l → sum m (at (credited node figure l)) ≤ sum (suc m) (at l)
unfolding credited
sum-passed m zero figure l h f k = omega (arith, sum_suc m (at l))
sum-passed m (suc p) figure l h f k = omega (arith, sum_suc m (at l), sum-credited m (suc p) figure l (omega arith) h (omega arith))

module _ {parents active : List ℕ} {count : ℕ} {left₀ own : List ℕ} {weights_length : ℕ} where
  -- A turn: the node's weight is v; in its place of the list of weights, which is set where the node is active, stands u.
  turned : (k : ℕ) (left wholes weights : List ℕ) (v : ℕ) (weights' : List ℕ) → v ≡ min (at left k) (at wholes k)
      → length weights' ≡ length weights
      → ((m : ℕ) → k < m → at weights' m ≡ at weights m)
      → min (at weights' k) (at wholes k) ≡ v
      → (Present active count k → at weights' k ≤ at wholes k)
      → (Absent active count k → at wholes k ≡ 0)
      → Weighing parents active count left₀ own weights_length (suc k) left wholes weights
      → Weighing parents active count left₀ own weights_length k (set left k (at left k - v)) (credited (at parents k) v wholes) weights'
  unfolding Holds
  turned k left wholes weights v weights' ev size kept here within none inv =
      let given = inv.given in
      let w : ℕ = at left k - v in
      let wholes' : List ℕ = credited (at parents k) v wholes in
      let in_parents : k < length parents = omega (arith, inv.all) in
      let in_left : k < length left = omega (arith, inv.left_size, given.left_size) in
      let in_wholes : k < length wholes = omega (arith, inv.wholes_size, given.own_fit.0) in
      let rise : at parents k ≤ k = given.rises k in_parents in
      let same : at left k ≡ at left₀ k = inv.left_kept k (omega arith) in
      let wholes_after : (m : ℕ) → at (credited (at parents k) v wholes) m ≡ at wholes m + on (eqb (at parents k) (suc m)) v
      = λ m. credited-at (at parents k) v wholes m (omega arith) in
      let wholes_same : (m : ℕ) → k ≤ m → at (credited (at parents k) v wholes) m ≡ at wholes m
      = λ m l. omega (arith, wholes_after m, on_no (eqb (at parents k) (suc m)) v (ne_eqb (at parents k) (suc m) (λ e. omega arith))) in
      let own_weight : weight_of left₀ (credited (at parents k) v wholes) k ≡ v
      = ap₂ min (sym same) (wholes_same k (le_refl k)) ∙ sym ev in
      record {
        given = given;
        done = suc inv.done;
        all = omega (arith, inv.all);
        held = holds_turn (length parents) (at parents) (at own) (weight_of left₀ (credited (at parents k) v wholes)) inv.done k (at wholes) (at (credited (at parents k) v wholes))
            (λ i l. inv.held i l
            ∙ ap (λ (x : ℕ). at own i + x)
            (up_cong inv.done (suc k) _ _ (λ m g h. ap (λ (x : ℕ). on (eqb (at parents m) (suc i)) (min (at left₀ m) x)) (sym (wholes_same m (omega arith))))))
            (λ i l. wholes_after i ∙ ap (λ (x : ℕ). at wholes i + on (eqb (at parents k) (suc i)) x) (sym own_weight));
        most = omega (arith, inv.most, sum-passed k (at parents k) v wholes rise (omega arith) in_wholes);
        settled = from_here (length parents) k _
            (record {
              left_is = omega (arith, get_or-set_same left k w 0 in_left, ev, same, wholes_same k (le_refl k));
              weight_is = ap (min (at weights' k)) (wholes_same k (le_refl k)) ∙ here ∙ sym own_weight;
              within = λ some. omega (arith, within some, wholes_same k (le_refl k));
              none = λ away. wholes_same k (le_refl k) ∙ none away;
            })
            (λ m g l.
            let s = inv.settled m g l in
            let stays : at (credited (at parents k) v wholes) m ≡ at wholes m = wholes_same m (omega arith) in
            record {
              left_is = get_or-set_other left k m w 0 (λ e. omega arith) ∙ s.left_is ∙ ap (λ (x : ℕ). at left₀ m - x) (sym stays);
              weight_is = ap₂ min (kept m g) stays ∙ s.weight_is ∙ ap (min (at left₀ m)) (sym stays);
              within = λ some. omega (arith, kept m g, stays, s.within some);
              none = λ away. stays ∙ s.none away;
            });
        left_kept = λ m l. get_or-set_other left k m w 0 (λ e. omega arith) ∙ inv.left_kept m (omega arith);
        left_size = length-set left k w ∙ inv.left_size;
        wholes_size = credited-length (at parents k) v wholes ∙ inv.wholes_size;
        weights_size = size ∙ inv.weights_size;
      }

  -- The turn of a node that is not active changes nothing: its children have no weight.
  turn_idle : (k : ℕ) (left wholes weights : List ℕ) → Absent active count k → at wholes k ≡ 0
      → Weighing parents active count left₀ own weights_length (suc k) left wholes weights
      → Weighing parents active count left₀ own weights_length k left wholes weights
  turn_idle k left wholes weights away a inv =
      let left_same : set left k (at left k - 0) ≡ left = ap (set left k) (sub-zero (at left k)) ∙ set-get_or left k 0 in
      rw (left_same, credited-nothing (at parents k) wholes)
      at (turned k left wholes weights 0 weights (omega arith) refl (λ m l. refl) (omega arith) (λ some. absurd (some away)) (λ _. a) inv)

-- ---- By the active nodes alone

-- Before the turn of the active node of entry i - 1.
pub record WeighTurn (parents active : List ℕ) (count : ℕ) (left₀ own : List ℕ) (weights_length i : ℕ) (left wholes weights : List ℕ) : Type 0 where
  pub n : ℕ
  pub parted : Parted active count i n
  pub weighing : Weighing parents active count left₀ own weights_length n left wholes weights

module _ {parents active : List ℕ} {count : ℕ} {left₀ own : List ℕ} where
  pub weigh_start : {weights : List ℕ} → MayWeigh parents active count left₀ own (length weights)
      → WeighTurn parents active count left₀ own (length weights) count left₀ own weights
  weigh_start {weights} given = record { n = length parents; parted = parted_all given.nodes; weighing = weighing_start weights given }

  module _ {weights_length i : ℕ} {left wholes weights : List ℕ} (t : WeighTurn parents active count left₀ own weights_length i left wholes weights) where
    given : MayWeigh parents active count left₀ own weights_length
    given = t.weighing.given

    -- Before and after the turn of a node that is not active, the lists are the same.
    abbrev Same : ℕ → Type 0
    Same m = Weighing parents active count left₀ own weights_length m left wholes weights

    pub passed : (m : ℕ) → Absent active count m → Same (suc m) → Same m
    passed m none r =
        let l : m < length parents = omega (arith, r.all) in
        let asks : at wholes m ≡ 0
        = omega (
          arith,
          holds_whole (length parents) (at parents) (at own) (weight_of left₀ wholes) given.rises r.done m (at wholes) r.all r.held,
          given.idle m l none,
          child_sum_none (length parents) (at parents) m (weight_of left₀ wholes) (λ k h e.
              let z : at wholes k ≡ 0 = (r.settled k (omega (arith, given.rises k h)) h).none (given.nodes.closed k m h e none) in omega arith),
        ) in
        turn_idle m left wholes weights none asks r

    pub weigh_end : i ≤ 0 → Weighed parents active count left₀ own left wholes weights
    weigh_end z =
        let e : i ≡ 0 = omega arith in
        let r : Same 0 = passed_down Same 0 t.n (omega arith) (λ h a b. passed h (between parted_none (rw e at t.parted) h a b)) t.weighing in
        record {
          children = λ n l. holds_end (length parents) (at parents) (at own) (weight_of left₀ wholes) r.done (at wholes) r.all r.held n l;
          left_is = λ n l. (r.settled n (omega arith) l).left_is;
          weights_are = λ n l. (r.settled n (omega arith) l).weight_is;
          listed = record {
            nodes = given.nodes;
            wholes_size = omega (arith, r.wholes_size, given.own_fit.0);
            weights_size = omega (arith, r.weights_size, given.weights_size);
            within = λ n l. (r.settled n (omega arith) l).within;
            idle = λ n l. (r.settled n (omega arith) l).none;
          };
        }

    -- The turn of the active node of entry i - 1.
    module _ (more : 0 < i) {n : ℕ} (is : n ≡ at active (i - 1)) where
      here : Same (suc n)
      here =
          let e : i - 1 + 1 ≡ i = omega arith in
          let s : at active (i - 1) + 1 ≡ suc n = omega arith in
          let after : Parted active count i (suc n) = rw (e, s) at (parted_after given.nodes (i - 1) (omega (arith, t.parted.reached))) in
          passed_down Same (suc n) t.n (omega (arith, t.parted.below (i - 1) (omega arith))) (λ h a b. passed h (between after t.parted h a b)) t.weighing

      pub in_parents : n < length parents
      in_parents = omega (arith, here.all)

      pub in_left : n < length left
      in_left = omega (arith, in_parents, here.left_size, given.left_size)

      pub in_wholes : n < length wholes
      in_wholes = omega (arith, in_parents, here.wholes_size, given.own_fit.0)

      pub in_weights : n < length weights
      in_weights = omega (arith, in_parents, here.weights_size, given.weights_size)

      -- The credit to the parent does not overflow.
      pub credit_fits : {parent v : ℕ} → parent ≡ at parents n → v ≤ at wholes n → (parent ≤ length wholes) × (at wholes (parent - 1) + v < 2 ^ 64)
      credit_fits ep ev =
          let rise = given.rises n in_parents in (
            omega (arith, in_wholes),
            omega (
              arith,
              here.most,
              given.own_fit.1,
              figure_in_sum (suc n) n wholes (omega arith),
              figure_in_sum (suc n) (at parents n - 1) wholes (omega arith),
              ap (λ (x : ℕ). at wholes (x - 1)) ep,
            ),
          )

      present : Present active count n
      present none = none (i - 1) (omega (arith, t.parted.reached)) (sym is)

      pub parted_here : Parted active count (i - 1) n
      parted_here = rw (sym is) at (parted_at given.nodes (i - 1) (omega (arith, t.parted.reached)))

      pub weighed_here : {v u w parent : ℕ} {left' wholes' : List ℕ} → v ≡ min (at left n) (at wholes n) → left' ≡ set left n (at left n - v) → u ≡ v → w ≡ v
          → parent ≡ at parents n → wholes' ≡ credited parent u wholes
          → Weighing parents active count left₀ own weights_length n left' wholes' (set weights n w)
      weighed_here {v} {u} {w} ev el eu ew ep es =
          let stored : at (set weights n w) n ≡ v = get_or-set_same weights n w 0 in_weights ∙ ew in
          rw (el, es, ep, eu)
          (turned n left wholes weights v (set weights n w) ev (length-set weights n w) (λ m l. get_or-set_other weights n m w 0 (λ e. omega arith))
          (omega (arith, stored)) (λ _. omega (arith, stored)) (λ away. absurd (present away)) here)

      pub weigh_turn : {v u w parent : ℕ} {left' wholes' : List ℕ} → v ≡ min (at left n) (at wholes n) → left' ≡ set left n (at left n - v) → u ≡ v → w ≡ v
          → parent ≡ at parents n → wholes' ≡ credited parent u wholes
          → WeighTurn parents active count left₀ own weights_length (i - 1) left' wholes' (set weights n w)
      weigh_turn ev el eu ew ep es = record { n = n; parted = parted_here; weighing = weighed_here ev el eu ew ep es }
