-- The turns of a rank's dealing to the nodes, from the first place to the last: a node's amount is set before any child of it is served.
use mathlib.Core.Path.{◌≡◌, refl, sym, ap, ap₂, subst, ◌∙◌}
use mathlib.Core.List.{List}
use Prim.Native.Nat.{ℕ, suc, ◌+◌, ◌*◌, ◌-◌, ◌≤◌, ◌<◌}
use native.Mathlib.Nat.{le_refl, le_trans}
use native.Mathlib.Numerals.{add-one}
use native.Mathlib.Omega.{arith}
use lib.Dec.{eqb}
use lib.ListN.{length, set, length-set}
use lib.Seq.{get_or-set_same, get_or-set_other}
use borrow.Author.Count.{below_more}
use borrow.Author.Tests.{eq-eqb, ne_eqb}
use Rattle.figures.specs.Sums.{on}
use Rattle.rooms.specs.Table.{most_watts, most_cords}
use Rattle.figures.proofs.Sums.{on_yes, on_no, sum_suc, sum_cong, sum_zero}
use Rattle.figures.specs.Figures.{at}
use Rattle.splits.specs.Split.{part}
use Rattle.deals.specs.Passes.{WeightsListed, weight_of, NodesDealt}
use Rattle.figures.specs.Places.{Absent, Present}
use Rattle.deals.specs.Levels.{ActiveNodes}
use Rattle.figures.proofs.Lists.{passed_up}
use Rattle.deals.proofs.Active.{Parted, parted_none, parted_all, parted_at, parted_after, between}
use Rattle.deals.proofs.NodeSums.{on_zero, sum-within, product_fits}
use Rattle.splits.proofs.Splits.{part_le}
use Rattle.splits.specs.Serving.{MayServe, HasServed}
use Rattle.splits.proofs.Serving.{Served, served_same, served_more, served_amount, served_part, served_next, may-serve}
use Rattle.rooms.specs.Trees.{ParentsFirst, child_sum}

-- What the pass takes of the nodes.
pub record NodesReady (parents active : List ℕ) (count : ℕ) (weights wholes : List ℕ) : Type 0 where
  pub rises : ParentsFirst (length parents) (at parents)
  pub listed : WeightsListed parents active count wholes weights
  pub bounds : (n : ℕ) → n < length parents
      → (weight_of weights wholes n ≤ most_watts)
      × (at wholes n ≤ most_cords * most_watts)
      × (child_sum (length parents) (at parents) n (weight_of weights wholes) ≤ at wholes n)

-- The weights of the children of the node at place n that stand before place m.
abbrev pub weights_before : List ℕ → List ℕ → List ℕ → ℕ → ℕ → ℕ
weights_before parents weights wholes m n = child_sum m (at parents) n (weight_of weights wholes)

-- The amount of the node at place h.
pub record NodeDealt (parents weights wholes amounts : List ℕ) (h : ℕ) : Type 0 where
  pub root : at parents h ≡ 0 → at amounts h ≡ weight_of weights wholes h
  pub inner : (n : ℕ) → at parents h ≡ suc n
      → at amounts h ≡ part (at amounts n) (at wholes n) (weights_before parents weights wholes h n) (weight_of weights wholes h)
  pub most : at amounts h ≤ weight_of weights wholes h

-- An active node that stands before place m.
abbrev Begun : List ℕ → ℕ → ℕ → ℕ → Type 0
Begun active count m n = (n < m) × Present active count n

-- Before the turn at place m: the active nodes before it have their amounts, and are served as children; the others have their weights.
pub record NodeTurn (parents active : List ℕ) (count : ℕ) (weights wholes : List ℕ) (size m : ℕ) (amounts before dealt : List ℕ) : Type 0 where
  pub ready : NodesReady parents active count weights wholes
  pub reached : m ≤ length parents
  pub amounts_size : length amounts ≡ length weights
  pub enough : length parents ≤ size
  pub nodes : (h : ℕ) → h < m → Present active count h → NodeDealt parents weights wholes amounts h
  pub kept : (h : ℕ) → m ≤ h → at amounts h ≡ at weights h
  pub served : Served size (Begun active count m) (at wholes) amounts (weights_before parents weights wholes m) before dealt

module _ {parents active : List ℕ} {count : ℕ} {weights wholes : List ℕ} {size : ℕ} where
  pub nodes_start : {before dealt : List ℕ} → NodesReady parents active count weights wholes → length parents ≤ size
      → length before ≡ size
      → length dealt ≡ size
      → NodeTurn parents active count weights wholes size 0 weights before dealt
  nodes_start ready e b d = record {
    ready = ready;
    reached = omega arith;
    amounts_size = refl;
    enough = e;
    nodes = λ h l. absurd (omega arith);
    kept = λ h l. refl;
    served = record {
      before_size = b;
      dealt_size = d;
      before_is = λ n h. absurd (omega (arith, h.0));
      dealt_is = λ n h. absurd (omega (arith, h.0));
    };
  }

  nodes-end : {m : ℕ} {amounts before dealt : List ℕ} → NodeTurn parents active count weights wholes size m amounts before dealt → length parents ≤ m
      → NodesDealt parents active count (weight_of weights wholes) wholes amounts before dealt
  nodes-end {m} turn end =
      let e : m ≡ length parents = omega (arith, turn.reached) in
      record {
        root = λ h l some. (turn.nodes h (le_trans l end) some).root;
        inner = λ h n l some. (turn.nodes h (le_trans l end) some).inner n;
        most = λ h l some. (turn.nodes h (le_trans l end) some).most;
        served = λ n l some. turn.served.before_is n (le_trans l end, some) ∙ ap (λ (k : ℕ). child_sum k (at parents) n (weight_of weights wholes)) e;
        dealt_is = λ n l some. turn.served.dealt_is n (le_trans l end, some);
      }

  module _ {m : ℕ} {amounts before dealt : List ℕ} (turn : NodeTurn parents active count weights wholes size m amounts before dealt) (more : m < length parents) where
    -- The node's children stand after it.
    children_none : (k : ℕ) → k ≤ m + 1 → weights_before parents weights wholes k m ≡ 0
    children_none k h =
        sum_cong k (λ i. on (eqb (at parents i) (suc m)) (weight_of weights wholes i)) (λ i. 0) (λ i l. on_no (eqb (at parents i) (suc m)) (weight_of weights wholes i) (ne_eqb (at parents i) (suc m) (λ e. omega (arith, turn.ready.rises i (omega arith)))))
        ∙ sum_zero k

    -- The node's own figures are begun.
    begun : Served size (Begun active count (m + 1)) (at wholes) amounts (weights_before parents weights wholes m) (set before m 0) (set dealt m 0)
    begun = served_more turn.served (Begun active count (m + 1)) m (omega (arith, turn.enough)) (children_none m (omega arith)) (λ n other h. (omega (arith, h.0), h.1))

    weights_next : (n : ℕ)
        → weights_before parents weights wholes (m + 1) n ≡ weights_before parents weights wholes m n + on (eqb (at parents m) (suc n)) (weight_of weights wholes m)
    weights_next n =
        ap (λ (k : ℕ). child_sum k (at parents) n (weight_of weights wholes)) (add-one m)
        ∙ sum_suc m (λ h. on (eqb (at parents h) (suc n)) (weight_of weights wholes h))

    -- The node's amount stands in its place.
    module _ {amounts' : List ℕ} (amounts_kept : (h : ℕ) → (h ≡ m → ⊥) → at amounts' h ≡ at amounts h) (same_size : length amounts' ≡ length amounts) where
      node_kept : (h : ℕ) → h < m → Present active count h → NodeDealt parents weights wholes amounts' h
      node_kept h l some =
          let node = turn.nodes h l some in
          let stays : (k : ℕ) → k < m → at amounts' k ≡ at amounts k = λ k g. amounts_kept k (λ e. omega arith) in
          record {
            root = λ z. stays h l ∙ node.root z;
            inner = λ n z. stays h l
                ∙ node.inner n z
                ∙ ap (λ (x : ℕ). part x (at wholes n) (weights_before parents weights wholes h n) (weight_of weights wholes h)) (sym (stays n (omega (arith, turn.ready.rises h (omega arith)))));
            most = omega (arith, stays h l, node.most);
          }

      node_next : {before' dealt' : List ℕ} → NodeDealt parents weights wholes amounts' m
          → Served size (Begun active count (m + 1)) (at wholes) amounts' (weights_before parents weights wholes (m + 1)) before' dealt'
          → NodeTurn parents active count weights wholes size (m + 1) amounts' before' dealt'
      node_next node served =
          record {
            ready = turn.ready;
            reached = omega arith;
            amounts_size = same_size ∙ turn.amounts_size;
            enough = turn.enough;
            nodes = below_more (λ h. Present active count h → NodeDealt parents weights wholes amounts' h) m node_kept (λ some. node);
            kept = λ h l. amounts_kept h (λ e. omega arith) ∙ turn.kept h (omega arith);
            served = served;
          }

    module _ (some : Present active count m) (w parent : ℕ) (w_is : w ≡ at amounts m) (parent_is : parent ≡ at parents m) where
      weight_is : w ≡ weight_of weights wholes m
      weight_is = omega (arith, turn.kept m (le_refl m), turn.ready.listed.within m more some)

      pub root_next : {amounts' before' dealt' : List ℕ} → parent ≡ 0 → amounts' ≡ amounts → before' ≡ set before m 0 → dealt' ≡ set dealt m 0
          → NodeTurn parents active count weights wholes size (m + 1) amounts' before' dealt'
      root_next top e b d =
          rw e
          (node_next (λ h other. refl) refl
          (record {
            root = λ z. sym w_is ∙ weight_is;
            inner = λ n z. absurd (omega arith);
            most = omega (arith, weight_is);
          })
          (served_same begun (weights_before parents weights wholes (m + 1))
          (λ n. omega (arith, weights_next n, on_no (eqb (at parents m) (suc n)) (weight_of weights wholes m) (ne_eqb (at parents m) (suc n) (λ q. omega arith))))
          b d))

      module _ (has_parent : parent ≡ 0 → ⊥) where
        hangs : at parents m ≡ suc (parent - 1)
        hangs = omega (arith, has_parent)

        earlier : parent - 1 < m
        earlier = omega (arith, hangs, turn.ready.rises m more)

        pub parent_within : parent - 1 < length parents
        parent_within = omega (arith, earlier)

        parent_served : parent - 1 < size
        parent_served = omega (arith, parent_within, turn.enough)

        -- The parent is active too.
        parent_begun : Begun active count (m + 1) (parent - 1)
        parent_begun = (omega (arith, earlier), λ none. some (turn.ready.listed.nodes.closed m (parent - 1) more hangs none))

        parent-most : at amounts (parent - 1) ≤ weight_of weights wholes (parent - 1)
        parent-most = (turn.nodes (parent - 1) earlier parent_begun.1).most

        -- The parent's amount is within what its children's weights sum to.
        parent_inside : at amounts (parent - 1) ≤ at wholes (parent - 1)
        parent_inside = omega (arith, parent-most)

        room : weights_before parents weights wholes m (parent - 1) + w ≤ at wholes (parent - 1)
        room =
            omega (
              arith,
              sum-within m (length parents) (λ h. on (eqb (at parents h) (suc (parent - 1))) (weight_of weights wholes h)) more,
              on_yes (eqb (at parents m) (suc (parent - 1))) (weight_of weights wholes m) (eq-eqb (at parents m) (suc (parent - 1)) hangs),
              weight_is,
              (turn.ready.bounds (parent - 1) parent_within).2,
            )

        -- What `serve` asks at the parent.
        pub node_may_serve : MayServe (at amounts (parent - 1)) (at wholes (parent - 1)) w (parent - 1) (set before m 0) (set dealt m 0)
        node_may_serve =
            may-serve begun (parent - 1) w parent_served parent_begun room
            (product_fits (at amounts (parent - 1)) (at wholes (parent - 1))
            (omega (arith, parent-most, (turn.ready.bounds (parent - 1) parent_within).0))
            (turn.ready.bounds (parent - 1) parent_within).1)

        pub inner_next : (watts : ℕ) {amounts' before' dealt' : List ℕ}
            → HasServed (at amounts (parent - 1)) (at wholes (parent - 1)) w (parent - 1) (set before m 0) (set dealt m 0) watts before' dealt'
            → amounts' ≡ set amounts m watts
            → NodeTurn parents active count weights wholes size (m + 1) amounts' before' dealt'
        inner_next watts {amounts'} has e =
            let p : ℕ = parent - 1 in
            let stored : at amounts' m ≡ watts = ap (λ (l : List ℕ). at l m) e ∙ get_or-set_same amounts m watts 0 (omega (arith, turn.amounts_size, turn.ready.listed.weights_size)) in
            let stays : (h : ℕ) → (h ≡ m → ⊥) → at amounts' h ≡ at amounts h = λ h other. ap (λ (k : List ℕ). at k h) e ∙ get_or-set_other amounts m h watts 0 other in
            let x : at amounts' m ≡ part (at amounts p) (at wholes p) (weights_before parents weights wholes m p) w
            = stored ∙ has.watts_are ∙ served_part begun p w parent_served parent_begun in
            let y : at amounts' m ≡ part (at amounts' p) (at wholes p) (weights_before parents weights wholes m p) (weight_of weights wholes m)
            = x
            ∙ ap₂ (λ (z u : ℕ). part z (at wholes p) (weights_before parents weights wholes m p) u) (sym (stays p (λ q. omega (arith, earlier)))) weight_is in
            node_next stays (ap length e ∙ length-set amounts m watts)
            (record {
              root = λ z. absurd (omega (arith, hangs));
              inner = λ n z. subst (λ (k : ℕ). at amounts' m ≡ part (at amounts' k) (at wholes k) (weights_before parents weights wholes m k) (weight_of weights wholes m)) (omega (arith, hangs)) y;
              most = omega (arith, x, part_le (at amounts p) (at wholes p) (weights_before parents weights wholes m p) w parent_inside, weight_is);
            })
            (served_amount
            (served_next begun p w parent_served parent_begun (weights_before parents weights wholes (m + 1))
            (λ n. weights_next n ∙ ap₂ (λ (k u : ℕ). weights_before parents weights wholes m n + on (eqb k (suc n)) u) hangs (sym weight_is))
            has) m watts e (children_none (m + 1) (omega arith)))

    -- The turn of a node that is not active changes nothing: it has no weight.
    pub turn_idle : Absent active count m → NodeTurn parents active count weights wholes size (m + 1) amounts before dealt
    turn_idle none =
        record {
          ready = turn.ready;
          reached = omega arith;
          amounts_size = turn.amounts_size;
          enough = turn.enough;
          kept = λ h l. turn.kept h (omega arith);
          nodes = below_more (λ h. Present active count h → NodeDealt parents weights wholes amounts h) m turn.nodes (λ some. absurd (some none));
          served = record {
            before_size = turn.served.before_size;
            dealt_size = turn.served.dealt_size;
            before_is = λ n h. turn.served.before_is n (earlier n h) ∙ sym (same n);
            dealt_is = λ n h. turn.served.dealt_is n (earlier n h);
          };
        }
      where
        earlier : (n : ℕ) → Begun active count (m + 1) n → Begun active count m n
        earlier n h = (below_more (λ k. Present active count k → k < m) m (λ k l some. l) (λ some. absurd (some none)) n h.0 h.1, h.1)

        same : (n : ℕ) → weights_before parents weights wholes (m + 1) n ≡ weights_before parents weights wholes m n
        same n =
            let w : weight_of weights wholes m ≡ 0 = omega (arith, turn.ready.listed.idle m more none) in
            omega (arith, weights_next n, on_zero (eqb (at parents m) (suc n)) (weight_of weights wholes m) w)

-- ---- By the active nodes alone

-- Before the turn of the active node of entry i.
pub record DealTurn (parents active : List ℕ) (count : ℕ) (weights wholes : List ℕ) (size i : ℕ) (amounts before dealt : List ℕ) : Type 0 where
  pub m : ℕ
  pub parted : Parted active count i m
  pub turn : NodeTurn parents active count weights wholes size m amounts before dealt

module _ {parents active : List ℕ} {count : ℕ} {weights wholes : List ℕ} {size : ℕ} where
  pub deal_start : {amounts before dealt : List ℕ} → NodeTurn parents active count weights wholes size 0 amounts before dealt
      → DealTurn parents active count weights wholes size 0 amounts before dealt
  deal_start turn = record { m = 0; parted = parted_none; turn = turn }

  module _ {i : ℕ} {amounts before dealt : List ℕ} (t : DealTurn parents active count weights wholes size i amounts before dealt) where
    nodes : ActiveNodes parents active count
    nodes = t.turn.ready.listed.nodes

    passed : (n : ℕ) → Parted active count i n → t.m ≤ n → n ≤ length parents → NodeTurn parents active count weights wholes size n amounts before dealt
    passed n parted l within =
        passed_up (λ h. NodeTurn parents active count weights wholes size h amounts before dealt) t.m n l
        (λ h a b turn. turn_idle turn (omega arith) (between t.parted parted h a b))
        t.turn

    pub deal_end : count ≤ i → NodesDealt parents active count (weight_of weights wholes) wholes amounts before dealt
    deal_end end =
        let e : count ≡ i = omega (arith, t.parted.reached) in
        let all : Parted active count i (length parents) = subst (λ (k : ℕ). Parted active count k (length parents)) e (parted_all nodes) in
        nodes-end (passed (length parents) all t.turn.reached (le_refl (length parents))) (le_refl (length parents))

    -- The turn of the active node of entry i.
    module _ (more : i < count) {n : ℕ} (is : n ≡ at active i) where
      pub deal_within : n < length parents
      deal_within = omega (arith, nodes.within i more)

      pub deal_present : Present active count n
      deal_present none = none i more (sym is)

      pub deal_here : NodeTurn parents active count weights wholes size n amounts before dealt
      deal_here =
          let parted : Parted active count i n = rw (sym is) at (parted_at nodes i more) in
          passed n parted (omega (arith, t.parted.from i (le_refl i) more)) (omega (arith, deal_within))

      pub deal_next : {amounts' before' dealt' : List ℕ} → NodeTurn parents active count weights wholes size (n + 1) amounts' before' dealt'
          → DealTurn parents active count weights wholes size (i + 1) amounts' before' dealt'
      deal_next turn = record { m = n + 1; parted = rw (sym is) at (parted_after nodes i more); turn = turn }
