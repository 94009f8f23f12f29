-- A deal made rank by rank, in lists: what a rank's passes leave is what the deal's definition says of that rank.
use mathlib.Core.Path.{◌≡◌, refl, sym, ap, ap₂, ◌∙◌, subst}
use mathlib.Core.Bool.{Bool, true, false}
use mathlib.Core.List.{List}
use mathlib.Core.Logic.{⊎_elim}
use Prim.Native.Nat.{ℕ, zero, suc, ◌+◌, ◌-◌, ◌*◌, ◌/◌, ◌≤◌, ◌<◌, min}
use native.Mathlib.Nat.{eq-or-lt_of_le, le_trans, le_of_eq, le_refl, add_comm, mul-le-mul_right}
use native.Mathlib.Omega.{arith}
use lib.Dec.{eqb, ltb}
use lib.ListN.{length}
use lib.Seq.{ext_get_or}
use borrow.Author.Tests.{ne_eqb, eqb-true, eqb-false, le-ltb}
use Rattle.figures.specs.Sums.{on, sum}
use Rattle.rooms.specs.Table.{most_watts, most_cords, highest_rank}
use Rattle.rooms.specs.Trees.{beneath, sum_beneath, child_sum}
use Rattle.rooms.specs.Credits.{tree_sum}
use Rattle.figures.proofs.Sums.{on_comm, on_no, sum_cong, sum_zero, sum_suc, sum_le, sum_none, up, up_suc}
use Rattle.rooms.proofs.Trees.{child_sum_cong, down, rise, child_sum_none}
use Rattle.rooms.proofs.Credits.{tree_sum_step}
use Rattle.figures.specs.Figures.{at, cell}
use Rattle.deals.specs.Metrics.{Deal, deal_from, metrics, at_level}
use Rattle.splits.specs.Split.{part}
use Rattle.deals.specs.Dealing.{granted, reached}
use Rattle.deals.specs.Held.{cut_at}
use Rattle.deals.specs.Ranks.{NodeLists, CordLists, DealLists, Spare, list_beneath, DealMade}
use Rattle.deals.proofs.Cuts.{Marked, ltb_cong, marked_start, marked_turn, marked_skip}
use Rattle.deals.specs.Passes.{listed_before, over_listed, cord_weight, NodesDealt, CordsDealt}
use Rattle.deals.proofs.Gathered.{request_weight, Gathered}
use Rattle.figures.specs.Places.{Present, Zeros}
use Rattle.deals.specs.Levels.{ActiveNodes, CordsActive, CordsOf}
use Rattle.deals.proofs.Ordering.{listed-before, listed_all}
use Rattle.figures.proofs.Lists.{figures-length}
use Rattle.deals.proofs.Amounts.{child_cords_most}
use Rattle.deals.proofs.Requests.{Dealable, later, deal_beneath, asked, request_asked, deal_beneath_unique, deal_beneath_all}
use Rattle.deals.proofs.Equations.{Dealt, weights, weights_are, pcapmin_starts}
use Rattle.deals.proofs.Computed.{pcapmin, request, starts_of, amount_of, measured, dealt, granted-at, Startable}
use Rattle.deals.proofs.Bounds.{asked_most, request_most}
use Rattle.deals.proofs.Totals.{request_total_is, starts_below_is}
use Rattle.deals.proofs.NodeSums.{on_zero}

-- What is left before a level is what the limit has over the Requests of the higher ones and the starts of this one and the lower ones. The
-- definition's bracket has Pcapmin, which is no more, in the place of the starts of the lower levels. Where the bracket counts, the
-- Request takes what the starts leave, since it leaves them theirs.
row_left : (limit higher lower starts start left whole request : ℕ) → lower ≤ starts → left + higher + (starts + start) ≡ limit
    → request ≡ min (limit - higher - lower) (whole + start) → starts + (request + higher) ≤ limit → request ≡ start + min left whole
row_left limit higher lower starts start left whole request less is row fits = omega arith

-- ---- One rank of a deal, over functions of the places

-- Whether a node is cut, by what its children ask.
cut_is : (d : Deal) (n j : ℕ) → cut_at d (metrics d) n j ≡ ltb (request d n j) (asked d (request d) n j)
unfolding request asked
cut_is d n j = refl

module _ (d : Deal) (ok : Dealable d) where
  open d use {nodes, parent, limit, cords, node, level, want, start, levels}

  -- What sums a figure of a level's cords over each node's children is, at each node, the sum over the nodes beneath of what hangs on each.
  pub beneath-sum : (figure : ℕ → ℕ) (sums : ℕ → ℕ → ℕ) (j : ℕ)
      → ((n : ℕ) → n < nodes → sums n j ≡ child_sum nodes parent n (λ m. sums m j) + child_sum cords node n (at_level d j figure))
      → (n : ℕ) → n < nodes → sums n j ≡ tree_sum parent nodes (λ m. child_sum cords node m (at_level d j figure)) n
  beneath-sum figure sums j by_children = down nodes (λ n. sums n j ≡ tree_sum parent nodes (λ m. child_sum cords node m (at_level d j figure)) n) (λ n l ih.
      let f : ℕ → ℕ = λ m. child_sum cords node m (at_level d j figure) in
      let k : child_sum nodes parent n (λ m. sums m j) ≡ child_sum nodes parent n (tree_sum parent nodes f)
      = child_sum_cong nodes parent n _ _ (λ m lm q. ih m lm (subst (λ (z : ℕ). z ≤ m) q (ok.rises m lm))) in
      omega (arith, by_children n l, tree_sum_step nodes parent ok.rises f n l))

  -- The starts beneath a node, over all levels.
  pub starts_all : (n : ℕ) → n < nodes → sum levels (starts_of d n) ≡ deal_beneath d n start
  starts_all n l =
      sum_cong levels _ _ (λ j h. deal_beneath_unique d ok (at_level d j start) (λ m. starts_of d m j) (λ m lm. (dealt d ok).starts m j lm h ∙ add_comm _ _) n l)
      ∙ deal_beneath_all d ok n start

  -- A level that no cord has: no starts and no Request, and no node is cut there.
  module _ (j : ℕ) (h : j < levels) (none : (c : ℕ) → c < cords → level c ≡ j → ⊥) where
    child_cords_none : (f : ℕ → ℕ) (n : ℕ) → child_sum cords node n (at_level d j f) ≡ 0
    child_cords_none f n = sum_cong cords _ _ (λ c l. zero_at c l) ∙ sum_zero cords
      where
        zero_at : (c : ℕ) → c < cords → on (eqb (node c) (suc n)) (at_level d j f c) ≡ 0
        zero_at c l = on_zero (eqb (node c) (suc n)) (at_level d j f c) (on_no (eqb (level c) j) (f c) (ne_eqb (level c) j (none c l)))

    pub starts_none : (n : ℕ) → n < nodes → starts_of d n j ≡ 0
    starts_none = down nodes (λ n. starts_of d n j ≡ 0) (λ n l ih.
        omega (arith, (dealt d ok).starts n j l h, child_cords_none start n, child_sum_none nodes parent n (λ m. starts_of d m j) (λ m lm q. ih m lm (later d ok m n lm q))))

    asked_none : (n : ℕ) → n < nodes → ((m : ℕ) → m < nodes → n < m → request d m j ≡ 0) → asked d (request d) n j ≡ 0
    unfolding asked
    asked_none n l none_below =
        omega (arith, child_cords_none want n, child_sum_none nodes parent n (λ m. request d m j) (λ m lm q. none_below m lm (later d ok m n lm q)))

    pub request_none : (n : ℕ) → n < nodes → request d n j ≡ 0
    request_none = down nodes (λ n. request d n j ≡ 0) (λ n l ih.
        omega (arith, request_asked d ok (pcapmin d) (request d) (measured d ok) n l j h, asked_none n l ih))

    pub cut_none : (n : ℕ) → n < nodes → cut_at d (metrics d) n j ≡ false
    cut_none n l = cut_is d n j ∙ le-ltb (request d n j) (asked d (request d) n j) (omega (arith, asked_none n l (λ m lm q. request_none m lm)))

-- ---- The deal of lists

module _ (parents limits nodes levels lows starts wants : List ℕ) (lists : DealLists parents limits nodes levels lows starts wants) where
  ns : NodeLists parents limits
  ns = lists.of_nodes

  cs : CordLists (length parents) nodes levels lows starts wants
  cs = lists.of_cords

  abbrev the_deal : Deal
  the_deal = deal_from parents limits nodes levels lows starts wants

  pub dealable : Dealable the_deal
  unfolding deal_from sum_beneath
  dealable = record {
    rises = ns.rises;
    here = cs.within;
    hangs = λ c l. omega (arith, cs.hangs c l);
    ranks = cs.ranked;
    wants = λ c l. le_trans (cs.least c l) (cs.ordered c l);
    lows = lists.lows-within;
  }

  abbrev pcap : ℕ → ℕ → ℕ
  pcap = pcapmin the_deal

  abbrev req : ℕ → ℕ → ℕ
  req = request the_deal

  abbrev base : ℕ → ℕ → ℕ
  base = starts_of the_deal

  -- What the deal asks of its starts, and its equations.
  started : Startable the_deal
  unfolding deal_from starts_of request
  started = record { least = cs.least; most = cs.ordered; within = lists.starts_within }

  equations : Dealt the_deal base req (amount_of the_deal) (reached the_deal (metrics the_deal))
  equations = dealt the_deal dealable

  -- The Requests of a level and above leave the lower levels their starts.
  starts_left : (n : ℕ) → n < length parents → (k j : ℕ) → suc j + k ≡ highest_rank → sum j (base n) + (req n j + up k (suc j) (req n)) ≤ at limits n
  unfolding deal_from
  starts_left n l k j e =
      omega (
        arith,
        lists.starts_fit n j l (omega arith),
        starts_below_is the_deal n l j (omega arith),
        request_total_is the_deal n l (suc k) j (omega arith),
        up_suc k j (req n),
      )

  -- Those starts are no less than the Pcapmin of the lower levels.
  lower_starts : (n j : ℕ) → n < length parents → j < highest_rank → sum j (pcap n) ≤ sum j (base n)
  unfolding deal_from
  lower_starts n j l h =
      sum_le j (pcap n) (base n) (λ i below.
      pcapmin_starts the_deal dealable (pcapmin the_deal) (request the_deal) (measured the_deal dealable) (starts_of the_deal) (amount_of the_deal) (reached the_deal (metrics the_deal)) started equations n i l (omega arith))

  -- What the children ask is their weights and the starts.
  asked_is : (n j : ℕ) → n < length parents → j < highest_rank → weights the_deal base req n j + base n j ≡ asked the_deal req n j
  unfolding deal_from
  asked_is = weights_are the_deal dealable (pcapmin the_deal) (request the_deal) (measured the_deal dealable) (starts_of the_deal) (amount_of the_deal) (reached the_deal (metrics the_deal)) started equations

  -- A node's Request is its starts and the lesser of what is left and of its children's weights.
  request_is : (n : ℕ) → n < length parents → (k j : ℕ) → suc j + k ≡ highest_rank → (left : ℕ)
      → left + up k (suc j) (req n) + sum (suc j) (base n) ≡ at limits n → req n j ≡ base n j + min left (weights the_deal base req n j)
  unfolding deal_from
  request_is n l k j e left is =
      row_left (at limits n) (up k (suc j) (req n)) (sum j (pcap n)) (sum j (base n)) (base n j) left (weights the_deal base req n j) (req n j)
      (lower_starts n j l (omega arith))
      (ap (λ (z : ℕ). left + up k (suc j) (req n) + z) (sym (sum_suc j (base n))) ∙ is)
      ((measured the_deal dealable).request n l k j e ∙ ap (λ (z : ℕ). min (at limits n - up k (suc j) (req n) - sum j (pcap n)) z) (sym (asked_is n j l (omega arith))))
      (starts_left n l k j e)

  -- Before the ranks below `above`: what the ranks dealt and the starts of those to come leave of each limit, the Requests of the ranks
  -- dealt, in the rows, where they cut a node, and their cords' grants.
  pub record State (above : ℕ) (rows : List (List ℕ)) (left cuts grants : List ℕ) : Type 0 where
    pub higher : ℕ
    pub sum_is : above + higher ≡ highest_rank
    pub left_is : (n : ℕ) → n < length parents → at left n + up higher above (req n) + sum above (base n) ≡ at limits n
    pub cuts_are : (n : ℕ) → n < length parents → Marked the_deal above n (at cuts n)
    pub filled : (n j : ℕ) → n < length parents → above ≤ j → j < highest_rank → cell rows n j ≡ req n j
    pub grants_are : (c : ℕ) → c < length nodes → above ≤ at levels c → at grants c ≡ at (granted the_deal) c

  -- Before the first rank.
  pub state_start : (rows : List (List ℕ)) (left cuts grants : List ℕ) → Spare parents limits nodes starts left → Zeros (length parents) cuts → State highest_rank rows left cuts grants
  unfolding deal_from sum_beneath up
  state_start rows left cuts grants spare uncut = record {
    higher = 0;
    sum_is = omega arith;
    left_is = λ n l.
        let e : list_beneath parents nodes starts n ≡ sum highest_rank (base n) = sym (starts_all the_deal dealable n l) in
        omega (arith, spare.over n l);
    cuts_are = λ n l. subst (Marked the_deal highest_rank n) (sym (uncut.none n l)) (marked_start the_deal n);
    filled = λ n j l a b. absurd (omega arith);
    grants_are = λ c l h. absurd (omega (arith, cs.ranked c l));
  }

  -- After the last.
  pub state_end : {rows : List (List ℕ)} {left cuts grants : List ℕ} → length grants ≡ length nodes → State 0 rows left cuts grants → DealMade the_deal left cuts grants
  unfolding deal_from granted request
  state_end {grants = grants} size s = record {
    grants_are = ext_get_or 0 grants (granted the_deal) (size ∙ sym (figures-length (length nodes) _)) (λ c l. s.grants_are c (omega arith) (omega arith));
    left_is = λ n l. omega (arith, s.left_is n l, sum_none (base n), request_total_is the_deal n l s.higher 0 s.sum_is);
    cuts_are = λ n j l b. (s.cuts_are n l).cut_is j (omega arith) (omega arith);
  }

  -- ---- A level that no cord has

  module _ (j : ℕ) {rows : List (List ℕ)} {left cuts grants : List ℕ} (none : (c : ℕ) → c < length nodes → at levels c ≡ j → ⊥)
      (blank : (n : ℕ) → n < length parents → cell rows n j ≡ 0) (s : State (suc j) rows left cuts grants) where
    pub state_skip : State j rows left cuts grants
    unfolding deal_from
    state_skip = record {
      higher = suc s.higher;
      sum_is = omega (arith, s.sum_is);
      left_is = λ n l. omega (
        arith,
        s.left_is n l,
        up_suc s.higher j (req n),
        sum_suc j (base n),
        request_none the_deal dealable j (omega (arith, s.sum_is)) none n l,
        starts_none the_deal dealable j (omega (arith, s.sum_is)) none n l,
      );
      cuts_are = λ n l. marked_skip the_deal n j (omega (arith, s.sum_is)) (s.cuts_are n l) (cut_none the_deal dealable j (omega (arith, s.sum_is)) none n l);
      filled = λ n i l a b.
          ⊎_elim
          (λ e. subst (λ (k : ℕ). cell rows n k ≡ req n k) e (blank n l ∙ sym (request_none the_deal dealable j (omega (arith, s.sum_is)) none n l)))
          (λ more. s.filled n i l more b)
          (eq-or-lt_of_le a);
      grants_are = λ c l h. go c l (eqb (at levels c) j) refl h;
    }
      where
        go : (c : ℕ) → c < length nodes → (t : Bool) → eqb (at levels c) j ≡ t → j ≤ at levels c → at grants c ≡ at (granted the_deal) c
        go c l true e h = absurd (none c l (eqb-true (at levels c) j e))
        go c l false e h = s.grants_are c l (let q : at levels c ≡ j → ⊥ = eqb-false (at levels c) j e in omega arith)

  -- ---- A level that some cord has: what its passes ask, and what they leave

  -- A figure of the level's cords on the node at place n that stand before place k.
  abbrev of_level : ℕ → (ℕ → ℕ) → ℕ → ℕ → ℕ
  of_level j figure n k = sum k (λ c. on (eqb (at nodes c) (suc n)) (on (eqb (at levels c) j) (figure c)))

  module _ (j : ℕ) {rows₀ : List (List ℕ)} {left cuts grants : List ℕ} (s : State (suc j) rows₀ left cuts grants) (listed : List ℕ) (of : CordsOf levels j listed) where
    level_fits : j < highest_rank
    level_fits = omega (arith, s.sum_is)

    -- Sums over the list are sums over all cords.
    listed_level : (figure : ℕ → ℕ) (n : ℕ) → over_listed listed nodes figure n ≡ of_level j figure n (length nodes)
    listed_level figure n =
        listed_all of (λ c. on (eqb (at nodes c) (suc n)) (figure c))
        ∙ ap (λ (k : ℕ). sum k (λ c. on (eqb (at levels c) j) (on (eqb (at nodes c) (suc n)) (figure c)))) cs.levels_size
        ∙ sum_cong (length nodes) _ _ (λ c l. on_comm (eqb (at levels c) j) (eqb (at nodes c) (suc n)) (figure c))

    listed_level_before : (figure : ℕ → ℕ) (n i : ℕ) → i < length listed → listed_before listed nodes figure n i ≡ of_level j figure n (at listed i)
    listed_level_before figure n i h =
        listed-before of (λ c. on (eqb (at nodes c) (suc n)) (figure c)) i h
        ∙ sum_cong (at listed i) _ _ (λ c l. on_comm (eqb (at levels c) j) (eqb (at nodes c) (suc n)) (figure c))

    module _ (starts₀ weights₀ : List ℕ)
        (own_starts : (n : ℕ) → n < length parents → at starts₀ n ≡ over_listed listed nodes (at starts) n)
        (own_weights : (n : ℕ) → n < length parents → at weights₀ n ≡ over_listed listed nodes (cord_weight starts wants) n) where
      level_most : (figure : ℕ → ℕ) → ((c : ℕ) → c < length nodes → figure c ≤ most_watts) → (c : ℕ) → c < length nodes → on (eqb (at levels c) j) (figure c) ≤ most_watts
      level_most figure h c l = go (eqb (at levels c) j)
        where
          go : (t : Bool) → on t (figure c) ≤ most_watts
          go true = h c l
          go false = omega arith

      figures-sum : (list : List ℕ) (figure : ℕ → ℕ) → ((n : ℕ) → n < length parents → at list n ≡ over_listed listed nodes figure n)
          → ((c : ℕ) → c < length nodes → figure c ≤ most_watts) → sum (length parents) (at list) ≤ most_cords * most_watts
      unfolding deal_from
      figures-sum list figure is most =
          le_trans (le_of_eq (sum_cong (length parents) _ _ (λ n l. is n l ∙ listed_level figure n)))
          (le_trans (child_cords_most (length parents) (length nodes) (at nodes) dealable.hangs dealable.here (at_level the_deal j figure) most_watts (level_most figure most)) (mul-le-mul_right most_watts cs.few))

      pub sums_most : (sum (length parents) (at starts₀) ≤ most_cords * most_watts) × (sum (length parents) (at weights₀) ≤ most_cords * most_watts)
      sums_most = (
        figures-sum starts₀ (at starts) own_starts (λ c l. omega (arith, cs.ordered c l, cs.most c l)),
        figures-sum weights₀ (cord_weight starts wants) own_weights (λ c l. omega (arith, cs.most c l)),
      )

      beneath_is : (list : List ℕ) (figure : ℕ → ℕ) (sums : ℕ → ℕ → ℕ) → ((n : ℕ) → n < length parents → at list n ≡ over_listed listed nodes figure n)
          → ((n : ℕ) → n < length parents → sums n j ≡ child_sum (length parents) (at parents) n (λ m. sums m j) + child_sum (length nodes) (at nodes) n (at_level the_deal j figure))
          → (n : ℕ) → n < length parents → tree_sum (at parents) (length parents) (at list) n ≡ sums n j
      unfolding deal_from sum_beneath
      beneath_is list figure sums is by_children n l =
          sum_cong (length parents) _ _ (λ m h. ap (λ (z : ℕ). on (beneath (at parents) (length parents) n (suc m)) z) (is m h ∙ listed_level figure m))
          ∙ sym (beneath-sum the_deal dealable figure sums j by_children n l)

      starts_beneath : (n : ℕ) → n < length parents → tree_sum (at parents) (length parents) (at starts₀) n ≡ base n j
      unfolding deal_from
      starts_beneath = beneath_is starts₀ (at starts) base own_starts (λ n l. equations.starts n j l level_fits)

      pub gather_asks : (n : ℕ) → n < length parents → at left n + tree_sum (at parents) (length parents) (at starts₀) n ≤ most_watts
      gather_asks n l = omega (arith, starts_beneath n l, s.left_is n l, sum_suc j (base n), ns.most n l)

      module _ (rows' : List (List ℕ)) (left' cuts' wholes : List ℕ) (g : Gathered parents j left cuts starts₀ weights₀ rows₀ left' cuts' wholes rows') where
        -- The starts beneath each node.
        abbrev bases : ℕ → ℕ
        bases = tree_sum (at parents) (length parents) (at starts₀)

        bases_are : (n : ℕ) → n < length parents → bases n ≡ base n j
        bases_are = starts_beneath

        -- The children's weights, once those of the child nodes are the deal's.
        whole_by : (n : ℕ) → n < length parents → ((m : ℕ) → m < length parents → n < m → cell rows' m j ≡ req m j) → at wholes n ≡ weights the_deal base req n j
        unfolding deal_from weights
        whole_by n l ih =
            let c : child_sum (length parents) (at parents) n (request_weight rows' j bases) ≡ child_sum (length parents) (at parents) n (λ m. req m j - base m j)
            = child_sum_cong (length parents) (at parents) n _ _ (λ m lm q. ap₂ ◌-◌ (ih m lm (subst (λ (z : ℕ). z ≤ m) q (ns.rises m lm))) (bases_are m lm)) in
            omega (arith, g.children n l, own_weights n l, listed_level (cord_weight starts wants) n)

        request_left : (n : ℕ) → n < length parents → req n j ≡ base n j + min (at left n) (weights the_deal base req n j)
        request_left n l = request_is n l s.higher j s.sum_is (at left n) (s.left_is n l)

        requests_are : (n : ℕ) → n < length parents → cell rows' n j ≡ req n j
        requests_are = down (length parents) (λ n. cell rows' n j ≡ req n j) (λ n l ih.
            g.request n l ∙ ap₂ (λ (b w : ℕ). b + min (at left n) w) (bases_are n l) (whole_by n l ih) ∙ sym (request_left n l))

        weight_is : (n : ℕ) → n < length parents → request_weight rows' j bases n ≡ req n j - base n j
        weight_is n l = ap₂ ◌-◌ (requests_are n l) (bases_are n l)

        whole_is : (n : ℕ) → n < length parents → at wholes n ≡ weights the_deal base req n j
        whole_is n l = whole_by n l (λ m lm q. requests_are m lm)

        -- A node is cut where less is left than its children weigh.
        cut_left : (n : ℕ) → n < length parents → cut_at the_deal (metrics the_deal) n j ≡ ltb (at left n) (at wholes n)
        cut_left n l =
            cut_is the_deal n j
            ∙ ltb_cong (req n j) (asked the_deal req n j) (at left n) (at wholes n)
            (λ h. omega (arith, request_left n l, asked_is n j l level_fits, whole_is n l))
            (λ h. omega (arith, request_left n l, asked_is n j l level_fits, whole_is n l))

        children_is : (n m : ℕ) → m ≤ length parents → child_sum m (at parents) n (request_weight rows' j bases) ≡ sum m (λ h. on (eqb (at parents h) (suc n)) (req h j - base h j))
        children_is n m h = sum_cong m _ _ (λ i l. ap (λ (z : ℕ). on (eqb (at parents i) (suc n)) z) (weight_is i (omega arith)))

        pub nodes_ask : (n : ℕ) → n < length parents → (bases n ≤ cell rows' n j) × (cell rows' n j ≤ most_watts) × (request_weight rows' j bases n ≤ at wholes n)
            × (at wholes n ≤ most_cords * most_watts) × (child_sum (length parents) (at parents) n (request_weight rows' j bases) ≤ at wholes n)
        unfolding deal_from request
        nodes_ask n l =
            let r = requests_are n l in
            let rm : req n j ≤ most_watts = request_most the_deal dealable cs.few ns.most cs.most n j l level_fits in
            let am : asked the_deal req n j ≤ most_cords * most_watts = asked_most the_deal dealable cs.few ns.most cs.most n j l level_fits in
            let w = whole_is n l in
            let a = asked_is n j l level_fits in
            let q = g.request n l in
            (omega arith, omega arith, omega arith, omega arith, omega (arith, g.children n l))

        module _ (active : List ℕ) (count : ℕ) (nodes_active : ActiveNodes parents active count) (cords_active : CordsActive nodes levels j active count)
            (amounts before dealts : List ℕ) (nd : NodesDealt parents active count (request_weight rows' j bases) wholes amounts before dealts) where
          -- From each parent to its children: the parent of an active node is active too.
          amounts_are : (m : ℕ) → m < length parents → Present active count m → at amounts m ≡ amount_of the_deal m j
          unfolding deal_from
          amounts_are = rise (length parents) (λ m. Present active count m → at amounts m ≡ amount_of the_deal m j) (λ m l ih some. go m l ih some (at parents m) refl)
            where
              go : (m : ℕ) → m < length parents → ((i : ℕ) → i < m → Present active count i → at amounts i ≡ amount_of the_deal i j) → Present active count m → (v : ℕ) → at parents m ≡ v → at amounts m ≡ amount_of the_deal m j
              go m l ih some zero e = nd.root m l some e ∙ weight_is m l ∙ sym (equations.root m j l e)
              go m l ih some (suc n) e =
                  let u : n < m = subst (λ (z : ℕ). z ≤ m) e (ns.rises m l) in
                  nd.inner m n l some e
                  ∙ ap (λ (z : ℕ). part (at amounts n) (at wholes n) (child_sum m (at parents) n (request_weight rows' j bases)) z) (weight_is m l)
                  ∙ ap (λ (z : ℕ). part (at amounts n) (at wholes n) z (req m j - base m j)) (children_is n m (omega arith))
                  ∙ ap₂ (λ (x w : ℕ). part x w (sum m (λ h. on (eqb (at parents h) (suc n)) (req h j - base h j))) (req m j - base m j)) (ih n u (λ none. some (nodes_active.closed m n l e none))) (whole_is n (omega arith))
                  ∙ sym (equations.inner m n j l e)

          served_is : (n : ℕ) → n < length parents → Present active count n → at before n ≡ child_sum (length parents) (at parents) n (λ m. req m j - base m j)
          served_is n l some = nd.served n l some ∙ children_is n (length parents) (le_refl (length parents))

          -- A node with a listed cord on it is active.
          module _ (i n : ℕ) (h : i < length listed) (hangs : at nodes (at listed i) ≡ suc n) where
            cord_fits : at listed i < length nodes
            cord_fits = omega (arith, of.within i h, cs.levels_size)

            there : n < length parents
            there = omega (arith, cs.within (at listed i) cord_fits, hangs)

            some : Present active count n
            some = cords_active (at listed i) n cord_fits (of.ranked i h) hangs

            pub cords_ask : (at amounts n ≤ most_watts) × (at amounts n ≤ at wholes n) × (at wholes n ≤ most_cords * most_watts)
                × (at dealts n ≡ at amounts n * at before n / at wholes n)
                × (at before n + over_listed listed nodes (cord_weight starts wants) n ≤ at wholes n)
            unfolding deal_from weights
            cords_ask =
                let asks = nodes_ask n there in
                let most = nd.most n there some in (
                  omega (arith, most, asks.1),
                  omega (arith, most, asks.2),
                  asks.3,
                  nd.dealt_is n there some,
                  omega (arith, served_is n there some, whole_is n there, listed_level (cord_weight starts wants) n),
                )

          -- What reaches a cord of this level.
          reached_is : (c n i : ℕ) → c < length nodes → at nodes c ≡ suc n → at levels c ≡ i
              → reached the_deal (metrics the_deal) c
              ≡ part (amount_of the_deal n i) (weights the_deal base req n i)
              (child_sum (length parents) (at parents) n (λ m. req m i - base m i) + of_level i (cord_weight starts wants) n c) (cord_weight starts wants c)
          unfolding deal_from
          reached_is c n i l q e =
              subst
              (λ (i : ℕ). reached the_deal (metrics the_deal) c
              ≡ part (amount_of the_deal n i) (weights the_deal base req n i)
              (child_sum (length parents) (at parents) n (λ m. req m i - base m i) + of_level i (cord_weight starts wants) n c) (cord_weight starts wants c)) e
              (equations.leaf c n l q)

          module _ (grants' : List ℕ) (cd : CordsDealt listed nodes starts wants wholes amounts before grants grants') where
            -- A listed cord's grant is the deal's.
            listed_grant : (i n : ℕ) → i < length listed → at nodes (at listed i) ≡ suc n → at grants' (at listed i) ≡ at (granted the_deal) (at listed i)
            unfolding deal_from
            listed_grant i n h q =
                let c : ℕ = at listed i in
                let ln = there i n h q in
                let some = some i n h q in
                cd.ours i n h q
                ∙ ap (λ (z : ℕ). at starts c + z)
                (ap₂ (λ (x w : ℕ). part x w (at before n + listed_before listed nodes (cord_weight starts wants) n i) (cord_weight starts wants c)) (amounts_are n ln some) (whole_is n ln)
                ∙ ap₂ (λ (a b : ℕ). part (amount_of the_deal n j) (weights the_deal base req n j) (a + b) (cord_weight starts wants c)) (served_is n ln some) (listed_level_before (cord_weight starts wants) n i h)
                ∙ sym (reached_is c n j (cord_fits i n h q) q (of.ranked i h)))
                ∙ sym (granted-at the_deal dealable c (cord_fits i n h q))

            pub state_turn : State j rows' left' cuts' grants'
            unfolding deal_from
            state_turn = record {
              higher = suc s.higher;
              sum_is = omega (arith, s.sum_is);
              left_is = λ n l. omega (
                arith,
                g.left_is n l,
                whole_is n l,
                request_left n l,
                s.left_is n l,
                up_suc s.higher j (req n),
                sum_suc j (base n),
              );
              cuts_are = λ n l. marked_turn the_deal n j level_fits (s.cuts_are n l) (at left n) (at wholes n) (cut_left n l) (g.cuts_are n l);
              filled = λ n i l a b. ⊎_elim (λ e. subst (λ (k : ℕ). cell rows' n k ≡ req n k) e (requests_are n l))
                  (λ more. g.others n i (λ q. absurd (omega arith)) ∙ s.filled n i l more b) (eq-or-lt_of_le a);
              grants_are = λ c l h. go c l (eqb (at levels c) j) refl h (at nodes c) refl;
            }
              where
                go : (c : ℕ) → c < length nodes → (t : Bool) → eqb (at levels c) j ≡ t → j ≤ at levels c → (v : ℕ) → at nodes c ≡ v → at grants' c ≡ at (granted the_deal) c
                go c l false e h v q =
                    let ne : at levels c ≡ j → ⊥ = eqb-false (at levels c) j e in
                    cd.others c l (λ i u same. ne (ap (at levels) (sym same) ∙ of.ranked i u)) ∙ s.grants_are c l (omega arith)
                go c l true e h zero q = absurd (omega (arith, cs.hangs c l))
                go c l true e h (suc n) q =
                    let found = of.all c (omega (arith, cs.levels_size)) (eqb-true (at levels c) j e) in
                    subst (λ (c : ℕ). at grants' c ≡ at (granted the_deal) c) found.here
                    (listed_grant found.place n found.below (ap (at nodes) found.here ∙ q))
