-- The loop over the ranks: what each pass of a rank asks, and what they leave together.
use mathlib.Core.Path.{◌≡◌, refl, sym, ◌∙◌, subst}
use mathlib.Core.Bool.{Bool, true, false}
use mathlib.Core.List.{List, []}
use Prim.Native.Nat.{ℕ, suc, ◌+◌, ◌-◌, ◌*◌, ◌/◌, ◌≤◌, ◌<◌}
use native.Mathlib.Nat.{le_refl}
use native.Mathlib.Omega.{arith}
use lib.Dec.{eqb}
use lib.ListN.{length, get_or, take}
use borrow.Author.Tests.{eqb-true, eqb-false}
use Rattle.figures.specs.Sums.{on, sum}
use Rattle.figures.proofs.Sums.{sum_cong, sum_zero}
use Rattle.rooms.specs.Table.{most_cords, most_watts, highest_rank}
use Rattle.figures.specs.Figures.{at, cell}
use Rattle.deals.specs.Metrics.{deal_from}
use Rattle.figures.specs.Places.{Absent, Zeros}
use Rattle.deals.specs.declared.levels.Level.{Level}
use Rattle.deals.specs.Levels.{ActiveNodes, CordsActive, CordsOf, LevelLists, level_at, entries}
use Rattle.deals.proofs.Ordering.{entries-length}
use Rattle.deals.specs.Passes.{LevelCords, over_listed, cord_weight, CordsSummed, weight_of, FullRows, WeightsListed, MayWeigh, Weighed, MayRequest, Requested, NodesDealt, CordsDealt}
use Rattle.deals.proofs.Active.{absent_front, front_absent, nodes_front, cords_front}
use Rattle.deals.proofs.Requesting.{beneath_none}
use Rattle.deals.proofs.Gathered.{request_weight, Gathered, gathered, weight_listed, children_cong, dealt_again}
use Rattle.deals.specs.Ranks.{NodeLists, CordLists, DealLists, DealGiven, SomeDeal, DealMade}
use Rattle.deals.proofs.Ranks.{State, state_start, state_end, state_skip, sums_most, gather_asks, nodes_ask, cords_ask, state_turn}
use Rattle.rooms.specs.Trees.{ParentsFirst, child_sum}
use Rattle.rooms.specs.Credits.{tree_sum}

-- The length of the lists with a rank's figure of each node.
abbrev pub figures_length : ℕ
figures_length = 520

-- ---- The loop

-- At each level the rows of nodes that are not active have 0.
pub record BlankRows (node_count : ℕ) (levels : List Level) (actives requests : List (List ℕ)) : Type 0 where
  pub full : FullRows requests
  pub blank : (n j : ℕ) → n < node_count → j < highest_rank → Absent (get_or actives j []) (level_at levels j).active_count n → cell requests n j ≡ 0

-- Before the ranks below `above`.
pub record RankLoop (parents : List ℕ) (rows : List Level) (order : List ℕ) (actives : List (List ℕ)) (nodes starts wants left₀ : List ℕ) (above : ℕ) (left cuts : List ℕ)
    (requests : List (List ℕ)) (grants bases wholes amounts before dealt : List ℕ) : Type 0 where
  pub within : above ≤ highest_rank
  pub left_size : length left ≡ length parents
  pub cuts_size : length cuts ≡ length parents
  pub grants_size : length grants ≡ length nodes
  pub bases_size : length bases ≡ figures_length
  pub bases_clear : (n : ℕ) → n < length parents → at bases n ≡ 0
  pub wholes_size : length wholes ≡ figures_length
  pub amounts_size : length amounts ≡ figures_length
  pub before_size : length before ≡ figures_length
  pub dealt_size : length dealt ≡ figures_length
  pub blank : BlankRows (length parents) rows actives requests
  pub state : (limits levels lows : List ℕ) → (given : DealGiven parents rows order actives nodes starts wants left₀ limits levels lows)
      → State parents limits nodes levels lows starts wants given.lists above requests left cuts grants

-- The row of a level that some cord has: where its cords begin and end in the order, and how many nodes are active.
pub record LevelRow (rows : List Level) (level from to count : ℕ) : Type 0 where
  pub from_is : from ≡ (level_at rows level).from
  pub to_is : to ≡ (level_at rows level).to
  pub count_is : count ≡ (level_at rows level).active_count
  pub has_cords : from < to

pub level_row : (rows : List Level) (level : ℕ) {from to count : ℕ} → from ≡ (level_at rows level).from → to ≡ (level_at rows level).to
    → count ≡ (level_at rows level).active_count → from < to → LevelRow rows level from to count
level_row rows level ef et ec some = record { from_is = ef; to_is = et; count_is = ec; has_cords = some }

-- A number above 0 is one more than the number before it.
one_more : (n : ℕ) → 0 < n → n ≡ suc (n - 1)
one_more n h = omega arith

module _ {parents : List ℕ} {rows : List Level} {order : List ℕ} {actives : List (List ℕ)} {nodes starts wants left₀ : List ℕ}
    (some_deal : SomeDeal parents rows order actives nodes starts wants left₀) where
  abbrev lists : DealLists parents some_deal.limits nodes some_deal.levels some_deal.lows starts wants
  lists = some_deal.given.lists

  abbrev ns : NodeLists parents some_deal.limits
  ns = lists.of_nodes

  abbrev cs : CordLists (length parents) nodes some_deal.levels some_deal.lows starts wants
  cs = lists.of_cords

  abbrev by_level : LevelLists parents nodes some_deal.levels rows order actives
  by_level = some_deal.given.by_level

  module _ {above : ℕ} {left cuts : List ℕ} {requests : List (List ℕ)} {grants bases₀ wholes₀ amounts₀ before₀ dealt₀ : List ℕ}
      (inv : RankLoop parents rows order actives nodes starts wants left₀ above left cuts requests grants bases₀ wholes₀ amounts₀ before₀ dealt₀) where
    -- After the last rank.
    pub loop_end : above ≤ 0 → (limits levels lows : List ℕ) → DealGiven parents rows order actives nodes starts wants left₀ limits levels lows
        → DealMade (deal_from parents limits nodes levels lows starts wants) left cuts grants
    loop_end h limits levels lows given =
        let z : above ≡ 0 = omega arith in
        state_end parents limits nodes levels lows starts wants given.lists inv.grants_size
        (subst (λ (a : ℕ). State parents limits nodes levels lows starts wants given.lists a requests left cuts grants) z (inv.state limits levels lows given))

    module _ (more : 0 < above) where
      abbrev level : ℕ
      level = above - 1

      pub level_fits : level < highest_rank
      level_fits = omega (arith, inv.within)

      at_level : (limits levels lows : List ℕ) (given : DealGiven parents rows order actives nodes starts wants left₀ limits levels lows)
          → State parents limits nodes levels lows starts wants given.lists (suc level) requests left cuts grants
      at_level limits levels lows given =
          subst (λ (a : ℕ). State parents limits nodes levels lows starts wants given.lists a requests left cuts grants) (one_more above more) (inv.state limits levels lows given)

      -- A rank that no cord has.
      pub loop_skip : {from to : ℕ} → from ≡ (level_at rows level).from → to ≡ (level_at rows level).to → to ≤ from
          → RankLoop parents rows order actives nodes starts wants left₀ level left cuts requests grants bases₀ wholes₀ amounts₀ before₀ dealt₀
      loop_skip {from} {to} ef et none = record {
        within = omega (arith, inv.within);
        left_size = inv.left_size;
        cuts_size = inv.cuts_size;
        grants_size = inv.grants_size;
        bases_size = inv.bases_size;
        bases_clear = inv.bases_clear;
        wholes_size = inv.wholes_size;
        amounts_size = inv.amounts_size;
        before_size = inv.before_size;
        dealt_size = inv.dealt_size;
        blank = inv.blank;
        state = λ limits levels lows given.
            let by = given.by_level in
            let bounds = by.ordered.bounds level level_fits in
            let of = by.ordered.cords level level_fits in
            let empty : length (entries order (level_at rows level).from (level_at rows level).to) ≡ 0
            = entries-length order (level_at rows level).from (level_at rows level).to bounds.1 ∙ omega (arith, ef, et) in
            let no-cord : (c : ℕ) → c < length nodes → at levels c ≡ level → ⊥
            = λ c l e. let found = of.all c (omega (arith, given.lists.of_cords.levels_size)) e in absurd (omega (arith, found.below, empty)) in
            let counted = by.none level level_fits (omega (arith, ef, et)) in
            state_skip parents limits nodes levels lows starts wants given.lists level no-cord
            (λ n l. inv.blank.blank n level l level_fits (λ i h. absurd (omega (arith, counted)))) (at_level limits levels lows given);
      }

      module _ {from to count : ℕ} (row : LevelRow rows level from to count) where
        abbrev ef : from ≡ (level_at rows level).from
        ef = row.from_is

        abbrev et : to ≡ (level_at rows level).to
        et = row.to_is

        abbrev ec : count ≡ (level_at rows level).active_count
        ec = row.count_is

        abbrev listed : List ℕ
        listed = entries order from to

        -- The active nodes, which are lent as the front of their list.
        abbrev active : List ℕ
        active = take count (get_or actives level [])

        pub part_end : to ≤ length order
        part_end = omega (arith, et, by_level.ordered.bounds level level_fits)

        listed_of : (limits levels lows : List ℕ) → DealGiven parents rows order actives nodes starts wants left₀ limits levels lows → CordsOf levels level listed
        listed_of limits levels lows given = rw (ef, et) (given.by_level.ordered.cords level level_fits)

        listed_active : ActiveNodes parents (get_or actives level []) count
        listed_active = rw ec (by_level.nodes_active level level_fits (omega (arith, ef, et)))

        pub active_few : count ≤ length (get_or actives level [])
        active_few = listed_active.few

        nodes_active : ActiveNodes parents active (length active)
        nodes_active = nodes_front listed_active

        cords_active : (limits levels lows : List ℕ) → DealGiven parents rows order actives nodes starts wants left₀ limits levels lows → CordsActive nodes levels level active (length active)
        cords_active limits levels lows given = cords_front nodes levels (get_or actives level []) active_few (rw ec (given.by_level.cords_active level level_fits (omega (arith, ef, et))))

        of : CordsOf some_deal.levels level listed
        of = listed_of some_deal.limits some_deal.levels some_deal.lows some_deal.given

        here : State parents some_deal.limits nodes some_deal.levels some_deal.lows starts wants lists (suc level) requests left cuts grants
        here = at_level some_deal.limits some_deal.levels some_deal.lows some_deal.given

        -- A listed cord is one of the room's.
        cord-within : (i : ℕ) → i < length listed → at listed i < length nodes
        cord-within i h = omega (arith, of.within i h, cs.levels_size)

        -- What `add_cords` and `deal_cords` ask of the cords.
        level_cords : {size : ℕ} → length parents ≤ size → LevelCords size listed nodes starts wants
        level_cords {size} e = record {
          few = omega (arith, entries-length order from to part_end, part_end, by_level.ordered.size, cs.levels_size, cs.few);
          starts_size = cs.starts_size;
          wants_size = cs.wants_size;
          within = cord-within;
          rises = of.rises;
          hangs = λ i h. cs.hangs (at listed i) (cord-within i h);
          there = λ i h. omega (arith, cs.within (at listed i) (cord-within i h));
          ordered = λ i h. cs.ordered (at listed i) (cord-within i h);
          most = λ i h. cs.most (at listed i) (cord-within i h);
        }

        -- A node has its place in each list of figures.
        pub enough : {size : ℕ} → size ≡ figures_length → length parents ≤ size
        enough e = omega (arith, ns.few)

        pub add_cords_asks : LevelCords (length parents) listed nodes starts wants
            × (((length parents ≤ length bases₀) × (length parents ≤ length wholes₀)) × ((n : ℕ) → n < length parents → at bases₀ n ≡ 0))
        add_cords_asks = (level_cords (le_refl (length parents)), ((enough inv.bases_size, enough inv.wholes_size), inv.bases_clear))

        -- What it leaves.
        pub record Summed (bases wholes : List ℕ) : Type 0 where
          pub bases_size : length bases ≡ figures_length
          pub wholes_size : length wholes ≡ figures_length
          pub on-nodes : CordsSummed (length parents) listed nodes starts wants bases wholes

        pub summed : {b w : List ℕ} → length b ≡ length bases₀ → length w ≡ length wholes₀ → CordsSummed (length parents) listed nodes starts wants b w → Summed b w
        summed sb sw on-nodes = record { bases_size = sb ∙ inv.bases_size; wholes_size = sw ∙ inv.wholes_size; on-nodes = on-nodes }

        module _ {b w : List ℕ} (sums : Summed b w) where
          -- No listed cord hangs on a node that is not active.
          none_on : (figure : ℕ → ℕ) (n : ℕ) → Absent active (length active) n → over_listed listed nodes figure n ≡ 0
          none_on figure n none = sum_cong (length listed) _ _ (λ i h. at_entry i h (eqb (at nodes (at listed i)) (suc n)) refl) ∙ sum_zero (length listed)
            where
              at_entry : (i : ℕ) → i < length listed → (t : Bool) → eqb (at nodes (at listed i)) (suc n) ≡ t → on t (figure (at listed i)) ≡ 0
              at_entry i h true e =
                  absurd (cords_active some_deal.limits some_deal.levels some_deal.lows some_deal.given (at listed i) n (cord-within i h) (of.ranked i h) (eqb-true (at nodes (at listed i)) (suc n) e) none)
              at_entry i h false e = refl

          sums-fit : (sum (length parents) (at b) ≤ most_cords * most_watts) × (sum (length parents) (at w) ≤ most_cords * most_watts)
          sums-fit = sums_most parents some_deal.limits nodes some_deal.levels some_deal.lows starts wants lists level here listed of b w sums.on-nodes.on_starts sums.on-nodes.on_weights

          no_starts : (n : ℕ) → n < length parents → Absent active (length active) n → at b n ≡ 0
          no_starts n l none = sums.on-nodes.on_starts n l ∙ none_on (at starts) n none

          -- What `request` asks.
          pub request_asks : MayWeigh parents active (length active) left w (length amounts₀) × MayRequest parents active (length active) level left cuts b requests
          request_asks = (
            record {
              nodes = nodes_active;
              rises = ns.rises;
              left_size = inv.left_size;
              own_fit = (enough sums.wholes_size, sums-fit.1);
              weights_size = enough inv.amounts_size;
              idle = λ n l none. sums.on-nodes.on_weights n l ∙ none_on (cord_weight starts wants) n none;
            },
            record {
              few = ns.few;
              ranked = level_fits;
              cuts_size = inv.cuts_size;
              starts_fit = (enough sums.bases_size, sums-fit.0);
              enough = λ n l.
                  omega (
                    arith,
                    gather_asks parents some_deal.limits nodes some_deal.levels some_deal.lows starts wants lists level here listed of b w sums.on-nodes.on_starts sums.on-nodes.on_weights n l,
                  );
              idle = λ n l none. (no_starts n l none, inv.blank.blank n level l level_fits (rw ec at (front_absent (get_or actives level []) active_few none)));
              full = inv.blank.full;
            },
          )

          module _ {left₁ w₁ weights : List ℕ} {requests₁ : List (List ℕ)} {cuts₁ b₁ : List ℕ} (weighed : Weighed parents active (length active) left w left₁ w₁ weights)
              (requested : Requested parents level left w₁ cuts b requests cuts₁ b₁ requests₁) where
            abbrev g : Gathered parents level left cuts b w requests left₁ cuts₁ w₁ requests₁
            g = gathered weighed requested

            abbrev weight : ℕ → ℕ
            weight = request_weight requests₁ level (tree_sum (at parents) (length parents) (at b))

            weight_is : (n : ℕ) → n < length parents → weight n ≡ weight_of weights w₁ n
            weight_is = weight_listed weighed requested

            room : (n : ℕ) → n < length parents → (tree_sum (at parents) (length parents) (at b) n ≤ cell requests₁ n level) × (cell requests₁ n level ≤ most_watts) × (weight n ≤ at w₁ n)
                × (at w₁ n ≤ most_cords * most_watts) × (child_sum (length parents) (at parents) n weight ≤ at w₁ n)
            room =
                nodes_ask parents some_deal.limits nodes some_deal.levels some_deal.lows starts wants lists level here listed of b w sums.on-nodes.on_starts sums.on-nodes.on_weights
                requests₁ left₁ cuts₁ w₁ g

            -- A node that is not active has no Request.
            nodes_blank : (n : ℕ) → n < length parents → Absent active (length active) n → cell requests₁ n level ≡ 0
            nodes_blank n l none =
                omega (arith, requested.request n l, beneath_none nodes_active ns.rises b no_starts n l none, weighed.listed.idle n l none)

            -- What `deal_nodes` asks.
            pub deal_nodes_asks : ((length parents ≤ length before₀) × (length dealt₀ ≡ length before₀) × ParentsFirst (length parents) (at parents))
                × (WeightsListed parents active (length active) w₁ weights
                × ((n : ℕ) → n < length parents → (weight_of weights w₁ n ≤ most_watts) × (at w₁ n ≤ most_cords * most_watts) × (child_sum (length parents) (at parents) n (weight_of weights w₁) ≤ at w₁ n)))
            deal_nodes_asks = (
              (enough inv.before_size, inv.dealt_size ∙ sym inv.before_size, ns.rises),
              (
                weighed.listed,
                λ n l.
                    let r = room n l in
                    let c = children_cong parents weight (weight_of weights w₁) n (length parents) weight_is in
                    (omega (arith, r.1, weight_is n l), r.3, omega (arith, r.4)),
              ),
            )

            module _ {amounts before dealt : List ℕ} (by_weights : NodesDealt parents active (length active) (weight_of weights w₁) w₁ amounts before dealt)
                (wholes_size : length w₁ ≡ figures_length) (amounts_size : length amounts ≡ figures_length) (before_size : length before ≡ figures_length) (dealt_size : length dealt ≡ figures_length) where
              abbrev nd : NodesDealt parents active (length active) weight w₁ amounts before dealt
              nd = dealt_again (λ h l. sym (weight_is h l)) by_weights

              -- What `deal_cords` asks.
              pub deal_cords_asks : LevelCords (length amounts) listed nodes starts wants
                  × (((length w₁ ≡ length amounts) × (length before ≡ length amounts) × (length dealt ≡ length amounts) × (length grants ≡ length nodes))
                  × ((i n : ℕ) → i < length listed → at nodes (at listed i) ≡ suc n → (at amounts n ≤ most_watts) × (at amounts n ≤ at w₁ n) × (at w₁ n ≤ most_cords * most_watts)
                  × (at dealt n ≡ at amounts n * at before n / at w₁ n)
                  × (at before n + over_listed listed nodes (cord_weight starts wants) n ≤ at w₁ n)))
              deal_cords_asks = (
                level_cords (enough amounts_size),
                (
                  (wholes_size ∙ sym amounts_size, before_size ∙ sym amounts_size, dealt_size ∙ sym amounts_size, inv.grants_size),
                  cords_ask parents some_deal.limits nodes some_deal.levels some_deal.lows starts wants lists level here listed of b w sums.on-nodes.on_starts sums.on-nodes.on_weights
                      requests₁ left₁ cuts₁ w₁ g active (length active) nodes_active (cords_active some_deal.limits some_deal.levels some_deal.lows some_deal.given) amounts before dealt nd,
                ),
              )

              module _ {grants₁ before₁ dealt₁ : List ℕ} (cd : CordsDealt listed nodes starts wants w₁ amounts before grants grants₁) where
                -- The next rank.
                pub loop_turn : length left₁ ≡ length left → length cuts₁ ≡ length cuts → length grants₁ ≡ length grants
                    → length b₁ ≡ figures_length → length before₁ ≡ figures_length → length dealt₁ ≡ figures_length
                    → RankLoop parents rows order actives nodes starts wants left₀ level left₁ cuts₁ requests₁ grants₁ b₁ w₁ amounts before₁ dealt₁
                loop_turn el eu eg eb ee ed = record {
                  within = omega (arith, inv.within);
                  left_size = el ∙ inv.left_size;
                  cuts_size = eu ∙ inv.cuts_size;
                  grants_size = eg ∙ inv.grants_size;
                  bases_size = eb;
                  bases_clear = requested.cleared;
                  wholes_size = wholes_size;
                  amounts_size = amounts_size;
                  before_size = ee;
                  dealt_size = ed;
                  blank = record { full = requested.full; blank = λ n j h u absent. kept n j h u absent (eqb j level) refl };
                  state = λ limits levels lows given.
                      state_turn parents limits nodes levels lows starts wants given.lists level (at_level limits levels lows given) listed (listed_of limits levels lows given) b w
                      sums.on-nodes.on_starts sums.on-nodes.on_weights requests₁ left₁ cuts₁ w₁ g active (length active) nodes_active (cords_active limits levels lows given) amounts before dealt nd grants₁ cd;
                }
                  where
                    kept : (n j : ℕ) → n < length parents → j < highest_rank → Absent (get_or actives j []) (level_at rows j).active_count n → (t : Bool) → eqb j level ≡ t → cell requests₁ n j ≡ 0
                    kept n j h u absent true e =
                        let q = eqb-true j level e in
                        rw q (nodes_blank n h (absent_front (get_or actives level []) active_few (rw ec (rw q at absent))))
                    kept n j h u absent false e = requested.others n j (eqb-false j level e) ∙ inv.blank.blank n j h u absent

-- Before the first rank.
pub loop_start : {parents : List ℕ} {rows : List Level} {order : List ℕ} {actives : List (List ℕ)} {nodes starts wants left cuts : List ℕ} {requests : List (List ℕ)}
    {grants bases wholes amounts before dealt : List ℕ} → SomeDeal parents rows order actives nodes starts wants left → Zeros (length parents) cuts → length grants ≡ length nodes
    → BlankRows (length parents) rows actives requests
    → length bases ≡ figures_length → ((n : ℕ) → n < length parents → at bases n ≡ 0) → length wholes ≡ figures_length → length amounts ≡ figures_length → length before ≡ figures_length → length dealt ≡ figures_length
    → RankLoop parents rows order actives nodes starts wants left highest_rank left cuts requests grants bases wholes amounts before dealt
loop_start {parents} {rows} {order} {actives} {nodes} {starts} {wants} {left} {cuts} {requests} {grants} deal uncut size blank sb zeros sw sa se sd = record {
  within = le_refl highest_rank;
  left_size = deal.given.spared.size;
  cuts_size = uncut.size;
  grants_size = size;
  bases_size = sb;
  bases_clear = zeros;
  wholes_size = sw;
  amounts_size = sa;
  before_size = se;
  dealt_size = sd;
  blank = blank;
  state = λ limits levels lows given. state_start parents limits nodes levels lows starts wants given.lists requests left cuts grants given.spared uncut;
}
