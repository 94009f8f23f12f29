-- Laws of a rank's Requests, made from the last node to the first, in the turn in which a node is weighed: its Request is stored in its
-- row, it is marked where its limit cuts its weight, and the starts beneath it are credited to its parent.
use mathlib.Core.Path.{◌≡◌, refl, sym, ap, ap₂, ◌∙◌}
use mathlib.Core.List.{List}
use Prim.Native.Nat.{ℕ, suc, ◌+◌, ◌-◌, ◌^◌, ◌≤◌, ◌<◌, min}
use native.Mathlib.Nat.{le_refl}
use native.Mathlib.Omega.{arith}
use lib.Dec.{eqb, ltb}
use lib.ListN.{length, set, length-set}
use lib.Seq.{get_or-set_same, get_or-set_other}
use borrow.Author.Tests.{le-ltb}
use Rattle.rooms.specs.Table.{most_nodes, most_watts}
use Rattle.figures.specs.Credits.{credited}
use Rattle.figures.specs.Figures.{at, cell}
use Rattle.figures.specs.Sums.{on}
use Rattle.figures.proofs.Sums.{on_no}
use Rattle.figures.proofs.Credits.{credited-at, credited_past, credited-length}
use Rattle.figures.proofs.Lists.{passed_down}
use Rattle.rooms.proofs.Trees.{down, child_sum_none}
use Rattle.rooms.proofs.Credits.{tree_sum_step}
use Rattle.figures.specs.Places.{Absent}
use Rattle.deals.specs.Levels.{ActiveNodes}
use Rattle.figures.proofs.Cells.{stored, cell-here, cell_elsewhere, cell_others, stored_full}
use Rattle.deals.proofs.Active.{Parted, parted_none, parted_all, parted_after, between}
use Rattle.deals.specs.Passes.{weight_of, cut_mark, FullRows, MayWeigh, Weighed, MayRequest, Requested}
use Rattle.deals.proofs.NodeSums.{Summing, summing_start, whole_at, summing_fits, summing_at, summing_idle}
use Rattle.deals.proofs.Weighing.{Weighing, WeighTurn, weighing_start, weigh_end, passed, parted_here, weighed_here, from_here}
use Rattle.rooms.specs.Trees.{ParentsFirst}
use Rattle.rooms.specs.Credits.{tree_sum}

-- Where children weigh nothing, a mark stays.
uncut : (mark level weight : ℕ) → cut_mark mark level weight 0 ≡ mark
uncut mark level weight = omega (arith, on_no (ltb weight 0) (suc level) (le-ltb weight 0 (omega arith)))

-- Nothing stands beneath a node that is not active, if nothing stands on those that are not.
pub beneath_none : {parents active : List ℕ} {count : ℕ} → ActiveNodes parents active count → ParentsFirst (length parents) (at parents) → (starts : List ℕ) → ((m : ℕ) → m < length parents → Absent active count m → at starts m ≡ 0)
    → (m : ℕ) → m < length parents → Absent active count m → tree_sum (at parents) (length parents) (at starts) m ≡ 0
beneath_none {parents} {active} {count} nodes rises starts idle = down (length parents) (λ m. Absent active count m → tree_sum (at parents) (length parents) (at starts) m ≡ 0) (λ m l below none.
    omega (
      arith,
      tree_sum_step (length parents) (at parents) rises (at starts) m l,
      idle m l none,
      child_sum_none (length parents) (at parents) m (tree_sum (at parents) (length parents) (at starts)) (λ k h e. below k h (omega (arith, rises k h)) (nodes.closed k m h e none)),
    ))

-- What the turn of the node at place m leaves.
pub record Settled (parents : List ℕ) (level : ℕ) (left wholes cuts₀ starts cuts : List ℕ) (rows : List (List ℕ)) (m : ℕ) : Type 0 where
  pub request : cell rows m level ≡ tree_sum (at parents) (length parents) (at starts) m + weight_of left wholes m
  pub cut_is : at cuts m ≡ cut_mark (at cuts₀ m) level (weight_of left wholes m) (at wholes m)

-- Before the turn of the node at place n - 1. The nodes from n on have passed their starts on and are cleared; `sums` are what would stand
-- on the nodes if none were.
pub record Requesting (parents active : List ℕ) (count level : ℕ) (left₀ cuts₀ starts : List ℕ) (rows₀ : List (List ℕ)) (n : ℕ) (wholes cuts bases : List ℕ) (rows : List (List ℕ)) : Type 0 where
  pub given : MayRequest parents active count level left₀ cuts₀ starts rows₀
  pub settled : (m : ℕ) → n ≤ m → m < length parents → Settled parents level left₀ wholes cuts₀ starts cuts rows m
  pub cuts_kept : (m : ℕ) → m < n → at cuts m ≡ at cuts₀ m
  pub cuts_size : length cuts ≡ length cuts₀
  pub blank : (m : ℕ) → m < length parents → Absent active count m → cell rows m level ≡ 0
  pub others : (m j : ℕ) → (j ≡ level → ⊥) → cell rows m j ≡ cell rows₀ m j
  pub full : FullRows rows
  pub sums : List ℕ
  pub summed : Summing parents starts n sums
  pub bases_kept : (m : ℕ) → m < n → at bases m ≡ at sums m
  pub cleared : (m : ℕ) → n ≤ m → m < length parents → at bases m ≡ 0
  pub bases_size : length bases ≡ length starts

module _ {parents active : List ℕ} {count level : ℕ} {left₀ cuts₀ starts : List ℕ} {rows₀ : List (List ℕ)} (nodes : ActiveNodes parents active count) (rises : ParentsFirst (length parents) (at parents)) where
  -- The turn of a node that is not active changes nothing.
  turn_idle : {k : ℕ} {wholes cuts bases : List ℕ} {rows : List (List ℕ)} → Absent active count k → at wholes k ≡ 0
      → Requesting parents active count level left₀ cuts₀ starts rows₀ (suc k) wholes cuts bases rows
      → Requesting parents active count level left₀ cuts₀ starts rows₀ k wholes cuts bases rows
  turn_idle {k} {wholes} {cuts} away whole inv =
      let given = inv.given in
      let l : k < length parents = omega (arith, inv.summed.all) in
      let base : tree_sum (at parents) (length parents) (at starts) k ≡ 0 = beneath_none nodes rises starts (λ m h none. (given.idle m h none).0) k l away in
      let weight : weight_of left₀ wholes k ≡ 0 = omega arith in
      record {
        given = given;
        settled = from_here (length parents) k _
            (record {
              request = omega (arith, inv.blank k l away, base);
              cut_is = inv.cuts_kept k (omega arith)
                  ∙ sym (uncut (at cuts₀ k) level (weight_of left₀ wholes k))
                  ∙ ap (cut_mark (at cuts₀ k) level (weight_of left₀ wholes k)) (sym whole);
            })
            inv.settled;
        cuts_kept = λ m h. inv.cuts_kept m (omega arith);
        cuts_size = inv.cuts_size;
        blank = inv.blank;
        others = inv.others;
        full = inv.full;
        sums = inv.sums;
        summed = summing_idle rises given.starts_fit.0 base inv.summed;
        bases_kept = λ m h. inv.bases_kept m (omega arith);
        cleared = from_here (length parents) k _ (inv.bases_kept k (omega arith) ∙ whole_at rises inv.summed ∙ base) inv.cleared;
        bases_size = inv.bases_size;
      }

-- ---- By the active nodes alone

-- Before the turn of the active node of entry i - 1.
pub record RequestTurn (parents active : List ℕ) (count level : ℕ) (left₀ own : List ℕ) (weights_length : ℕ) (cuts₀ starts : List ℕ) (rows₀ : List (List ℕ)) (i : ℕ)
    (left wholes weights cuts bases : List ℕ) (rows : List (List ℕ)) : Type 0 where
  pub weigh : WeighTurn parents active count left₀ own weights_length i left wholes weights
  pub requesting : Requesting parents active count level left₀ cuts₀ starts rows₀ weigh.n wholes cuts bases rows

module _ {parents active : List ℕ} {count level : ℕ} {left₀ own cuts₀ starts : List ℕ} {rows₀ : List (List ℕ)} where
  pub request_start : {weights : List ℕ} → MayWeigh parents active count left₀ own (length weights) → MayRequest parents active count level left₀ cuts₀ starts rows₀
      → RequestTurn parents active count level left₀ own (length weights) cuts₀ starts rows₀ count left₀ own weights cuts₀ starts rows₀
  request_start {weights} weighs given = record {
    weigh = record { n = length parents; parted = parted_all weighs.nodes; weighing = weighing_start weights weighs };
    requesting = record {
      given = given;
      settled = λ m h l. absurd (omega arith);
      cuts_kept = λ m l. refl;
      cuts_size = refl;
      blank = λ m l none. (given.idle m l none).1;
      others = λ m j d. refl;
      full = given.full;
      sums = starts;
      summed = summing_start parents starts;
      bases_kept = λ m l. refl;
      cleared = λ m h l. absurd (omega arith);
      bases_size = refl;
    };
  }

  module _ {weights_length i : ℕ} {left wholes weights cuts bases : List ℕ} {rows : List (List ℕ)}
      (t : RequestTurn parents active count level left₀ own weights_length cuts₀ starts rows₀ i left wholes weights cuts bases rows) where
    weighs : MayWeigh parents active count left₀ own weights_length
    weighs = t.weigh.weighing.given

    given : MayRequest parents active count level left₀ cuts₀ starts rows₀
    given = t.requesting.given

    abbrev Same : ℕ → Type 0
    Same m = Weighing parents active count left₀ own weights_length m left wholes weights × Requesting parents active count level left₀ cuts₀ starts rows₀ m wholes cuts bases rows

    both_passed : (m : ℕ) → Absent active count m → Same (suc m) → Same m
    both_passed m none s =
        let w = passed t.weigh m none s.0 in
        (w, turn_idle weighs.nodes weighs.rises none ((w.settled m (le_refl m) (omega (arith, s.0.all))).none none) s.1)

    pub request_end : i ≤ 0 → Weighed parents active count left₀ own left wholes weights × Requested parents level left₀ wholes cuts₀ starts rows₀ cuts bases rows
    request_end z =
        let e : i ≡ 0 = omega arith in
        let s : Same 0
        = passed_down Same 0 t.weigh.n (omega arith) (λ h a b. both_passed h (between parted_none (rw e at t.weigh.parted) h a b)) (t.weigh.weighing, t.requesting) in
        let r = s.1 in (
          weigh_end t.weigh z,
          record {
            request = λ n l. (r.settled n (omega arith) l).request;
            others = r.others;
            cuts_are = λ n l. (r.settled n (omega arith) l).cut_is;
            cleared = λ n l. r.cleared n (omega arith) l;
            full = r.full;
          },
        )

    -- The turn of the active node of entry i - 1.
    module _ (more : 0 < i) {n : ℕ} (is : n ≡ at active (i - 1)) where
      both : Same (suc n)
      both =
          let e : i - 1 + 1 ≡ i = omega arith in
          let s : at active (i - 1) + 1 ≡ suc n = omega arith in
          let parted = t.weigh.parted in
          let after : Parted active count i (suc n) = rw (e, s) at (parted_after weighs.nodes (i - 1) (omega (arith, parted.reached))) in
          passed_down Same (suc n) t.weigh.n (omega (arith, parted.below (i - 1) (omega arith))) (λ h a b. both_passed h (between after parted h a b)) (t.weigh.weighing, t.requesting)

      here : Requesting parents active count level left₀ cuts₀ starts rows₀ (suc n) wholes cuts bases rows
      here = both.1

      there : n < length parents
      there = omega (arith, here.summed.all)

      pub in_bases : n < length bases
      in_bases = omega (arith, there, here.bases_size, given.starts_fit.0)

      pub in_cuts : n < length cuts
      in_cuts = omega (arith, there, here.cuts_size, given.cuts_size)

      pub in_rows : n < most_nodes
      in_rows = omega (arith, there, given.few)

      -- The node's starts are whole, and its Request fits.
      base_sum : at bases n ≡ at here.sums n
      base_sum = here.bases_kept n (omega arith)

      base_is : at bases n ≡ tree_sum (at parents) (length parents) (at starts) n
      base_is = base_sum ∙ whole_at weighs.rises here.summed

      pub request_fits : {v : ℕ} → v ≡ min (at left n) (at wholes n) → at bases n + v ≤ most_watts
      request_fits ev = omega (arith, base_is, given.enough n there, both.0.left_kept n (omega arith))

      pub base_fits : {parent base : ℕ} → parent ≡ at parents n → base ≡ at bases n → (parent ≤ length bases) × (at bases (parent - 1) + base < 2 ^ 64)
      base_fits {parent} ep eb =
          let fits = summing_fits weighs.rises given.starts_fit here.summed ep in
          let rise = weighs.rises n there in
          (omega (arith, in_bases), omega (arith, fits.1, base_sum, here.bases_kept (parent - 1) (omega arith)))

      -- What is read from the row is what was stored there.
      pub row_here : (u : ℕ) → cell (stored rows n level u) n level ≡ u
      row_here u = cell-here rows n level u (omega (arith, here.full.0, in_rows)) (omega (arith, here.full.1 n in_rows, given.ranked))

      module _ {v u w parent : ℕ} {left' wholes' : List ℕ} (ev : v ≡ min (at left n) (at wholes n)) (el : left' ≡ set left n (at left n - v)) (eu : u ≡ v) (ew : w ≡ v)
          (ep : parent ≡ at parents n) (es : wholes' ≡ credited parent u wholes) where
        -- The children's weights of the nodes from this one on stand.
        whole_same : (m : ℕ) → n ≤ m → at wholes' m ≡ at wholes m
        whole_same m h = ap (λ (l : List ℕ). at l m) es ∙ credited_past parent u wholes m (omega (arith, weighs.rises n there))

        own_weight : weight_of left₀ wholes' n ≡ v
        own_weight = ap₂ min (sym (both.0.left_kept n (omega arith))) (whole_same n (le_refl n)) ∙ sym ev

        pub request_turn : {mark asked base : ℕ} {bases' : List ℕ} → mark ≡ cut_mark (at cuts n) level v (at wholes n) → asked ≡ at bases n + v → base ≡ at bases n
            → bases' ≡ credited parent base bases
            → RequestTurn parents active count level left₀ own weights_length cuts₀ starts rows₀ (i - 1) left' wholes' (set weights n w) (set cuts n mark) (set bases' n 0) (stored rows n level asked)
        request_turn {mark} {asked} {base} {bases'} em ea eb cb =
            let in_list : n < length rows = omega (arith, here.full.0, in_rows) in
            let rise = weighs.rises n there in
            let size : length bases' ≡ length bases = ap length cb ∙ credited-length parent base bases in
            record {
              weigh = record { n = n; parted = parted_here t.weigh more is; weighing = weighed_here t.weigh more is ev el eu ew ep es };
              requesting = record {
                given = given;
                settled = from_here (length parents) n _
                    (record {
                      request = row_here asked ∙ ea ∙ ap₂ (λ (x y : ℕ). x + y) base_is (sym own_weight);
                      cut_is = get_or-set_same cuts n mark 0 in_cuts
                          ∙ em
                          ∙ ap₂ (λ (x y : ℕ). cut_mark x level y (at wholes n)) (here.cuts_kept n (omega arith)) (sym own_weight)
                          ∙ ap (cut_mark (at cuts₀ n) level (weight_of left₀ wholes' n)) (sym (whole_same n (le_refl n)));
                    })
                    (λ m g l.
                    let s = here.settled m g l in
                    let same = sym (whole_same m (omega arith)) in
                    record {
                      request = cell_elsewhere rows n level asked in_list m level (λ e. omega arith) ∙ s.request ∙ ap (λ (x : ℕ). tree_sum (at parents) (length parents) (at starts) m + min (at left₀ m) x) same;
                      cut_is = get_or-set_other cuts n m mark 0 (λ e. omega arith) ∙ s.cut_is ∙ ap (λ (x : ℕ). cut_mark (at cuts₀ m) level (min (at left₀ m) x) x) same;
                    });
                cuts_kept = λ m l. get_or-set_other cuts n m mark 0 (λ e. omega arith) ∙ here.cuts_kept m (omega arith);
                cuts_size = length-set cuts n mark ∙ here.cuts_size;
                blank = λ m l none. cell_elsewhere rows n level asked in_list m level (λ e. none (i - 1) (omega (arith, t.weigh.parted.reached)) (sym is ∙ sym e)) ∙ here.blank m l none;
                others = λ m j d. cell_others rows n level asked in_list m j d ∙ here.others m j d;
                full = stored_full rows n level asked in_list here.full;
                sums = credited parent (at here.sums n) here.sums;
                summed = summing_at weighs.rises given.starts_fit.0 here.summed ep refl;
                bases_kept = λ m l. kept m l;
                cleared = from_here (length parents) n _ (get_or-set_same bases' n 0 0 (omega (arith, in_bases)))
                    (λ m g l. get_or-set_other bases' n m 0 0 (λ e. omega arith) ∙ ap (λ (b : List ℕ). at b m) cb ∙ credited_past parent base bases m (omega arith) ∙ here.cleared m g l);
                bases_size = length-set bases' n 0 ∙ size ∙ here.bases_size;
              };
            }
          where
            -- What stands on a node before this one.
            kept : (m : ℕ) → m < n → at (set bases' n 0) m ≡ at (credited parent (at here.sums n) here.sums) m
            kept m l =
                get_or-set_other bases' n m 0 0 (λ e. omega arith)
                ∙ ap (λ (b : List ℕ). at b m) cb
                ∙ credited-at parent base bases m (omega (arith, in_bases, weighs.rises n there))
                ∙ ap₂ (λ (x y : ℕ). x + on (eqb parent (suc m)) y) (here.bases_kept m (omega arith)) (eb ∙ base_sum)
                ∙ sym (credited-at parent (at here.sums n) here.sums m (omega (arith, there, here.summed.size, given.starts_fit.0, weighs.rises n there)))
