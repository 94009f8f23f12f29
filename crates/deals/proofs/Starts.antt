-- The second deal's starts are within its Requests, and its Requests of a rank and above leave the lower ranks their starts: of any deal
-- by wants that are nowhere greater, in which each cord starts from no more than it was granted in a first deal.
use mathlib.Core.Path.{◌≡◌, sym, ◌∙◌}
use Prim.Native.Nat.{ℕ, suc, ◌+◌, ◌-◌, ◌≤◌, ◌<◌, min}
use native.Mathlib.Nat.{le_trans, le_of_eq, add-le-add, add_comm}
use native.Mathlib.Omega.{arith}
use lib.Dec.{eqb}
use Rattle.figures.specs.Figures.{at}
use Rattle.figures.specs.Sums.{sum}
use Rattle.figures.proofs.Sums.{on_le, sum_cong, sum_le, sum_up, up}
use Rattle.rooms.proofs.Trees.{child_sum_le, down}
use Rattle.deals.specs.Metrics.{Deal, at_level}
use Rattle.deals.specs.Dealing.{granted}
use Rattle.deals.proofs.Requests.{Dealable, deal_beneath_unique, deal_beneath_le, asked, later, pcapmin_is, requests_fit, by_wants, request_total_mono}
use Rattle.deals.proofs.Computed.{pcapmin, request, starts_of, measured, dealt, Startable, granted_asked}

-- What one Request x has room for, another, y, has too, where its higher ranks ask no more (b ≤ a) and its children ask for it.
bracket : (limit a b p x y s e : ℕ) → b ≤ a → x ≤ limit - a - p → y ≡ min (limit - b - p) e → s ≤ x → s ≤ e → s ≤ y
bracket limit a b p x y s e h k q m n = omega arith

-- A deal d, and another by wants w that are nowhere greater, in which each cord starts from s: no less than its low, and no more than its
-- want and than what it was granted by d.
pub record Later (d : Deal) (w s : ℕ → ℕ) : Type 0 where
  pub ok : Dealable d
  pub st : Startable d
  pub ko : Dealable (by_wants d w s)
  pub lows : (c : ℕ) → c < d.cords → d.low c ≤ s c
  pub wants : (c : ℕ) → c < d.cords → s c ≤ w c
  pub grants : (c : ℕ) → c < d.cords → s c ≤ at (granted d) c
  pub less : (c : ℕ) → c < d.cords → w c ≤ d.want c

module _ (d : Deal) (w s : ℕ → ℕ) (both : Later d w s) where
  open both use {ok, st, ko, lows, wants, grants, less}

  -- The deal by those wants and starts.
  abbrev after : Deal
  after = by_wants d w s

  -- The starts beneath a node are no more than the first deal granted there, and so than its Request.
  starts_asked : (n j : ℕ) → n < d.nodes → j < d.levels → starts_of after n j ≤ request d n j
  starts_asked n j l h =
      le_trans
      (le_of_eq (deal_beneath_unique after ko (at_level d j s) (λ m. starts_of after m j) (λ m lm. (dealt after ko).starts m j lm h ∙ add_comm _ _) n l))
      (le_trans (deal_beneath_le d ok n _ _ (λ c lc b. on_le (eqb (d.level c) j) (s c) (at (granted d) c) (λ t. grants c lc))) (granted_asked d ok st n j l h))

  -- The Requests of a rank and above sum to no more than in the first deal.
  requests_less : (k j : ℕ) → j + k ≡ d.levels → (n : ℕ) → n < d.nodes → up k j (request after n) ≤ up k j (request d n)
  requests_less k j e =
      request_total_mono d w s ok ko (pcapmin d) (request d) (pcapmin after) (request after) (measured d ok) (measured after ko) k j e (λ c lc g. less c lc)

  -- The lows of the lower ranks are the same in both deals.
  lows-same : (n j : ℕ) → n < d.nodes → j ≤ d.levels → sum j (pcapmin after n) ≡ sum j (pcapmin d n)
  lows-same n j l h = sum_cong j (pcapmin after n) (pcapmin d n) (λ i g.
      pcapmin_is after ko (pcapmin after) (request after) (measured after ko) i n (omega arith) l
      ∙ sym (pcapmin_is d ok (pcapmin d) (request d) (measured d ok) i n (omega arith) l))

  -- By the children the starts are no more than these ask, and a lesser limit is left only by greater Requests of higher ranks.
  starts_within : (n : ℕ) → n < d.nodes → (j : ℕ) → j < d.levels → starts_of after n j ≤ request after n j
  unfolding asked
  starts_within = down d.nodes (λ n. (j : ℕ) → j < d.levels → starts_of after n j ≤ request after n j) (λ n l ih j h.
      let k : ℕ = d.levels - suc j in
      let e : suc j + k ≡ d.levels = omega arith in
      let children : starts_of after n j ≤ asked after (request after) n j
      = le_trans (le_of_eq ((dealt after ko).starts n j l h))
      (add-le-add (child_sum_le d.nodes d.parent n _ _ (λ m lm q. ih m lm (later d ok m n lm q) j h))
      (child_sum_le d.cords d.node n _ _ (λ c lc q. on_le (eqb (d.level c) j) (s c) (w c) (λ t. wants c lc)))) in
      let first : request d n j ≤ d.limit n - up k (suc j) (request d n) - sum j (pcapmin after n)
      = omega (arith, (measured d ok).request n l k j e, lows-same n j l (omega arith)) in
      bracket (d.limit n) _ _ _ _ _ _ _ (requests_less k (suc j) e n l) first ((measured after ko).request n l k j e) (starts_asked n j l h) children)

  pub later_startable : Startable after
  later_startable = record { least = lows; most = wants; within = λ n j l h. starts_within n l j h }

  -- The starts of the lower ranks are within the first deal's Requests of these, so that the Requests of a rank and above leave them.
  pub later_fits : (n : ℕ) → n < d.nodes → (k j : ℕ) → j + k ≡ d.levels → sum j (starts_of after n) + up k j (request after n) ≤ d.limit n
  later_fits n l k j e =
      omega (
        arith,
        sum_le j (starts_of after n) (request d n) (λ i h. starts_asked n i l (omega arith)),
        requests_less k j e n l,
        sum_up k j d.levels (request d n) e,
        requests_fit d ok (pcapmin d) (request d) (measured d ok) n l,
      )
