-- The law of totals, of the computed metrics.
use mathlib.Core.Path.{◌≡◌, sym, ap₂, ◌∙◌}
use mathlib.Core.List.{[]}
use Prim.Native.Nat.{ℕ, ◌+◌, ◌-◌, ◌≤◌, ◌<◌, min}
use native.Mathlib.Omega.{arith}
use lib.ListN.{get_or}
use Rattle.figures.specs.Sums.{sum}
use Rattle.figures.proofs.Sums.{up}
use Rattle.figures.proofs.Lists.{total-drop, sum_of-take}
use Rattle.rooms.proofs.Trees.{child_sum_cong}
use Rattle.deals.specs.Metrics.{Deal, metrics}
use Rattle.deals.specs.Properties.{request_total, pcapmin_below, starts_below, from_level, TotalsOf}
use Rattle.deals.proofs.Requests.{Dealable, request-total}
use Rattle.deals.proofs.Computed.{pcapmins_levels, requests_levels, starts_levels, pcapmin, request, starts_of, measured}
use Rattle.rooms.specs.Trees.{child_sum}

module _ (d : Deal) where
  pub request_total_is : (n : ℕ) → n < d.nodes → (k j : ℕ) → j + k ≡ d.levels → request_total d n j ≡ up k j (request d n)
  unfolding request
  request_total_is n l k j e = total-drop (λ a. a) 0 (get_or (metrics d).requests n []) k j (e ∙ sym (requests_levels d n l))

  pub pcapmin_below_is : (n : ℕ) → n < d.nodes → (j : ℕ) → j ≤ d.levels → pcapmin_below d n j ≡ sum j (pcapmin d n)
  unfolding pcapmin
  pcapmin_below_is n l j h = sum_of-take (get_or (metrics d).pcapmins n []) j (omega (arith, pcapmins_levels d n l))

  pub starts_below_is : (n : ℕ) → n < d.nodes → (j : ℕ) → j ≤ d.levels → starts_below d n j ≡ sum j (starts_of d n)
  unfolding starts_of
  starts_below_is n l j h = sum_of-take (get_or (metrics d).starts n []) j (omega (arith, starts_levels d n l))

  pub deal_totals : Dealable d → TotalsOf d
  deal_totals ok n j l h =
      let k : ℕ = d.levels - j in
      let e : j + k ≡ d.levels = omega arith in
      request_total_is n l k j e
      ∙ request-total d ok (pcapmin d) (request d) (measured d ok) n l k j e
      ∙ ap₂ (λ (x y : ℕ). min (d.limit n - x) (y + child_sum d.cords d.node n (from_level d j d.want)))
      (sym (pcapmin_below_is n l j h))
      (child_sum_cong d.nodes d.parent n _ _ (λ m lm q. sym (request_total_is m lm k j e)))
