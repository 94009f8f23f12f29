-- At every node, in both deals, the Requests of any rank and above leave the lower ranks their starts.
use mathlib.Core.Path.{◌≡◌, refl, sym, subst}
use mathlib.Core.List.{List}
use Prim.Native.Nat.{ℕ, ◌+◌, ◌-◌, ◌≤◌, ◌<◌}
use native.Mathlib.Omega.{arith}
use Rattle.figures.specs.Figures.{at}
use Rattle.figures.specs.Sums.{sum}
use Rattle.figures.proofs.Sums.{up}
use Rattle.rooms.specs.Table.{Room}
use Rattle.rooms.specs.Lists.{lows_of}
use Rattle.rooms.proofs.Accepted.{Accepted}
use Rattle.deals.specs.Metrics.{Deal}
use Rattle.deals.specs.Wants.{first_wants}
use Rattle.deals.specs.SecondDeal.{first_deal, first_used, second_deal, second_wants}
use Rattle.deals.specs.Properties.{StartsFit}
use Rattle.deals.proofs.Requests.{Dealable, fits}
use Rattle.deals.proofs.Computed.{pcapmin, request, starts_of, measured, starts_are}
use Rattle.deals.proofs.Starts.{later_fits}
use Rattle.deals.proofs.Totals.{request_total_is, starts_below_is}
use Rattle.deals.proofs.RoomDeals.{room_deal, deal_of_is}
use Rattle.deals.proofs.BothDeals.{first_wants-lows, room_dealable, second_later, of_second_room_deal}

-- By functions of place.
fits_starts_fit : (d : Deal) → ((n : ℕ) → n < d.nodes → (k j : ℕ) → j + k ≡ d.levels → sum j (starts_of d n) + up k j (request d n) ≤ d.limit n)
    → StartsFit d
fits_starts_fit d h n j l q =
    let k : ℕ = d.levels - j in
    let e : j + k ≡ d.levels = omega arith in
    omega (arith, starts_below_is d n l j q, request_total_is d n l k j e, h n l k j e)

-- Starts that are the lows are summed by Pcapmin.
lows_fit : (d : Deal) → Dealable d → d.start ≡ d.low → StartsFit d
lows_fit d ok lows = fits_starts_fit d (λ n l k j e.
    subst (λ (s : ℕ → ℕ → ℕ). sum j (s n) + up k j (request d n) ≤ d.limit n) (sym (starts_are d ok lows))
    (fits d ok (pcapmin d) (request d) (measured d ok) n l k j e))

module _ (r : Room) (ok : Accepted r) (demands : List ℕ) where
  pub first_fit : StartsFit (first_deal r demands)
  unfolding first_deal
  first_fit =
      subst StartsFit (sym (deal_of_is r (lows_of r) (first_wants r demands)))
      (lows_fit (room_deal r (lows_of r) (first_wants r demands)) (room_dealable r ok (lows_of r) (first_wants r demands) (first_wants-lows r ok demands)) refl)

  pub second_fit : StartsFit (second_deal r demands)
  second_fit =
      of_second_room_deal r ok demands StartsFit
      (fits_starts_fit _ (later_fits (room_deal r (lows_of r) (first_wants r demands)) (at (second_wants r demands)) (at (first_used r demands)) (second_later r ok demands)))
