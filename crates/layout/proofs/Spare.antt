-- What the limits of a good table's nodes have over the lows beneath these, which its check has shown to be no more.
use mathlib.Core.Path.{◌≡◌, sym, ap, ◌∙◌}
use mathlib.Core.List.{List}
use Prim.Native.Nat.{ℕ, ◌+◌, ◌≤◌, ◌<◌}
use native.Mathlib.Omega.{arith}
use lib.ListN.{length}
use Rattle.figures.specs.Figures.{at}
use Rattle.rooms.specs.Part.{Good, good}
use Rattle.rooms.specs.Table.{Room}
use Rattle.rooms.specs.Limits.{lows_beneath, checked}
use Rattle.rooms.specs.Lists.{parents_of, limits_of}
use Rattle.rooms.proofs.Accepted.{accepted}
use Rattle.rooms.specs.Rows.{OfRoom, NodesFit}
use Rattle.deals.proofs.RoomDeals.{limits_of-length, limits_of-at}
use Rattle.layout.specs.Lists.{HasLowsBeneath}

-- The limits of a good table's nodes are no less than the lows beneath these.
module _ (table beneath : List ℕ) {parents limits : List ℕ} (has : HasLowsBeneath table beneath) (of_nodes : OfRoom table (λ r. (parents ≡ parents_of r) × (limits ≡ limits_of r))) where
  module _ (r : Room) (end : ℕ) (is : checked table 0 ≡ good r end) where
    limits_count : length limits ≡ length r.nodes
    limits_count = ap length (of_nodes r end is).1 ∙ limits_of-length r

    limit-at : (n : ℕ) → at limits n ≡ at (limits_of r) n
    limit-at n = ap (λ (l : List ℕ). at l n) (of_nodes r end is).1

  pub spare_asked : Good (checked table 0) → NodesFit table (length beneath) → (length beneath ≡ length limits) × ((n : ℕ) → n < length limits → at beneath n ≤ at limits n)
  spare_asked g fit =
      let r = g.value in
      let count = limits_count r g.next g.is in (
        fit r g.next g.is ∙ sym count,
        λ n l.
            let here : n < length r.nodes = omega arith in
            omega (arith, has r g.next g.is n here, limit-at r g.next g.is n, limits_of-at r n, (accepted table r g.next g.is).lows n here),
      )

  pub nodes-loaded : (spare : List ℕ) → ((n : ℕ) → n < length limits → at spare n + at beneath n ≡ at limits n)
      → OfRoom table (λ r. (parents ≡ parents_of r) × ((n : ℕ) → n < length r.nodes → at spare n + lows_beneath r n ≡ at (limits_of r) n))
  nodes-loaded spare over r end is = (
    (of_nodes r end is).0,
    λ n l. omega (arith, over n (omega (arith, limits_count r end is)), has r end is n l, limit-at r end is n),
  )
