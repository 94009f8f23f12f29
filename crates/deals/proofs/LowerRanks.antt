-- Demands that agree from a rank on: those servers and their cords have the same grants, usable watts and caps. Each room is inside itself.
use mathlib.Core.Path.{◌≡◌, refl, sym, ap}
use mathlib.Core.List.{List}
use Prim.Native.Nat.{ℕ, zero, suc}
use native.Mathlib.Nat.{add-zero}
use native.Mathlib.Omega.{arith}
use Rattle.rooms.specs.Table.{raised, Room}
use Rattle.rooms.proofs.Accepted.{Accepted}
use Rattle.deals.specs.SecondDeal.{first_grants, first_usable, second_grants, caps}
use Rattle.deals.specs.Promises.{SameServers, SameCords}
use Rattle.deals.proofs.RoomInside.{RoomInside, ServersIn, first_grants_in, first_usable_in, second_grants_in, caps_in}

raised_none : (v : ℕ) → v ≡ raised 0 v
raised_none zero = refl
raised_none (suc q) = ap suc (sym (add-zero q))

self : (r : Room) → RoomInside r r 0 0 0
self r = record {
  scale = refl;
  nodes_fit = omega arith;
  cords_fit = omega arith;
  servers_fit = omega arith;
  parent = λ m l. rw add-zero (raised_none _);
  limits = λ m l. rw add-zero;
  rank = λ u l. rw add-zero;
  least = λ u l. rw add-zero;
  greatest = λ u l. rw add-zero;
  server = λ c l. rw (add-zero, add-zero);
  node = λ c l. rw add-zero (raised_none _);
  share = λ c l. rw add-zero;
  alone = λ m n l h e. omega arith;
  bare = λ c n l h e. omega arith;
  apart = λ c u l h e. omega arith;
}

module _ (r : Room) (ok : Accepted r) (rank : ℕ) (d e : List ℕ) (same : SameServers r rank d e) where
  agree : ServersIn r r 0 0 0 (self r) ok ok rank d e
  agree u l k = rw add-zero (same u l k)

  pub first_grants-same : SameCords r rank (first_grants r d) (first_grants r e)
  first_grants-same c l k = rw add-zero at (first_grants_in r r 0 0 0 (self r) ok ok rank d e agree c l k)

  pub first_usable-same : SameServers r rank (first_usable r d) (first_usable r e)
  first_usable-same v l k = rw add-zero at (first_usable_in r r 0 0 0 (self r) ok ok rank d e agree v l k)

  pub second_grants-same : SameCords r rank (second_grants r d) (second_grants r e)
  second_grants-same c l k = rw add-zero at (second_grants_in r r 0 0 0 (self r) ok ok rank d e agree c l k)

  pub caps-same : SameServers r rank (caps r d) (caps r e)
  caps-same v l k = rw add-zero at (caps_in r r 0 0 0 (self r) ok ok rank d e agree v l k)
