-- A cord in the walk over a good table's servers: its words, and the room's figures of it.
use mathlib.Core.Path.{◌≡◌, sym, ap, ap₂, ◌∙◌}
use mathlib.Core.List.{List}
use Prim.Native.Nat.{ℕ, ◌+◌, ◌-◌, ◌*◌, ◌≤◌, ◌<◌, min, max}
use native.Mathlib.Omega.{arith}
use lib.ListN.{length}
use Rattle.figures.specs.Figures.{figures, at}
use Rattle.figures.proofs.Lists.{figures-at}
use Rattle.rooms.specs.Table.{Room, room_cords}
use Rattle.rooms.specs.Limits.{carried}
use Rattle.rooms.specs.Cords.{RoomCord, cord_at, server_at}
use Rattle.rooms.specs.Lists.{lows_of}
use Rattle.rooms.proofs.Accepted.{Accepted}
use Rattle.rooms.proofs.Walk.{CordHere, ServerHere}
use Rattle.deals.specs.Wants.{needs, first_wants}
use Rattle.deals.specs.Headroom.{ceilings_of}
use Rattle.deals.proofs.BothDeals.{needs-at, carried_by-at, lows_of-at}

-- The cord at place c is the server's at place v, and its words start at index `word`.
pub record CordStands (table : List ℕ) (r : Room) (v c word : ℕ) : Type 0 where
  pub there : word + 1 < length table
  pub within : c < room_cords r
  pub is : cord_at r c ≡ record { server = v; node = at table word; share = at table (word + 1) }
  pub node_most : at table word ≤ length r.nodes
  pub share_most : at table (word + 1) ≤ r.scale

-- What a cord carries, where its scale and its load have other names.
pub carried_as : (share : ℕ) {scale s load l figure : ℕ} → scale ≡ s → load ≡ l → figure ≡ carried s share l → carried scale share load ≡ figure
carried_as share es el is = ap₂ (λ (x y : ℕ). carried x share y) es el ∙ sym is

module _ {table : List ℕ} {r : Room} {v start first : ℕ} (standing : ServerHere table r v start first) where
  pub cord_stands : {c word : ℕ} → first ≤ c → c < first + at table (start + 3) → word + 2 * first ≡ start + 4 + 2 * c → CordStands table r v c word
  cord_stands {c} {word} from to next =
      let here : CordHere table r v start first (c - first) = standing.cord (c - first) (omega arith) in
      let at_c : first + (c - first) ≡ c = omega arith in
      let at-word : start + 4 + 2 * (c - first) ≡ word = omega arith in
      let at-share : start + 5 + 2 * (c - first) ≡ word + 1 = omega arith in
      record {
        there = omega (arith, here.there, at-share);
        within = rw at_c at here.within;
        is = rw (at_c, at-word, at-share) at here.is;
        node_most = rw at-word at here.node_most;
        share_most = rw at-share at here.share_most;
      }

  -- The server's need, by its words.
  pub need_is : (demands : List ℕ) → v < length r.servers → at (needs r demands) v ≡ min (max (at demands v) (at table (start + 1))) (at table (start + 2))
  need_is demands here = needs-at r demands v here ∙ ap₂ (λ (x y : ℕ). min (max (at demands v) x) y) standing.least standing.greatest

  -- The cord's low, want and ceiling, by its words and those of its server.
  module _ {c word : ℕ} (cord : CordStands table r v c word) where
    -- What it carries of its server's load.
    load_is : (loads : List ℕ) {load : ℕ} → at loads v ≡ load → carried r.scale (cord_at r c).share (at loads (cord_at r c).server) ≡ carried r.scale (at table (word + 1)) load
    load_is loads e = ap₂ (carried r.scale) (ap (λ (x : RoomCord). x.share) cord.is) (ap (λ (x : RoomCord). at loads x.server) cord.is ∙ e)

    pub low_is : Accepted r → at (lows_of r) c ≡ carried r.scale (at table (word + 1)) (at table (start + 1))
    low_is ok =
        lows_of-at r ok c cord.within
        ∙ ap₂ (carried r.scale) (ap (λ (x : RoomCord). x.share) cord.is) (ap (λ (x : RoomCord). (server_at r x.server).least) cord.is ∙ standing.least)

    pub want_is : (demands : List ℕ) → v < length r.servers
        → at (first_wants r demands) c ≡ carried r.scale (at table (word + 1)) (min (max (at demands v) (at table (start + 1))) (at table (start + 2)))
    unfolding first_wants
    want_is demands here = carried_by-at r (needs r demands) c cord.within ∙ load_is (needs r demands) (need_is demands here)

    pub ceiling_is : v < length r.servers → at (ceilings_of r) c ≡ carried r.scale (at table (word + 1)) (at table (start + 2))
    unfolding ceilings_of
    ceiling_is here =
        let greatests : List ℕ = figures (length r.servers) (λ u. (server_at r u).greatest) in
        carried_by-at r greatests c cord.within ∙ load_is greatests (figures-at (length r.servers) v _ here ∙ standing.greatest)
