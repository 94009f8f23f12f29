-- The room's cords in a row: how many there are, what each is, and what is summed over them.
use mathlib.Core.Path.{◌≡◌, refl, sym, ap, ap₂, ◌∙◌, subst}
use mathlib.Core.Bool.{Bool}
use mathlib.Core.List.{List, [], ◌∷◌, ◌++◌}
use Prim.Native.Nat.{ℕ, zero, suc, ◌+◌, ◌-◌, ◌<◌}
use native.Mathlib.Nat.{not-suc-le-zero, le_of_suc-le-suc, zero-add, add-zero}
use native.Mathlib.Decide.{dec_le}
use native.Mathlib.Omega.{arith}
use lib.ListN.{length, get_or, length-append, get_or-append}
use lib.Seq.{get_or-append-add}
use Rattle.figures.specs.Figures.{total}
use Rattle.figures.specs.Sums.{on, sum}
use Rattle.rooms.specs.Table.{Cord, Server, Room, cord_count, room_cords}
use Rattle.rooms.specs.Limits.{carried, server_lows, lows}
use Rattle.figures.proofs.Lists.{total-sum, total-append}
use Rattle.rooms.specs.Cords.{RoomCord, server_cords, cords_from, cords_of, cord_at, server_at}

abbrev pub no_cord : Cord
no_cord = record { node = 0; share = 0 }

abbrev pub no_room_cord : RoomCord
no_room_cord = record { server = 0; node = 0; share = 0 }

abbrev pub no_server : Server
no_server = record { rank = 0; least = 0; greatest = 0; cords = [] }

-- A cord as one of the room's, of the server at place v.
abbrev pub placed : ℕ → Cord → RoomCord
placed v c = record { server = v; node = c.node; share = c.share }

-- ---- The count

pub server_cords-length : (v : ℕ) (l : List Cord) → length (server_cords v l) ≡ length l
unfolding server_cords
server_cords-length v [] = refl
server_cords-length v (c ∷ rest) = ap suc (server_cords-length v rest)

cords_from-length : (v : ℕ) (l : List Server) → length (cords_from v l) ≡ total cord_count l
unfolding cords_from total
cords_from-length v [] = refl
cords_from-length v (s ∷ rest) =
    length-append (server_cords v s.cords) (cords_from (suc v) rest) ∙ ap₂ ◌+◌ (server_cords-length v s.cords) (cords_from-length (suc v) rest)

pub cords_of-length : (r : Room) → length (cords_of r) ≡ room_cords r
cords_of-length r = cords_from-length 0 r.servers

-- ---- What holds of each server's cords holds of the room's

module _ (p : RoomCord → Type 0) where
  server_cords_all : (v : ℕ) (l : List Cord) → ((k : ℕ) → k < length l → p (placed v (get_or l k no_cord)))
      → (c : ℕ) → c < length l → p (get_or (server_cords v l) c no_room_cord)
  unfolding server_cords
  server_cords_all v [] h c q = absurd (not-suc-le-zero q)
  server_cords_all v (x ∷ rest) h zero q = h zero q
  server_cords_all v (x ∷ rest) h (suc c) q = server_cords_all v rest (λ k lk. h (suc k) (omega arith)) c (le_of_suc-le-suc q)

  pub cords_from_all : (v : ℕ) (l : List Server)
      → ((i k : ℕ) → i < length l → k < length (get_or l i no_server).cords → p (placed (v + i) (get_or (get_or l i no_server).cords k no_cord)))
      → (c : ℕ) → c < length (cords_from v l) → p (get_or (cords_from v l) c no_room_cord)
  unfolding cords_from
  cords_from_all v [] h c q = absurd (not-suc-le-zero q)
  cords_from_all v (s ∷ rest) h c q =
      go (dec_le (suc c) (length first)) (λ e. cords_from_all (suc v) rest
      (λ i k li lk. subst (λ (z : ℕ). p (placed z (get_or (get_or rest i no_server).cords k no_cord))) (let z : v + suc i ≡ suc v + i = omega arith in z) (h (suc i) k (omega arith) lk)) e)
    where
      first : List RoomCord
      first = server_cords v s.cords

      go : Dec (c < length first) → ((e : ℕ) → e < length (cords_from (suc v) rest) → p (get_or (cords_from (suc v) rest) e no_room_cord))
          → p (get_or (first ++ cords_from (suc v) rest) c no_room_cord)
      go (yes l) ih =
          subst p (sym (get_or-append first (cords_from (suc v) rest) no_room_cord c l))
          (server_cords_all v s.cords
          (λ k lk. subst (λ (z : ℕ). p (placed z (get_or s.cords k no_cord))) (add-zero v) (h 0 k (omega arith) lk))
          c (omega (arith, server_cords-length v s.cords)))
      go (no n) ih =
          let e : ℕ = c - length first in
          let w : c ≡ length first + e = omega arith in
          subst (λ (z : ℕ). p (get_or (first ++ cords_from (suc v) rest) z no_room_cord)) (sym w)
          (subst p (sym (get_or-append-add first (cords_from (suc v) rest) e no_room_cord))
          (ih e (omega (arith, length-append first (cords_from (suc v) rest)))))

  pub cords_of_all : (r : Room)
      → ((v k : ℕ) → v < length r.servers → k < length (server_at r v).cords → p (placed v (get_or (server_at r v).cords k no_cord)))
      → (c : ℕ) → c < room_cords r → p (cord_at r c)
  cords_of_all r h c l =
      cords_from_all 0 r.servers
      (λ i k li lk. subst (λ (z : ℕ). p (placed z (get_or (server_at r i).cords k no_cord))) (sym (zero-add i)) (h i k li lk))
      c (omega (arith, cords_of-length r))

-- ---- Sums over the room's cords

module _ (scale : ℕ) (test : ℕ → Bool) (least : ℕ → ℕ) where
  -- The low of one of the room's cords, where a test holds of its node.
  low_if : RoomCord → ℕ
  low_if c = on (test c.node) (carried scale c.share (least c.server))

  server_cords-lows : (v : ℕ) (s : Server) → least v ≡ s.least → (l : List Cord)
      → total low_if (server_cords v l) ≡ total (λ c. on (test c.node) (carried scale c.share s.least)) l
  unfolding server_cords total low_if
  server_cords-lows v s e [] = refl
  server_cords-lows v s e (c ∷ rest) =
      ap₂ ◌+◌ (ap (λ (z : ℕ). on (test c.node) (carried scale c.share z)) e) (server_cords-lows v s e rest)

  cords_from-lows : (v : ℕ) (l : List Server) → ((i : ℕ) → i < length l → least (v + i) ≡ (get_or l i no_server).least)
      → total low_if (cords_from v l) ≡ lows scale test l
  unfolding cords_from lows server_lows total
  cords_from-lows v [] h = refl
  cords_from-lows v (s ∷ rest) h =
      total-append low_if (server_cords v s.cords) (cords_from (suc v) rest)
      ∙ ap₂ ◌+◌
      (server_cords-lows v s (ap least (sym (add-zero v)) ∙ h 0 (omega arith)) s.cords)
      (cords_from-lows (suc v) rest (λ i l. ap least (let z : suc v + i ≡ v + suc i = omega arith in z) ∙ h (suc i) (omega arith)))

-- The lows of the cords on nodes of which a test holds, summed over the room's cords.
pub lows-sum : (r : Room) (test : ℕ → Bool)
    → lows r.scale test r.servers
    ≡ sum (room_cords r) (λ c. on (test (cord_at r c).node) (carried r.scale (cord_at r c).share (server_at r (cord_at r c).server).least))
unfolding low_if
lows-sum r test =
    sym (cords_from-lows r.scale test (λ v. (server_at r v).least) 0 r.servers (λ i l. ap (λ (z : ℕ). (server_at r z).least) (zero-add i)))
    ∙ total-sum (low_if r.scale test (λ v. (server_at r v).least)) no_room_cord (cords_of r)
    ∙ ap (λ (z : ℕ). sum z (λ c. low_if r.scale test (λ v. (server_at r v).least) (cord_at r c))) (cords_of-length r)
