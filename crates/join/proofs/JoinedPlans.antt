-- The plan of a joined room has the lists of the first room's plan followed by those of the second's.
use mathlib.Core.Path.{◌≡◌, sym, ap, ◌∙◌}
use mathlib.Core.List.{List, ◌++◌, map}
use Prim.Native.Nat.{ℕ, ◌+◌, ◌<◌, zero-le}
use native.Mathlib.Nat.{add-zero}
use native.Mathlib.Omega.{arith}
use lib.ListN.{length, length-append, length-map, get_or-append}
use lib.Seq.{ext_get_or}
use Rattle.figures.specs.Figures.{at, sum_of}
use Rattle.figures.proofs.Lists.{total-append, figures-length}
use Rattle.rooms.specs.Lists.{nodes_of}
use Rattle.deals.specs.Metrics.{deal_from, deal_of}
use Rattle.deals.specs.Dealing.{granted}
use Rattle.deals.proofs.RoomDeals.{nodes_of-length}
use Rattle.rooms.specs.Table.{raised, Room, room_cords}
use Rattle.rooms.proofs.Accepted.{Accepted}
use Rattle.deals.specs.SecondDeal.{first_deal, first_grants, first_used, stranded, freed, second_grants, caps}
use Rattle.deals.specs.Headroom.{headroom}
use Rattle.deals.specs.Held.{held}
use Rattle.deals.specs.Plan.{plan_of}
use Rattle.deals.proofs.BothDeals.{stranded-count}
use Rattle.deals.proofs.RoomInside.{RoomInside, ServersIn, first_grants_in, stranded_in, second_grants_in, caps_in}
use Rattle.deals.proofs.RoomInsideLists.{room_headroom_in, room_held_in}
use Rattle.join.specs.Joined.{joined, joined_plan}
use Rattle.join.proofs.JoinedRoom.{accepted_facts, Side, before, behind, side, behind_at, map_at, raised_none, servers-joined, cords-count, first_inside, second_inside}
use Rattle.deals.proofs.Plans.{second_grants-length, caps-length, headroom-length, held-length}

-- A list that has the entries of one, and behind them those of another.
appended : (l f g : List ℕ) (k : ℕ) → length f ≡ k → length l ≡ k + length g → ((i : ℕ) → i < k → at l (i + 0) ≡ at f i)
    → ((i : ℕ) → i < length g → at l (i + k) ≡ at g i) → l ≡ f ++ g
appended l f g k e n lo hi = ext_get_or 0 l (f ++ g) (omega (arith, length-append f g)) (λ i h. go i h (side k i))
  where
    go : (i : ℕ) → i < length l → Side k i → at l i ≡ at (f ++ g) i
    go i h (before o) = (rw add-zero at (lo i o)) ∙ sym (get_or-append f g 0 i (omega arith))
    go i h (behind j o) = ap (at l) o ∙ hi j (omega arith) ∙ sym (ap (at (f ++ g)) o ∙ behind_at f g j k 0 e)

module _ (r q : Room) (ok : Accepted r) (ko : Accepted q) (both : Accepted (joined r q)) (same : q.scale ≡ r.scale)
    (d e : List ℕ) (count : length d ≡ length r.servers) where
  abbrev whole : Room
  whole = joined r q

  one : RoomInside r whole 0 0 0
  one = first_inside r q (accepted_facts r ok)

  two : RoomInside q whole (length r.nodes) (room_cords r) (length r.servers)
  two = second_inside r q (accepted_facts r ok) same

  demands_one : ServersIn r whole 0 0 0 one ok both 0 (d ++ e) d
  demands_one u l k = rw add-zero (get_or-append d e 0 u (omega arith))

  demands_two : ServersIn q whole (length r.nodes) (room_cords r) (length r.servers) two ko both 0 (d ++ e) e
  demands_two u l k = behind_at d e u (length r.servers) 0 count

  -- A list with a figure a cord, of the whole and of its halves.
  cords_appended : (list : Room → List ℕ → List ℕ) → ((r : Room) (d : List ℕ) → length (list r d) ≡ room_cords r) → (g : List ℕ) → length g ≡ room_cords q
      → ((c : ℕ) → c < room_cords r → at (list whole (d ++ e)) (c + 0) ≡ at (list r d) c)
      → ((c : ℕ) → c < room_cords q → at (list whole (d ++ e)) (c + room_cords r) ≡ at g c) → list whole (d ++ e) ≡ list r d ++ g
  cords_appended list count g z lo hi =
      appended (list whole (d ++ e)) (list r d) g (room_cords r) (count r d) (omega (arith, count whole (d ++ e), cords-count r q)) lo (λ c h. hi c (omega arith))

  abbrev left : Room → List ℕ → List ℕ
  left r d = stranded r (first_grants r d) (first_used r d)

  stranded-joined : left whole (d ++ e) ≡ left r d ++ left q e
  stranded-joined =
      cords_appended left (λ r d. stranded-count r (first_grants r d) (first_used r d)) (left q e) (stranded-count q (first_grants q e) (first_used q e))
      (λ c l. stranded_in r whole 0 0 0 one ok both 0 (d ++ e) d demands_one c l zero-le)
      (λ c l. stranded_in q whole (length r.nodes) (room_cords r) (length r.servers) two ko both 0 (d ++ e) e demands_two c l zero-le)

  freed-joined : freed whole (d ++ e) ≡ freed r d + freed q e
  unfolding freed
  freed-joined = ap sum_of stranded-joined ∙ total-append (λ x. x) (left r d) (left q e)

  -- The first deal's grants, by the lengths that they have.
  first_grants-length : (r : Room) (d : List ℕ) → length (first_grants r d) ≡ room_cords r
  unfolding first_grants first_deal deal_of deal_from granted
  first_grants-length r d = figures-length (length (nodes_of r)) _ ∙ nodes_of-length r

  pub first_grants-joined : first_grants whole (d ++ e) ≡ first_grants r d ++ first_grants q e
  first_grants-joined =
      cords_appended first_grants first_grants-length (first_grants q e) (first_grants-length q e)
      (λ c l. first_grants_in r whole 0 0 0 one ok both 0 (d ++ e) d demands_one c l zero-le)
      (λ c l. first_grants_in q whole (length r.nodes) (room_cords r) (length r.servers) two ko both 0 (d ++ e) e demands_two c l zero-le)

  grants_joined : second_grants whole (d ++ e) ≡ second_grants r d ++ second_grants q e
  grants_joined =
      cords_appended second_grants second_grants-length (second_grants q e) (second_grants-length q e)
      (λ c l. second_grants_in r whole 0 0 0 one ok both 0 (d ++ e) d demands_one c l zero-le)
      (λ c l. second_grants_in q whole (length r.nodes) (room_cords r) (length r.servers) two ko both 0 (d ++ e) e demands_two c l zero-le)

  caps-joined : caps whole (d ++ e) ≡ caps r d ++ caps q e
  caps-joined =
      appended (caps whole (d ++ e)) (caps r d) (caps q e) (length r.servers) (caps-length r d) (omega (arith, caps-length whole (d ++ e), caps-length q e, servers-joined r q))
      (λ u l. caps_in r whole 0 0 0 one ok both 0 (d ++ e) d demands_one u l zero-le)
      (λ u l. caps_in q whole (length r.nodes) (room_cords r) (length r.servers) two ko both 0 (d ++ e) e demands_two u (omega (arith, caps-length q e)) zero-le)

  headroom-joined : headroom whole (d ++ e) ≡ headroom r d ++ headroom q e
  headroom-joined =
      cords_appended headroom headroom-length (headroom q e) (headroom-length q e)
      (λ c l. room_headroom_in r whole 0 0 0 one ok both (d ++ e) d demands_one c l)
      (λ c l. room_headroom_in q whole (length r.nodes) (room_cords r) (length r.servers) two ko both (d ++ e) e demands_two c l)

  held-joined : held whole (d ++ e) ≡ held r d ++ map (raised (length r.nodes)) (held q e)
  held-joined =
      cords_appended held held-length (map (raised (length r.nodes)) (held q e)) (length-map (held q e) (raised (length r.nodes)) ∙ held-length q e)
      (λ c l. room_held_in r whole 0 0 0 one ok both (d ++ e) d demands_one c l ∙ sym (raised_none (at (held r d) c)))
      (λ c l. room_held_in q whole (length r.nodes) (room_cords r) (length r.servers) two ko both (d ++ e) e demands_two c l
      ∙ sym (map_at (raised (length r.nodes)) (held q e) c 0 0 (omega (arith, held-length q e))))

  pub plan-joined : plan_of whole (d ++ e) ≡ joined_plan (length r.nodes) (plan_of r d) (plan_of q e)
  plan-joined = λ i. record {
    freed = freed-joined i;
    grants = grants_joined i;
    caps = caps-joined i;
    headroom = headroom-joined i;
    held = held-joined i;
  }
