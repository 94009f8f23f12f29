-- The lists of a room that is loaded, as they are lent to both deals and to what follows them, and what the plan leaves in them.
use mathlib.Core.Path.{◌≡◌, refl, sym, ap, ◌∙◌}
use mathlib.Core.Bool.{Bool, true, false}
use mathlib.Core.List.{List}
use Prim.Native.Nat.{ℕ, ◌≤◌}
use native.Mathlib.Omega.{arith}
use lib.Dec.{leb}
use lib.ListN.{length, take}
use lib.Seq.{sets, take_all}
use borrow.Author.Tests.{leb-true, leb-false}
use Rattle.figures.proofs.Lists.{figures-length}
use Rattle.figures.proofs.Stores.{sets-front}
use Rattle.rooms.specs.Table.{Room, most_nodes, most_cords, room_cords}
use Rattle.rooms.specs.Rows.{nodes_in}
use Rattle.rooms.specs.declared.lists.CordRow.{CordRow}
use Rattle.rooms.proofs.Accepted.{Accepted, accepted}
use Rattle.deals.specs.Wants.{needs, first_wants}
use Rattle.deals.specs.Headroom.{ceilings_of}
use Rattle.deals.proofs.RoomDeals.{parents_of-length}
use Rattle.deals.proofs.BothDeals.{lows_of-length, carried_by-length}
use Rattle.deals.proofs.RoomHeadroom.{ceilings_count}
use Rattle.layout.specs.Room.{RoomLists}
use Rattle.layout.specs.declared.room.Counts.{Counts}
use Rattle.layout.proofs.Rows.{cords-count}
use Rattle.figures.proofs.Fronts.{Lent, rejoined}
use Rattle.plan_rooms.specs.Planning.{RoomToDeal, PlanGiven}

-- A list is as long as a front of it.
front_long : {A : Type 0} {n m : ℕ} (list : List A) → length (take n list) ≡ m → n ≡ m → n ≤ length list
front_long {n = n} list size is = go (leb n (length list)) refl
  where
    go : (t : Bool) → leb n (length list) ≡ t → n ≤ length list
    go true e = leb-true n (length list) e
    go false e = omega (arith, leb-false n (length list) e, ap length (take_all n list (omega (arith, leb-false n (length list) e))))

module _ {table demands : List ℕ} {r : Room} {counts : Counts} {parents spare : List ℕ} {cords : List CordRow} {lows wants headroom caps : List ℕ}
    (g : PlanGiven table demands r counts parents spare cords lows wants headroom caps) where
  pub given_ok : Accepted r
  given_ok = accepted table r g.end g.is

  nodes_are : counts.nodes ≡ length r.nodes
  nodes_are = ap (λ (c : Counts). c.nodes) g.counted

  servers_are : counts.servers ≡ length r.servers
  servers_are = ap (λ (c : Counts). c.servers) g.counted

  cords_are : counts.cords ≡ room_cords r
  cords_are = ap (λ (c : Counts). c.cords) g.counted

  pub nodes_few : counts.nodes ≤ most_nodes
  nodes_few = omega (arith, nodes_are, given_ok.few_nodes)

  pub cords_few : counts.cords ≤ most_cords
  cords_few = omega (arith, cords_are, given_ok.few_cords)

  -- The fronts are the room's lists.
  pub given-lists : RoomLists r demands (take counts.nodes parents) (take counts.nodes spare) (take counts.cords cords)
      (take counts.cords lows) (take counts.cords wants) (take counts.cords headroom) (take counts.servers caps)
  given-lists = rw g.counted g.loaded

  -- Every list is long enough.
  pub parents_long : counts.nodes ≤ length parents
  parents_long = front_long parents (ap length given-lists.parents_are ∙ parents_of-length r) nodes_are

  pub spare_long : counts.nodes ≤ length spare
  spare_long = front_long spare (given-lists.spare_size ∙ ap length given-lists.parents_are ∙ parents_of-length r) nodes_are

  pub cords_long : counts.cords ≤ length cords
  cords_long = front_long cords (cords-count given-lists.cords_are.rows_are) cords_are

  pub lows_long : counts.cords ≤ length lows
  lows_long = front_long lows (ap length given-lists.cords_are.lows_are ∙ lows_of-length r) cords_are

  pub wants_long : counts.cords ≤ length wants
  unfolding first_wants
  wants_long = front_long wants (ap length given-lists.cords_are.wants_are ∙ carried_by-length r (needs r demands)) cords_are

  pub headroom_long : counts.cords ≤ length headroom
  headroom_long = front_long headroom (ap length given-lists.cords_are.ceilings_are ∙ ceilings_count r given_ok demands) cords_are

  pub caps_long : counts.servers ≤ length caps
  unfolding needs
  caps_long = front_long caps (ap length given-lists.cords_are.needs_are ∙ figures-length (length r.servers) _) servers_are

  -- With the cords' nodes they are what both deals ask.
  pub to_deal : {nodes : List ℕ} → nodes ≡ nodes_in (take counts.cords cords)
      → RoomToDeal r demands (take counts.nodes parents) (take counts.nodes spare) (take counts.cords cords) nodes
      (take counts.cords lows) (take counts.cords wants) (take counts.servers caps) counts.scale
  to_deal listed =
      let laid = given-lists.cords_are in
      record {
        lists = record {
          parents_are = given-lists.parents_are;
          spare_size = given-lists.spare_size;
          spare_is = given-lists.spare_is;
          cords_are = record {
            rows_are = laid.rows_are;
            lows_are = laid.lows_are;
            wants_are = laid.wants_are;
            ceilings_are = refl;
            needs_are = laid.needs_are;
          };
        };
        nodes_are = listed ∙ laid.rows_are.nodes;
        scale_is = ap (λ (c : Counts). c.scale) g.counted;
      }

  pub ceilings_given : take counts.cords headroom ≡ ceilings_of r
  ceilings_given = given-lists.cords_are.ceilings_are

-- What came back for a front stands before the rest.
pub stands : {n : ℕ} {list back : List ℕ} → Lent n list back → (out : List ℕ) → back ≡ out → rejoined n list back ≡ sets list 0 out
stands {n} {list} {back} l out is =
    let size : length out ≡ n = ap length (sym is) ∙ l.size in
    sym (sets-front list out ∙ rw (take_all (length list) out (omega (arith, size, l.few)), size, ← is))
