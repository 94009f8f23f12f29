-- What the first words of a good table and its length tell of its room.
use mathlib.Core.Path.{◌≡◌, refl, sym, ap, ap₂, ◌∙◌}
use mathlib.Core.Bool.{Bool, true, false}
use mathlib.Core.List.{List}
use Prim.Native.Nat.{ℕ, ◌+◌, ◌-◌, ◌*◌, ◌/◌, ◌≤◌, ◌<◌}
use native.Mathlib.Omega.{arith}
use lib.ListN.{length}
use Rattle.figures.specs.Figures.{at}
use Rattle.rooms.specs.Part.{good, Good}
use Rattle.rooms.specs.Table.{Room, form_of, room_cords}
use Rattle.rooms.specs.Limits.{limit, node_at, parent_of, checked}
use Rattle.rooms.specs.Credits.{node_index, NodesRead, parent_at, limit_at}
use Rattle.rooms.proofs.Rows.{nodes_words}
use Rattle.rooms.proofs.Whole.{percents_of, table_is, checked_is}
use Rattle.rooms.proofs.Places.{Layout, layout, nodes-read, same_parent, same-limit}
use Rattle.rooms.proofs.Reach.{length_is}
use Rattle.rooms.specs.Rows.{OfRoom, NodesFit, ServersFit, CordsFit, ScaleIs}
use Rattle.rooms.specs.Walk.{servers_index}

module _ (table : List ℕ) where
  pub scale_told : {version scale : ℕ} → version ≡ at table 0 → scale ≡ (form_of version).scale → ScaleIs table scale
  scale_told v e r end is = e ∙ ap (λ (x : ℕ). (form_of x).scale) v ∙ sym (table_is table r end (checked_is table r end is).0).scale_is

  pub nodes-told : {n : ℕ} → n ≡ at table 1 → NodesFit table n
  nodes-told e r end is = e ∙ (table_is table r end (checked_is table r end is).0).node_count

  -- The nodes stand before the count of servers.
  index_is : OfRoom table (λ r. servers_index table ≡ node_index (percents_of table) (length r.nodes))
  index_is r end is = ap (node_index (percents_of table)) (table_is table r end (checked_is table r end is).0).node_count

  pub index_told : {version n i : ℕ} {percents : Bool} → version ≡ at table 0 → percents ≡ (form_of version).percents → n ≡ at table 1 → n < 4294967296
      → i ≡ node_index percents n → (i ≡ servers_index table) × (i < 17179869184)
  index_told {n = n} {percents = percents} v p e h f =
      let formed : percents ≡ percents_of table = p ∙ ap (λ (x : ℕ). (form_of x).percents) v in (
        f ∙ ap₂ node_index formed e,
        omega (arith, f, index_small percents n),
      )
    where
      index_small : (b : Bool) (m : ℕ) → node_index b m ≤ 2 + 3 * m
      index_small true m = omega arith
      index_small false m = omega arith

  pub servers-told : {i v : ℕ} → i ≡ servers_index table → v ≡ at table i → ServersFit table v
  servers-told e f r end is =
      let t = table_is table r end (checked_is table r end is).0 in
      let m = (nodes_words (percents_of table) (length r.nodes) 1 table 2 r.nodes t.middle t.begun t.nodes_read).0 in
      f ∙ ap (at table) (e ∙ index_is r end is ∙ sym m) ∙ t.server_count

  module _ {i servers : ℕ} (e : i ≡ servers_index table + 1) (fit : ServersFit table servers) where
    words : OfRoom table (λ r. length table ≡ i + 4 * servers + 2 * room_cords r)
    words r end is = omega (arith, length_is table r end is, index_is r end is, fit r end is)

    pub cords-told : CordsFit table ((length table - (i + 4 * servers)) / 2)
    cords-told r end is = omega (arith, words r end is)

-- ---- The nodes

module _ (table : List ℕ) {version : ℕ} {percents : Bool} (v : version ≡ at table 0) (p : percents ≡ (form_of version).percents) {size : ℕ} (fit : NodesFit table size) where
  formed : percents ≡ percents_of table
  formed = p ∙ ap (λ (x : ℕ). (form_of x).percents) v

  laid : (r : Room) (end : ℕ) → checked table 0 ≡ good r end → Layout table r end size (node_index (percents_of table) size)
  laid r end is = let t = (checked_is table r end is).0 in layout table r end size (fit r end is ∙ sym (table_is table r end t).node_count) t

  pub nodes_there : Good (checked table 0) → NodesRead percents table size
  nodes_there g = nodes-read table g.value g.next size _ (laid g.value g.next g.is) formed refl

  pub parents_are : (r : Room) (end : ℕ) → checked table 0 ≡ good r end → (m : ℕ) → m < size → parent_at percents table m ≡ parent_of r m
  parents_are r end is m h = ap (λ (b : Bool). parent_at b table m) formed ∙ same_parent table r end size _ (laid r end is) m h

  pub limits_are : (r : Room) (end : ℕ) → checked table 0 ≡ good r end → (m : ℕ) → m < size → limit_at percents table m ≡ limit (node_at r m)
  limits_are r end is m h = ap (λ (b : Bool). limit_at b table m) formed ∙ same-limit table r end size _ (laid r end is) m h

-- Two numbers that fit the room's nodes are the same.
pub alike : (table : List ℕ) {a b : ℕ} → Good (checked table 0) → NodesFit table a → NodesFit table b → a ≡ b
alike table g f h = f g.value g.next g.is ∙ sym (h g.value g.next g.is)
