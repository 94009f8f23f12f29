-- The search over the credited lows of a good table finds its overloaded node.
use mathlib.Core.Path.{◌≡◌, refl, sym, ap, ap₂, ◌∙◌, subst}
use mathlib.Core.Bool.{Bool, true, false}
use mathlib.Core.List.{List}
use Prim.Native.Nat.{ℕ, zero, suc, ◌+◌, ◌*◌, ◌≤◌, ◌<◌}
use native.Mathlib.Nat.{zero-add, suc-ne-zero}
use native.Mathlib.Omega.{arith}
use lib.ListN.{length, get_or, replicate, length-replicate}
use lib.Seq.{ext_get_or}
use lib.Dec.{eqb, ltb}
use borrow.Author.Tests.{ltb-true, ltb-false, ne_eqb}
use Rattle.rooms.specs.Part.{Step, good, bad}
use Rattle.rooms.specs.Table.{Node, Room, most_nodes, most_servers, most_server_cords, most_watts, form_of, nodes, servers, table, room_cords}
use Rattle.rooms.specs.Limits.{limit, node_at, parent_of, lows, lows_beneath, lows_from, node_lows, first_node, overloaded, found_node, lows_told}
use Rattle.rooms.specs.Trees.{beneath}
use Rattle.rooms.specs.Credits.{node_index, parent_at, limit_at, tree_sum, exceeds, credited_servers, credited_room, LowsCredited, SumsGathered}
use Rattle.figures.specs.Figures.{at}
use Rattle.rooms.specs.Told.{told}
use Rattle.rooms.specs.declared.SheetRefusal.{SheetRefusal}
use Rattle.std.specs.Prelude.{Option, Some, None, Result, Err}
use Rattle.std.specs.Result.{is_err}
use Rattle.rooms.proofs.Places.{Layout, layout, same_parent, same-limit, table_rises, node-count}
use Rattle.rooms.proofs.Whole.{percents_of}
use Rattle.rooms.proofs.Rows.{servers_hang}
use Rattle.figures.proofs.Filled.{zeros-at}
use Rattle.rooms.proofs.Credits.{tree_sum_cong, tree_sum_zero, tree_sum_past, tree_sum-servers, credited_servers-length, credited_servers_past}
use Rattle.rooms.proofs.Search.{first_node_cong}

-- ---- The lows beneath each place, as a list

lows_from-at : (count n i : ℕ) (r : Room) → i < count → get_or (lows_from count n r) i 0 ≡ lows_beneath r (n + i)
unfolding lows_from
lows_from-at zero n i r h = absurd (omega arith)
lows_from-at (suc count) n zero r h = ap (lows_beneath r) (omega arith)
lows_from-at (suc count) n (suc i) r h = lows_from-at count (suc n) i r (omega arith) ∙ ap (lows_beneath r) (omega arith)

lows_from-length : (count n : ℕ) (r : Room) → length (lows_from count n r) ≡ count
unfolding lows_from
lows_from-length zero n r = refl
lows_from-length (suc count) n r = ap suc (lows_from-length count (suc n) r)

-- What the list of a check has at a place.
pub node_lows-at : (r : Room) (i : ℕ) → i < most_nodes → get_or (node_lows r) i 0 ≡ lows_beneath r i
node_lows-at r i h = lows_from-at most_nodes 0 i r h ∙ ap (lows_beneath r) (zero-add i)

pub lows_told-length : (s : Step Room) → length (lows_told s) ≡ most_nodes
unfolding lows_told
lows_told-length (good r end) = lows_from-length most_nodes 0 r
lows_told-length (bad refusal) = length-replicate {A = ℕ} most_nodes 0

-- ---- The search

module _ (w : List ℕ) (r : Room) (j n count_at : ℕ) (is : Layout w r j n count_at) where
  abbrev parent : ℕ → ℕ
  parent = parent_at (percents_of w) w

  module _ (l : List ℕ) (zeros : (i : ℕ) → get_or l i 0 ≡ 0) (size : n ≤ length l) where
    credited-lows : (m : ℕ) → tree_sum parent n (at (credited_servers r.scale r.servers l)) m ≡ lows_beneath r m
    credited-lows m =
        tree_sum_cong n parent (parent_of r) (at (credited_servers r.scale r.servers l)) (same_parent w r j n count_at is) (table_rises w r j n count_at is) m
        ∙ tree_sum-servers r.scale n (parent_of r) m r.servers l size (servers_hang r.scale n (get_or w count_at 0) 0 w (count_at + 1) r.servers j is.servers_are)
        ∙ ap (λ (x : ℕ). x + lows r.scale (beneath (parent_of r) n m) r.servers) (tree_sum_zero n (parent_of r) (at l) m zeros)
        ∙ rw (← (node-count w r j n count_at is)) (omega arith)

    -- Gathered, the credited lows are those beneath each place.
    gathered_lows : {sums : List ℕ} → length l ≡ most_nodes → SumsGathered parent n (credited_servers r.scale r.servers l) sums → sums ≡ node_lows r
    gathered_lows {sums} full g =
        ext_get_or 0 sums (node_lows r) (g.size ∙ credited_servers-length r.scale r.servers l ∙ full ∙ sym (lows_from-length most_nodes 0 r))
        (λ i h. at_place i (ltb i n) refl
        ∙ sym (node_lows-at r i (omega (arith, g.size, credited_servers-length r.scale r.servers l))))
      where
        at_place : (i : ℕ) (t : Bool) → ltb i n ≡ t → get_or sums i 0 ≡ lows_beneath r i
        at_place i true e = g.nodes i (ltb-true i n e) ∙ credited-lows i
        at_place i false e =
            let past : n ≤ i = ltb-false i n e in
            g.past i past
            ∙ credited_servers_past r.scale n i past r.servers l (servers_hang r.scale n (get_or w count_at 0) 0 w (count_at + 1) r.servers j is.servers_are)
            ∙ zeros i
            ∙ sym (tree_sum_past n parent (at (credited_servers r.scale r.servers l)) (table_rises w r j n count_at is) i past)
            ∙ credited-lows i

    pub overloaded_found : first_node n 0 (exceeds parent (limit_at (percents_of w) w) n (credited_servers r.scale r.servers l)) ≡ overloaded r
    unfolding overloaded
    overloaded_found =
        let over : ℕ → Bool = λ m. ltb (limit (node_at r m)) (lows_beneath r m) in
        let same : (m : ℕ) → m < 0 + n → exceeds parent (limit_at (percents_of w) w) n (credited_servers r.scale r.servers l) m ≡ over m
        = λ m g. ap₂ ltb ((same-limit w r j n count_at is) m (omega arith)) (credited-lows m) in
        first_node_cong n 0 (exceeds parent (limit_at (percents_of w) w) n (credited_servers r.scale r.servers l)) over same ∙ ap (λ (k : ℕ). first_node k 0 over) (sym (node-count w r j n count_at is))

-- A table credits what its servers do.
pub table_credits : (w : List ℕ) {percents : Bool} {scale node_count at-node : ℕ} {read : List Node} {at-servers server_count at-server : ℕ} {sums sums' : List ℕ}
    → percents ≡ percents_of w → scale ≡ (form_of (get_or w 0 0)).scale
    → node_count ≡ get_or w 1 0 → at-node ≡ 2 → nodes percents node_count 1 w at-node ≡ good read at-servers
    → server_count ≡ get_or w at-servers 0 → at-server ≡ suc at-servers → server_count ≤ most_servers
    → LowsCredited (servers scale node_count server_count 0 w at-server) (credited_servers scale) node_count (most_server_cords * most_watts * server_count) sums sums'
    → LowsCredited (table w 0) credited_room (get_or w 1 0) (most_server_cords * most_watts * most_servers) sums sums'
table_credits w {percents} {scale} {node_count} {at-node} {read} {at-servers} {server_count} {at-server} {sums = sums} formed scaled counted begun nodes-read told after few credits =
    record {
      are = λ r j e. credits.are r.servers j (servers_are r j e) ∙ ap (λ (x : ℕ). credited_servers x r.servers sums) (same_scale r j e);
      grow = λ r j e. rw (← counted) (omega (arith, credits.grow r.servers j (servers_are r j e)));
    }
  where
    is : (r : Room) (j : ℕ) → table w 0 ≡ good r j → Layout w r j node_count (node_index (percents_of w) node_count)
    is r j e = layout w r j node_count counted e

    same_scale : (r : Room) (j : ℕ) → table w 0 ≡ good r j → scale ≡ r.scale
    same_scale r j e = scaled ∙ sym (is r j e).scale_is

    at_is : (r : Room) (j : ℕ) → table w 0 ≡ good r j → at-servers ≡ node_index (percents_of w) node_count
    at_is r j e =
        let d : good read at-servers ≡ good r.nodes (node_index (percents_of w) node_count)
        = sym nodes-read ∙ ap₂ (λ (b : Bool) (i : ℕ). nodes b node_count 1 w i) formed begun ∙ (is r j e).nodes_are in
        cc

    servers_are : (r : Room) (j : ℕ) → table w 0 ≡ good r j → servers scale node_count server_count 0 w at-server ≡ good r.servers j
    servers_are r j e =
        ap (λ (x : ℕ). servers x node_count server_count 0 w at-server) (same_scale r j e)
        ∙ ap₂ (λ (k i : ℕ). servers r.scale node_count k 0 w i) (told ∙ ap (λ (k : ℕ). get_or w k 0) (at_is r j e)) (omega (arith, at_is r j e))
        ∙ (is r j e).servers_are

-- The same in the terms of the code: the search, over sums that have the lows on each node.
pub overloaded_from : (w : List ℕ) {percents : Bool} (n : ℕ) (sums : List ℕ) (found : Option ℕ) → percents ≡ percents_of w → n ≡ get_or w 1 0 → (r : Room) (j : ℕ) → table w 0 ≡ good r j
    → sums ≡ credited_room r (replicate most_nodes 0) → found ≡ found_node (first_node n 0 (exceeds (parent_at percents w) (limit_at percents w) n sums)) → found ≡ found_node (overloaded r)
overloaded_from w n sums found formed count r j e es ef =
    let is = layout w r j n count e in
    ef
    ∙ ap (λ (b : Bool). found_node (first_node n 0 (exceeds (parent_at b w) (limit_at b w) n sums))) formed
    ∙ ap (λ (l : List ℕ). found_node (first_node n 0 (exceeds (parent_at (percents_of w) w) (limit_at (percents_of w) w) n l))) es
    ∙ ap found_node (overloaded_found w r j n _ is (replicate most_nodes 0) (zeros-at most_nodes) (omega (arith, is.most, length-replicate {A = ℕ} most_nodes 0)))

pub lows-from : (w : List ℕ) {percents : Bool} (n : ℕ) (sums : List ℕ) {sums' : List ℕ} → percents ≡ percents_of w → n ≡ get_or w 1 0 → (r : Room) (j : ℕ) → table w 0 ≡ good r j
    → sums ≡ credited_room r (replicate most_nodes 0) → SumsGathered (parent_at percents w) n sums sums' → sums' ≡ node_lows r
lows-from w n sums {sums'} formed count r j e es g =
    let is = layout w r j n count e in
    let size : length {A = ℕ} (replicate most_nodes 0) ≡ most_nodes = length-replicate {A = ℕ} most_nodes 0 in
    gathered_lows w r j n _ is (replicate most_nodes 0) (zeros-at most_nodes) (omega (arith, is.most, size)) size
    (subst (λ (l : List ℕ). SumsGathered (parent_at (percents_of w) w) n l sums') es (subst (λ (b : Bool). SumsGathered (parent_at b w) n sums sums') formed g))

-- What the number that was found says of the test on it.
pub found_some : (k : ℕ) {m : ℕ} → Some m ≡ found_node k → (k ≡ m) × (eqb k 0 ≡ false)
found_some zero e = absurd (suc-ne-zero 0 (cc))
found_some (suc k) e = (cc, ne_eqb (suc k) 0 (λ z. omega arith))

pub found_none : (k : ℕ) → None ≡ found_node k → eqb k 0 ≡ true
found_none zero e = refl
found_none (suc k) e = absurd (suc-ne-zero 0 (cc))

-- Of a refused table nothing is claimed but the refusal.
pub unclaimed : (s : Step Room) {q : SheetRefusal} {l : List ℕ} → Err q ≡ told room_cords s
    → (Err q ≡ told room_cords s) × ((room : Room) (j : ℕ) → s ≡ good room j → l ≡ node_lows room)
unfolding told
unclaimed (good a j) d = absurd (suc-ne-zero 0 (cc))
unclaimed (bad m) d = (d, λ room j is. absurd (suc-ne-zero 0 (cc)))

-- The lows that are handed out: those of a good table, and none where it is refused.
pub lows_cleared : (s : Step Room) {r : Result (ℕ × ℕ) SheetRefusal} {l : List ℕ} → r ≡ told room_cords s → is_err r ≡ true → l ≡ replicate most_nodes 0 → l ≡ lows_told s
unfolding told lows_told
lows_cleared (good a j) {r = r} d e z = let bad_end : is_err r ≡ false = ap is_err d in absurd (suc-ne-zero 0 (cc))
lows_cleared (bad m) d e z = z

pub lows_kept : (s : Step Room) {r : Result (ℕ × ℕ) SheetRefusal} {l : List ℕ} → r ≡ told room_cords s → is_err r ≡ false
    → ((room : Room) (j : ℕ) → s ≡ good room j → l ≡ node_lows room) → l ≡ lows_told s
unfolding told lows_told
lows_kept (good a j) d e lows = lows a j refl
lows_kept (bad m) {r = r} d e lows = let bad_end : is_err r ≡ true = ap is_err d in absurd (suc-ne-zero 0 (cc))
