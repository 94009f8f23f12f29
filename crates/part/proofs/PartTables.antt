-- Both parts of a good room are good, where no link crosses the cut: no check of a part can fail.
use mathlib.Core.Path.{◌≡◌, refl, sym, ap, ◌∙◌, subst}
use mathlib.Core.Bool.{Bool}
use mathlib.Core.List.{List, [], ◌∷◌, map}
use mathlib.Core.Logic.{inl, inr}
use Prim.Native.Nat.{ℕ, zero, suc, ◌+◌, ◌-◌, ◌≤◌, ◌<◌}
use native.Mathlib.Nat.{add-zero, not-suc-le-zero, le_of_suc-le-suc}
use native.Mathlib.Omega.{arith}
use lib.ListN.{length, get_or, take, drop, take-append-drop, length-drop, length-map}
use lib.Seq.{length-take-le}
use Rattle.figures.specs.Figures.{total}
use Rattle.figures.proofs.Lists.{total-append}
use Rattle.rooms.specs.Part.{good}
use Rattle.rooms.specs.Table.{Node, Cord, Server, Room, cord_count, room_cords, share_of}
use Rattle.rooms.specs.Limits.{limit, node_at, lows_beneath, checked}
use Rattle.rooms.specs.Cords.{cord_at, server_at}
use Rattle.rooms.specs.Promises.{IsNode, Within}
use Rattle.rooms.proofs.All.{All, all_at}
use Rattle.rooms.proofs.Accepted.{CordAccepted, ServerAccepted, Accepted}
use Rattle.rooms.proofs.Cords.{cords_of_all}
use Rattle.rooms.specs.Words.{table_of}
use Rattle.rooms.proofs.Tables.{Chain, RoomFits, table_reads}
use Rattle.rooms.proofs.Words.{servers-fit, servers_all}
use Rattle.rooms.proofs.Promises.{refusal_nine}
use Rattle.join.specs.Joined.{joined}
use Rattle.join.proofs.JoinedRoom.{Linked, accepted_facts, total_kept, first_inside, second_inside}
use Rattle.join.proofs.JoinedTable.{Nodes, with-cords, lows_beneath_in}
use Rattle.part.specs.Parted.{lowered_node, lowered_cord, lowered_server, front, back, Behind}
use Rattle.part.proofs.PartLaws.{BackWhole, joined_again}

-- ---- Rows cut in two

all_take : {A : Type 0} (P : A → Type 0) (k : ℕ) (l : List A) → All P l → All P (take k l)
unfolding All
all_take P zero l f = tt
all_take P (suc k) [] f = tt
all_take P (suc k) (x ∷ l) f = (f.0, all_take P k l f.1)

all_drop : {A : Type 0} (P : A → Type 0) (k : ℕ) (l : List A) → All P l → All P (drop k l)
unfolding All
all_drop P zero l f = f
all_drop P (suc k) [] f = tt
all_drop P (suc k) (x ∷ l) f = all_drop P k l f.1

-- What two facts of each give, of what is made of each.
all_both : {A B : Type 0} (P Q : A → Type 0) (R : B → Type 0) (g : A → B) → ((x : A) → P x → Q x → R (g x)) → (l : List A) → All P l → All Q l → All R (map g l)
unfolding All
all_both P Q R g h [] f k = tt
all_both P Q R g h (x ∷ l) f k = (h x f.0 k.0, all_both P Q R g h l f.1 k.1)

nodes-take : (percents : Bool) (k : ℕ) (l : List Node) (own : ℕ) → Nodes percents own l → Nodes percents own (take k l)
unfolding Chain
nodes-take percents zero l own f = tt
nodes-take percents (suc k) [] own f = tt
nodes-take percents (suc k) (x ∷ l) own f = (f.0, nodes-take percents k l (suc own) f.1)

-- The nodes behind the cut, by their new numbers.
nodes_lowered : (percents : Bool) (n : ℕ) (l : List Node) (own : ℕ) → Nodes percents (own + n) l → Nodes percents own (map (lowered_node n) l)
unfolding Chain
nodes_lowered percents n [] own f = tt
nodes_lowered percents n (x ∷ l) own f = (
  record { parent = omega (arith, f.0.parent); rating = f.0.rating; percent = f.0.percent },
  nodes_lowered percents n l (suc own) (subst (λ (z : ℕ). Nodes percents z l) (let q : suc (own + n) ≡ suc own + n = omega arith in q) f.1),
)

nodes-drop : (percents : Bool) (k : ℕ) (l : List Node) (own : ℕ) → Nodes percents own l → Nodes percents (own + k) (drop k l)
unfolding Chain
nodes-drop percents zero l own f = subst (λ (z : ℕ). Nodes percents z l) (sym (add-zero own)) f
nodes-drop percents (suc k) [] own f = tt
nodes-drop percents (suc k) (x ∷ l) own f =
    subst (λ (z : ℕ). Nodes percents z (drop k l)) (let q : suc own + k ≡ own + suc k = omega arith in q) (nodes-drop percents k l (suc own) f.1)

-- ---- What figures in range say of the links

node_below : (percents : Bool) (l : List Node) (own m : ℕ) (none : Node) → Nodes percents own l → m < length l → (get_or l m none).parent ≤ own + m - 1
unfolding Chain
node_below percents [] own m none f h = absurd (not-suc-le-zero h)
node_below percents (x ∷ l) own zero none f h = omega (arith, f.0.parent)
node_below percents (x ∷ l) own (suc m) none f h =
    let i = node_below percents l (suc own) m none f.1 (le_of_suc-le-suc h) in
    omega arith

pub fits_facts : (version : ℕ) (r : Room) → RoomFits version r → Linked r
fits_facts version r f =
    let each = servers_all r.scale (length r.nodes) r.servers 0 f.servers in
    let cords : (c : ℕ) → c < room_cords r → ((cord_at r c).server < length r.servers) × ((cord_at r c).node ≤ length r.nodes)
    = cords_of_all (λ x. (x.server < length r.servers) × (x.node ≤ length r.nodes)) r (λ v k lv lk.
    let s = all_at (ServerAccepted r.scale (length r.nodes)) r.servers each v _ lv in
    (lv, (all_at (CordAccepted r.scale (length r.nodes)) (server_at r v).cords s.cords k _ lk).node_to)) in
    record {
      rises = λ m l. let h = node_below _ r.nodes 1 m (record { parent = 0; rating = 0; percent = 0 }) f.nodes l in omega arith;
      here = λ c l. (cords c l).1;
      served = λ c l. (cords c l).0;
    }

-- ---- Servers before and behind the cut

map_id : {A : Type 0} (l : List A) → map (λ x. x) l ≡ l
map_id [] = refl
map_id (x ∷ l) = ap (λ z. x ∷ z) (map_id l)

abbrev pub FrontCords : ℕ → Server → Type 0
FrontCords n s = All (λ (c : Cord). c.node ≤ n) s.cords

abbrev pub BackCords : ℕ → Server → Type 0
BackCords n s = All (λ (c : Cord). Behind n c.node) s.cords

server-front : (scale k n : ℕ) (s : Server) → ServerAccepted scale k s → FrontCords n s → ServerAccepted scale n s
server-front scale k n s f g =
    with-cords s.cords f refl refl
    (subst (All (CordAccepted scale n)) (map_id s.cords) (all_both _ _ (CordAccepted scale n) (λ c. c) (λ c a b. record { node_from = a.node_from; node_to = b; share_to = a.share_to }) s.cords f.cords g))

lowered_from : (n v : ℕ) → 1 ≤ v → Behind n v → 1 ≤ v - n
lowered_from n v h (inl e) = absurd (omega arith)
lowered_from n v h (inr l) = omega arith

server-back : (scale k n : ℕ) (s : Server) → ServerAccepted scale k s → BackCords n s → ServerAccepted scale (k - n) (lowered_server n s)
server-back scale k n s f g =
    with-cords _ f (length-map s.cords (lowered_cord n)) (total_kept share_of (lowered_cord n) (λ c. refl) s.cords)
    (all_both _ _ (CordAccepted scale (k - n)) (lowered_cord n)
    (λ c a b. record { node_from = lowered_from n c.node a.node_from b; node_to = omega (arith, a.node_to); share_to = a.share_to }) s.cords f.cords g)

-- ---- The parts

module _ (version n s : ℕ) (r : Room) (fits : RoomFits version r) (ok : Accepted r) (some : 1 ≤ n) (few : n < length r.nodes) (few_servers : s ≤ length r.servers)
    (behind_cut : BackWhole n s r) (before_cut : All (FrontCords n) (take s r.servers)) where
  abbrev one : Room
  one = front n s r

  abbrev two : Room
  two = back n s r

  size_one : length one.nodes ≡ n
  size_one = length-take-le n r.nodes (omega arith)

  size_two : length two.nodes ≡ length r.nodes - n
  size_two = length-map (drop n r.nodes) (lowered_node n) ∙ length-drop n r.nodes

  cords_both : room_cords one + room_cords two ≡ room_cords r
  cords_both =
      ap (λ (x : ℕ). room_cords one + x) (total_kept cord_count (lowered_server n) (λ v. length-map v.cords (lowered_cord n)) (drop s r.servers))
      ∙ sym (total-append cord_count (take s r.servers) (drop s r.servers))
      ∙ ap (total cord_count) (take-append-drop s r.servers)

  each : All (ServerAccepted r.scale (length r.nodes)) r.servers
  each = ok.servers

  pub front_fits : RoomFits version one
  front_fits = record {
    first = fits.first;
    newest = fits.newest;
    scaled = fits.scaled;
    some_nodes = omega (arith, size_one);
    few_nodes = omega (arith, size_one, fits.few_nodes);
    nodes = nodes-take _ n r.nodes 1 fits.nodes;
    few_servers = omega (arith, length-take-le s r.servers few_servers, fits.few_servers);
    servers =
        servers-fit r.scale (length one.nodes) (take s r.servers) 0 (omega (arith, cords_both, ok.few_cords))
        (subst (λ (k : ℕ). All (ServerAccepted r.scale k) (take s r.servers)) (sym size_one)
        (subst (All (ServerAccepted r.scale n)) (map_id (take s r.servers))
        (all_both _ _ (ServerAccepted r.scale n) (λ x. x) (server-front r.scale (length r.nodes) n) (take s r.servers) (all_take _ s r.servers each) before_cut)));
  }

  pub back_fits : RoomFits version two
  back_fits = record {
    first = fits.first;
    newest = fits.newest;
    scaled = fits.scaled;
    some_nodes = omega (arith, size_two);
    few_nodes = omega (arith, size_two, fits.few_nodes);
    nodes = nodes_lowered _ n (drop n r.nodes) 1 (nodes-drop _ n r.nodes 1 fits.nodes);
    few_servers = omega (arith, length-map (drop s r.servers) (lowered_server n), length-drop s r.servers, fits.few_servers);
    servers =
        servers-fit r.scale (length two.nodes) two.servers 0 (omega (arith, cords_both, ok.few_cords))
        (subst (λ (k : ℕ). All (ServerAccepted r.scale k) two.servers) (sym size_two)
        (all_both _ _ (ServerAccepted r.scale (length r.nodes - n)) (lowered_server n) (server-back r.scale (length r.nodes) n) (drop s r.servers)
        (all_drop _ s r.servers each) behind_cut.servers));
  }

  -- The lows beneath a node are what they were in the whole, which is the parts joined.
  whole_is : joined one two ≡ r
  whole_is = joined_again n s r (omega arith) behind_cut

  whole_facts : Linked (joined one two)
  whole_facts = subst Linked (sym whole_is) (accepted_facts r ok)

  whole_lows : (m : ℕ) → m < length (joined one two).nodes → lows_beneath (joined one two) m ≤ limit (node_at (joined one two) m)
  whole_lows = subst (λ (x : Room). (m : ℕ) → m < length x.nodes → lows_beneath x m ≤ limit (node_at x m)) (sym whole_is) ok.lows

  front_facts : Linked one
  front_facts = fits_facts version one front_fits

  front-within : (k : ℕ) → IsNode one k → Within one k
  front-within k h =
      let ins = first_inside one two front_facts in
      let l : k - 1 < length one.nodes = omega arith in
      let e = lows_beneath_in one (joined one two) 0 0 0 ins front_facts whole_facts (k - 1) l in
      omega (arith, ins.limits (k - 1) l, whole_lows (k - 1 + 0) (omega (arith, ins.nodes_fit)))

  back-within : (k : ℕ) → IsNode two k → Within two k
  back-within k h =
      let ins = second_inside one two front_facts refl in
      let l : k - 1 < length two.nodes = omega arith in
      let e = lows_beneath_in two (joined one two) _ _ _ ins (fits_facts version two back_fits) whole_facts (k - 1) l in
      omega (arith, ins.limits (k - 1) l, whole_lows (k - 1 + length one.nodes) (omega (arith, ins.nodes_fit)))

  pub front-checked : (let t = table_reads version one front_fits in checked (table_of version one) 0 ≡ good one t.next)
  front-checked = let t = table_reads version one front_fits in refusal_nine.passed (table_of version one) one t.next t.is front-within

  pub back-checked : (let t = table_reads version two back_fits in checked (table_of version two) 0 ≡ good two t.next)
  back-checked = let t = table_reads version two back_fits in refusal_nine.passed (table_of version two) two t.next t.is back-within
