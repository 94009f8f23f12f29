-- Rooms whose figures are in range, in the two forms that there are of this: by place, as the promises say it, and along the row, as
-- reading goes.
use mathlib.Core.Path.{◌≡◌, sym, ap, ◌∙◌, subst}
use mathlib.Core.List.{List, [], ◌∷◌}
use Prim.Native.Nat.{ℕ, zero, suc, ◌+◌, ◌≤◌, ◌<◌}
use native.Mathlib.Nat.{add-zero, not-suc-le-zero, le_of_suc-le-suc}
use native.Mathlib.Omega.{arith}
use lib.ListN.{length, get_or}
use Rattle.figures.specs.Figures.{total}
use Rattle.rooms.specs.Part.{good}
use Rattle.rooms.specs.Table.{Server, Room, form_of, most_cords, cord_count}
use Rattle.rooms.specs.Limits.{node_at}
use Rattle.rooms.specs.Words.{table_of, NodeInRange, ServerInRange, RoomInRange}
use Rattle.rooms.specs.Promises.{GoodTableOfRoom, RoomReadsBack}
use Rattle.rooms.proofs.All.{All, all_at, all_from}
use Rattle.rooms.proofs.Reach.{table-length}
use Rattle.rooms.proofs.Accepted.{CordAccepted, ServerAccepted}
use Rattle.rooms.proofs.Tables.{Chain, ServerFits, RoomFits, table-written, table_fits, table_reads}

-- ---- Rows that are numbered

module _ {A : Type 0} (fact : ℕ → A → Type 0) (none : A) where
  pub chain_at : (l : List A) (own m : ℕ) → Chain fact (λ own _. suc own) own l → m < length l → fact (own + m) (get_or l m none)
  unfolding Chain
  chain_at [] own m f h = absurd (not-suc-le-zero h)
  chain_at (a ∷ l) own zero f h = subst (λ (x : ℕ). fact x a) (sym (add-zero own)) f.0
  chain_at (a ∷ l) own (suc m) f h =
      subst (λ (x : ℕ). fact x (get_or l m none)) (let q : suc own + m ≡ own + suc m = omega arith in q) (chain_at l (suc own) m f.1 (le_of_suc-le-suc h))

  pub chain_from : (l : List A) (own : ℕ) → ((m : ℕ) → m < length l → fact (own + m) (get_or l m none)) → Chain fact (λ own _. suc own) own l
  unfolding Chain
  chain_from [] own f = tt
  chain_from (a ∷ l) own f = (
    subst (λ (x : ℕ). fact x a) (add-zero own) (f 0 (omega arith)),
    chain_from l (suc own) (λ m h. subst (λ (x : ℕ). fact x (get_or l m none)) (let q : own + suc m ≡ suc own + m = omega arith in q) (f (suc m) (omega arith))),
  )

-- ---- Servers

module _ (scale k : ℕ) where
  -- No server leaves the room with more cords than it may have, where all together do not.
  pub servers-fit : (l : List Server) (sofar : ℕ) → sofar + total cord_count l ≤ most_cords → All (ServerAccepted scale k) l
      → Chain (ServerFits scale k) (λ n s. n + cord_count s) sofar l
  unfolding Chain All total
  servers-fit [] sofar h f = tt
  servers-fit (s ∷ l) sofar h f = (record { accepted = f.0; few = omega arith }, servers-fit l (sofar + cord_count s) (omega arith) f.1)

  pub servers_all : (l : List Server) (sofar : ℕ) → Chain (ServerFits scale k) (λ n s. n + cord_count s) sofar l → All (ServerAccepted scale k) l
  unfolding Chain All
  servers_all [] sofar f = tt
  servers_all (s ∷ l) sofar f = (f.0.accepted, servers_all l (sofar + cord_count s) f.1)

  pub servers-total : (l : List Server) (sofar : ℕ) → sofar ≤ most_cords → Chain (ServerFits scale k) (λ n s. n + cord_count s) sofar l
      → sofar + total cord_count l ≤ most_cords
  unfolding Chain total
  servers-total [] sofar h f = omega arith
  servers-total (s ∷ l) sofar h f = let r = servers-total l (sofar + cord_count s) f.0.few f.1 in omega arith

  server-range : (s : Server) → ServerAccepted scale k s → ServerInRange scale k s
  server-range s f = record {
    rank = (f.rank_from, f.rank_to);
    ordered = f.ordered;
    greatest = f.greatest_to;
    count = (f.some_cords, f.few_cords);
    shares = f.shares;
    cords = λ i h. let c = all_at (CordAccepted scale k) s.cords f.cords i _ h in record { node = (c.node_from, c.node_to); share = c.share_to };
  }

  server_accepts : (s : Server) → ServerInRange scale k s → ServerAccepted scale k s
  server_accepts s f = record {
    rank_from = f.rank.0;
    rank_to = f.rank.1;
    ordered = f.ordered;
    greatest_to = f.greatest;
    some_cords = f.count.0;
    few_cords = f.count.1;
    shares = f.shares;
    cords = all_from (CordAccepted scale k) s.cords _ (λ i h. record { node_from = (f.cords i h).node.0; node_to = (f.cords i h).node.1; share_to = (f.cords i h).share });
  }

-- ---- Rooms

one_more : (m : ℕ) → 1 + m ≡ suc m
one_more m = omega arith

module _ (version : ℕ) (r : Room) where
  pub fits_range : RoomFits version r → RoomInRange version r
  fits_range f = record {
    versioned = (f.first, f.newest);
    scaled = f.scaled;
    node_count = (f.some_nodes, f.few_nodes);
    nodes = λ m h. subst (λ (own : ℕ). NodeInRange (form_of version).percents own (node_at r m)) (one_more m) (chain_at _ _ r.nodes 1 m f.nodes h);
    server_count = f.few_servers;
    servers = λ v h. server-range _ _ _ (all_at (ServerAccepted r.scale (length r.nodes)) r.servers (servers_all _ _ r.servers 0 f.servers) v _ h);
    few_cords = omega (arith, servers-total _ _ r.servers 0 (omega arith) f.servers);
  }

  pub range_fits : RoomInRange version r → RoomFits version r
  range_fits f = record {
    first = f.versioned.0;
    newest = f.versioned.1;
    scaled = f.scaled;
    some_nodes = f.node_count.0;
    few_nodes = f.node_count.1;
    nodes = chain_from _ _ r.nodes 1 (λ m h. subst (λ (own : ℕ). NodeInRange (form_of version).percents own (node_at r m)) (sym (one_more m)) (f.nodes m h));
    few_servers = f.server_count;
    servers =
        servers-fit r.scale (length r.nodes) r.servers 0 (omega (arith, f.few_cords))
        (all_from (ServerAccepted r.scale (length r.nodes)) r.servers _ (λ v h. server_accepts _ _ _ (f.servers v h)));
  }

-- ---- The promises

pub good_table_of_room : GoodTableOfRoom
good_table_of_room w r j e = (table-written w r j e, fits_range _ r (table_fits w r j e))

pub room_reads_back : RoomReadsBack
room_reads_back version r f =
    let t = table_reads version r (range_fits version r f) in
    t.is ∙ ap (good r) (table-length (table_of version r) r t.next t.is)
