-- The turns of the loops that lay out a good table's servers: before each turn the rows have the figures of the servers and cords passed.
use mathlib.Core.Path.{◌≡◌, refl, sym, ap, ◌∙◌}
use mathlib.Core.List.{List, map}
use Prim.Native.Nat.{ℕ, ◌+◌, ◌-◌, ◌*◌, ◌^◌, ◌≤◌, ◌<◌}
use native.Mathlib.Omega.{arith}
use lib.ListN.{length, set, length-map, length-set}
use lib.Seq.{map-set}
use Rattle.figures.specs.Figures.{at}
use Rattle.figures.proofs.Filled.{Filled, filled_none, filled_one, filled_all}
use Rattle.rooms.specs.Part.{good, Good}
use Rattle.rooms.specs.Table.{Room, most_servers, most_cords, highest_rank, cord_count, room_cords}
use Rattle.rooms.specs.Limits.{checked}
use Rattle.rooms.specs.Cords.{RoomCord, cord_at, server_at, rank_of}
use Rattle.rooms.specs.Lists.{nodes_of, levels_of}
use Rattle.rooms.proofs.Accepted.{accepted}
use Rattle.rooms.specs.Rows.{ServersFit, CordsFit, ranks_in, leasts_in, greatests_in, counts_in, nodes_in, servers_in, levels_in, shares_in, ServerRows, CordRows}
use Rattle.rooms.specs.declared.lists.ServerRow.{ServerRow}
use Rattle.rooms.specs.declared.lists.CordRow.{CordRow}
use Rattle.rooms.specs.Walk.{servers_index}
use Rattle.rooms.proofs.Walk.{begun, Walk, CordHere, ServerHere, walk_start, walk_server, walk_end}

-- A row that is stored, with a figure of it, fills the list of that figure by one more.
list_filled : {A : Type 0} {g : ℕ → ℕ} {size c : ℕ} (figure : A → ℕ) (rows : List A) (row : A) → Filled g size c (map figure rows) → c < size → figure row ≡ g c
    → Filled g size (c + 1) (map figure (set rows c row))
list_filled figure rows row f h e = rw (map-set figure rows _ row) (filled_one (figure row) f h e)

-- The walk stands before the server at place v, whose cords stand from place `first` on; the rows of the servers before it and of the
-- cords before place c are laid out.
pub record Laying (table : List ℕ) (v start first c : ℕ) (servers : List ServerRow) (cords : List CordRow) : Type 0 where
  pub room : Room
  pub end : ℕ
  pub read : checked table 0 ≡ good room end
  pub walk : Walk table room v start first
  pub ranks : Filled (λ h. (server_at room h).rank) (length room.servers) v (ranks_in servers)
  pub leasts : Filled (λ h. (server_at room h).least) (length room.servers) v (leasts_in servers)
  pub greatests : Filled (λ h. (server_at room h).greatest) (length room.servers) v (greatests_in servers)
  pub counts : Filled (λ h. cord_count (server_at room h)) (length room.servers) v (counts_in servers)
  pub nodes : Filled (λ h. (cord_at room h).node) (room_cords room) c (nodes_in cords)
  pub places : Filled (λ h. (cord_at room h).server) (room_cords room) c (servers_in cords)
  pub levels : Filled (λ h. rank_of room h - 1) (room_cords room) c (levels_in cords)
  pub shares : Filled (λ h. (cord_at room h).share) (room_cords room) c (shares_in cords)

-- Within that server: the words of the cord at place c start at index `word`.
pub record LayingServer (table : List ℕ) (v start first count c word : ℕ) (servers : List ServerRow) (cords : List CordRow) : Type 0 where
  pub laying : Laying table v start first c servers cords
  pub more : v < length servers
  pub counted : count ≡ at table (start + 3)
  pub from : first ≤ c
  pub to : c ≤ first + count
  pub next : word + 2 * first ≡ start + 4 + 2 * c

none_filled : {A : Type 0} {n : ℕ} (g : ℕ → ℕ) (figure : A → ℕ) (rows : List A) → length rows ≡ n → Filled g n 0 (map figure rows)
none_filled g figure rows e = rw (← e, ← length-map rows figure) (filled_none g (map figure rows))

pub laying_start : {table : List ℕ} {servers : List ServerRow} {cords : List CordRow} → (g : Good (checked table 0)) → ServersFit table (length servers) → CordsFit table (length cords)
    → {i : ℕ} → i ≡ servers_index table + 1 → Laying table 0 i 0 0 servers cords
laying_start {servers = servers} {cords = cords} g sf cf e =
    let s = sf g.value g.next g.is in
    let k = cf g.value g.next g.is in
    rw e
    (record {
      room = g.value;
      end = g.next;
      read = g.is;
      walk = walk_start g.is;
      ranks = none_filled _ (λ (row : ServerRow). row.rank) servers s;
      leasts = none_filled _ (λ (row : ServerRow). row.least) servers s;
      greatests = none_filled _ (λ (row : ServerRow). row.greatest) servers s;
      counts = none_filled _ (λ (row : ServerRow). row.cords) servers s;
      nodes = none_filled _ (λ (row : CordRow). row.node) cords k;
      places = none_filled _ (λ (row : CordRow). row.server) cords k;
      levels = none_filled _ (λ (row : CordRow). row.level) cords k;
      shares = none_filled _ (λ (row : CordRow). row.share) cords k;
    })

module _ {table : List ℕ} {v start first c : ℕ} {servers : List ServerRow} {cords : List CordRow}
    (laying : Laying table v start first c servers cords) where
  pub served : length servers ≡ length laying.room.servers
  served = sym (length-map servers (λ (row : ServerRow). row.rank)) ∙ laying.ranks.size_is

  pub corded : length cords ≡ room_cords laying.room
  corded = sym (length-map cords (λ (row : CordRow). row.node)) ∙ laying.nodes.size_is

  pub laying_end : length servers ≤ v → first ≤ c → (r : Room) (end : ℕ) → checked table 0 ≡ good r end → ServerRows r servers × CordRows r cords
  unfolding nodes_of levels_of
  laying_end h f r end e =
      let read = laying.read in
      let same : laying.room ≡ r = cc in
      let s : length laying.room.servers ≤ v = omega (arith, served) in
      let n : room_cords laying.room ≤ c = omega (arith, walk_end laying.walk s) in
      rw (← same) (
        record {
          ranks = filled_all _ _ laying.ranks refl s (λ i l. refl);
          leasts = filled_all _ _ laying.leasts refl s (λ i l. refl);
          greatests = filled_all _ _ laying.greatests refl s (λ i l. refl);
          counts = filled_all _ _ laying.counts refl s (λ i l. refl);
        },
        record {
          nodes = filled_all _ _ laying.nodes refl n (λ i l. refl);
          servers = filled_all _ _ laying.places refl n (λ i l. refl);
          levels = filled_all _ _ laying.levels refl n (λ i l. refl);
          shares = filled_all _ _ laying.shares refl n (λ i l. refl);
        },
      )

  module _ (more : v < length servers) where
    here : v < length laying.room.servers
    here = omega (arith, served)

    pub laying_server : ServerHere table laying.room v start first
    laying_server = walk_server laying.walk here

    pub few-cords : first + at table (start + 3) ≤ most_cords
    few-cords = omega (arith, laying_server.cords-within, (begun laying.read).cords_most)

-- What code relies on at a cord.
pub record CordFits (table : List ℕ) (v c word : ℕ) (cords : List CordRow) : Type 0 where
  pub there : word + 1 < length table
  pub in_cords : c < length cords

walk_to : {table : List ℕ} {r : Room} {v i j c d : ℕ} → i ≡ j → c ≡ d → Walk table r v j d → Walk table r v i c
walk_to e f walk = rw (e, f) walk

module _ {table : List ℕ} {v start first count c word : ℕ} {servers : List ServerRow} {cords : List CordRow}
    (server : LayingServer table v start first count c word servers cords) where
  abbrev laying : Laying table v start first c servers cords
  laying = server.laying

  abbrev r : Room
  r = server.laying.room

  pub few-servers : v < most_servers
  few-servers = omega (arith, here laying server.more, (accepted table r laying.end laying.read).few_servers)

  module _ (short : c < first + count) where
    cord-here : CordHere table r v start first (c - first)
    cord-here = (laying_server laying server.more).cord (c - first) (omega (arith, server.counted, server.from))

    at_c : first + (c - first) ≡ c
    at_c = omega (arith, server.from)

    at-word : start + 4 + 2 * (c - first) ≡ word
    at-word = omega (arith, server.from, server.next)

    at-share : start + 5 + 2 * (c - first) ≡ word + 1
    at-share = omega (arith, server.from, server.next)

    is : record { server = v; node = at table word; share = at table (word + 1) } ≡ cord_at r c
    is = sym (rw (at_c, at-word, at-share) at cord-here.is)

    within : c < room_cords r
    within = rw at_c at cord-here.within

    pub cord_fits : CordFits table v c word cords
    cord_fits =
        record {
          there = omega (arith, cord-here.there, at-share);
          in_cords = omega (arith, within, corded laying);
        }

    -- The figures of its row fit their entries.
    pub row_fits : (at table word < 2 ^ 16) × (v < 2 ^ 16) × (1 ≤ at table start) × (at table start ≤ highest_rank) × (at table (word + 1) < 2 ^ 16)
    row_fits =
        let standing = laying_server laying server.more in
        let node : at table word ≤ length r.nodes = rw at-word at cord-here.node_most in
        let share : at table (word + 1) ≤ r.scale = rw at-share at cord-here.share_most in (
          omega (arith, node, (begun laying.read).most),
          omega (arith, few-servers),
          standing.lowest,
          standing.highest,
          omega (arith, share, (accepted table r laying.end laying.read).scaled.1),
        )

    -- One cord more.
    pub server-cord : {row : CordRow} → row ≡ record { node = at table word; server = v; level = at table start - 1; share = at table (word + 1) }
        → LayingServer table v start first count (c + 1) (word + 2) servers (set cords c row)
    server-cord {row} e =
        let standing = laying_server laying server.more in
        record {
          laying = record {
            room = r;
            end = laying.end;
            read = laying.read;
            walk = laying.walk;
            ranks = laying.ranks;
            leasts = laying.leasts;
            greatests = laying.greatests;
            counts = laying.counts;
            nodes = list_filled (λ (row : CordRow). row.node) cords row laying.nodes within (ap (λ (row : CordRow). row.node) e ∙ ap (λ (x : RoomCord). x.node) is);
            places = list_filled (λ (row : CordRow). row.server) cords row laying.places within (ap (λ (row : CordRow). row.server) e ∙ ap (λ (x : RoomCord). x.server) is);
            levels =
                list_filled (λ (row : CordRow). row.level) cords row laying.levels within
                (ap (λ (row : CordRow). row.level) e ∙ ap (λ (x : ℕ). x - 1) (sym standing.rank) ∙ ap (λ (x : RoomCord). (server_at r x.server).rank - 1) is);
            shares = list_filled (λ (row : CordRow). row.share) cords row laying.shares within (ap (λ (row : CordRow). row.share) e ∙ ap (λ (x : RoomCord). x.share) is);
          };
          more = server.more;
          counted = server.counted;
          from = omega (arith, server.from);
          to = omega arith;
          next = omega (arith, server.next);
        }

  -- The server is passed, after its cords: its row is stored.
  abbrev row : ServerRow
  row = record { rank = at table start; least = at table (start + 1); greatest = at table (start + 2); cords = at table (start + 3) }

  pub server-end : first + count ≤ c → (length (set servers v row) ≡ length servers) × Laying table (v + 1) word (first + count) (first + count) (set servers v row) cords
  server-end h =
      let all : first + count ≡ c = omega (arith, server.to) in
      let w : word ≡ start + (4 + 2 * at table (start + 3)) = omega (arith, server.counted, server.next) in
      let standing = laying_server laying server.more in
      let place = here laying server.more in (
        length-set servers v row,
        record {
          room = r;
          end = laying.end;
          read = laying.read;
          walk = walk_to w (ap (λ (k : ℕ). first + k) server.counted) standing.next;
          ranks = list_filled (λ (row : ServerRow). row.rank) servers row laying.ranks place (sym standing.rank);
          leasts = list_filled (λ (row : ServerRow). row.least) servers row laying.leasts place (sym standing.least);
          greatests = list_filled (λ (row : ServerRow). row.greatest) servers row laying.greatests place (sym standing.greatest);
          counts = list_filled (λ (row : ServerRow). row.cords) servers row laying.counts place (sym standing.count);
          nodes = rw all laying.nodes;
          places = rw all laying.places;
          levels = rw all laying.levels;
          shares = rw all laying.shares;
        },
      )
