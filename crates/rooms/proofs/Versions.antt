-- Tables of one version made from the version before: a good version 1 table and the version 2 table with 80 throughout have one room;
-- of a good version 2 table the version 3 table with every share tenfold is good, and its room has the same figures.
use mathlib.Core.Path.{◌≡◌, refl, sym, ap, ap₂, ◌∙◌, fun_ext}
use mathlib.Core.Bool.{Bool, true, false}
use mathlib.Core.List.{List, [], ◌∷◌, ◌++◌, map}
use Prim.Native.Nat.{ℕ, zero, suc, ◌+◌, ◌*◌, ◌-◌, ◌/◌, ◌<◌}
use native.Mathlib.Nat.{mul_assoc, mul-add, div-div-eq-div-mul}
use native.Mathlib.Omega.{arith}
use lib.ListN.{length, get_or, length-map, get_or-map}
use lib.Dec.{ltb}
use borrow.Author.Tests.{eqb-true, lt-ltb}
use Rattle.figures.specs.Figures.{total, figures, at}
use Rattle.figures.specs.Sums.{on}
use Rattle.rooms.specs.Part.{good}
use Rattle.rooms.specs.Table.{Node, Cord, Server, Room, form_of, share_of, cord_count, room_cords, table}
use Rattle.rooms.specs.Limits.{limit, carried, node_at, hangs_beneath, server_lows, lows, overloaded}
use Rattle.rooms.specs.Cords.{RoomCord, server_cords, cords_from, cords_of, cord_at, server_at, server_of}
use Rattle.rooms.specs.Lists.{carried_by, lows_of, nodes_of, levels_of}
use Rattle.rooms.specs.Versions.{with_eighty, second_version, shares_tenfold, tenfold_past, third_version}
use Rattle.std.proofs.Common.{inr}
use Rattle.rooms.proofs.NodeWords.{is_either}
use Rattle.rooms.proofs.All.{All}
use Rattle.rooms.proofs.Search.{first_node_cong}
use Rattle.rooms.proofs.Accepted.{CordAccepted}
use Rattle.rooms.proofs.Cords.{no_room_cord, no_server}
use Rattle.rooms.specs.Words.{row_words, words_of_node, words_of_cord, words_of_server, table_of, NodeInRange}
use Rattle.rooms.proofs.Tables.{Chain, ServerFits, RoomFits, Reads, table-written, table_fits, table_reads}

-- ---- Version 2 from version 1

-- Nodes without a word for their percent have 80, so that 80 as a third word is theirs.
eighty_words : (own : ℕ) (l : List Node) (rest : List ℕ) → Chain (NodeInRange false) (λ own _. suc own) own l
    → with_eighty (length l) (row_words (words_of_node false) l ++ rest) ≡ row_words (words_of_node true) l ++ rest
unfolding with_eighty Chain row_words
eighty_words own [] rest f = refl
eighty_words own (n ∷ l) rest f =
    let eighty : n.percent ≡ 80 = eqb-true n.percent 80 f.0.percent in
    rw eighty (ap (λ (z : List ℕ). n.parent ∷ n.rating ∷ 80 ∷ z) (eighty_words (suc own) l rest f.1))

-- 80 is a percent that a word may say.
eighty_fits : (own : ℕ) (l : List Node) → Chain (NodeInRange false) (λ own _. suc own) own l → Chain (NodeInRange true) (λ own _. suc own) own l
unfolding Chain
eighty_fits own [] f = tt
eighty_fits own (n ∷ l) f =
    let eighty : n.percent ≡ 80 = eqb-true n.percent 80 f.0.percent in
    (record { parent = f.0.parent; rating = f.0.rating; percent = is_either n.percent (inr eighty) }, eighty_fits (suc own) l f.1)

module _ (w : List ℕ) (r : Room) (j : ℕ) (first : get_or w 0 0 ≡ 1) (e : table w 0 ≡ good r j) where
  fits_first : RoomFits 1 r
  fits_first = rw first at (table_fits w r j e)

  fits_second : RoomFits 2 r
  unfolding form_of
  fits_second =
      record {
        first = omega arith;
        newest = omega arith;
        scaled = fits_first.scaled;
        some_nodes = fits_first.some_nodes;
        few_nodes = fits_first.few_nodes;
        nodes = eighty_fits 1 r.nodes fits_first.nodes;
        few_servers = fits_first.few_servers;
        servers = fits_first.servers;
      }

  second_words : second_version w ≡ table_of 2 r
  unfolding second_version form_of
  second_words =
      ap second_version (table-written w r j e ∙ ap (λ (v : ℕ). table_of v r) first)
      ∙ ap (λ (z : List ℕ). 2 ∷ length r.nodes ∷ z) (eighty_words 1 r.nodes (length r.servers ∷ row_words words_of_server r.servers) fits_first.nodes)

  pub second_version_reads : Reads table (second_version w) 0 r []
  second_version_reads = rw second_words (table_reads 2 r fits_second)

-- ---- Version 3 from version 2

abbrev pub tenfold_cord : Cord → Cord
tenfold_cord c = record { node = c.node; share = 10 * c.share }

abbrev pub tenfold_server : Server → Server
tenfold_server s = record { rank = s.rank; least = s.least; greatest = s.greatest; cords = map tenfold_cord s.cords }

-- A room with scale and shares tenfold.
abbrev pub tenfold_room : Room → Room
tenfold_room r = record { scale = 10 * r.scale; nodes = r.nodes; servers = map tenfold_server r.servers }

-- ---- Its words

tenfold_cords : (l : List Cord) (rest : List ℕ)
    → shares_tenfold (length l) (row_words words_of_cord l ++ rest) ≡ row_words words_of_cord (map tenfold_cord l) ++ shares_tenfold 0 rest
unfolding shares_tenfold row_words
tenfold_cords [] rest = refl
tenfold_cords (c ∷ l) rest = ap (λ (z : List ℕ). c.node ∷ 10 * c.share ∷ z) (tenfold_cords l rest)

tenfold_servers : (l : List Server) → shares_tenfold 0 (row_words words_of_server l) ≡ row_words words_of_server (map tenfold_server l)
unfolding shares_tenfold row_words
tenfold_servers [] = refl
tenfold_servers (s ∷ l) =
    ap (λ (z : List ℕ). s.rank ∷ s.least ∷ s.greatest ∷ cord_count s ∷ z)
    (tenfold_cords s.cords (row_words words_of_server l) ∙ ap (λ (z : List ℕ). row_words words_of_cord (map tenfold_cord s.cords) ++ z) (tenfold_servers l))
    ∙ ap (λ (k : ℕ). s.rank ∷ s.least ∷ s.greatest ∷ k ∷ (row_words words_of_cord (map tenfold_cord s.cords) ++ row_words words_of_server (map tenfold_server l)))
    (sym (length-map s.cords tenfold_cord))

tenfold-past : (l : List Node) (count : ℕ) (rest : List ℕ)
    → tenfold_past (length l) (row_words (words_of_node true) l ++ (count ∷ rest)) ≡ row_words (words_of_node true) l ++ (count ∷ shares_tenfold 0 rest)
unfolding tenfold_past row_words
tenfold-past [] count rest = refl
tenfold-past (n ∷ l) count rest = ap (λ (z : List ℕ). n.parent ∷ n.rating ∷ n.percent ∷ z) (tenfold-past l count rest)

-- ---- Its figures are in range

tenfold_sum : (l : List Cord) → total share_of (map tenfold_cord l) ≡ 10 * total share_of l
unfolding total
tenfold_sum [] = refl
tenfold_sum (c ∷ l) = ap (λ (z : ℕ). 10 * c.share + z) (tenfold_sum l) ∙ sym (mul-add 10 c.share (total share_of l))

tenfold_cords_fit : (scale node_count : ℕ) (l : List Cord) → All (CordAccepted scale node_count) l → All (CordAccepted (10 * scale) node_count) (map tenfold_cord l)
unfolding All
tenfold_cords_fit scale node_count [] f = tt
tenfold_cords_fit scale node_count (c ∷ l) f =
    (record { node_from = f.0.node_from; node_to = f.0.node_to; share_to = omega (arith, f.0.share_to) }, tenfold_cords_fit scale node_count l f.1)

tenfold_fits : (scale node_count before : ℕ) (s : Server) → ServerFits scale node_count before s → ServerFits (10 * scale) node_count before (tenfold_server s)
tenfold_fits scale node_count before s f =
    let a = f.accepted in
    let count : length (map tenfold_cord s.cords) ≡ length s.cords = length-map s.cords tenfold_cord in
    record {
      accepted = record {
        rank_from = a.rank_from;
        rank_to = a.rank_to;
        ordered = a.ordered;
        greatest_to = a.greatest_to;
        some_cords = omega (arith, a.some_cords);
        few_cords = omega (arith, a.few_cords);
        shares = tenfold_sum s.cords ∙ ap (λ (z : ℕ). 10 * z) a.shares;
        cords = tenfold_cords_fit scale node_count s.cords a.cords;
      };
      few = omega (arith, f.few);
    }

tenfold_servers_fit : (scale node_count before : ℕ) (l : List Server) → Chain (ServerFits scale node_count) (λ before s. before + cord_count s) before l
    → Chain (ServerFits (10 * scale) node_count) (λ before s. before + cord_count s) before (map tenfold_server l)
unfolding Chain
tenfold_servers_fit scale node_count before [] f = tt
tenfold_servers_fit scale node_count before (s ∷ l) f =
    (tenfold_fits scale node_count before s f.0, rw (length-map s.cords tenfold_cord) (tenfold_servers_fit scale node_count (before + cord_count s) l f.1))

module _ (w : List ℕ) (r : Room) (j : ℕ) (second : get_or w 0 0 ≡ 2) (e : table w 0 ≡ good r j) where
  fits_from : RoomFits 2 r
  fits_from = rw second at (table_fits w r j e)

  pub scale_from : r.scale ≡ 1000
  unfolding form_of
  scale_from = fits_from.scaled

  fits_third : RoomFits 3 (tenfold_room r)
  unfolding form_of
  fits_third =
      record {
        first = omega arith;
        newest = omega arith;
        scaled = ap (λ (z : ℕ). 10 * z) scale_from;
        some_nodes = fits_from.some_nodes;
        few_nodes = fits_from.few_nodes;
        nodes = fits_from.nodes;
        few_servers = omega (arith, fits_from.few_servers, length-map r.servers tenfold_server);
        servers = tenfold_servers_fit r.scale (length r.nodes) 0 r.servers fits_from.servers;
      }

  third_words : third_version w ≡ table_of 3 (tenfold_room r)
  unfolding third_version form_of
  third_words =
      ap third_version (table-written w r j e ∙ ap (λ (v : ℕ). table_of v r) second)
      ∙ ap (λ (z : List ℕ). 3 ∷ length r.nodes ∷ z)
      (tenfold-past r.nodes (length r.servers) (row_words words_of_server r.servers)
      ∙ ap₂ (λ (k : ℕ) (z : List ℕ). row_words (words_of_node true) r.nodes ++ (k ∷ z)) (sym (length-map r.servers tenfold_server)) (tenfold_servers r.servers))

  pub third_version_reads : Reads table (third_version w) 0 (tenfold_room r) []
  third_version_reads = rw third_words (table_reads 3 (tenfold_room r) fits_third)

-- ---- Its servers and cords have the same figures, by its scale

-- What a share carries, rounded up, and the load at which it carries a grant.
carried_tenfold : (scale share load : ℕ) → 0 < scale → carried (10 * scale) (10 * share) load ≡ carried scale share load
carried_tenfold scale share load h =
    sym (div-div-eq-div-mul (10 * share * load + (10 * scale - 1)) 10 scale)
    ∙ ap (λ (z : ℕ). z / scale) (let z : (10 * share * load + (10 * scale - 1)) / 10 ≡ share * load + (scale - 1) = omega (arith, mul_assoc 10 share load) in z)

pub load_tenfold : (scale share grant : ℕ) → 10 * scale * grant / (10 * share) ≡ scale * grant / share
load_tenfold scale share grant =
    sym (div-div-eq-div-mul (10 * scale * grant) 10 share)
    ∙ ap (λ (z : ℕ). z / share) (let z : 10 * scale * grant / 10 ≡ scale * grant = omega (arith, mul_assoc 10 scale grant) in z)

-- A share is above 0 where its tenfold is.
pub some_tenfold : (share : ℕ) → ltb 0 (10 * share) ≡ ltb 0 share
some_tenfold zero = refl
some_tenfold (suc k) = lt-ltb 0 (10 * suc k) (omega arith) ∙ sym (lt-ltb 0 (suc k) (omega arith))

abbrev pub tenfold_placed : RoomCord → RoomCord
tenfold_placed c = record { server = c.server; node = c.node; share = 10 * c.share }

placed_tenfold : (v : ℕ) (l : List Cord) (rest : List RoomCord)
    → server_cords v (map tenfold_cord l) ++ map tenfold_placed rest ≡ map tenfold_placed (server_cords v l ++ rest)
unfolding server_cords
placed_tenfold v [] rest = refl
placed_tenfold v (c ∷ l) rest = ap (λ (z : List RoomCord). tenfold_placed (record { server = v; node = c.node; share = c.share }) ∷ z) (placed_tenfold v l rest)

cords_tenfold : (v : ℕ) (l : List Server) → cords_from v (map tenfold_server l) ≡ map tenfold_placed (cords_from v l)
unfolding cords_from
cords_tenfold v [] = refl
cords_tenfold v (s ∷ l) =
    ap (λ (z : List RoomCord). server_cords v (map tenfold_cord s.cords) ++ z) (cords_tenfold (suc v) l) ∙ placed_tenfold v s.cords (cords_from (suc v) l)

count_tenfold : (l : List Server) → total cord_count (map tenfold_server l) ≡ total cord_count l
unfolding total
count_tenfold [] = refl
count_tenfold (s ∷ l) = ap₂ ◌+◌ (length-map s.cords tenfold_cord) (count_tenfold l)

module _ (scale : ℕ) (some : 0 < scale) (test : ℕ → Bool) where
  server-lows_tenfold : (least : ℕ) (l : List Cord)
      → total (λ c. on (test c.node) (carried (10 * scale) c.share least)) (map tenfold_cord l) ≡ total (λ c. on (test c.node) (carried scale c.share least)) l
  unfolding total
  server-lows_tenfold least [] = refl
  server-lows_tenfold least (c ∷ l) = ap₂ ◌+◌ (ap (on (test c.node)) (carried_tenfold scale c.share least some)) (server-lows_tenfold least l)

  lows_tenfold : (l : List Server) → lows (10 * scale) test (map tenfold_server l) ≡ lows scale test l
  unfolding lows server_lows total
  lows_tenfold [] = refl
  lows_tenfold (s ∷ l) = ap₂ ◌+◌ (server-lows_tenfold s.least s.cords) (lows_tenfold l)

-- The same figures at every place are the same list.
pub figures-same : {k h : ℕ} {f g : ℕ → ℕ} → k ≡ h → ((i : ℕ) → f i ≡ g i) → figures k f ≡ figures h g
figures-same e same = ap₂ figures e (fun_ext same)

module _ (r : Room) where
  pub servers_tenfold : length (tenfold_room r).servers ≡ length r.servers
  servers_tenfold = length-map r.servers tenfold_server

  pub room_cords_tenfold : room_cords (tenfold_room r) ≡ room_cords r
  room_cords_tenfold = count_tenfold r.servers

  pub server_at_tenfold : (v : ℕ) → server_at (tenfold_room r) v ≡ tenfold_server (server_at r v)
  server_at_tenfold v = get_or-map tenfold_server r.servers v no_server

  pub cord_at_tenfold : (c : ℕ) → cord_at (tenfold_room r) c ≡ tenfold_placed (cord_at r c)
  cord_at_tenfold c = ap (λ (l : List RoomCord). get_or l c no_room_cord) (cords_tenfold 0 r.servers) ∙ get_or-map tenfold_placed (cords_of r) c no_room_cord

  pub overloaded_tenfold : 0 < r.scale → overloaded (tenfold_room r) ≡ overloaded r
  unfolding overloaded
  overloaded_tenfold some =
      first_node_cong (length r.nodes) 0 _ _ (λ n _. ap (λ (z : ℕ). ltb (limit (node_at r n)) z) (lows_tenfold r.scale some (hangs_beneath r n) r.servers))

  -- Its lists: the same nodes and levels, and each cord carries the same of any load.
  pub nodes_of_tenfold : nodes_of (tenfold_room r) ≡ nodes_of r
  unfolding nodes_of
  nodes_of_tenfold = figures-same room_cords_tenfold (λ c. ap (λ (x : RoomCord). x.node) (cord_at_tenfold c))

  pub server_of_tenfold : (c : ℕ) → server_of (tenfold_room r) c ≡ tenfold_server (server_of r c)
  server_of_tenfold c = ap (λ (x : RoomCord). server_at (tenfold_room r) x.server) (cord_at_tenfold c) ∙ server_at_tenfold (cord_at r c).server

  pub levels_of_tenfold : levels_of (tenfold_room r) ≡ levels_of r
  unfolding levels_of
  levels_of_tenfold = figures-same room_cords_tenfold (λ c. ap (λ (s : Server). s.rank - 1) (server_of_tenfold c))

  module _ (some : 0 < r.scale) where
    pub carried_by_tenfold : (loads : List ℕ) → carried_by (tenfold_room r) loads ≡ carried_by r loads
    unfolding carried_by
    carried_by_tenfold loads =
        figures-same room_cords_tenfold (λ c.
        ap (λ (x : RoomCord). carried (10 * r.scale) x.share (at loads x.server)) (cord_at_tenfold c)
        ∙ carried_tenfold r.scale (cord_at r c).share (at loads (cord_at r c).server) some)

    pub lows_of_tenfold : lows_of (tenfold_room r) ≡ lows_of r
    unfolding lows_of
    lows_of_tenfold =
        carried_by_tenfold (figures (length (tenfold_room r).servers) (λ v. (server_at (tenfold_room r) v).least))
        ∙ ap (carried_by r) (figures-same servers_tenfold (λ v. ap (λ (s : Server). s.least) (server_at_tenfold v)))
