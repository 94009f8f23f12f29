-- Both sides of a cut in the words of a good table: their tables are those of the parts, and the first word across is found in them.
use mathlib.Core.Path.{◌≡◌, refl, sym, ap, ap₂, ◌∙◌, subst}
use Rattle.std.proofs.Common.{Option, Some, None}
use Rattle.std.specs.Option.{option_or}
use mathlib.Core.Bool.{Bool, true, false, cond}
use mathlib.Core.List.{List, [], ◌∷◌, ◌++◌}
use Prim.Native.Nat.{ℕ, zero, suc, ◌+◌, ◌-◌, ◌*◌, ◌≤◌, ◌<◌}
use native.Mathlib.Omega.{arith}
use lib.ListN.{length, get_or, take, drop, take-append-drop, length-append, length-drop, length-map}
use lib.Seq.{length-take-le, take-take, take_at, drop_at, drop-append_seam}
use Rattle.figures.specs.Figures.{at}
use Rattle.rooms.specs.Part.{good}
use Rattle.rooms.specs.Table.{Node, Cord, Server, Room, most_words, form_of, node_words, cord_count}
use Rattle.rooms.specs.Limits.{checked}
use Rattle.rooms.specs.Words.{row_words, words_of_node, words_of_cord, words_of_server, table_of}
use Rattle.rooms.specs.Walk.{servers_index}
use Rattle.rooms.proofs.Accepted as rooms
use Rattle.rooms.proofs.Reach.{length_small, words_small}
use Rattle.join.specs.Pieces.{renumbered, renumbered_every, renumbered_cords, piece}
use Rattle.join.proofs.TableWords.{row_append, nodes-length, middle_is, length_are, nodes-piece, servers-piece, behind_middle, moved_node, moved_cord, moved_server, nodes-moved, servers-moved}
use Rattle.join.proofs.PieceLaws.{every_length, cords-length, piece-length}
use Rattle.part.specs.Parted.{front, back}
use Rattle.part.specs.Crossing.{across, or_else, parent_across, cord_across, server_across, nodes_behind, servers_start, servers_behind, crossing}
use Rattle.part.specs.Sides.{every_across, cords_across, span, side_before, side_behind, side_table, SideFits, side_words, first_across}
use Rattle.part.specs.declared.Side.{Side}
use Rattle.part.proofs.PartLaws.{map_same}
use Rattle.part.proofs.AcrossLaws.{piece-drop}

-- ---- A piece of two

module _ (w : List ℕ) (x y m : ℕ) (a b : List ℕ) (is : piece x y w ≡ a ++ b) (seam : m ≡ x + length a) where
  piece-front : m ≤ y → piece x m w ≡ a
  piece-front h =
      sym (take-take (m - x) (y - x) (drop x w) (omega arith)) ∙ ap (take (m - x)) is ∙ take_at a b (m - x) (let q : length a ≡ m - x = omega arith in q)

  piece_back : piece m y w ≡ b
  piece_back = ap (λ (k : ℕ). piece k y w) seam ∙ sym (piece-drop w (length a) x y) ∙ ap (drop (length a)) is ∙ drop-append_seam a b

-- ---- The words of servers

cords_words : (l : List Cord) → length (row_words words_of_cord l) ≡ 2 * length l
unfolding row_words
cords_words [] = refl
cords_words (c ∷ l) = omega (arith, cords_words l)

server-words : (s : Server) → length (words_of_server s) ≡ 4 + 2 * cord_count s
server-words s = omega (arith, cords_words s.cords)

span_none : (k : ℕ) → span k [] ≡ 0
unfolding span
span_none zero = refl
span_none (suc k) = omega (arith, span_none k)

-- So many servers span the words that they have.
pub span-servers : (k : ℕ) (l : List Server) → span k (row_words words_of_server l) ≡ length (row_words words_of_server (take k l))
unfolding span row_words
span-servers zero l = refl
span-servers (suc k) [] = span_none (suc k)
span-servers (suc k) (s ∷ l) =
    let size = server-words s in
    let behind : drop (4 + 2 * cord_count s) (words_of_server s ++ row_words words_of_server l) ≡ row_words words_of_server l
    = drop_at (words_of_server s) (row_words words_of_server l) (4 + 2 * cord_count s) size in
    let rest : span k (drop (4 + 2 * cord_count s) (words_of_server s ++ row_words words_of_server l)) ≡ length (row_words words_of_server (take k l))
    = ap (span k) behind ∙ span-servers k l in
    omega (arith, length-append (words_of_server s) (row_words words_of_server (take k l)))

-- ---- Links across, by rows and by words

-- An index that is found is the one that is told; where none is found, 0 is told, which is no index.
abbrev pub Tells : Option ℕ → ℕ → Type 0
Tells None index = index ≡ 0
Tells (Some found) index = (index ≡ found) × (1 ≤ found)

tells_or : (a b : Option ℕ) (n m : ℕ) → Tells a n → Tells b m → Tells (option_or a b) (or_else n m)
tells_or None b zero m h k = k
tells_or None b (suc n) m h k = absurd (omega arith)
tells_or (Some found) b zero m h k = absurd (omega arith)
tells_or (Some found) b (suc n) m h k = h

tells_cond : (t : Bool) (k : ℕ) (a : Option ℕ) (n : ℕ) → 1 ≤ k → Tells a n → Tells (cond t (Some k) a) (cond t k n)
tells_cond true k a n h e = (refl, h)
tells_cond false k a n h e = e

parents_are : (n k : ℕ) (p : Bool) (l : List Node) → 1 ≤ k
    → Tells (every_across n (node_words p - 1) 0 k (row_words (words_of_node p) l)) (parent_across n (node_words p) k l)
unfolding row_words every_across parent_across
parents_are n k true [] h = refl
parents_are n k false [] h = refl
parents_are n k true (x ∷ l) h =
    tells_cond (across n false x.parent) k _ _ h
    (subst (λ (i : ℕ). Tells (every_across n 2 0 i (row_words (words_of_node true) l)) (parent_across n 3 (k + 3) l)) (let q : k + 3 ≡ k + 1 + 1 + 1 = omega arith in q)
    (parents_are n (k + 3) true l (omega arith)))
parents_are n k false (x ∷ l) h =
    tells_cond (across n false x.parent) k _ _ h
    (subst (λ (i : ℕ). Tells (every_across n 1 0 i (row_words (words_of_node false) l)) (parent_across n 2 (k + 2) l)) (let q : k + 2 ≡ k + 1 + 1 = omega arith in q)
    (parents_are n (k + 2) false l (omega arith)))

-- An index that is not 0 stands.
or-else : (t : Bool) (k a b : ℕ) → 1 ≤ k → cond t k (or_else a b) ≡ or_else (cond t k a) b
or-else true zero a b h = absurd (omega arith)
or-else true (suc k) a b h = refl
or-else false k a b h = refl

module _ (n : ℕ) (before : Bool) where
  cords_are : (l : List Cord) (rest : List ℕ) (k m : ℕ) → 1 ≤ k → Tells (cords_across n before 0 (k + 2 * length l) rest) m
      → Tells (cords_across n before (length l) k (row_words words_of_cord l ++ rest)) (or_else (cord_across n before k l) m)
  unfolding row_words cords_across cord_across
  cords_are [] rest k m h e = subst (λ (i : ℕ). Tells (cords_across n before 0 i rest) m) (let q : k + 2 * 0 ≡ k = omega arith in q) e
  cords_are (c ∷ l) rest k m h e =
      subst (Tells (cond (across n before c.node) (Some k) (cords_across n before (length l) (k + 2) (row_words words_of_cord l ++ rest))))
      (or-else (across n before c.node) k (cord_across n before (k + 2) l) m h)
      (tells_cond (across n before c.node) k _ _ h
      (cords_are l rest (k + 2) m (omega arith)
      (subst (λ (i : ℕ). Tells (cords_across n before 0 i rest) m) (let q : k + 2 * suc (length l) ≡ k + 2 + 2 * length l = omega arith in q) e)))

  servers_are : (l : List Server) (k : ℕ) → 1 ≤ k → Tells (cords_across n before 0 k (row_words words_of_server l)) (server_across n before k l)
  unfolding row_words cords_across server_across
  servers_are [] k h = refl
  servers_are (s ∷ l) k h =
      cords_are s.cords (row_words words_of_server l) (k + 4) (server_across n before (k + length (words_of_server s)) l) (omega arith)
      (subst (λ (i : ℕ). Tells (cords_across n before 0 i (row_words words_of_server l)) (server_across n before (k + length (words_of_server s)) l))
      (let q : k + length (words_of_server s) ≡ k + 4 + 2 * cord_count s = omega (arith, server-words s) in q)
      (servers_are l (k + length (words_of_server s)) (omega arith)))

-- ---- How long a side's table is

pub side_length : (w : List ℕ) (side : Side) → SideFits w side → length (side_table side w) ≡ side_words side
side_length w side fits =
    let gap = node_words (form_of side.version).percents - 1 in
    let nodes = piece side.top side.bottom w in
    let servers = piece side.start side.end w in
    omega (
      arith,
      length-append (renumbered_every gap 0 side.down 0 nodes) (side.servers ∷ renumbered_cords 0 side.down 0 servers),
      every_length gap 0 side.down 0 nodes,
      cords-length 0 side.down 0 servers,
      piece-length w side.top side.bottom fits.node_words_there.1,
      piece-length w side.start side.end fits.server_words_there.1,
    )

-- ---- A cut of a good table

stays : (v : ℕ) → v ≡ renumbered 0 0 v
stays zero = refl
stays (suc m) = omega arith

lowers : (n v : ℕ) → v - n ≡ renumbered 0 n v
lowers n zero = omega arith
lowers n (suc m) = omega arith

module _ (w : List ℕ) (r : Room) (end : ℕ) (e : checked w 0 ≡ good r end) where
  pub middle_at : servers_index w ≡ nodes_behind (at w 0) (length r.nodes)
  middle_at = middle_is w r end e ∙ ap (λ (k : ℕ). 2 + k) (nodes-length (form_of (at w 0)).percents r.nodes)

  -- Where so many servers end.
  pub servers-end-at : (s : ℕ) → servers_start (at w 0) r + span s (drop (servers_start (at w 0) r) w) ≡ servers_behind (at w 0) s r
  servers-end-at s = ap (λ (k : ℕ). servers_start (at w 0) r + k)
      (ap (span s) (ap (λ (k : ℕ). drop (k + 1) w) (sym middle_at) ∙ behind_middle w r end e) ∙ span-servers s r.servers)

module _ (w : List ℕ) (r : Room) (end : ℕ) (e : checked w 0 ≡ good r end) (n s : ℕ) (few : n ≤ length r.nodes) (few_servers : s ≤ length r.servers) where
  abbrev version : ℕ
  version = at w 0

  abbrev percents : Bool
  percents = (form_of version).percents

  abbrev nodes_one : List ℕ
  nodes_one = row_words (words_of_node percents) (take n r.nodes)

  abbrev nodes_two : List ℕ
  nodes_two = row_words (words_of_node percents) (drop n r.nodes)

  abbrev servers_one : List ℕ
  servers_one = row_words words_of_server (take s r.servers)

  abbrev servers_two : List ℕ
  servers_two = row_words words_of_server (drop s r.servers)

  nodes-split : row_words (words_of_node percents) r.nodes ≡ nodes_one ++ nodes_two
  nodes-split = ap (row_words (words_of_node percents)) (sym (take-append-drop n r.nodes)) ∙ row_append (words_of_node percents) (take n r.nodes) (drop n r.nodes)

  servers-split : row_words words_of_server r.servers ≡ servers_one ++ servers_two
  servers-split = ap (row_words words_of_server) (sym (take-append-drop s r.servers)) ∙ row_append words_of_server (take s r.servers) (drop s r.servers)

  nodes-before : length (take n r.nodes) ≡ n
  nodes-before = length-take-le n r.nodes few

  servers-before : length (take s r.servers) ≡ s
  servers-before = length-take-le s r.servers few_servers

  seam : nodes_behind version n ≡ 2 + length nodes_one
  seam = ap (λ (k : ℕ). 2 + k) (sym (nodes-length percents (take n r.nodes) ∙ ap (λ (k : ℕ). node_words percents * k) nodes-before))

  row_ends : nodes_behind version (length r.nodes) ≡ 2 + (length nodes_one + length nodes_two)
  row_ends = ap (λ (k : ℕ). 2 + k) (sym (nodes-length percents r.nodes) ∙ ap length nodes-split ∙ length-append nodes_one nodes_two)

  words_length : length w ≡ 3 + (length nodes_one + length nodes_two) + (length servers_one + length servers_two)
  words_length = length_are w r end e
      ∙ ap₂ (λ (x y : ℕ). 3 + x + y) (ap length nodes-split ∙ length-append nodes_one nodes_two) (ap length servers-split ∙ length-append servers_one servers_two)

  -- ---- The pieces

  all_nodes : piece 2 (nodes_behind version (length r.nodes)) w ≡ nodes_one ++ nodes_two
  all_nodes = ap (λ (k : ℕ). piece 2 k w) (sym (middle_at w r end e)) ∙ nodes-piece w r end e ∙ nodes-split

  all_servers : piece (servers_start version r) (length w) w ≡ servers_one ++ servers_two
  all_servers = ap (λ (k : ℕ). piece (k + 1) (length w) w) (sym (middle_at w r end e)) ∙ servers-piece w r end e ∙ servers-split

  piece-nodes_one : piece 2 (nodes_behind version n) w ≡ nodes_one
  piece-nodes_one = piece-front w 2 (nodes_behind version (length r.nodes)) (nodes_behind version n) nodes_one nodes_two all_nodes seam (omega (arith, seam, row_ends))

  piece-nodes_two : piece (nodes_behind version n) (nodes_behind version (length r.nodes)) w ≡ nodes_two
  piece-nodes_two = piece_back w 2 (nodes_behind version (length r.nodes)) (nodes_behind version n) nodes_one nodes_two all_nodes seam

  piece-servers_one : piece (servers_start version r) (servers_behind version s r) w ≡ servers_one
  piece-servers_one = piece-front w (servers_start version r) (length w) (servers_behind version s r) servers_one servers_two all_servers refl (omega (arith, row_ends, words_length))

  piece-servers_two : piece (servers_behind version s r) (length w) w ≡ servers_two
  piece-servers_two = piece_back w (servers_start version r) (length w) (servers_behind version s r) servers_one servers_two all_servers refl

  -- ---- Their tables

  nodes_stay : renumbered_every (node_words percents - 1) 0 0 0 nodes_one ≡ nodes_one
  nodes_stay = sym (nodes-moved 0 0 (λ x. x) stays percents (take n r.nodes))
      ∙ ap (row_words (words_of_node percents)) (map_same (moved_node 0 0 (λ x. x) stays) (λ _. refl) (take n r.nodes))

  same-server : (x : Server) → moved_server 0 0 (λ v. v) stays x ≡ x
  same-server x = λ i. record {
    rank = x.rank;
    least = x.least;
    greatest = x.greatest;
    cords = map_same (moved_cord 0 0 (λ v. v) stays) (λ _. refl) x.cords i;
  }

  servers_stay : renumbered_cords 0 0 0 servers_one ≡ servers_one
  servers_stay = sym (servers-moved 0 0 (λ x. x) stays (take s r.servers))
      ∙ ap (row_words words_of_server) (map_same (moved_server 0 0 (λ x. x) stays) same-server (take s r.servers))

  -- The table of the side before the cut is that of the first part.
  pub table_before : side_table (side_before version n s r) w ≡ table_of version (front n s r)
  table_before =
      ap₂ (λ (k : ℕ) (z : List ℕ). version ∷ k ∷ z) (sym nodes-before)
      (ap₂ (λ (x y : List ℕ). x ++ y) (ap (renumbered_every (node_words percents - 1) 0 0 0) piece-nodes_one ∙ nodes_stay)
      (ap₂ (λ (k : ℕ) (z : List ℕ). k ∷ z) (sym servers-before) (ap (renumbered_cords 0 0 0) piece-servers_one ∙ servers_stay)))

  nodes-behind : length (back n s r).nodes ≡ length r.nodes - n
  nodes-behind = length-map (drop n r.nodes) _ ∙ length-drop n r.nodes

  servers-behind : length (back n s r).servers ≡ length r.servers - s
  servers-behind = length-map (drop s r.servers) _ ∙ length-drop s r.servers

  -- And that of the side behind it that of the second.
  pub table_behind : side_table (side_behind (length w) version n s r) w ≡ table_of version (back n s r)
  table_behind =
      ap₂ (λ (k : ℕ) (z : List ℕ). version ∷ k ∷ z) (sym nodes-behind)
      (ap₂ (λ (x y : List ℕ). x ++ y)
      (ap (renumbered_every (node_words percents - 1) 0 n 0) piece-nodes_two ∙ sym (nodes-moved 0 n (λ x. x - n) (lowers n) percents (drop n r.nodes)))
      (ap₂ (λ (k : ℕ) (z : List ℕ). k ∷ z) (sym servers-behind)
      (ap (renumbered_cords 0 n 0) piece-servers_two ∙ sym (servers-moved 0 n (λ x. x - n) (lowers n) (drop s r.servers)))))

  -- ---- Where they stand

  words_below : (i : ℕ) → get_or w i 0 < 2147483648
  words_below i = omega (arith, words_small w r end e i)

  pub before_fits : SideFits w (side_before version n s r)
  before_fits =
      let ok = rooms.accepted w r end e in
      record {
        nodes = omega (arith, ok.few_nodes);
        servers = omega (arith, ok.few_servers);
        node_words_there = (omega (arith, seam), omega (arith, seam, words_length));
        server_words_there = (omega arith, omega (arith, row_ends, words_length));
        long = omega (arith, length_small w r end e);
        below = words_below;
      }

  pub behind_fits : SideFits w (side_behind (length w) version n s r)
  behind_fits =
      let ok = rooms.accepted w r end e in
      record {
        nodes = omega (arith, ok.few_nodes);
        servers = omega (arith, ok.few_servers);
        node_words_there = (omega (arith, seam, row_ends), omega (arith, row_ends, words_length));
        server_words_there = (omega (arith, row_ends, words_length), omega arith);
        long = omega (arith, length_small w r end e);
        below = words_below;
      }

  pub before_small : side_words (side_before version n s r) ≤ most_words
  before_small = omega (arith, seam, row_ends, words_length, length_small w r end e)

  pub behind_small : side_words (side_behind (length w) version n s r) ≤ most_words
  behind_small = omega (arith, seam, row_ends, words_length, length_small w r end e)

  -- ---- Links across

  pub across_is : Tells (first_across (side_before version n s r) (side_behind (length w) version n s r) w) (crossing version n s r)
  unfolding crossing
  across_is =
      let parents = subst (λ (l : List ℕ). Tells (every_across n (node_words percents - 1) 0 (nodes_behind version n) l) (parent_across n (node_words percents) (nodes_behind version n) (drop n r.nodes))) (sym piece-nodes_two)
      (parents_are n (nodes_behind version n) percents (drop n r.nodes) (omega arith)) in
      let front = subst (λ (l : List ℕ). Tells (cords_across n true 0 (servers_start version r) l) (server_across n true (servers_start version r) (take s r.servers))) (sym piece-servers_one)
      (servers_are n true (take s r.servers) (servers_start version r) (omega arith)) in
      let back = subst (λ (l : List ℕ). Tells (cords_across n false 0 (servers_behind version s r) l) (server_across n false (servers_behind version s r) (drop s r.servers))) (sym piece-servers_two)
      (servers_are n false (drop s r.servers) (servers_behind version s r) (omega arith)) in
      tells_or _ _ _ _ parents (tells_or _ _ _ _ front back)
