-- The words of a good table, piece by piece, and those of a room whose numbers of nodes are moved.
use mathlib.Core.Path.{◌≡◌, refl, sym, ap, ap₂, ◌∙◌}
use mathlib.Core.Bool.{Bool, true, false}
use mathlib.Core.List.{List, [], ◌∷◌, ◌++◌, map, append_assoc}
use Prim.Native.Nat.{ℕ, ◌+◌, ◌-◌, ◌*◌, ◌≤◌}
use native.Mathlib.Omega.{arith}
use native.Mathlib.Nat.{mul-suc}
use lib.ListN.{length, take, drop, length-append, length-map}
use lib.Seq.{take_at, drop_at, drop-drop, take_all}
use Rattle.figures.specs.Figures.{at}
use Rattle.rooms.specs.Part.{good}
use Rattle.rooms.specs.Table.{Node, Cord, Server, Room, form_of, node_words, cord_count}
use Rattle.rooms.specs.Limits.{checked}
use Rattle.rooms.specs.Words.{row_words, words_of_node, words_of_cord, words_of_server, table_of}
use Rattle.rooms.specs.Walk.{servers_index}
use Rattle.rooms.proofs.Whole.{checked_is}
use Rattle.rooms.proofs.Tables.{table-written}
use Rattle.join.specs.Pieces.{renumbered, renumbered_every, renumbered_cords, piece}

-- ---- Rows of words

pub row_append : {A : Type 0} (words : A → List ℕ) (l m : List A) → row_words words (l ++ m) ≡ row_words words l ++ row_words words m
unfolding row_words
row_append words [] m = refl
row_append words (a ∷ l) m = ap (λ (z : List ℕ). words a ++ z) (row_append words l m) ∙ sym (append_assoc (words a) (row_words words l) (row_words words m))

node-length : (percents : Bool) (n : Node) → length (words_of_node percents n) ≡ node_words percents
node-length true n = refl
node-length false n = refl

pub nodes-length : (percents : Bool) (l : List Node) → length (row_words (words_of_node percents) l) ≡ node_words percents * length l
unfolding row_words
nodes-length percents [] = omega arith
nodes-length percents (n ∷ l) =
    length-append (words_of_node percents n) (row_words (words_of_node percents) l)
    ∙ omega (arith, node-length percents n, nodes-length percents l, mul-suc (node_words percents) (length l))

-- ---- The pieces of a good table

module _ (w : List ℕ) (r : Room) (j : ℕ) (e : checked w 0 ≡ good r j) where
  abbrev node_row : List ℕ
  node_row = row_words (words_of_node (form_of (at w 0)).percents) r.nodes

  abbrev server_row : List ℕ
  server_row = row_words words_of_server r.servers

  pub words_are : w ≡ table_of (at w 0) r
  words_are = table-written w r j (checked_is w r j e).0

  count_at : at w 1 ≡ length r.nodes
  count_at = ap (λ (l : List ℕ). at l 1) words_are

  pub middle_is : servers_index w ≡ 2 + length node_row
  middle_is = omega (arith, nodes-length (form_of (at w 0)).percents r.nodes, ap (λ (n : ℕ). node_words (form_of (at w 0)).percents * n) count_at)

  pub length_are : length w ≡ 3 + length node_row + length server_row
  length_are = ap length words_are ∙ omega (arith, length-append node_row (length r.servers ∷ server_row))

  behind_head : drop 2 w ≡ node_row ++ (length r.servers ∷ server_row)
  behind_head = ap (drop 2) words_are

  pub nodes-piece : piece 2 (servers_index w) w ≡ node_row
  nodes-piece =
      ap₂ take (let q : servers_index w - 2 ≡ length node_row = omega (arith, middle_is) in q) behind_head
      ∙ take_at node_row (length r.servers ∷ server_row) (length node_row) refl

  pub behind_middle : drop (servers_index w + 1) w ≡ server_row
  behind_middle =
      ap (λ (k : ℕ). drop k w) (let q : servers_index w + 1 ≡ 2 + (length node_row + 1) = omega (arith, middle_is) in q)
      ∙ sym (drop-drop (length node_row + 1) 2 w)
      ∙ ap (drop (length node_row + 1)) behind_head
      ∙ sym (drop-drop 1 (length node_row) (node_row ++ (length r.servers ∷ server_row)))
      ∙ ap (drop 1) (drop_at node_row (length r.servers ∷ server_row) (length node_row) refl)

  pub servers-piece : piece (servers_index w + 1) (length w) w ≡ server_row
  servers-piece =
      ap₂ take (let q : length w - (servers_index w + 1) ≡ length server_row = omega (arith, middle_is, length_are) in q) behind_middle
      ∙ take_all (length server_row) server_row (let q : length server_row ≤ length server_row = omega arith in q)

-- ---- Numbers of nodes moved

module _ (up down : ℕ) (move : ℕ → ℕ) (moves : (v : ℕ) → move v ≡ renumbered up down v) where
  abbrev pub moved_node : Node → Node
  moved_node n = record { parent = move n.parent; rating = n.rating; percent = n.percent }

  abbrev pub moved_cord : Cord → Cord
  moved_cord c = record { node = move c.node; share = c.share }

  abbrev pub moved_server : Server → Server
  moved_server s = record { rank = s.rank; least = s.least; greatest = s.greatest; cords = map moved_cord s.cords }

  pub nodes-moved : (percents : Bool) (l : List Node)
      → row_words (words_of_node percents) (map moved_node l) ≡ renumbered_every (node_words percents - 1) up down 0 (row_words (words_of_node percents) l)
  unfolding row_words renumbered_every
  nodes-moved true [] = refl
  nodes-moved false [] = refl
  nodes-moved true (n ∷ l) = ap₂ (λ (p : ℕ) (z : List ℕ). p ∷ n.rating ∷ n.percent ∷ z) (moves n.parent) (nodes-moved true l)
  nodes-moved false (n ∷ l) = ap₂ (λ (p : ℕ) (z : List ℕ). p ∷ n.rating ∷ z) (moves n.parent) (nodes-moved false l)

  cords-moved : (l : List Cord) (rest : List ℕ)
      → renumbered_cords up down (length l) (row_words words_of_cord l ++ rest) ≡ row_words words_of_cord (map moved_cord l) ++ renumbered_cords up down 0 rest
  unfolding row_words renumbered_cords
  cords-moved [] rest = refl
  cords-moved (c ∷ l) rest = ap₂ (λ (p : ℕ) (z : List ℕ). p ∷ c.share ∷ z) (sym (moves c.node)) (cords-moved l rest)

  pub servers-moved : (l : List Server) → row_words words_of_server (map moved_server l) ≡ renumbered_cords up down 0 (row_words words_of_server l)
  unfolding row_words renumbered_cords
  servers-moved [] = refl
  servers-moved (s ∷ l) =
      ap (λ (k : ℕ). s.rank ∷ s.least ∷ s.greatest ∷ k ∷ (row_words words_of_cord (map moved_cord s.cords) ++ row_words words_of_server (map moved_server l)))
      (length-map s.cords moved_cord)
      ∙ ap (λ (z : List ℕ). s.rank ∷ s.least ∷ s.greatest ∷ cord_count s ∷ z)
      (ap (λ (z : List ℕ). row_words words_of_cord (map moved_cord s.cords) ++ z) (servers-moved l) ∙ sym (cords-moved s.cords (row_words words_of_server l)))
