-- A good table is the words of its room in its version: every good table has these words, and the words of a room whose figures are
-- in range are a good table of it. What a table made of another is, is shown by this: once for its words, once for its room.
use mathlib.Core.Path.{◌≡◌, refl, sym, ap, ap₂, ◌∙◌}
use mathlib.Core.Bool.{Bool, true, false, cond}
use mathlib.Core.List.{List, [], ◌∷◌, ◌++◌, append_assoc, append-nil}
use Prim.Native.Nat.{ℕ, zero, suc, ◌+◌, ◌-◌, ◌≤◌, ◌<◌}
use native.Mathlib.Omega.{arith}
use lib.ListN.{length, get_or, drop, drop_of_length-le, length-drop}
use lib.Seq.{drop-cons}
use borrow.Author.Tests.{eq-eqb, eqb-true, le-leb, lt-leb, le-ltb}
use Rattle.rooms.specs.Part.{good, Part, ◌>>=◌, give, here, follow, word, ensure, end, many, within}
use Rattle.rooms.specs.declared.SheetRefusal.{SheetRefusal}
use Rattle.rooms.specs.Table.{Node, Cord, Server, Room, most_watts, most_nodes, most_servers, most_cords, highest_rank, newest_version, form_of, percent, node, nodes, cord, cords, range, load, server, servers, cord_count, table}
use Rattle.rooms.proofs.Fronts.{stands}
use Rattle.rooms.specs.Words.{row_words, words_of_node, words_of_cord, words_of_server, table_of, PercentFits, NodeInRange}
use Rattle.rooms.proofs.NodeWords.{percent_in}
use Rattle.rooms.proofs.Inversion.{many_is, NodeIs, node_is, cord_is, server_is, server_few}
use Rattle.rooms.proofs.Whole.{percents_of, table_is}
use Rattle.rooms.proofs.All.{All, all_head, all_tail}
use Rattle.rooms.proofs.Accepted.{CordAccepted, ServerAccepted, server_accepted}

-- ---- A good table has the words of its room

module _ (w : List ℕ) where
  -- Two words in a row.
  two_words : (i : ℕ) → suc i < length w → drop i w ≡ get_or w i 0 ∷ get_or w (suc i) 0 ∷ drop (suc (suc i)) w
  two_words i h = drop-cons w i 0 (omega arith) ∙ ap (λ (z : List ℕ). get_or w i 0 ∷ z) (drop-cons w (suc i) 0 h)

  many-written : {A : Type 0} (part : ℕ → Part A) (next : ℕ → A → ℕ) (words : A → List ℕ)
      → ((given i : ℕ) (a : A) (j : ℕ) → part given w i ≡ good a j → drop i w ≡ words a ++ drop j w)
      → (count given i : ℕ) (l : List A) (j : ℕ) → many count part next given w i ≡ good l j → drop i w ≡ row_words words l ++ drop j w
  unfolding many row_words
  many-written part next words each zero given i l j e =
      let x : [] ≡ l = cc in
      let y : i ≡ j = cc in
      rw (← x, ← y)
  many-written part next words each (suc count) given i l j e =
      let a = many_is count part next given w i l j e in
      let rest = many-written part next words each count (next given a.got) a.at a.rest j a.others in
      rw a.is
      (each given i a.got a.at a.first
      ∙ ap (λ (z : List ℕ). words a.got ++ z) rest
      ∙ sym (append_assoc (words a.got) (row_words words a.rest) (drop j w)))

  node-written : (percents : Bool) (own i : ℕ) (n : Node) (j : ℕ) → node percents own w i ≡ good n j → drop i w ≡ words_of_node percents n ++ drop j w
  node-written percents own i n j e = go percents (node_is percents own w i n j e)
    where
      go : (percents : Bool) → NodeIs percents own w i n j → drop i w ≡ words_of_node percents n ++ drop j w
      go false a =
          let y : j ≡ suc (suc i) = omega (arith, a.next) in
          rw (a.is, y) (two_words i (omega (arith, a.there)))
      go true a =
          let y : j ≡ suc (suc (suc i)) = omega (arith, a.next) in
          rw (a.is, y)
          (two_words i (omega (arith, a.there))
          ∙ ap (λ (z : List ℕ). get_or w i 0 ∷ get_or w (suc i) 0 ∷ z) (drop-cons w (suc (suc i)) 0 (omega (arith, a.there))))

  cord-written : (scale node_count i : ℕ) (c : Cord) (j : ℕ) → cord scale node_count w i ≡ good c j → drop i w ≡ words_of_cord c ++ drop j w
  cord-written scale node_count i c j e =
      let a = cord_is scale node_count w i c j e in
      rw (a.is, a.next) (two_words i a.there)

  server-written : (scale node_count before i : ℕ) (s : Server) (j : ℕ) → server scale node_count before w i ≡ good s j → drop i w ≡ words_of_server s ++ drop j w
  server-written scale node_count before i s j e =
      let a = server_is scale node_count before w i s j e in
      let there = a.load.there in
      let cords = many-written _ _ words_of_cord (λ _ i c j d. cord-written scale node_count i c j d) _ 0 _ s.cords j a.load.are in
      let rank : s.rank ≡ get_or w i 0 = ap (λ (q : Server). q.rank) a.is in
      let least : s.least ≡ get_or w (suc i) 0 = ap (λ (q : Server). q.least) a.is in
      let greatest : s.greatest ≡ get_or w (suc (suc i)) 0 = ap (λ (q : Server). q.greatest) a.is in
      rw (rank, least, greatest, a.load.count)
      (two_words i (omega arith)
      ∙ ap (λ (z : List ℕ). get_or w i 0 ∷ get_or w (suc i) 0 ∷ z)
      (two_words (suc (suc i)) there ∙ ap (λ (z : List ℕ). get_or w (suc (suc i)) 0 ∷ get_or w (suc (suc (suc i))) 0 ∷ z) cords))

-- A good table is its version and its room.
pub table-written : (w : List ℕ) (r : Room) (j : ℕ) → table w 0 ≡ good r j → w ≡ table_of (get_or w 0 0) r
table-written w r j e =
    let t = table_is w r j e in
    let nodes = many-written w _ _ (words_of_node (percents_of w)) (λ own i n j d. node-written w (percents_of w) own i n j d) _ 1 2 r.nodes t.middle t.nodes_read in
    let servers = many-written w _ _ words_of_server (λ before i s j d. server-written w r.scale (length r.nodes) before i s j d) _ 0 _ r.servers j t.servers_read in
    let behind : drop t.middle w ≡ length r.servers ∷ row_words words_of_server r.servers
    = drop-cons w t.middle 0 t.there
    ∙ ap₂ (λ (x : ℕ) (z : List ℕ). x ∷ z) t.server_count
    (servers ∙ ap (λ (z : List ℕ). row_words words_of_server r.servers ++ z) (drop_of_length-le w t.ended) ∙ append-nil _) in
    drop-cons w 0 0 (omega (arith, t.begun))
    ∙ ap (λ (z : List ℕ). get_or w 0 0 ∷ z) (drop-cons w 1 0 t.begun
    ∙ ap₂ (λ (x : ℕ) (z : List ℕ). x ∷ z) t.node_count
    (nodes ∙ ap (λ (z : List ℕ). row_words (words_of_node (percents_of w)) r.nodes ++ z) behind))

-- ---- Figures in range

-- A fact of each of a row, by the number that each is given.
unfoldable pub Chain : {A : Type 0} → (ℕ → A → Type 0) → (ℕ → A → ℕ) → ℕ → List A → Type 0
Chain fact next given [] = Unit {0}
Chain fact next given (a ∷ l) = fact given a × Chain fact next (next given a) l

-- The parts of a good row have a fact each, where what each is given keeps something that the fact needs.
many_chain : {A : Type 0} (part : ℕ → Part A) (next : ℕ → A → ℕ) (w : List ℕ) (fact : ℕ → A → Type 0) (Kept : ℕ → Type 0)
    → ((given i : ℕ) (a : A) (j : ℕ) → Kept given → part given w i ≡ good a j → fact given a × Kept (next given a))
    → (count given i : ℕ) (l : List A) (j : ℕ) → Kept given → many count part next given w i ≡ good l j → Chain fact next given l
unfolding many Chain
many_chain part next w fact Kept each zero given i l j k e = let x : [] ≡ l = cc in rw (← x) tt
many_chain part next w fact Kept each (suc count) given i l j k e =
    let a = many_is count part next given w i l j e in
    let f = each given i a.got a.at k a.first in
    rw a.is (f.0, many_chain part next w fact Kept each count (next given a.got) a.at a.rest j f.1 a.others)

-- A server, by the count of cords before it.
pub record ServerFits (scale node_count before : ℕ) (s : Server) : Type 0 where
  pub accepted : ServerAccepted scale node_count s
  pub few : before + cord_count s ≤ most_cords

pub record RoomFits (version : ℕ) (r : Room) : Type 0 where
  pub first : 1 ≤ version
  pub newest : version ≤ newest_version
  pub scaled : r.scale ≡ (form_of version).scale
  pub some_nodes : 1 ≤ length r.nodes
  pub few_nodes : length r.nodes ≤ most_nodes
  pub nodes : Chain (NodeInRange (form_of version).percents) (λ own _. suc own) 1 r.nodes
  pub few_servers : length r.servers ≤ most_servers
  pub servers : Chain (ServerFits r.scale (length r.nodes)) (λ before s. before + cord_count s) 0 r.servers

-- What holds of each of a row, whatever it is given.
all_chain : {A : Type 0} (fact : A → Type 0) (next : ℕ → A → ℕ) (l : List A) (given : ℕ) → All fact l → Chain (λ _. fact) next given l
unfolding Chain
all_chain fact next [] given f = tt
all_chain fact next (a ∷ l) given f = (all_head fact a l f, all_chain fact next l (next given a) (all_tail fact a l f))

node_fits : (percents : Bool) (own : ℕ) (w : List ℕ) (i : ℕ) (n : Node) (j : ℕ) → node percents own w i ≡ good n j → NodeInRange percents own n
node_fits percents own w i n j e =
    let a = node_is percents own w i n j e in
    record { parent = a.parent; rating = a.rating; percent = a.percent }

server_fits : (scale node_count before : ℕ) (w : List ℕ) (i : ℕ) (s : Server) (j : ℕ) → before ≤ most_cords → server scale node_count before w i ≡ good s j
    → ServerFits scale node_count before s
server_fits scale node_count before w i s j h e =
    record { accepted = server_accepted scale node_count before w i s j e; few = server_few scale node_count before w i s j h e }

-- The figures of a good table are in range.
pub table_fits : (w : List ℕ) (r : Room) (j : ℕ) → table w 0 ≡ good r j → RoomFits (get_or w 0 0) r
table_fits w r j e =
    let t = table_is w r j e in
    record {
      first = t.first;
      newest = t.newest;
      scaled = t.scale_is;
      some_nodes = t.some_nodes;
      few_nodes = t.few_nodes;
      nodes = many_chain _ _ w (NodeInRange (percents_of w)) (λ _. Unit {0}) (λ own i n j _ d. (node_fits (percents_of w) own w i n j d, tt)) _ 1 2 r.nodes t.middle tt t.nodes_read;
      few_servers = t.few_servers;
      servers = many_chain _ _ w (ServerFits r.scale (length r.nodes)) (λ before. before ≤ most_cords)
          (λ before i s j h d. let f = server_fits r.scale (length r.nodes) before w i s j h d in (f, f.few)) _ 0 _ r.servers j (omega arith) t.servers_read;
    }

-- ---- The words of a room are read back

-- A part at i reads a value from the words there, and these words follow it.
pub record Reads {A : Type 0} (p : Part A) (w : List ℕ) (i : ℕ) (a : A) (rest : List ℕ) : Type 0 where
  pub next : ℕ
  pub is : p w i ≡ good a next
  pub left : drop next w ≡ rest

module _ (w : List ℕ) (i : ℕ) where
  give_reads : {A : Type 0} (a : A) (rest : List ℕ) → drop i w ≡ rest → Reads (give a) w i a rest
  give_reads a rest d = record { next = i; is = refl; left = d }

  -- One part after the other.
  then_reads : {A B : Type 0} {p : Part A} {a : A} {b : B} {between rest : List ℕ} (k : A → Part B)
      → Reads p w i a between → ((j : ℕ) → drop j w ≡ between → Reads (k a) w j b rest) → Reads (◌>>=◌ p k) w i b rest
  unfolding follow
  then_reads k first others =
      let o = others first.next first.left in
      record { next = o.next; is = ap (λ s. follow s (λ a j. k a w j)) first.is ∙ o.is; left = o.left }

  word_reads : (low high v : ℕ) (rest : List ℕ) → drop i w ≡ v ∷ rest → low ≤ v → v ≤ high → Reads (word (within low high)) w i v rest
  unfolding word
  word_reads low high v rest d l h =
      let s = stands w i v rest d in
      record { next = suc i; is = rw (lt-leb (length w) i s.there, s.is, le-leb low v l, le-leb v high h); left = s.next }

  here_reads : {B : Type 0} {b : B} {rest : List ℕ} (k : ℕ → Part B) → Reads (k i) w i b rest → Reads (◌>>=◌ here k) w i b rest
  unfolding follow
  here_reads k r = record { next = r.next; is = r.is; left = r.left }

  ensure_reads : {B : Type 0} {b : B} {rest : List ℕ} (t : Bool) (q : SheetRefusal) (k : Bool → Part B) → t ≡ true → Reads (k true) w i b rest
      → Reads (◌>>=◌ (ensure t q) k) w i b rest
  unfolding follow ensure
  ensure_reads t q k e r = rw e (record { next = r.next; is = r.is; left = r.left })

  end_reads : drop i w ≡ [] → Reads end w i true []
  unfolding end
  end_reads d =
      let h : length w ≤ i = omega (arith, length-drop i w, ap length d) in
      record { next = i; is = rw (le-ltb i (length w) h); left = d }

many_reads : {A : Type 0} (part : ℕ → Part A) (next : ℕ → A → ℕ) (w : List ℕ) (words : A → List ℕ) (fact : ℕ → A → Type 0)
    → ((given : ℕ) (a : A) (i : ℕ) (rest : List ℕ) → fact given a → drop i w ≡ words a ++ rest → Reads (part given) w i a rest)
    → (l : List A) (given i : ℕ) (rest : List ℕ) → Chain fact next given l → drop i w ≡ row_words words l ++ rest → Reads (many (length l) part next given) w i l rest
unfolding many Chain row_words
many_reads part next w words fact each [] given i rest facts d = give_reads w i [] rest d
many_reads part next w words fact each (a ∷ l) given i rest facts d =
    then_reads w i _ (each given a i (row_words words l ++ rest) facts.0 (d ∙ append_assoc (words a) (row_words words l) rest)) (λ j b.
    then_reads w j _ (many_reads part next w words fact each l (next given a) j rest facts.1 b) (λ k c.
    give_reads w k (a ∷ l) rest c))

module _ (w : List ℕ) where
  percent_reads : (percents : Bool) (p i : ℕ) (rest : List ℕ) → PercentFits percents p → drop i w ≡ cond percents (p ∷ []) [] ++ rest → Reads (percent percents) w i p rest
  unfolding percent
  percent_reads false p i rest f d = rw (eqb-true p 80 f) (give_reads w i 80 rest d)
  percent_reads true p i rest f d =
      here_reads w i _
      (then_reads w i _ (word_reads w i 80 100 p rest d (percent_in p f).0 (percent_in p f).1) (λ j b.
      ensure_reads w j _ _ _ f
      (give_reads w j p rest b)))

  node_reads : (percents : Bool) (own : ℕ) (n : Node) (i : ℕ) (rest : List ℕ) → NodeInRange percents own n → drop i w ≡ words_of_node percents n ++ rest
      → Reads (node percents own) w i n rest
  unfolding node
  node_reads percents own n i rest f d =
      then_reads w i _ (word_reads w i 0 (own - 1) n.parent _ d (omega arith) f.parent) (λ j b.
      then_reads w j _ (word_reads w j 0 most_watts n.rating _ b (omega arith) f.rating) (λ k c.
      then_reads w k _ (percent_reads percents n.percent k rest f.percent c) (λ h e.
      give_reads w h n rest e)))

  cord_reads : (scale node_count : ℕ) (c : Cord) (i : ℕ) (rest : List ℕ) → CordAccepted scale node_count c → drop i w ≡ words_of_cord c ++ rest
      → Reads (cord scale node_count) w i c rest
  unfolding cord
  cord_reads scale node_count c i rest f d =
      then_reads w i _ (word_reads w i 1 node_count c.node _ d f.node_from f.node_to) (λ j b.
      then_reads w j _ (word_reads w j 0 scale c.share _ b (omega arith) f.share_to) (λ k e.
      give_reads w k c rest e))

  cords_reads : (scale node_count : ℕ) (l : List Cord) (i : ℕ) (rest : List ℕ) → All (CordAccepted scale node_count) l → drop i w ≡ row_words words_of_cord l ++ rest
      → Reads (cords scale node_count (length l)) w i l rest
  cords_reads scale node_count l i rest f d =
      many_reads _ _ w words_of_cord (λ _. CordAccepted scale node_count) (λ _ c i rest f d. cord_reads scale node_count c i rest f d) l 0 i rest (all_chain _ _ l 0 f) d

  server_reads : (scale node_count before : ℕ) (s : Server) (i : ℕ) (rest : List ℕ) → ServerFits scale node_count before s → drop i w ≡ words_of_server s ++ rest
      → Reads (server scale node_count before) w i s rest
  unfolding server range load
  server_reads scale node_count before s i rest f d =
      let a = f.accepted in
      let few = f.few in
      here_reads w i _
      (then_reads w i _ (word_reads w i 1 highest_rank s.rank _ d a.rank_from a.rank_to) (λ j b.
      then_reads w j _
      (then_reads w j _ (word_reads w j 0 most_watts s.least _ b (omega arith) (omega (arith, a.ordered, a.greatest_to))) (λ k c.
      here_reads w k _
      (then_reads w k _ (word_reads w k 0 most_watts s.greatest _ c (omega arith) a.greatest_to) (λ h e.
      ensure_reads w h _ _ _ (le-leb s.least s.greatest a.ordered)
      (give_reads w h (record { least = s.least; greatest = s.greatest }) _ e))))) (λ h e.
      then_reads w h _
      (then_reads w h _ (word_reads w h 1 _ (cord_count s) _ e a.some_cords (omega (arith, a.few_cords))) (λ m g.
      then_reads w m _ (cords_reads scale node_count s.cords m rest a.cords g) (λ q x.
      ensure_reads w q _ _ _ (eq-eqb _ _ a.shares)
      (give_reads w q s.cords rest x)))) (λ q x.
      give_reads w q s rest x))))

-- The rows of a room in range.
module _ (version : ℕ) (r : Room) (f : RoomFits version r) (w : List ℕ) (i : ℕ) where
  nodes_reads : {rest : List ℕ} → drop i w ≡ row_words (words_of_node (form_of version).percents) r.nodes ++ rest
      → Reads (nodes (form_of version).percents (length r.nodes) 1) w i r.nodes rest
  nodes_reads {rest} d =
      many_reads _ _ w (words_of_node (form_of version).percents) (NodeInRange (form_of version).percents)
      (λ own n i rest f d. node_reads w (form_of version).percents own n i rest f d) r.nodes 1 i rest f.nodes d

  servers_reads : drop i w ≡ row_words words_of_server r.servers
      → Reads (servers (form_of version).scale (length r.nodes) (length r.servers) 0) w i r.servers []
  servers_reads d =
      rw (← f.scaled)
      (many_reads _ _ w words_of_server (ServerFits r.scale (length r.nodes))
      (λ before s i rest f d. server_reads w r.scale (length r.nodes) before s i rest f d) r.servers 0 i [] f.servers (d ∙ sym (append-nil _)))

-- The words of a room whose figures are in range are a good table of it.
pub table_reads : (version : ℕ) (r : Room) → RoomFits version r → Reads table (table_of version r) 0 r []
unfolding table
table_reads version r f =
    let w = table_of version r in
    then_reads w 0 _ (word_reads w 0 1 newest_version version _ refl f.first f.newest) (λ i a.
    then_reads w i _ (word_reads w i 1 most_nodes (length r.nodes) _ a f.some_nodes f.few_nodes) (λ j b.
    then_reads w j _ (nodes_reads version r f w j b) (λ k c.
    then_reads w k _ (word_reads w k 0 most_servers (length r.servers) _ c (omega arith) f.few_servers) (λ h d.
    then_reads w h _ (servers_reads version r f w h d) (λ m e.
    then_reads w m _ (end_reads w m e) (λ n g.
    rw (← f.scaled) (give_reads w n r [] g)))))))
