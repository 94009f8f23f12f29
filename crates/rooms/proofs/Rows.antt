-- What a good row of parts is, from what each of its parts is: a fact of every element, and the words that the row takes.
use mathlib.Core.Path.{◌≡◌}
use mathlib.Core.Bool.{Bool}
use mathlib.Core.List.{List, []}
use Prim.Native.Nat.{ℕ, zero, suc, ◌+◌, ◌*◌, ◌≤◌, ◌<◌}
use native.Mathlib.Nat.{mul-zero, mul-suc}
use native.Mathlib.Omega.{arith}
use lib.ListN.{length, get_or}
use Rattle.rooms.specs.Part.{good, Part, many}
use Rattle.rooms.specs.Table.{Node, Cord, Server, node_words, node, nodes, cord, cords, server, servers, cord_count}
use Rattle.rooms.proofs.All.{All, all_none, all_cons}
use Rattle.rooms.proofs.Inversion.{many_is, NodeIs, node_is, cord_is, server_is}

module _ {A : Type 0} (part : ℕ → Part A) (next : ℕ → A → ℕ) (w : List ℕ) where
  -- What holds of each good part holds of every part of a good row.
  pub many_all : (fact : A → Type 0) → ((given i : ℕ) (a : A) (j : ℕ) → part given w i ≡ good a j → fact a)
      → (count given i : ℕ) (l : List A) (j : ℕ) → many count part next given w i ≡ good l j → All fact l
  unfolding many
  many_all fact each zero given i l j e = let x : [] ≡ l = cc in rw (← x) (all_none fact)
  many_all fact each (suc count) given i l j e =
      let a = many_is count part next given w i l j e in
      let rest = many_all fact each count (next given a.got) a.at a.rest j a.others in
      rw a.is (all_cons fact a.got a.rest (each given i a.got a.at a.first) rest)

  -- A row of parts that take `width` words each takes that many for each of them.
  pub many_words : (width : ℕ) → ((given i : ℕ) (a : A) (j : ℕ) → part given w i ≡ good a j → (j ≡ i + width) × (j ≤ length w))
      → (count given i : ℕ) (l : List A) (j : ℕ) → i ≤ length w → many count part next given w i ≡ good l j → (j ≡ i + width * count) × (j ≤ length w)
  unfolding many
  many_words width each zero given i l j h e = let x : i ≡ j = cc in (omega arith, omega arith)
  many_words width each (suc count) given i l j h e =
      let a = many_is count part next given w i l j e in
      let f = each given i a.got a.at a.first in
      let r = many_words width each count (next given a.got) a.at a.rest j f.1 a.others in
      let m : width * suc count ≡ width * count + width = mul-suc width count in
      (omega (arith, f.0, r.0), r.1)

-- ---- The rows of a table

pub nodes_words : (percents : Bool) (count own : ℕ) (w : List ℕ) (i : ℕ) (l : List Node) (j : ℕ) → i ≤ length w → nodes percents count own w i ≡ good l j
    → (j ≡ i + node_words percents * count) × (j ≤ length w)
nodes_words percents count own w i l j =
    many_words (node percents) (λ own _. suc own) w (node_words percents)
    (λ own i a j e. let n = node_is percents own w i a j e in (n.next, omega (arith, n.next, n.there))) count own i l j

pub cords_words : (scale node_count count : ℕ) (w : List ℕ) (i : ℕ) (l : List Cord) (j : ℕ) → i ≤ length w → cords scale node_count count w i ≡ good l j
    → (j ≡ i + 2 * count) × (j ≤ length w)
cords_words scale node_count count w i l j =
    many_words (λ _. cord scale node_count) (λ given _. given) w 2
    (λ given i a j e. let c = cord_is scale node_count w i a j e in (omega (arith, c.next), omega (arith, c.next, c.there))) count 0 i l j

-- The node at place m of a row stands behind the words of m nodes.
pub nodes-at : (percents : Bool) (count own : ℕ) (w : List ℕ) (i : ℕ) (l : List Node) (j : ℕ) (d : Node) (m : ℕ) → m < count → nodes percents count own w i ≡ good l j
    → NodeIs percents (own + m) w (i + node_words percents * m) (get_or l m d) (i + node_words percents * m + node_words percents)
nodes-at percents zero own w i l j d m h e = absurd (omega arith)
nodes-at percents (suc count) own w i l j d zero h e =
    let a = many_is count (node percents) (λ own _. suc own) own w i l j e in
    let n = node_is percents own w i a.got a.at a.first in
    let o : own + 0 ≡ own = omega arith in
    let z : i + node_words percents * 0 ≡ i = omega (arith, mul-zero (node_words percents)) in
    rw (a.is, o, z, ← n.next) n
nodes-at percents (suc count) own w i l j d (suc m) h e =
    let a = many_is count (node percents) (λ own _. suc own) own w i l j e in
    let n = node_is percents own w i a.got a.at a.first in
    let o : own + suc m ≡ suc own + m = omega arith in
    let z : i + node_words percents * suc m ≡ a.at + node_words percents * m = omega (arith, n.next, mul-suc (node_words percents) m) in
    rw (a.is, o, z) (nodes-at percents count (suc own) w a.at a.rest j d m (omega arith) a.others)

-- A cord, and every cord of a server, hangs on one of so many nodes.
abbrev pub CordHangs : ℕ → Cord → Type 0
CordHangs node_count c = (1 ≤ c.node) × (c.node ≤ node_count)

abbrev pub ServerHangs : ℕ → Server → Type 0
ServerHangs node_count s = All (CordHangs node_count) s.cords

pub cords_hang : (scale node_count count : ℕ) (w : List ℕ) (i : ℕ) (l : List Cord) (j : ℕ) → cords scale node_count count w i ≡ good l j → All (CordHangs node_count) l
cords_hang scale node_count count w i l j =
    many_all (λ _. cord scale node_count) (λ given _. given) w (CordHangs node_count)
    (λ given i a j e. let c = cord_is scale node_count w i a j e in (c.first, c.last)) count 0 i l j

pub servers_hang : (scale node_count count before : ℕ) (w : List ℕ) (i : ℕ) (l : List Server) (j : ℕ) → servers scale node_count count before w i ≡ good l j
    → All (ServerHangs node_count) l
servers_hang scale node_count count before w i l j =
    many_all (server scale node_count) (λ before s. before + cord_count s) w (ServerHangs node_count)
    (λ before i s j e. cords_hang scale node_count _ w _ s.cords j (server_is scale node_count before w i s j e).load.are) count before i l j
