-- A room parted after so many nodes and servers. Lowering undoes raising, and raising undoes lowering where no
-- link crosses the cut: from these two laws of one number both round trips follow.
use mathlib.Core.Path.{◌≡◌, refl, sym, ap, ap₂, ◌∙◌}
use mathlib.Core.List.{List, [], ◌∷◌, ◌++◌, map}
use mathlib.Core.Logic.{inl, inr}
use Prim.Native.Nat.{ℕ, zero, suc, ◌-◌, ◌≤◌}
use native.Mathlib.Omega.{arith}
use lib.ListN.{length, take, drop, take-append-drop}
use lib.Seq.{take-append_seam, drop-append_seam, length-take-le}
use Rattle.rooms.specs.Table.{raised, Node, Cord, Server, Room}
use Rattle.rooms.proofs.All.{All}
use Rattle.join.specs.Joined.{raised_node, raised_cord, raised_server, joined}
use Rattle.part.specs.Parted.{lowered_node, lowered_cord, lowered_server, front, back, Behind}

-- No link of what stands behind the cut goes across. (Of what stands before it, a cord might.)
pub record BackWhole (n s : ℕ) (r : Room) : Type 0 where
  pub nodes : All (λ (x : Node). Behind n x.parent) (drop n r.nodes)
  pub servers : All (λ (x : Server). All (λ (c : Cord). Behind n c.node) x.cords) (drop s r.servers)

-- ---- One number

lower_raised : (a v : ℕ) → raised a v - a ≡ v
lower_raised a zero = omega arith
lower_raised a (suc v) = omega arith

raised_lower : (n v : ℕ) → Behind n v → raised n (v - n) ≡ v
raised_lower n v (inl e) = ap (λ (x : ℕ). raised n (x - n)) e ∙ ap (raised n) (let z : 0 - n ≡ 0 = omega arith in z) ∙ sym e
raised_lower n v (inr h) = go (v - n) refl
  where
    go : (x : ℕ) → v - n ≡ x → raised n x ≡ v
    go zero e = absurd (omega arith)
    go (suc x) e = omega arith

-- ---- Lists

module _ {A : Type 0} (f : A → A) where
  pub map_same : ((x : A) → f x ≡ x) → (l : List A) → map f l ≡ l
  map_same e [] = refl
  map_same e (x ∷ l) = ap₂ ◌∷◌ (e x) (map_same e l)

  map_all : (P : A → Type 0) → ((x : A) → P x → f x ≡ x) → (l : List A) → All P l → map f l ≡ l
  unfolding All
  map_all P e [] ps = refl
  map_all P e (x ∷ l) ps = ap₂ ◌∷◌ (e x ps.0) (map_all P e l ps.1)

map_twice : {A B C : Type 0} (g : B → C) (f : A → B) (l : List A) → map g (map f l) ≡ map (λ x. g (f x)) l
map_twice g f [] = refl
map_twice g f (x ∷ l) = ap (λ z. g (f x) ∷ z) (map_twice g f l)

-- ---- Joined, then parted

module _ (r q : Room) (same : q.scale ≡ r.scale) where
  pub parted_front : front (length r.nodes) (length r.servers) (joined r q) ≡ r
  parted_front = λ i. record { scale = r.scale; nodes = take-append_seam r.nodes (map (raised_node (length r.nodes)) q.nodes) i; servers = take-append_seam r.servers (map (raised_server (length r.nodes)) q.servers) i }

  cords-back : (n : ℕ) (l : List Cord) → map (lowered_cord n) (map (raised_cord n) l) ≡ l
  cords-back n l = map_twice (lowered_cord n) (raised_cord n) l ∙ map_same (λ c. lowered_cord n (raised_cord n c)) (λ c i. record { node = lower_raised n c.node i; share = c.share }) l

  servers-back : (n : ℕ) (l : List Server) → map (lowered_server n) (map (raised_server n) l) ≡ l
  servers-back n l =
      map_twice (lowered_server n) (raised_server n) l
      ∙ map_same (λ s. lowered_server n (raised_server n s)) (λ s i. record { rank = s.rank; least = s.least; greatest = s.greatest; cords = cords-back n s.cords i }) l

  nodes-back : (n : ℕ) (l : List Node) → map (lowered_node n) (map (raised_node n) l) ≡ l
  nodes-back n l = map_twice (lowered_node n) (raised_node n) l ∙ map_same (λ x. lowered_node n (raised_node n x)) (λ x i. record { parent = lower_raised n x.parent i; rating = x.rating; percent = x.percent }) l

  pub parted_back : back (length r.nodes) (length r.servers) (joined r q) ≡ q
  parted_back = λ i. record {
    scale = sym same i;
    nodes = (ap (map (lowered_node (length r.nodes))) (drop-append_seam r.nodes (map (raised_node (length r.nodes)) q.nodes)) ∙ nodes-back (length r.nodes) q.nodes) i;
    servers = (ap (map (lowered_server (length r.nodes))) (drop-append_seam r.servers (map (raised_server (length r.nodes)) q.servers)) ∙ servers-back (length r.nodes) q.servers) i;
  }

-- ---- Parted, then joined

module _ (n s : ℕ) (r : Room) (few : n ≤ length r.nodes) (uncut : BackWhole n s r) where
  node_again : (x : Node) → Behind n x.parent → raised_node n (lowered_node n x) ≡ x
  node_again x h = λ i. record { parent = raised_lower n x.parent h i; rating = x.rating; percent = x.percent }

  cord_again : (c : Cord) → Behind n c.node → raised_cord n (lowered_cord n c) ≡ c
  cord_again c h = λ i. record { node = raised_lower n c.node h i; share = c.share }

  server_again : (x : Server) → All (λ (c : Cord). Behind n c.node) x.cords → raised_server n (lowered_server n x) ≡ x
  server_again x h = λ i. record {
    rank = x.rank;
    least = x.least;
    greatest = x.greatest;
    cords = (map_twice (raised_cord n) (lowered_cord n) x.cords ∙ map_all _ _ cord_again x.cords h) i;
  }

  size : length (take n r.nodes) ≡ n
  size = length-take-le n r.nodes few

  nodes_again : take n r.nodes ++ map (raised_node n) (map (lowered_node n) (drop n r.nodes)) ≡ r.nodes
  nodes_again =
      ap (λ (z : List Node). take n r.nodes ++ z) (map_twice (raised_node n) (lowered_node n) (drop n r.nodes) ∙ map_all _ _ node_again (drop n r.nodes) uncut.nodes)
      ∙ take-append-drop n r.nodes

  servers_again : take s r.servers ++ map (raised_server n) (map (lowered_server n) (drop s r.servers)) ≡ r.servers
  servers_again =
      ap (λ (z : List Server). take s r.servers ++ z) (map_twice (raised_server n) (lowered_server n) (drop s r.servers) ∙ map_all _ _ server_again (drop s r.servers) uncut.servers)
      ∙ take-append-drop s r.servers

  pub joined_again : joined (front n s r) (back n s r) ≡ r
  joined_again =
      ap (λ (k : ℕ). record { scale = r.scale; nodes = take n r.nodes ++ map (raised_node k) (back n s r).nodes; servers = take s r.servers ++ map (raised_server k) (back n s r).servers }) size
      ∙ (λ i. record { scale = r.scale; nodes = nodes_again i; servers = servers_again i })
