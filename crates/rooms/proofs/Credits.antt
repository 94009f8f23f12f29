-- Laws of figures credited to nodes: each credit counts once in the sum of all figures, and once at every node that it hangs beneath.
use mathlib.Core.Path.{◌≡◌, refl, sym, ap, ap₂, ◌∙◌}
use mathlib.Core.Bool.{Bool, true, false, ◌||◌}
use mathlib.Core.List.{List, [], ◌∷◌}
use Prim.Native.Nat.{ℕ, zero, suc, ◌+◌, ◌≤◌, ◌<◌}
use native.Mathlib.Omega.{arith}
use lib.ListN.{length, get_or}
use lib.Dec.{eqb, eqb-suc-suc}
use borrow.Author.Tests.{eqb-true, eqb-false, eq-eqb, ne_eqb}
use Rattle.figures.specs.Sums.{on, sum}
use Rattle.figures.specs.Figures.{total, at}
use Rattle.rooms.specs.Table.{Cord, Server}
use Rattle.rooms.specs.Trees.{ParentsFirst, beneath, child_sum, sum_beneath}
use Rattle.rooms.specs.Limits.{low, server_lows, lows}
use Rattle.figures.proofs.Credits.{placed, on_most, credited-length, credited_past}
use Rattle.rooms.specs.Credits.{tree_sum, credited_cords, credited_servers}
use Rattle.figures.specs.Credits.{credited}
use Rattle.figures.proofs.Sums.{on_no, sum_cong, sum_add, sum_le, sum_one, sum_zero}
use Rattle.rooms.proofs.Trees.{sum_beneath_step}
use Rattle.rooms.proofs.All.{All}
use Rattle.rooms.proofs.Rows.{CordHangs, ServerHangs}

on_add_on : (t s : Bool) (a b : ℕ) → on t (a + on s b) ≡ on t a + on s (on t b)
on_add_on true s a b = refl
on_add_on false true a b = refl
on_add_on false false a b = refl

eqb_sym : (m n : ℕ) → eqb m n ≡ eqb n m
eqb_sym m n = go (eqb m n) refl
  where
    go : (t : Bool) → eqb m n ≡ t → eqb m n ≡ eqb n m
    go true e = e ∙ sym (eq-eqb n m (sym (eqb-true m n e)))
    go false e = e ∙ sym (ne_eqb n m (λ q. eqb-false m n e (sym q)))

-- ---- The sum beneath a node

pub tree_sum_most : (count : ℕ) (parent figure : ℕ → ℕ) (n : ℕ) → tree_sum parent count figure n ≤ sum count figure
unfolding sum_beneath
tree_sum_most count parent figure n = sum_le count _ _ (λ m l. on_most (beneath parent count n (suc m)) (figure m))

pub tree_sum_zero : (count : ℕ) (parent figure : ℕ → ℕ) (n : ℕ) → ((i : ℕ) → figure i ≡ 0) → tree_sum parent count figure n ≡ 0
tree_sum_zero count parent figure n z =
    omega (arith, tree_sum_most count parent figure n, sum_cong count figure (λ i. 0) (λ i g. z i), sum_zero count)

-- A node's sum is its own figure and its children's sums.
pub tree_sum_step : (count : ℕ) (parent : ℕ → ℕ) → ParentsFirst count parent → (figure : ℕ → ℕ) (n : ℕ) → n < count
    → tree_sum parent count figure n ≡ figure n + child_sum count parent n (tree_sum parent count figure)
tree_sum_step count parent rises figure n l =
    sum_beneath_step count parent rises count suc (λ c h. h) n figure
    ∙ ap (λ (x : ℕ). x + child_sum count parent n (tree_sum parent count figure))
    (sum_cong count _ _ (λ c h. ap (λ (t : Bool). on t (figure c)) (eqb-suc-suc c n ∙ eqb_sym c n)) ∙ sum_one count n figure l)

-- What is credited to a node counts at every node that it hangs beneath.
pub tree_sum-credited : (count : ℕ) (parent : ℕ → ℕ) (node figure : ℕ) (l : List ℕ) (n : ℕ) → 1 ≤ node → node ≤ count → count ≤ length l
    → tree_sum parent count (at (credited node figure l)) n ≡ tree_sum parent count (at l) n + on (beneath parent count n node) figure
unfolding sum_beneath
tree_sum-credited count parent zero figure l n one h k = absurd (omega arith)
tree_sum-credited count parent (suc m) figure l n one h k =
    sum_cong count _ _ (λ i r. ap (on (under_n i)) (placed m figure l i (omega arith)) ∙ on_add_on (under_n i) (eqb m i) (get_or l i 0) figure)
    ∙ sum_add count (λ i. on (under_n i) (get_or l i 0)) (λ i. on (eqb m i) (on (under_n i) figure))
    ∙ ap (λ (x : ℕ). sum count (λ i. on (under_n i) (get_or l i 0)) + x) (sum_one count m (λ i. on (under_n i) figure) h)
  where
    under_n : ℕ → Bool
    under_n i = beneath parent count n (suc i)

-- ---- The sum beneath goes by the parents of the nodes alone

beneath_cong : (count : ℕ) (p q : ℕ → ℕ) → ((m : ℕ) → m < count → p m ≡ q m) → ParentsFirst count p → (steps n v : ℕ) → v ≤ count
    → beneath p steps n v ≡ beneath q steps n v
unfolding beneath
beneath_cong count p q e rises zero n v h = refl
beneath_cong count p q e rises (suc steps) n zero h = refl
beneath_cong count p q e rises (suc steps) n (suc m) h =
    ap (λ (t : Bool). eqb m n || t)
    (beneath_cong count p q e rises steps n (p m) (omega (arith, rises m h)) ∙ ap (beneath q steps n) (e m h))

pub tree_sum_cong : (count : ℕ) (p q figure : ℕ → ℕ) → ((m : ℕ) → m < count → p m ≡ q m) → ParentsFirst count p → (n : ℕ)
    → tree_sum p count figure n ≡ tree_sum q count figure n
unfolding sum_beneath
tree_sum_cong count p q figure e rises n =
    sum_cong count _ _ (λ m l. ap (λ (t : Bool). on t (figure m)) (beneath_cong count p q e rises count n (suc m) l))

-- No way along the parents meets a place past all nodes, so nothing is beneath it.
beneath_past : (count : ℕ) (parent : ℕ → ℕ) → ParentsFirst count parent → (steps n v : ℕ) → v ≤ count → count ≤ n
    → beneath parent steps n v ≡ false
unfolding beneath
beneath_past count parent rises zero n v h l = refl
beneath_past count parent rises (suc steps) n zero h l = refl
beneath_past count parent rises (suc steps) n (suc m) h l =
    ap₂ ◌||◌ (ne_eqb m n (λ e. omega arith)) (beneath_past count parent rises steps n (parent m) (omega (arith, rises m h)) l)

pub tree_sum_past : (count : ℕ) (parent figure : ℕ → ℕ) → ParentsFirst count parent → (n : ℕ) → count ≤ n
    → tree_sum parent count figure n ≡ 0
unfolding sum_beneath
tree_sum_past count parent figure rises n h =
    sum_cong count _ (λ m. 0) (λ m l. on_no _ (figure m) (beneath_past count parent rises count n (suc m) l h)) ∙ sum_zero count

-- ---- The credits of cords and of servers

pub credited_cords-length : (scale least : ℕ) (cs : List Cord) (l : List ℕ) → length (credited_cords scale least cs l) ≡ length l
unfolding credited_cords
credited_cords-length scale least [] l = refl
credited_cords-length scale least (c ∷ cs) l =
    credited_cords-length scale least cs (credited c.node (low scale least c) l) ∙ credited-length c.node (low scale least c) l

pub credited_servers-length : (scale : ℕ) (ss : List Server) (l : List ℕ) → length (credited_servers scale ss l) ≡ length l
unfolding credited_servers
credited_servers-length scale [] l = refl
credited_servers-length scale (s ∷ ss) l = credited_servers-length scale ss (credited_cords scale s.least s.cords l) ∙ credited_cords-length scale s.least s.cords l

-- They leave a place past all nodes as it is.
module _ (scale count i : ℕ) (h : count ≤ i) where
  credited_cords_past : (least : ℕ) (cs : List Cord) (l : List ℕ) → All (CordHangs count) cs → get_or (credited_cords scale least cs l) i 0 ≡ get_or l i 0
  unfolding credited_cords All
  credited_cords_past least [] l g = refl
  credited_cords_past least (c ∷ cs) l g =
      credited_cords_past least cs (credited c.node (low scale least c) l) g.1 ∙ credited_past c.node (low scale least c) l i (omega (arith, g.0.1))

  pub credited_servers_past : (ss : List Server) (l : List ℕ) → All (ServerHangs count) ss → get_or (credited_servers scale ss l) i 0 ≡ get_or l i 0
  unfolding credited_servers All
  credited_servers_past [] l g = refl
  credited_servers_past (s ∷ ss) l g =
      credited_servers_past ss (credited_cords scale s.least s.cords l) g.1 ∙ credited_cords_past s.least s.cords l g.0

module _ (scale count : ℕ) (parent : ℕ → ℕ) (n : ℕ) where
  tree_sum-cords : (least : ℕ) (cs : List Cord) (l : List ℕ) → count ≤ length l → All (CordHangs count) cs
      → tree_sum parent count (at (credited_cords scale least cs l)) n
      ≡ tree_sum parent count (at l) n + total (λ c. on (beneath parent count n c.node) (low scale least c)) cs
  unfolding credited_cords All total
  tree_sum-cords least [] l h g = omega arith
  tree_sum-cords least (c ∷ cs) l h g =
      tree_sum-cords least cs (credited c.node (low scale least c) l) (omega (arith, credited-length c.node (low scale least c) l)) g.1
      ∙ omega (arith, tree_sum-credited count parent c.node (low scale least c) l n g.0.0 g.0.1 h)

  pub tree_sum-servers : (ss : List Server) (l : List ℕ) → count ≤ length l → All (ServerHangs count) ss
      → tree_sum parent count (at (credited_servers scale ss l)) n ≡ tree_sum parent count (at l) n + lows scale (beneath parent count n) ss
  unfolding credited_servers All lows server_lows total
  tree_sum-servers [] l h g = omega arith
  tree_sum-servers (s ∷ ss) l h g =
      tree_sum-servers ss (credited_cords scale s.least s.cords l) (omega (arith, credited_cords-length scale s.least s.cords l)) g.1
      ∙ omega (arith, tree_sum-cords s.least s.cords l h g.0)
