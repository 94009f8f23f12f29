-- No word across the cut is found just where no link crosses it.
use mathlib.Core.Path.{◌≡◌, refl, sym, ap, ◌∙◌, subst}
use mathlib.Core.Bool.{Bool, true, false, cond, ◌&&◌}
use mathlib.Core.List.{List, [], ◌∷◌}
use mathlib.Core.Logic.{inl, inr}
use Prim.Native.Nat.{ℕ, zero, suc, ◌+◌, ◌-◌, ◌≤◌, ◌<◌}
use native.Mathlib.Omega.{arith}
use lib.ListN.{length, get_or, take, drop, length-drop}
use lib.Seq.{length-take-le, get_or-take, get_or-drop}
use lib.Dec.{leb}
use borrow.Author.Tests.{ltb-false, leb-false, lt-leb, le-leb}
use Rattle.rooms.specs.Table.{Node, Cord, Server, Room, form_of, node_words, cord_count}
use Rattle.rooms.specs.Limits.{parent_of}
use Rattle.rooms.specs.Cords.{server_at}
use Rattle.rooms.specs.Words.{words_of_server}
use Rattle.rooms.proofs.All.{All, all_at}
use Rattle.part.specs.Parted.{Behind, cord_of, Uncrossed}
use Rattle.part.specs.Crossing.{across, or_else, parent_across, cord_across, server_across, nodes_behind, servers_start, servers_behind, crossing}

-- ---- One number

some_node : (n m : ℕ) → across n false (suc m) ≡ leb (suc m) n
some_node n m = ap (λ (t : Bool). t && leb (suc m) n) (le-leb 1 (suc m) (omega arith))

-- What stands behind the cut and is not across it names none, or one behind.
number_behind : (n v : ℕ) → across n false v ≡ false → Behind n v
number_behind n zero e = inl refl
number_behind n (suc m) e = inr (leb-false (suc m) n (sym (some_node n m) ∙ e))

pub behind_number : (n v : ℕ) → Behind n v → across n false v ≡ false
behind_number n v (inl e) = ap (λ (k : ℕ). leb 1 k && leb k n) e
behind_number n zero (inr h) = refl
behind_number n (suc m) (inr h) = some_node n m ∙ lt-leb (suc m) n h

-- ---- An index of none

or_none : (a b : ℕ) → or_else a b ≡ 0 → (a ≡ 0) × (b ≡ 0)
or_none zero b e = (refl, e)
or_none (suc a) b e = absurd (omega arith)

none_or : (a b : ℕ) → a ≡ 0 → b ≡ 0 → or_else a b ≡ 0
none_or zero b e f = f
none_or (suc a) b e f = absurd (omega arith)

passed : (t : Bool) (k rest : ℕ) → 1 ≤ k → cond t k rest ≡ 0 → (t ≡ false) × (rest ≡ 0)
passed true k rest h e = absurd (omega arith)
passed false k rest h e = (refl, e)

-- ---- Rows

abbrev pub Same : ℕ → Bool → Cord → Type 0
Same n before c = across n before c.node ≡ false

abbrev pub SameSide : ℕ → Bool → Server → Type 0
SameSide n before s = All (Same n before) s.cords

module _ (n : ℕ) where
  parents_none : (width k : ℕ) (l : List Node) → 1 ≤ k → parent_across n width k l ≡ 0 → All (λ (x : Node). Behind n x.parent) l
  unfolding All parent_across
  parents_none width k [] h e = tt
  parents_none width k (x ∷ l) h e =
      let p = passed (across n false x.parent) k _ h e in
      (number_behind n x.parent p.0, parents_none width (k + width) l (omega arith) p.1)

  none_parents : (width k : ℕ) (l : List Node) → All (λ (x : Node). Behind n x.parent) l → parent_across n width k l ≡ 0
  unfolding All parent_across
  none_parents width k [] f = refl
  none_parents width k (x ∷ l) f =
      ap (λ (t : Bool). cond t k (parent_across n width (k + width) l)) (behind_number n x.parent f.0) ∙ none_parents width (k + width) l f.1

  module _ (before : Bool) where
    cords_none : (k : ℕ) (l : List Cord) → 1 ≤ k → cord_across n before k l ≡ 0 → All (Same n before) l
    unfolding All cord_across
    cords_none k [] h e = tt
    cords_none k (c ∷ l) h e =
        let p = passed (across n before c.node) k _ h e in
        (p.0, cords_none (k + 2) l (omega arith) p.1)

    none_cords : (k : ℕ) (l : List Cord) → All (Same n before) l → cord_across n before k l ≡ 0
    unfolding All cord_across
    none_cords k [] f = refl
    none_cords k (c ∷ l) f = ap (λ (t : Bool). cond t k (cord_across n before (k + 2) l)) f.0 ∙ none_cords (k + 2) l f.1

    servers_none : (k : ℕ) (l : List Server) → 1 ≤ k → server_across n before k l ≡ 0 → All (SameSide n before) l
    unfolding All server_across
    servers_none k [] h e = tt
    servers_none k (s ∷ l) h e =
        let p = or_none (cord_across n before (k + 4) s.cords) _ e in
        (cords_none (k + 4) s.cords (omega arith) p.0, servers_none (k + length (words_of_server s)) l (omega arith) p.1)

    none_servers : (k : ℕ) (l : List Server) → All (SameSide n before) l → server_across n before k l ≡ 0
    unfolding All server_across
    none_servers k [] f = refl
    none_servers k (s ∷ l) f = none_or _ _ (none_cords (k + 4) s.cords f.0) (none_servers (k + length (words_of_server s)) l f.1)

-- ---- A room

module _ (version n s : ℕ) (r : Room) where
  pub none_crossing : All (λ (x : Node). Behind n x.parent) (drop n r.nodes) → All (SameSide n true) (take s r.servers) → All (SameSide n false) (drop s r.servers)
      → crossing version n s r ≡ 0
  unfolding crossing
  none_crossing nodes before behind =
      none_or _ _ (none_parents n _ _ (drop n r.nodes) nodes) (none_or _ _ (none_servers n true _ (take s r.servers) before) (none_servers n false _ (drop s r.servers) behind))

  module _ (within : s ≤ length r.servers) (none : crossing version n s r ≡ 0) where
    rows : (parent_across n (node_words (form_of version).percents) (nodes_behind version n) (drop n r.nodes) ≡ 0)
        × (server_across n true (servers_start version r) (take s r.servers) ≡ 0)
        × (server_across n false (servers_behind version s r) (drop s r.servers) ≡ 0)
    unfolding crossing
    rows =
        let a = or_none _ _ none in
        let b = or_none _ _ a.1 in
        (a.0, b.0, b.1)

    nodes_row : All (λ (x : Node). Behind n x.parent) (drop n r.nodes)
    nodes_row = parents_none n _ _ (drop n r.nodes) (omega arith) rows.0

    before_row : All (SameSide n true) (take s r.servers)
    before_row = servers_none n true _ (take s r.servers) (omega arith) rows.1

    behind_row : All (SameSide n false) (drop s r.servers)
    behind_row = servers_none n false _ (drop s r.servers) (omega arith) rows.2

    abbrev no_server : Server
    no_server = record { rank = 0; least = 0; greatest = 0; cords = [] }

    abbrev no_node : Node
    no_node = record { parent = 0; rating = 0; percent = 0 }

    -- By place: a node, and a server of either side.
    parent-at : (m : ℕ) → n ≤ m → m < length r.nodes → Behind n (parent_of r m)
    parent-at m h l = subst (λ (x : Node). Behind n x.parent)
        (get_or-drop n r.nodes (m - n) no_node ∙ ap (λ (k : ℕ). get_or r.nodes k no_node) (let q : n + (m - n) ≡ m = omega arith in q))
        (all_at (λ (x : Node). Behind n x.parent) (drop n r.nodes) nodes_row (m - n) no_node (omega (arith, length-drop n r.nodes)))

    before_at : (v : ℕ) → v < s → SameSide n true (server_at r v)
    before_at v h = subst (SameSide n true) (get_or-take s r.servers v no_server h)
        (all_at (SameSide n true) (take s r.servers) before_row v no_server (omega (arith, length-take-le s r.servers within)))

    behind_at : (v : ℕ) → s ≤ v → v < length r.servers → SameSide n false (server_at r v)
    behind_at v h l = subst (SameSide n false)
        (get_or-drop s r.servers (v - s) no_server ∙ ap (λ (k : ℕ). get_or r.servers k no_server) (let q : s + (v - s) ≡ v = omega arith in q))
        (all_at (SameSide n false) (drop s r.servers) behind_row (v - s) no_server (omega (arith, length-drop s r.servers)))

    -- A cord hangs on a node, so that one behind the cut hangs on one behind.
    pub uncrossed : ((v k : ℕ) → v < length r.servers → k < cord_count (server_at r v) → 1 ≤ (cord_of r v k).node) → Uncrossed n s r
    uncrossed hangs = record {
      parents = parent-at;
      before = λ v k h l. ltb-false n (cord_of r v k).node (all_at (Same n true) (server_at r v).cords (before_at v h) k _ l);
      behind = λ v k h here l. some_behind (cord_of r v k).node (hangs v k here l) (all_at (Same n false) (server_at r v).cords (behind_at v h here) k _ l);
    }
      where
        some_behind : (v : ℕ) → 1 ≤ v → across n false v ≡ false → n < v
        some_behind zero h e = absurd (omega arith)
        some_behind (suc m) h e = leb-false (suc m) n (sym (some_node n m) ∙ e)
