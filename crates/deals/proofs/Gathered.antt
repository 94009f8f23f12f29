-- What a rank's weights and Requests come to together, in terms of the rows of Requests.
use mathlib.Core.Path.{◌≡◌, sym, ap, ap₂, ◌∙◌}
use mathlib.Core.Bool.{Bool}
use mathlib.Core.List.{List}
use Prim.Native.Nat.{ℕ, suc, ◌+◌, ◌-◌, ◌<◌, min, max}
use native.Mathlib.Nat.{lt_trans}
use native.Mathlib.Omega.{arith}
use lib.Dec.{eqb}
use lib.ListN.{length}
use Rattle.figures.specs.Sums.{on}
use Rattle.figures.specs.Figures.{at, cell}
use Rattle.figures.proofs.Sums.{sum_cong}
use Rattle.splits.specs.Split.{part}
use Rattle.deals.specs.Passes.{weight_of, cut_mark, FullRows, Weighed, Requested, NodesDealt}
use Rattle.deals.proofs.Cuts.{ltb_cong}
use Rattle.rooms.specs.Trees.{child_sum}
use Rattle.rooms.specs.Credits.{tree_sum}

-- The weight of the node at place m in the split at its parent: its Request at this rank less the starts beneath it.
abbrev pub request_weight : List (List ℕ) → ℕ → (ℕ → ℕ) → ℕ → ℕ
request_weight rows level starts m = cell rows m level - starts m

-- From what is left of each limit, and the cords' starts and weights on each node.
pub record Gathered (parents : List ℕ) (level : ℕ) (left cuts starts weights : List ℕ) (rows : List (List ℕ)) (left' cuts' wholes : List ℕ) (rows' : List (List ℕ)) : Type 0 where
  pub children : (n : ℕ) → n < length parents → at wholes n ≡ at weights n + child_sum (length parents) (at parents) n (request_weight rows' level (tree_sum (at parents) (length parents) (at starts)))
  pub request : (n : ℕ) → n < length parents → cell rows' n level ≡ tree_sum (at parents) (length parents) (at starts) n + weight_of left wholes n
  pub others : (n j : ℕ) → (j ≡ level → ⊥) → cell rows' n j ≡ cell rows n j
  pub left_is : (n : ℕ) → n < length parents → at left' n ≡ at left n - at wholes n
  pub cuts_are : (n : ℕ) → n < length parents → at cuts' n ≡ cut_mark (at cuts n) level (at left n) (at wholes n)
  pub full : FullRows rows'

-- Sums over children of figures that are equal.
pub children_cong : (parents : List ℕ) (f g : ℕ → ℕ) (n m : ℕ) → ((h : ℕ) → h < m → f h ≡ g h) → child_sum m (at parents) n f ≡ child_sum m (at parents) n g
children_cong parents f g n m e = sum_cong m _ _ (λ h l. ap (on (eqb (at parents h) (suc n))) (e h l))

-- A node is cut where its weight is less than its children's.
cut-same : (mark level left whole : ℕ) → cut_mark mark level (min left whole) whole ≡ cut_mark mark level left whole
cut-same mark level left whole = ap (λ (t : Bool). max mark (on t (suc level))) (ltb_cong (min left whole) whole left whole (λ l. omega arith) (λ l. omega arith))

module _ {parents active : List ℕ} {count level : ℕ} {left own left' wholes weights cuts starts : List ℕ} {rows : List (List ℕ)} {cuts' starts' : List ℕ} {rows' : List (List ℕ)}
    (w : Weighed parents active count left own left' wholes weights) (r : Requested parents level left wholes cuts starts rows cuts' starts' rows') where
  weight_left : (n : ℕ) → n < length parents → request_weight rows' level (tree_sum (at parents) (length parents) (at starts)) n ≡ weight_of left wholes n
  weight_left n l = omega (arith, r.request n l)

  -- The weight by the rows is the one listed.
  pub weight_listed : (n : ℕ) → n < length parents → request_weight rows' level (tree_sum (at parents) (length parents) (at starts)) n ≡ weight_of weights wholes n
  weight_listed n l = weight_left n l ∙ sym (w.weights_are n l)

  pub gathered : Gathered parents level left cuts starts own rows left' cuts' wholes rows'
  gathered = record {
    children = λ n l. w.children n l ∙ ap (λ (x : ℕ). at own n + x) (children_cong parents _ _ n (length parents) (λ h g. sym (weight_left h g)));
    request = r.request;
    others = r.others;
    left_is = w.left_is;
    cuts_are = λ n l. r.cuts_are n l ∙ cut-same (at cuts n) level (at left n) (at wholes n);
    full = r.full;
  }

-- What is dealt by weights is dealt by equal ones.
pub dealt_again : {parents active : List ℕ} {count : ℕ} {f g : ℕ → ℕ} {wholes amounts before dealt : List ℕ} → ((h : ℕ) → h < length parents → f h ≡ g h)
    → NodesDealt parents active count f wholes amounts before dealt → NodesDealt parents active count g wholes amounts before dealt
dealt_again {parents} {f = f} {g = g} {wholes = wholes} {amounts = amounts} e nd = record {
  root = λ m l some top. nd.root m l some top ∙ e m l;
  inner = λ m n l some hangs. nd.inner m n l some hangs
      ∙ ap₂ (part (at amounts n) (at wholes n)) (children_cong parents f g n m (λ h k. e h (lt_trans k l))) (e m l);
  most = λ m l some. omega (arith, nd.most m l some, e m l);
  served = λ n l some. nd.served n l some ∙ children_cong parents f g n (length parents) e;
  dealt_is = nd.dealt_is;
}
