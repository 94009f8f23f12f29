-- The passes of headroom over lists: what the contracts of private functions of `headroom` cite. No other contract does.
use Rattle.std.specs.Prelude.{◌≡◌, List, ℕ, suc, ◌+◌, ◌*◌, ◌≤◌, ◌<◌, eqb, length}
use Rattle.figures.specs.Sums.{on, sum}
use Rattle.figures.specs.Figures.{at}
use Rattle.rooms.specs.Table.{most_nodes, most_cords, most_watts}
use Rattle.splits.specs.Split.{part}
use Rattle.deals.specs.Passes.{cord_weight, weight_of}
use Rattle.rooms.specs.Trees.{ParentsFirst, child_sum}

-- A list of all places, enough for the most cords and the most nodes: each entry is its own place.
pub record AllPlaces (list : List ℕ) : Type 0 where
  pub size : length list ≡ most_cords
  pub own : (i : ℕ) → i < most_cords → at list i ≡ i

-- The nodes by their parents' numbers, and for each cord its node's number, its want and its ceiling.
pub record LendLists (parents nodes wants ceilings : List ℕ) : Type 0 where
  pub few-nodes : length parents ≤ most_nodes
  pub few : length nodes ≤ most_cords
  pub wants_size : length wants ≡ length nodes
  pub ceilings_size : length ceilings ≡ length nodes
  pub rises : ParentsFirst (length parents) (at parents)
  pub hangs : (c : ℕ) → c < length nodes → 1 ≤ at nodes c
  pub within : (c : ℕ) → c < length nodes → at nodes c ≤ length parents
  pub wanted : (c : ℕ) → c < length nodes → at wants c ≤ at ceilings c
  pub most : (c : ℕ) → c < length nodes → at ceilings c ≤ most_watts

-- The weights of the cords on the node at place n that stand before place c. A cord's is its ceiling less its want.
abbrev pub cords_before : List ℕ → List ℕ → List ℕ → ℕ → ℕ → ℕ
cords_before nodes wants ceilings n c = sum c (λ h. on (eqb (at nodes h) (suc n)) (cord_weight wants ceilings h))

-- The weights of the nodes, as they are listed, and of each node's children, summed: enough for it, and within the bounds of what is dealt.
pub record LendWeights (parents nodes wants ceilings weights wholes : List ℕ) : Type 0 where
  pub whole : (n : ℕ) → n < length parents
      → at wholes n ≡ child_sum (length parents) (at parents) n (weight_of weights wholes) + cords_before nodes wants ceilings n (length nodes)
  pub enough : (n : ℕ) → n < length parents → at weights n ≤ at wholes n
  pub most : (n : ℕ) → n < length parents → weight_of weights wholes n ≤ most_watts
  pub wholes_most : (n : ℕ) → n < length parents → at wholes n ≤ most_cords * most_watts

-- The headroom is dealt by these weights, from what each node has to lend: a root all of its weight, any other its part of its parent's.
pub record DealtOut (parents nodes wants ceilings weights wholes headroom : List ℕ) : Type 0 where
  pub lends : ℕ → ℕ
  pub root : (m : ℕ) → m < length parents → at parents m ≡ 0 → lends m ≡ weight_of weights wholes m
  pub inner : (m n : ℕ) → m < length parents → at parents m ≡ suc n
      → lends m ≡ part (lends n) (at wholes n) (child_sum m (at parents) n (weight_of weights wholes)) (weight_of weights wholes m)
  pub leaf : (c n : ℕ) → c < length nodes → at nodes c ≡ suc n
      → at headroom c
      ≡ part (lends n) (at wholes n) (child_sum (length parents) (at parents) n (weight_of weights wholes) + cords_before nodes wants ceilings n c)
      (cord_weight wants ceilings c)
