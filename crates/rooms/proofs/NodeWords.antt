-- Where the words of a node stand, by whether it has a word for its percent.
use mathlib.Core.Path.{◌≡◌, refl, ap, ◌∙◌}
use mathlib.Core.Logic.{◌⊎◌, inl, inr, ⊎_elim}
use mathlib.Core.Bool.{Bool, true, false, cond, ◌||◌}
use mathlib.Core.List.{List}
use Prim.Native.Nat.{ℕ, suc, ◌+◌, ◌≤◌, ◌<◌}
use native.Mathlib.Nat.{mul-suc, mul-le-mul_left}
use native.Mathlib.Omega.{arith}
use lib.ListN.{length, get_or}
use lib.Dec.{eqb}
use borrow.Author.Tests.{eq-eqb, ne_eqb, eqb-true}
use Rattle.rooms.specs.Table.{node_words}
use Rattle.rooms.specs.Limits.{limit}
use Rattle.rooms.specs.Words.{PercentFits}
use Rattle.rooms.specs.Credits.{node_from, node_index, NodesRead, parent_at, limit_at}

-- ---- One node

-- The words of a node after its first two are those of its percent.
pub percent_words : (percents : Bool) (i : ℕ) → suc (suc i) + cond percents 1 0 ≡ i + node_words percents
percent_words true i = omega arith
percent_words false i = omega arith

pub words_two : (percents : Bool) → 2 ≤ node_words percents
words_two true = omega arith
words_two false = omega arith

-- A percent is 80 or 100.
pub is_either : (v : ℕ) → ((v ≡ 80 → ⊥) × (v ≡ 100)) ⊎ (v ≡ 80) → eqb v 80 || eqb v 100 ≡ true
is_either v (inl e) = rw (ne_eqb v 80 e.0, eq-eqb v 100 e.1)
is_either v (inr e) = rw (eq-eqb v 80 e)

pub is_neither : (v : ℕ) → (v ≡ 80 → ⊥) → (v ≡ 100 → ⊥) → eqb v 80 || eqb v 100 ≡ false
is_neither v n m = rw (ne_eqb v 80 n, ne_eqb v 100 m)

pub percent_is : (p : ℕ) → eqb p 80 || eqb p 100 ≡ true → (p ≡ 80) ⊎ (p ≡ 100)
percent_is p e = go (eqb p 80) refl e
  where
    go : (t : Bool) → eqb p 80 ≡ t → t || eqb p 100 ≡ true → (p ≡ 80) ⊎ (p ≡ 100)
    go true d e = inl (eqb-true p 80 d)
    go false d e = inr (eqb-true p 100 e)

pub percent_in : (p : ℕ) → eqb p 80 || eqb p 100 ≡ true → (80 ≤ p) × (p ≤ 100)
percent_in p e = ⊎_elim (λ (d : p ≡ 80). (omega arith, omega arith)) (λ (d : p ≡ 100). (omega arith, omega arith)) (percent_is p e)

pub percent-to : (percents : Bool) (p : ℕ) → PercentFits percents p → p ≤ 100
percent-to true p f = (percent_in p f).1
percent-to false p f = omega (arith, eqb-true p 80 f)

-- ---- The node at a place

module _ (percents : Bool) (w : List ℕ) {i : ℕ} (m : ℕ) (here : i ≡ node_index percents m) where
  pub node_fits : {count : ℕ} → NodesRead percents w count → m < count → (i + node_words percents ≤ length w) × ((node_from percents w i).percent ≤ 100)
  node_fits {count} read h = (
    omega (arith, here, read.there, mul-suc (node_words percents) m, mul-le-mul_left (node_words percents) h),
    rw here (read.part m h),
  )

  pub parent_here : {x : ℕ} → x ≡ get_or w i 0 → x ≡ parent_at percents w m
  parent_here e = e ∙ ap (λ (k : ℕ). get_or w k 0) here

  pub limit-here : {x : ℕ} → x ≡ limit (node_from percents w i) → x ≡ limit_at percents w m
  limit-here e = e ∙ ap (λ (k : ℕ). limit (node_from percents w k)) here
