-- What hangs beneath a node, at any depth: sums over it are sums over the node's own cords and over its children.
use mathlib.Core.Path.{◌≡◌, refl, sym, ap, ap₂, ◌∙◌, subst}
use mathlib.Core.Bool.{Bool, true, false, ◌||◌}
use Prim.Native.Nat.{ℕ, zero, suc, ◌+◌, ◌*◌, ◌≤◌, ◌<◌}
use native.Mathlib.Nat.{le_trans, le-suc, zero-mul, one-mul, add-mul, not-suc-le-zero}
use native.Mathlib.Omega.{arith}
use lib.Dec.{eqb, eqb-zero-suc, eqb-suc-suc}
use borrow.Author.Tests.{eqb-true, ne_eqb}
use Rattle.figures.specs.Sums.{on, sum}
use Rattle.rooms.specs.Trees.{ParentsFirst, beneath, child_sum, sum_beneath}
use Rattle.figures.proofs.Sums.{on_comm, on_add, on_le, on_cong, on_mul, on_no, sum_cong, sum_le, sum_add, sum_mul, sum-on, sum_zero, sum_swap, sum_one}

-- ---- Sums over children

module _ (count : ℕ) (hangs : ℕ → ℕ) where
  pub child_sum_add : (n : ℕ) (g h : ℕ → ℕ) → child_sum count hangs n (λ m. g m + h m) ≡ child_sum count hangs n g + child_sum count hangs n h
  child_sum_add n g h =
      sum_cong count _ _ (λ m l. on_add (eqb (hangs m) (suc n)) (g m) (h m))
      ∙ sum_add count (λ m. on (eqb (hangs m) (suc n)) (g m)) (λ m. on (eqb (hangs m) (suc n)) (h m))

  pub child_sum_cong : (n : ℕ) (g h : ℕ → ℕ) → ((m : ℕ) → m < count → hangs m ≡ suc n → g m ≡ h m) → child_sum count hangs n g ≡ child_sum count hangs n h
  child_sum_cong n g h e =
      sum_cong count _ _ (λ m l. on_cong (eqb (hangs m) (suc n)) (g m) (h m) (λ t. e m l (eqb-true (hangs m) (suc n) t)))

  pub child_sum_le : (n : ℕ) (g h : ℕ → ℕ) → ((m : ℕ) → m < count → hangs m ≡ suc n → g m ≤ h m) → child_sum count hangs n g ≤ child_sum count hangs n h
  child_sum_le n g h e =
      sum_le count _ _ (λ m l. on_le (eqb (hangs m) (suc n)) (g m) (h m) (λ t. e m l (eqb-true (hangs m) (suc n) t)))

  on_zero : (t : Bool) → on t 0 ≡ 0
  on_zero true = refl
  on_zero false = refl

  -- Children that all have nothing.
  pub child_sum_none : (n : ℕ) (g : ℕ → ℕ) → ((m : ℕ) → m < count → hangs m ≡ suc n → g m ≡ 0) → child_sum count hangs n g ≡ 0
  child_sum_none n g z =
      child_sum_cong n g (λ m. 0) z ∙ sum_cong count _ _ (λ m l. on_zero (eqb (hangs m) (suc n))) ∙ sum_zero count

  child_sum_one : (n x : ℕ) → x < count → child_sum count hangs n (λ m. on (eqb x m) 1) ≡ on (eqb (hangs x) (suc n)) 1
  child_sum_one n x h =
      sum_cong count _ _ (λ m l. on_comm (eqb (hangs m) (suc n)) (eqb x m) 1)
      ∙ sum_one count x (λ m. on (eqb (hangs m) (suc n)) 1) h

-- ---- Induction from the last node to the first, and from the first to the last

module _ (count : ℕ) (q : ℕ → Type 0) (step : (n : ℕ) → n < count → ((m : ℕ) → m < count → n < m → q m) → q n) where
  down_from : (d n : ℕ) → count ≤ n + d → n < count → q n
  down_from zero n h l = absurd (omega arith)
  down_from (suc d) n h l = step n l (λ m lm nm. down_from d m (omega arith) lm)

  pub down : (n : ℕ) → n < count → q n
  down n l = down_from count n (omega arith) l

module _ (count : ℕ) (q : ℕ → Type 0) (step : (n : ℕ) → n < count → ((m : ℕ) → m < n → q m) → q n) where
  rise_to : (d n : ℕ) → n < d → n < count → q n
  rise_to zero n h l = absurd (not-suc-le-zero h)
  rise_to (suc d) n h l = step n l (λ m nm. rise_to d m (omega arith) (omega arith))

  pub rise : (n : ℕ) → n < count → q n
  rise n l = rise_to count n l l

-- ---- The way along the parents, counted

-- How often the climb from the number v meets the node at place n: the test `beneath` as a count, which adds up.
unfoldable meets : (ℕ → ℕ) → ℕ → ℕ → ℕ → ℕ
meets parent zero n v = 0
meets parent (suc k) n zero = 0
meets parent (suc k) n (suc x) = on (eqb x n) 1 + meets parent k n (parent x)

module _ (count : ℕ) (parent : ℕ → ℕ) (rises : ParentsFirst count parent) where
  -- A climb meets n at its foot, or by way of one child of n.
  meets_children : (k n v : ℕ) → v ≤ k → v ≤ count → meets parent k n v ≡ on (eqb v (suc n)) 1 + child_sum count parent n (λ m. meets parent k m v)
  unfolding meets
  meets_children zero n zero h g = omega (arith, on_no (eqb 0 (suc n)) 1 (eqb-zero-suc n), child_sum_none count parent n (λ m. 0) (λ m l e. refl))
  meets_children zero n (suc x) h g = absurd (not-suc-le-zero h)
  meets_children (suc k) n zero h g = omega (arith, on_no (eqb 0 (suc n)) 1 (eqb-zero-suc n), child_sum_none count parent n (λ m. 0) (λ m l e. refl))
  meets_children (suc k) n (suc x) h g =
      let p : parent x ≤ x = rises x g in
      let ih : meets parent k n (parent x) ≡ on (eqb (parent x) (suc n)) 1 + child_sum count parent n (λ m. meets parent k m (parent x))
      = meets_children k n (parent x) (omega arith) (omega arith) in
      let a : on (eqb (suc x) (suc n)) 1 ≡ on (eqb x n) 1 = ap (λ (t : Bool). on t 1) (eqb-suc-suc x n) in
      omega (arith, child_sum_add count parent n (λ m. on (eqb x m) 1) (λ m. meets parent k m (parent x)), child_sum_one count parent n x g)

  -- A climb from a number no greater than n's place never meets n.
  meets_none : (k n v : ℕ) → v ≤ count → v ≤ n → meets parent k n v ≡ 0
  unfolding meets
  meets_none zero n v g h = refl
  meets_none (suc k) n zero g h = refl
  meets_none (suc k) n (suc x) g h =
      let p : parent x ≤ x = rises x g in
      omega (arith, on_no (eqb x n) 1 (ne_eqb x n (λ e. omega arith)), meets_none k n (parent x) (omega arith) (omega arith))

  -- A climb meets a node once or not at all.
  beneath_meets : (k n v a : ℕ) → v ≤ count → on (beneath parent k n v) a ≡ meets parent k n v * a
  unfolding beneath meets
  beneath_meets zero n v a g = sym (zero-mul a)
  beneath_meets (suc k) n zero a g = sym (zero-mul a)
  beneath_meets (suc k) n (suc x) a g = go (beneath_meets k n (parent x) a (le_trans (rises x g) (le_trans (le-suc x) g))) (eqb x n) refl
    where
      p : parent x ≤ x
      p = rises x g

      go : on (beneath parent k n (parent x)) a ≡ meets parent k n (parent x) * a → (t : Bool) → eqb x n ≡ t
          → on (t || beneath parent k n (parent x)) a ≡ (on t 1 + meets parent k n (parent x)) * a
      go ih true e = omega (arith, ap (λ (z : ℕ). z * a) (meets_none k n (parent x) (omega (arith, p)) (omega (arith, p, eqb-true x n e))))
      go ih false e = ih ∙ omega arith

-- ---- Sums over what hangs beneath

pub sum_beneath_cong : (nodes : ℕ) (parent : ℕ → ℕ) (count : ℕ) (hangs : ℕ → ℕ) (n : ℕ) (f g : ℕ → ℕ) → ((c : ℕ) → c < count → f c ≡ g c)
    → sum_beneath nodes parent count hangs n f ≡ sum_beneath nodes parent count hangs n g
unfolding sum_beneath
sum_beneath_cong nodes parent count hangs n f g e = sum_cong count _ _ (λ c l. ap (λ (z : ℕ). on (beneath parent nodes n (hangs c)) z) (e c l))

module _ (nodes : ℕ) (parent : ℕ → ℕ) (rises : ParentsFirst nodes parent) (count : ℕ) (hangs : ℕ → ℕ) (here : (c : ℕ) → c < count → hangs c ≤ nodes) where
  -- What hangs beneath a node hangs on it, or beneath one of its children.
  pub sum_beneath_step : (n : ℕ) (figure : ℕ → ℕ)
      → sum_beneath nodes parent count hangs n figure
      ≡ child_sum count hangs n figure + child_sum nodes parent n (λ m. sum_beneath nodes parent count hangs m figure)
  unfolding sum_beneath
  sum_beneath_step n figure =
      sum_cong count _ _ at
      ∙ sum_add count (λ c. on (eqb (hangs c) (suc n)) (figure c)) (λ c. sum nodes (λ m. on (eqb (parent m) (suc n)) (on (beneath parent nodes m (hangs c)) (figure c))))
      ∙ ap (λ (x : ℕ). sum count (λ c. on (eqb (hangs c) (suc n)) (figure c)) + x)
      (sum_swap count nodes (λ c m. on (eqb (parent m) (suc n)) (on (beneath parent nodes m (hangs c)) (figure c)))
      ∙ sum_cong nodes _ _ (λ m l. sym (sum-on count (eqb (parent m) (suc n)) (λ c. on (beneath parent nodes m (hangs c)) (figure c)))))
    where
      at : (c : ℕ) → c < count
          → on (beneath parent nodes n (hangs c)) (figure c)
          ≡ on (eqb (hangs c) (suc n)) (figure c) + sum nodes (λ m. on (eqb (parent m) (suc n)) (on (beneath parent nodes m (hangs c)) (figure c)))
      at c l =
          beneath_meets nodes parent rises nodes n (hangs c) (figure c) (here c l)
          ∙ ap (λ (x : ℕ). x * figure c) (meets_children nodes parent rises nodes n (hangs c) (here c l) (here c l))
          ∙ add-mul (on (eqb (hangs c) (suc n)) 1) (child_sum nodes parent n (λ m. meets parent nodes m (hangs c))) (figure c)
          ∙ ap₂ ◌+◌
          (on_mul (eqb (hangs c) (suc n)) 1 (figure c) ∙ ap (λ (x : ℕ). on (eqb (hangs c) (suc n)) x) (one-mul (figure c)))
          (sum_mul nodes (λ m. on (eqb (parent m) (suc n)) (meets parent nodes m (hangs c))) (figure c)
          ∙ sum_cong nodes _ _ (λ m r.
          on_mul (eqb (parent m) (suc n)) (meets parent nodes m (hangs c)) (figure c)
          ∙ ap (λ (x : ℕ). on (eqb (parent m) (suc n)) x) (sym (beneath_meets nodes parent rises nodes m (hangs c) (figure c) (here c l)))))

  -- Whatever adds up like the sums beneath the nodes is these sums.
  pub sum_beneath_unique : (w g : ℕ → ℕ) → ((n : ℕ) → n < nodes → g n ≡ child_sum count hangs n w + child_sum nodes parent n g)
      → (n : ℕ) → n < nodes → g n ≡ sum_beneath nodes parent count hangs n w
  sum_beneath_unique w g e =
      down nodes (λ n. g n ≡ sum_beneath nodes parent count hangs n w) (λ n l ih.
      e n l
      ∙ ap (λ (z : ℕ). child_sum count hangs n w + z)
      (child_sum_cong nodes parent n g (λ m. sum_beneath nodes parent count hangs m w) (λ m lm q. ih m lm (subst (λ (z : ℕ). z ≤ m) q (rises m lm))))
      ∙ sym (sum_beneath_step n w))
