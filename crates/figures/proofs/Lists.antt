-- Laws of lists of figures, of their sums, and of sums of bounded figures.
use mathlib.Core.Path.{◌≡◌, refl, sym, ap, ◌∙◌, subst}
use mathlib.Core.List.{List, [], ◌∷◌, ◌++◌}
use mathlib.Core.Logic.{◌⊎◌, inl, inr, ⊎_elim}
use Prim.Native.Nat.{ℕ, zero, suc, ◌+◌, ◌*◌, ◌≤◌, ◌<◌}
use native.Mathlib.Nat.{le_refl, le_trans, le_of_eq, le-suc, zero-add, add-zero, add_assoc, not-suc-le-zero, le_of_suc-le-suc, eq-or-lt_of_le}
use native.Mathlib.Omega.{arith}
use lib.ListN.{length, get_or, take, drop, drop_of_length-le}
use lib.Seq.{drop-cons, length-take-le, get_or-take}
use Rattle.figures.specs.Figures.{total, figures_from, figures, at, sum_of}
use Rattle.figures.specs.Sums.{sum}
use Rattle.figures.proofs.Sums.{sum_cong, sum_up, sum_none, up}

-- ---- Figures at places

figures_from-at : (k j i : ℕ) (g : ℕ → ℕ) → i < k → at (figures_from k j g) i ≡ g (j + i)
unfolding figures_from
figures_from-at zero j i g h = absurd (not-suc-le-zero h)
figures_from-at (suc k) j zero g h = ap g (sym (add-zero j))
figures_from-at (suc k) j (suc i) g h = figures_from-at k (suc j) i g (le_of_suc-le-suc h) ∙ ap g (omega arith)

pub figures-at : (k i : ℕ) (g : ℕ → ℕ) → i < k → at (figures k g) i ≡ g i
figures-at k i g h = figures_from-at k 0 i g h ∙ ap g (zero-add i)

figures_from-length : (k j : ℕ) (g : ℕ → ℕ) → length (figures_from k j g) ≡ k
unfolding figures_from
figures_from-length zero j g = refl
figures_from-length (suc k) j g = ap suc (figures_from-length k (suc j) g)

pub figures-length : (k : ℕ) (g : ℕ → ℕ) → length (figures k g) ≡ k
figures-length k g = figures_from-length k 0 g

-- ---- From place to place

-- What holds at a place holds after it: from m up to n.
pub passed_up : (P : ℕ → Type 0) (m n : ℕ) → m ≤ n → ((h : ℕ) → m ≤ h → h < n → P h → P (h + 1)) → P m → P n
passed_up P m zero l step p = subst P (omega arith) p
passed_up P m (suc n) l step p =
    ⊎_elim (λ e. subst P e p)
    (λ less.
    let next : n + 1 ≡ suc n = omega arith in
    subst P next (step n (omega arith) (omega arith) (passed_up P m n (omega arith) (λ h a b. step h a (omega arith)) p)))
    (eq-or-lt_of_le l)

-- What holds after a place holds at it: from n down to m.
pub passed_down : (P : ℕ → Type 0) (m n : ℕ) → m ≤ n → ((h : ℕ) → m ≤ h → h < n → P (suc h) → P h) → P n → P m
passed_down P m zero l step p = subst P (omega arith) p
passed_down P m (suc n) l step p =
    ⊎_elim (λ e. subst P (sym e) p) (λ less. passed_down P m n (omega arith) (λ h a b. step h a (omega arith)) (step n (omega arith) (omega arith) p))
    (eq-or-lt_of_le l)

-- ---- The sum over a list

module _ {A : Type 0} where
  pub total-drop : (f : A → ℕ) (none : A) (l : List A) (k a : ℕ) → a + k ≡ length l → total f (drop a l) ≡ up k a (λ i. f (get_or l i none))
  unfolding total up
  total-drop f none l zero a e = ap (total f) (drop_of_length-le l {i = a} (omega arith))
  total-drop f none l (suc k) a e =
      ap (total f) (drop-cons l a none (omega arith)) ∙ ap (λ (z : ℕ). f (get_or l a none) + z) (total-drop f none l k (suc a) (omega arith))

  pub total-sum : (f : A → ℕ) (none : A) (l : List A) → total f l ≡ sum (length l) (λ i. f (get_or l i none))
  total-sum f none l =
      omega (
        arith,
        total-drop f none l (length l) 0 (zero-add (length l)),
        sum_up (length l) 0 (length l) (λ i. f (get_or l i none)) (zero-add (length l)),
        sum_none (λ i. f (get_or l i none)),
      )

  pub total-append : (f : A → ℕ) (l m : List A) → total f (l ++ m) ≡ total f l + total f m
  unfolding total
  total-append f [] m = sym (zero-add (total f m))
  total-append f (a ∷ l) m = ap (λ (z : ℕ). f a + z) (total-append f l m) ∙ sym (add_assoc (f a) (total f l) (total f m))

-- ---- Sums of bounded figures

pub sum_most : (k most : ℕ) (g : ℕ → ℕ) → ((i : ℕ) → i < k → g i ≤ most) → sum k g ≤ k * most
unfolding sum
sum_most zero most g h = omega arith
sum_most (suc k) most g h =
    let a : sum k g ≤ k * most = sum_most k most g (λ i l. h i (le_trans l (le-suc k))) in
    let b : g k ≤ most = h k (le_refl (suc k)) in
    omega arith

pub sum_one_le : (k i : ℕ) (g : ℕ → ℕ) → i < k → g i ≤ sum k g
unfolding sum
sum_one_le zero i g h = absurd (omega arith)
sum_one_le (suc k) i g h = go (eq-or-lt_of_le (le_of_suc-le-suc h)) (λ l. sum_one_le k i g l)
  where
    go : (i ≡ k) ⊎ (i < k) → (i < k → g i ≤ sum k g) → g i ≤ sum k g + g k
    go (inl e) ih = omega (arith, ap g e)
    go (inr l) ih = omega (arith, ih l)

pub sum_of-take : (l : List ℕ) (j : ℕ) → j ≤ length l → sum_of (take j l) ≡ sum j (at l)
sum_of-take l j h =
    total-sum (λ a. a) 0 (take j l)
    ∙ ap (λ (k : ℕ). sum k (at (take j l))) (length-take-le j l h)
    ∙ sum_cong j (at (take j l)) (at l) (λ i q. get_or-take j l i 0 q)

pub sum_of_most : (l : List ℕ) (most : ℕ) → ((i : ℕ) → i < length l → at l i ≤ most) → sum_of l ≤ length l * most
sum_of_most l most h = le_trans (le_of_eq (total-sum (λ a. a) 0 l)) (sum_most (length l) most (at l) h)
