-- Laws of figures credited to nodes: each credit counts once at its node's place, and once in the sum of all figures.
use mathlib.Core.Path.{◌≡◌, refl, sym, ap, ◌∙◌}
use mathlib.Core.Bool.{Bool, true, false}
use mathlib.Core.List.{List}
use Prim.Native.Nat.{ℕ, zero, suc, ◌+◌, ◌-◌, ◌≤◌, ◌<◌}
use native.Mathlib.Nat.{le_of_eq}
use native.Mathlib.Omega.{arith}
use lib.ListN.{length, get_or, set, replicate, length-set, length-replicate}
use lib.Seq.{get_or-set_same, get_or-set_other}
use lib.Dec.{eqb, eqb-zero-suc, eqb-suc-suc}
use borrow.Author.Tests.{eqb-true, eqb-false}
use Rattle.figures.specs.Sums.{on, sum}
use Rattle.figures.specs.Figures.{at}
use Rattle.figures.specs.Credits.{credited}
use Rattle.figures.proofs.Sums.{on_yes, on_no, sum_cong, sum_add, sum_le, sum_one, sum_zero}
use Rattle.figures.proofs.Filled.{zeros-at}

pub on_most : (t : Bool) (a : ℕ) → on t a ≤ a
on_most true a = omega arith
on_most false a = omega arith

pub credited_none : (node figure : ℕ) (l : List ℕ) → node ≡ 0 → l ≡ credited node figure l
unfolding credited
credited_none zero figure l e = refl
credited_none (suc m) figure l e = absurd (omega arith)

pub credited_some : (node figure : ℕ) (l : List ℕ) → (node ≡ 0 → ⊥) → set l (node - 1) (get_or l (node - 1) 0 + figure) ≡ credited node figure l
unfolding credited
credited_some zero figure l e = absurd (e refl)
credited_some (suc m) figure l e = let q : suc m - 1 ≡ m = omega arith in rw q

pub credited-length : (node figure : ℕ) (l : List ℕ) → length (credited node figure l) ≡ length l
unfolding credited
credited-length zero figure l = refl
credited-length (suc m) figure l = length-set l m (get_or l m 0 + figure)

pub credited-at : (node figure : ℕ) (l : List ℕ) (i : ℕ) → node ≤ length l → get_or (credited node figure l) i 0 ≡ get_or l i 0 + on (eqb node (suc i)) figure
unfolding credited
credited-at zero figure l i h = omega (arith, on_no (eqb 0 (suc i)) figure (eqb-zero-suc i))
credited-at (suc m) figure l i h = go (eqb m i) refl
  where
    go : (t : Bool) → eqb m i ≡ t → get_or (set l m (get_or l m 0 + figure)) i 0 ≡ get_or l i 0 + on (eqb (suc m) (suc i)) figure
    go true e =
        let q : m ≡ i = eqb-true m i e in
        let o = on_yes (eqb (suc m) (suc i)) figure (eqb-suc-suc m i ∙ e) in
        omega (
          arith,
          get_or-set_same l m (get_or l m 0 + figure) 0 (omega arith),
          ap (λ (x : ℕ). get_or (set l m (get_or l m 0 + figure)) x 0) q,
          ap (λ (x : ℕ). get_or l x 0) q,
        )
    go false e =
        let o = on_no (eqb (suc m) (suc i)) figure (eqb-suc-suc m i ∙ e) in
        omega (arith, get_or-set_other l m i (get_or l m 0 + figure) 0 (λ q. eqb-false m i e (sym q)))

-- A place past the node is left as it is.
pub credited_past : (node figure : ℕ) (l : List ℕ) (i : ℕ) → node ≤ i → get_or (credited node figure l) i 0 ≡ get_or l i 0
unfolding credited
credited_past zero figure l i h = refl
credited_past (suc m) figure l i h = get_or-set_other l m i (get_or l m 0 + figure) 0 (λ e. omega arith)

-- The same with the node by its place.
pub placed : (m figure : ℕ) (l : List ℕ) (i : ℕ) → m < length l → get_or (credited (suc m) figure l) i 0 ≡ get_or l i 0 + on (eqb m i) figure
placed m figure l i h = credited-at (suc m) figure l i h ∙ ap (λ (t : Bool). get_or l i 0 + on t figure) (eqb-suc-suc m i)

pub figure_in_sum : (count i : ℕ) (l : List ℕ) → i < count → get_or l i 0 ≤ sum count (at l)
figure_in_sum count i l h =
    omega (
      arith,
      sum_one count i (at l) h,
      sum_le count (λ m. on (eqb i m) (at l m)) (at l) (λ m r. on_most (eqb i m) (at l m)),
    )

pub all_zeros : (n : ℕ) (l : List ℕ) → l ≡ replicate n 0 → (n ≤ length l) × ((i : ℕ) → get_or l i 0 ≡ 0)
all_zeros n l e = rw e (le_of_eq (sym (length-replicate {A = ℕ} n 0)), zeros-at n)

pub sum_zeros : (count : ℕ) (l : List ℕ) → ((i : ℕ) → get_or l i 0 ≡ 0) → sum count (at l) ≡ 0
sum_zeros count l z = sum_cong count (at l) (λ i. 0) (λ i g. z i) ∙ sum_zero count

pub sum-credited : (count node figure : ℕ) (l : List ℕ) → 1 ≤ node → node ≤ count → count ≤ length l
    → sum count (at (credited node figure l)) ≡ sum count (at l) + figure
sum-credited count zero figure l one h k = absurd (omega arith)
sum-credited count (suc m) figure l one h k =
    sum_cong count _ _ (λ i r. placed m figure l i (omega arith))
    ∙ sum_add count (at l) (λ i. on (eqb m i) figure)
    ∙ ap (λ (x : ℕ). sum count (at l) + x) (sum_one count m (λ i. figure) h)
