-- The levels at which a node is cut, from the highest down, and the mark that the passes keep of them: the highest rank at which it is cut.
use mathlib.Core.Path.{◌≡◌, refl, sym, ap, ap₂, ◌∙◌, subst}
use mathlib.Core.Bool.{Bool, true, false, ◌||◌}
use mathlib.Core.Logic.{⊎_elim}
use Prim.Native.Nat.{ℕ, suc, ◌-◌, ◌≤◌, ◌<◌, max}
use native.Mathlib.Nat.{eq-or-lt_of_le, le_refl}
use native.Mathlib.Omega.{arith}
use lib.Dec.{ltb}
use borrow.Author.Tests.{ltb-true, ltb-false, lt-ltb, le-ltb}
use Rattle.figures.specs.Sums.{on}
use Rattle.deals.specs.Metrics.{Deal, Metrics, metrics}
use Rattle.deals.specs.Held.{cut_at, some_from, cut_from}
use Rattle.deals.specs.Passes.{cut_mark}

-- ---- One level after another

module _ (d : Deal) (f : Metrics) (n : ℕ) where
  -- No level is above the highest.
  cut_from_none : cut_from d f d.levels n ≡ false
  unfolding cut_from some_from
  cut_from_none = ap (λ (k : ℕ). some_from k d.levels (cut_at d f n)) (let e : d.levels - d.levels ≡ 0 = omega arith in e)

  -- A node is cut from a level on if it is cut there or from the next on.
  cut_from_next : (j : ℕ) → j < d.levels → cut_from d f j n ≡ cut_at d f n j || cut_from d f (suc j) n
  unfolding cut_from some_from
  cut_from_next j h = ap (λ (k : ℕ). some_from k j (cut_at d f n)) (let e : d.levels - j ≡ suc (d.levels - suc j) = omega arith in e)

-- ---- The mark

-- Tests of order that hold together are equal.
pub ltb_cong : (a b c e : ℕ) → (a < b → c < e) → (c < e → a < b) → ltb a b ≡ ltb c e
ltb_cong a b c e to from = go (ltb a b) refl (ltb c e) refl
  where
    go : (t : Bool) → ltb a b ≡ t → (s : Bool) → ltb c e ≡ s → ltb a b ≡ ltb c e
    go true p s q = p ∙ sym (lt-ltb c e (to (ltb-true a b p)))
    go false p true q = absurd (omega (arith, from (ltb-true c e q), ltb-false a b p))
    go false p false q = p ∙ sym q

-- The mark of the levels above j, with j's own.
mark-here : (mark j : ℕ) (t : Bool) → (0 < mark → suc j < mark) → t || ltb (suc j) mark ≡ ltb j (max mark (on t (suc j)))
mark-here mark j true above = sym (lt-ltb j (max mark (suc j)) (omega arith))
mark-here mark j false above = ltb_cong (suc j) mark j (max mark 0) (λ h. omega arith) (λ h. above (omega arith))

-- It still tells of the levels above j.
mark_higher : (mark j : ℕ) (t : Bool) (i : ℕ) → j < i → ltb i mark ≡ ltb i (max mark (on t (suc j)))
mark_higher mark j true i h = ltb_cong i mark i (max mark (suc j)) (λ l. omega arith) (λ l. omega arith)
mark_higher mark j false i h = ltb_cong i mark i (max mark 0) (λ l. omega arith) (λ l. omega arith)

-- It is no rank below j's.
mark-above : (mark j : ℕ) (t : Bool) → (0 < mark → suc j < mark) → 0 < max mark (on t (suc j)) → j < max mark (on t (suc j))
mark-above mark j true above h = omega arith
mark-above mark j false above h = omega (arith, above (omega arith))

-- The mark of the node at place n tells of the levels from `above` on: it is the highest rank of these at which the node is cut, 0 if there
-- is none. (A rank is its level + 1.)
pub record Marked (d : Deal) (above n mark : ℕ) : Type 0 where
  pub higher : 0 < mark → above < mark
  pub cut_is : (j : ℕ) → above ≤ j → j ≤ d.levels → cut_from d (metrics d) j n ≡ ltb j mark

module _ (d : Deal) (n : ℕ) where
  -- Before the highest level.
  pub marked_start : Marked d d.levels n 0
  marked_start = record {
    higher = λ h. absurd (omega arith);
    cut_is = λ j a b.
        let e : j ≡ d.levels = omega arith in
        ap (λ (k : ℕ). cut_from d (metrics d) k n) e ∙ cut_from_none d (metrics d) n ∙ sym (le-ltb j 0 (omega arith));
  }

  module _ (j : ℕ) (fits : j < d.levels) {mark : ℕ} (before : Marked d (suc j) n mark) where
    -- A level where the node is cut exactly if what is left is less than the whole.
    pub marked_turn : (left whole : ℕ) → cut_at d (metrics d) n j ≡ ltb left whole → {mark' : ℕ} → mark' ≡ cut_mark mark j left whole → Marked d j n mark'
    marked_turn left whole here e = rw e
        (record {
          higher = mark-above mark j (ltb left whole) before.higher;
          cut_is = λ i a b.
              ⊎_elim
              (λ q. subst (λ (k : ℕ). cut_from d (metrics d) k n ≡ ltb k (cut_mark mark j left whole)) q own)
              (λ l. before.cut_is i l b ∙ mark_higher mark j (ltb left whole) i l)
              (eq-or-lt_of_le a);
        })
      where
        own : cut_from d (metrics d) j n ≡ ltb j (cut_mark mark j left whole)
        own =
            cut_from_next d (metrics d) n j fits
            ∙ ap₂ ◌||◌ here (before.cut_is (suc j) (le_refl (suc j)) fits)
            ∙ mark-here mark j (ltb left whole) before.higher

    -- A level where it is not.
    pub marked_skip : cut_at d (metrics d) n j ≡ false → Marked d j n mark
    marked_skip e = marked_turn 0 0 (e ∙ sym (le-ltb 0 0 (le_refl 0))) (omega arith)
