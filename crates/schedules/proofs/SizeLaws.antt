-- Laws of the ampere sizes: each is shown once over the whole table, by a test that is computed.
use mathlib.Core.Path.{◌≡◌, refl, sym, ◌∙◌}
use mathlib.Core.Bool.{Bool, true, false, ◌&&◌, ◌||◌}
use mathlib.Core.List.{List, [], ◌∷◌}
use Prim.Native.Nat.{ℕ, zero, suc, ◌+◌, ◌≤◌, ◌<◌}
use native.Mathlib.Omega.{arith}
use native.Mathlib.Numerals.{add-one}
use lib.Dec.{eqb, leb, ltb}
use lib.ListN.{length, get_or, drop, drop_of_length-le}
use lib.Seq.{drop-cons}
use borrow.Author.Tests.{ltb-true, leb-true, eqb-true, ne_eqb}
use Rattle.schedules.specs.Sizes.{sizes, is_in, is_size}

-- ---- Tests over a list

pub and_left : (a b : Bool) → a && b ≡ true → a ≡ true
and_left true b e = refl
and_left false b e = e

pub and_right : (a b : Bool) → a && b ≡ true → b ≡ true
and_right true b e = e
and_right false b e = absurd (let z : ◌≡◌ {A = ℕ} 0 1 = cc in omega arith)

-- Whether each number of a list is above a number, and no number before it is as large.
unfoldable pub rises_from : ℕ → List ℕ → Bool
rises_from n [] = true
rises_from n (m ∷ rest) = ltb n m && rises_from m rest

-- Whether no number of a list is above a bound.
unfoldable pub none_above : ℕ → List ℕ → Bool
none_above bound [] = true
none_above bound (m ∷ rest) = leb m bound && none_above bound rest

-- What a rising list has above a number, it has at each of its places.
pub rises_from_at : (n : ℕ) (l : List ℕ) → rises_from n l ≡ true → (i : ℕ) → i < length l → n < get_or l i 0
unfolding rises_from
rises_from_at n [] t i h = absurd (omega arith)
rises_from_at n (m ∷ rest) t zero h = ltb-true n m (and_left _ _ t)
rises_from_at n (m ∷ rest) t (suc i) h =
    omega (arith, ltb-true n m (and_left _ _ t), rises_from_at m rest (and_right (ltb n m) _ t) i (omega arith))

pub rises : (n : ℕ) (l : List ℕ) → rises_from n l ≡ true → (i j : ℕ) → i < j → j < length l → get_or l i 0 < get_or l j 0
unfolding rises_from
rises n [] t i j h k = absurd (omega arith)
rises n (m ∷ rest) t i zero h k = absurd (omega arith)
rises n (m ∷ rest) t zero (suc j) h k = rises_from_at m rest (and_right (ltb n m) _ t) j (omega arith)
rises n (m ∷ rest) t (suc i) (suc j) h k = rises m rest (and_right (ltb n m) _ t) i j (omega arith) (omega arith)

-- A number that is not above the one from which a list rises is not in the list.
not_in : (a n : ℕ) (l : List ℕ) → rises_from n l ≡ true → a ≤ n → is_in a l ≡ false
unfolding rises_from is_in
not_in a n [] t h = refl
not_in a n (m ∷ rest) t h =
    let above = ltb-true n m (and_left _ _ t) in
    rw (ne_eqb a m (λ e. omega arith), not_in a m rest (and_right (ltb n m) _ t) (omega arith))

-- Whatever part of a rising list comes last rises too.
drop_rises : (n : ℕ) (l : List ℕ) → rises_from n l ≡ true → (i : ℕ) → i < length l → rises_from (get_or l i 0) (drop (suc i) l) ≡ true
unfolding rises_from
drop_rises n [] t i h = absurd (omega arith)
drop_rises n (m ∷ rest) t zero h = and_right (ltb n m) _ t
drop_rises n (m ∷ rest) t (suc i) h = drop_rises m rest (and_right (ltb n m) _ t) i (omega arith)

in_below : (bound a : ℕ) (l : List ℕ) → none_above bound l ≡ true → is_in a l ≡ true → a ≤ bound
unfolding none_above is_in
in_below bound a [] t e = absurd (let z : ◌≡◌ {A = ℕ} 0 1 = cc in omega arith)
in_below bound a (m ∷ rest) t e = go (eqb a m) refl e (in_below bound a rest (and_right (leb m bound) _ t))
  where
    go : (test : Bool) → eqb a m ≡ test → test || is_in a rest ≡ true → (is_in a rest ≡ true → a ≤ bound) → a ≤ bound
    go true q e further = omega (arith, eqb-true a m q, leb-true m bound (and_left _ _ t))
    go false q e further = further e

-- ---- The sizes

-- The sizes rise.
pub sizes_rise : rises_from 0 sizes ≡ true
unfolding rises_from sizes
sizes_rise = refl

-- No size is above 6,000.
pub size_most : (a : ℕ) → is_size a ≡ true → a ≤ 6000
unfolding is_size none_above sizes
size_most a e = in_below 6000 a sizes refl e

-- ---- The search: the sizes from a place on decide

pub record Searching (amperes i : ℕ) : Type 0 where
  pub within : i ≤ length sizes
  pub same : is_in amperes (drop i sizes) ≡ is_size amperes

pub begin : (amperes : ℕ) → Searching amperes 0
unfolding is_size
begin amperes = record { within = omega arith; same = refl }

module _ (amperes i : ℕ) (inv : Searching amperes i) where
  module _ (h : i < length sizes) where
    -- A size below the amperes is passed.
    pub again : get_or sizes i 0 < amperes → Searching amperes (i + 1)
    unfolding is_in
    again low =
        let s = rw (drop-cons sizes i 0 h, ne_eqb amperes (get_or sizes i 0) (λ e. omega arith)) at inv.same in
        rw add-one (record { within = h; same = s })

    -- The first that is not below them decides.
    pub stop : amperes ≤ get_or sizes i 0 → eqb amperes (get_or sizes i 0) ≡ is_size amperes
    unfolding is_in
    stop high =
        let s = rw (drop-cons sizes i 0 h, not_in amperes (get_or sizes i 0) (drop (suc i) sizes) (drop_rises 0 sizes sizes_rise i h) high) at inv.same in
        sym (or_false (eqb amperes (get_or sizes i 0))) ∙ s
      where
        or_false : (t : Bool) → t || false ≡ t
        or_false true = refl
        or_false false = refl

  pub end : length sizes ≤ i → false ≡ is_size amperes
  unfolding is_in
  end h = rw (drop_of_length-le sizes h) at inv.same
