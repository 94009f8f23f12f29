-- Laws of the search for the first node of which a test holds.
use mathlib.Core.Path.{◌≡◌, refl, sym, ap, ◌∙◌}
use mathlib.Core.Bool.{Bool, true, false, cond}
use mathlib.Core.Logic.{◌⊎◌, inl, inr}
use Prim.Native.Nat.{ℕ, zero, suc, ◌+◌, ◌≤◌, ◌<◌}
use native.Mathlib.Omega.{arith}
use native.Mathlib.Nat.{eq-or-lt_of_le, suc-ne-zero}
use lib.Dec.{ltb}
use borrow.Author.Tests.{ltb-true, ltb-false}
use Rattle.rooms.specs.Limits.{first_node}

pub first_node_cong : (count n : ℕ) (s t : ℕ → Bool) → ((m : ℕ) → m < n + count → s m ≡ t m) → first_node count n s ≡ first_node count n t
unfolding first_node
first_node_cong zero n s t e = refl
first_node_cong (suc count) n s t e = rw (e n (omega arith), first_node_cong count (suc n) s t (λ m h. e m (omega arith)))

-- The test fails at every place from n up to another.
abbrev pub NoneIn : (ℕ → Bool) → ℕ → ℕ → Type 0
NoneIn test n end = (m : ℕ) → n ≤ m → m < end → test m ≡ false

-- The first place from n on, of so many, at which the test holds.
pub record FirstAt (test : ℕ → Bool) (count n place : ℕ) : Type 0 where
  pub from : n ≤ place
  pub within : place < n + count
  pub holds : test place ≡ true
  pub before : NoneIn test n place

-- What a search gives: the number of the first place, or 0 if there is none.
data Found (test : ℕ → Bool) (count n : ℕ) : ℕ → Type 0 where
  none : NoneIn test n (n + count) → Found test count n 0
  some : (place : ℕ) → FirstAt test count n place → Found test count n (suc place)

search_finds : (count n : ℕ) (test : ℕ → Bool) → Found test count n (first_node count n test)
unfolding first_node
search_finds zero n test = none (λ m a b. absurd (omega arith))
search_finds (suc count) n test = go (test n) refl (first_node count (suc n) test) (search_finds count (suc n) test)
  where
    earlier : (end : ℕ) → test n ≡ false → NoneIn test (suc n) end → NoneIn test n end
    earlier end e h m a b = at (eq-or-lt_of_le a)
      where
        at : (n ≡ m) ⊎ (n < m) → test m ≡ false
        at (inl q) = ap test (sym q) ∙ e
        at (inr l) = h m l b

    go : (t : Bool) → test n ≡ t → (found : ℕ) → Found test count (suc n) found → Found test (suc count) n (cond t (suc n) found)
    go true e found h = some n (record { from = omega arith; within = omega arith; holds = e; before = λ m a b. absurd (omega arith) })
    go false e found (none h) = none (λ m a b. earlier (suc n + count) e h m a (omega arith))
    go false e found (some place f) =
        some place (record { from = omega (arith, f.from); within = omega (arith, f.within); holds = f.holds; before = earlier place e f.before })

clash : (t : Bool) → t ≡ true → t ≡ false → ⊥
clash t p q = suc-ne-zero 0 (cc)

module _ (count n : ℕ) (test : ℕ → Bool) where
  pub first_node_none : first_node count n test ≡ 0 → NoneIn test n (n + count)
  first_node_none e = go (first_node count n test) (search_finds count n test) e
    where
      go : (found : ℕ) → Found test count n found → found ≡ 0 → NoneIn test n (n + count)
      go found (none h) e = h
      go found (some place f) e = absurd (omega arith)

  pub none_first_node : NoneIn test n (n + count) → first_node count n test ≡ 0
  none_first_node h = go (first_node count n test) (search_finds count n test)
    where
      go : (found : ℕ) → Found test count n found → found ≡ 0
      go found (none _) = refl
      go found (some place f) = absurd (clash (test place) f.holds (h place f.from f.within))

  pub first_node_first : (place : ℕ) → first_node count n test ≡ suc place → FirstAt test count n place
  first_node_first place e = go (first_node count n test) (search_finds count n test) e
    where
      go : (found : ℕ) → Found test count n found → found ≡ suc place → FirstAt test count n place
      go found (none h) e = absurd (omega arith)
      go found (some p f) e = let q : p ≡ place = omega arith in rw q at f

  first_least : (p q : ℕ) → FirstAt test count n p → FirstAt test count n q → p ≤ q
  first_least p q f g = go (ltb q p) refl
    where
      go : (t : Bool) → ltb q p ≡ t → p ≤ q
      go true e = absurd (clash (test q) g.holds (f.before q g.from (ltb-true q p e)))
      go false e = ltb-false q p e

  pub first_first_node : (place : ℕ) → FirstAt test count n place → first_node count n test ≡ suc place
  first_first_node place g = go (first_node count n test) (search_finds count n test)
    where
      go : (found : ℕ) → Found test count n found → found ≡ suc place
      go found (none h) = absurd (clash (test place) g.holds (h place g.from g.within))
      go found (some p f) = omega (arith, first_least p place f g, first_least place p g f)
