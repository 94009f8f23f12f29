-- The search for the first place at which a test holds, from the first to the last.
use mathlib.Core.Path.{◌≡◌, refl, sym, ap, ◌∙◌}
use mathlib.Core.Bool.{Bool, true, false, cond}
use mathlib.Core.Logic.{◌⊎◌, inl, inr}
use Prim.Native.Nat.{ℕ, zero, suc, ◌+◌, ◌≤◌, ◌<◌, zero-le}
use native.Mathlib.Nat.{eq-or-lt_of_le}
use native.Mathlib.Omega.{arith}
use Rattle.std.specs.Prelude.{Option, None, Some, IfSome}
use Rattle.rooms.specs.Limits.{first_node}
use Rattle.rooms.proofs.Search.{NoneIn, FirstAt, first_node_first, none_first_node, first_first_node}
use Rattle.judge_totals.specs.Totals.{place_of}

-- It is the first of so many places at which the test holds; there is none.
abbrev pub IsFirst : (ℕ → Bool) → ℕ → Option ℕ → Type 0
IsFirst test count None = NoneIn test 0 count
IsFirst test count (Some place) = FirstAt test count 0 place

module _ (test : ℕ → Bool) (count : ℕ) where
  pub none_yet : NoneIn test 0 count → test count ≡ false → NoneIn test 0 (count + 1)
  none_yet h e m a b = let l : m ≤ count = omega arith in go (eq-or-lt_of_le l)
    where
      go : (m ≡ count) ⊎ (m < count) → test m ≡ false
      go (inl q) = ap test q ∙ e
      go (inr l) = h m a l

  pub first_here : NoneIn test 0 count → test count ≡ true → FirstAt test (count + 1) 0 count
  first_here h e = record { from = zero-le; within = omega arith; holds = e; before = h }

  pub first_stays : {place : ℕ} → FirstAt test count 0 place → FirstAt test (count + 1) 0 place
  first_stays f = record { from = f.from; within = omega (arith, f.within); holds = f.holds; before = f.before }

  pub is_first : (found : Option ℕ) → IsFirst test count found → found ≡ place_of (first_node count 0 test)
  is_first None h = sym (ap place_of (none_first_node count 0 test (λ m a b. h m a (omega arith))))
  is_first (Some place) f = sym (ap place_of (first_first_node count 0 test place f))

-- A place that is found is one of those searched.
pub place_within : (test : ℕ → Bool) (count : ℕ) (found : Option ℕ) → found ≡ place_of (first_node count 0 test) → IfSome found (λ place. place < count)
place_within test count None e = tt
place_within test count (Some place) e = go (first_node count 0 test) refl e
  where
    go : (number : ℕ) → first_node count 0 test ≡ number → Some place ≡ place_of number → place < count
    go zero is e = absurd (cc)
    go (suc m) is e = let same : m ≡ place = cc in omega (arith, (first_node_first count 0 test m is).within)

-- The place of a number that is found or was found before.
pub place_found : (t : Bool) (place number : ℕ) → place_of (cond t (suc place) number) ≡ cond t (Some place) (place_of number)
place_found true place number = refl
place_found false place number = refl
