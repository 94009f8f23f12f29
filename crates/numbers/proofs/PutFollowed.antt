-- `put_followed`: what it stores, in either branch, is the number once a byte at least follows it.
use mathlib.Core.Path.{◌≡◌, refl, sym}
use mathlib.Core.Bool.{Bool, true, false}
use mathlib.Core.List.{List, [], ◌∷◌}
use Prim.Native.Nat.{ℕ, suc, ◌+◌, ◌*◌, ◌/◌, ◌%◌, ◌≤◌, ◌<◌}
use native.Mathlib.Omega.{arith}
use native.Mathlib.Nat.{mod-eq_of_lt}
use native.Mathlib.Numerals.{add-one}
use lib.ListN.{length, set}
use lib.Seq.{sets, set-set}
use lib.Dec.{ltb}
use borrow.Author.Tests.{ltb-true, ltb-false}
use Rattle.figures.proofs.Stores.{sets-append}
use Rattle.numbers.specs.Number.{form}
use Rattle.numbers.specs.Followed.{Followed}
use Rattle.numbers.proofs.NumberLaws.{groups_last, groups_more}

module _ (value : ℕ) (sheet : List ℕ) (at : ℕ) where
  -- Exactly the form.
  pub long : (changed : List ℕ) (next : ℕ) → next ≡ at + length (form value) → changed ≡ sets sheet at (form value) → Followed value sheet at changed next
  long changed next n s rest h = rw (n, s) (sym (sets-append sheet at (form value) rest))

  -- The sheet with two bytes, and the place after the first, or after the second if there is another.
  abbrev two_bytes : ℕ → List ℕ
  two_bytes another = set (set sheet at (128 * another + value % 128)) (at + 1) (value / 128)

  abbrev Short : ℕ → Type 0
  Short another = (at + 1 + another ≡ at + length (form value)) × Followed value sheet at (two_bytes another) (at + 1 + another)

  -- The first byte of what follows is stored over the second.
  none : value < 128 → (another : ℕ) → another ≡ 0 → Short another
  none low another n = (rw (groups_last 3 value low, n) (omega arith), over)
    where
      over : Followed value sheet at (two_bytes another) (at + 1 + another)
      over [] h = absurd (omega arith)
      over (b ∷ rest) h =
          let first : 128 * another + value % 128 ≡ value = omega (arith, mod-eq_of_lt low) in
          let next : at + 1 + another ≡ suc at = omega arith in
          rw (groups_last 3 value low, first, next, add-one, set-set)

  one : 128 ≤ value → value < 16384 → (another : ℕ) → another ≡ 1 → Short another
  one big low another n =
      let last : value / 128 < 128 = omega arith in
      let first : 128 * another + value % 128 ≡ 128 + value % 128 = omega arith in
      let next : at + 1 + another ≡ suc (suc at) = omega arith in (
        rw (groups_more 3 value big, groups_last 2 (value / 128) last, next) (omega arith),
        λ rest h. rw (groups_more 3 value big, groups_last 2 (value / 128) last, first, next, add-one),
      )

  pub short : value < 16384 → Short ((value + 16256) / 16384)
  short low = go (ltb value 128) refl
    where
      go : (t : Bool) → ltb value 128 ≡ t → Short ((value + 16256) / 16384)
      go true e =
          let l = ltb-true value 128 e in
          none l ((value + 16256) / 16384) (omega arith)
      go false e =
          let l = ltb-false value 128 e in
          one l low ((value + 16256) / 16384) (omega arith)
