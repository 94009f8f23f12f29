-- The loop of `put`: what is left to write, from place `next` on, are the groups of `rest`.
use mathlib.Core.Path.{◌≡◌, refl}
use mathlib.Core.Bool.{Bool, true, false, cond}
use mathlib.Core.List.{List, [], ◌∷◌}
use Prim.Native.Nat.{ℕ, zero, suc, ◌+◌, ◌/◌, ◌%◌, ◌^◌, ◌≤◌, ◌<◌}
use native.Mathlib.Omega.{arith}
use native.Mathlib.Nat.{pow-suc, div-lt_iff_lt-mul}
use native.Mathlib.Numerals.{add-one}
use lib.ListN.{length, set, length-set}
use lib.Seq.{sets}
use lib.Dec.{ltb}
use borrow.Author.Tests.{lt-ltb, le-ltb}
use Rattle.numbers.specs.Number.{groups, form}

pub record Inv (value : ℕ) (sheet₀ : List ℕ) (at : ℕ) (sheet : List ℕ) (rest next : ℕ) : Type 0 where
  pub left : ℕ
  pub bound : rest < 128 ^ suc left
  pub end : next + length (groups (suc left) rest) ≡ at + length (form value)
  pub fits : at + length (form value) ≤ length sheet₀
  pub size : length sheet ≡ length sheet₀
  pub same : sets sheet next (groups (suc left) rest) ≡ sets sheet₀ at (form value)

pub begin : (value : ℕ) (sheet : List ℕ) (at : ℕ) → value < 2 ^ 28 → at + length (form value) ≤ length sheet
    → Inv value sheet at sheet value at
begin value sheet at h f = record { left = 3; bound = h; end = refl; fits = f; size = refl; same = refl }

module _ (value : ℕ) (sheet₀ : List ℕ) (at : ℕ) (sheet : List ℕ) (rest next : ℕ) (inv : Inv value sheet₀ at sheet rest next) where
  -- There is a place for one more byte.
  pub place : next < length sheet
  unfolding groups
  place = go (ltb rest 128) inv.end
    where
      go : (t : Bool)
          → next + length (cond t (rest ∷ []) ((128 + rest % 128) ∷ groups inv.left (rest / 128))) ≡ at + length (form value) → next < length sheet
      go true e = omega (arith, inv.fits, inv.size)
      go false e = omega (arith, inv.fits, inv.size)

  pub again : 128 ≤ rest → Inv value sheet₀ at (set sheet next (128 + rest % 128)) (rest / 128) (next + 1)
  unfolding groups
  again big = go inv.left inv.bound inv.end inv.same
    where
      t : ltb rest 128 ≡ false
      t = le-ltb rest 128 big

      lit : 0 < 128
      lit = omega arith

      go : (left : ℕ) → rest < 128 ^ suc left → next + length (groups (suc left) rest) ≡ at + length (form value)
          → sets sheet next (groups (suc left) rest) ≡ sets sheet₀ at (form value) → Inv value sheet₀ at (set sheet next (128 + rest % 128)) (rest / 128) (next + 1)
      go zero b e s = absurd (omega arith)
      go (suc left) b e s =
          let e' : next + suc (length (groups (suc left) (rest / 128))) ≡ at + length (form value) = rw t at e in
          record {
            left = left;
            bound = (div-lt_iff_lt-mul lit).1 (rw (pow-suc 128 (suc left)) at b);
            end = omega arith;
            fits = inv.fits;
            size = rw length-set inv.size;
            same = rw add-one (rw t at s);
          }

  pub last : rest < 128 → (next + 1 ≡ at + length (form value)) × (set sheet next rest ≡ sets sheet₀ at (form value))
  unfolding groups
  last low =
      let t : ltb rest 128 ≡ true = lt-ltb rest 128 low in
      (rw t at inv.end, rw t at inv.same)
