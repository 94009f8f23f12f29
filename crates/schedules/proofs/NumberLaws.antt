-- The loop of `read_number`: the digits read so far give `value`, and the rest of at most four can follow.
use mathlib.Core.Path.{◌≡◌, refl, sym}
use mathlib.Core.Bool.{Bool, true, false, ◌&&◌}
use mathlib.Core.List.{List}
use Prim.Native.Nat.{ℕ, suc, ◌+◌, ◌-◌, ◌*◌, ◌^◌, ◌≤◌, ◌<◌}
use native.Mathlib.Nat.{pow-succ', pow-le-pow_right}
use native.Mathlib.Omega.{arith}
use Rattle.std.proofs.Common.{add-zero, add-one, add-suc}
use lib.Dec.{leb}
use lib.ListN.{length}
use borrow.Author.Tests.{leb-true, eq-eqb, ne_eqb}
use Rattle.outcomes.specs.Part.{good, bad}
use Rattle.schedules.specs.Text.{byte_at, malformed, most_digits, is_digit, digits, number}

-- A digit is a byte from `0` to `9`.
pub digit_range : (byte : ℕ) → is_digit byte ≡ true → (48 ≤ byte) × (byte ≤ 57)
digit_range byte e = go (leb 48 byte) refl e
  where
    go : (test : Bool) → leb 48 byte ≡ test → test && leb byte 57 ≡ true → (48 ≤ byte) × (byte ≤ 57)
    go true q e = (leb-true 48 byte q, leb-true byte 57 e)
    go false q e = absurd (let z : ◌≡◌ {A = ℕ} 0 1 = cc in omega arith)

module _ (text : List ℕ) (at byte : ℕ) (e : byte ≡ byte_at text at) where
  pub zero_read : byte ≡ 48 → number text at ≡ good 0 (at + 1)
  unfolding number
  zero_read z = rw (← e, eq-eqb byte 48 z, add-one)

  pub no_number : (byte ≡ 48 → ⊥) → is_digit byte ≡ false → number text at ≡ (bad malformed)
  unfolding number
  no_number z d = rw (← e, ne_eqb byte 48 z, d)

-- So many digits are read, and give a value: what follows them, of so many as are left, completes the number.
pub record Reading (text : List ℕ) (at value done : ℕ) : Type 0 where
  pub within : at + done ≤ length text
  pub small : value < 10 ^ done
  pub same : digits (most_digits - done) value text (at + done) ≡ number text at

pub begin : (text : List ℕ) (at byte : ℕ) → byte ≡ byte_at text at → (byte ≡ 48 → ⊥) → is_digit byte ≡ true → at < length text → Reading text at 0 0
unfolding number
begin text at byte e z d h = record { within = omega arith; small = omega arith; same = rw (← e, ne_eqb byte 48 z, d, add-zero) }

module _ (text : List ℕ) (at value done : ℕ) (inv : Reading text at value done) where
  pub end : most_digits ≤ done → done ≤ most_digits → number text at ≡ good value (at + most_digits)
  unfolding digits
  end h k =
      let n : done ≡ most_digits = omega arith in
      sym (rw n at inv.same)

  module _ (h : done < most_digits) where
    -- There is space for one digit more.
    pub few : value < 1000
    few = omega (arith, inv.small, pow-le-pow_right {n = 10} (omega arith) {i = done} {j = 3} (omega arith))

    next : most_digits - done ≡ suc (most_digits - suc done)
    next = omega arith

    module _ (byte : ℕ) (e : byte ≡ byte_at text (at + done)) where
      pub stop : is_digit byte ≡ false → number text at ≡ good value (at + done)
      unfolding digits
      stop d = sym (rw (next, ← e, d) at inv.same)

      pub again : is_digit byte ≡ true → at + done < length text → Reading text at (value * 10 + (byte - 48)) (done + 1)
      unfolding digits
      again d k =
          let r = digit_range byte d in
          rw add-one
          (record {
            within = omega arith;
            small = omega (arith, inv.small, pow-succ' 10 done);
            same = rw add-suc (rw (next, ← e, d) at inv.same);
          })
