-- `decode`: a number of one or two bytes, its second byte taken as 0 where there is none.
use mathlib.Core.Path.{◌≡◌, refl}
use mathlib.Core.Bool.{Bool, true, false}
use mathlib.Core.List.{List}
use Prim.Native.Nat.{ℕ, ◌+◌, ◌-◌, ◌*◌, ◌/◌, ◌%◌, ◌≤◌, ◌<◌}
use native.Mathlib.Omega.{arith}
use native.Mathlib.Nat.{mod-eq_of_lt}
use lib.ListN.{length, get_or, drop}
use lib.Dec.{ltb}
use borrow.Author.Tests.{ltb-true, ltb-false}
use Rattle.numbers.specs.Number.{number, decoded}
use Rattle.std.specs.Prelude.{Ok}
use Rattle.numbers.proofs.DecodeLoop.{single, begin, last}

module _ (first byte : ℕ) (is_byte_lem : first < 256) where
  module _ (sheet : List ℕ) (at : ℕ) (e : first ≡ get_or sheet at 0) (d : byte ≡ get_or sheet (at + 1) 0) (h : at + 1 < length sheet) where
    pub paired : first / 128 ≤ first / 128 * byte → first / 128 * byte < 128
        → Ok (first % 128 + 128 * (first / 128 * byte), at + 1 + first / 128) ≡ decoded at (number (drop at sheet))
    paired some low = go (ltb first 128) refl
      where
        go : (t : Bool) → ltb first 128 ≡ t → Ok (first % 128 + 128 * (first / 128 * byte), at + 1 + first / 128) ≡ decoded at (number (drop at sheet))
        go true t =
            let clear = ltb-true first 128 t in
            let another : first / 128 ≡ 0 = omega arith in
            let value : first % 128 + 128 * (0 * byte) ≡ first = omega (arith, mod-eq_of_lt clear) in
            let next : at + 1 + 0 ≡ at + 1 = omega arith in
            rw (another, value, next) (single sheet at first e (omega arith) clear)
        go false t =
            let set = ltb-false first 128 t in
            let another : first / 128 ≡ 1 = omega arith in
            let some' : 1 ≤ 1 * byte = rw another at some in
            let low' : 1 * byte < 128 = rw another at low in
            let value : first % 128 + 128 * (1 * byte) ≡ first - 128 + 128 * byte = omega arith in
            let inv = begin sheet at first e (omega arith) set is_byte_lem in
            rw (another, value) (last sheet at (first - 128) 128 (at + 1) byte d h 3 (omega arith) inv (λ z. omega arith) (omega arith))
