-- The loop of `decode_bytes`: the bytes read so far carry `value`, and the next byte's group counts `unit`.
use mathlib.Core.Path.{◌≡◌, refl, ap, ◌∙◌}
use mathlib.Core.List.{List, ◌∷◌}
use Prim.Native.Nat.{ℕ, zero, suc, ◌+◌, ◌-◌, ◌*◌, ◌^◌, ◌≤◌, ◌<◌}
use native.Mathlib.Omega.{arith}
use native.Mathlib.Nat.{pow-succ', mul_assoc, mul-add, le-mul_of_pos_right, mul-le-mul_left}
use native.Mathlib.Numerals.{add-one}
use lib.ListN.{length, get_or, drop, drop_of_length-le}
use lib.Seq.{drop-cons}
use borrow.Author.Tests.{lt-ltb, le-ltb, eq-eqb, ne_eqb}
use Rattle.numbers.specs.Number.{Front, good, bad, above, later, number, decoded}
use Rattle.numbers.specs.declared.Fault.TheVariants.{TooLong, NotShortest, CutShort}
use Rattle.std.specs.Prelude.{Result, Ok, Err}
use Rattle.numbers.specs.declared.BadNumber.{BadNumber}
use Rattle.numbers.proofs.NumberLaws.{pow_pos}

-- The answer, given what stands from place `next` on.
abbrev pub resumed : ℕ → ℕ → ℕ → ℕ → Front → Result (ℕ × ℕ) BadNumber
resumed at value unit next (good v size) = Ok (value + unit * v, next + size)
resumed at value unit next (bad fault) = Err (record { fault = fault; place = at })

pub record Inv (sheet : List ℕ) (at value unit next left : ℕ) : Type 0 where
  pub small : value < unit
  pub space : unit * 128 ^ left ≡ 2 ^ 28
  pub same : resumed at value unit next (later left (drop next sheet)) ≡ decoded at (number (drop at sheet))

-- A byte that was read stands in front of those after it.
byte_first : (sheet : List ℕ) (i byte : ℕ) → byte ≡ get_or sheet i 0 → i < length sheet → drop i sheet ≡ byte ∷ drop (suc i) sheet
byte_first sheet i byte e h = rw e (drop-cons sheet i 0 h)

module _ (sheet : List ℕ) (at : ℕ) where
  pub empty : length sheet ≤ at → Err (record { fault = CutShort; place = at }) ≡ decoded at (number (drop at sheet))
  unfolding number
  empty h = rw (drop_of_length-le sheet h)

  module _ (byte : ℕ) (e : byte ≡ get_or sheet at 0) (h : at < length sheet) where
    pub single : byte < 128 → Ok (byte, at + 1) ≡ decoded at (number (drop at sheet))
    unfolding number
    single low = rw (byte_first sheet at byte e h, lt-ltb byte 128 low)

    pub begin : 128 ≤ byte → byte < 256 → Inv sheet at (byte - 128) 128 (at + 1) 3
    unfolding number
    begin top is_byte_lem =
        record {
          small = omega arith;
          space = refl;
          same = rw (byte_first sheet at byte e h, le-ltb byte 128 top, add-one) (go (later 3 (drop (suc at) sheet)));
        }
      where
        go : (f : Front) → resumed at (byte - 128) 128 (suc at) f ≡ decoded at (above (byte - 128) f)
        go (good v size) = ap (λ (n : ℕ). Ok (byte - 128 + 128 * v, n)) (omega arith)
        go (bad fault) = refl

module _ (sheet : List ℕ) (at value unit next : ℕ) where
  pub exhausted : (left : ℕ) → left ≤ 0 → Inv sheet at value unit next left → Err (record { fault = TooLong; place = at }) ≡ decoded at (number (drop at sheet))
  unfolding later
  exhausted zero z inv = inv.same
  exhausted (suc left) z inv = absurd (omega arith)

  pub ended : (left : ℕ) → 0 < left → Inv sheet at value unit next left → length sheet ≤ next
      → Err (record { fault = CutShort; place = at }) ≡ decoded at (number (drop at sheet))
  unfolding later
  ended zero p inv h = absurd (omega arith)
  ended (suc left) p inv h = rw (drop_of_length-le sheet h) at inv.same

  -- The largest value that one more byte can make fits 28 bits, and so does the next unit.
  pub fits : (left : ℕ) → 0 < left → Inv sheet at value unit next left → (group : ℕ) → group < 128
      → (value + unit * group < 2 ^ 28) × (unit * 128 ≤ 2 ^ 28)
  fits zero p inv group h = absurd (omega arith)
  fits (suc left) p inv group h =
      let e : unit * 128 * 128 ^ left ≡ 2 ^ 28 = mul_assoc unit 128 (128 ^ left) ∙ rw (← pow-succ' 128 left) inv.space in
      let u : unit * 128 ≤ 2 ^ 28 = omega (arith, le-mul_of_pos_right (unit * 128) (pow_pos left)) in
      let m : unit * group ≤ unit * 127 = mul-le-mul_left unit (omega arith) in
      (omega (arith, inv.small), u)

  module _ (byte : ℕ) (e : byte ≡ get_or sheet next 0) (h : next < length sheet) where
    pub not_shortest : (left : ℕ) → 0 < left → Inv sheet at value unit next left → byte ≡ 0
        → Err (record { fault = NotShortest; place = at }) ≡ decoded at (number (drop at sheet))
    unfolding later
    not_shortest zero p inv z = absurd (omega arith)
    not_shortest (suc left) p inv z = rw (byte_first sheet next byte e h, eq-eqb byte 0 z) at inv.same

    pub last : (left : ℕ) → 0 < left → Inv sheet at value unit next left → (byte ≡ 0 → ⊥) → byte < 128
        → Ok (value + unit * byte, next + 1) ≡ decoded at (number (drop at sheet))
    unfolding later
    last zero p inv z low = absurd (omega arith)
    last (suc left) p inv z low = rw (byte_first sheet next byte e h, ne_eqb byte 0 z, lt-ltb byte 128 low) at inv.same

    pub again : (left : ℕ) → 0 < left → Inv sheet at value unit next left → 128 ≤ byte → byte < 256
        → Inv sheet at (value + unit * (byte - 128)) (unit * 128) (next + 1) (left - 1)
    unfolding later
    again zero p inv top is_byte_lem = absurd (omega arith)
    again (suc left) p inv top is_byte_lem =
        let l : suc left - 1 ≡ left = omega arith in
        let z : byte ≡ 0 → ⊥ = λ z. omega arith in
        rw (l, add-one)
        (record {
          small = omega (arith, inv.small, mul-le-mul_left {m = byte - 128} {n = 127} unit (omega arith));
          space = mul_assoc unit 128 (128 ^ left) ∙ rw (← pow-succ' 128 left) inv.space;
          same = go (byte - 128) (later left (drop (suc next) sheet)) ∙ (rw (byte_first sheet next byte e h, ne_eqb byte 0 z, le-ltb byte 128 top) at inv.same);
        })
      where
        go : (group : ℕ) (f : Front)
            → resumed at (value + unit * group) (unit * 128) (suc next) f ≡ resumed at value unit next (above group f)
        go group (good v size) =
            ap (λ (x : ℕ). Ok (x, suc next + size)) (omega (arith, mul-add unit group (128 * v), mul_assoc unit 128 v))
            ∙ ap (λ (n : ℕ). Ok (value + unit * (group + 128 * v), n)) (omega arith)
        go group (bad fault) = refl
