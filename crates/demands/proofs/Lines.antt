-- One line, read byte by byte, comes to the demand of the whole line; and the lines of a text whose first bytes are already read.
use mathlib.Core.Path.{◌≡◌, refl, ap}
use mathlib.Core.Logic.{◌⊎◌, inl, inr}
use mathlib.Core.Bool.{Bool, true, false, cond, ◌&&◌}
use mathlib.Core.List.{List, [], ◌∷◌, ◌++◌}
use Prim.Native.Nat.{ℕ, suc, ◌+◌, ◌-◌, ◌*◌, ◌^◌, ◌<◌, ◌≤◌}
use native.Mathlib.Nat.{add-zero, pow-succ', pow-le-pow_right, lt_of_lt_of_le, zero-lt-suc, eq-or-lt_of_le}
use native.Mathlib.Numerals.{add-one}
use native.Mathlib.Omega.{arith}
use borrow.Author.Tests.{lt-ltb, le-leb, lt-leb, leb-true}
use lib.Dec.{leb, ltb}
use lib.ListN.{length}
use Rattle.demands.specs.Text.{most_digits, no_demand, before, is_digit, are_digits, number_after, demand_of}
use Rattle.demands.specs.Reading.{empty_line, extended, has_byte, line_demand}
use Rattle.demands.specs.declared.DemandLine.{DemandLine}
use Rattle.demands.specs.declared.DemandLine.TheVariants.{Digits, Other}
use Rattle.figures.proofs.Tests.{and_false}

-- ---- one line

-- A line with some bytes more.
unfoldable pub extended_by : DemandLine → List ℕ → DemandLine
extended_by line [] = line
extended_by line (byte ∷ bytes) = extended_by (extended line byte) bytes

pub extended_by_append : (line : DemandLine) (bytes : List ℕ) (byte : ℕ)
    → extended_by line (bytes ++ (byte ∷ [])) ≡ extended (extended_by line bytes) byte
unfolding extended_by
extended_by_append line [] byte = refl
extended_by_append line (b ∷ bytes) byte = extended_by_append (extended line b) bytes byte

stays_other : (bytes : List ℕ) → extended_by Other bytes ≡ Other
unfolding extended_by
stays_other [] = refl
stays_other (b ∷ bytes) = stays_other bytes

-- So many digits give a number of no more digits.
grown : (count number digit : ℕ) → number < 10 ^ count → digit ≤ 9 → number * 10 + digit < 10 ^ (count + 1)
grown count number digit h k = rw (add-one, pow-succ') (omega arith)

small : (count number : ℕ) → count < most_digits → number < 10 ^ count → number < 10000000
small count number h k =
    let most : count ≤ 7 = omega arith in
    lt_of_lt_of_le k (pow-le-pow_right {n = 10} (zero-lt-suc 9) most)

-- The demand of a line that starts with so many digits, which give a number.
abbrev demand_after : ℕ → ℕ → List ℕ → ℕ
demand_after count number line =
    cond (leb 1 (count + length line) && (leb (count + length line) most_digits && are_digits line)) (number_after number line) no_demand

line_demand-after : (count number : ℕ) (line : List ℕ) → count ≤ most_digits → number < 10 ^ count
    → line_demand (extended_by (Digits count number) line) ≡ demand_after count number line
unfolding extended_by are_digits number_after
line_demand-after count number [] h k =
    let few : leb count most_digits ≡ true = le-leb count 8 h in
    rw (add-zero, few) (sym_and (leb 1 count))
  where
    sym_and : (test : Bool) → cond test number no_demand ≡ cond (test && true) number no_demand
    sym_and true = refl
    sym_and false = refl
line_demand-after count number (b ∷ line) h k =
    go (is_digit b) refl (eq-or-lt_of_le h) (line_demand-after (count + 1) (number * 10 + (b - 48)) line)
  where
    digit : is_digit b ≡ true → b - 48 ≤ 9
    digit e = last (leb 48 b) e
      where
        last : (test : Bool) → test && leb b 57 ≡ true → b - 48 ≤ 9
        last true q = omega (arith, leb-true b 57 q)
        last false q = let z : false ≡ true = q in let w : ◌≡◌ {A = ℕ} 0 1 = cc in absurd (omega arith)

    go : (test : Bool) → is_digit b ≡ test → (count ≡ most_digits) ⊎ (count < most_digits)
        → (count + 1 ≤ most_digits → number * 10 + (b - 48) < 10 ^ (count + 1)
        → line_demand (extended_by (Digits (count + 1) (number * 10 + (b - 48))) line) ≡ demand_after (count + 1) (number * 10 + (b - 48)) line)
        → line_demand
        (extended_by (cond (test && (ltb count most_digits && ltb number 10000000)) (Digits (count + 1) (number * 10 + (b - 48))) Other) line)
        ≡ cond (leb 1 (count + suc (length line)) && (leb (count + suc (length line)) most_digits && (test && are_digits line)))
        (number_after (number * 10 + (b - 48)) line) no_demand
    go false q w rec = rw (stays_other line, and_false, and_false)
    go true q (inl e) rec =
        let long : most_digits < count + suc (length line) = omega arith in
        let many : leb (count + suc (length line)) most_digits ≡ false = lt-leb _ _ long in
        let none : ltb count most_digits ≡ false = rw e in
        rw (none, stays_other line, many, and_false)
    go true q (inr few) rec =
        let n : count + suc (length line) ≡ count + 1 + length line = omega arith in
        rw (lt-ltb _ _ few, lt-ltb _ _ (small count number few k), n) (rec (omega arith) (grown count number (b - 48) k (digit q)))

-- A line that is read from its start comes to its demand.
pub line_demand_whole : (line : List ℕ) → line_demand (extended_by empty_line line) ≡ demand_of line
unfolding demand_of
line_demand_whole line =
    let n : 0 + length line ≡ length line = omega arith in
    rw n at (line_demand-after 0 0 line (omega arith) (omega arith))

-- ---- whether a line has a byte

extended-has_byte : (line : DemandLine) (byte : ℕ) → has_byte (extended line byte) ≡ true
extended-has_byte (Digits count number) byte = go (is_digit byte && (ltb count most_digits && ltb number 10000000))
  where
    go : (test : Bool) → has_byte (cond test (Digits (count + 1) (number * 10 + (byte - 48))) Other) ≡ true
    go true = le-leb 1 (count + 1) (omega arith)
    go false = refl
extended-has_byte Other byte = refl

pub has_byte_some : (line : DemandLine) (byte : ℕ) (bytes : List ℕ) → has_byte (extended_by line (byte ∷ bytes)) ≡ true
unfolding extended_by
has_byte_some line byte [] = extended-has_byte line byte
has_byte_some line byte (b ∷ bytes) = has_byte_some (extended line byte) b bytes

-- ---- the lines of a text, some bytes being read

-- The lines with some bytes put in front of the first.
unfoldable pub before_all : List ℕ → List (List ℕ) → List (List ℕ)
before_all [] rest = rest
before_all (byte ∷ bytes) rest = before byte (before_all bytes rest)

pub before_all_ended : (line : List ℕ) (rest : List (List ℕ)) → before_all line ([] ∷ rest) ≡ line ∷ rest
unfolding before_all before
before_all_ended [] rest = refl
before_all_ended (byte ∷ line) rest = rw (before_all_ended line rest)

pub before_all_append : (line : List ℕ) (byte : ℕ) (rest : List (List ℕ))
    → before_all (line ++ (byte ∷ [])) rest ≡ before_all line (before byte rest)
unfolding before_all
before_all_append [] byte rest = refl
before_all_append (b ∷ line) byte rest = ap (before b) (before_all_append line byte rest)

pub before_all_last : (byte : ℕ) (line : List ℕ) → before_all (byte ∷ line) [] ≡ (byte ∷ line) ∷ []
unfolding before_all before
before_all_last byte [] = refl
before_all_last byte (b ∷ line) = ap (before byte) (before_all_last b line)
