-- The front of a list, lent to a call: what came back stands before the rest.
use mathlib.Core.Path.{◌≡◌, sym, ◌∙◌}
use mathlib.Core.List.{List, ◌++◌}
use Prim.Native.Nat.{ℕ, ◌≤◌}
use native.Mathlib.Omega.{arith}
use lib.ListN.{length, take, drop, replicate, length-replicate}
use lib.Seq.{length-take-le, length_front, take_at}

-- A list of equal entries has as many as were asked for.
pub equal_length : {A : Type 0} (k : ℕ) (a : A) → length (replicate k a) ≡ k
equal_length k a = length-replicate k a

module _ {A : Type 0} where
  pub front_length : (n : ℕ) (l : List A) → n ≤ length l → n ≡ length (take n l)
  front_length n l h = sym (length-take-le n l h)

  -- The first n entries of `list` were lent, and `back` came back for them.
  pub record Lent (n : ℕ) (list back : List A) : Type 0 where
    pub few : n ≤ length list
    pub size : length back ≡ n

  -- By what a call says of a list that it was lent: that it keeps its length.
  pub lent : {n : ℕ} {list back : List A} → n ≤ length list → length back ≡ length (take n list) → Lent n list back
  lent {n} {list} few kept = record { few = few; size = kept ∙ length-take-le n list few }

  -- The list then.
  abbrev pub rejoined : ℕ → List A → List A → List A
  rejoined n list back = back ++ drop n list

  module _ {n : ℕ} {list back : List A} (l : Lent n list back) where
    pub lent_length : length (rejoined n list back) ≡ length list
    lent_length = length_front list back n (l.size ∙ front_length n list l.few)

    pub lent_again : take n (rejoined n list back) ≡ back
    lent_again = take_at back (drop n list) n l.size

    pub lent_few : n ≤ length (rejoined n list back)
    lent_few = omega (arith, lent_length, l.few)

    pub lent-front : n ≡ length (take n (rejoined n list back))
    lent-front = front_length n (rejoined n list back) lent_few

-- A list of zeros, as it is lent at first.
pub lent-zeros : (k : ℕ) {n : ℕ} {back : List ℕ} → n ≤ k → length back ≡ length {A = ℕ} (take n (replicate k 0)) → Lent n (replicate k 0) back
lent-zeros k few kept = lent (omega (arith, equal_length {A = ℕ} k 0)) kept
