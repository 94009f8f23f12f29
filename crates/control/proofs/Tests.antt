-- Laws of tests: what a branch, taken or left, says of the test's definition.
use mathlib.Core.Path.{◌≡◌, sym, ◌∙◌}
use mathlib.Core.Bool.{Bool, true, false, cond, not, ◌&&◌}

-- The rest of a conjunction, once its first part holds; and a conjunction whose first part does not.
pub and_true : {p q r : Bool} → p ≡ true → r ≡ q → r ≡ p && q
and_true e f = rw e f

pub false_and : {p : Bool} (q : Bool) → p ≡ false → false ≡ p && q
false_and q e = rw e

-- What a test of `!b` says of p, where b is p.
pub was_true : {b p : Bool} → b ≡ p → not b ≡ false → p ≡ true
was_true {b = true} e h = sym e
was_true {b = false} e h = sym e ∙ sym h

pub was_false : {b p : Bool} → b ≡ p → not b ≡ true → p ≡ false
was_false {b = true} e h = sym e ∙ sym h
was_false {b = false} e h = sym e

module _ {A : Type 0} where
  -- The branch that a test chooses.
  pub cond_true : {b : Bool} (x y : A) → b ≡ true → x ≡ cond b x y
  cond_true x y e = rw e

  pub cond_false : {b : Bool} (x y : A) → b ≡ false → y ≡ cond b x y
  cond_false x y e = rw e
