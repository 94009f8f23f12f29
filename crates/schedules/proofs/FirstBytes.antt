-- How many bytes each part of a text takes, and so how many decide the whole answer.
use mathlib.Core.Path.{◌≡◌, refl, sym, ap, ◌∙◌}
use mathlib.Core.Bool.{Bool, true, false, cond}
use mathlib.Core.List.{List, []}
use Prim.Native.Nat.{ℕ, zero, suc, ◌+◌, ◌-◌, ◌*◌, ◌≤◌, ◌<◌}
use native.Mathlib.Nat.{suc-ne-zero}
use native.Mathlib.Omega.{arith}
use lib.Dec.{eqb, leb}
use lib.ListN.{length, take, length-take}
use lib.Seq.{get_or-take}
use borrow.Author.Tests.{le-leb, lt-leb, leb-true, leb-false}
use Rattle.schedules.specs.Text.{byte_at, digit_zero, is_digit, Step, good, bad, malformed, Part, follow, ◌>>=◌, give, byte, digits, number, field, line, space, newline}
use Rattle.schedules.specs.Schedule.{Judgement, judged, whole, onto, lines_from, scheduling}
use Rattle.schedules.proofs.LineLaws.{passed_is}

-- ---- Parts

-- Two texts agree on the bytes in front of a place.
abbrev pub Agree : List ℕ → List ℕ → ℕ → Type 0
Agree a b end = (j : ℕ) → j < end → byte_at a j ≡ byte_at b j

-- A part takes at most so many bytes: no others decide what it comes to, and what follows starts no further on.
pub record Takes {A : Type 0} (part : Part A) (most : ℕ) : Type 0 where
  pub same : (a b : List ℕ) (at : ℕ) → Agree a b (at + most) → part a at ≡ part b at
  pub next : (a : List ℕ) (at : ℕ) (value : A) (next : ℕ) → part a at ≡ good value next → next ≤ at + most

give_takes : {A : Type 0} (a : A) → Takes (give a) 0
give_takes a =
    record {
      same = λ s t at h. refl;
      next = λ s at v n e. let z : at ≡ n = cc in omega arith;
    }

then_takes : {A B : Type 0} (p : Part A) (q : A → Part B) (k m : ℕ) → Takes p k → ((a : A) → Takes (q a) m) → Takes (◌>>=◌ p q) (k + m)
unfolding follow
then_takes {A} {B} p q k m first second =
    record {
      same = λ s t at h. rw (← first.same s t at (λ j l. h j (omega arith))) (go s t at h (p s at) refl);
      next = λ s at v n e. reach s at v n (p s at) refl e;
    }
  where
    go : (s t : List ℕ) (at : ℕ) → Agree s t (at + (k + m)) → (x : Step A) → p s at ≡ x → follow x (λ a n. q a s n) ≡ follow x (λ a n. q a t n)
    go s t at h (good a n) e =
        let l = first.next s at a n e in
        (second a).same s t n (λ j g. h j (omega arith))
    go s t at h (bad malformed) e = refl

    reach : (s : List ℕ) (at : ℕ) (v : B) (n : ℕ) → (x : Step A) → p s at ≡ x → follow x (λ a n. q a s n) ≡ good v n → n ≤ at + (k + m)
    reach s at v n (good a i) e f = omega (arith, first.next s at a i e, (second a).next s i v n f)
    reach s at v n (bad malformed) e f = absurd (suc-ne-zero 0 (cc))

byte_takes : (b : ℕ) → Takes (byte b) 1
unfolding byte
byte_takes b =
    record {
      same = λ s t at h. rw (h at (omega arith));
      next = λ s at v n e. go at v n (eqb (byte_at s at) b) e;
    }
  where
    go : (at v n : ℕ) (t : Bool) → cond t (good b (suc at)) (bad malformed) ≡ good v n → n ≤ at + 1
    go at v n true e = let z : suc at ≡ n = cc in omega arith
    go at v n false e = absurd (suc-ne-zero 0 (cc))

digits_takes : (most value : ℕ) → Takes (digits most value) most
unfolding digits
digits_takes zero value = give_takes value
digits_takes (suc most) value =
    record {
      same = λ s t at h. rw (h at (omega arith)) (same s t at h (is_digit (byte_at t at)) _ (digits_takes most (value * 10 + (byte_at t at - digit_zero))));
      next = λ s at v n e. reach s at v n (is_digit (byte_at s at)) _ e (digits_takes most (value * 10 + (byte_at s at - digit_zero)));
    }
  where
    same : (s t : List ℕ) (at : ℕ) → Agree s t (at + suc most) → (test : Bool) (v : ℕ) → Takes (digits most v) most
        → cond test (digits most v s (suc at)) (good value at) ≡ cond test (digits most v t (suc at)) (good value at)
    same s t at h true v further = further.same s t (suc at) (λ j l. h j (omega arith))
    same s t at h false v further = refl

    reach : (s : List ℕ) (at v n : ℕ) (test : Bool) (w : ℕ) → cond test (digits most w s (suc at)) (good value at) ≡ good v n → Takes (digits most w) most → n ≤ at + suc most
    reach s at v n true w e further = omega (arith, further.next s (suc at) v n e)
    reach s at v n false w e further = let z : at ≡ n = cc in omega arith

number_takes : Takes number 4
unfolding number
number_takes =
    record {
      same = λ s t at h. rw (h at (omega arith)) (same s t at h (eqb (byte_at t at) digit_zero) (is_digit (byte_at t at)));
      next = λ s at v n e. reach s at v n (eqb (byte_at s at) digit_zero) (is_digit (byte_at s at)) e;
    }
  where
    same : (s t : List ℕ) (at : ℕ) → Agree s t (at + 4) → (z d : Bool)
        → cond z (good 0 (suc at)) (cond d (digits 4 0 s at) (bad malformed)) ≡ cond z (good 0 (suc at)) (cond d (digits 4 0 t at) (bad malformed))
    same s t at h true d = refl
    same s t at h false true = (digits_takes 4 0).same s t at h
    same s t at h false false = refl

    reach : (s : List ℕ) (at v n : ℕ) (z d : Bool) → cond z (good 0 (suc at)) (cond d (digits 4 0 s at) (bad malformed)) ≡ good v n → n ≤ at + 4
    reach s at v n true d e = let z : suc at ≡ n = cc in omega arith
    reach s at v n false true e = (digits_takes 4 0).next s at v n e
    reach s at v n false false e = absurd (suc-ne-zero 0 (cc))

field_takes : (end : ℕ) → Takes (field end) 5
unfolding field
field_takes end = then_takes _ _ 4 1 number_takes (λ v. then_takes _ _ 1 0 (byte_takes end) (λ b. give_takes v))

-- The longest line has 15 bytes.
pub line_takes : Takes line 15
unfolding line
line_takes =
    then_takes _ _ 5 10 (field_takes space)
    (λ p. then_takes _ _ 5 5 (field_takes space) (λ a. then_takes _ _ 5 0 (field_takes newline) (λ v. give_takes (record { parent = p; amperes = a; volts = v }))))

-- ---- All lines

-- So many lines are decided by 15 bytes each.
pub lines_from-cut : (taken : ℕ) (text : List ℕ) (most place at : ℕ) → at + 15 * most ≤ taken
    → lines_from most (take taken text) place at ≡ lines_from most text place at
unfolding lines_from
lines_from-cut taken text zero place at h = refl
lines_from-cut taken text (suc most) place at h =
    let same : line (take taken text) at ≡ line text at = line_takes.same (take taken text) text at (λ j l. get_or-take taken text j 0 (omega arith)) in
    rw (shorter (leb (length text) at) refl, same)
    (ap (cond (leb (length text) at) (record { entries = []; ending = whole }))
    (go (judged place (line text at)) refl (λ next l. lines_from-cut taken text most (suc place) next l)))
  where
    shorter : (t : Bool) → leb (length text) at ≡ t → leb (length (take taken text)) at ≡ leb (length text) at
    shorter true e = le-leb (length (take taken text)) at (omega (arith, length-take taken text, leb-true (length text) at e)) ∙ sym e
    shorter false e = lt-leb (length (take taken text)) at (omega (arith, length-take taken text, leb-false (length text) at e)) ∙ sym e

    go : (j : Judgement) → judged place (line text at) ≡ j
        → ((next : ℕ) → next + 15 * most ≤ taken → lines_from most (take taken text) (suc place) next ≡ lines_from most text (suc place) next)
        → onto j (λ next. lines_from most (take taken text) (suc place) next) ≡ onto j (λ next. lines_from most text (suc place) next)
    go (good e next) j further =
        let l = line_takes.next text at e next (passed_is place (line text at) e next j).is in
        rw (further next (omega arith))
    go (bad q) j further = refl

-- The bytes of 513 lines decide the answer: a 513th is refused.
pub scheduling-cut : (taken : ℕ) (text : List ℕ) (words : ℕ) → 7695 ≤ taken → scheduling (take taken text) words ≡ scheduling text words
unfolding scheduling
scheduling-cut taken text words h = rw (lines_from-cut taken text 513 0 0 (omega arith))
