-- What the code's answers tell of fields and lines: one law for each way that a function goes on or returns.
use mathlib.Core.Path.{◌≡◌, refl, ap}
use mathlib.Core.Bool.{Bool, true, false, cond, ◌&&◌}
use mathlib.Core.List.{List}
use Prim.Native.Nat.{ℕ, ◌+◌, ◌≤◌, ◌<◌}
use native.Mathlib.Nat.{suc-ne-zero, mul-le-mul}
use native.Mathlib.Numerals.{add-one}
use lib.Dec.{leb, ltb}
use Rattle.std.proofs.Common.{Some, None, Ok, Err}
use Rattle.std.specs.Option.{ok_or}
use borrow.Author.Tests.{leb-true, ltb-true, eq-eqb, ne_eqb}
use Rattle.rooms.specs.Table.{most_nodes}
use Rattle.schedules.specs.Sizes.{is_size}
use Rattle.schedules.specs.Text.{Step, good, bad, malformed, follow, byte_at, space, newline, byte, number, field, line}
use Rattle.schedules.specs.Schedule.{least_volts, most_volts, rating, in_range, Judgement, judged}
use Rattle.schedules.specs.Told.{told, told_judgement}
use Rattle.schedules.proofs.SizeLaws.{and_left, and_right, size_most}
use Rattle.schedules.specs.declared.Entry.{Entry}
use Rattle.schedules.specs.declared.ScheduleRefusal.{ScheduleRefusal}
use Rattle.schedules.specs.declared.ScheduleRefusal.TheVariants.{NotALine, NotASize, OutOfRange}

-- ---- A part of a text, told

pub told_good : {A : Type 0} (s : Step A) {value : A} {next : ℕ} → Some (value, next) ≡ told s → s ≡ good value next
told_good {A} (good v n) {value} {next} d = let e : ◌≡◌ {A = A × ℕ} (v, n) (value, next) = cc in ap (λ (p : A × ℕ). good p.0 p.1) e
told_good (bad malformed) d = cc

pub told_bad : {A : Type 0} (s : Step A) → None ≡ told s → s ≡ (bad malformed)
told_bad (good v n) d = cc
told_bad (bad malformed) d = refl

-- What is not of the form is refused.
pub or_good : {A R : Type 0} (s : Step A) (q : R) {value : A} {next : ℕ} → Ok (value, next) ≡ ok_or (told s) q → s ≡ good value next
or_good (good v n) q d = told_good (good v n) (cc)
or_good (bad malformed) q d = cc

pub or_bad : {A R : Type 0} (s : Step A) {q r : R} → Err r ≡ ok_or (told s) q → (s ≡ (bad malformed)) × (r ≡ q)
or_bad (good v n) d = cc
or_bad (bad malformed) d = (refl, cc)

-- ---- A field

module _ (text : List ℕ) (at end : ℕ) where
  pub field_none : number text at ≡ (bad malformed) → field end text at ≡ (bad malformed)
  unfolding field follow
  field_none n = rw n refl

  module _ {value next : ℕ} (n : number text at ≡ good value next) where
    pub field_other : (byte_at text next ≡ end → ⊥) → field end text at ≡ (bad malformed)
    unfolding field follow byte
    field_other b = rw (n, ne_eqb (byte_at text next) end b) refl

    pub field_found : byte_at text next ≡ end → field end text at ≡ good value (next + 1)
    unfolding field follow byte
    field_found b = rw (n, eq-eqb (byte_at text next) end b, add-one) refl

-- ---- A line

module _ (text : List ℕ) (at : ℕ) where
  pub line_first : field space text at ≡ (bad malformed) → line text at ≡ (bad malformed)
  unfolding line follow
  line_first a = rw a refl

  module _ {parent at₁ : ℕ} (a : field space text at ≡ good parent at₁) where
    pub line_second : field space text at₁ ≡ (bad malformed) → line text at ≡ (bad malformed)
    unfolding line follow
    line_second b = rw (a, b) refl

    module _ {amperes at₂ : ℕ} (b : field space text at₁ ≡ good amperes at₂) where
      pub line_third : field newline text at₂ ≡ (bad malformed) → line text at ≡ (bad malformed)
      unfolding line follow
      line_third v = rw (a, b, v) refl

      pub line_whole : {volts next : ℕ} → field newline text at₂ ≡ good volts next
          → line text at ≡ good (record { parent = parent; amperes = amperes; volts = volts }) next
      unfolding line follow
      line_whole v = rw (a, b, v) refl

-- ---- A line, judged

pub and_true : (t : Bool) → t && true ≡ t
and_true true = refl
and_true false = refl

-- Volts and parent of the line at a place are in range, and it is no 513th.
pub record InRange (place : ℕ) (e : Entry) : Type 0 where
  pub least : least_volts ≤ e.volts
  pub most : e.volts ≤ most_volts
  pub parent : e.parent ≤ place
  pub few : place < most_nodes

pub range_is : (place : ℕ) (e : Entry) → in_range place e ≡ true → InRange place e
unfolding in_range
range_is place e t =
    let volts : leb least_volts e.volts && leb e.volts most_volts ≡ true = and_left _ _ t in
    let rest : leb e.parent place && ltb place most_nodes ≡ true = and_right (leb least_volts e.volts && leb e.volts most_volts) _ t in
    record {
      least = leb-true _ _ (and_left _ _ volts);
      most = leb-true _ _ (and_right (leb least_volts e.volts) _ volts);
      parent = leb-true _ _ (and_left _ _ rest);
      few = ltb-true _ _ (and_right (leb e.parent place) _ rest);
    }

-- A line that passes has a rating of at most 6,000 A × 480 V.
pub rating_most : (place : ℕ) (e : Entry) → is_size e.amperes ≡ true → in_range place e ≡ true → rating e ≤ 2880000
rating_most place e s t = mul-le-mul (size_most e.amperes s) (range_is place e t).most

module _ (place : ℕ) (s : Step Entry) where
  pub not_a_line : s ≡ (bad malformed) → judged place s ≡ bad (NotALine place)
  unfolding judged
  not_a_line n = rw n refl

  module _ {e : Entry} {next : ℕ} (n : s ≡ good e next) where
    pub not_a_size : is_size e.amperes ≡ false → judged place s ≡ bad (NotASize place)
    unfolding judged
    not_a_size a = rw (n, a) refl

    pub out_of_range : is_size e.amperes ≡ true → in_range place e ≡ false → judged place s ≡ bad (OutOfRange place)
    unfolding judged
    out_of_range a b = rw (n, a, b) refl

    pub passes : is_size e.amperes ≡ true → in_range place e ≡ true → judged place s ≡ good e next
    unfolding judged
    passes a b = rw (n, a, b) refl

-- What a line that passes is.
pub record Passed (place : ℕ) (s : Step Entry) (e : Entry) (next : ℕ) : Type 0 where
  pub is : s ≡ good e next
  pub size : is_size e.amperes ≡ true
  pub range : in_range place e ≡ true

pub passed_is : (place : ℕ) (s : Step Entry) (e : Entry) (next : ℕ) → judged place s ≡ good e next → Passed place s e next
unfolding judged
passed_is place (bad malformed) e next j = absurd (suc-ne-zero 0 (cc))
passed_is place (good x n) e next j = size (is_size x.amperes) refl j
  where
    range : (t : Bool) → is_size x.amperes ≡ true → in_range place x ≡ t → cond t (good x n) (bad (OutOfRange place)) ≡ good e next
        → Passed place (good x n) e next
    range true a b j =
        let same : x ≡ e = cc in
        let end : n ≡ next = cc in
        record { is = rw (same, end); size = rw (← same) a; range = rw (← same) b }
    range false a b j = absurd (suc-ne-zero 0 (cc))

    size : (t : Bool) → is_size x.amperes ≡ t
        → cond t (cond (in_range place x) (good x n) (bad (OutOfRange place))) (bad (NotASize place)) ≡ good e next
        → Passed place (good x n) e next
    size true a j = range (in_range place x) a refl j
    size false a j = absurd (suc-ne-zero 0 (cc))

-- What the answer on a line tells.
pub judgement_good : (j : Judgement) {e : Entry} {next : ℕ} → Ok (e, next) ≡ told_judgement j → j ≡ good e next
judgement_good (good x n) {e} {next} d = let p : ◌≡◌ {A = Entry × ℕ} (x, n) (e, next) = cc in ap (λ (p : Entry × ℕ). good p.0 p.1) p
judgement_good (bad q) d = cc

pub judgement_bad : (j : Judgement) {refusal : ScheduleRefusal} → Err refusal ≡ told_judgement j → j ≡ bad refusal
judgement_bad (good x n) d = cc
judgement_bad (bad q) d = cc
