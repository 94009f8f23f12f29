-- Laws of one number: its form's size and bytes, and that reading and writing undo each other.
use mathlib.Core.Path.{◌≡◌, refl, sym, ap, ◌∙◌}
use mathlib.Core.Bool.{Bool, true, false, cond}
use mathlib.Core.List.{List, [], ◌∷◌, ◌++◌}
use Prim.Native.Nat.{ℕ, zero, suc, ◌+◌, ◌-◌, ◌*◌, ◌/◌, ◌%◌, ◌^◌, ◌≤◌, ◌<◌}
use native.Mathlib.Omega.{arith}
use native.Mathlib.Nat.{pow-suc, div-add-mod', div-lt_iff_lt-mul, add-mul-mod_self_left, mod-eq_of_lt}
use lib.ListN.{length, take, drop}
use lib.Seq.{take_at}
use lib.Dec.{ltb, eqb}
use borrow.Author.Tests.{lt-ltb, le-ltb, ne_eqb, ltb-true, ltb-false, eqb-false}
use Rattle.numbers.specs.Number.{Front, good, bad, above, later, number, groups, form}
use Rattle.figures.specs.Bounds.{AllBelow}
use Rattle.numbers.specs.declared.Fault.TheVariants.{NotShortest}

-- ---- the form

pub groups_last : (k value : ℕ) → value < 128 → groups (suc k) value ≡ value ∷ []
unfolding groups
groups_last k value h = rw (lt-ltb value 128 h)

pub groups_more : (k value : ℕ) → 128 ≤ value → groups (suc k) value ≡ (128 + value % 128) ∷ groups k (value / 128)
unfolding groups
groups_more k value h = rw (le-ltb value 128 h)

-- A number has at least one byte.
pub 1≤length_groups : (k value : ℕ) → 1 ≤ length (groups (suc k) value)
unfolding groups
1≤length_groups k value = go (ltb value 128)
  where
    go : (t : Bool) → 1 ≤ length (cond t (value ∷ []) ((128 + value % 128) ∷ groups k (value / 128)))
    go true = omega arith
    go false = omega arith

pub length-groups≤ : (k value : ℕ) → length (groups k value) ≤ k
unfolding groups
length-groups≤ zero value = omega arith
length-groups≤ (suc k) value = go (ltb value 128) (length-groups≤ k (value / 128))
  where
    go : (t : Bool) → length (groups k (value / 128)) ≤ k
        → length (cond t (value ∷ []) ((128 + value % 128) ∷ groups k (value / 128))) ≤ suc k
    go true h = omega arith
    go false h = omega arith

pub 1≤length_form : (value : ℕ) → 1 ≤ length (form value)
1≤length_form value = 1≤length_groups 3 value

pub length_form≤4 : (value : ℕ) → length (form value) ≤ 4
length_form≤4 value = length-groups≤ 4 value

-- The form's size by the value's range.
pub size_1 : (value : ℕ) → value < 128 → length (form value) ≡ 1
size_1 value h = rw (groups_last 3 value h)

pub size_2 : (value : ℕ) → 128 ≤ value → value < 16384 → length (form value) ≡ 2
size_2 value l h = let q : value / 128 < 128 = omega arith in rw (groups_more 3 value l, groups_last 2 (value / 128) q)

pub size_3 : (value : ℕ) → 16384 ≤ value → value < 2097152 → length (form value) ≡ 3
size_3 value l h =
    let l₁ : 128 ≤ value = omega arith in
    let l₂ : 128 ≤ value / 128 = omega arith in
    let q : value / 128 / 128 < 128 = omega arith in
    rw (groups_more 3 value l₁, groups_more 2 (value / 128) l₂, groups_last 1 (value / 128 / 128) q)

pub size_4 : (value : ℕ) → 2097152 ≤ value → length (form value) ≡ 4
size_4 value l =
    let l₁ : 128 ≤ value = omega arith in
    let l₂ : 128 ≤ value / 128 = omega arith in
    let l₃ : 128 ≤ value / 128 / 128 = omega arith in
    let x = value / 128 / 128 / 128 in
    rw (groups_more 3 value l₁, groups_more 2 (value / 128) l₂, groups_more 1 (value / 128 / 128) l₃)
    (omega (arith, 1≤length_groups 0 x, length-groups≤ 1 x))

-- ---- what was written is read back

-- What a first byte in a value's form says of the rest.
module _ (value : ℕ) (big : 128 ≤ value) where
  quotient_pos : 0 < value / 128
  quotient_pos = omega arith

  top_set : 128 ≤ 128 + value % 128
  top_set = omega arith

  joined : 128 + value % 128 - 128 + 128 * (value / 128) ≡ value
  joined = omega (arith, div-add-mod' value 128)

pub later-groups : (k value : ℕ) (rest : List ℕ) → 0 < value → value < 128 ^ k
    → later k (groups k value ++ rest) ≡ good value (length (groups k value))
unfolding later groups
later-groups zero value rest p h = absurd (omega arith)
later-groups (suc k) value rest p h = go (ltb value 128) refl (λ q. later-groups k (value / 128) rest q ((div-lt_iff_lt-mul lit).1 (rw (pow-suc 128 k) at h)))
  where
    lit : 0 < 128
    lit = omega arith

    go : (t : Bool) → ltb value 128 ≡ t
        → (0 < value / 128 → later k (groups k (value / 128) ++ rest) ≡ good (value / 128) (length (groups k (value / 128))))
        → later (suc k) (cond t (value ∷ []) ((128 + value % 128) ∷ groups k (value / 128)) ++ rest)
        ≡ good value (length (cond t (value ∷ []) ((128 + value % 128) ∷ groups k (value / 128))))
    go true e ih = rw (ne_eqb value 0 (λ z. omega arith), e)
    go false e ih =
        let big : 128 ≤ value = ltb-false value 128 e in
        rw (ne_eqb (128 + value % 128) 0 (λ z. omega arith), le-ltb (128 + value % 128) 128 (top_set value big), ih (quotient_pos value big), joined value big)

-- A number in its form is read as itself, whatever follows.
pub number-form : (value : ℕ) (rest : List ℕ) → value < 2 ^ 28 → number (form value ++ rest) ≡ good value (length (form value))
unfolding number groups
number-form value rest h = go (ltb value 128) refl
  where
    lit : 0 < 128
    lit = omega arith

    go : (t : Bool) → ltb value 128 ≡ t
        → number (cond t (value ∷ []) ((128 + value % 128) ∷ groups 3 (value / 128)) ++ rest)
        ≡ good value (length (cond t (value ∷ []) ((128 + value % 128) ∷ groups 3 (value / 128))))
    go true e = rw e
    go false e =
        let big : 128 ≤ value = ltb-false value 128 e in
        let ih = later-groups 3 (value / 128) rest (quotient_pos value big) ((div-lt_iff_lt-mul lit).1 h) in
        rw (le-ltb (128 + value % 128) 128 (top_set value big), ih, joined value big)

-- ---- what was read is written as it was

-- What a good number at the front of some bytes says of them.
pub record Good (k : ℕ) (bytes : List ℕ) (value size : ℕ) : Type 0 where
  pub bound : value < 128 ^ k
  pub whole : groups k value ++ drop size bytes ≡ bytes
  pub length_is : length (groups k value) ≡ size
  pub some : 0 < size
  pub within : size ≤ length bytes

pub pow_pos : (k : ℕ) → 0 < 128 ^ k
pow_pos zero = omega arith
pow_pos (suc k) = rw (pow-suc 128 k) (omega (arith, pow_pos k))

-- A number of one byte.
good_single : (k b : ℕ) (bytes : List ℕ) → b < 128 → Good (suc k) (b ∷ bytes) b 1
good_single k b bytes low =
    record {
      bound = rw (pow-suc 128 k) (omega (arith, pow_pos k));
      whole = rw (groups_last k b low);
      length_is = rw (groups_last k b low);
      some = omega arith;
      within = omega arith;
    }

-- A number with one more byte in front.
good_above : (k b value size : ℕ) (bytes : List ℕ) → 128 ≤ b → b < 256 → 0 < value → Good k bytes value size
    → Good (suc k) (b ∷ bytes) (b - 128 + 128 * value) (suc size)
good_above k b value size bytes top is_byte_lem p g =
    record {
      bound = rw (pow-suc 128 k) (omega (arith, g.bound));
      whole = rw (more, quotient, remainder) (ap (λ (l : List ℕ). b ∷ l) g.whole);
      length_is = rw (more, quotient) (ap suc g.length_is);
      some = omega arith;
      within = omega (arith, g.within);
    }
  where
    low : b - 128 < 128
    low = omega arith

    more : groups (suc k) (b - 128 + 128 * value) ≡ (128 + (b - 128 + 128 * value) % 128) ∷ groups k ((b - 128 + 128 * value) / 128)
    more = groups_more k (b - 128 + 128 * value) (omega arith)

    quotient : (b - 128 + 128 * value) / 128 ≡ value
    quotient = omega arith

    remainder : 128 + (b - 128 + 128 * value) % 128 ≡ b
    remainder = rw (add-mul-mod_self_left (b - 128) 128 value, mod-eq_of_lt low) (omega arith)

-- A byte in front of what is found after it.
good_found : (k b value size : ℕ) (bytes : List ℕ) → 128 ≤ b → b < 256 → (f : Front) → above (b - 128) f ≡ good value size
    → ((v n : ℕ) → f ≡ good v n → (0 < v) × Good k bytes v n) → (0 < value) × Good (suc k) (b ∷ bytes) value size
good_found k b value size bytes top is_byte_lem (bad fault) e ih = let z : ◌≡◌ {A = ℕ} 0 1 = cc in absurd (omega arith)
good_found k b value size bytes top is_byte_lem (good v n) e ih =
    let g = ih v n refl in
    let ev : b - 128 + 128 * v ≡ value = cc in
    let en : suc n ≡ size = cc in
    rw (← ev, ← en) (omega (arith, g.0), good_above k b v n bytes top is_byte_lem g.0 g.1)

later_good : (k : ℕ) (bytes : List ℕ) (value size : ℕ) → AllBelow 256 bytes → later k bytes ≡ good value size
    → (0 < value) × Good k bytes value size
unfolding later
later_good zero bytes value size all e = let z : ◌≡◌ {A = ℕ} 0 1 = cc in absurd (omega arith)
later_good (suc k) [] value size all e = let z : ◌≡◌ {A = ℕ} 0 1 = cc in absurd (omega arith)
later_good (suc k) (b ∷ bytes) value size all e = go (eqb b 0) refl (ltb b 128) refl e (λ v n f. later_good k bytes v n (λ i. all (suc i)) f)
  where
    go : (t : Bool) → eqb b 0 ≡ t → (l : Bool) → ltb b 128 ≡ l
        → cond t (bad NotShortest) (cond l (good b 1) (above (b - 128) (later k bytes))) ≡ good value size
        → ((v n : ℕ) → later k bytes ≡ good v n → (0 < v) × Good k bytes v n) → (0 < value) × Good (suc k) (b ∷ bytes) value size
    go true z l low d ih = let z : ◌≡◌ {A = ℕ} 0 1 = cc in absurd (omega arith)
    go false z true low d ih =
        let ev : b ≡ value = cc in
        let en : 1 ≡ size = cc in
        let p : b ≡ 0 → ⊥ = eqb-false b 0 z in
        rw (← ev, ← en) (omega arith, good_single k b bytes (ltb-true b 128 low))
    go false z false low d ih = good_found k b value size bytes (ltb-false b 128 low) (all 0) (later k bytes) d ih

-- A good number's bytes are the form of its value.
pub number_good : (bytes : List ℕ) (value size : ℕ) → AllBelow 256 bytes → number bytes ≡ good value size → Good 4 bytes value size
unfolding number
number_good [] value size all e = let z : ◌≡◌ {A = ℕ} 0 1 = cc in absurd (omega arith)
number_good (b ∷ bytes) value size all e = go (ltb b 128) refl e
  where
    go : (l : Bool) → ltb b 128 ≡ l → cond l (good b 1) (above (b - 128) (later 3 bytes)) ≡ good value size → Good 4 (b ∷ bytes) value size
    go true low d =
        let ev : b ≡ value = cc in
        let en : 1 ≡ size = cc in
        rw (← ev, ← en) (good_single 3 b bytes (ltb-true b 128 low))
    go false low d = (good_found 3 b value size bytes (ltb-false b 128 low) (all 0) (later 3 bytes) d (λ v n f. later_good 3 bytes v n (λ i. all (suc i)) f)).1

-- The form of a number that was read is the front of the bytes that it was read from.
pub form-number : (bytes : List ℕ) (value size : ℕ) → AllBelow 256 bytes → number bytes ≡ good value size → form value ≡ take size bytes
form-number bytes value size all e =
    let g = number_good bytes value size all e in
    sym (ap (take size) (sym g.whole) ∙ take_at (form value) (drop size bytes) size g.length_is)
