-- What is read of a text is what is written in it.
use mathlib.Core.Path.{◌≡◌, refl, sym, ap, ◌∙◌}
use mathlib.Core.Bool.{Bool, true, false, cond}
use mathlib.Core.List.{List, [], ◌∷◌, ◌++◌, append_assoc, append-nil}
use Prim.Native.Nat.{ℕ, zero, suc, ◌+◌, ◌-◌, ◌*◌, ◌^◌, ◌≤◌, ◌<◌}
use native.Mathlib.Nat.{suc-ne-zero, le_trans, mul_assoc, mul-le-mul_right, le-mul_of_pos_right, pow-succ', pow-le-pow_right}
use native.Mathlib.Omega.{arith}
use lib.Dec.{eqb, leb, ltb}
use lib.ListN.{length, drop, get_or-eq_default, drop_of_length-le}
use lib.Seq.{drop-cons, append_snoc}
use borrow.Author.Tests.{leb-true, leb-false, ltb-true, ltb-false, eqb-true, eqb-false}
use Rattle.rooms.specs.Table.{most_nodes}
use Rattle.schedules.specs.Text.{byte_at, digit_zero, space, newline, is_digit, Step, good, bad, malformed, follow, byte, digits, number, field, line}
use Rattle.schedules.specs.Schedule.{Judgement, judged, whole, onto, lines_from}
use Rattle.schedules.specs.Written.{Decimal, digit, more, LineText, Written}
use Rattle.schedules.specs.Written as written
use Rattle.schedules.proofs.NumberLaws.{digit_range}
use Rattle.schedules.proofs.LineLaws.{passed_is, range_is}
use Rattle.schedules.specs.declared.Entry.{Entry}

-- A byte that is not 0 stands in the text.
stands : (text : List ℕ) (at b : ℕ) → byte_at text at ≡ b → 0 < b → drop at text ≡ b ∷ drop (suc at) text
stands text at b e h = go (ltb at (length text)) refl
  where
    go : (t : Bool) → ltb at (length text) ≡ t → drop at text ≡ b ∷ drop (suc at) text
    go true q = rw (drop-cons text at 0 (ltb-true at (length text) q), e)
    go false q = absurd (omega (arith, get_or-eq_default text 0 (ltb-false at (length text) q)))

-- A number that leaves space for so many digits more is small, and so is the one with a digit more.
small_so : (value most : ℕ) → (value + 1) * 10 ^ most ≤ 10000 → value ≤ 9999
small_so value most fits = omega (arith, fits, le-mul_of_pos_right (value + 1) (pow-le-pow_right {n = 10} (omega arith) {i = 0} {j = most} (omega arith)))

small_next : (value d most : ℕ) → d < 10 → (value + 1) * 10 ^ suc most ≤ 10000 → (value * 10 + d + 1) * 10 ^ most ≤ 10000
small_next value d most h fits =
    let shifted : (value + 1) * 10 * 10 ^ most ≤ 10000 = rw (mul_assoc (value + 1) 10 (10 ^ most), ← pow-succ' 10 most) fits in
    le_trans (mul-le-mul_right (10 ^ most) (omega arith)) shifted

-- Some digits were read: those of a number, from a place to the next.
record Digits (text : List ℕ) (at value next : ℕ) : Type 0 where
  s : List ℕ
  is : Decimal value s
  small : value ≤ 9999
  bytes : drop at text ≡ s ++ drop next text

-- So were some more, behind those of a number that is not 0.
record Further (text : List ℕ) (at next value : ℕ) (front : List ℕ) : Type 0 where
  s : List ℕ
  is : Decimal value (front ++ s)
  small : value ≤ 9999
  bytes : drop at text ≡ s ++ drop next text

digits_read : (most value : ℕ) (text : List ℕ) (at v next : ℕ) (front : List ℕ) → Decimal value front → 1 ≤ value → (value + 1) * 10 ^ most ≤ 10000 → digits most value text at ≡ good v next
    → Further text at next v front
unfolding digits
digits_read zero value text at v next front d h fits e =
    let a : value ≡ v = cc in
    let b : at ≡ next = cc in
    record { s = []; is = rw (append-nil, ← a) d; small = rw (← a) (small_so value zero fits); bytes = rw b }
digits_read (suc most) value text at v next front d h fits e =
    go (is_digit (byte_at text at)) refl e
    (λ k fits f. digits_read most (value * 10 + (byte_at text at - digit_zero)) text (suc at) v next (front ++ (byte_at text at ∷ [])) k (omega arith) fits f)
  where
    go : (t : Bool) → is_digit (byte_at text at) ≡ t
        → cond t (digits most (value * 10 + (byte_at text at - digit_zero)) text (suc at)) (good value at) ≡ good v next
        → (Decimal (value * 10 + (byte_at text at - digit_zero)) (front ++ (byte_at text at ∷ []))
        → (value * 10 + (byte_at text at - digit_zero) + 1) * 10 ^ most ≤ 10000
        → digits most (value * 10 + (byte_at text at - digit_zero)) text (suc at) ≡ good v next
        → Further text (suc at) next v (front ++ (byte_at text at ∷ [])))
        → Further text at next v front
    go true q e further =
        let r = digit_range (byte_at text at) q in
        let b : 48 + (byte_at text at - 48) ≡ byte_at text at = omega arith in
        let raw : Decimal (value * 10 + (byte_at text at - 48)) (front ++ ((48 + (byte_at text at - 48)) ∷ [])) =
        more value (byte_at text at - 48) front d h (omega arith) in
        let one : Decimal (value * 10 + (byte_at text at - 48)) (front ++ (byte_at text at ∷ [])) = rw b at raw in
        let f = further one (small_next value (byte_at text at - 48) most (omega arith) fits) e in
        record {
          s = byte_at text at ∷ f.s;
          is = rw (← append_snoc front (byte_at text at) f.s) f.is;
          small = f.small;
          bytes = stands text at (byte_at text at) refl (omega arith) ∙ ap (λ (l : List ℕ). byte_at text at ∷ l) f.bytes;
        }
    go false q e further =
        let a : value ≡ v = cc in
        let b : at ≡ next = cc in
        record { s = []; is = rw (append-nil, ← a) d; small = rw (← a) (small_so value (suc most) fits); bytes = rw b }

number_read : (text : List ℕ) (at v next : ℕ) → number text at ≡ good v next → Digits text at v next
unfolding number digits
number_read text at v next e = go (eqb (byte_at text at) digit_zero) (is_digit (byte_at text at)) refl refl e
  where
    first : (b : ℕ) → byte_at text at ≡ b → (b ≡ 48 → ⊥) → is_digit b ≡ true → digits 3 (0 * 10 + (b - 48)) text (suc at) ≡ good v next → Digits text at v next
    first b is z d e =
        let r = digit_range b d in
        let same : 48 + (b - 48) ≡ b = omega arith in
        let value : 0 * 10 + (b - 48) ≡ b - 48 = omega arith in
        let raw : Decimal (b - 48) ((48 + (b - 48)) ∷ []) = digit (b - 48) (omega arith) in
        let one : Decimal (b - 48) (b ∷ []) = rw same at raw in
        let f = digits_read 3 (b - 48) text (suc at) v next (b ∷ []) one (some b r z) (omega (arith, r)) (rw value at e) in
        record { s = b ∷ f.s; is = f.is; small = f.small; bytes = stands text at b is (omega arith) ∙ ap (λ (l : List ℕ). b ∷ l) f.bytes }
      where
        some : (b : ℕ) → (48 ≤ b) × (b ≤ 57) → (b ≡ 48 → ⊥) → 1 ≤ b - 48
        some b r z = go (leb 1 (b - 48)) refl
          where
            go : (t : Bool) → leb 1 (b - 48) ≡ t → 1 ≤ b - 48
            go true q = leb-true 1 (b - 48) q
            go false q = absurd (z (omega (arith, leb-false 1 (b - 48) q)))

    go : (z d : Bool) → eqb (byte_at text at) digit_zero ≡ z → is_digit (byte_at text at) ≡ d
        → cond z (good 0 (suc at)) (cond d (cond d (digits 3 (0 * 10 + (byte_at text at - digit_zero)) text (suc at)) (good 0 at)) (bad malformed)) ≡ good v next
        → Digits text at v next
    go true d p q e =
        let a : 0 ≡ v = cc in
        let b : suc at ≡ next = cc in
        let zero_digit : Decimal 0 (48 ∷ []) = digit 0 (omega arith) in
        record { s = 48 ∷ []; is = rw (← a) zero_digit; small = omega (arith, a); bytes = rw (← b) (stands text at 48 (eqb-true (byte_at text at) 48 p) (omega arith)) }
    go false true p q e = first (byte_at text at) refl (eqb-false (byte_at text at) 48 p) q e
    go false false p q e = absurd (suc-ne-zero 0 (cc))

-- What follows a good step came to something only after it.
record Took {A B : Type 0} (s : Step A) (k : A → ℕ → Step B) (b : B) (j : ℕ) : Type 0 where
  got : A
  at : ℕ
  first : s ≡ good got at
  rest : k got at ≡ good b j

took : {A B : Type 0} (s : Step A) (k : A → ℕ → Step B) (b : B) (j : ℕ) → follow s k ≡ good b j → Took s k b j
unfolding follow
took (good a i) k b j e = record { got = a; at = i; first = refl; rest = e }
took (bad malformed) k b j e = absurd (suc-ne-zero 0 (cc))

byte_read : (b : ℕ) (text : List ℕ) (at v next : ℕ) → byte b text at ≡ good v next → 0 < b → drop at text ≡ b ∷ drop next text
unfolding byte
byte_read b text at v next e h = go (eqb (byte_at text at) b) refl e
  where
    go : (t : Bool) → eqb (byte_at text at) b ≡ t → cond t (good b (suc at)) (bad malformed) ≡ good v next → drop at text ≡ b ∷ drop next text
    go true q e = let a : suc at ≡ next = cc in rw (← a) (stands text at b (eqb-true (byte_at text at) b q) h)
    go false q e = absurd (suc-ne-zero 0 (cc))

-- A number with the byte behind it.
record Field (end : ℕ) (text : List ℕ) (at value next : ℕ) : Type 0 where
  s : List ℕ
  is : Decimal value s
  small : value ≤ 9999
  bytes : drop at text ≡ s ++ (end ∷ drop next text)

field_read : (end : ℕ) (text : List ℕ) (at v next : ℕ) → 0 < end → field end text at ≡ good v next → Field end text at v next
unfolding field
field_read end text at v next h e =
    let n = took (number text at) _ v next e in
    let b = took (byte end text n.at) _ v next n.rest in
    go n.got n.at b.at (number_read text at n.got n.at n.first) (byte_read end text n.at b.got b.at b.first h) b.rest
  where
    go : (value i j : ℕ) → Digits text at value i → drop i text ≡ end ∷ drop j text → ◌≡◌ {A = Step ℕ} (good value j) (good v next) → Field end text at v next
    go value i j d b e =
        let same : value ≡ v = cc in
        let place : j ≡ next = cc in
        rw (← same, ← place) (record { s = d.s; is = d.is; small = d.small; bytes = d.bytes ∙ ap (λ (l : List ℕ). d.s ++ l) b })

-- A line.
pub record LineRead (text : List ℕ) (at : ℕ) (e : Entry) (next : ℕ) : Type 0 where
  pub s : List ℕ
  pub is : LineText e s
  pub parent_most : e.parent ≤ 9999
  pub amperes_most : e.amperes ≤ 9999
  pub volts_most : e.volts ≤ 9999
  pub bytes : drop at text ≡ s ++ drop next text

pub line_read : (text : List ℕ) (at : ℕ) (e : Entry) (next : ℕ) → line text at ≡ good e next → LineRead text at e next
unfolding line
line_read text at e next l =
    let p = took (field space text at) _ e next l in
    let a = took (field space text p.at) _ e next p.rest in
    let v = took (field newline text a.at) _ e next a.rest in
    go p.got a.got v.got p.at a.at v.at
    (field_read space text at p.got p.at (omega arith) p.first)
    (field_read space text p.at a.got a.at (omega arith) a.first)
    (field_read newline text a.at v.got v.at (omega arith) v.first)
    v.rest
  where
    go : (parent amperes volts i j k : ℕ) → Field space text at parent i → Field space text i amperes j → Field newline text j volts k
        → ◌≡◌ {A = Step Entry} (good (record { parent = parent; amperes = amperes; volts = volts }) k) (good e next) → LineRead text at e next
    go parent amperes volts i j k p a v l =
        let same : record { parent = parent; amperes = amperes; volts = volts } ≡ e = cc in
        let place : k ≡ next = cc in
        rw (← same, ← place)
        (record {
          s = p.s ++ (space ∷ (a.s ++ (space ∷ (v.s ++ (newline ∷ [])))));
          is = record {
            parent = p.s;
            amperes = a.s;
            volts = v.s;
            parent_is = p.is;
            amperes_is = a.is;
            volts_is = v.is;
            is = refl;
          };
          parent_most = p.small;
          amperes_most = a.small;
          volts_most = v.small;
          bytes = p.bytes ∙ rw (a.bytes, v.bytes) (sym (simp append_assoc));
        })

-- All lines, where they end with the text.
pub lines_read : (most : ℕ) (text : List ℕ) (place at : ℕ) → place ≤ most_nodes → most_nodes < place + most → (lines_from most text place at).ending ≡ whole
    → Written (lines_from most text place at).entries (drop at text)
unfolding lines_from
lines_read zero text place at h k e = absurd (omega arith)
lines_read (suc most) text place at h k e =
    go (leb (length text) at) refl (judged place (line text at)) refl e (λ next l f. lines_read most text (suc place) next l (omega arith) f)
  where
    go : (t : Bool) → leb (length text) at ≡ t → (j : Judgement) → judged place (line text at) ≡ j
        → (cond t (record { entries = []; ending = whole }) (onto j (λ next. lines_from most text (suc place) next))).ending ≡ whole
        → ((next : ℕ) → suc place ≤ most_nodes → (lines_from most text (suc place) next).ending ≡ whole
        → Written (lines_from most text (suc place) next).entries (drop next text))
        → Written (cond t (record { entries = []; ending = whole }) (onto j (λ next. lines_from most text (suc place) next))).entries (drop at text)
    go true q j r e further = rw (drop_of_length-le text (leb-true (length text) at q)) written.none
    go false q (good x next) r e further =
        let p = passed_is place (line text at) x next r in
        let one = line_read text at x next p.is in
        let rest = further next (range_is place x p.range).few e in
        rw one.bytes (written.line x (lines_from most text (suc place) next).entries one.s (drop next text) one.is rest)
    go false q (bad refusal) r e further = absurd (suc-ne-zero 0 (cc))
