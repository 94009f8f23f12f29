-- What is written in a text is read of it.
use mathlib.Core.Path.{◌≡◌, refl, sym, ap, ◌∙◌}
use mathlib.Core.Bool.{Bool, true, false, cond}
use mathlib.Core.List.{List, [], ◌∷◌, ◌++◌, append_assoc, append-nil}
use Prim.Native.Nat.{ℕ, zero, suc, ◌+◌, ◌-◌, ◌*◌, ◌^◌, ◌≤◌, ◌<◌}
use native.Mathlib.Nat.{pow-suc, pow-le-pow_right}
use native.Mathlib.Omega.{arith}
use native.Mathlib.Numerals.{add-one}
use lib.Dec.{leb, eqb}
use lib.ListN.{length, drop, length-append, length-drop}
use lib.Seq.{drop-drop, drop-append_seam, append_snoc}
use borrow.Author.Tests.{leb-true, leb-false, le-leb, eq-eqb, ne_eqb}
use Rattle.rooms.specs.Table.{most_nodes}
use Rattle.schedules.specs.Sizes.{is_size}
use Rattle.schedules.specs.Text.{byte_at, space, newline, is_digit, Step, good, bad, malformed, follow, byte, digits, number, field, line}
use Rattle.schedules.specs.Schedule.{in_range, judged, whole, Lines, lines_from, lines_of}
use Rattle.schedules.specs.Written.{Decimal, digit, LineText, Written, LinesPass}
use Rattle.schedules.specs.Written as written
use Rattle.rooms.proofs.Fronts.{stands}
use Rattle.schedules.proofs.SizeLaws.{size_most}
use Rattle.schedules.proofs.LineLaws.{range_is}
use Rattle.schedules.proofs.LineLoop.{lines_from-end, lines_from_some}
use Rattle.schedules.specs.declared.Entry.{Entry}

-- ---- Digits

-- Behind what stands at a place comes the rest.
behind : (text : List ℕ) (at : ℕ) (s rest : List ℕ) → drop at text ≡ s ++ rest → drop (at + length s) text ≡ rest
behind text at s rest d = sym (drop-drop (length s) at text) ∙ ap (drop (length s)) d ∙ drop-append_seam s rest

digit_is : (d : ℕ) → d < 10 → is_digit (48 + d) ≡ true
digit_is d h = rw (le-leb 48 (48 + d) (omega arith), le-leb (48 + d) 57 (omega arith))

-- One digit more is read, and none where the next byte is no digit.
digits_next : (most value d : ℕ) (text : List ℕ) (at : ℕ) (rest : List ℕ) → d < 10 → drop at text ≡ (48 + d) ∷ rest
    → digits (suc most) value text at ≡ digits most (value * 10 + d) text (at + 1)
unfolding digits
digits_next most value d text at rest h e =
    let s = stands text at (48 + d) rest e in
    let v : 48 + d - 48 ≡ d = omega arith in
    rw (s.is, digit_is d h, v, add-one)

digits-end : (most value : ℕ) (text : List ℕ) (at : ℕ) → is_digit (byte_at text at) ≡ false → digits most value text at ≡ good value at
unfolding digits
digits-end zero value text at e = refl
digits-end (suc most) value text at e = rw e

-- All digits of a number are read, where at least so many may come.
digits_all : {v : ℕ} {s : List ℕ} → Decimal v s → (text : List ℕ) (at most : ℕ) (rest : List ℕ) → drop at text ≡ s ++ rest
    → digits (length s + most) 0 text at ≡ digits most v text (at + length s)
digits_all (digit d h) text at most rest e =
    let n : 1 + most ≡ suc most = omega arith in
    let v : 0 * 10 + d ≡ d = omega arith in
    rw n (digits_next most 0 d text at rest h e ∙ ap (λ (x : ℕ). digits most x text (at + 1)) v)
digits_all (written.more n d s k some h) text at most rest e =
    let front : drop at text ≡ s ++ ((48 + d) ∷ rest) = e ∙ append_snoc s (48 + d) rest in
    let l : length (s ++ ((48 + d) ∷ [])) + most ≡ length s + suc most = omega (arith, length-append s ((48 + d) ∷ [])) in
    let p : at + length (s ++ ((48 + d) ∷ [])) ≡ at + length s + 1 = omega (arith, length-append s ((48 + d) ∷ [])) in
    rw (l, p) (digits_all k text at (suc most) ((48 + d) ∷ rest) front ∙ digits_next most n d text (at + length s) rest h (behind text at s ((48 + d) ∷ rest) front))

-- ---- Decimals

-- The first digit: only 0 itself begins with 0.
record Head (v : ℕ) (s : List ℕ) : Type 0 where
  d : ℕ
  small : d < 10
  rest : List ℕ
  is : s ≡ (48 + d) ∷ rest
  some : 1 ≤ v → 1 ≤ d

head : {v : ℕ} {s : List ℕ} → Decimal v s → Head v s
head (digit d h) = record { d = d; small = h; rest = []; is = refl; some = λ k. k }
head (written.more n d s k some h) =
    let f = head k in
    record {
      d = f.d;
      small = f.small;
      rest = f.rest ++ ((48 + d) ∷ []);
      is = ap (λ (l : List ℕ). l ++ ((48 + d) ∷ [])) f.is;
      some = λ _. f.some some;
    }

zero_is : {v : ℕ} {s : List ℕ} → Decimal v s → v ≡ 0 → s ≡ 48 ∷ []
zero_is (digit d h) z = rw z
zero_is (written.more n d s k some h) z = absurd (omega arith)

-- As many digits as there are need a number as large.
digits_le : {v : ℕ} {s : List ℕ} → Decimal v s → 1 ≤ v → 10 ^ length s ≤ v * 10
digits_le (digit d h) some = omega arith
digits_le (written.more n d s k n_some h) some =
    let l : length (s ++ ((48 + d) ∷ [])) ≡ suc (length s) = omega (arith, length-append s ((48 + d) ∷ [])) in
    rw (l, pow-suc 10 (length s)) (omega (arith, digits_le k n_some))

four : {v : ℕ} {s : List ℕ} → Decimal v s → 1 ≤ v → v ≤ 9999 → length s ≤ 4
four {v} {s} k some h = go (leb (length s) 4) refl
  where
    go : (t : Bool) → leb (length s) 4 ≡ t → length s ≤ 4
    go true q = leb-true (length s) 4 q
    go false q = absurd (omega (arith, digits_le k some, pow-le-pow_right {n = 10} (omega arith) {i = 5} {j = length s} (leb-false (length s) 4 q)))

-- ---- Numbers, fields and lines

number-written : {v : ℕ} {s : List ℕ} → Decimal v s → v ≤ 9999 → (text : List ℕ) (at c : ℕ) (rest : List ℕ) → drop at text ≡ s ++ (c ∷ rest) → is_digit c ≡ false
    → number text at ≡ good v (at + length s)
unfolding number
number-written {v} {s} k h text at c rest e n = go (leb 1 v) refl
  where
    ends : is_digit (byte_at text (at + length s)) ≡ false
    ends = rw (stands text (at + length s) c rest (behind text at s (c ∷ rest) e)).is n

    go : (t : Bool) → leb 1 v ≡ t → cond (eqb (byte_at text at) 48) (good 0 (suc at)) (cond (is_digit (byte_at text at)) (digits 4 0 text at) (bad malformed)) ≡ good v (at + length s)
    go true q =
        let some = leb-true 1 v q in
        let f = head k in
        let st = stands text at (48 + f.d) (f.rest ++ (c ∷ rest)) (e ∙ ap (λ (l : List ℕ). l ++ (c ∷ rest)) f.is) in
        let few = four k some h in
        let m : 4 ≡ length s + (4 - length s) = omega arith in
        let read : digits 4 0 text at ≡ good v (at + length s) =
        ap (λ (x : ℕ). digits x 0 text at) m ∙ digits_all k text at (4 - length s) (c ∷ rest) e ∙ digits-end (4 - length s) v text (at + length s) ends in
        rw (st.is, ne_eqb (48 + f.d) 48 (λ z. omega (arith, f.some some)), digit_is f.d f.small) read
    go false q =
        let z : v ≡ 0 = omega (arith, leb-false 1 v q) in
        let is = zero_is k z in
        let st = stands text at 48 (c ∷ rest) (e ∙ ap (λ (l : List ℕ). l ++ (c ∷ rest)) is) in
        let p : at + length s ≡ suc at = omega (arith, ap length is) in
        rw (st.is, z, p)

record Reached (text : List ℕ) (next : ℕ) (rest : List ℕ) {A : Type 0} (step : Step A) (value : A) : Type 0 where
  good_so : step ≡ good value next
  bytes : drop next text ≡ rest

field-written : (end : ℕ) {v : ℕ} {s : List ℕ} → Decimal v s → v ≤ 9999 → is_digit end ≡ false → (text : List ℕ) (at : ℕ) (rest : List ℕ) → drop at text ≡ s ++ (end ∷ rest)
    → Reached text (suc (at + length s)) rest (field end text at) v
unfolding field follow byte
field-written end {v} {s} k h n text at rest e =
    let st = stands text (at + length s) end rest (behind text at s (end ∷ rest) e) in
    record { good_so = rw (number-written k h text at end rest e n, st.is, eq-eqb end end refl); bytes = st.next }

-- A line of numbers that are small enough.
pub record LineReached (text : List ℕ) (at : ℕ) (e : Entry) (rest : List ℕ) : Type 0 where
  pub next : ℕ
  pub good_so : line text at ≡ good e next
  pub bytes : drop next text ≡ rest

pub line-written : (e : Entry) (s : List ℕ) → LineText e s → e.parent ≤ 9999 → e.amperes ≤ 9999 → e.volts ≤ 9999 → (text : List ℕ) (at : ℕ) (rest : List ℕ)
    → drop at text ≡ s ++ rest → LineReached text at e rest
unfolding line follow
line-written e s l hp ha hv text at rest d =
    let first : drop at text ≡ l.parent ++ (space ∷ (l.amperes ++ (space ∷ (l.volts ++ (newline ∷ rest))))) =
    d ∙ ap (λ (x : List ℕ). x ++ rest) l.is ∙ simp append_assoc in
    let p = field-written space l.parent_is hp refl text at _ first in
    let a = field-written space l.amperes_is ha refl text (suc (at + length l.parent)) _ p.bytes in
    let v = field-written newline l.volts_is hv refl text (suc (suc (at + length l.parent) + length l.amperes)) _ a.bytes in
    record {
      next = suc (suc (suc (at + length l.parent) + length l.amperes) + length l.volts);
      good_so = rw (p.good_so, a.good_so, v.good_so);
      bytes = v.bytes;
    }

-- A line has a byte at least.
pub line_size : (e : Entry) (s : List ℕ) → LineText e s → 1 ≤ length s
line_size e s l = omega (arith, ap length l.is, length-append l.parent (space ∷ (l.amperes ++ (space ∷ (l.volts ++ (newline ∷ []))))))

judged-passed : (place : ℕ) (s : Step Entry) (e : Entry) (next : ℕ) → s ≡ good e next → is_size e.amperes ≡ true → in_range place e ≡ true → judged place s ≡ good e next
unfolding judged
judged-passed place s e next g a b = rw (g, a, b)

-- ---- All lines

-- Lines in front of others, entry by entry.
abbrev pub ahead : List Entry → Lines → Lines
ahead entries l = record { entries = entries ++ l.entries; ending = l.ending }

-- Lines that pass were read: as many places on the others follow, of which so many may come.
pub record FrontRead (entries : List Entry) (most : ℕ) (text : List ℕ) (place at : ℕ) (rest : List ℕ) : Type 0 where
  pub next : ℕ
  pub bytes : drop next text ≡ rest
  pub left : ℕ
  pub place' : ℕ
  pub further : place' ≡ place + length entries
  pub few : place' ≤ most_nodes
  pub enough : most_nodes < place' + left
  pub is : lines_from most text place at ≡ ahead entries (lines_from left text place' next)

pub front-written : {entries : List Entry} {own : List ℕ} → Written entries own → (place : ℕ) → LinesPass place entries → (most : ℕ) (text : List ℕ) (at : ℕ) (rest : List ℕ)
    → drop at text ≡ own ++ rest → place ≤ most_nodes → most_nodes < place + most → FrontRead entries most text place at rest
front-written written.none place p most text at rest d h k =
    record { next = at; bytes = d; left = most; place' = place; further = omega arith; few = h; enough = k; is = refl }
front-written (written.line e others s t l w) place (written.more a b p) zero text at rest d h k = absurd (omega arith)
front-written (written.line e others s t l w) place (written.more a b p) (suc most) text at rest d h k =
    let r = range_is place e b in
    let front : drop at text ≡ s ++ (t ++ rest) = d ∙ append_assoc s t rest in
    let one = line-written e s l (omega (arith, r.parent, r.few)) (omega (arith, size_most e.amperes a)) (omega (arith, r.most)) text at (t ++ rest) front in
    let there : at < length text = omega (arith, length-drop at text, ap length front, length-append s (t ++ rest), line_size e s l) in
    let behind_it = front-written w (suc place) p most text one.next rest one.bytes r.few (omega arith) in
    record {
      next = behind_it.next;
      bytes = behind_it.bytes;
      left = behind_it.left;
      place' = behind_it.place';
      further = omega (arith, behind_it.further);
      few = behind_it.few;
      enough = behind_it.enough;
      is = lines_from_some most text place at there ∙ rw (judged-passed place (line text at) e one.next one.good_so a b, behind_it.is);
    }

-- A text that is lines that pass, and nothing else.
pub lines-written : {entries : List Entry} {text : List ℕ} → Written entries text → LinesPass 0 entries → lines_of text ≡ record { entries = entries; ending = whole }
lines-written {entries} {text} w p =
    let f = front-written w 0 p (suc most_nodes) text 0 [] (sym (append-nil text)) (omega arith) (omega arith) in
    let ended : length text ≤ f.next = omega (arith, length-drop f.next text, ap length f.bytes) in
    f.is ∙ ap (ahead entries) (lines_from-end f.left text f.place' f.next ended) ∙ rw append-nil
